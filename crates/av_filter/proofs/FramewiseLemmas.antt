-- A filter by a rule, for the shape of its only input.
use Rattle.std.proofs.Common.{◌≡◌, ℕ, List, [], ◌∷◌, subst}
use Rattle.av_base.specs.declared.shapes.Shape.{Shape}
use Rattle.av_frame.specs.Frames.{FrameValue}
use Rattle.av_frame.specs.Streams.{Streams}
use Rattle.av_frame.specs.FilterLaws.{Pads, IsNew, one_to}
use Rattle.av_frame.specs.Rules.{each_rule}
use Rattle.av_filter.specs.Meanings.{PlacedValue}

-- the shape of the only input
pub same_only : {ins : List Shape} {s t : Shape} → ins ≡ s ∷ [] → ins ≡ t ∷ [] → t ≡ s
same_only e f = cc

-- a new filter by a rule, said of the same rule
pub placed_new : {T : Type 0} (pads : Pads) (rest : Streams → Streams) (accepts : ℕ → FrameValue → Type 0) (made : T → FrameValue → FrameValue) (shape : T → Shape → Shape) (p q : PlacedValue T)
    → p ≡ q → IsNew pads rest accepts (one_to 1) (each_rule (λ _. made p.rule)) (λ _. p.shape) (λ _. shape p.rule p.shape)
    → IsNew pads rest accepts (one_to 1) (each_rule (λ _. made q.rule)) (λ _. q.shape) (λ _. shape q.rule q.shape)
placed_new {T} pads rest accepts made shape p q e h =
    subst (λ (k : PlacedValue T). IsNew pads rest accepts (one_to 1) (each_rule (λ _. made k.rule)) (λ _. k.shape) (λ _. shape k.rule k.shape)) e h
