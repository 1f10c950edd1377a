-- What is made of each frame is the frame.
use Rattle.std.proofs.Common.{◌≡◌, ◌+◌, ◌-◌, ◌≤◌, ℕ, List, [], ◌∷◌, ◌++◌, map, refl, sym, ◌∙◌, ap, subst, arith, append_assoc}
use Rattle.std.specs.List.{range_with_len}
use Rattle.std.proofs.lemmas.List.{append-nil}
use Rattle.std.proofs.lemmas.List.FromFn.{map-range_with_len_more}
use mathlib.Core.Path.{fun_ext}
use Rattle.av_base.specs.declared.shapes.Shape.{Shape}
use Rattle.av_frame.specs.Frames.{FrameValue}
use Rattle.av_frame.specs.Streams.{Stream, Streams}
use Rattle.av_frame.specs.Rules.{each_rule, each_stream}
use Rattle.av_frame.specs.FilterLaws.{Pads, IsNew}
use Rattle.filt_fan.specs.Splits.{split_rule}

map_same : (xs : List FrameValue) → map (λ x. x) xs ≡ xs
map_same [] = refl
map_same (x ∷ xs) = ap (λ (l : List FrameValue). x ∷ l) (map_same xs)

each_same : (s : Stream) → each_stream (λ x. x) s ≡ s
each_same s = ap (λ (l : List FrameValue). let t : Stream = record { frames = l; ended = s.ended } in t) (map_same s.frames)

rule_is : (let r : Streams → Streams = each_rule (λ _ x. x) in r) ≡ split_rule
rule_is = fun_ext (λ ins. fun_ext (λ o. each_same (ins 0)))

pub new_split : (p : Pads) (rest : Streams → Streams) (accepts : ℕ → FrameValue → Type 0) (pads : Pads) (i o : ℕ → Shape)
    → IsNew p rest accepts pads (each_rule (λ _ x. x)) i o → IsNew p rest accepts pads split_rule i o
new_split p rest accepts pads i o new = subst (λ (r : Streams → Streams). IsNew p rest accepts pads r i o) rule_is new

-- one share more
pub share_more : (old now new : List FrameValue) (x y : FrameValue) (i : ℕ) → 1 ≤ i → now ≡ old ++ map (λ (_ : ℕ). x) (range_with_len 1 (i - 1)) → y ≡ x → new ≡ now ++ y ∷ []
    → new ≡ old ++ map (λ (_ : ℕ). x) (range_with_len 1 (i + 1 - 1))
share_more old now new x y i h before same pushed =
    let n : i + 1 - 1 ≡ (i - 1) + 1 = omega (arith, h) in
    pushed
    ∙ (ap (λ (z : FrameValue). now ++ z ∷ []) same
    ∙ (ap (λ (z : List FrameValue). z ++ x ∷ []) before
    ∙ (append_assoc old (map (λ (_ : ℕ). x) (range_with_len 1 (i - 1))) (x ∷ [])
    ∙ (ap (λ (z : List FrameValue). old ++ z) (sym (map-range_with_len_more (λ (_ : ℕ). x) 1 (i - 1) i (omega (arith, h))))
    ∙ ap (λ (k : ℕ). old ++ map (λ (_ : ℕ). x) (range_with_len 1 k)) (sym n)))))

pub none_shared : (old : List FrameValue) (x : FrameValue) (i : ℕ) → i ≡ 1 → old ≡ old ++ map (λ (_ : ℕ). x) (range_with_len 1 (i - 1))
none_shared old x i e = rw e (sym (append-nil old))
