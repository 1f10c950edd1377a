-- Paths of filters, each ready for what the one before it gives.
use Rattle.std.specs.Prelude.{◌≡◌, ℕ, ℤ, Bool, ◌≤ℤ◌, List, [], ◌∷◌}
use Rattle.av_base.specs.declared.shapes.Shape.{Shape}
use Rattle.av_frame.specs.Frames.{FrameValue}
use Rattle.av_frame.specs.FilterLaws.{Pads, one_to}
use Rattle.av_base.specs.Shapes.{IsPictureShape}
use Rattle.av_frame.specs.Rules.{each_stream}
use Rattle.av_frame.specs.Streams.{Streams, Rises}
use Rattle.graph_text.specs.declared.graph.FilterCall.{FilterCall}
use Rattle.graph_plan.specs.declared.plan.Edge.{Edge}
use Rattle.node_core.specs.declared.kind.Kind.{Kind}
use Rattle.node_core.specs.Shaping.{ReadyValue, Takes, IsReady, given, made_by}
use Rattle.node_core.specs.Filters.{frame_filters}
use Rattle.node_core.specs.Kinds.{IsKind}

-- the call means a filter that takes pictures of the shape, and this is that filter, configured for them
pub record IsReadied (call : FilterCall) (s : Shape) (ready : ReadyValue) : Type 0 where
  pub kind : Kind
  pub is_kind : IsKind call kind
  pub picture : IsPictureShape s
  pub takes : Takes kind s.format
  pub is_ready : IsReady kind s ready

-- a filter on a path: its number in the graph, and its call
pub record Step : Type 0 where
  pub number : ℕ
  pub call : FilterCall

-- what frames flow through: the calls of the graph, its links, and the filters on the path from the input to the output
pub record Flow : Type 0 where
  pub calls : List FilterCall
  pub links : List Edge
  pub path : List Step

-- the path's filters are ready one after the other, the first for pictures of shape s, and the last gives shape t
abbrev pub AreReady : List Step → Shape → List ReadyValue → Shape → Type 0
AreReady [] s [] t = t ≡ s
AreReady (step ∷ steps) s (ready ∷ readies) t = IsReadied step.call s ready × ((u : Shape) × (ready.outs ≡ u ∷ []) × AreReady steps u readies t)
AreReady steps s readies t = ⊥

-- the frames at the end of a path
abbrev pub through : List ReadyValue → List FrameValue → List FrameValue
through [] frames = frames
through (ready ∷ readies) frames = through readies (given ready frames)

-- the frame at the end of a path for one by itself
abbrev pub passed : List ReadyValue → FrameValue → FrameValue
passed [] frame = frame
passed (ready ∷ readies) frame = passed readies (made_by ready frame)

-- what contracts see of a chain that runs: its filters, the shapes of the frames that it is offered and that it gives,
-- the lowest time that the next frame may have, and whether a frame was rejected, after which no other may come
pub record ChainValue : Type 0 where
  pub readies : List ReadyValue
  pub shape : Shape
  pub end : Shape
  pub next : ℤ
  pub spent : Bool

-- ---- the same by shapes

-- the filters are configured, the first for pictures of shape s, each other for those of the filter before it, and the last
-- gives pictures of shape t
abbrev pub AreLinked : Shape → List ReadyValue → Shape → Type 0
AreLinked s [] t = t ≡ s
AreLinked s (r ∷ rs) t = (r.ins ≡ s ∷ []) × (r.outs ≡ frame_filters.making.shape r.settings s ∷ []) × AreLinked (frame_filters.making.shape r.settings s) rs t

-- ---- instances

-- the first frame isn't before a time
abbrev pub StartsFrom : ℤ → List FrameValue → Type 0
StartsFrom low [] = Unit {0}
StartsFrom low (x ∷ xs) = low ≤ℤ x.pts

-- a filter of one input and one output takes frames of a shape from a time on, and is to give what `made` makes of each
pub record TakesFrom (low : ℤ) (s : Shape) (made : FrameValue → FrameValue) (p : Pads) (rest : Streams → Streams) (accepts : ℕ → FrameValue → Type 0) : Type 0 where
  pub pads : p ≡ one_to 1
  pub rest_is : (ins : Streams) → Rises (ins 0).frames → StartsFrom low (ins 0).frames → rest ins 0 ≡ each_stream made (ins 0)
  pub accepts_all : (x : FrameValue) → x.shape ≡ s → low ≤ℤ x.pts → accepts 0 x

-- The filters of a chain take frames from a time on, the first those of a shape, each other what the filter before it
-- makes; the last makes frames of the shape t. Of a filter v, `pads v`, `rest v` and `accepts v` are what it has.
abbrev pub AllTake : {V : Type 0} (pads : V → Pads) (rest : V → Streams → Streams) (accepts : V → ℕ → FrameValue → Type 0) → ℤ → Shape → List ReadyValue → List V → Shape → Type 0
AllTake pads rest accepts low s [] [] t = t ≡ s
AllTake pads rest accepts low s (r ∷ rs) (v ∷ vs) t =
    TakesFrom low s (made_by r) (pads v) (rest v) (accepts v)
    × ((u : Shape) × ((x : FrameValue) → x.shape ≡ s → (made_by r x).shape ≡ u) × AllTake pads rest accepts low u rs vs t)
AllTake pads rest accepts low s rs vs t = ⊥
