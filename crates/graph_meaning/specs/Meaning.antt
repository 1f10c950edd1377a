-- What the filters of a graph, composed as functions on whole streams, give. This project's own.
use Rattle.std.specs.Prelude.{◌≡◌, ℕ, zero, suc, ◌<◌, List, [], map, length, slice_get, slice_index_or, Some}
use Rattle.av_base.specs.declared.shapes.Shape.{Shape}
use Rattle.av_frame.specs.Streams.{Stream, Streams, open_stream, nothing_more}
use Rattle.graph_plan.specs.declared.plan.Source.{Source}
use Rattle.graph_plan.specs.declared.plan.Source.TheVariants.{Input, Filter}

-- A node: the function of its filter on whole streams, where each of its inputs takes from, how many outputs it has, and the
-- shapes of its frames.
pub record PlanNode : Type 0 where
  pub rule : Streams → Streams
  pub ins : List Source
  pub outputs : ℕ
  pub in_shape : ℕ → Shape
  pub out_shape : ℕ → Shape

-- the node with this number
abbrev pub NodeIs : List PlanNode → ℕ → PlanNode → Type 0
NodeIs plan k p = slice_get plan k ≡ Some p

-- an input of a node takes from there
abbrev pub TakesFrom : PlanNode → ℕ → Source → Type 0
TakesFrom p i s = slice_get p.ins i ≡ Some s

-- the stream of a link that begins there, by what was fed and what each node gives
abbrev pub source_of : Streams → (ℕ → Streams) → Source → Stream
source_of fed gives (Input m) = fed m
source_of fed gives (Filter k o) = gives k o

-- the streams of a node's inputs
abbrev pub sources : Streams → (ℕ → Streams) → List Source → Streams
sources fed gives ins = λ i. slice_index_or (map (source_of fed gives) ins) i (open_stream [])

-- Each node's function on the streams of its inputs, once.
abbrev pub once : List PlanNode → Streams → (ℕ → Streams) → ℕ → Streams
once plan fed gives = λ k. slice_index_or (map (λ (p : PlanNode). p.rule (sources fed gives p.ins)) plan) k nothing_more

abbrev pub rounds : ℕ → List PlanNode → Streams → ℕ → Streams
rounds zero plan fed = λ k. nothing_more
rounds (suc n) plan fed = once plan fed (rounds n plan fed)

-- WHAT A GRAPH GIVES: the stream of each output of each node, by the streams of the graph's inputs. No node takes from itself,
-- over whatever links, so that no path has more nodes than there are. After as many rounds nothing changes any more.
abbrev pub den : List PlanNode → Streams → ℕ → Streams
den plan fed = rounds (length plan) plan fed

-- the stream of a link that begins there
abbrev pub stream_at : List PlanNode → Streams → Source → Stream
stream_at plan fed s = source_of fed (den plan fed) s

-- these streams agree with the function of each node
abbrev pub Agrees : List PlanNode → Streams → (ℕ → Streams) → Type 0
Agrees plan fed gives = (k : ℕ) (p : PlanNode) → NodeIs plan k p → (o : ℕ) → o < p.outputs → gives k o ≡ p.rule (sources fed gives p.ins) o
