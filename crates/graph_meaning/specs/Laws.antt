-- What the nodes and the links of a graph say, and what follows for the whole. This project's own.
use Rattle.std.specs.Prelude.{◌≡◌, ℕ, ◌+◌, ◌<◌, Bool, true, false, List, [], length}
use Rattle.av_frame.specs.Streams.{Streams, Begins, Lawful, AllLawful, open_stream}
use Rattle.graph_meaning.specs.Meaning.{PlanNode, NodeIs, TakesFrom, source_of, sources, den, Agrees}
use Rattle.graph_plan.specs.declared.plan.Source.{Source}
use Rattle.graph_plan.specs.declared.plan.Source.TheVariants.{Input, Filter}

-- A plan: its nodes can be put in a row in which each takes from those before it alone, their functions keep streams lawful, and
-- the two ends of a link have one shape.
pub record IsPlan (plan : List PlanNode) (fed : Streams) : Type 0 where
  -- the place of a node in the row
  pub place : ℕ → ℕ
  pub places : (k : ℕ) (p : PlanNode) → NodeIs plan k p → place k < length plan
  pub there : (k : ℕ) (p : PlanNode) → NodeIs plan k p → (i j o : ℕ) → TakesFrom p i (Filter j o) → (place j < place k) × ((q : PlanNode) × NodeIs plan j q)
  pub lawful : (k : ℕ) (p : PlanNode) → NodeIs plan k p → (asked : Streams) → AllLawful (length p.ins) p.in_shape asked → AllLawful p.outputs p.out_shape (p.rule asked)
  pub fed_lawful : (k : ℕ) (p : PlanNode) → NodeIs plan k p → (i m : ℕ) → TakesFrom p i (Input m) → Lawful (p.in_shape i) (fed m).frames
  pub shapes : (k : ℕ) (p : PlanNode) → NodeIs plan k p → (i j o : ℕ) (q : PlanNode) → TakesFrom p i (Filter j o) → NodeIs plan j q → (o < q.outputs) × (p.in_shape i ≡ q.out_shape o)

-- At every moment: each node gave what begins its function of whatever its inputs become, and was told what begins what was
-- given there.
pub record Says (plan : List PlanNode) (fed : Streams) (given told : ℕ → Streams) : Type 0 where
  pub begins : (k : ℕ) (p : PlanNode) → NodeIs plan k p → (asked : Streams) → AllLawful (length p.ins) p.in_shape asked → ((i : ℕ) → Begins (told k i) (asked i))
      → (o : ℕ) → o < p.outputs → Begins (given k o) (p.rule asked o)
  pub links : (k : ℕ) (p : PlanNode) → NodeIs plan k p → (i : ℕ) → Begins (told k i) (sources fed given p.ins i)

-- At a quiet moment: on outputs whose takers didn't close them each node gave all of it, whatever comes on closed inputs.
pub record SaysAll (plan : List PlanNode) (fed : Streams) (given told : ℕ → Streams) (closing closed : ℕ → ℕ → Bool) : Type 0 where
  pub whole : (k : ℕ) (p : PlanNode) → NodeIs plan k p → (asked : Streams) → AllLawful (length p.ins) p.in_shape asked → ((i : ℕ) → Begins (told k i) (asked i))
      → ((i : ℕ) → closing k i ≡ false → asked i ≡ told k i)
      → (o : ℕ) → o < p.outputs → closed k o ≡ false → p.rule asked o ≡ given k o
  pub drawn : (k : ℕ) (p : PlanNode) → NodeIs plan k p → (i : ℕ) (s : Source) → TakesFrom p i s → closing k i ≡ false → Lawful (p.in_shape i) (source_of fed given s).frames
      → source_of fed given s ≡ told k i
  pub beyond : (k : ℕ) (p : PlanNode) → NodeIs plan k p → (i : ℕ) → length p.ins < i + 1 → (told k i ≡ open_stream [])
  pub closings : (k : ℕ) (p : PlanNode) → NodeIs plan k p → (i j o : ℕ) → TakesFrom p i (Filter j o) → closing k i ≡ false → closed j o ≡ false

-- the wants at a quiet moment
pub record SaysWants (plan : List PlanNode) (fed : Streams) (given told : ℕ → Streams) (closing closed needs asked wanted : ℕ → ℕ → Bool) (input_wanted : ℕ → Bool) : Type 0 where
  pub needs_one : (k : ℕ) (p : PlanNode) → NodeIs plan k p → (o : ℕ) → o < p.outputs → closed k o ≡ false → (given k o).ended ≡ false
      → (i : ℕ) × (i < length p.ins) × (needs k i ≡ true)
  pub asks : (k : ℕ) (p : PlanNode) → NodeIs plan k p → (o : ℕ) → o < p.outputs → wanted k o ≡ true → closed k o ≡ false → (given k o).ended ≡ false
      → (i : ℕ) → i < length p.ins → needs k i ≡ true → (asked k i ≡ true) × (closing k i ≡ false) × ((told k i).ended ≡ false)
  pub hands_over : (k : ℕ) (p : PlanNode) → NodeIs plan k p → (i j o : ℕ) → TakesFrom p i (Filter j o) → asked k i ≡ true → wanted j o ≡ true
  pub hands_in : (k : ℕ) (p : PlanNode) → NodeIs plan k p → (i m : ℕ) → TakesFrom p i (Input m) → asked k i ≡ true → input_wanted m ≡ true

-- The streams of a plan agree with the function of each node, and no others do on any output.
pub record MeaningLaw : Type 0 where
  pub agrees : (plan : List PlanNode) (fed : Streams) → IsPlan plan fed → Agrees plan fed (den plan fed)
  pub alone : (plan : List PlanNode) (fed : Streams) (gives : ℕ → Streams) → IsPlan plan fed → Agrees plan fed gives
      → (k : ℕ) (p : PlanNode) → NodeIs plan k p → (o : ℕ) → o < p.outputs → gives k o ≡ den plan fed k o

abbrev pub PrefixLaw : Type 0
PrefixLaw = (plan : List PlanNode) (fed : Streams) (given told : ℕ → Streams) → IsPlan plan fed → Says plan fed given told
    → (k : ℕ) (p : PlanNode) → NodeIs plan k p → (o : ℕ) → o < p.outputs → Begins (given k o) (den plan fed k o)

-- at a quiet moment each output that its taker didn't close has all that the functions, composed, give
abbrev pub QuietLaw : Type 0
QuietLaw = (plan : List PlanNode) (fed : Streams) (given told : ℕ → Streams) (closing closed : ℕ → ℕ → Bool) → IsPlan plan fed → Says plan fed given told
    → SaysAll plan fed given told closing closed
    → (k : ℕ) (p : PlanNode) → NodeIs plan k p → (o : ℕ) → o < p.outputs → closed k o ≡ false → given k o ≡ den plan fed k o

-- at a quiet moment an output that is wanted, open and not ended leads to an input that is wanted and not ended
abbrev pub WantLaw : Type 0
WantLaw = (plan : List PlanNode) (fed : Streams) (given told : ℕ → Streams) (closing closed needs asked wanted : ℕ → ℕ → Bool) (input_wanted : ℕ → Bool)
    → IsPlan plan fed → Says plan fed given told → SaysAll plan fed given told closing closed → SaysWants plan fed given told closing closed needs asked wanted input_wanted
    → (k : ℕ) (p : PlanNode) → NodeIs plan k p → (o : ℕ) → o < p.outputs → wanted k o ≡ true → closed k o ≡ false → (given k o).ended ≡ false
    → (m : ℕ) × (input_wanted m ≡ true) × ((fed m).ended ≡ false)
