-- A text is one graph or has one fault.
use Rattle.std.specs.Prelude.{◌≡◌, ◌⊎◌, ℕ, List}
use Rattle.av_text.specs.declared.fault.TextKind.{TextKind}
use Rattle.graph_text.specs.Graphs.{IsGraph, IsGraphFault}
use Rattle.graph_text.specs.declared.graph.FilterCall.{FilterCall}

pub record GraphsHaveOneReading : Type 0 where
  pub one_graph : (text : List ℕ) (a b : List FilterCall) → IsGraph text a → IsGraph text b → a ≡ b
  pub one_fault : (text r s : List ℕ) (k l : TextKind) → IsGraphFault text k r → IsGraphFault text l s → (k ≡ l) × (r ≡ s)
  pub not_both : (text s : List ℕ) (a : List FilterCall) (k : TextKind) → IsGraph text a → IsGraphFault text k s → ⊥
  pub one_of_both : (text : List ℕ) → ((calls : List FilterCall) × IsGraph text calls) ⊎ ((kind : TextKind) × (bad : List ℕ) × IsGraphFault text kind bad)
