-- In which order filters come.
use Rattle.std.specs.Prelude.{◌≡◌, ◌<◌, ◌++◌, ℕ, List, [], ◌∷◌, length}
use Rattle.std.specs.List.{Contains}
use Rattle.graph_plan.specs.declared.plan.Edge.{Edge}
use Rattle.graph_plan.specs.declared.plan.Source.TheVariants as from
use Rattle.graph_plan.specs.declared.plan.Target.TheVariants as to

-- a link leads from the one filter to the other
abbrev pub Feeds : List Edge → ℕ → ℕ → Type 0
Feeds links giver taker = (out_pad in_pad : ℕ) × Contains links (record { from = from.Filter giver out_pad; to = to.Filter taker in_pad })

-- links lead from the one filter to the other, one after another
pub data LeadsTo (feeds : ℕ → ℕ → Type 0) (taker : ℕ) : ℕ → Type 0 where
  Directly : (giver : ℕ) → feeds giver taker → LeadsTo feeds taker giver
  Through : (giver middle : ℕ) → feeds giver middle → LeadsTo feeds taker middle → LeadsTo feeds taker giver

abbrev pub Reaches : (ℕ → ℕ → Type 0) → ℕ → ℕ → Type 0
Reaches feeds giver taker = LeadsTo feeds taker giver

-- all that a filter takes from is among these
abbrev pub IsReady : (ℕ → ℕ → Type 0) → List ℕ → ℕ → Type 0
IsReady feeds done taker = (giver : ℕ) → feeds giver taker → Contains done giver

-- after those that are done come these, each the lowest that can come
abbrev pub Comes : (ℕ → ℕ → Type 0) → ℕ → List ℕ → List ℕ → Type 0
Comes feeds count done [] = length done ≡ count
Comes feeds count done (filter ∷ filters) = (filter < count) × (¬ Contains done filter) × IsReady feeds done filter
    × ((other : ℕ) → other < filter → ¬ Contains done other → ¬ IsReady feeds done other) × Comes feeds count (done ++ filter ∷ []) filters

-- all filters, each time the lowest that takes only from files and from filters before it
abbrev pub IsOrder : (ℕ → ℕ → Type 0) → ℕ → List ℕ → Type 0
IsOrder feeds count order = Comes feeds count [] order

-- links lead only to and from these filters
pub record AreBelow (feeds : ℕ → ℕ → Type 0) (count : ℕ) : Type 0 where
  pub givers : (giver taker : ℕ) → feeds giver taker → giver < count
  pub takers : (giver taker : ℕ) → feeds giver taker → taker < count

-- there is at most one order, and there is one exactly if no filter reaches itself
pub record OneOrder : Type 0 where
  pub one_order : (links : List Edge) (count : ℕ) (a b : List ℕ) → IsOrder (Feeds links) count a → IsOrder (Feeds links) count b → a ≡ b
  pub no_cycle : (links : List Edge) (count filter : ℕ) (order : List ℕ) → AreBelow (Feeds links) count → IsOrder (Feeds links) count order
      → Reaches (Feeds links) filter filter → ⊥
  pub an_order : (links : List Edge) (count : ℕ) → AreBelow (Feeds links) count → ((filter : ℕ) → ¬ Reaches (Feeds links) filter filter)
      → (order : List ℕ) × IsOrder (Feeds links) count order
