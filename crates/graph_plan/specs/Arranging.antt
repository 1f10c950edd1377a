-- What the steps of arranging filters ensure.
use Rattle.std.specs.Prelude.{◌≡◌, ◌<◌, ◌⊎◌, ◌↔◌, ℕ, List, Bool, Some, true, false, length, slice_index, slice_index_or, Vec}
use Rattle.std.specs.declared.alloc.Global.{Global}
use Rattle.std.specs.List.{slice_get, Contains}
use Rattle.graph_plan.specs.declared.plan.Edge.{Edge}
use Rattle.graph_plan.specs.declared.plan.Source.TheVariants as from
use Rattle.graph_plan.specs.declared.plan.Target.TheVariants as to
use Rattle.graph_plan.specs.declared.order.Arranged.{Arranged}
use Rattle.graph_plan.specs.declared.order.Arranged.TheVariants.{Order, Cycle}
use Rattle.graph_plan.specs.declared.order.Neighbours.{Neighbours}
use Rattle.graph_plan.specs.declared.order.Progress.{Progress}
use Rattle.graph_plan.specs.Orders.{IsOrder, Reaches, Feeds}
use Rattle.av_base.specs.First.{IsFirst}

-- it is the order, or the lowest filter that reaches itself
abbrev pub IsArranged : List Edge → ℕ → Arranged → Type 0
IsArranged links count (Order order) = IsOrder (Feeds links) count order.items
IsArranged links count (Cycle filter) = IsFirst (λ f. Reaches (Feeds links) f f) filter

-- a link from the one filter to the other
abbrev pub Joins : Edge → ℕ → ℕ → Type 0
Joins link giver taker = (out_pad in_pad : ℕ) × (link ≡ record { from = from.Filter giver out_pad; to = to.Filter taker in_pad })

-- if it joins filters, both are below the count
abbrev pub IsBelow : Edge → ℕ → Type 0
IsBelow link count = (giver taker : ℕ) → Joins link giver taker → (giver < count) × (taker < count)

-- ---- filters by the filters that they are linked to

-- the row of this number has the item
abbrev pub Has : List (Vec ℕ Global) → ℕ → ℕ → Type 0
Has rows number item = (row : Vec ℕ Global) × (slice_get rows number ≡ Some row) × Contains row.items item

-- as many rows as given, of numbers below a bound
pub record AreRows (count bound : ℕ) (rows : List (Vec ℕ Global)) : Type 0 where
  pub each : length rows ≡ count
  pub below : (number item : ℕ) → Has rows number item → item < bound

-- the rows of filters below a count: which filters feed each, and which each feeds
pub record AreNeighbours (feeds : ℕ → ℕ → Type 0) (count : ℕ) (neighbours : Neighbours) : Type 0 where
  pub givers_each : length neighbours.givers.items ≡ count
  pub takers_each : length neighbours.takers.items ≡ count
  pub givers : (giver taker : ℕ) → Has neighbours.givers.items taker giver ↔ feeds giver taker
  pub takers : (giver taker : ℕ) → Has neighbours.takers.items giver taker ↔ feeds giver taker

-- ---- how far an order has come

abbrev pub IsMarked : List Bool → ℕ → Type 0
IsMarked marks filter = slice_index_or marks filter false ≡ true

-- all that a filter takes from is done
abbrev pub HasAll : List (Vec ℕ Global) → List Bool → ℕ → Type 0
HasAll givers done taker = (giver : ℕ) → Has givers taker giver → IsMarked done giver

-- a filter's givers before its place are done
pub record IsAlong (givers : List (Vec ℕ Global)) (progress : Progress) : Type 0 where
  pub rows : AreRows (length progress.done.items) (length progress.done.items) givers
  pub places : length progress.next.items ≡ length progress.done.items
  pub passed : (taker : ℕ) (row : Vec ℕ Global) (k : ℕ) → slice_get givers taker ≡ Some row → k < slice_index progress.next.items taker → k < length row.items
      → IsMarked progress.done.items (slice_index row.items k)

-- these are added to the ready filters, if all that they take from is done
pub record AreAdded (givers : List (Vec ℕ Global)) (filters : ℕ → Type 0) (old new : Progress) : Type 0 where
  pub along : IsAlong givers new
  pub same : new.done.items ≡ old.done.items
  pub ready : (filter : ℕ) → Contains new.ready.keys filter ↔ (Contains old.ready.keys filter ⊎ (filters filter × HasAll givers old.done.items filter))

-- ---- marks on the way from a filter

-- these are marked too, and those of them that weren't are put on the stack
pub record AreMarked (filters : ℕ → Type 0) (old new : List Bool) (old_stack new_stack : List ℕ) : Type 0 where
  pub marked : (filter : ℕ) → IsMarked new filter ↔ (IsMarked old filter ⊎ filters filter)
  pub stacked : (filter : ℕ) → Contains new_stack filter ↔ (Contains old_stack filter ⊎ (filters filter × (slice_index_or old filter false ≡ false)))
