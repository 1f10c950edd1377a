-- What each call of a host does to its world.
use Rattle.std.specs.Prelude.{◌≡◌, ◌≢◌, ◌<◌, ◌≤◌, ◌+◌, ℕ, true, false, List, [], ◌++◌, take, drop, length, Option, Some, None, Err, Result}
use Rattle.std.specs.Option.{ForSome}
use Rattle.av_host.specs.World.{World, Inputs, Outputs, Faults}
use Rattle.av_host.specs.Bounds.{last_count}
use Rattle.av_host.specs.declared.host.HostError.{HostError}
use Rattle.av_host.specs.declared.host.HostError.TheVariants.{Failed}

-- one place of a function has this value, and the others stay
pub record ChangesAt {K A : Type 0} (old new : K → A) (key : K) (value : A) : Type 0 where
  pub here : new key ≡ value
  pub elsewhere : (other : K) → other ≢ key → new other ≡ old other

-- A new input, of which this is left.
pub record AddsInput (old new : Inputs) (id : ℕ) (left : Option (List ℕ)) : Type 0 where
  pub is_new : old.is_open id ≡ false
  pub is_open : ChangesAt old.is_open new.is_open id true
  pub rest : ChangesAt old.left new.left id left

-- These first bytes of what was left were taken, and the rest is left.
pub record Takes (old new : Inputs) (id : ℕ) (got : List ℕ) : Type 0 where
  pub is_open : new.is_open ≡ old.is_open
  pub elsewhere : (other : ℕ) → other ≢ id → new.left other ≡ old.left other
  pub left : ForSome (old.left id) (λ left. new.left id ≡ Some (drop (length got) left))
  pub begins : ForSome (old.left id) (λ left. left ≡ got ++ drop (length got) left)

-- A new output of this name, which is empty. An earlier id of the name is no id any more.
pub record AddsOutput (old new : Outputs) (name : List ℕ) (id : ℕ) : Type 0 where
  pub is_new : old.name id ≡ None
  pub here : new.name id ≡ Some name
  pub replaced : (other : ℕ) → other ≢ id → old.name other ≡ Some name → new.name other ≡ None
  pub elsewhere : (other : ℕ) → other ≢ id → old.name other ≢ Some name → new.name other ≡ old.name other
  pub empty : ForSome (old.content name) (λ _. new.content name ≡ Some (Some []))
  pub contents : (other : List ℕ) → other ≢ name → new.content other ≡ old.content other

-- The content of an open output becomes what `change` makes of it.
pub record Alters (old new : Outputs) (id : ℕ) (change : List ℕ → List ℕ) : Type 0 where
  pub name : new.name ≡ old.name
  pub content : (name bytes : List ℕ) → old.name id ≡ Some name
      → old.content name ≡ Some (Some bytes) → new.content name ≡ Some (Some (change bytes))
  pub contents : (other : List ℕ) → old.name id ≢ Some other → new.content other ≡ old.content other

-- the bytes with these at their end
abbrev pub appended : List ℕ → List ℕ → List ℕ
appended piece bytes = bytes ++ piece

-- the bytes with these at this place
abbrev pub patched : ℕ → List ℕ → List ℕ → List ℕ
patched at piece bytes = take at bytes ++ piece ++ drop (at + length piece) bytes

-- Nothing changes except perhaps the counts of faults.
pub record Stays (old new : World) : Type 0 where
  pub held : new.held ≡ old.held
  pub inputs : new.inputs ≡ old.inputs
  pub outputs : new.outputs ≡ old.outputs
  pub said : new.said ≡ old.said

-- A new id, whose rest is what the name holds.
pub record Opens (old new : World) (name : List ℕ) (id : ℕ) : Type 0 where
  pub held : new.held ≡ old.held
  pub inputs : AddsInput old.inputs new.inputs id (old.held name)
  pub outputs : new.outputs ≡ old.outputs
  pub said : new.said ≡ old.said

-- These first bytes of what was left of an open input were taken.
pub record Reads (old new : World) (id : ℕ) (got : List ℕ) : Type 0 where
  pub held : new.held ≡ old.held
  pub inputs : Takes old.inputs new.inputs id got
  pub outputs : new.outputs ≡ old.outputs
  pub said : new.said ≡ old.said

-- A new output of this name, which is empty.
pub record Creates (old new : World) (name : List ℕ) (id : ℕ) : Type 0 where
  pub held : new.held ≡ old.held
  pub inputs : new.inputs ≡ old.inputs
  pub outputs : AddsOutput old.outputs new.outputs name id
  pub said : new.said ≡ old.said

-- The content of one output becomes what `change` makes of it.
pub record Changes (old new : World) (id : ℕ) (change : List ℕ → List ℕ) : Type 0 where
  pub held : new.held ≡ old.held
  pub inputs : new.inputs ≡ old.inputs
  pub outputs : Alters old.outputs new.outputs id change
  pub said : new.said ≡ old.said

-- What was printed has grown by these bytes.
pub record Says (old new : World) (piece : List ℕ) : Type 0 where
  pub held : new.held ≡ old.held
  pub inputs : new.inputs ≡ old.inputs
  pub outputs : new.outputs ≡ old.outputs
  pub said : ForSome old.said (λ said. new.said ≡ Some (said ++ piece))

-- A count has risen. One that is at its last value counts as risen.
pub record Rises (old new : ℕ) : Type 0 where
  pub later : old ≤ new
  pub risen : old < last_count → old < new

-- Of the four counts this one has risen.
pub record RaisesOpenings (old new : Faults) : Type 0 where
  pub openings : Rises old.openings new.openings
  pub reads : new.reads ≡ old.reads
  pub writes : new.writes ≡ old.writes
  pub sayings : new.sayings ≡ old.sayings

-- Of the four counts this one has risen.
pub record RaisesReads (old new : Faults) : Type 0 where
  pub openings : new.openings ≡ old.openings
  pub reads : Rises old.reads new.reads
  pub writes : new.writes ≡ old.writes
  pub sayings : new.sayings ≡ old.sayings

-- Of the four counts this one has risen.
pub record RaisesWrites (old new : Faults) : Type 0 where
  pub openings : new.openings ≡ old.openings
  pub reads : new.reads ≡ old.reads
  pub writes : Rises old.writes new.writes
  pub sayings : new.sayings ≡ old.sayings

-- Of the four counts this one has risen.
pub record RaisesSayings (old new : Faults) : Type 0 where
  pub openings : new.openings ≡ old.openings
  pub reads : new.reads ≡ old.reads
  pub writes : new.writes ≡ old.writes
  pub sayings : Rises old.sayings new.sayings

-- Only `Failed` changes the counts, and only its own.
abbrev pub Counts : {T : Type 0} → (Faults → Faults → Type 0) → Result T HostError → Faults → Faults → Type 0
Counts raises (Err Failed) old new = raises old new
Counts raises other old new = new ≡ old
