-- Free slots: while word 0 is 0, the keeper alone can make a step. This project's own.
use Rattle.std.specs.Prelude.{◌≡◌, ℕ, List, slice_index}
use mathlib.Core.Option.{some}
use lib.ListN.{get_elem?}
use Rattle.atomic_table.specs.Table.{State}
use Rattle.plane_pool.specs.declared.view.View.{View}
use Rattle.plane_pool.specs.declared.view.View.TheVariants.{Keeper, Giving, Drafting, Referring, Spent}
use Rattle.plane_pool.specs.Slot.{Kept}
use Rattle.plane_pool.specs.Asked.{MayClaim, MayGive, MayPut, MayGet, MaySeal, MayShare, MayRelease, MayOpen, MayCut, MayMend}

-- the ten kinds of step, with their places, their weights, and the view of the other owner of a mend
pub data Kind : Type 0 where
  claims : Kind
  gives : Kind
  puts : ℕ → Kind
  gets : ℕ → Kind
  seals : Kind
  shares : ℕ → Kind
  drops : Kind
  opens : ℕ → Kind
  cuts : ℕ → Kind
  mends : View → Kind

-- what a step of each kind asks of the owner that makes it
abbrev pub MayMake : Kind → View → Type 0
MayMake claims v = MayClaim v
MayMake gives v = MayGive v
MayMake (puts p) v = MayPut v p
MayMake (gets p) v = MayGet v p
MayMake seals v = MaySeal v
MayMake (shares give) v = MayShare v give
MayMake drops v = MayRelease v
MayMake (opens weight) v = MayOpen v weight
MayMake (cuts at) v = MayCut v at
MayMake (mends other) v = MayMend v other

-- it has nothing to read, to write or to release
abbrev pub RefersToNothing : View → Type 0
RefersToNothing (Keeper n looks found) = Unit {0}
RefersToNothing Spent = Unit {0}
RefersToNothing (Giving n looks found) = ⊥
RefersToNothing (Drafting n from count written) = ⊥
RefersToNothing (Referring w content found) = ⊥

-- nobody refers to the slot, and the only step is the claim of its keeper
pub record WaitsForKeeper (views : List View) : Type 0 where
  pub free : (id : ℕ) (v : View) → get_elem? views id ≡ some v → RefersToNothing v
  pub claims : (id : ℕ) (v : View) (kind : Kind) → get_elem? views id ≡ some v → MayMake kind v → (kind ≡ claims) × MayClaim v

abbrev pub FreeSlotsWait : Type 0
FreeSlotsWait = (n : ℕ) (s : State (Unit {0}) View) → Kept n s → slice_index s.words 0 ≡ 0 → WaitsForKeeper s.views
