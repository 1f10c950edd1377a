-- What contracts see of a keeper and of a pool, and what the search for a free slot does. This project's own.
use Rattle.std.specs.Prelude.{◌≡◌, ◌≢◌, ℕ, ◌+◌, ◌^◌, ◌<◌, ◌≤◌, Bool, true, false, List, [], length, refl, slice_index_or, slice_set}
use Rattle.std.specs.Coded.{Coded, code_by, coded×, coded_list, coded_bool, coded_ℕ}
use Rattle.atomic_table.specs.Seated.{TableId, table_id_coded}
use Rattle.plane_pool.specs.declared.view.View.{View}
use Rattle.plane_pool.specs.declared.view.View.TheVariants.{Keeper, Giving, Drafting, Referring, Spent}
use Rattle.plane_pool.specs.Owners.{Mine, DraftView, fresh_draft, found_of}

-- the slot and its number of words, whether it is to be given, the number of looks, and the word that was found last
pub record KeeperView : Type 0 where
  pub table : TableId
  pub words : ℕ
  pub giving : Bool
  pub looks : ℕ
  pub found : ℕ

abbrev pub keeper_code : Coded KeeperView
keeper_code = code_by (TableId × (ℕ × (Bool × (ℕ × ℕ)))) (coded× table_id_coded (coded× coded_ℕ (coded× coded_bool (coded× coded_ℕ coded_ℕ))))
    (λ d. (d.table, (d.words, (d.giving, (d.looks, d.found)))))
    (λ p. record { table = p.0; words = p.1.0; giving = p.1.1.0; looks = p.1.1.1.0; found = p.1.1.1.1 }) (λ _. refl)

abbrev pub looks_of : View → ℕ
looks_of (Keeper n looks found) = looks
looks_of (Giving n looks found) = looks
looks_of (Drafting n from count written) = 0
looks_of (Referring w content found) = 0
looks_of Spent = 0

abbrev pub keeping : Bool → ℕ → ℕ → ℕ → View
keeping true n looks found = Giving n looks found
keeping false n looks found = Keeper n looks found

-- the seat of a keeper. What it has to give was found free
pub record IsKeeping (me : Mine) (words : ℕ) (giving : Bool) : Type 0 where
  pub me_is : me ≡ (keeping giving words (looks_of me.0) (found_of me.0), [])
  pub some : 0 < words
  pub small : words < 2 ^ 32
  pub free : giving ≡ true → found_of me.0 ≡ 0

-- a keeper before and after a look, which found the slot free or not. A new slot is free
abbrev pub Looked : KeeperView → KeeperView → Bool → Type 0
Looked k l free =
    (l.table ≡ k.table)
    × (l.words ≡ k.words)
    × (l.giving ≡ free)
    × (l.looks ≡ k.looks + 1)
    × (free ≡ true → l.found ≡ 0)
    × (free ≡ false → l.found ≢ 0)
    × (k.looks ≡ 0 → free ≡ true)

abbrev pub no_keeper : KeeperView
no_keeper = record { table = record { words = 0; slots = 0; views_name = 0; atom = 0; block = 0; offset = 0; slot_names = [] }; words = 0; giving = false; looks = 0; found = 0 }

-- the keeper of the slot with this number
abbrev pub keeper_at : List KeeperView → ℕ → KeeperView
keeper_at keepers i = slice_index_or keepers i no_keeper

-- how many data words a slot may have
abbrev pub IsSlotSize : ℕ → Type 0
IsSlotSize words = (1 ≤ words) × (words ≤ 16777216)

-- each keeper has a slot of this many words
abbrev pub AreSized : ℕ → List KeeperView → Type 0
AreSized words keepers = (j : ℕ) → j < length keepers → (keeper_at keepers j).words ≡ words

-- the number of data words of each slot, and the keepers of the slots, by the numbers of these
pub record PoolView : Type 0 where
  pub words : ℕ
  pub keepers : List KeeperView

abbrev pub pool_code : Coded PoolView
pool_code = code_by (ℕ × List KeeperView) (coded× coded_ℕ (coded_list keeper_code)) (λ d. (d.words, d.keepers)) (λ p. record { words = p.0; keepers = p.1 }) (λ _. refl)

-- what a search leaves that found slot i free: each keeper before it found another word, and those after it didn't look
pub record Searched (old new : List KeeperView) (i : ℕ) : Type 0 where
  pub before : (j : ℕ) → j < i → Looked (keeper_at old j) (keeper_at new j) false
  pub after : (j : ℕ) → i < j → keeper_at new j ≡ keeper_at old j

-- the slots of the pool stay, and there may be one more
pub record Grows (old new : PoolView) : Type 0 where
  pub words : new.words ≡ old.words
  pub more : length old.keepers ≤ length new.keepers
  pub one : length new.keepers ≤ length old.keepers + 1
  pub tables : (j : ℕ) → j < length old.keepers → (keeper_at new.keepers j).table ≡ (keeper_at old.keepers j).table

-- some slot was claimed and is still to be given
abbrev pub HasOneToGive : PoolView → Type 0
HasOneToGive pool = (k : ℕ) × (k < length pool.keepers) × ((keeper_at pool.keepers k).giving ≡ true)

-- a slot is new only if each old keeper has looked, and found a word other than 0
abbrev pub MakesLast : PoolView → PoolView → Type 0
MakesLast old new = length old.keepers < length new.keepers → (j : ℕ) → j < length old.keepers → Looked (keeper_at old.keepers j) (keeper_at new.keepers j) false

-- a keeper that has looked and found 0 has its slot to give
abbrev pub KeepsClaims : PoolView → PoolView → Type 0
KeepsClaims old new = (j : ℕ) → j < length new.keepers → (keeper_at new.keepers j).looks ≢ (keeper_at old.keepers j).looks → (keeper_at new.keepers j).found ≡ 0 → (keeper_at new.keepers j).giving ≡ true

-- after out of memory: what was to be given or was claimed still is
pub record Refuses (old new : PoolView) : Type 0 where
  pub grows : Grows old new
  pub waits : HasOneToGive old → new ≡ old
  pub claims : KeepsClaims old new
  pub last : MakesLast old new

-- the slot with this number is to be given
pub record Readies (old new : PoolView) (i : ℕ) : Type 0 where
  pub refuses : Refuses old new
  pub there : i < length new.keepers
  pub giving : (keeper_at new.keepers i).giving ≡ true

-- this draft was given: it is that of the slot with its number, which was found free
pub record Grants (old new : PoolView) (draft : DraftView) : Type 0 where
  pub grows : Grows old new
  pub there : draft.number < length new.keepers
  pub is : draft ≡ fresh_draft (keeper_at new.keepers draft.number).table draft.number old.words
  pub free : (keeper_at new.keepers draft.number).found ≡ 0
  -- what was to be given comes first, without a look
  pub first : HasOneToGive old → new ≡ record old { keepers = slice_set old.keepers draft.number (record (keeper_at old.keepers draft.number) { giving = false }) }
  pub last : MakesLast old new
