-- What every step of a slot keeps: a fact of its words and of the views of all its owners. The rule of slots follows from
-- it. This project's own.
use Rattle.std.specs.Prelude.{◌≡◌, ℕ, zero, suc, ◌+◌, ◌<◌, ◌≤◌, List, [], ◌∷◌, length, slice_index}
use mathlib.Core.Option.{some}
use lib.ListN.{get_elem?}
use Rattle.atomic_table.specs.Table.{State}
use Rattle.plane_pool.specs.declared.view.View.{View}
use Rattle.plane_pool.specs.declared.view.View.TheVariants.{Keeper, Giving, Drafting, Referring, Spent}

-- the whole weight, 2^62
abbrev pub whole_weight : ℕ
whole_weight = 4611686018427387904

-- the weight of a draft by the first place of its range
abbrev pub head_weight : ℕ → ℕ
head_weight zero = whole_weight
head_weight (suc k) = 0

-- what an owner adds to word 0
abbrev pub weight : View → ℕ
weight (Keeper n looks found) = 0
weight (Giving n looks found) = whole_weight
weight (Drafting n from count written) = head_weight from
weight (Referring w content found) = w
weight Spent = 0

abbrev pub weights : List View → ℕ
weights [] = 0
weights (v ∷ vs) = weight v + weights vs

-- the keeper of a new slot
abbrev pub keeper : ℕ → View
keeper n = Keeper n 0 0

-- the data words from the place `from` on begin with xs
abbrev pub BeginsAt : List ℕ → ℕ → List ℕ → Type 0
BeginsAt words from xs = (k : ℕ) → k < length xs → slice_index words ((from + k) + 1) ≡ slice_index xs k

-- the place p lies in the view's range
abbrev pub Covers : ℕ → View → Type 0
Covers p (Keeper n looks found) = ⊥
Covers p (Giving n looks found) = ⊥
Covers p (Drafting n from count written) = (from ≤ p) × (p < from + count)
Covers p (Referring w content found) = ⊥
Covers p Spent = ⊥

module _ (n : ℕ) (words : List ℕ) (chief : ℕ) (owner : ℕ → ℕ) (id : ℕ) where
  -- the view of the owner with this number fits the words. `chief` is the number of the keeper, and `owner` that of the draft
  -- that a place belongs to
  abbrev pub Fits : View → Type 0
  Fits (Keeper m looks found) = (m ≡ n) × (id ≡ chief)
  Fits (Giving m looks found) = (m ≡ n) × (id ≡ chief) × (0 < looks)
  Fits (Drafting m from count written) = (m ≡ n) × (0 < count) × (from + count ≤ n) × (length written ≤ count) × BeginsAt words from written × ((p : ℕ) → from ≤ p → p < from + count → owner p ≡ id)
  Fits (Referring w content found) = (0 < w) × (length content ≡ n) × BeginsAt words 0 content
  Fits Spent = Unit {0}

-- each view fits the words
abbrev pub Known : ℕ → List ℕ → ℕ → (ℕ → ℕ) → List View → Type 0
Known n words chief owner views = (id : ℕ) (v : View) → get_elem? views id ≡ some v → Fits n words chief owner id v

-- if there is a draft, each place has one
abbrev pub Covered : ℕ → (ℕ → ℕ) → List View → Type 0
Covered n owner views = (id : ℕ) (v : View) (q : ℕ) → get_elem? views id ≡ some v → Covers q v → (p : ℕ) → p < n → (u : View) × (get_elem? views (owner p) ≡ some u) × Covers p u

-- a keeper that has not looked
abbrev pub IsFresh : View → Type 0
IsFresh (Keeper n looks found) = looks ≡ 0
IsFresh (Giving n looks found) = ⊥
IsFresh (Drafting n from count written) = ⊥
IsFresh (Referring w content found) = ⊥
IsFresh Spent = ⊥

-- nobody refers to a slot before the first look of its keeper
abbrev pub Unused : List View → Type 0
Unused views = (id : ℕ) (v : View) → get_elem? views id ≡ some v → IsFresh v → weights views ≡ 0

-- the fact that each step keeps. The key n is the number of data words
pub record Kept (n : ℕ) (s : State (Unit {0}) View) : Type 0 where
  pub chief : ℕ
  pub owner : ℕ → ℕ
  pub some_words : 0 < n
  pub wide : length s.words ≡ n + 1
  pub sum : slice_index s.words 0 ≡ weights s.views
  pub limit : weights s.views ≤ whole_weight
  pub known : Known n s.words chief owner s.views
  pub covered : Covered n owner s.views
  pub unused : Unused s.views
