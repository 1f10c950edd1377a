-- The rule of slots in six sentences: what holds of the words and of the views of all owners between any two steps. The
-- whole weight is 2^62. This project's own.
use Rattle.std.specs.Prelude.{◌≡◌, ℕ, ◌+◌, ◌<◌, ◌≤◌, List, length, slice_index}
use mathlib.Core.Option.{some}
use lib.ListN.{get_elem?}
use Rattle.atomic_table.specs.Table.{State}
use Rattle.plane_pool.specs.declared.view.View.{View}
use Rattle.plane_pool.specs.declared.view.View.TheVariants.{Keeper, Giving, Drafting, Referring, Spent}
use Rattle.plane_pool.specs.Slot.{whole_weight, weights, BeginsAt, Covers, Kept}

abbrev pub IsKeeping : View → Type 0
IsKeeping (Keeper n looks found) = Unit {0}
IsKeeping (Giving n looks found) = Unit {0}
IsKeeping (Drafting n from count written) = ⊥
IsKeeping (Referring w content found) = ⊥
IsKeeping Spent = ⊥

-- the owner with this number has this view
abbrev pub Has : List View → ℕ → View → Type 0
Has views id v = get_elem? views id ≡ some v

-- At most one owner is a keeper.
abbrev pub HasOneKeeper : List View → Type 0
HasOneKeeper views = (i j : ℕ) (u v : View) → Has views i u → Has views j v → IsKeeping u → IsKeeping v → i ≡ j

-- Word 0 is the sum of the weights of all owners, and at most the whole weight. A reference has its own weight, which is at
-- least 1. A keeper that is to give its slot has the whole weight, and so has the draft whose range begins at the first
-- data word. All others weigh nothing (`weight`).
pub record CountsWeights (words : List ℕ) (views : List View) : Type 0 where
  pub sum : slice_index words 0 ≡ weights views
  pub limit : slice_index words 0 ≤ whole_weight
  pub some : (i w found : ℕ) (content : List ℕ) → Has views i (Referring w content found) → 0 < w

-- The content of each reference is the list of all data words.
abbrev pub KeepsContents : ℕ → List ℕ → List View → Type 0
KeepsContents n words views = (i w found : ℕ) (content : List ℕ) → Has views i (Referring w content found) → (length content ≡ n) × BeginsAt words 0 content

-- The written words of each draft are the data words from the first place of its range on. They are no more than its range
-- has places.
abbrev pub KeepsDrafts : List ℕ → List View → Type 0
KeepsDrafts words views = (i n from count : ℕ) (written : List ℕ) → Has views i (Drafting n from count written) → (length written ≤ count) × BeginsAt words from written

-- If there is a draft, the ranges of the drafts aren't empty and cover each data word exactly once, and there is neither a
-- reference nor a slot to give.
pub record DraftsAreAlone (n : ℕ) (views : List View) : Type 0 where
  pub ranges : (i m from count : ℕ) (written : List ℕ) → Has views i (Drafting m from count written) → (0 < count) × (from + count ≤ n)
  pub once : (p i j : ℕ) (u v : View) → Has views i u → Has views j v → Covers p u → Covers p v → i ≡ j
  pub each : (i q : ℕ) (u : View) → Has views i u → Covers q u → (p : ℕ) → p < n → (j : ℕ) × (v : View) × Has views j v × Covers p v
  pub no_reference : (i q j w found : ℕ) (u : View) (content : List ℕ) → Has views i u → Covers q u → Has views j (Referring w content found) → ⊥
  pub no_giving : (i q j m looks found : ℕ) (u : View) → Has views i u → Covers q u → Has views j (Giving m looks found) → ⊥

-- If there is a slot to give, there is no reference.
abbrev pub GivesAlone : List View → Type 0
GivesAlone views = (i m looks f j w found : ℕ) (content : List ℕ) → Has views i (Giving m looks f) → Has views j (Referring w content found) → ⊥

pub record MeetsRule (n : ℕ) (words : List ℕ) (views : List View) : Type 0 where
  pub keeper : HasOneKeeper views
  pub weights : CountsWeights words views
  pub contents : KeepsContents n words views
  pub drafts : KeepsDrafts words views
  pub alone : DraftsAreAlone n views
  pub gives : GivesAlone views

abbrev pub SlotsKeepTheirRule : Type 0
SlotsKeepTheirRule = (n : ℕ) (s : State (Unit {0}) View) → Kept n s → MeetsRule n s.words s.views
