-- What contracts see of a draft and of a reference, and what holds of their seats. This project's own.
use Rattle.std.specs.Prelude.{◌≡◌, ℕ, ◌+◌, ◌^◌, ◌<◌, ◌≤◌, List, [], length, slice_index, refl}
use Rattle.std.specs.Coded.{Coded, code_by, coded×, coded_list, coded_ℕ}
use Rattle.atomic_table.specs.Table.{Me}
use Rattle.atomic_table.specs.Seated.{TableId, table_id_coded}
use Rattle.plane_pool.specs.declared.view.View.{View}
use Rattle.plane_pool.specs.declared.view.View.TheVariants.{Keeper, Giving, Drafting, Referring, Spent}

-- the slot, its number in its pool and its number of words, the range, and the words that are written
pub record DraftView : Type 0 where
  pub table : TableId
  pub number : ℕ
  pub words : ℕ
  pub from : ℕ
  pub count : ℕ
  pub written : List ℕ

abbrev pub draft_code : Coded DraftView
draft_code = code_by (TableId × (ℕ × (ℕ × (ℕ × (ℕ × List ℕ))))) (coded× table_id_coded (coded× coded_ℕ (coded× coded_ℕ (coded× coded_ℕ (coded× coded_ℕ (coded_list coded_ℕ))))))
    (λ d. (d.table, (d.number, (d.words, (d.from, (d.count, d.written))))))
    (λ p. record { table = p.0; number = p.1.0; words = p.1.1.0; from = p.1.1.1.0; count = p.1.1.1.1.0; written = p.1.1.1.1.1 }) (λ _. refl)

-- the slot, its number and its number of words, the weight, the content, and the word that was found last
pub record PlaneView : Type 0 where
  pub table : TableId
  pub number : ℕ
  pub words : ℕ
  pub weight : ℕ
  pub content : List ℕ
  pub found : ℕ

abbrev pub plane_code : Coded PlaneView
plane_code = code_by (TableId × (ℕ × (ℕ × (ℕ × (List ℕ × ℕ))))) (coded× table_id_coded (coded× coded_ℕ (coded× coded_ℕ (coded× coded_ℕ (coded× (coded_list coded_ℕ) coded_ℕ)))))
    (λ d. (d.table, (d.number, (d.words, (d.weight, (d.content, d.found))))))
    (λ p. record { table = p.0; number = p.1.0; words = p.1.1.0; weight = p.1.1.1.0; content = p.1.1.1.1.0; found = p.1.1.1.1.1 }) (λ _. refl)

-- the draft of a slot that was given: nothing is written
abbrev pub fresh_draft : TableId → ℕ → ℕ → DraftView
fresh_draft table number words = record { table = table; number = number; words = words; from = 0; count = words; written = [] }

-- the draft of a reference that was alone: all is written
abbrev pub opened_draft : PlaneView → DraftView
opened_draft plane = record { table = plane.table; number = plane.number; words = plane.words; from = 0; count = plane.words; written = plane.content }

-- its range is the whole slot
abbrev pub CoversSlot : DraftView → Type 0
CoversSlot draft = (draft.from ≡ 0) × (draft.count ≡ draft.words)

-- all words of its range are written
abbrev pub IsWritten : DraftView → Type 0
IsWritten draft = length draft.written ≡ draft.count

-- the place after the last word that is written
abbrev pub reach : DraftView → ℕ
reach draft = draft.from + length draft.written

-- a row that was filled with the words from the place k on
abbrev pub Reads : List ℕ → ℕ → List ℕ → List ℕ → Type 0
Reads words k old new = (i : ℕ) → i < length old → slice_index new i ≡ slice_index words (k + i)

abbrev pub written_of : View → List ℕ
written_of (Drafting n from count written) = written
written_of (Keeper n looks found) = []
written_of (Giving n looks found) = []
written_of (Referring w content found) = []
written_of Spent = []

abbrev pub content_of : View → List ℕ
content_of (Referring w content found) = content
content_of (Drafting n from count written) = []
content_of (Keeper n looks found) = []
content_of (Giving n looks found) = []
content_of Spent = []

abbrev pub found_of : View → ℕ
found_of (Referring w content found) = found
found_of (Keeper n looks found) = found
found_of (Giving n looks found) = found
found_of (Drafting n from count written) = 0
found_of Spent = 0

abbrev pub Mine : Type 0
Mine = Me (Unit {0}) View

-- the seat of a draft
pub record IsDraft (me : Mine) (words from count length_written : ℕ) : Type 0 where
  pub me_is : me ≡ (Drafting words from count (written_of me.0), [])
  pub long : length (written_of me.0) ≡ length_written
  pub fits : length_written ≤ count
  pub inside : from + count ≤ words
  pub some : 0 < count
  pub small : words < 2 ^ 32

-- the seat of a reference
pub record IsPlane (me : Mine) (words weight : ℕ) : Type 0 where
  pub me_is : me ≡ (Referring weight (content_of me.0) (found_of me.0), [])
  pub long : length (content_of me.0) ≡ words
  pub some : 0 < weight
  pub most : weight ≤ 2 ^ 62
  pub some_words : 0 < words
  pub small : words < 2 ^ 32
