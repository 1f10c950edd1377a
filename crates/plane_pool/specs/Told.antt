-- What each step makes of the view of the owner that makes it, and what it finds. This project's own.
use Rattle.std.specs.Prelude.{◌≡◌, ◌≢◌, ℕ, zero, suc, ◌+◌, ◌-◌, List, [], ◌∷◌, ◌++◌, length, take, drop, slice_index}
use Rattle.atomic_table.specs.Table.{Me, Step}
use Rattle.plane_pool.specs.declared.view.View.{View}
use Rattle.plane_pool.specs.declared.view.View.TheVariants.{Keeper, Giving, Drafting, Referring, Spent}
use Rattle.plane_pool.specs.Slot.{whole_weight, IsFresh}

-- the list with x at the place k, which may be its end
abbrev pub with_word : List ℕ → ℕ → ℕ → List ℕ
with_word [] zero x = x ∷ []
with_word [] (suc k) x = []
with_word (y ∷ ys) zero x = x ∷ ys
with_word (y ∷ ys) (suc k) x = y ∷ with_word ys k x

-- after a store
abbrev pub written_at : View → ℕ → ℕ → View
written_at (Drafting n from count written) p x = Drafting n from count (with_word written (p - from) x)
written_at (Keeper n looks found) p x = Keeper n looks found
written_at (Giving n looks found) p x = Giving n looks found
written_at (Referring w content found) p x = Referring w content found
written_at Spent p x = Spent

-- the list with the words of the row from the place k on
abbrev pub with_row : List ℕ → ℕ → List ℕ → List ℕ
with_row ys k [] = ys
with_row ys k (x ∷ xs) = with_row (with_word ys k x) (suc k) xs

-- after the stores of a row
abbrev pub row_written_at : View → ℕ → List ℕ → View
row_written_at (Drafting n from count written) p row = Drafting n from count (with_row written (p - from) row)
row_written_at (Keeper n looks found) p row = Keeper n looks found
row_written_at (Giving n looks found) p row = Giving n looks found
row_written_at (Referring w content found) p row = Referring w content found
row_written_at Spent p row = Spent

-- what a load finds
abbrev pub word_of : View → ℕ → ℕ
word_of (Drafting n from count written) p = slice_index written (p - from)
word_of (Referring w content found) p = slice_index content p
word_of (Keeper n looks found) p = 0
word_of (Giving n looks found) p = 0
word_of Spent p = 0

-- a draft becomes the one reference
abbrev pub sealed : View → View
sealed (Drafting n from count written) = Referring whole_weight written 0
sealed (Referring w content found) = Referring w content found
sealed (Keeper n looks found) = Keeper n looks found
sealed (Giving n looks found) = Giving n looks found
sealed Spent = Spent

-- a reference that has lent a weight, and the one that it was lent to
abbrev pub lighter : ℕ → View → View
lighter give (Referring w content found) = Referring (w - give) content found
lighter give (Drafting n from count written) = Drafting n from count written
lighter give (Keeper n looks found) = Keeper n looks found
lighter give (Giving n looks found) = Giving n looks found
lighter give Spent = Spent

abbrev pub lent : ℕ → View → View
lent give (Referring w content found) = Referring give content 0
lent give (Drafting n from count written) = Spent
lent give (Keeper n looks found) = Spent
lent give (Giving n looks found) = Spent
lent give Spent = Spent

-- a reference that was found to be alone becomes a draft
abbrev pub opened : View → View
opened (Referring w content found) = Drafting (length content) 0 (length content) content
opened (Drafting n from count written) = Drafting n from count written
opened (Keeper n looks found) = Keeper n looks found
opened (Giving n looks found) = Giving n looks found
opened Spent = Spent

-- after a look that found another word
abbrev pub looked : ℕ → View → View
looked r (Referring w content found) = Referring w content r
looked r (Keeper n looks found) = Keeper n (looks + 1) r
looked r (Drafting n from count written) = Drafting n from count written
looked r (Giving n looks found) = Giving n looks found
looked r Spent = Spent

-- a keeper that found the slot free
abbrev pub claimed : View → View
claimed (Keeper n looks found) = Giving n (looks + 1) 0
claimed (Giving n looks found) = Giving n looks found
claimed (Referring w content found) = Referring w content found
claimed (Drafting n from count written) = Drafting n from count written
claimed Spent = Spent

-- a keeper that has given its slot, and the draft that it gave
abbrev pub idle : View → View
idle (Giving n looks found) = Keeper n looks found
idle (Keeper n looks found) = Keeper n looks found
idle (Referring w content found) = Referring w content found
idle (Drafting n from count written) = Drafting n from count written
idle Spent = Spent

abbrev pub drafted : View → View
drafted (Giving n looks found) = Drafting n 0 n []
drafted (Keeper n looks found) = Spent
drafted (Referring w content found) = Spent
drafted (Drafting n from count written) = Spent
drafted Spent = Spent

abbrev Mine : Type 0
Mine = Me (Unit {0}) View

abbrev OneStep : Type 0
OneStep = Step (Unit {0})

-- ---- what the seat of an owner is told: of the step, the seat before, the word found (at a store, the word stored), and the
-- seat after

abbrev pub puts : OneStep → Mine → ℕ → Mine → Type 0
puts st m r m' = m' ≡ (written_at m.0 (st.word - 1) st.first, m.1)

abbrev pub gets : OneStep → Mine → ℕ → Mine → Type 0
gets st m r m' = (m' ≡ m) × (r ≡ word_of m.0 (st.word - 1))

abbrev pub seals : OneStep → Mine → ℕ → Mine → Type 0
seals st m r m' = m' ≡ (sealed m.0, m.1)

abbrev pub drops : OneStep → Mine → ℕ → Mine → Type 0
drops st m r m' = m' ≡ (Spent, m.1)

abbrev pub opens : OneStep → Mine → ℕ → Mine → Type 0
opens st m r m' = (r ≡ st.first → m' ≡ (opened m.0, m.1)) × (r ≢ st.first → m' ≡ (looked r m.0, m.1))

abbrev pub claims : OneStep → Mine → ℕ → Mine → Type 0
claims st m r m' = (r ≡ 0 → m' ≡ (claimed m.0, m.1)) × (r ≢ 0 → m' ≡ (looked r m.0, m.1)) × (IsFresh m.0 → r ≡ 0)

-- the two parts of a draft, before and from the place on
abbrev pub cut_left : ℕ → View → View
cut_left at (Drafting n from count written) = Drafting n from (at - from) (take (at - from) written)
cut_left at (Keeper n looks found) = Keeper n looks found
cut_left at (Giving n looks found) = Giving n looks found
cut_left at (Referring w content found) = Referring w content found
cut_left at Spent = Spent

abbrev pub cut_right : ℕ → View → View
cut_right at (Drafting n from count written) = Drafting n at ((from + count) - at) (drop (at - from) written)
cut_right at (Keeper n looks found) = Spent
cut_right at (Giving n looks found) = Spent
cut_right at (Referring w content found) = Spent
cut_right at Spent = Spent

-- a draft with the range of another one after its own
abbrev pub mended_by : ℕ → ℕ → ℕ → List ℕ → View → View
mended_by n from count written (Drafting n' from' count' written') = Drafting n from (count + count') (written ++ written')
mended_by n from count written (Keeper n' looks found) = Drafting n from count written
mended_by n from count written (Giving n' looks found) = Drafting n from count written
mended_by n from count written (Referring w content found) = Drafting n from count written
mended_by n from count written Spent = Drafting n from count written

-- one draft of two
abbrev pub mended : View → View → View
mended (Drafting n from count written) u = mended_by n from count written u
mended (Keeper n looks found) u = Keeper n looks found
mended (Giving n looks found) u = Giving n looks found
mended (Referring w content found) u = Referring w content found
mended Spent u = Spent
