-- Rows of words that are written into a list, word by word.
use Rattle.std.proofs.Common.{◌≡◌, ℕ, zero, suc, ◌+◌, ◌-◌, ◌<◌, ◌≤◌, List, [], ◌∷◌, ◌++◌, length, set, get_or, take, sym, refl, ap, ◌∙◌, subst, arith, append_assoc, append-nil, length-append}
use Rattle.std.specs.Simd.Lanes.{put_chunk}
use Rattle.std.proofs.lemmas.Simd.{length-put_chunk}
use Rattle.std.proofs.lemmas.List.{length-take-le, take_more}
use Rattle.plane_pool.specs.declared.view.View.{View}
use Rattle.plane_pool.specs.declared.view.View.TheVariants.{Keeper, Giving, Drafting, Referring, Spent}
use Rattle.plane_pool.specs.Told.{with_word, with_row, written_at, row_written_at}
use Rattle.plane_pool.specs.Asked.{MayPut, MayPutRow}
use Rattle.plane_pool.specs.Owners.{Mine, IsDraft, written_of}
use Rattle.plane_pool.proofs.Owned.{with_word_append, with_word_set}

word_reaches : (ys : List ℕ) (k x : ℕ) → k ≤ length ys → k < length (with_word ys k x)
word_reaches [] zero x le = omega arith
word_reaches [] (suc k) x le = absurd (omega arith)
word_reaches (y ∷ ys) zero x le = omega arith
word_reaches (y ∷ ys) (suc k) x le = let r = word_reaches ys k x (omega arith) in omega arith

row_reaches : (row ys : List ℕ) (k : ℕ) → k ≤ length ys → k + length row ≤ length (with_row ys k row)
row_reaches [] ys k le = omega arith
row_reaches (x ∷ xs) ys k le = let a = word_reaches ys k x le in let r = row_reaches xs (with_word ys k x) (suc k) (omega arith) in omega arith

row_ends : (row ys : List ℕ) (k x : ℕ) → with_row ys k (row ++ x ∷ []) ≡ with_word (with_row ys k row) (k + length row) x
row_ends [] ys k x = let e : k ≡ k + 0 = omega arith in ap (λ (z : ℕ). with_word ys z x) e
row_ends (y ∷ row) ys k x =
    let e : suc k + length row ≡ k + suc (length row) = omega arith in
    row_ends row (with_word ys k y) (suc k) x ∙ ap (λ (z : ℕ). with_word (with_row (with_word ys k y) (suc k) row) z x) e

-- ---- the loop of a row

pub row_may : (v : View) (at : ℕ) (row : List ℕ) (i : ℕ) → MayPutRow v at (length row) → i < length row → MayPut (row_written_at v at (take i row)) (at + i)
row_may (Keeper n looks found) at row i may less = absurd may
row_may (Giving n looks found) at row i may less = absurd may
row_may (Referring w content found) at row i may less = absurd may
row_may Spent at row i may less = absurd may
row_may (Drafting n from count written) at row i may less =
    let low = may.0 in let high = may.1 in let next = may.2 in let k : ℕ = at - from in let long : length (take i row) ≡ i = length-take-le i row (omega arith) in
    let r = row_reaches (take i row) written k (omega arith) in (omega arith, omega arith, omega arith)

pub row_step : (v : View) (at : ℕ) (row : List ℕ) (i : ℕ) → MayPutRow v at (length row) → i < length row → written_at (row_written_at v at (take i row)) (at + i) (get_or row i 0) ≡ row_written_at v at (take (i + 1) row)
row_step (Keeper n looks found) at row i may less = absurd may
row_step (Giving n looks found) at row i may less = absurd may
row_step (Referring w content found) at row i may less = absurd may
row_step Spent at row i may less = absurd may
row_step (Drafting n from count written) at row i may less =
    let low = may.0 in let k : ℕ = at - from in let x : ℕ = get_or row i 0 in let long : length (take i row) ≡ i = length-take-le i row (omega arith) in
    let e : (at + i) - from ≡ k + length (take i row) = omega arith in
    let w : with_word (with_row written k (take i row)) ((at + i) - from) x ≡ with_row written k (take (i + 1) row) =
    ap (λ (z : ℕ). with_word (with_row written k (take i row)) z x) e ∙ (sym (row_ends (take i row) written k x) ∙ ap (λ (zs : List ℕ). with_row written k zs) (sym (take_more row i 0 less))) in
    ap (λ (zs : List ℕ). Drafting n from count zs) w

-- ---- a row after the last word, and a row over words

with_row_append : (row ys : List ℕ) (k : ℕ) → k ≡ length ys → with_row ys k row ≡ ys ++ row
with_row_append [] ys k e = sym (append-nil ys)
with_row_append (x ∷ xs) ys k e =
    let long = length-append ys (x ∷ []) in
    ap (λ (zs : List ℕ). with_row zs (suc k) xs) (with_word_append ys k x e) ∙ (with_row_append xs (ys ++ x ∷ []) (suc k) (omega arith) ∙ append_assoc ys (x ∷ []) xs)

chunk_none : (i : ℕ) (xs : List ℕ) → put_chunk i xs [] ≡ xs
chunk_none i [] = refl
chunk_none zero (x ∷ xs) = refl
chunk_none (suc i) (x ∷ xs) = ap (λ (zs : List ℕ). x ∷ zs) (chunk_none i xs)

chunk_first : (ys : List ℕ) (k x : ℕ) (xs : List ℕ) → k < length ys → put_chunk (suc k) (set ys k x) xs ≡ put_chunk k ys (x ∷ xs)
chunk_first [] k x xs less = absurd (omega arith)
chunk_first (y ∷ ys) zero x xs less = refl
chunk_first (y ∷ ys) (suc k) x xs less = ap (λ (zs : List ℕ). y ∷ zs) (chunk_first ys k x xs (omega arith))

with_row_set : (row ys : List ℕ) (k : ℕ) → k + length row ≤ length ys → with_row ys k row ≡ put_chunk k ys row
with_row_set [] ys k le = sym (chunk_none k ys)
with_row_set (x ∷ xs) ys k le =
    let long = length-put_chunk k ys (x ∷ []) in let same : put_chunk k ys (x ∷ []) ≡ set ys k x = sym (chunk_first ys k x [] (omega arith)) ∙ chunk_none (suc k) (set ys k x) in
    let wide : length (set ys k x) ≡ length ys = ap (λ (zs : List ℕ). length zs) (sym same) ∙ long in
    ap (λ (zs : List ℕ). with_row zs (suc k) xs) (with_word_set ys k x (omega arith)) ∙ (with_row_set xs (set ys k x) (suc k) (omega arith) ∙ chunk_first ys k x xs (omega arith))

-- ---- what a row leaves of a draft's seat

row_written : (me : Mine) (words from count n at : ℕ) (row : List ℕ) → IsDraft me words from count n → written_of (row_written_at me.0 at row) ≡ with_row (written_of me.0) (at - from) row
row_written me words from count n at row is = let ys : List ℕ = written_of me.0 in
    subst (λ (m : Mine). written_of (row_written_at m.0 at row) ≡ with_row (written_of m.0) (at - from) row) (sym is.me_is) refl

pub row_adds : (me : Mine) (words from count n at : ℕ) (row : List ℕ) → IsDraft me words from count n → at ≡ from + n → written_of (row_written_at me.0 at row) ≡ written_of me.0 ++ row
row_adds me words from count n at row is e = let long = is.long in row_written me words from count n at row is ∙ with_row_append row (written_of me.0) (at - from) (omega arith)

pub row_sets : (me : Mine) (words from count n at : ℕ) (row : List ℕ) → IsDraft me words from count n → from ≤ at → at + length row ≤ from + n → written_of (row_written_at me.0 at row) ≡ put_chunk (at - from) (written_of me.0) row
row_sets me words from count n at row is low high = let long = is.long in row_written me words from count n at row is ∙ with_row_set row (written_of me.0) (at - from) (omega arith)

abbrev After : ℕ → List ℕ → Mine → Mine
After at row me = (row_written_at me.0 at row, me.1)

abbrev Rewritten : ℕ → ℕ → ℕ → ℕ → List ℕ → Mine → Mine
Rewritten words from count at row me = (Drafting words from count (written_of (row_written_at me.0 at row)), [])

me_after : (me : Mine) (words from count n at : ℕ) (row : List ℕ) → IsDraft me words from count n → After at row me ≡ Rewritten words from count at row me
me_after me words from count n at row is = subst (λ (m : Mine). After at row m ≡ Rewritten words from count at row m) (sym is.me_is) refl

-- the seat after a row, if so many words are then written
row_is : (me : Mine) (words from count n at m : ℕ) (row : List ℕ) → IsDraft me words from count n → length (written_of (row_written_at me.0 at row)) ≡ m → m ≤ count → IsDraft (row_written_at me.0 at row, me.1) words from count m
row_is me words from count n at m row is long fits =
    record { me_is = me_after me words from count n at row is; long = long; fits = fits; inside = is.inside; some = is.some; small = is.small }

pub row_more : (me : Mine) (words from count n at : ℕ) (row : List ℕ) → IsDraft me words from count n → at ≡ from + n → n + length row ≤ count → IsDraft (row_written_at me.0 at row, me.1) words from count (n + length row)
row_more me words from count n at row is e fits = let long = is.long in
    row_is me words from count n at (n + length row) row is (let a = ap (λ (zs : List ℕ). length zs) (row_adds me words from count n at row is e) in let b = length-append (written_of me.0) row in omega arith) fits

pub row_again : (me : Mine) (words from count n at : ℕ) (row : List ℕ) → IsDraft me words from count n → from ≤ at → at + length row ≤ from + n → IsDraft (row_written_at me.0 at row, me.1) words from count n
row_again me words from count n at row is low high = let long = is.long in
    row_is me words from count n at n row is (ap (λ (zs : List ℕ). length zs) (row_sets me words from count n at row is low high) ∙ (length-put_chunk (at - from) (written_of me.0) row ∙ long)) is.fits
