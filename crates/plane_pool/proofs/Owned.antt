-- What a step leaves of a draft's seat and of a reference's.
use Rattle.std.proofs.Common.{◌≡◌, ℕ, zero, suc, ◌+◌, ◌-◌, ◌<◌, List, [], ◌∷◌, ◌++◌, length, set, sym, refl, ap, ◌∙◌, subst, arith}
use Rattle.plane_pool.specs.declared.view.View.TheVariants.{Drafting}
use Rattle.plane_pool.specs.Told.{with_word, written_at, opened}
use Rattle.plane_pool.specs.Owners.{Mine, IsDraft, IsPlane, written_of, content_of}

with_word-end : (ys : List ℕ) (k x : ℕ) → k ≡ length ys → length (with_word ys k x) ≡ k + 1
with_word-end [] zero x e = refl
with_word-end [] (suc k) x e = absurd (omega arith)
with_word-end (y ∷ ys) zero x e = absurd (omega arith)
with_word-end (y ∷ ys) (suc k) x e = let r = with_word-end ys k x (omega arith) in omega arith

with_word-inside : (ys : List ℕ) (k x : ℕ) → k < length ys → length (with_word ys k x) ≡ length ys
with_word-inside [] k x l = absurd (omega arith)
with_word-inside (y ∷ ys) zero x l = refl
with_word-inside (y ∷ ys) (suc k) x l = ap suc (with_word-inside ys k x (omega arith))

pub put_more : (me : Mine) (words from count n at x : ℕ) → IsDraft me words from count n → at - from ≡ n → n < count → IsDraft (written_at me.0 at x, me.1) words from count (n + 1)
put_more me words from count n at x is e less = let ys : List ℕ = written_of me.0 in let long : length ys ≡ n = is.long in let k : ℕ = at - from in
    subst (λ (m : Mine). IsDraft (written_at m.0 at x, m.1) words from count (n + 1)) (sym is.me_is)
    record { me_is = refl; long = (let z = with_word-end ys k x (omega arith) in omega arith); fits = omega arith; inside = is.inside; some = is.some; small = is.small }

pub put_again : (me : Mine) (words from count n at x : ℕ) → IsDraft me words from count n → at - from < n → IsDraft (written_at me.0 at x, me.1) words from count n
put_again me words from count n at x is less = let ys : List ℕ = written_of me.0 in let long : length ys ≡ n = is.long in let k : ℕ = at - from in
    subst (λ (m : Mine). IsDraft (written_at m.0 at x, m.1) words from count n) (sym is.me_is)
    record { me_is = refl; long = (let z = with_word-inside ys k x (omega arith) in omega arith); fits = is.fits; inside = is.inside; some = is.some; small = is.small }

opened_whole : (me : Mine) (words weight : ℕ) → IsPlane me words weight → IsDraft (opened me.0, me.1) words 0 words words
opened_whole me words weight is = let xs : List ℕ = content_of me.0 in let some = is.some_words in
    subst (λ (m : Mine). IsDraft (opened m.0, m.1) words 0 words words) (sym is.me_is)
    record { me_is = (λ i. (Drafting (is.long i) 0 (is.long i) xs, [])); long = is.long; fits = omega arith; inside = omega arith; some = is.some_words; small = is.small }

-- a reference that was alone is a draft of the whole slot
pub opens_whole : (me me' : Mine) (words weight : ℕ) → IsPlane me words weight → me' ≡ (opened me.0, me.1) → IsDraft me' words 0 words words
opens_whole me me' words weight is so = subst (λ (m : Mine). IsDraft m words 0 words words) (sym so) (opened_whole me words weight is)

pub with_word_append : (ys : List ℕ) (k x : ℕ) → k ≡ length ys → with_word ys k x ≡ ys ++ x ∷ []
with_word_append [] zero x e = refl
with_word_append [] (suc k) x e = absurd (omega arith)
with_word_append (y ∷ ys) zero x e = absurd (omega arith)
with_word_append (y ∷ ys) (suc k) x e = ap (λ (zs : List ℕ). y ∷ zs) (with_word_append ys k x (omega arith))

pub with_word_set : (ys : List ℕ) (k x : ℕ) → k < length ys → with_word ys k x ≡ set ys k x
with_word_set [] k x l = absurd (omega arith)
with_word_set (y ∷ ys) zero x l = refl
with_word_set (y ∷ ys) (suc k) x l = ap (λ (zs : List ℕ). y ∷ zs) (with_word_set ys k x (omega arith))

-- the written words after a put
pub put_written : (me : Mine) (words from count n at x : ℕ) → IsDraft me words from count n → written_of (written_at me.0 at x) ≡ with_word (written_of me.0) (at - from) x
put_written me words from count n at x is = let ys : List ℕ = written_of me.0 in
    subst (λ (m : Mine). written_of (written_at m.0 at x) ≡ with_word (written_of m.0) (at - from) x) (sym is.me_is) refl

pub put_adds : (me : Mine) (words from count n at x : ℕ) → IsDraft me words from count n → at - from ≡ n → written_of (written_at me.0 at x) ≡ written_of me.0 ++ x ∷ []
put_adds me words from count n at x is e = let long = is.long in let k : ℕ = at - from in let ys : List ℕ = written_of me.0 in put_written me words from count n at x is ∙ with_word_append ys k x (omega arith)

pub put_sets : (me : Mine) (words from count n at x : ℕ) → IsDraft me words from count n → at - from < n → written_of (written_at me.0 at x) ≡ set (written_of me.0) (at - from) x
put_sets me words from count n at x is e = let long = is.long in let k : ℕ = at - from in let ys : List ℕ = written_of me.0 in put_written me words from count n at x is ∙ with_word_set ys k x (omega arith)
