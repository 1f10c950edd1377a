-- Parts of a list of bytes.
use Rattle.std.proofs.Common.{◌≡◌, ℕ, zero, suc, ◌+◌, ◌-◌, ◌≤◌, List, [], ◌∷◌, length, take, drop, sym, refl, ap, ◌∙◌, arith}
use Rattle.std.specs.Simd.Lanes.{chunk, put_chunk}
use Rattle.std.proofs.lemmas.List.{drop-take, take-take, drop-drop}

pub put_chunk_none : (i : ℕ) (xs : List ℕ) → put_chunk i xs [] ≡ xs
put_chunk_none i [] = refl
put_chunk_none zero (x ∷ xs) = refl
put_chunk_none (suc i) (x ∷ xs) = ap (λ (zs : List ℕ). x ∷ zs) (put_chunk_none i xs)

-- what stands there already
pub put_chunk_same : (a n : ℕ) (xs : List ℕ) → put_chunk a xs (chunk a n xs) ≡ xs
put_chunk_same a n [] = refl
put_chunk_same zero zero (x ∷ xs) = refl
put_chunk_same zero (suc n) (x ∷ xs) = ap (λ (zs : List ℕ). x ∷ zs) (put_chunk_same zero n xs)
put_chunk_same (suc a) n (x ∷ xs) = ap (λ (zs : List ℕ). x ∷ zs) (put_chunk_same a n xs)

-- a part that is written within a chunk
pub put_chunk-chunk : (xs part : List ℕ) (a o n b : ℕ) → b ≡ a + o → o + length part ≤ n → put_chunk a xs (put_chunk o (chunk a n xs) part) ≡ put_chunk b xs part
put_chunk-chunk [] part a o n b e h = refl
put_chunk-chunk (x ∷ xs) part (suc a) o n zero e h = absurd (omega arith)
put_chunk-chunk (x ∷ xs) part (suc a) o n (suc b) e h = ap (λ (zs : List ℕ). x ∷ zs) (put_chunk-chunk xs part a o n b (omega arith) h)
put_chunk-chunk (x ∷ xs) [] zero o zero b e h = let z : b ≡ 0 = omega arith in ap (λ (j : ℕ). put_chunk j (x ∷ xs) []) (sym z)
put_chunk-chunk (x ∷ xs) (y ∷ ys) zero o zero b e h = absurd (omega arith)
put_chunk-chunk (x ∷ xs) part zero (suc o) (suc n) zero e h = absurd (omega arith)
put_chunk-chunk (x ∷ xs) part zero (suc o) (suc n) (suc b) e h = ap (λ (zs : List ℕ). x ∷ zs) (put_chunk-chunk xs part zero o n b (omega arith) (omega arith))
put_chunk-chunk (x ∷ xs) part zero zero (suc n) (suc b) e h = absurd (omega arith)
put_chunk-chunk (x ∷ xs) [] zero zero (suc n) zero e h = ap (λ (zs : List ℕ). x ∷ zs) (put_chunk_same zero n xs)
put_chunk-chunk (x ∷ xs) (y ∷ ys) zero zero (suc n) zero e h = ap (λ (zs : List ℕ). y ∷ zs) (put_chunk-chunk xs ys zero zero n zero refl (omega arith))

-- a part of a part
pub chunk-chunk : (a o n m b : ℕ) (bs : List ℕ) → b ≡ a + o → o + n ≤ m → chunk o n (chunk a m bs) ≡ chunk b n bs
chunk-chunk a o n m b bs e h =
    let k = m - o in
    let whole : m ≡ o + k = omega arith in
    ap (λ (j : ℕ). take n (drop o (take j (drop a bs)))) whole
    ∙ (ap (λ (z : List ℕ). take n z) (drop-take o k (drop a bs))
    ∙ (take-take n k (drop o (drop a bs)) (omega arith)
    ∙ (ap (λ (z : List ℕ). take n z) (drop-drop o a bs)
    ∙ ap (λ (j : ℕ). chunk j n bs) (sym e))))
