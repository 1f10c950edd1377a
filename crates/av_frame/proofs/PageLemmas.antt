-- Bytes of which the first are written.
use Rattle.std.proofs.Common.{◌≡◌, ℕ, zero, suc, ◌+◌, ◌-◌, ◌≤◌, ◌<◌, List, [], ◌∷◌, ◌++◌, length, take, drop, get_or, replicate, append_assoc, length-append, sym, refl, ap, subst, ◌∙◌, arith}
use Rattle.std.specs.Simd.Lanes.{chunk, put_chunk}
use Rattle.std.proofs.lemmas.List.{take_all, take-append-le, drop-append-le, length-drop, length-replicate, replicate-append-replicate}
use borrow.Rule.Slice.PartMut.{put_mid}
use Rattle.std.proofs.lemmas.Simd.{length-put_chunk, length-chunk, put_chunk_is, get_or-put_chunk_at}
use Rattle.std.proofs.lemmas.List.FromFn.{fill_by_all, get_or-map-range_with_len, length-map-range_with_len}
use Rattle.av_frame.specs.Pages.{filled}
use Rattle.av_frame.specs.Rasters.{row_by}
use Rattle.av_frame.proofs.Chunks.{put_chunk_none}

pub length-filled : (n : ℕ) (bs : List ℕ) → length bs ≤ n → length (filled n bs) ≡ n
length-filled n bs h =
    let a = length-append bs (replicate (n - length bs) 0) in
    let b = length-replicate {A = ℕ} (n - length bs) 0 in
    omega arith

-- zeros that are written
pub filled-reach : (n end : ℕ) (bs new : List ℕ) → length bs ≤ end → end ≤ n → new ≡ take end bs ++ replicate (end - length bs) 0 → filled n new ≡ filled n bs
filled-reach n end bs new h k e =
    let zeros = replicate (end - length bs) 0 in
    let whole : new ≡ bs ++ zeros = e ∙ ap (λ (z : List ℕ). z ++ zeros) (take_all end bs h) in
    let a = length-append bs zeros in
    let b = length-replicate {A = ℕ} (end - length bs) 0 in
    let long : (end - length bs) + (n - length (bs ++ zeros)) ≡ n - length bs = omega arith in
    ap (filled n) whole
    ∙ (append_assoc bs zeros (replicate (n - length (bs ++ zeros)) 0)
    ∙ ap (λ (z : List ℕ). bs ++ z) (replicate-append-replicate (end - length bs) (n - length (bs ++ zeros)) 0 ∙ ap (λ (m : ℕ). replicate m 0) long))

-- a part that is written already
pub chunk-filled : (n at m : ℕ) (bs : List ℕ) → at + m ≤ length bs → chunk at m (filled n bs) ≡ chunk at m bs
chunk-filled n at m bs h =
    let zeros : List ℕ = replicate (n - length bs) 0 in
    let d = length-drop at bs in
    ap (λ (z : List ℕ). take m z) (drop-append-le at bs zeros (omega arith)) ∙ take-append-le m (drop at bs) zeros (omega arith)

put_chunk_before : (at : ℕ) (xs zs part : List ℕ) → at + length part ≤ length xs → put_chunk at (xs ++ zs) part ≡ put_chunk at xs part ++ zs
put_chunk_before zero [] zs [] h = put_chunk_none 0 zs
put_chunk_before zero [] zs (y ∷ ys) h = absurd (omega arith)
put_chunk_before (suc a) [] zs part h = absurd (omega arith)
put_chunk_before (suc a) (x ∷ xs) zs part h = ap (λ (z : List ℕ). x ∷ z) (put_chunk_before a xs zs part (omega arith))
put_chunk_before zero (x ∷ xs) zs [] h = put_chunk_none 0 (x ∷ (xs ++ zs)) ∙ ap (λ (z : List ℕ). z ++ zs) (sym (put_chunk_none 0 (x ∷ xs)))
put_chunk_before zero (x ∷ xs) zs (y ∷ ys) h = ap (λ (z : List ℕ). y ∷ z) (put_chunk_before zero xs zs ys (omega arith))

-- a part that is written over
pub filled-put_chunk : (n at : ℕ) (bs part : List ℕ) → at + length part ≤ length bs → filled n (put_chunk at bs part) ≡ put_chunk at (filled n bs) part
filled-put_chunk n at bs part h =
    ap (λ (m : ℕ). put_chunk at bs part ++ replicate (n - m) 0) (length-put_chunk at bs part)
    ∙ sym (put_chunk_before at bs (replicate (n - length bs) 0) part h)

put_chunk_after : (bs zs part : List ℕ) → put_chunk (length bs) (bs ++ zs) part ≡ bs ++ put_chunk 0 zs part
put_chunk_after [] zs part = refl
put_chunk_after (b ∷ bs) zs part = ap (λ (z : List ℕ). b ∷ z) (put_chunk_after bs zs part)

put_chunk_zeros : (m : ℕ) (part : List ℕ) → length part ≤ m → put_chunk 0 (replicate m 0) part ≡ part ++ replicate (m - length part) 0
put_chunk_zeros m [] h = put_chunk_none 0 (replicate m 0) ∙ ap (λ (k : ℕ). replicate k 0) (let e : m ≡ m - 0 = omega arith in e)
put_chunk_zeros zero (y ∷ ys) h = absurd (omega arith)
put_chunk_zeros (suc m) (y ∷ ys) h =
    ap (λ (z : List ℕ). y ∷ z) (put_chunk_zeros m ys (omega arith) ∙ ap (λ (k : ℕ). ys ++ replicate k 0) (let e : m - length ys ≡ suc m - suc (length ys) = omega arith in e))

-- a part that is appended
pub filled-append : (n at : ℕ) (bs part : List ℕ) → length bs ≡ at → at + length part ≤ n → filled n (bs ++ part) ≡ put_chunk at (filled n bs) part
filled-append n at bs part e h =
    let a = length-append bs part in
    let rest : n - length (bs ++ part) ≡ (n - length bs) - length part = omega arith in
    append_assoc bs part (replicate (n - length (bs ++ part)) 0)
    ∙ (ap (λ (m : ℕ). bs ++ (part ++ replicate m 0)) rest
    ∙ (ap (λ (z : List ℕ). bs ++ z) (sym (put_chunk_zeros (n - length bs) part (omega arith)))
    ∙ (sym (put_chunk_after bs (replicate (n - length bs) 0) part)
    ∙ ap (λ (j : ℕ). put_chunk j (filled n bs) part) e)))

-- a part that is written once the bytes before its end are
pub page_put : (n at : ℕ) (bs mid was all new part old : List ℕ) → filled n bs ≡ old → filled n mid ≡ filled n bs → was ≡ mid → all ≡ put_chunk at was part → new ≡ all → at + length part ≤ length mid
    → filled n new ≡ put_chunk at old part
page_put n at bs mid was all new part old view same value put kept h =
    ap (filled n) (kept ∙ (put ∙ ap (λ (z : List ℕ). put_chunk at z part) value))
    ∙ (filled-put_chunk n at mid part h ∙ ap (λ (z : List ℕ). put_chunk at z part) (same ∙ view))

-- a part that is read once the bytes before its end are written
pub page_read : (n at m : ℕ) (bs mid was old : List ℕ) → filled n bs ≡ old → filled n mid ≡ filled n bs → was ≡ mid → at + m ≤ length mid → chunk at m was ≡ chunk at m old
page_read n at m bs mid was old view same value h = ap (λ (z : List ℕ). chunk at m z) value ∙ (sym (chunk-filled n at m mid h) ∙ ap (λ (z : List ℕ). chunk at m z) (same ∙ view))

pub length-row_by : (w : ℕ) (f : ℕ → ℕ) → length (row_by w f) ≡ w
length-row_by w f = length-map-range_with_len f 0 w

pub part_long : (at n : ℕ) (all : List ℕ) → at + n ≤ length all → length (take ((at + n) - at) (drop at all)) ≡ n
part_long at n all h = ap (λ (m : ℕ). length (take m (drop at all))) (let e : (at + n) - at ≡ n = omega arith in e) ∙ length-chunk at n all h

-- a row whose samples are known one by one, and which is written among others
pub part_written : (at n : ℕ) (all row : List ℕ) (f : ℕ → ℕ) → length row ≡ n → at + n ≤ length all → ((c : ℕ) → c < n → get_or row c 0 ≡ f c) → put_mid at ((at + n) - at) all row ≡ put_chunk at all (row_by n f)
part_written at n all row f long inside each =
    let wide = length-row_by n f in
    ap (λ (z : List ℕ). put_mid at ((at + n) - at) all z) (fill_by_all f row n 0 long each)
    ∙ (ap (λ (m : ℕ). put_mid at m all (row_by n f)) (let e : (at + n) - at ≡ length (row_by n f) = omega arith in e)
    ∙ sym (put_chunk_is at all (row_by n f) (omega arith)))

-- what was written among bytes is below 256, as these are
pub part_small : (at n : ℕ) (all new : List ℕ) (f : ℕ → ℕ) → new ≡ put_chunk at all (row_by n f) → at + n ≤ length all → ((c : ℕ) → get_or new c 0 < 256) → (k : ℕ) → k < n → f k < 256
part_small at n all new f put inside small k less =
    let wide = length-row_by n f in
    subst (λ (m : ℕ). m < 256)
    (ap (λ (z : List ℕ). get_or z (at + k) 0) put
    ∙ (get_or-put_chunk_at at all (row_by n f) k 0 (omega arith) (omega arith)
    ∙ get_or-map-range_with_len f 0 n k k 0 less (omega arith)))
    (small (at + k))

-- a part that is appended once the bytes before it are written
pub page_append : (n at : ℕ) (bs mid new part old : List ℕ) → filled n bs ≡ old → filled n mid ≡ filled n bs → length mid ≡ at → at + length part ≤ n → new ≡ mid ++ part → filled n new ≡ put_chunk at old part
page_append n at bs mid new part old view same long h put =
    ap (filled n) put ∙ (filled-append n at mid part long h ∙ ap (λ (z : List ℕ). put_chunk at z part) (same ∙ view))
