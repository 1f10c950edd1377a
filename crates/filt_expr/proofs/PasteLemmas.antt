-- Rows into which a part of another is copied.
use Rattle.std.proofs.Common.{◌≡◌, ◌<◌, ◌≤◌, ◌+◌, ◌-◌, ℕ, Bool, true, false, List, length, get_or, take, drop, ◌++◌, min, ap, sym, ◌∙◌, refl, arith}
use Rattle.std.specs.Prelude.{nat_le, nat_lt, if◌then◌else◌}
use Rattle.std.specs.Simd.Lanes.{put_chunk}
use Rattle.std.proofs.lemmas.Bool.{leb-true, leb-false, ltb-true, ltb-false}
use Rattle.std.proofs.lemmas.Simd.{put_chunk_is, get_or-put_chunk_below, get_or-put_chunk_above, get_or-put_chunk_at}
use Rattle.filt_expr.specs.Paste.{is_among}

chunk_at : (xs ys : List ℕ) (b left columns k : ℕ) (f : ℕ → ℕ) (p q : Bool) → nat_le left k ≡ p → nat_lt k (left + columns) ≡ q
    → b ≡ min (length xs) left → length ys ≡ min (length xs) (left + columns) - b → ((c : ℕ) → c < length ys → get_or ys c 0 ≡ f c) → k < length xs
    → get_or (put_chunk b xs ys) k 0 ≡ (if is_among left columns k then f (k - left) else get_or xs k 0)
chunk_at xs ys b left columns k f false q ep eq is long parts less =
    let before = leb-false left k ep in
    rw ep (get_or-put_chunk_below b xs ys k 0 (omega (arith, is, before, less)))
chunk_at xs ys b left columns k f true false ep eq is long parts less =
    let from = leb-true left k ep in
    let past = ltb-false k (left + columns) eq in
    rw (ep, eq) (get_or-put_chunk_above b xs ys k 0 (omega (arith, is, long, from, past, less)))
chunk_at xs ys b left columns k f true true ep eq is long parts less =
    let from = leb-true left k ep in
    let within = ltb-true k (left + columns) eq in
    let same : b ≡ left = omega (arith, is, from, less) in
    let inside : k - left < length ys = omega (arith, same, long, from, within, less) in
    let at : k ≡ b + (k - left) = omega (arith, same, from) in
    let whole : b + length ys ≤ length xs = omega (arith, same, long, from, less) in
    rw (ep, eq) (ap (λ (i : ℕ). get_or (put_chunk b xs ys) i 0) at ∙ (get_or-put_chunk_at b xs ys (k - left) 0 inside whole ∙ parts (k - left) inside))

-- what a row holds into which `ys` was put
pub pasted : (xs ys : List ℕ) (b e left columns k : ℕ) (f : ℕ → ℕ) → b ≡ min (length xs) left → e ≡ min (length xs) (left + columns)
    → length ys ≡ e - b → ((c : ℕ) → c < e - b → get_or ys c 0 ≡ f c) → k < length xs
    → get_or (take b xs ++ (ys ++ drop (e - b) (drop b xs))) k 0 ≡ (if is_among left columns k then f (k - left) else get_or xs k 0)
pasted xs ys b e left columns k f is end long parts less =
    let fits : b + length ys ≤ length xs = omega (arith, is, end, long) in
    rw (sym long) (rw (sym (put_chunk_is b xs ys fits)) (chunk_at xs ys b left columns k f (nat_le left k) (nat_lt k (left + columns)) refl refl is (long ∙ ap (λ (n : ℕ). n - b) end) (λ c h. parts c (omega (arith, long, h))) less))
