-- Rows among bytes.
use Rattle.std.proofs.Common.{◌≡◌, ◌≢◌, ℕ, zero, suc, ◌+◌, ◌-◌, ◌*◌, ◌^◌, ◌<◌, ◌≤◌, List, [], ◌∷◌, length, get_or, set, take, replicate, sym, refl, ap, ◌∙◌, arith, Bool, true, false, cond, ⊎_elim, ◌⊎◌, inl, inr, subst}
use Rattle.std.specs.Simd.Lanes.{chunk, put_chunk}
use Rattle.std.proofs.Math.Nat.{mul-le-mul_left, mul-suc}
use Rattle.std.proofs.lemmas.Simd.{length-chunk, get_or-chunk, get_or-put_chunk_below, get_or-put_chunk_at, get_or-put_chunk_above, length-put_chunk}
use Rattle.std.proofs.lemmas.List.{ext_get_or, length-set, length-replicate, get_or-replicate, get_or-set_same, get_or-set_other, take-replicate, drop-replicate}
use Rattle.std.proofs.lemmas.List.FromFn.{get_or-map-range_with_len, length-map-range_with_len}
use Rattle.std.proofs.lemmas.Bool.{cases_lt, cases_eq}
use Rattle.av_frame.proofs.Chunks.{put_chunk_none, put_chunk-chunk, chunk-chunk}
use Rattle.av_frame.specs.declared.geometry.Geometry.{Geometry}
use Rattle.av_frame.specs.Rasters.{Raster, row_of, sample_of, blank_raster}
use Rattle.av_frame.specs.Geometries.{line, place, rows_at, raster_at, Fitted}

pub get_or-rows_at : (g : Geometry) (bs : List ℕ) (r : ℕ) → r < g.height → get_or (rows_at g bs) r [] ≡ chunk (place g r) g.width bs
get_or-rows_at g bs r h = get_or-map-range_with_len (λ (k : ℕ). chunk (place g k) g.width bs) 0 g.height r r [] h (omega arith)

pub length-rows_at : (g : Geometry) (bs : List ℕ) → length (rows_at g bs) ≡ g.height
length-rows_at g bs = length-map-range_with_len (λ (k : ℕ). chunk (place g k) g.width bs) 0 g.height

-- what was put there is read back
pub chunk-put_chunk_same : (p w : ℕ) (bs row : List ℕ) → length row ≡ w → p + w ≤ length bs → chunk p w (put_chunk p bs row) ≡ row
chunk-put_chunk_same p w bs row e h =
    let n = length-put_chunk p bs row in
    let l : length (chunk p w (put_chunk p bs row)) ≡ w = length-chunk p w (put_chunk p bs row) (omega arith) in
    ext_get_or 0 (chunk p w (put_chunk p bs row)) row (l ∙ sym e)
    (λ k b. get_or-chunk p w (put_chunk p bs row) k 0 (omega arith) ∙ get_or-put_chunk_at p bs row k 0 (omega arith) (omega arith))

-- a part beside it stays
pub chunk-put_chunk_apart : (p q w : ℕ) (bs row : List ℕ) → (q + w ≤ p) ⊎ (p + length row ≤ q) → q + w ≤ length bs → chunk q w (put_chunk p bs row) ≡ chunk q w bs
chunk-put_chunk_apart p q w bs row apart h =
    let n = length-put_chunk p bs row in
    let l : length (chunk q w (put_chunk p bs row)) ≡ w = length-chunk q w (put_chunk p bs row) (omega arith) in
    let l' : length (chunk q w bs) ≡ w = length-chunk q w bs h in
    ext_get_or 0 (chunk q w (put_chunk p bs row)) (chunk q w bs) (l ∙ sym l')
    (λ k b. let less : k < w = omega arith in
    get_or-chunk q w (put_chunk p bs row) k 0 less
    ∙ (⊎_elim (λ (f : q + w ≤ p). get_or-put_chunk_below p bs row (q + k) 0 (omega arith)) (λ (f : p + length row ≤ q). get_or-put_chunk_above p bs row (q + k) 0 (omega arith)) apart
    ∙ sym (get_or-chunk q w bs k 0 less)))

line_apart : (t : Bool) (h r k : ℕ) → r < h → k < h → (k ≡ r → ⊥) → cond t ((h - 1) - k) k ≡ cond t ((h - 1) - r) r → ⊥
line_apart true h r k a b ne e = ne (omega arith)
line_apart false h r k a b ne e = ne e

line_below : (t : Bool) (h r : ℕ) → r < h → cond t ((h - 1) - r) r ≤ h - 1
line_below true h r a = omega arith
line_below false h r a = omega arith

steps_apart : (s i j w : ℕ) → w ≤ s → i < j → s * i + w ≤ s * j
steps_apart s i j w h l = let m = (let next : i + 1 ≤ j = omega arith in mul-le-mul_left s next) in omega arith

pub place_apart : (g : Geometry) (n r k : ℕ) → Fitted g n → r < g.height → k < g.height → (k ≡ r → ⊥) → (place g k + g.width ≤ place g r) ⊎ (place g r + g.width ≤ place g k)
place_apart g n r k f a b ne =
    let differ = line_apart g.bottom_up g.height r k a b ne in
    let apart = f.apart in
    ⊎_elim (λ (l : line g k < line g r). inl (let m = steps_apart g.stride (line g k) (line g r) g.width apart l in omega arith))
    (λ (l : line g r ≤ line g k). inr (let m = steps_apart g.stride (line g r) (line g k) g.width apart (let ne2 : line g k ≢ line g r = differ in omega arith) in omega arith))
    (cases_lt (line g k) (line g r))

pub place_inside : (g : Geometry) (n r : ℕ) → Fitted g n → r < g.height → place g r + g.width ≤ n
place_inside g n r f a =
    let m = mul-le-mul_left g.stride (line_below g.bottom_up g.height r a) in
    let i = f.inside in
    omega arith

-- a row that is written: that row, and no other
pub rows_at-put_chunk : (g : Geometry) (bs row : List ℕ) (r : ℕ) → Fitted g (length bs) → r < g.height → length row ≡ g.width → rows_at g (put_chunk (place g r) bs row) ≡ set (rows_at g bs) r row
rows_at-put_chunk g bs row r f a e =
    let new = put_chunk (place g r) bs row in
    let l = length-rows_at g new in
    let l' = length-rows_at g bs in
    let inside = place_inside g (length bs) r f a in
    ext_get_or [] (rows_at g new) (set (rows_at g bs) r row) (l ∙ sym (length-set (rows_at g bs) r row ∙ l'))
    (λ k b. let less : k < g.height = omega arith in
    get_or-rows_at g new k less
    ∙ ⊎_elim
    (λ (q : k ≡ r). ap (λ (j : ℕ). chunk (place g j) g.width new) q
    ∙ (chunk-put_chunk_same (place g r) g.width bs row e inside
    ∙ sym (ap (λ (j : ℕ). get_or (set (rows_at g bs) r row) j []) q ∙ get_or-set_same (rows_at g bs) r row [] (omega arith))))
    (λ (q : k ≡ r → ⊥). chunk-put_chunk_apart (place g r) (place g k) g.width bs row
    (⊎_elim inl (λ (i : place g r + g.width ≤ place g k). inr (omega arith)) (place_apart g (length bs) r k f a less q)) (place_inside g (length bs) k f less)
    ∙ (sym (get_or-rows_at g bs k less) ∙ sym (get_or-set_other (rows_at g bs) r k row [] q)))
    (cases_eq k r))

pub raster_row : (g : Geometry) (bs bs' row : List ℕ) (r p : ℕ) (x : Raster) → raster_at g bs ≡ x → bs' ≡ put_chunk p bs row → p ≡ place g r → Fitted g (length bs) → r < x.height → length row ≡ x.width → raster_at g bs' ≡ record x { rows = set x.rows r row }
raster_row g bs bs' row r p x e put at f a wide =
    let h : g.height ≡ x.height = ap (λ (y : Raster). y.height) e in
    let w : g.width ≡ x.width = ap (λ (y : Raster). y.width) e in
    ap (λ (z : List ℕ). raster_at g z) (put ∙ ap (λ (j : ℕ). put_chunk j bs row) at)
    ∙ (ap (λ (rows : List (List ℕ)). record (raster_at g bs) { rows = rows }) (rows_at-put_chunk g bs row r f (omega arith) (omega arith))
    ∙ ap (λ (y : Raster). record y { rows = set y.rows r row }) e)

put_one : (xs : List ℕ) (c v : ℕ) → put_chunk c xs (v ∷ []) ≡ set xs c v
put_one [] c v = refl
put_one (x ∷ xs) zero v = ap (λ (z : List ℕ). v ∷ z) (put_chunk_none 0 xs)
put_one (x ∷ xs) (suc c) v = ap (λ (z : List ℕ). x ∷ z) (put_one xs c v)

pub raster_sample : (g : Geometry) (bs bs' : List ℕ) (r c v p : ℕ) (x : Raster) → raster_at g bs ≡ x → bs' ≡ put_chunk (p + c) bs (v ∷ []) → p ≡ place g r → Fitted g (length bs) → r < x.height → c < x.width → raster_at g bs' ≡ record x { rows = set x.rows r (set (row_of x r) c v) }
raster_sample g bs bs' r c v p x e put at f a b =
    let h : g.height ≡ x.height = ap (λ (y : Raster). y.height) e in
    let w : g.width ≡ x.width = ap (λ (y : Raster). y.width) e in
    let old = chunk (place g r) g.width bs in
    let less : r < g.height = omega arith in
    let room : c + 1 ≤ g.width = omega arith in
    let wide : length (set old c v) ≡ x.width = length-set old c v ∙ (length-chunk (place g r) g.width bs (place_inside g (length bs) r f less) ∙ w) in
    let whole : bs' ≡ put_chunk (place g r) bs (set old c v) =
    put
    ∙ (ap (λ (j : ℕ). put_chunk (j + c) bs (v ∷ [])) at
    ∙ (sym (put_chunk-chunk bs (v ∷ []) (place g r) c g.width (place g r + c) refl room)
    ∙ ap (λ (z : List ℕ). put_chunk (place g r) bs z) (put_one old c v))) in
    let here : old ≡ row_of x r = sym (get_or-rows_at g bs r less) ∙ ap (λ (y : Raster). row_of y r) e in
    raster_row g bs bs' (set old c v) r (place g r) x e whole refl f a wide ∙ ap (λ (z : List ℕ). record x { rows = set x.rows r (set z c v) }) here

pub raster_sample_read : (g : Geometry) (bs one : List ℕ) (r c p n : ℕ) → one ≡ chunk (p + c) n bs → n ≡ 1 → p ≡ place g r → r < g.height → c < g.width → get_or one 0 0 ≡ sample_of (raster_at g bs) r c
raster_sample_read g bs one r c p n e en ep a b =
    let z : (p + c) + 0 ≡ place g r + c = omega arith in
    ap (λ (l : List ℕ). get_or l 0 0) e
    ∙ (get_or-chunk (p + c) n bs 0 0 (omega arith)
    ∙ (ap (λ (j : ℕ). get_or bs j 0) z
    ∙ sym (ap (λ (l : List ℕ). get_or l c 0) (get_or-rows_at g bs r a) ∙ get_or-chunk (place g r) g.width bs c 0 b)))

pub raster_blank : (g : Geometry) (bs : List ℕ) → Fitted g (length bs) → bs ≡ replicate (length bs) 0 → raster_at g bs ≡ blank_raster g.width g.height
raster_blank g bs f e =
    let n = length bs in
    let l = length-rows_at g bs in
    let rows : rows_at g bs ≡ replicate g.height (replicate g.width 0) =
    ext_get_or [] (rows_at g bs) (replicate g.height (replicate g.width 0)) (l ∙ sym (length-replicate g.height (replicate {A = ℕ} g.width 0)))
    (λ k b. let less : k < g.height = omega arith in
    let inside = place_inside g n k f less in
    get_or-rows_at g bs k less
    ∙ (ap (λ (z : List ℕ). chunk (place g k) g.width z) e
    ∙ (ap (λ (z : List ℕ). take g.width z) (drop-replicate (place g k) n 0)
    ∙ (take-replicate g.width (n - place g k) 0 (omega arith)
    ∙ sym (get_or-replicate g.height k (replicate {A = ℕ} g.width 0) [] less))))) in
    ap (λ (z : List (List ℕ)). record (raster_at g bs) { rows = z }) rows

last_row_inside : (s w h : ℕ) → w ≤ s → 0 < h → s * (h - 1) + w ≤ s * h
last_row_inside s w zero wide some = absurd (omega arith)
last_row_inside s w (suc h) wide some =
    let whole = mul-suc s h in
    let P : ℕ → Type 0 = λ k. s * k + w ≤ s * suc h in
    subst P (let e : h ≡ suc h - 1 = omega arith in e) (omega arith)

-- zeros stand for a blank plane
pub raster_at-blank : (s w h : ℕ) (bs : List ℕ) → w ≤ s → s ≤ 2 ^ 13 → 0 < h → h ≤ 2 ^ 13 → bs ≡ replicate (s * h) 0
    → raster_at (record { offset = 0; stride = s; width = w; height = h; bottom_up = false }) bs ≡ blank_raster w h
raster_at-blank s w h bs wide narrow some low zeros =
    let long : length bs ≡ s * h = ap (λ (z : List ℕ). length z) zeros ∙ length-replicate {A = ℕ} (s * h) 0 in
    let area = mul-le-mul_left s low in
    let last = last_row_inside s w h wide some in
    raster_blank (record { offset = 0; stride = s; width = w; height = h; bottom_up = false }) bs
    (record { apart = wide; some_rows = some; small = omega arith; inside = omega arith })
    (zeros ∙ ap (λ (n : ℕ). replicate n 0) (sym long))

-- a part of a row that is read
pub part_read : (g : Geometry) (bs out : List ℕ) (r c p n : ℕ) (x : Raster) → raster_at g bs ≡ x → out ≡ chunk (p + c) n bs → p ≡ place g r → r < x.height → c + n ≤ x.width → out ≡ chunk c n (row_of x r)
part_read g bs out r c p n x e read at less wide =
    let h : g.height ≡ x.height = ap (λ (y : Raster). y.height) e in
    let w : g.width ≡ x.width = ap (λ (y : Raster). y.width) e in
    read
    ∙ (ap (λ (j : ℕ). chunk (j + c) n bs) at
    ∙ (sym (chunk-chunk (place g r) c n g.width (place g r + c) bs refl (omega arith))
    ∙ ap (λ (z : List ℕ). chunk c n z) (sym (get_or-rows_at g bs r (omega arith)) ∙ ap (λ (y : Raster). row_of y r) e)))

-- a sample that is read
pub sample_read : (g : Geometry) (bs one : List ℕ) (r c p n : ℕ) (x : Raster) → raster_at g bs ≡ x → one ≡ chunk (p + c) n bs → n ≡ 1 → p ≡ place g r → r < x.height → c < x.width → get_or one 0 0 ≡ sample_of x r c
sample_read g bs one r c p n x e read single at low left =
    let h : g.height ≡ x.height = ap (λ (y : Raster). y.height) e in
    let w : g.width ≡ x.width = ap (λ (y : Raster). y.width) e in
    raster_sample_read g bs one r c p n read single at (omega arith) (omega arith) ∙ ap (λ (y : Raster). sample_of y r c) e

-- a row that is read
pub row_read : (g : Geometry) (bs : List ℕ) (r p : ℕ) (x : Raster) → raster_at g bs ≡ x → p ≡ place g r → r < x.height → chunk p g.width bs ≡ row_of x r
row_read g bs r p x e at low =
    let h : g.height ≡ x.height = ap (λ (y : Raster). y.height) e in
    ap (λ (j : ℕ). chunk j g.width bs) at ∙ (sym (get_or-rows_at g bs r (omega arith)) ∙ ap (λ (y : Raster). row_of y r) e)

-- a part of a row that is written
pub raster_part : (g : Geometry) (bs bs' part : List ℕ) (r c p : ℕ) (x : Raster) → raster_at g bs ≡ x → bs' ≡ put_chunk (p + c) bs part → p ≡ place g r → Fitted g (length bs) → r < x.height → c + length part ≤ x.width
    → raster_at g bs' ≡ record x { rows = set x.rows r (put_chunk c (row_of x r) part) }
raster_part g bs bs' part r c p x e put at f a b =
    let h : g.height ≡ x.height = ap (λ (y : Raster). y.height) e in
    let w : g.width ≡ x.width = ap (λ (y : Raster). y.width) e in
    let old = chunk (place g r) g.width bs in
    let less : r < g.height = omega arith in
    let wide : length (put_chunk c old part) ≡ x.width = length-put_chunk c old part ∙ (length-chunk (place g r) g.width bs (place_inside g (length bs) r f less) ∙ w) in
    let whole : bs' ≡ put_chunk (place g r) bs (put_chunk c old part) =
    put
    ∙ (ap (λ (j : ℕ). put_chunk (j + c) bs part) at
    ∙ sym (put_chunk-chunk bs part (place g r) c g.width (place g r + c) refl (omega arith))) in
    let here : old ≡ row_of x r = sym (get_or-rows_at g bs r less) ∙ ap (λ (y : Raster). row_of y r) e in
    raster_row g bs bs' (put_chunk c old part) r (place g r) x e whole refl f a wide ∙ ap (λ (z : List ℕ). record x { rows = set x.rows r (put_chunk c z part) }) here

-- a sample of a column that is read
pub column_read : (g : Geometry) (bs : List ℕ) (r c v : ℕ) (x : Raster) → raster_at g bs ≡ x → v ≡ get_or bs (place g r + c) 0 → r < x.height → c < x.width → v ≡ sample_of x r c
column_read g bs r c v x e read low left =
    let h : g.height ≡ x.height = ap (λ (y : Raster). y.height) e in
    let w : g.width ≡ x.width = ap (λ (y : Raster). y.width) e in
    read
    ∙ (sym (ap (λ (l : List ℕ). get_or l c 0) (get_or-rows_at g bs r (omega arith)) ∙ get_or-chunk (place g r) g.width bs c 0 (omega arith))
    ∙ ap (λ (y : Raster). sample_of y r c) e)
