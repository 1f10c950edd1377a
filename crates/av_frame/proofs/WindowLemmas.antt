-- Windows of planes, and planes upside down.
use Rattle.std.proofs.Common.{◌≡◌, ℕ, ◌+◌, ◌-◌, ◌*◌, ◌^◌, ◌<◌, ◌≤◌, List, [], length, get_or, sym, refl, ap, ◌∙◌, arith, Bool, true, false, not, cond}
use Rattle.std.specs.Simd.Lanes.{chunk}
use Rattle.std.proofs.Math.Nat.{mul-le-mul_left}
use Rattle.std.proofs.lemmas.Simd.{length-chunk, get_or-chunk}
use Rattle.std.proofs.lemmas.List.FromFn.{fill_by_all}
use Rattle.av_frame.specs.declared.geometry.Geometry.{Geometry}
use Rattle.av_frame.specs.Rasters.{Raster, sample_of, row_by, raster_by}
use Rattle.av_frame.specs.Geometries.{line, place, rows_at, raster_at, skipped, window_at, upside_down_at, Fitted}
use Rattle.av_frame.proofs.RowLemmas.{get_or-rows_at, length-rows_at, place_inside}

-- the plane whose samples are f
raster_at-by : (g : Geometry) (bs : List ℕ) (f : ℕ → ℕ → ℕ) → Fitted g (length bs)
    → ((r c : ℕ) → r < g.height → c < g.width → get_or bs (place g r + c) 0 ≡ f r c) → raster_at g bs ≡ raster_by g.width g.height f
raster_at-by g bs f fitted each =
    ap (λ (rows : List (List ℕ)). record (raster_at g bs) { rows = rows })
    (fill_by_all (λ (r : ℕ). row_by g.width (f r)) (rows_at g bs) g.height [] (length-rows_at g bs)
    (λ r low.
    get_or-rows_at g bs r low
    ∙ fill_by_all (f r) (chunk (place g r) g.width bs) g.width 0 (length-chunk (place g r) g.width bs (place_inside g (length bs) r fitted low))
    (λ c left. get_or-chunk (place g r) g.width bs c 0 left ∙ each r c low left)))

-- where a sample is among the bytes
sample_place : (g : Geometry) (bs : List ℕ) (r c : ℕ) → r < g.height → c < g.width → get_or bs (place g r + c) 0 ≡ sample_of (raster_at g bs) r c
sample_place g bs r c low left = sym (ap (λ (row : List ℕ). get_or row c 0) (get_or-rows_at g bs r low) ∙ get_or-chunk (place g r) g.width bs c 0 left)

sums : (s a b c : ℕ) → c ≡ a + b → s * c ≡ s * a + s * b
sums s a b c e = let m : s * c ≡ s * (a + b) = ap (λ (n : ℕ). s * n) e in omega arith

skipped_line : (t : Bool) (n y h k : ℕ) → y + h ≤ n → k < h → cond t ((n - 1) - (y + k)) (y + k) ≡ cond t ((n - y) - h) y + cond t ((h - 1) - k) k
skipped_line true n y h k rows low = omega arith
skipped_line false n y h k rows low = refl

skipped_last : (t : Bool) (n y h : ℕ) → 0 < h → y + h ≤ n → cond t ((n - y) - h) y + (h - 1) ≤ n - 1
skipped_last true n y h some rows = omega arith
skipped_last false n y h some rows = omega arith

window_place : (g : Geometry) (x y w h k : ℕ) → y + h ≤ g.height → k < h → place (window_at g x y w h) k ≡ place g (y + k) + x
window_place g x y w h k rows low =
    let m = sums g.stride (skipped g y h) (line (window_at g x y w h) k) (line g (y + k)) (skipped_line g.bottom_up g.height y h k rows low) in
    omega arith

pub window_Fitted : (g : Geometry) (n x y w h : ℕ) → Fitted g n → 0 < h → x + w ≤ g.width → y + h ≤ g.height → Fitted (window_at g x y w h) n
window_Fitted g n x y w h fitted some columns rows =
    let m = mul-le-mul_left g.stride (skipped_last g.bottom_up g.height y h some rows) in
    let d = sums g.stride (skipped g y h) (h - 1) (skipped g y h + (h - 1)) refl in
    let inside = fitted.inside in
    let apart = fitted.apart in
    record { apart = omega arith; some_rows = some; small = fitted.small; inside = omega arith }

-- the offset of a window is below the count of bytes
pub window_small : (g : Geometry) (n x y w h : ℕ) → Fitted g n → 0 < h → x + w ≤ g.width → y + h ≤ g.height → g.offset + x + g.stride * skipped g y h < 2 ^ 32
window_small g n x y w h fitted some columns rows =
    let inside = (window_Fitted g n x y w h fitted some columns rows).inside in
    let small = fitted.small in
    omega arith

pub window_samples : (g v : Geometry) (bs : List ℕ) (x y w h : ℕ) (p : Raster) → raster_at g bs ≡ p → v ≡ window_at g x y w h → Fitted g (length bs) → 0 < h → x + w ≤ p.width → y + h ≤ p.height
    → raster_at v bs ≡ raster_by w h (λ r c. sample_of p (y + r) (x + c))
window_samples g v bs x y w h p e is fitted some columns rows =
    let width : g.width ≡ p.width = ap (λ (z : Raster). z.width) e in
    let height : g.height ≡ p.height = ap (λ (z : Raster). z.height) e in
    let inside : y + h ≤ g.height = omega arith in
    let part = window_at g x y w h in
    ap (λ (z : Geometry). raster_at z bs) is
    ∙ raster_at-by part bs (λ r c. sample_of p (y + r) (x + c)) (window_Fitted g (length bs) x y w h fitted some (omega arith) inside)
    (λ r c low left.
    let at : place part r ≡ place g (y + r) + x = window_place g x y w h r inside low in
    let same : place part r + c ≡ place g (y + r) + (x + c) = omega arith in
    ap (λ (j : ℕ). get_or bs j 0) same
    ∙ (sample_place g bs (y + r) (x + c) (omega arith) (omega arith)
    ∙ ap (λ (z : Raster). sample_of z (y + r) (x + c)) e))

upside_down_line : (t : Bool) (n k : ℕ) → k < n → cond (not t) ((n - 1) - k) k ≡ cond t ((n - 1) - ((n - 1) - k)) ((n - 1) - k)
upside_down_line true n k low = omega arith
upside_down_line false n k low = refl

pub upside_down_Fitted : (g : Geometry) (n : ℕ) → Fitted g n → Fitted (upside_down_at g) n
upside_down_Fitted g n fitted = record { apart = fitted.apart; some_rows = fitted.some_rows; small = fitted.small; inside = fitted.inside }

pub upside_down_samples : (g v : Geometry) (bs : List ℕ) (p : Raster) → raster_at g bs ≡ p → v ≡ upside_down_at g → Fitted g (length bs)
    → raster_at v bs ≡ raster_by p.width p.height (λ r c. sample_of p ((p.height - 1) - r) c)
upside_down_samples g v bs p e is fitted =
    let turned = upside_down_at g in
    ap (λ (z : Geometry). raster_at z bs) is
    ∙ (raster_at-by turned bs (λ r c. sample_of (raster_at g bs) ((g.height - 1) - r) c) (upside_down_Fitted g (length bs) fitted)
    (λ r c low left.
    let at : place turned r ≡ place g ((g.height - 1) - r) = ap (λ (n : ℕ). g.offset + g.stride * n) (upside_down_line g.bottom_up g.height r low) in
    ap (λ (j : ℕ). get_or bs (j + c) 0) at
    ∙ sample_place g bs ((g.height - 1) - r) c (omega arith) left)
    ∙ ap (λ (z : Raster). raster_by z.width z.height (λ r c. sample_of z ((z.height - 1) - r) c)) e)
