-- Planes of a picture.
use Rattle.std.proofs.Common.{◌≡◌, ◌≢◌, ℕ, zero, suc, ◌≤◌, ◌+◌, ◌<◌, List, [], ◌∷◌, ◌++◌, length, get_or, set, replicate, map, ap, sym, ◌∙◌, subst, arith, ⊎_elim}
use Rattle.std.specs.List.{range_with_len}
use Rattle.std.proofs.lemmas.List.{length-set, length-replicate, get_or-replicate, get_or-set_same, get_or-set_other, get_or_default, get_or_past}
use Rattle.std.proofs.lemmas.List.FromFn.{get_or-map-range_with_len, length-map-range_with_len, map-range_with_len_more}
use Rattle.std.proofs.lemmas.Bool.{cases_eq, cases_lt}
use Rattle.std.proofs.lemmas.Simd.{length-put_chunk}
use Rattle.std.specs.Simd.Lanes.{put_chunk}
use Rattle.av_frame.proofs.Chunks.{put_chunk_none}
use Rattle.av_base.specs.declared.shapes.Shape.{Shape}
use Rattle.av_base.specs.Shapes.{IsLawful, IsVideo, planes_of, columns_of, rows_of}
use Rattle.av_frame.specs.Rasters.{Raster, IsRaster, row_of, sample_of, blank_raster}
use Rattle.av_frame.specs.Frames.{EditValue, plane_at, IsPicture, blank_planes}

-- every row of a blank plane is blank
IsRaster-blank : (w h : ℕ) → IsRaster (blank_raster w h)
IsRaster-blank w h = record {
  rows_long = length-replicate h (replicate {A = ℕ} w 0);
  row_long = λ r less. ap (λ (row : List ℕ). length row) (get_or-replicate h r (replicate {A = ℕ} w 0) [] less) ∙ length-replicate {A = ℕ} w 0;
}

plane_at-blank : (shape : Shape) (p : ℕ) → p < planes_of shape → plane_at (blank_planes shape) p ≡ blank_raster (columns_of shape p) (rows_of shape p)
plane_at-blank shape p less =
    get_or-map-range_with_len (λ (q : ℕ). blank_raster (columns_of shape q) (rows_of shape q)) 0 (planes_of shape) p p (blank_raster 0 0) less (omega arith)

length-blank_planes : (shape : Shape) → length (blank_planes shape) ≡ planes_of shape
length-blank_planes shape = length-map-range_with_len (λ (q : ℕ). blank_raster (columns_of shape q) (rows_of shape q)) 0 (planes_of shape)

sample_of-blank : (w h r c : ℕ) → sample_of (blank_raster w h) r c < 256
sample_of-blank w h r c =
    ⊎_elim
    (λ (low : r < h). ap_less (ap (λ (row : List ℕ). get_or row c 0) (get_or-replicate h r (replicate {A = ℕ} w 0) [] low)) (zero_at w c))
    (λ (high : h ≤ r). ap_less (ap (λ (row : List ℕ). get_or row c 0) (get_or_past (replicate h (replicate {A = ℕ} w 0)) r [] (let e = length-replicate h (replicate {A = ℕ} w 0) in omega arith))) (omega arith))
    (cases_lt r h)
  where
    ap_less : {m n : ℕ} → m ≡ n → n < 256 → m < 256
    ap_less e less = omega arith

    zero_at : (w c : ℕ) → get_or (replicate w 0) c 0 < 256
    zero_at w c =
        ⊎_elim
        (λ (low : c < w). ap_less (get_or-replicate w c 0 0 low) (omega arith))
        (λ (high : w ≤ c). ap_less (get_or_past (replicate w 0) c 0 (let e = length-replicate {A = ℕ} w 0 in omega arith)) (omega arith))
        (cases_lt c w)

pub IsPicture-blank : (shape : Shape) (planes : List Raster) → IsLawful shape → IsVideo shape.format → planes ≡ blank_planes shape → IsPicture shape planes
IsPicture-blank shape planes lawful video e = subst (IsPicture shape) (sym e) record {
  lawful = lawful;
  video = video;
  sizes = record {
    count = length-blank_planes shape;
    width = λ p less. ap (λ (x : Raster). x.width) (plane_at-blank shape p less);
    height = λ p less. ap (λ (x : Raster). x.height) (plane_at-blank shape p less);
    rows = λ p less. subst IsRaster (sym (plane_at-blank shape p less)) (IsRaster-blank (columns_of shape p) (rows_of shape p));
  };
  samples = λ p r c.
      ⊎_elim
      (λ (low : p < planes_of shape). subst (λ (x : Raster). sample_of x r c < 256) (sym (plane_at-blank shape p low)) (sample_of-blank (columns_of shape p) (rows_of shape p) r c))
      (λ (high : planes_of shape ≤ p). subst (λ (x : Raster). sample_of x r c < 256) (sym (get_or_past (blank_planes shape) p (blank_raster 0 0) (let e = length-blank_planes shape in omega arith))) (sample_of-blank 0 0 r c))
      (cases_lt p (planes_of shape));
}

-- a plane with another row is a plane still
IsRaster-set : (x : Raster) (r : ℕ) (row : List ℕ) → IsRaster x → r < x.height → length row ≡ x.width → IsRaster (record x { rows = set x.rows r row })
IsRaster-set x r row is less long = record {
  rows_long = length-set x.rows r row ∙ is.rows_long;
  row_long = λ k below.
      ⊎_elim
      (λ (q : k ≡ r). ap (λ (j : ℕ). length (get_or (set x.rows r row) j [])) q
      ∙ (ap (λ (z : List ℕ). length z) (get_or-set_same x.rows r row [] (let rows = is.rows_long in omega arith)) ∙ long))
      (λ (q : k ≢ r). ap (λ (z : List ℕ). length z) (get_or-set_other x.rows r k row [] q) ∙ is.row_long k below)
      (cases_eq k r);
}

-- and its samples have eight bits still
sample_of-set : (x : Raster) (r : ℕ) (row : List ℕ) → ((k c : ℕ) → sample_of x k c < 256) → ((c : ℕ) → get_or row c 0 < 256) → (k c : ℕ) → sample_of (record x { rows = set x.rows r row }) k c < 256
sample_of-set x r row small bytes k c =
    ⊎_elim
    (λ (q : k ≡ r). ⊎_elim
    (λ (low : r < length x.rows). let e = ap (λ (z : List ℕ). get_or z c 0) (ap (λ (j : ℕ). get_or (set x.rows r row) j []) q ∙ get_or-set_same x.rows r row [] low) in let b = bytes c in omega arith)
    (λ (high : length x.rows ≤ r). let e = ap (λ (z : List ℕ). get_or z c 0) (get_or_past (set x.rows r row) k [] (let n = length-set x.rows r row in omega arith)) in omega arith)
    (cases_lt r (length x.rows)))
    (λ (q : k ≢ r). let e = ap (λ (z : List ℕ). get_or z c 0) (get_or-set_other x.rows r k row [] q) in let b = small k c in omega arith)
    (cases_eq k r)

-- a picture with another plane of the same size is a picture still
pub IsPicture-set : (shape : Shape) (planes : List Raster) (p : ℕ) (y : Raster) → IsPicture shape planes → p < planes_of shape
    → y.width ≡ (plane_at planes p).width → y.height ≡ (plane_at planes p).height → IsRaster y → ((r c : ℕ) → sample_of y r c < 256) → IsPicture shape (set planes p y)
IsPicture-set shape planes p y is less width height raster small = record {
  lawful = is.lawful;
  video = is.video;
  sizes = record {
    count = length-set planes p y ∙ is.sizes.count;
    width = λ k below. by_cases (λ (x : Raster). x.width ≡ columns_of shape k) k (λ q. width ∙ (is.sizes.width p less ∙ ap (columns_of shape) (sym q))) (is.sizes.width k below);
    height = λ k below. by_cases (λ (x : Raster). x.height ≡ rows_of shape k) k (λ q. height ∙ (is.sizes.height p less ∙ ap (rows_of shape) (sym q))) (is.sizes.height k below);
    rows = λ k below. by_cases IsRaster k (λ q. raster) (is.sizes.rows k below);
  };
  samples = λ k r c. by_cases (λ (x : Raster). sample_of x r c < 256) k (λ q. small r c) (is.samples k r c);
} where
  by_cases : (P : Raster → Type 0) (k : ℕ) → (k ≡ p → P y) → P (plane_at planes k) → P (plane_at (set planes p y) k)
  by_cases P k here other =
      ⊎_elim
      (λ (q : k ≡ p). subst P (sym (ap (λ (j : ℕ). plane_at (set planes p y) j) q ∙ get_or-set_same planes p y (blank_raster 0 0) (let count = is.sizes.count in omega arith))) (here q))
      (λ (q : k ≢ p). subst P (sym (get_or-set_other planes p k y (blank_raster 0 0) q)) other)
      (cases_eq k p)

-- a picture with another row, as a write through its list of planes says it
pub IsPicture-row : (shape : Shape) (planes : List Raster) (p r : ℕ) (x y : Raster) (row : List ℕ) → IsPicture shape planes → p < planes_of shape → x ≡ get_or planes p x → y ≡ record x { rows = set x.rows r row }
    → r < (plane_at planes p).height → length row ≡ (plane_at planes p).width → ((c : ℕ) → get_or row c 0 < 256) → IsPicture shape (set planes p y)
IsPicture-row shape planes p r x y row is less found put low long bytes =
    let same : plane_at planes p ≡ x = get_or_default planes p (blank_raster 0 0) x (let count = is.sizes.count in omega arith) ∙ sym found in
    let height = ap (λ (z : Raster). z.height) same in
    let width = ap (λ (z : Raster). z.width) same in
    subst (λ (z : Raster). IsPicture shape (set planes p z)) (sym put)
    (IsPicture-set shape planes p (record x { rows = set x.rows r row }) is less (sym width) (sym height)
    (IsRaster-set x r row (subst IsRaster same (is.sizes.rows p less)) (omega arith) (omega arith))
    (sample_of-set x r row (λ k c. subst (λ (z : Raster). sample_of z k c < 256) same (is.samples p k c)) bytes))

-- the same, of an edit as its value says it
pub IsPicture-set_row : (shape : Shape) (planes : List Raster) (v : EditValue) (p r : ℕ) (x y : Raster) (row : List ℕ) → record { shape = shape; planes = planes } ≡ v → IsPicture shape planes
    → p < planes_of v.shape → x ≡ get_or planes p x → y ≡ record x { rows = set x.rows r row } → r < (plane_at v.planes p).height → length row ≡ (plane_at v.planes p).width → ((c : ℕ) → get_or row c 0 < 256) → IsPicture shape (set planes p y)
IsPicture-set_row shape planes v p r x y row view is less found put low long bytes =
    let count = ap (λ (e : EditValue). planes_of e.shape) view in
    let height = ap (λ (e : EditValue). (plane_at e.planes p).height) view in
    let width = ap (λ (e : EditValue). (plane_at e.planes p).width) view in
    IsPicture-row shape planes p r x y row is (omega arith) found put (omega arith) (omega arith) bytes

get_or-set_small : (xs : List ℕ) (i x : ℕ) → ((k : ℕ) → get_or xs k 0 < 256) → x < 256 → (k : ℕ) → get_or (set xs i x) k 0 < 256
get_or-set_small [] i x small less k = omega arith
get_or-set_small (y ∷ ys) zero x small less zero = less
get_or-set_small (y ∷ ys) zero x small less (suc k) = small (suc k)
get_or-set_small (y ∷ ys) (suc i) x small less zero = small 0
get_or-set_small (y ∷ ys) (suc i) x small less (suc k) = get_or-set_small ys i x (λ j. small (suc j)) less k

pub IsPicture-set_sample : (shape : Shape) (planes : List Raster) (v : EditValue) (p r c s : ℕ) (x y : Raster) → record { shape = shape; planes = planes } ≡ v → IsPicture shape planes
    → p < planes_of v.shape → x ≡ get_or planes p x → y ≡ record x { rows = set x.rows r (set (row_of x r) c s) } → r < (plane_at v.planes p).height → s < 256 → IsPicture shape (set planes p y)
IsPicture-set_sample shape planes v p r c s x y view is less found put low small =
    let count = ap (λ (e : EditValue). planes_of e.shape) view in
    let within : p < planes_of shape = omega arith in
    let here = ap (λ (e : EditValue). plane_at e.planes p) view in
    let same : plane_at planes p ≡ x = get_or_default planes p (blank_raster 0 0) x (let many = is.sizes.count in omega arith) ∙ sym found in
    let height = ap (λ (z : Raster). z.height) here in
    let long : length (row_of x r) ≡ x.width = subst (λ (z : Raster). length (row_of z r) ≡ z.width) same ((is.sizes.rows p within).row_long r (omega arith)) in
    let width : x.width ≡ (plane_at v.planes p).width = ap (λ (z : Raster). z.width) (sym same ∙ here) in
    IsPicture-set_row shape planes v p r x y (set (row_of x r) c s) view is less found put low (length-set (row_of x r) c s ∙ (long ∙ width))
    (get_or-set_small (row_of x r) c s (λ k. subst (λ (z : Raster). sample_of z r k < 256) same (is.samples p r k)) small)

get_or-put_chunk_small : (at : ℕ) (xs part : List ℕ) → ((k : ℕ) → get_or xs k 0 < 256) → ((k : ℕ) → get_or part k 0 < 256) → (k : ℕ) → get_or (put_chunk at xs part) k 0 < 256
get_or-put_chunk_small at [] part small bytes k = small k
get_or-put_chunk_small zero (x ∷ xs) [] small bytes k = subst (λ (z : List ℕ). get_or z k 0 < 256) (sym (put_chunk_none 0 (x ∷ xs))) (small k)
get_or-put_chunk_small zero (x ∷ xs) (y ∷ ys) small bytes zero = bytes 0
get_or-put_chunk_small zero (x ∷ xs) (y ∷ ys) small bytes (suc k) = get_or-put_chunk_small zero xs ys (λ j. small (suc j)) (λ j. bytes (suc j)) k
get_or-put_chunk_small (suc a) (x ∷ xs) part small bytes zero = small 0
get_or-put_chunk_small (suc a) (x ∷ xs) part small bytes (suc k) = get_or-put_chunk_small a xs part (λ j. small (suc j)) bytes k

pub IsPicture-set_part : (shape : Shape) (planes : List Raster) (v : EditValue) (p r c : ℕ) (part : List ℕ) (x y : Raster) → record { shape = shape; planes = planes } ≡ v → IsPicture shape planes
    → p < planes_of v.shape → x ≡ get_or planes p x → y ≡ record x { rows = set x.rows r (put_chunk c (row_of x r) part) } → r < (plane_at v.planes p).height → ((k : ℕ) → get_or part k 0 < 256) → IsPicture shape (set planes p y)
IsPicture-set_part shape planes v p r c part x y view is less found put low small =
    let count = ap (λ (e : EditValue). planes_of e.shape) view in
    let within : p < planes_of shape = omega arith in
    let here = ap (λ (e : EditValue). plane_at e.planes p) view in
    let same : plane_at planes p ≡ x = get_or_default planes p (blank_raster 0 0) x (let many = is.sizes.count in omega arith) ∙ sym found in
    let height = ap (λ (z : Raster). z.height) here in
    let long : length (row_of x r) ≡ x.width = subst (λ (z : Raster). length (row_of z r) ≡ z.width) same ((is.sizes.rows p within).row_long r (omega arith)) in
    let width : x.width ≡ (plane_at v.planes p).width = ap (λ (z : Raster). z.width) (sym same ∙ here) in
    IsPicture-set_row shape planes v p r x y (put_chunk c (row_of x r) part) view is less found put low (length-put_chunk c (row_of x r) part ∙ (long ∙ width))
    (get_or-put_chunk_small c (row_of x r) part (λ k. subst (λ (z : Raster). sample_of z r k < 256) same (is.samples p r k)) small)

-- one more blank plane
pub blank_more : (shape : Shape) (k w h : ℕ) (x : Raster) (planes new : List Raster) → new ≡ planes ++ x ∷ [] → planes ≡ map (λ (p : ℕ). blank_raster (columns_of shape p) (rows_of shape p)) (range_with_len 0 k)
    → x ≡ blank_raster w h → w ≡ columns_of shape k → h ≡ rows_of shape k → new ≡ map (λ (p : ℕ). blank_raster (columns_of shape p) (rows_of shape p)) (range_with_len 0 (k + 1))
blank_more shape k w h x planes new pushed before blank wide high =
    let f : ℕ → Raster = λ p. blank_raster (columns_of shape p) (rows_of shape p) in
    pushed
    ∙ (ap (λ (z : List Raster). z ++ x ∷ []) before
    ∙ (ap (λ (z : Raster). map f (range_with_len 0 k) ++ z ∷ []) (blank ∙ (ap (λ (n : ℕ). blank_raster n h) wide ∙ ap (λ (n : ℕ). blank_raster (columns_of shape k) n) high))
    ∙ sym (map-range_with_len_more f 0 k k (omega arith))))
