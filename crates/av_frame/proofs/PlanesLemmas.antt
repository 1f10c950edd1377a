-- Planes that are made one after another, and pictures of them.
use Rattle.std.proofs.Common.{◌≡◌, ◌≢◌, ℕ, ℤ, ◌+◌, ◌-◌, ◌<◌, ◌≤◌, List, [], length, get_or, set, ap, sym, ◌∙◌, subst, arith, ⊎_elim, refl}
use Rattle.std.proofs.lemmas.List.{get_or-set_same, get_or-set_other, get_or_past, length-set}
use Rattle.std.proofs.lemmas.List.FromFn.{fill_by_all, get_or-map-range_with_len, length-map-range_with_len}
use Rattle.std.proofs.lemmas.Bool.{cases_lt, cases_eq}
use Rattle.av_base.specs.declared.shapes.Shape.{Shape}
use Rattle.av_base.specs.Shapes.{IsLawful, IsVideo, planes_of, columns_of, rows_of}
use Rattle.av_frame.specs.Rasters.{Raster, IsRaster, row_of, sample_of, row_by, rows_by, raster_by, blank_raster}
use Rattle.av_frame.specs.Grid.{column_in, row_in}
use Rattle.av_frame.specs.Frames.{FrameValue, plane_at, planes_by, IsPicture}

pub row_of-by : (w h r : ℕ) (f : ℕ → ℕ → ℕ) → r < h → row_of (raster_by w h f) r ≡ row_by w (f r)
row_of-by w h r f low = get_or-map-range_with_len (λ (k : ℕ). row_by w (f k)) 0 h r r [] low (omega arith)

pub sample_of-by : (w h r c : ℕ) (f : ℕ → ℕ → ℕ) → r < h → c < w → sample_of (raster_by w h f) r c ≡ f r c
sample_of-by w h r c f low left =
    ap (λ (row : List ℕ). get_or row c 0) (row_of-by w h r f low) ∙ get_or-map-range_with_len (f r) 0 w c c 0 left (omega arith)

pub IsRaster-by : (w h : ℕ) (f : ℕ → ℕ → ℕ) → IsRaster (raster_by w h f)
IsRaster-by w h f = record {
  rows_long = length-map-range_with_len (λ (k : ℕ). row_by w (f k)) 0 h;
  row_long = λ r low. ap (λ (row : List ℕ). length row) (row_of-by w h r f low) ∙ length-map-range_with_len (f r) 0 w;
}

past_row : (w h r c : ℕ) (f : ℕ → ℕ → ℕ) → h ≤ r → sample_of (raster_by w h f) r c ≡ 0
past_row w h r c f past =
    ap (λ (row : List ℕ). get_or row c 0) (get_or_past (rows_by h w f) r [] (let n = length-map-range_with_len (λ (k : ℕ). row_by w (f k)) 0 h in omega arith))

past_column : (w h r c : ℕ) (f : ℕ → ℕ → ℕ) → r < h → w ≤ c → sample_of (raster_by w h f) r c ≡ 0
past_column w h r c f low past =
    ap (λ (row : List ℕ). get_or row c 0) (row_of-by w h r f low)
    ∙ get_or_past (row_by w (f r)) c 0 (let n = length-map-range_with_len (f r) 0 w in omega arith)

small_by : (w h r c : ℕ) (f : ℕ → ℕ → ℕ) → ((a b : ℕ) → f a b < 256) → sample_of (raster_by w h f) r c < 256
small_by w h r c f small =
    ⊎_elim
    (λ (low : r < h).
    ⊎_elim
    (λ (left : c < w). let e = sample_of-by w h r c f low left in let s = small r c in omega arith)
    (λ (past : w ≤ c). let e = past_column w h r c f low past in omega arith)
    (cases_lt c w))
    (λ (past : h ≤ r). let e = past_row w h r c f past in omega arith)
    (cases_lt r h)

pub plane_at-by : (shape : Shape) (f : ℕ → ℕ → ℕ → ℕ) (p : ℕ) → p < planes_of shape → plane_at (planes_by shape f) p ≡ raster_by (columns_of shape p) (rows_of shape p) (f p)
plane_at-by shape f p less =
    get_or-map-range_with_len (λ (q : ℕ). raster_by (columns_of shape q) (rows_of shape q) (f q)) 0 (planes_of shape) p p (blank_raster 0 0) less (omega arith)

length-planes_by : (shape : Shape) (f : ℕ → ℕ → ℕ → ℕ) → length (planes_by shape f) ≡ planes_of shape
length-planes_by shape f = length-map-range_with_len (λ (q : ℕ). raster_by (columns_of shape q) (rows_of shape q) (f q)) 0 (planes_of shape)

pub IsPicture-by : (shape : Shape) (f : ℕ → ℕ → ℕ → ℕ) → IsLawful shape → IsVideo shape.format → ((p r c : ℕ) → f p r c < 256) → IsPicture shape (planes_by shape f)
IsPicture-by shape f lawful video small = record {
  lawful = lawful;
  video = video;
  sizes = record {
    count = length-planes_by shape f;
    width = λ p less. ap (λ (x : Raster). x.width) (plane_at-by shape f p less);
    height = λ p less. ap (λ (x : Raster). x.height) (plane_at-by shape f p less);
    rows = λ p less. subst IsRaster (sym (plane_at-by shape f p less)) (IsRaster-by (columns_of shape p) (rows_of shape p) (f p));
  };
  samples = λ p r c.
      ⊎_elim
      (λ (less : p < planes_of shape). subst (λ (x : Raster). sample_of x r c < 256) (sym (plane_at-by shape f p less)) (small_by (columns_of shape p) (rows_of shape p) r c (f p) (small p)))
      (λ (past : planes_of shape ≤ p). subst (λ (x : Raster). sample_of x r c < 256) (sym (get_or_past (planes_by shape f) p (blank_raster 0 0) (let n = length-planes_by shape f in omega arith)))
      (small_by 0 0 r c (λ a b. 0) (λ a b. omega arith)))
      (cases_lt p (planes_of shape));
}

-- The planes below q have the samples of f, and the others are as before.
pub record Made (shape : Shape) (f : ℕ → ℕ → ℕ → ℕ) (old now : List Raster) (q : ℕ) : Type 0 where
  pub count : length now ≡ length old
  pub made : (p : ℕ) → p < q → plane_at now p ≡ raster_by (columns_of shape p) (rows_of shape p) (f p)
  pub rest : (p : ℕ) → q ≤ p → plane_at now p ≡ plane_at old p

pub Made-more : {shape : Shape} {f : ℕ → ℕ → ℕ → ℕ} {old now : List Raster} {q : ℕ} (next : List Raster) (y : Raster) → Made shape f old now q → q < length now → next ≡ set now q y
    → y ≡ raster_by (columns_of shape q) (rows_of shape q) (f q) → Made shape f old next (q + 1)
Made-more {shape} {f} {old} {now} {q} next y h less put is = record {
  count = ap (λ (z : List Raster). length z) put ∙ (length-set now q y ∙ h.count);
  made = λ p below.
      ap (λ (z : List Raster). plane_at z p) put
      ∙ ⊎_elim
      (λ (e : p ≡ q). ap (λ (j : ℕ). get_or (set now q y) j (blank_raster 0 0)) e
      ∙ (get_or-set_same now q y (blank_raster 0 0) less
      ∙ (is ∙ sym (ap (λ (j : ℕ). raster_by (columns_of shape j) (rows_of shape j) (f j)) e))))
      (λ (n : p ≢ q). get_or-set_other now q p y (blank_raster 0 0) n ∙ h.made p (omega arith))
      (cases_eq p q);
  rest = λ p past.
      ap (λ (z : List Raster). plane_at z p) put
      ∙ (get_or-set_other now q p y (blank_raster 0 0) (λ (e : p ≡ q). absurd (omega arith)) ∙ h.rest p (omega arith));
}

pub Made-all : {shape : Shape} {f : ℕ → ℕ → ℕ → ℕ} {old now : List Raster} {q : ℕ} → Made shape f old now q → planes_of shape ≤ q → length old ≡ planes_of shape → now ≡ planes_by shape f
Made-all {shape} {f} {old} {now} {q} h all count =
    fill_by_all (λ (p : ℕ). raster_by (columns_of shape p) (rows_of shape p) (f p)) now (planes_of shape) (blank_raster 0 0) (h.count ∙ count) (λ p below. h.made p (omega arith))

-- ---- planes upside down, and windows

abbrev pub turned : Shape → List Raster → ℕ → ℕ → ℕ → ℕ
turned shape planes p r c = sample_of (plane_at planes p) ((rows_of shape p - 1) - r) c

pub turned_more : {shape : Shape} {old now : List Raster} {q : ℕ} (next : List Raster) (x y : Raster) → IsPicture shape old → Made shape (turned shape old) old now q → q < planes_of shape → x ≡ plane_at now q
    → next ≡ set now q y → y ≡ raster_by x.width x.height (λ r c. sample_of x ((x.height - 1) - r) c) → Made shape (turned shape old) old next (q + 1)
turned_more {shape} {old} {now} {q} next x y is h less found put by =
    let was = plane_at old q in
    let same : x ≡ was = found ∙ h.rest q (omega arith) in
    Made-more next y h (let a = h.count in let b = is.sizes.count in omega arith) put
    (by
    ∙ (ap (λ (z : Raster). raster_by z.width z.height (λ r c. sample_of z ((z.height - 1) - r) c)) same
    ∙ (ap (λ (n : ℕ). raster_by n was.height (λ r c. sample_of was ((was.height - 1) - r) c)) (is.sizes.width q less)
    ∙ ap (λ (n : ℕ). raster_by (columns_of shape q) n (λ r c. sample_of was ((n - 1) - r) c)) (is.sizes.height q less))))

abbrev pub windowed : Shape → ℕ → ℕ → List Raster → ℕ → ℕ → ℕ → ℕ
windowed whole x y planes p r c = sample_of (plane_at planes p) (row_in whole p y + r) (column_in whole p x + c)

pub windowed_more : (whole : Shape) (a b : ℕ) {shape : Shape} {old now : List Raster} {q : ℕ} (next : List Raster) (x y : Raster) (left top w h : ℕ) → Made shape (windowed whole a b old) old now q → q < length now → x ≡ plane_at now q
    → next ≡ set now q y → left ≡ column_in whole q a → top ≡ row_in whole q b → w ≡ columns_of shape q → h ≡ rows_of shape q
    → y ≡ raster_by w h (λ r c. sample_of x (top + r) (left + c)) → Made shape (windowed whole a b old) old next (q + 1)
windowed_more whole a b {shape} {old} {now} {q} next x y left top w h made less found put left_is top_is wide high by =
    let was = plane_at old q in
    let same : x ≡ was = found ∙ made.rest q (omega arith) in
    Made-more next y made less put
    (by
    ∙ (ap (λ (z : Raster). raster_by w h (λ r c. sample_of z (top + r) (left + c))) same
    ∙ (ap (λ (n : ℕ). raster_by n h (λ r c. sample_of was (top + r) (left + c))) wide
    ∙ (ap (λ (n : ℕ). raster_by (columns_of shape q) n (λ r c. sample_of was (top + r) (left + c))) high
    ∙ (ap (λ (n : ℕ). raster_by (columns_of shape q) (rows_of shape q) (λ r c. sample_of was (n + r) (left + c))) top_is
    ∙ ap (λ (n : ℕ). raster_by (columns_of shape q) (rows_of shape q) (λ r c. sample_of was (row_in whole q b + r) (n + c))) left_is)))))

-- ---- frames of them

pub turned_picture : (shape : Shape) (items was new : List Raster) → was ≡ items → new ≡ planes_by shape (turned shape was) → IsPicture shape items → IsPicture shape new
turned_picture shape items was new same by is =
    subst (IsPicture shape) (sym (by ∙ ap (λ (z : List Raster). planes_by shape (turned shape z)) same))
    (IsPicture-by shape (turned shape items) is.lawful is.video (λ p r c. is.samples p ((rows_of shape p - 1) - r) c))

pub turned_frame : (shape : Shape) (items was new got : List Raster) (pts duration t d : ℤ) (x made : FrameValue) → record { shape = shape; planes = items; pts = pts; duration = duration } ≡ x → was ≡ items → got ≡ new
    → new ≡ planes_by shape (turned shape was) → t ≡ pts → d ≡ duration → made ≡ record { shape = shape; planes = got; pts = t; duration = d } → made ≡ record x { planes = planes_by x.shape (turned x.shape x.planes) }
turned_frame shape items was new got pts duration t d x made view same kept by pts_is duration_is is =
    is
    ∙ (ap (λ (z : ℤ). record { shape = shape; planes = got; pts = z; duration = d }) pts_is
    ∙ (ap (λ (z : ℤ). record { shape = shape; planes = got; pts = pts; duration = z }) duration_is
    ∙ (ap (λ (z : List Raster). record { shape = shape; planes = z; pts = pts; duration = duration }) (kept ∙ (by ∙ ap (λ (z : List Raster). planes_by shape (turned shape z)) same))
    ∙ ap (λ (z : FrameValue). record z { planes = planes_by z.shape (turned z.shape z.planes) }) view)))

pub windowed_picture : (whole shape : Shape) (a b : ℕ) (items was new : List Raster) → was ≡ items → new ≡ planes_by shape (windowed whole a b was) → IsLawful shape → IsVideo shape.format → IsPicture whole items → IsPicture shape new
windowed_picture whole shape a b items was new same by lawful video is =
    subst (IsPicture shape) (sym (by ∙ ap (λ (z : List Raster). planes_by shape (windowed whole a b z)) same))
    (IsPicture-by shape (windowed whole a b items) lawful video (λ p r c. is.samples p (row_in whole p b + r) (column_in whole p a + c)))

pub windowed_frame : (whole shape : Shape) (a b : ℕ) (items was new got : List Raster) (pts duration t d : ℤ) (x made : FrameValue) → record { shape = whole; planes = items; pts = pts; duration = duration } ≡ x → was ≡ items → got ≡ new
    → new ≡ planes_by shape (windowed whole a b was) → t ≡ pts → d ≡ duration → made ≡ record { shape = shape; planes = got; pts = t; duration = d }
    → made ≡ record { shape = shape; planes = planes_by shape (windowed x.shape a b x.planes); pts = x.pts; duration = x.duration }
windowed_frame whole shape a b items was new got pts duration t d x made view same kept by pts_is duration_is is =
    is
    ∙ (ap (λ (z : ℤ). record { shape = shape; planes = got; pts = z; duration = d }) pts_is
    ∙ (ap (λ (z : ℤ). record { shape = shape; planes = got; pts = pts; duration = z }) duration_is
    ∙ (ap (λ (z : List Raster). record { shape = shape; planes = z; pts = pts; duration = duration }) (kept ∙ (by ∙ ap (λ (z : List Raster). planes_by shape (windowed whole a b z)) same))
    ∙ ap (λ (z : FrameValue). record { shape = shape; planes = planes_by shape (windowed z.shape a b z.planes); pts = z.pts; duration = z.duration }) view)))

pub Made-none : (shape : Shape) (f : ℕ → ℕ → ℕ → ℕ) (old : List Raster) → Made shape f old old 0
Made-none shape f old = record { count = refl; made = λ p below. absurd (omega arith); rest = λ p past. refl }
