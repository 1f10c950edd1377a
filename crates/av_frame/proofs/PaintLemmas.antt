-- A picture that is painted row by row, and plane by plane.
use Rattle.std.proofs.Common.{◌≡◌, ℕ, ◌+◌, ◌<◌, ◌≤◌, List, [], length, get_or, set, ap, sym, ◌∙◌, subst, arith, refl, ⊎_elim}
use Rattle.std.proofs.lemmas.Bool.{cases_lt}
use Rattle.std.proofs.lemmas.List.{get_or-set_same, get_or-set_other, set-get_or, set-set, length-set, get_or_default, get_or_past}
use Rattle.std.proofs.lemmas.List.FromFn.{fill_by_all, get_or-map-range_with_len, length-map-range_with_len}
use Rattle.std.proofs.lemmas.List.Edits.{fill_by_more}
use Rattle.av_base.specs.declared.shapes.Shape.{Shape}
use Rattle.av_base.specs.Shapes.{planes_of, columns_of, rows_of}
use Rattle.av_frame.specs.Rasters.{Raster, row_of, row_by, rows_by, raster_by, blank_raster}
use Rattle.av_frame.specs.Frames.{EditValue, plane_at, with_row, IsPicture, planes_by}
use Rattle.av_frame.proofs.PictureLemmas.{IsPicture-row, IsPicture-set_row}

row_small : (w : ℕ) (f : ℕ → ℕ) → ((c : ℕ) → c < w → f c < 256) → (c : ℕ) → get_or (row_by w f) c 0 < 256
row_small w f small c =
    ⊎_elim
    (λ (left : c < w). let e = get_or-map-range_with_len f 0 w c c 0 left (omega arith) in let b = small c left in omega arith)
    (λ (past : w ≤ c). let e = get_or_past (row_by w f) c 0 (let n = length-map-range_with_len f 0 w in omega arith) in omega arith)
    (cases_lt c w)

-- a picture with another row of samples of eight bits
pub IsPicture-row_by : (shape : Shape) (planes : List Raster) (v : EditValue) (p r : ℕ) (x y : Raster) (f : ℕ → ℕ) → record { shape = shape; planes = planes } ≡ v → IsPicture shape planes → p < planes_of v.shape → x ≡ get_or planes p x
    → y ≡ record x { rows = set x.rows r (row_by x.width f) } → r < (plane_at v.planes p).height → ((x.width ≡ (plane_at v.planes p).width) → (c : ℕ) → c < x.width → f c < 256) → IsPicture shape (set planes p y)
IsPicture-row_by shape planes v p r x y f view is less found put low small =
    let count : p < length planes = let n = is.sizes.count in let e = ap (λ (z : EditValue). planes_of z.shape) view in omega arith in
    let same : x ≡ plane_at v.planes p = found ∙ (get_or_default planes p x (blank_raster 0 0) count ∙ ap (λ (z : EditValue). plane_at z.planes p) view) in
    let width : x.width ≡ (plane_at v.planes p).width = ap (λ (z : Raster). z.width) same in
    IsPicture-set_row shape planes v p r x y (row_by x.width f) view is less found put low (length-map-range_with_len f 0 x.width ∙ width) (row_small x.width f (small width))

-- The rows of plane p below r have the values of f, and all else is as before.
pub record HasRows (old now : EditValue) (p : ℕ) (f : ℕ → ℕ → ℕ) (r : ℕ) : Type 0 where
  pub edit : now ≡ record old { planes = set old.planes p (plane_at now.planes p) }
  pub picture : IsPicture now.shape now.planes
  pub rows : (k : ℕ) → k < r → row_of (plane_at now.planes p) k ≡ row_by (columns_of old.shape p) (f k)
  pub rest : (k : ℕ) → r ≤ k → row_of (plane_at now.planes p) k ≡ row_of (plane_at old.planes p) k

pub HasRows-none : (e : EditValue) (p : ℕ) (f : ℕ → ℕ → ℕ) → IsPicture e.shape e.planes → HasRows e e p f 0
HasRows-none e p f is = record {
  edit = ap (λ (z : List Raster). record e { planes = z }) (sym (set-get_or e.planes p (blank_raster 0 0)));
  picture = is;
  rows = λ k h. absurd (omega arith);
  rest = λ k h. refl;
}

module _ {old now : EditValue} {p : ℕ} {f : ℕ → ℕ → ℕ} {r : ℕ} (h : HasRows old now p f r) (less : p < planes_of old.shape) where
  pub HasRows-shape : now.shape ≡ old.shape
  HasRows-shape = ap (λ (e : EditValue). e.shape) h.edit

  pub HasRows-inside : p < planes_of now.shape
  HasRows-inside = let e = ap planes_of HasRows-shape in omega arith

  pub plane_width : (plane_at now.planes p).width ≡ columns_of old.shape p
  plane_width = h.picture.sizes.width p HasRows-inside ∙ ap (λ (s : Shape). columns_of s p) HasRows-shape

  pub plane_height : (plane_at now.planes p).height ≡ rows_of old.shape p
  plane_height = h.picture.sizes.height p HasRows-inside ∙ ap (λ (s : Shape). rows_of s p) HasRows-shape

  pub HasRows-more : {next : EditValue} (row : List ℕ) → r < rows_of old.shape p → row ≡ row_by (columns_of old.shape p) (f r) → ((c : ℕ) → c < columns_of old.shape p → f r c < 256)
      → next ≡ record now { planes = with_row now.planes p r row } → HasRows old next p f (r + 1)
  HasRows-more {next} row low by small put =
      let x = plane_at now.planes p in
      let y = record x { rows = set x.rows r row } in
      let long : length row ≡ columns_of old.shape p = ap (λ (z : List ℕ). length z) by ∙ length-map-range_with_len (f r) 0 (columns_of old.shape p) in
      let bytes : (c : ℕ) → get_or row c 0 < 256 = λ c. subst (λ (z : List ℕ). get_or z c 0 < 256) (sym by) (row_small (columns_of old.shape p) (f r) small c) in
      let count : p < length now.planes = let n = h.picture.sizes.count in let i = HasRows-inside in omega arith in
      let here : plane_at (set now.planes p y) p ≡ y = get_or-set_same now.planes p y (blank_raster 0 0) count in
      let high : r < x.height = let e = plane_height in omega arith in
      let wide : length row ≡ x.width = long ∙ sym plane_width in
      let whole : set now.planes p y ≡ set old.planes p y = ap (λ (e : EditValue). set e.planes p y) h.edit ∙ set-set old.planes p x y in
      subst (λ (e : EditValue). HasRows old e p f (r + 1)) (sym put) record {
        edit = ap (λ (z : List Raster). record now { planes = z }) whole
            ∙ (ap (λ (s : Shape). record { shape = s; planes = set old.planes p y }) HasRows-shape
            ∙ ap (λ (z : Raster). record old { planes = set old.planes p z }) (sym here));
        picture = IsPicture-row now.shape now.planes p r x y row h.picture HasRows-inside (get_or_default now.planes p (blank_raster 0 0) x count) refl high wide bytes;
        rows = λ k below.
            ap (λ (z : Raster). row_of z k) here
            ∙ (ap (λ (z : List ℕ). get_or (set x.rows r z) k []) by
            ∙ fill_by_more (λ (j : ℕ). row_by (columns_of old.shape p) (f j)) x.rows r [] (let n = (h.picture.sizes.rows p HasRows-inside).rows_long in omega arith) h.rows k below);
        rest = λ k past.
            ap (λ (z : Raster). row_of z k) here
            ∙ (get_or-set_other x.rows r k row [] (λ (e : k ≡ r). absurd (omega arith)) ∙ h.rest k (omega arith));
      }

  pub HasRows-all : rows_of old.shape p ≤ r → now ≡ record old { planes = set old.planes p (raster_by (columns_of old.shape p) (rows_of old.shape p) f) }
  HasRows-all all =
      let x = plane_at now.planes p in
      let long : length x.rows ≡ rows_of old.shape p = (h.picture.sizes.rows p HasRows-inside).rows_long ∙ plane_height in
      let rows : x.rows ≡ rows_by (rows_of old.shape p) (columns_of old.shape p) f =
      fill_by_all (λ (j : ℕ). row_by (columns_of old.shape p) (f j)) x.rows (rows_of old.shape p) [] long (λ k below. h.rows k (omega arith)) in
      h.edit
      ∙ (ap (λ (n : ℕ). record old { planes = set old.planes p (record x { width = n }) }) plane_width
      ∙ (ap (λ (n : ℕ). record old { planes = set old.planes p (record { width = columns_of old.shape p; height = n; rows = x.rows }) }) plane_height
      ∙ ap (λ (z : List (List ℕ)). record old { planes = set old.planes p (record { width = columns_of old.shape p; height = rows_of old.shape p; rows = z }) }) rows))

-- The planes below q have the values of f, and the others are as before.
pub record HasPlanes (old now : EditValue) (f : ℕ → ℕ → ℕ → ℕ) (q : ℕ) : Type 0 where
  pub shape : now.shape ≡ old.shape
  pub count : length now.planes ≡ planes_of old.shape
  pub planes : (p : ℕ) → p < q → plane_at now.planes p ≡ raster_by (columns_of old.shape p) (rows_of old.shape p) (f p)
  pub rest : (p : ℕ) → q ≤ p → plane_at now.planes p ≡ plane_at old.planes p

pub HasPlanes-more : {old now next : EditValue} {f : ℕ → ℕ → ℕ → ℕ} {q : ℕ} → HasPlanes old now f q → q < planes_of old.shape
    → next ≡ record now { planes = set now.planes q (raster_by (columns_of now.shape q) (rows_of now.shape q) (f q)) } → HasPlanes old next f (q + 1)
HasPlanes-more {old} {now} {next} {f} {q} h less put =
    let x = raster_by (columns_of now.shape q) (rows_of now.shape q) (f q) in
    let same : raster_by (columns_of now.shape q) (rows_of now.shape q) (f q) ≡ raster_by (columns_of old.shape q) (rows_of old.shape q) (f q) =
    ap (λ (s : Shape). raster_by (columns_of s q) (rows_of s q) (f q)) h.shape in
    record {
      shape = ap (λ (e : EditValue). e.shape) put ∙ h.shape;
      count = ap (λ (e : EditValue). length e.planes) put ∙ (length-set now.planes q x ∙ h.count);
      planes = λ p below.
          ap (λ (e : EditValue). plane_at e.planes p) put
          ∙ (ap (λ (z : Raster). plane_at (set now.planes q z) p) same
          ∙ fill_by_more (λ (j : ℕ). raster_by (columns_of old.shape j) (rows_of old.shape j) (f j)) now.planes q (blank_raster 0 0) (let n = h.count in omega arith) h.planes p below);
      rest = λ p past.
          ap (λ (e : EditValue). plane_at e.planes p) put
          ∙ (get_or-set_other now.planes q p x (blank_raster 0 0) (λ (e : p ≡ q). absurd (omega arith)) ∙ h.rest p (omega arith));
    }

pub HasPlanes-all : {old now : EditValue} {f : ℕ → ℕ → ℕ → ℕ} {q : ℕ} → HasPlanes old now f q → planes_of old.shape ≤ q → now ≡ record old { planes = planes_by old.shape f }
HasPlanes-all {old} {now} {f} {q} h all =
    ap (λ (s : Shape). record now { shape = s }) h.shape
    ∙ ap (λ (z : List Raster). record old { planes = z })
    (fill_by_all (λ (p : ℕ). raster_by (columns_of old.shape p) (rows_of old.shape p) (f p)) now.planes (planes_of old.shape) (blank_raster 0 0) h.count (λ p below. h.planes p (omega arith)))
