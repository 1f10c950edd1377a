-- Rows of a plane that are written or read one after another.
use Rattle.std.proofs.Common.{◌≡◌, ◌==◌, ℕ, zero, suc, false, ◌+◌, ◌-◌, ◌*◌, ◌<◌, ◌≤◌, List, [], ◌∷◌, ◌++◌, length, take, drop, get_or, set, ap, sym, ◌∙◌, subst, arith, refl, append_assoc, add_assoc, ⊎_elim}
use Rattle.std.specs.List.{concat}
use Rattle.std.proofs.lemmas.List.{get_or-set_same, set-get_or, set-set, get_or_default, take_more, take_more_set, append-nil, length-take-le, length-take, length-drop, get_or-drop, get_or-take, get_or_past}
use Rattle.std.proofs.lemmas.Bool.{cases_lt}
use Rattle.std.proofs.lemmas.Nat.{row_fits}
use Rattle.std.proofs.lemmas.Slice.{take-put_mid}
use borrow.Rule.Slice.PartMut.{put_mid}
use Rattle.std.proofs.lemmas.List.Folds.{concat-append}
use Rattle.std.proofs.Math.Nat.{zero-mul, add-mul, one-mul, add-zero}
use Rattle.std.proofs.Math.Seq.{take-add}
use Rattle.av_base.specs.declared.shapes.Shape.{Shape}
use Rattle.av_base.specs.Shapes.{planes_of, columns_of, rows_of}
use Rattle.av_frame.specs.Rasters.{Raster, blank_raster}
use Rattle.av_frame.specs.Frames.{EditValue, plane_at, with_row, IsPicture}
use Rattle.av_frame.proofs.PictureLemmas.{IsPicture-row}

-- what isn't empty has a length
pub some_from_test : (n : ℕ) → false ≡ (n == 0) → 0 < n
some_from_test zero e = cc
some_from_test (suc n) e = omega arith

-- the bytes of i rows and of one more
pub next_row : (i w : ℕ) → (i + 1) * w ≡ i * w + w
next_row i w = add-mul i 1 w ∙ ap (λ n. i * w + n) (one-mul w)

-- one more list at the end
pub concat-push : (xs : List (List ℕ)) (ys : List ℕ) → concat (xs ++ ys ∷ []) ≡ concat xs ++ ys
concat-push xs ys = concat-append xs (ys ∷ []) ∙ ap (λ zs. concat xs ++ zs) (append-nil ys)

-- row i of a piece of rows
piece_is : (i v w : ℕ) (bytes : List ℕ) → v ≡ w → take (i * v + v - i * v) (drop (i * v) bytes) ≡ take w (drop (i * w) bytes)
piece_is i v w bytes e =
    let n : i * v + v - i * v ≡ v = omega arith in
    ap (λ m. take m (drop (i * v) bytes)) n ∙ ap (λ m. take m (drop (i * m) bytes)) e

piece_long : (i w count : ℕ) (bytes : List ℕ) → i < count → length bytes ≡ count * w → length (take w (drop (i * w) bytes)) ≡ w
piece_long i w count bytes below all =
    length-take-le w (drop (i * w) bytes) (let fits = row_fits i w count w below (omega arith) in omega (arith, length-drop {A = ℕ}))

-- a part of bytes of eight bits is of eight bits
small_part : (xs : List ℕ) (i n : ℕ) → ((k : ℕ) → get_or xs k 0 < 256) → (k : ℕ) → get_or (take n (drop i xs)) k 0 < 256
small_part xs i n small k =
    ⊎_elim
    (λ (low : k < n). let e = get_or-take n (drop i xs) k 0 low ∙ get_or-drop i xs k 0 in let b = small (i + k) in omega arith)
    (λ (high : n ≤ k). let e = get_or_past (take n (drop i xs)) k 0 (let l = length-take n (drop i xs) in omega arith) in omega arith)
    (cases_lt k n)

-- the next row that is copied
pub copied_more : (w i first count : ℕ) (out row : List ℕ) (rows : List (List ℕ)) → i < count → length out ≡ count * w → length row ≡ w → first + count ≤ length rows
    → row ≡ get_or rows (first + i) [] → take (i * w) out ≡ concat (take i (drop first rows))
    → take ((i + 1) * w) (put_mid (i * w) (i * w + w - i * w) out row) ≡ concat (take (i + 1) (drop first rows))
copied_more w i first count out row rows below all long room is before =
    let fits = row_fits i w count w below (omega arith) in
    let inside : i < length (drop first rows) = omega (arith, length-drop {A = List ℕ}) in
    take-put_mid (i * w) (i * w + w - i * w) out row ((i + 1) * w) (let e = next_row i w in omega arith) (omega arith)
    ∙ (ap (λ zs. zs ++ row) before
    ∙ (ap (λ zs. concat (take i (drop first rows)) ++ zs) (is ∙ sym (get_or-drop first rows i []))
    ∙ (sym (concat-push (take i (drop first rows)) (get_or (drop first rows) i []))
    ∙ ap concat (sym (take_more (drop first rows) i [] inside)))))

-- Only plane p changed, and i of its rows from the row `first` on are these bytes.
pub record PutsRows (old now : EditValue) (p first i : ℕ) (bytes : List ℕ) : Type 0 where
  pub edit : now ≡ record old { planes = set old.planes p (plane_at now.planes p) }
  pub picture : IsPicture now.shape now.planes
  pub rows : concat (take (first + i) (plane_at now.planes p).rows) ≡ concat (take first (plane_at old.planes p).rows) ++ take (i * columns_of old.shape p) bytes

pub PutsRows-none : (e : EditValue) (p first : ℕ) (bytes : List ℕ) → IsPicture e.shape e.planes → PutsRows e e p first 0 bytes
PutsRows-none e p first bytes is = record {
  edit = ap (λ (z : List Raster). record e { planes = z }) (sym (set-get_or e.planes p (blank_raster 0 0)));
  picture = is;
  rows = rw (zero-mul (columns_of e.shape p), add-zero first) (sym (append-nil (concat (take first (plane_at e.planes p).rows))));
}

module _ {old now : EditValue} {p first i : ℕ} {bytes : List ℕ} (h : PutsRows old now p first i bytes) (less : p < planes_of old.shape) where
  shape : now.shape ≡ old.shape
  shape = ap (λ (e : EditValue). e.shape) h.edit

  pub inside : p < planes_of now.shape
  inside = let e = ap planes_of shape in omega arith

  pub plane_width : (plane_at now.planes p).width ≡ columns_of old.shape p
  plane_width = h.picture.sizes.width p inside ∙ ap (λ (s : Shape). columns_of s p) shape

  pub plane_height : (plane_at now.planes p).height ≡ rows_of old.shape p
  plane_height = h.picture.sizes.height p inside ∙ ap (λ (s : Shape). rows_of s p) shape

  pub PutsRows-more : {next : EditValue} (count w : ℕ) → i < count → first + count ≤ rows_of old.shape p → w ≡ columns_of old.shape p → length bytes ≡ count * columns_of old.shape p
      → ((k : ℕ) → get_or bytes k 0 < 256) → next ≡ record now { planes = with_row now.planes p (first + i) (take (i * w + w - i * w) (drop (i * w) bytes)) } → PutsRows old next p first (i + 1) bytes
  PutsRows-more {next} count v below room width all small put' =
      let w = columns_of old.shape p in
      let row = take w (drop (i * w) bytes) in
      let put : next ≡ record now { planes = with_row now.planes p (first + i) row } = put' ∙ ap (λ z. record now { planes = with_row now.planes p (first + i) z }) (piece_is i v w bytes width) in
      let long : length row ≡ w = piece_long i w count bytes below all in
      let x = plane_at now.planes p in
      let y = record x { rows = set x.rows (first + i) row } in
      let count : p < length now.planes = let n = h.picture.sizes.count in let i = inside in omega arith in
      let here : plane_at (set now.planes p y) p ≡ y = get_or-set_same now.planes p y (blank_raster 0 0) count in
      let high : first + i < x.height = let e = plane_height in omega arith in
      let wide : length row ≡ x.width = long ∙ sym plane_width in
      let whole : set now.planes p y ≡ set old.planes p y = ap (λ (e : EditValue). set e.planes p y) h.edit ∙ set-set old.planes p x y in
      subst (λ (e : EditValue). PutsRows old e p first (i + 1) bytes) (sym put) record {
        edit = ap (λ (z : List Raster). record now { planes = z }) whole
            ∙ (ap (λ (s : Shape). record { shape = s; planes = set old.planes p y }) shape
            ∙ ap (λ (z : Raster). record old { planes = set old.planes p z }) (sym here));
        picture = IsPicture-row now.shape now.planes p (first + i) x y row h.picture inside (get_or_default now.planes p (blank_raster 0 0) x count) refl high wide (small_part bytes (i * w) w small);
        rows =
            ap (λ (z : Raster). concat (take (first + (i + 1)) z.rows)) here
            ∙ (ap (λ n. concat (take n (set x.rows (first + i) row))) (sym (add_assoc first i 1))
            ∙ (ap concat (take_more_set x.rows (first + i) row (let n = (h.picture.sizes.rows p inside).rows_long in omega arith))
            ∙ (concat-push (take (first + i) x.rows) row
            ∙ (ap (λ zs. zs ++ row) h.rows
            ∙ (append_assoc (concat (take first (plane_at old.planes p).rows)) (take (i * w) bytes) row
            ∙ ap (λ zs. concat (take first (plane_at old.planes p).rows) ++ zs)
            (sym (take-add (i * w) w bytes) ∙ ap (λ n. take n bytes) (sym (next_row i w))))))));
      }
