-- Frames as text: how long they are, and which texts can go on to be one.
use Rattle.std.proofs.Common.{◌≡◌, ℕ, zero, suc, ◌+◌, ◌-◌, ◌*◌, ◌<◌, ◌≤◌, List, [], ◌∷◌, ◌++◌, length, take, drop, get_or, map, sum, replicate, ap, sym, ◌∙◌, subst, arith, refl, append_assoc, length-append}
use Rattle.std.specs.List.{concat, range_with_len}
use Rattle.std.proofs.lemmas.List.{append-nil, map_push, take_all, append_cancel_left, length-take-le, length-drop, length-replicate}
use Rattle.std.proofs.lemmas.List.FromFn.{get_or-map-range_with_len, length-map-range_with_len, map-range_with_len_more, sum_by-map-range_with_len_more}
use Rattle.std.proofs.Math.Nat.{mul-zero, mul-suc, mul-le-mul_left, add-zero, add-suc}
use Rattle.std.proofs.Math.Numerals.{add-one}
use Rattle.std.proofs.Math.Seq.{take-add, take-suc, take-append-add}
use Rattle.av_base.specs.declared.shapes.Shape.{Shape}
use Rattle.av_base.specs.Shapes.{planes_of, columns_of, rows_of, bytes_of}
use Rattle.av_frame.specs.Rasters.{Raster, IsRaster, blank_raster}
use Rattle.av_frame.specs.Frames.{plane_at, ArePlanes}
use Rattle.y4m_io.specs.FrameTexts.{frame_mark, picture_text, frame_text, frame_size, IsMark, BeginsFrame, CanBeginFrame, IsBadFrame}
use Rattle.y4m_io.specs.Pieces.{BeginsMark, CanBeginMark, IsMarkPart}
use Rattle.y4m_io.proofs.MarkLemmas.{mark_unique, part_no_mark}
use Rattle.y4m_io.proofs.RowLemmas.{concat-push}

-- ---- lengths

-- how many samples a plane has
abbrev area : Shape → ℕ → ℕ
area shape p = columns_of shape p * rows_of shape p

-- how many samples the planes before one have
pub area_before : Shape → ℕ → ℕ
area_before shape p = sum (map (area shape) (range_with_len 0 p))

area_before_none : (shape : Shape) → area_before shape 0 ≡ 0
unfolding area_before
area_before_none shape = refl

area_before_more : (shape : Shape) (p : ℕ) → area_before shape (p + 1) ≡ area_before shape p + columns_of shape p * rows_of shape p
unfolding area_before
area_before_more shape p = sum_by-map-range_with_len_more (λ x. x) (area shape) 0 p p (omega arith)

area_before_all : (shape : Shape) → area_before shape (planes_of shape) ≡ bytes_of shape
unfolding area_before
area_before_all shape = refl

area_before_suc : (shape : Shape) (p : ℕ) → area_before shape (suc p) ≡ area_before shape p + columns_of shape p * rows_of shape p
area_before_suc shape p = ap (area_before shape) (sym (add-one p)) ∙ area_before_more shape p

area_grows : (shape : Shape) (p d : ℕ) → area_before shape p ≤ area_before shape (p + d)
area_grows shape p zero = rw (add-zero p) (omega arith)
area_grows shape p (suc d) =
    let before = area_grows shape p d in
    let more = ap (area_before shape) (add-suc p d) ∙ area_before_suc shape (p + d) in
    omega arith

-- a plane is within the picture
pub area_within : (shape : Shape) (p : ℕ) → p < planes_of shape → area_before shape p + columns_of shape p * rows_of shape p ≤ bytes_of shape
area_within shape p less =
    let more = area_before_more shape p in
    let all = area_before_all shape in
    let d : (p + 1) + (planes_of shape - (p + 1)) ≡ planes_of shape = omega arith in
    let grows = area_grows shape (p + 1) (planes_of shape - (p + 1)) in
    let same = ap (area_before shape) d in
    omega arith

-- rows of one length
length-rows : (w : ℕ) (xs : List (List ℕ)) → ((r : ℕ) → r < length xs → length (get_or xs r []) ≡ w) → length (concat xs) ≡ w * length xs
length-rows w [] each = sym (mul-zero w)
length-rows w (x ∷ xs) each =
    let first : length x ≡ w = each 0 (omega arith) in
    let rest = length-rows w xs (λ r h. each (suc r) (omega arith)) in
    let more = mul-suc w (length xs) in
    let both = length-append x (concat xs) in
    omega arith

pub length-raster : (x : Raster) → IsRaster x → length (concat x.rows) ≡ x.width * x.height
length-raster x is =
    length-rows x.width x.rows (λ r h. is.row_long r (let e = is.rows_long in omega arith)) ∙ ap (λ n. x.width * n) is.rows_long

pub picture_text-push : (planes : List Raster) (x : Raster) → picture_text (planes ++ x ∷ []) ≡ picture_text planes ++ concat x.rows
picture_text-push planes x =
    ap concat (map_push (λ (y : Raster). concat y.rows) planes x) ∙ concat-push (map (λ (y : Raster). concat y.rows) planes) (concat x.rows)

length-plane : (shape : Shape) (planes : List Raster) → ArePlanes shape planes → (p : ℕ) → p < planes_of shape → length (concat (plane_at planes p).rows) ≡ columns_of shape p * rows_of shape p
length-plane shape planes are p less =
    length-raster (plane_at planes p) (are.rows p less)
    ∙ (ap (λ n. n * (plane_at planes p).height) (are.width p less) ∙ ap (λ n. columns_of shape p * n) (are.height p less))

-- the planes before one
pub length-planes : (shape : Shape) (planes : List Raster) → ArePlanes shape planes → (p : ℕ) → p ≤ planes_of shape → length (picture_text (take p planes)) ≡ area_before shape p
length-planes shape planes are zero below = sym (area_before_none shape)
length-planes shape planes are (suc p) below =
    let count = are.count in
    let before = length-planes shape planes are p (omega arith) in
    let here = length-plane shape planes are p (omega arith) in
    let more = area_before_suc shape p in
    let step : picture_text (take (suc p) planes) ≡ picture_text (take p planes) ++ concat (plane_at planes p).rows =
    ap picture_text (take-suc planes p (blank_raster 0 0) (omega arith)) ∙ picture_text-push (take p planes) (plane_at planes p) in
    let both = ap length step ∙ length-append (picture_text (take p planes)) (concat (plane_at planes p).rows) in
    omega arith

pub length-picture : (shape : Shape) (planes : List Raster) → ArePlanes shape planes → length (picture_text planes) ≡ bytes_of shape
length-picture shape planes are =
    ap (λ zs. length (picture_text zs)) (sym (take_all (planes_of shape) planes (let count = are.count in omega arith)))
    ∙ (length-planes shape planes are (planes_of shape) (omega arith) ∙ area_before_all shape)

pub length-frame : (shape : Shape) (planes : List Raster) → ArePlanes shape planes → length (frame_text planes) ≡ frame_size shape
length-frame shape planes are =
    let picture = length-picture shape planes are in
    length-append frame_mark (picture_text planes) ∙ ap (λ n. length frame_mark + n) picture

-- ---- a picture of any bytes

-- rows of w bytes each
abbrev cut_rows : ℕ → ℕ → List ℕ → List (List ℕ)
cut_rows w h bytes = map (λ r. take w (drop (w * r) bytes)) (range_with_len 0 h)

concat-cut_rows : (w h : ℕ) (bytes : List ℕ) → concat (cut_rows w h bytes) ≡ take (w * h) bytes
concat-cut_rows w zero bytes = rw (mul-zero w) refl
concat-cut_rows w (suc h) bytes =
    let row : ℕ → List ℕ = λ r. take w (drop (w * r) bytes) in
    ap (λ n. concat (cut_rows w n bytes)) (sym (add-one h))
    ∙ (ap concat (map-range_with_len_more row 0 h h (omega arith))
    ∙ (concat-push (cut_rows w h bytes) (row h)
    ∙ (ap (λ zs. zs ++ row h) (concat-cut_rows w h bytes)
    ∙ (sym (take-add (w * h) w bytes) ∙ ap (λ n. take n bytes) (sym (mul-suc w h))))))

IsRaster-cut : (w h : ℕ) (bytes : List ℕ) → w * h ≤ length bytes → IsRaster (record { width = w; height = h; rows = cut_rows w h bytes })
IsRaster-cut w h bytes room = record {
  rows_long = length-map-range_with_len (λ r. take w (drop (w * r) bytes)) 0 h;
  row_long = λ r less.
      ap length (get_or-map-range_with_len (λ k. take w (drop (w * k) bytes)) 0 h r r [] less (omega arith))
      ∙ length-take-le w (drop (w * r) bytes)
      (let next = mul-suc w r in let low : suc r ≤ h = omega arith in let fits = mul-le-mul_left w low in omega (arith, length-drop {A = ℕ}));
}

-- the planes of a picture whose samples are these bytes
cut_plane : Shape → List ℕ → ℕ → Raster
cut_plane shape bytes p = record { width = columns_of shape p; height = rows_of shape p; rows = cut_rows (columns_of shape p) (rows_of shape p) (drop (area_before shape p) bytes) }

abbrev cut_planes : Shape → List ℕ → ℕ → List Raster
cut_planes shape bytes n = map (cut_plane shape bytes) (range_with_len 0 n)

picture_text-cut : (shape : Shape) (bytes : List ℕ) (n : ℕ) → picture_text (cut_planes shape bytes n) ≡ take (area_before shape n) bytes
unfolding cut_plane
picture_text-cut shape bytes zero = rw (area_before_none shape) refl
picture_text-cut shape bytes (suc n) =
    let before = area_before shape n in
    let wide = columns_of shape n * rows_of shape n in
    ap (λ k. picture_text (cut_planes shape bytes k)) (sym (add-one n))
    ∙ (ap picture_text (map-range_with_len_more (cut_plane shape bytes) 0 n n (omega arith))
    ∙ (picture_text-push (cut_planes shape bytes n) (cut_plane shape bytes n)
    ∙ (ap (λ zs. zs ++ concat (cut_plane shape bytes n).rows) (picture_text-cut shape bytes n)
    ∙ (ap (λ zs. take before bytes ++ zs) (concat-cut_rows (columns_of shape n) (rows_of shape n) (drop before bytes))
    ∙ (sym (take-add before wide bytes) ∙ ap (λ k. take k bytes) (sym (area_before_suc shape n)))))))

ArePlanes-cut : (shape : Shape) (bytes : List ℕ) → length bytes ≡ bytes_of shape → ArePlanes shape (cut_planes shape bytes (planes_of shape))
unfolding cut_plane
ArePlanes-cut shape bytes long = record {
  count = length-map-range_with_len (cut_plane shape bytes) 0 (planes_of shape);
  width = λ p less. ap (λ (x : Raster). x.width) (here p less);
  height = λ p less. ap (λ (x : Raster). x.height) (here p less);
  rows = λ p less. subst IsRaster (sym (here p less))
      (IsRaster-cut (columns_of shape p) (rows_of shape p) (drop (area_before shape p) bytes) (let within = area_within shape p less in omega (arith, length-drop {A = ℕ})));
} where
  here : (p : ℕ) → p < planes_of shape → plane_at (cut_planes shape bytes (planes_of shape)) p ≡ cut_plane shape bytes p
  here p less = get_or-map-range_with_len (cut_plane shape bytes) 0 (planes_of shape) p p (blank_raster 0 0) less (omega arith)

-- ---- texts that can go on to be a frame

-- the picture whose samples are these bytes
pub picture_of : (shape : Shape) (body : List ℕ) → length body ≡ bytes_of shape → (planes : List Raster) × ArePlanes shape planes × (picture_text planes ≡ body)
picture_of shape body long = (
  cut_planes shape body (planes_of shape),
  ArePlanes-cut shape body long,
  picture_text-cut shape body (planes_of shape) ∙ take_all (area_before shape (planes_of shape)) body (let all = area_before_all shape in omega arith),
)

-- a text that goes on to be a line and a picture's bytes
can_begin : (shape : Shape) (text more line body : List ℕ) → IsMark line → length body ≡ bytes_of shape → text ++ more ≡ line ++ body → CanBeginFrame shape text
can_begin shape text more line body mark long e =
    let picture = picture_of shape body long in (
      more,
      record {
        mark = line;
        planes = picture.0;
        rest = [];
        is_mark = mark;
        are_planes = picture.1;
        text_is = e ∙ ap (λ (zs : List ℕ). line ++ zs) (sym picture.2 ∙ sym (append-nil (picture_text picture.0)));
      },
    )

-- a part of the line
pub can_begin-part : (shape : Shape) (front : List ℕ) → IsMarkPart front → CanBeginFrame shape front
can_begin-part shape front part =
    let body : List ℕ = replicate (bytes_of shape) 0 in
    can_begin shape front (part.more ++ body) (front ++ part.more) body part.is_mark (length-replicate {A = ℕ} (bytes_of shape) 0) (sym (append_assoc front part.more body))

-- the line and a part of the picture
pub can_begin-line : (shape : Shape) (line got : List ℕ) → IsMark line → length got ≤ bytes_of shape → CanBeginFrame shape (line ++ got)
can_begin-line shape line got mark room =
    let more : List ℕ = replicate (bytes_of shape - length got) 0 in
    can_begin shape (line ++ got) more line (got ++ more) mark
    (let zeros = length-replicate {A = ℕ} (bytes_of shape - length got) 0 in let both = length-append got more in omega arith)
    (append_assoc line got more)

-- a frame begins with its line
pub frame_mark_of : (shape : Shape) (text : List ℕ) → BeginsFrame shape text → BeginsMark text
frame_mark_of shape text b = record { mark = b.mark; rest = picture_text b.planes ++ b.rest; is_mark = b.is_mark; text_is = b.text_is }

pub can_mark_of : (shape : Shape) (text : List ℕ) → CanBeginFrame shape text → CanBeginMark text
can_mark_of shape text can = (can.0, frame_mark_of shape (text ++ can.0) can.1)

-- a text that ends within the line
pub no_frame-part : (shape : Shape) (front : List ℕ) → IsMarkPart front → ¬ BeginsFrame shape front
no_frame-part shape front part b = part_no_mark part (frame_mark_of shape front b)

-- a text that ends within the picture
pub no_frame-line : (shape : Shape) (line got : List ℕ) → IsMark line → length got < bytes_of shape → ¬ BeginsFrame shape (line ++ got)
no_frame-line shape line got mark short b =
    let same = mark_unique got (picture_text b.planes ++ b.rest) mark b.is_mark b.text_is in
    let body = append_cancel_left line got (picture_text b.planes ++ b.rest) (b.text_is ∙ ap (λ (xs : List ℕ). xs ++ (picture_text b.planes ++ b.rest)) (sym same)) in
    let all = ap length body ∙ length-append (picture_text b.planes) b.rest in
    let picture = length-picture shape b.planes b.are_planes in
    omega arith

-- the bytes within the limit begin with these
pub front_of : (room : ℕ) (left got rest : List ℕ) → left ≡ got ++ rest → length got ≤ room → (more : List ℕ) × (take room left ≡ got ++ more)
front_of room left got rest is within =
    let whole : length got + (room - length got) ≡ room = omega arith in
    (take (room - length got) rest, ap (take room) is ∙ (ap (λ (n : ℕ). take n (got ++ rest)) (sym whole) ∙ take-append-add got rest (room - length got)))

-- a text that begins with bytes with which no line does
pub bad_frame : (shape : Shape) (room : ℕ) (left got rest : List ℕ) → left ≡ got ++ rest → length got ≤ room → ¬ CanBeginMark got → IsBadFrame shape room left
bad_frame shape room left got rest is within none can =
    let front = front_of room left got rest is within in
    let b = frame_mark_of shape (take room left ++ can.0) can.1 in
    none (front.0 ++ can.0, record { mark = b.mark; rest = b.rest; is_mark = b.is_mark; text_is = sym (append_assoc got front.0 can.0) ∙ (ap (λ (xs : List ℕ). xs ++ can.0) (sym front.1) ∙ b.text_is) })
