-- A file has one outcome at most.
use Rattle.std.proofs.Common.{◌≡◌, ℕ, ℤ, suc, ◌+◌, ◌-◌, ◌*◌, ◌<◌, ◌≤◌, List, [], ◌∷◌, ◌++◌, take, length, get_or, Result, Ok, Err, ap, sym, ◌∙◌, subst, arith, refl, append_assoc, length-append}
use Rattle.std.specs.List.{concat}
use Rattle.std.proofs.lemmas.List.{append_cancel_left, append-nil, take_all}
use Rattle.av_base.specs.declared.shapes.Shape.{Shape}
use Rattle.av_base.specs.Shapes.{bytes_of}
use Rattle.av_frame.specs.Rasters.{Raster, IsRaster}
use Rattle.av_frame.specs.Frames.{FrameValue, ArePlanes, plane_at}
use Rattle.av_frame.specs.declared.faults.NextError.{NextError}
use Rattle.av_frame.specs.declared.faults.NextError.TheVariants as next
use Rattle.y4m_io.specs.Files.{BeginsFile, HasFrames, IsDamage, HasDamage, FramesMean}
use Rattle.y4m_io.specs.FrameTexts.{picture_text, IsMark, BeginsFrame, CanBeginFrame, IsFrameAt, AreFramesThen, IsBadFrame, IsTruncated}
use Rattle.y4m_io.proofs.LineLemmas.{split_same, split_first, feed_unique}
use Rattle.y4m_io.proofs.MarkLemmas.{mark_unique, no_part}
use Rattle.y4m_io.proofs.FrameLemmas.{length-raster, no_frame-part, can_begin-part, front_of}
use Rattle.y4m_io.proofs.FrameListLemmas.{planes_at, rest_shorter, length-first}

-- ---- pictures

-- rows of one length
same_rows : (w : ℕ) (xs ys : List (List ℕ)) → length xs ≡ length ys → ((r : ℕ) → r < length xs → length (get_or xs r []) ≡ w) → ((r : ℕ) → r < length xs → length (get_or ys r []) ≡ w)
    → concat xs ≡ concat ys → xs ≡ ys
same_rows w [] [] n long wide e = refl
same_rows w [] (y ∷ ys) n long wide e = absurd (omega arith)
same_rows w (x ∷ xs) [] n long wide e = absurd (omega arith)
same_rows w (x ∷ xs) (y ∷ ys) n long wide e =
    let same : length x ≡ length y = long 0 (omega arith) ∙ sym (wide 0 (omega arith)) in
    let first = split_first x y (concat xs) (concat ys) e same in
    let rest = same_rows w xs ys (omega arith) (λ r h. long (suc r) (omega arith)) (λ r h. wide (suc r) (omega arith)) (split_same x y (concat xs) (concat ys) e same) in
    cc

-- planes of one size
record AreAlike (x y : Raster) : Type 0 where
  width : x.width ≡ y.width
  height : x.height ≡ y.height
  left : IsRaster x
  right : IsRaster y

alike_length : (x y : Raster) → AreAlike x y → length (concat x.rows) ≡ length (concat y.rows)
alike_length x y a = length-raster x a.left ∙ (ap (λ n. n * x.height) a.width ∙ ap (λ n. y.width * n) a.height) ∙ sym (length-raster y a.right)

same_plane : (x y : Raster) → AreAlike x y → concat x.rows ≡ concat y.rows → x ≡ y
same_plane x y a e =
    let count = a.left.rows_long in
    let other = a.right.rows_long in
    let height = a.height in
    let rows = same_rows x.width x.rows y.rows (omega arith) (λ r h. a.left.row_long r (omega arith)) (λ r h. a.right.row_long r (omega arith) ∙ sym a.width) e in
    let first : x ≡ record { width = y.width; height = x.height; rows = x.rows } = ap (λ (n : ℕ). record { width = n; height = x.height; rows = x.rows }) a.width in
    first
    ∙ (ap (λ (n : ℕ). record { width = y.width; height = n; rows = x.rows }) a.height ∙ ap (λ (zs : List (List ℕ)). record { width = y.width; height = y.height; rows = zs }) rows)

same_planes : (xs ys : List Raster) → length xs ≡ length ys → ((p : ℕ) → p < length xs → AreAlike (plane_at xs p) (plane_at ys p)) → picture_text xs ≡ picture_text ys → xs ≡ ys
same_planes [] [] n alike e = refl
same_planes [] (y ∷ ys) n alike e = absurd (omega arith)
same_planes (x ∷ xs) [] n alike e = absurd (omega arith)
same_planes (x ∷ xs) (y ∷ ys) n alike e =
    let here : AreAlike x y = alike 0 (omega arith) in
    let long = alike_length x y here in
    let first = same_plane x y here (split_first (concat x.rows) (concat y.rows) (picture_text xs) (picture_text ys) e long) in
    let rest = same_planes xs ys (omega arith) (λ p h. alike (suc p) (omega arith)) (split_same (concat x.rows) (concat y.rows) (picture_text xs) (picture_text ys) e long) in
    cc

-- the planes of pictures of one shape
pub same_picture : (shape : Shape) (xs ys : List Raster) → ArePlanes shape xs → ArePlanes shape ys → picture_text xs ≡ picture_text ys → xs ≡ ys
same_picture shape xs ys a b e =
    same_planes xs ys (a.count ∙ sym b.count) (λ p h. let few : p < length ys = (let m = a.count in let n = b.count in omega arith) in record {
      width = a.width p (let m = a.count in omega arith) ∙ sym (b.width p (let n = b.count in omega arith));
      height = a.height p (let m = a.count in omega arith) ∙ sym (b.height p (let n = b.count in omega arith));
      left = a.rows p (let m = a.count in omega arith);
      right = b.rows p (let n = b.count in omega arith);
    }) e

same_frame : (shape : Shape) (k : ℕ) (x y : FrameValue) → IsFrameAt shape k x → IsFrameAt shape k y → picture_text x.planes ≡ picture_text y.planes → x ≡ y
same_frame shape k x y a b e =
    let planes = same_picture shape x.planes y.planes a.are_planes b.are_planes e in
    let first : x ≡ record { shape = y.shape; planes = x.planes; pts = x.pts; duration = x.duration } =
    ap (λ (s : Shape). record { shape = s; planes = x.planes; pts = x.pts; duration = x.duration }) (a.shape_is ∙ sym b.shape_is) in
    first
    ∙ (ap (λ (zs : List Raster). record { shape = y.shape; planes = zs; pts = x.pts; duration = x.duration }) planes
    ∙ (ap (λ (t : ℤ). record { shape = y.shape; planes = y.planes; pts = t; duration = x.duration }) (a.pts ∙ sym b.pts)
    ∙ ap (λ (t : ℤ). record { shape = y.shape; planes = y.planes; pts = y.pts; duration = t }) (a.duration ∙ sym b.duration)))

-- ---- frames

-- two first frames of a text
pub same_first : (shape : Shape) (k : ℕ) (x y : FrameValue) (text mark other r s : List ℕ) → IsMark mark → IsMark other → IsFrameAt shape k x → IsFrameAt shape k y → text ≡ mark ++ (picture_text x.planes ++ r)
    → text ≡ other ++ (picture_text y.planes ++ s) → (mark ≡ other) × (x ≡ y) × (r ≡ s)
same_first shape k x y text mark other r s m o a b e f =
    let both = sym e ∙ f in
    let marks = mark_unique (picture_text x.planes ++ r) (picture_text y.planes ++ s) m o both in
    let bodies = append_cancel_left mark (picture_text x.planes ++ r) (picture_text y.planes ++ s) (both ∙ ap (λ (z : List ℕ). z ++ (picture_text y.planes ++ s)) (sym marks)) in
    let long : length (picture_text x.planes) ≡ length (picture_text y.planes) = planes_at shape k x a ∙ sym (planes_at shape k y b) in (
      marks,
      same_frame shape k x y a b (split_first (picture_text x.planes) (picture_text y.planes) r s bodies long),
      split_same (picture_text x.planes) (picture_text y.planes) r s bodies long,
    )

-- no other frame is whole within the limit
abbrev pub IsOver : Shape → ℕ → List ℕ → Type 0
IsOver shape room rest = ¬ BeginsFrame shape (take room rest)

-- a frame that is within the limit
frame_within : (shape : Shape) (k room : ℕ) (text mark after : List ℕ) (f : FrameValue) → IsMark mark → IsFrameAt shape k f → text ≡ mark ++ (picture_text f.planes ++ after) → length text ≤ room + length after → BeginsFrame shape (take room text)
frame_within shape k room text mark after f line is e within =
    let long = length-first shape k f text mark after is e in
    let picture = planes_at shape k f is in
    let both = length-append mark (picture_text f.planes) in
    let front = front_of room text (mark ++ picture_text f.planes) after (e ∙ sym (append_assoc mark (picture_text f.planes) after)) (omega arith) in
    record { mark = mark; planes = f.planes; rest = front.0; is_mark = line; are_planes = is.are_planes; text_is = front.1 ∙ append_assoc mark (picture_text f.planes) front.0 }

-- a text is one list of frames at most, within a limit
pub one_split : (shape : Shape) (k room : ℕ) (text : List ℕ) (xs ys : List FrameValue) (r s : List ℕ) → AreFramesThen shape k text xs r → AreFramesThen shape k text ys s → length text ≤ room + length r
    → length text ≤ room + length s → IsOver shape (room - (length text - length r)) r → IsOver shape (room - (length text - length s)) s → (xs ≡ ys) × (r ≡ s)
one_split shape k room text [] [] r s a b low less over done = (refl, sym a ∙ b)
one_split shape k room text [] (y ∷ ys) r s a b low less over done =
    let shorter = rest_shorter shape (k + 1) b.1 ys s b.5 in
    let all : room - (length text - length r) ≡ room = let same = ap length a in omega arith in
    let frame = frame_within shape k room text b.0 b.1 y b.2 b.3 b.4 (omega arith) in
    absurd (over (subst (λ (n : ℕ). BeginsFrame shape (take n r)) (sym all) (subst (λ (t : List ℕ). BeginsFrame shape (take room t)) a frame)))
one_split shape k room text (x ∷ xs) [] r s a b low less over done =
    let shorter = rest_shorter shape (k + 1) a.1 xs r a.5 in
    let all : room - (length text - length s) ≡ room = let same = ap length b in omega arith in
    let frame = frame_within shape k room text a.0 a.1 x a.2 a.3 a.4 (omega arith) in
    absurd (done (subst (λ (n : ℕ). BeginsFrame shape (take n s)) (sym all) (subst (λ (t : List ℕ). BeginsFrame shape (take room t)) b frame)))
one_split shape k room text (x ∷ xs) (y ∷ ys) r s a b low less over done =
    let first = same_first shape k x y text a.0 b.0 a.1 b.1 a.2 b.2 a.3 b.3 a.4 b.4 in
    let size = length a.0 + bytes_of shape in
    let long : length text ≡ size + length a.1 = length-first shape k x text a.0 a.1 a.3 a.4 in
    let shorter = rest_shorter shape (k + 1) a.1 xs r a.5 in
    let other : AreFramesThen shape (k + 1) a.1 ys s = subst (λ (t : List ℕ). AreFramesThen shape (k + 1) t ys s) (sym first.2) b.5 in
    let fewer = rest_shorter shape (k + 1) a.1 ys s other in
    let left : room - (length text - length r) ≡ (room - size) - (length a.1 - length r) = omega arith in
    let right : room - (length text - length s) ≡ (room - size) - (length a.1 - length s) = omega arith in
    let rest = one_split shape (k + 1) (room - size) a.1 xs ys r s a.5 other (omega arith) (omega arith) (subst (λ (n : ℕ). IsOver shape n r) left over) (subst (λ (n : ℕ). IsOver shape n s) right done) in
    let frame = first.1 in
    let frames = rest.0 in
    (cc, rest.1)

-- ---- damage

over_nothing : (shape : Shape) (room : ℕ) → IsOver shape room []
over_nothing shape room b = no_frame-part shape [] no_part (subst (BeginsFrame shape) (take_all room [] (omega arith)) b)

damage_over : (shape : Shape) (room count : ℕ) (rest : List ℕ) (e : NextError) → IsDamage shape room count rest e → IsOver shape room rest
damage_over shape room count rest (next.BadFrame k) d b = d.1 ([], subst (BeginsFrame shape) (sym (append-nil (take room rest))) b)
damage_over shape room count rest (next.Truncated k) d b = d.1.no_frame (subst (BeginsFrame shape) (take_all room rest d.1.within) b)
damage_over shape room count rest next.TooLong d b = d.no_frame b
damage_over shape room count rest next.Host d b = d
damage_over shape room count rest next.NoMemory d b = d

no_damage : (shape : Shape) (room count : ℕ) (e : NextError) → ¬ IsDamage shape room count [] e
no_damage shape room count (next.BadFrame k) d = d.1 (subst (CanBeginFrame shape) (sym (take_all room [] (omega arith))) (can_begin-part shape [] no_part))
no_damage shape room count (next.Truncated k) d = let some = d.1.some in omega arith
no_damage shape room count next.TooLong d = let past = d.past in omega arith
no_damage shape room count next.Host d = d
no_damage shape room count next.NoMemory d = d

bad_or_truncated : (shape : Shape) (room : ℕ) (rest : List ℕ) → IsBadFrame shape room rest → IsTruncated shape room rest → ⊥
bad_or_truncated shape room rest bad t = bad (subst (CanBeginFrame shape) (sym (take_all room rest t.within)) t.can_begin)

pub one_damage : (shape : Shape) (room count : ℕ) (rest : List ℕ) (e f : NextError) → IsDamage shape room count rest e → IsDamage shape room count rest f → e ≡ f
one_damage shape room count rest (next.BadFrame k) (next.BadFrame n) d h = ap (λ (m : ℕ). next.BadFrame m) (d.0 ∙ sym h.0)
one_damage shape room count rest (next.BadFrame k) (next.Truncated n) d h = absurd (bad_or_truncated shape room rest d.1 h.1)
one_damage shape room count rest (next.BadFrame k) next.TooLong d h = absurd (d.1 h.can_begin)
one_damage shape room count rest (next.Truncated k) (next.BadFrame n) d h = absurd (bad_or_truncated shape room rest h.1 d.1)
one_damage shape room count rest (next.Truncated k) (next.Truncated n) d h = ap (λ (m : ℕ). next.Truncated m) (d.0 ∙ sym h.0)
one_damage shape room count rest (next.Truncated k) next.TooLong d h = absurd (let within = d.1.within in let past = h.past in omega arith)
one_damage shape room count rest next.TooLong (next.BadFrame n) d h = absurd (h.1 d.can_begin)
one_damage shape room count rest next.TooLong (next.Truncated n) d h = absurd (let within = h.1.within in let past = d.past in omega arith)
one_damage shape room count rest next.TooLong next.TooLong d h = refl
one_damage shape room count rest next.Host f d h = absurd d
one_damage shape room count rest next.NoMemory f d h = absurd d
one_damage shape room count rest e next.Host d h = absurd h
one_damage shape room count rest e next.NoMemory d h = absurd h

-- ---- files

pub one_beginning : (limit : ℕ) (bytes : List ℕ) (shape : Shape) (xs ys : List FrameValue) (r s : List ℕ) → BeginsFile limit bytes shape xs r → BeginsFile limit bytes shape ys s
    → IsOver shape (limit - (length bytes - length r)) r → IsOver shape (limit - (length bytes - length s)) s → (xs ≡ ys) × (r ≡ s)
one_beginning limit bytes shape xs ys r s a b over done =
    let line = a.has_head.line in
    let first = a.has_head.has_line in
    let second = b.has_head.has_line in
    let lines : line ≡ b.has_head.line = feed_unique line b.has_head.line first.rest second.rest first.no_feed second.no_feed (sym first.bytes_are ∙ second.bytes_are) in
    let feeds : 10 ∷ second.rest ≡ 10 ∷ first.rest = append_cancel_left line (10 ∷ second.rest) (10 ∷ first.rest) (ap (λ (z : List ℕ). z ++ 10 ∷ second.rest) lines ∙ (sym second.bytes_are ∙ first.bytes_are)) in
    let texts : second.rest ≡ first.rest = cc in
    let other : AreFramesThen shape 0 first.rest ys s = subst (λ (t : List ℕ). AreFramesThen shape 0 t ys s) texts b.are_frames in
    let all = ap length first.bytes_are ∙ length-append line (10 ∷ first.rest) in
    let shorter = rest_shorter shape 0 first.rest xs r a.are_frames in
    let fewer = rest_shorter shape 0 first.rest ys s other in
    let within = first.within in
    let low = a.within in
    let less = b.within in
    let room = limit - (length line + 1) in
    let left : limit - (length bytes - length r) ≡ room - (length first.rest - length r) = omega arith in
    let right : limit - (length bytes - length s) ≡ room - (length first.rest - length s) = omega arith in
    one_split shape 0 room first.rest xs ys r s a.are_frames other (omega arith) (omega arith) (subst (λ (n : ℕ). IsOver shape n r) left over) (subst (λ (n : ℕ). IsOver shape n s) right done)

whole_or_damaged : (limit : ℕ) (bytes : List ℕ) (shape : Shape) (xs : List FrameValue) (damage : List FrameValue × NextError) → HasFrames limit bytes shape xs → HasDamage limit bytes shape damage.0 damage.1 → ⊥
whole_or_damaged limit bytes shape xs damage a d =
    let room = limit - (length bytes - length d.rest) in
    let over = damage_over shape room (length damage.0) d.rest damage.1 d.is_damage in
    let same = one_beginning limit bytes shape xs damage.0 [] d.rest a d.begins (over_nothing shape (limit - (length bytes - 0))) over in
    no_damage shape room (length damage.0) damage.1 (subst (λ (t : List ℕ). IsDamage shape room (length damage.0) t damage.1) (sym same.1) d.is_damage)

same_damage : (limit : ℕ) (bytes : List ℕ) (shape : Shape) (xs ys : List FrameValue) (e f : NextError) → HasDamage limit bytes shape xs e → HasDamage limit bytes shape ys f → (xs ≡ ys) × (e ≡ f)
same_damage limit bytes shape xs ys e f a b =
    let over = damage_over shape (limit - (length bytes - length a.rest)) (length xs) a.rest e a.is_damage in
    let done = damage_over shape (limit - (length bytes - length b.rest)) (length ys) b.rest f b.is_damage in
    let same = one_beginning limit bytes shape xs ys a.rest b.rest a.begins b.begins over done in
    let kept : IsDamage shape (limit - (length bytes - length b.rest)) (length xs) b.rest e = subst (λ (t : List ℕ). IsDamage shape (limit - (length bytes - length t)) (length xs) t e) same.1 a.is_damage in
    let moved : IsDamage shape (limit - (length bytes - length b.rest)) (length ys) b.rest e = subst (λ (zs : List FrameValue). IsDamage shape (limit - (length bytes - length b.rest)) (length zs) b.rest e) same.0 kept in
    (same.0, one_damage shape (limit - (length bytes - length b.rest)) (length ys) b.rest e f moved b.is_damage)

pub one_frames : (limit : ℕ) (bytes : List ℕ) (shape : Shape) (r t : Result (List FrameValue) (List FrameValue × NextError)) → FramesMean limit bytes shape r → FramesMean limit bytes shape t → r ≡ t
one_frames limit bytes shape (Ok xs) (Ok ys) a b = ap Ok (one_beginning limit bytes shape xs ys [] [] a b (over_nothing shape (limit - (length bytes - 0))) (over_nothing shape (limit - (length bytes - 0)))).0
one_frames limit bytes shape (Ok xs) (Err damage) a b = absurd (whole_or_damaged limit bytes shape xs damage a b)
one_frames limit bytes shape (Err damage) (Ok ys) a b = absurd (whole_or_damaged limit bytes shape ys damage b a)
one_frames limit bytes shape (Err (xs, e)) (Err (ys, f)) a b =
    let same = same_damage limit bytes shape xs ys e f a b in
    ap (λ (zs : List FrameValue). Err (zs, e)) same.0 ∙ ap (λ (x : NextError). Err (ys, x)) same.1
