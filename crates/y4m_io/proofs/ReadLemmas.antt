-- Reads one after another, and what follows of the text that was left.
use Rattle.std.proofs.Common.{◌∷◌, ◌≡◌, ℕ, ◌+◌, ◌-◌, ◌*◌, ◌/◌, ◌^◌, ◌<◌, ◌≤◌, List, [], ◌++◌, length, take, drop, set, Some, Result, Ok, Err, IfOk, OnErr, ap, sym, ◌∙◌, subst, arith, refl, append_assoc, length-append, ℤ, pos}
use Rattle.std.specs.List.{concat}
use Rattle.std.specs.Option.{ForSome}
use Rattle.std.specs.Result.{OkIff, result_unwrap_or}
use Rattle.std.proofs.lemmas.List.{append-nil, take_at, length-take-le, take_all, take_more_set, set-set}
use Rattle.std.proofs.Math.Nat.{add-mul, mul-le-mul_right, mul_comm, div-mul-le_self}
use Rattle.std.proofs.lemmas.Int.{to_z_pos}
use mir.Val.{to_z}
use mir.Syntax.{w64}
use Rattle.av_base.specs.declared.shapes.Shape.{Shape}
use Rattle.av_base.specs.Shapes.{planes_of, columns_of, rows_of, bytes_of}
use Rattle.av_frame.specs.Rasters.{Raster}
use Rattle.av_frame.specs.Frames.{FrameValue, EditValue, plane_at, ArePlanes, IsPicture}
use Rattle.av_host.specs.World.{World}
use Rattle.av_host.specs.Calls.{Reads}
use Rattle.av_host.proofs.Runs.{Reads-append}
use Rattle.av_host.specs.HostRuns.{ReadsSome}
use Rattle.y4m_io.specs.FrameTexts.{picture_text, IsMark, BeginsFrame, CanBeginFrame, IsBadFrame, IsTruncated, IsPastLimit, frame_mark}
use Rattle.y4m_io.specs.Pieces.{ReadsWholePlane, ReadsShort, HasEnded, ReadsNoMark, ReadsMarkPart, ReadsMarkPast, EndsWithin, ReadsFrame, Finds, CanBeginMark}
use Rattle.y4m_io.specs.Sizes.{longest_mark}
use Rattle.y4m_io.specs.Reading.{Reading, GivesFrame, Refuses}
use Rattle.y4m_io.specs.declared.y4m_state.Stage.{Stage}
use Rattle.y4m_io.specs.declared.y4m_state.Stage.TheVariants.{Headed, Spent}
use Rattle.y4m_io.specs.declared.reader.Found.{Found}
use Rattle.y4m_io.specs.declared.reader.Found.TheVariants as found
use Rattle.y4m_io.proofs.MarkLemmas.{length-mark, written_mark}
use Rattle.y4m_io.proofs.FrameLemmas.{area_within, length-planes, length-picture, picture_text-push, can_begin-part, can_begin-line, no_frame-part, no_frame-line, bad_frame}

-- ---- worlds

pub ReadsSome-append : {a b c : World} {id : ℕ} → ReadsSome a b id → ReadsSome b c id → ReadsSome a c id
ReadsSome-append p q = (p.0 ++ q.0, Reads-append p.1 q.1)

-- what was left is what was read, if the input ended
pub all_read : {a c : World} {id : ℕ} {xs : List ℕ} → Reads a c id xs → ForSome (a.inputs.left id) (λ _. c.inputs.left id ≡ Some []) → ForSome (a.inputs.left id) (λ left. left ≡ xs)
all_read {a} {c} {id} {xs} reads ended = λ left told.
    let none : drop (length xs) left ≡ [] = let p = reads.inputs.left left told in let q = ended left told in cc in
    reads.inputs.begins left told ∙ (ap (λ zs. xs ++ zs) none ∙ append-nil xs)

-- an end that is found after a read
pub ended_after : {a b : World} {id : ℕ} {xs : List ℕ} (c : World) → Reads a b id xs → ForSome (b.inputs.left id) (λ _. c.inputs.left id ≡ Some []) → ForSome (a.inputs.left id) (λ _. c.inputs.left id ≡ Some [])
ended_after {a} {b} {id} {xs} c reads ended = λ left told. ended (drop (length xs) left) (reads.inputs.left left told)

-- a length that is turned to `usize`
pub unwrapped : {E : Type 0} (r : Result ℕ E) (n d : ℕ) → OkIff r (n < 2 ^ 64) n → n < 2 ^ 64 → result_unwrap_or r d ≡ n
unwrapped (Ok x) n d is fits = is.1
unwrapped (Err e) n d is fits = absurd (is fits)

-- ---- planes

-- this number of rows fits into a piece
pub piece_fits : (k w : ℕ) → k ≤ 65536 / w → k * w ≤ 65536
piece_fits k w few =
    let rows = mul-le-mul_right w few in
    let whole = div-mul-le_self 65536 w in
    omega arith

-- one plane changes, and changes again
one_plane : (before now next : EditValue) (p : ℕ) → now ≡ record before { planes = set before.planes p (plane_at now.planes p) }
    → next ≡ record now { planes = set now.planes p (plane_at next.planes p) } → next ≡ record before { planes = set before.planes p (plane_at next.planes p) }
one_plane before now next p e f =
    let x = plane_at now.planes p in
    let y = plane_at next.planes p in
    f ∙ (ap (λ (v : EditValue). record v { planes = set v.planes p y }) e ∙ ap (λ (z : List Raster). record before { planes = z }) (set-set before.planes p x y))

-- Only the plane changed, and its rows before one were read.
pub record ReadsRows (old new : World) (id plane row : ℕ) (before now : EditValue) : Type 0 where
  pub within : row ≤ rows_of before.shape plane
  pub reads : Reads old new id (concat (take row (plane_at now.planes plane).rows))
  pub long : length (concat (take row (plane_at now.planes plane).rows)) ≡ row * columns_of before.shape plane
  pub edit : now ≡ record before { planes = set before.planes plane (plane_at now.planes plane) }
  pub picture : IsPicture now.shape now.planes

module _ {old new next : World} {id plane row : ℕ} {before now : EditValue} (h : ReadsRows old new id plane row before now) (count n : ℕ) (piece : List ℕ) where
  -- A whole piece was read.
  pub ReadsRows-more : {after : EditValue} → row + count ≤ rows_of before.shape plane → length piece ≡ count * columns_of before.shape plane → length piece ≤ n
      → Reads new next id (take n piece) → after ≡ record now { planes = set now.planes plane (plane_at after.planes plane) }
      → concat (take (row + count) (plane_at after.planes plane).rows) ≡ concat (take row (plane_at now.planes plane).rows) ++ piece → IsPicture after.shape after.planes → ReadsRows old next id plane (row + count) before after
  ReadsRows-more {after} low wide all reads put rows is =
      let both = length-append (concat (take row (plane_at now.planes plane).rows)) piece in
      let area = add-mul row count (columns_of before.shape plane) in
      let so_far = h.long in
      let length_is = ap length rows in
      record {
        within = low;
        reads = subst (λ (xs : List ℕ). Reads old next id xs) (sym rows) (Reads-append h.reads (subst (λ (xs : List ℕ). Reads new next id xs) (take_all n piece all) reads));
        long = omega arith;
        edit = one_plane before now after plane h.edit put;
        picture = is;
      }

  -- The input ended within a piece.
  pub ReadsRows-short : row + count ≤ rows_of before.shape plane → n < count * columns_of before.shape plane → n ≤ length piece → Reads new next id (take n piece)
      → ForSome (new.inputs.left id) (λ _. next.inputs.left id ≡ Some []) → ReadsShort old next id (columns_of before.shape plane * rows_of before.shape plane)
  ReadsRows-short low short within reads ended =
      let wide = columns_of before.shape plane in
      let both = length-append (concat (take row (plane_at now.planes plane).rows)) (take n piece) in
      let part = length-take-le n piece within in
      let area = add-mul row count wide in
      let fits = mul-le-mul_right wide low in
      let turned = mul_comm wide (rows_of before.shape plane) in
      let so_far = h.long in
      record {
        got = concat (take row (plane_at now.planes plane).rows) ++ take n piece;
        reads = Reads-append h.reads reads;
        short = omega arith;
        ended = ended_after next h.reads ended;
      }

-- ---- pictures

-- The shape stayed, and the planes before one were read.
pub record ReadsPlanes (old new : World) (id plane : ℕ) (before now : EditValue) : Type 0 where
  pub within : plane ≤ planes_of before.shape
  pub reads : Reads old new id (picture_text (take plane now.planes))
  pub shape : now.shape ≡ before.shape

module _ {old new next : World} {id plane : ℕ} {before now : EditValue} (h : ReadsPlanes old new id plane before now) (is : IsPicture now.shape now.planes) (less : plane < planes_of now.shape) where
  -- A whole plane was read.
  pub ReadsPlanes-more : {after : EditValue} → ReadsWholePlane new next id plane now after → ReadsPlanes old next id (plane + 1) before after
  ReadsPlanes-more {after} read =
      let x = plane_at after.planes plane in
      let count = is.sizes.count in
      let kept = ap planes_of h.shape in
      let text : picture_text (take (plane + 1) after.planes) ≡ picture_text (take plane now.planes) ++ concat x.rows =
      ap (λ (e : EditValue). picture_text (take (plane + 1) e.planes)) read.edit
      ∙ (ap picture_text (take_more_set now.planes plane x (omega arith)) ∙ picture_text-push (take plane now.planes) x) in
      record {
        within = omega arith;
        reads = subst (λ (xs : List ℕ). Reads old next id xs) (sym text) (Reads-append h.reads read.reads);
        shape = ap (λ (e : EditValue). e.shape) read.edit ∙ h.shape;
      }

  -- The input ended within a plane.
  pub ReadsPlanes-short : ReadsShort new next id (columns_of now.shape plane * rows_of now.shape plane) → ReadsShort old next id (bytes_of before.shape)
  ReadsPlanes-short read =
      let part = length-planes now.shape now.planes is.sizes plane (omega arith) in
      let fits = area_within now.shape plane less in
      let both = length-append (picture_text (take plane now.planes)) read.got in
      let kept = ap bytes_of h.shape in
      record {
        got = picture_text (take plane now.planes) ++ read.got;
        reads = Reads-append h.reads read.reads;
        short = let short = read.short in omega arith;
        ended = ended_after next h.reads read.ended;
      }

-- ---- what is found at the place of a frame

-- bytes with which no line of a frame begins
-- what can't begin a frame's line isn't empty
some_no_mark : (front : List ℕ) → ¬ CanBeginMark front → 0 < length front
some_no_mark [] none = absurd (none (frame_mark, record { mark = frame_mark; rest = []; is_mark = written_mark; text_is = refl }))
some_no_mark (x ∷ xs) none = omega arith

pub found_no_mark : {a c : World} {id room : ℕ} (shape : Shape) → ReadsNoMark a c id room → (0 < room) × ReadsSome a c id × ForSome (a.inputs.left id) (IsBadFrame shape room)
found_no_mark {a} {c} {id} {room} shape r =
    ((let some = some_no_mark r.front r.no_mark in let within = r.within in omega arith), (r.front, r.reads), λ left told. bad_frame shape room left r.front (drop (length r.front) left) (r.reads.inputs.begins left told) r.within r.no_mark)

-- the input ended within the line
pub found_mark_part : {a c : World} {id room : ℕ} (shape : Shape) → ReadsMarkPart a c id room → (0 < room) × ReadsSome a c id × ForSome (a.inputs.left id) (IsTruncated shape room)
found_mark_part {a} {c} {id} {room} shape r = (
  (let some = r.some in let within = r.within in omega arith),
  (r.front, r.reads),
  λ left told. subst (IsTruncated shape room) (sym (all_read r.reads r.ended left told)) record {
    some = r.some;
    within = r.within;
    can_begin = can_begin-part shape r.front r.is_part;
    no_frame = no_frame-part shape r.front r.is_part;
  },
)

-- the limit comes after these bytes, and some bytes follow
past_front : {a c : World} {id : ℕ} (room : ℕ) (front piece : List ℕ) → Reads a c id (front ++ piece) → length front ≡ room → 0 < length piece → ForSome (a.inputs.left id) (λ left. (room < length left) × (take room left ≡ front))
past_front {a} {c} {id} room front piece reads all some = λ left told.
    let rest = drop (length (front ++ piece)) left in
    let begins : left ≡ front ++ (piece ++ rest) = reads.inputs.begins left told ∙ append_assoc front piece rest in (
      let long = ap length begins ∙ length-append front (piece ++ rest) in let p = length-append piece rest in omega arith,
      ap (take room) begins ∙ take_at front (piece ++ rest) room all,
    )

found_past : {a c : World} {id room : ℕ} (shape : Shape) (front piece : List ℕ) → Reads a c id (front ++ piece) → length front ≡ room → 0 < length piece → CanBeginFrame shape front → ¬ BeginsFrame shape front
    → ReadsSome a c id × ForSome (a.inputs.left id) (IsPastLimit shape room)
found_past {a} {c} {id} {room} shape front piece reads all some can none = (
  (front ++ piece, reads),
  λ left told.
      let past = past_front room front piece reads all some left told in
      record {
        past = past.0;
        can_begin = subst (CanBeginFrame shape) (sym past.1) can;
        no_frame = subst (λ (t : List ℕ). ¬ BeginsFrame shape t) (sym past.1) none;
      },
)

-- the limit comes within the line
pub found_mark_past : {a c : World} {id room : ℕ} (shape : Shape) → ReadsMarkPast a c id room → (room < longest_mark + bytes_of shape) × ReadsSome a c id × ForSome (a.inputs.left id) (IsPastLimit shape room)
found_mark_past {a} {c} {id} {room} shape r =
    let past = found_past shape r.front r.piece r.reads r.all r.some (can_begin-part shape r.front r.is_part) (no_frame-part shape r.front r.is_part) in (
      (let all = r.all in let part = r.is_part in let more = part.some in let long = length-append r.front part.more in let short = part.is_mark.short in omega arith),
      past.0,
      past.1,
    )

-- the input ended within the picture
found_body : {a c : World} {id room : ℕ} (shape : Shape) (line got : List ℕ) → IsMark line → Reads a c id (line ++ got) → HasEnded a c id → length got < bytes_of shape → length (line ++ got) ≤ room
    → (0 < room) × ReadsSome a c id × ForSome (a.inputs.left id) (IsTruncated shape room)
found_body {a} {c} {id} {room} shape line got mark reads ended short within = (
  (let all = length-append line got in let long = length-mark mark in omega arith),
  (line ++ got, reads),
  λ left told. subst (IsTruncated shape room) (sym (all_read reads ended left told)) record {
    some = let all = length-append line got in let long = length-mark mark in omega arith;
    within = within;
    can_begin = can_begin-line shape line got mark (omega arith);
    no_frame = no_frame-line shape line got mark short;
  },
)

pub found_short : {a b c : World} {id room n : ℕ} (shape : Shape) (line : List ℕ) → IsMark line → length line ≡ n → Reads a b id line → ReadsShort b c id (bytes_of shape) → n + bytes_of shape ≤ room
    → (0 < room) × ReadsSome a c id × ForSome (a.inputs.left id) (IsTruncated shape room)
found_short {a} {b} {c} {id} {room} {n} shape line mark long begun rest within =
    found_body shape line rest.got mark (Reads-append begun rest.reads) (ended_after c begun rest.ended) rest.short
    (let all = length-append line rest.got in let short = rest.short in omega arith)

-- the limit leaves no room for the picture
pub found_last : {a b : World} {id room n : ℕ} (c : World) (before after : EditValue) (line : List ℕ) (f : Found) → IsMark line → length line ≡ n → n ≤ room → Reads a b id line → room - n < bytes_of before.shape
    → EndsWithin b c id (room - n) f → Finds a c id room before after f
found_last {a} {b} {id} {room} {n} c before after line found.Short mark long low begun small e =
    found_body before.shape line e.0 mark (Reads-append begun e.1) (ended_after c begun e.3) (let w = e.2 in omega arith) (let all = length-append line e.0 in let w = e.2 in omega arith)
found_last {a} {b} {id} {room} {n} c before after line found.Past mark long low begun small e =
    let past = found_past before.shape (line ++ e.0) e.1 (subst (λ (xs : List ℕ). Reads a c id xs) (sym (append_assoc line e.0 e.1)) (Reads-append begun e.2))
    (let all = length-append line e.0 in let w = e.3 in omega arith) e.4 (can_begin-line before.shape line e.0 mark (let w = e.3 in omega arith)) (no_frame-line before.shape line e.0 mark (let w = e.3 in omega arith)) in
    ((let short = mark.short in omega arith), past.0, past.1)
found_last c before after line (found.Frame k) mark long low begun small e = absurd e
found_last c before after line found.End mark long low begun small e = absurd e
found_last c before after line found.Bad mark long low begun small e = absurd e

-- the same, of a result
pub ends_last : {a b : World} {id room n : ℕ} {E : Type 0} (c : World) (edit : EditValue) (r : Result Found E) (line : List ℕ) → IsMark line → length line ≡ n → n ≤ room → Reads a b id line → room - n < bytes_of edit.shape
    → IfOk r (EndsWithin b c id (room - n)) → IfOk r (Finds a c id room edit edit)
ends_last c edit (Ok f) line mark long low begun small e = found_last c edit edit line f mark long low begun small e
ends_last c edit (Err e) line mark long low begun small h = tt

pub refused_last : {T E : Type 0} {a b : World} {id : ℕ} {line : List ℕ} (c : World) (r : Result T E) → Reads a b id line → OnErr r (ReadsSome b c id) → OnErr r (ReadsSome a c id)
refused_last c (Ok x) begun h = tt
refused_last c (Err e) begun h = ReadsSome-append (_, begun) h

-- ---- a reader's next frame

-- a header's shape is known by the stage
pub same_shape : {id room frames : ℕ} {stage : Stage} {told shape : Shape} (reader : Reading) → record { id = id; room = room; frames = frames; stage = stage } ≡ reader → stage ≡ Headed told → reader.stage ≡ Headed shape
    → told ≡ shape
same_shape {id} {room} {frames} {stage} {told} {shape} reader view is headed =
    let kept : stage ≡ reader.stage = ap (λ (r : Reading). r.stage) view in
    let same : Headed told ≡ Headed shape = sym is ∙ (kept ∙ headed) in
    cc

-- The frame that is given and the reader after it.
frame_given : {old new : World} {id : ℕ} (room frames n size : ℕ) (stage : Stage) (shape s : Shape) (edit : EditValue) (line : List ℕ) → stage ≡ Headed shape → IsMark line → length line ≡ n
    → Reads old new id (line ++ picture_text edit.planes) → edit.shape ≡ shape → s ≡ edit.shape → IsPicture edit.shape edit.planes → size ≡ bytes_of shape → n + size ≤ room
    → GivesFrame shape old new (record { id = id; room = room; frames = frames; stage = stage }) (record { id = id; room = room - (n + size); frames = frames + 1; stage = Headed s })
    (record { shape = edit.shape; planes = edit.planes; pts = pos frames; duration = pos 1 })
frame_given {old} {new} {id} room frames n size stage shape s edit line headed mark long reads kept told is size_is within =
    let are = subst (λ (z : Shape). ArePlanes z edit.planes) kept is.sizes in
    let picture = length-picture shape edit.planes are in
    let both = length-append line (picture_text edit.planes) in
    let all : n + size ≡ length (line ++ picture_text edit.planes) = omega arith in
    record {
      mark = line;
      is_mark = mark;
      reads = reads;
      frame = record { shape_is = kept; are_planes = are; pts = refl; duration = refl };
      within = omega arith;
      after_is =
          ap (λ k. record { id = id; room = room - k; frames = frames + 1; stage = Headed s }) all
          ∙ ap (λ (t : Stage). record { id = id; room = room - length (line ++ picture_text edit.planes); frames = frames + 1; stage = t }) (ap Headed (told ∙ kept) ∙ sym headed);
    }

-- the same, of a reader by its value
pub gives_frame : {old new : World} {id room frames n size : ℕ} {stage : Stage} {told shape s : Shape} {f : FrameValue} (reader : Reading) (before edit : EditValue)
    → record { id = id; room = room; frames = frames; stage = stage } ≡ reader → stage ≡ Headed told → reader.stage ≡ Headed shape → ReadsFrame old new id room before edit n → before.shape ≡ told → s ≡ edit.shape
    → IsPicture edit.shape edit.planes → size ≡ bytes_of told → 6 * frames + room < 2 ^ 64 → f ≡ record { shape = edit.shape; planes = edit.planes; pts = to_z w64 frames; duration = pos 1 }
    → GivesFrame shape old new reader (record { id = id; room = room - (n + size); frames = frames + 1; stage = Headed s }) f
gives_frame {old} {new} {id} {room} {frames} {n} {size} {stage} {told} {shape} {s} {f} reader before edit view is headed found blank kept picture size_is few sealed =
    let same = same_shape reader view is headed in
    let after : Reading = record { id = id; room = room - (n + size); frames = frames + 1; stage = Headed s } in
    let bytes = ap bytes_of same in
    let wide = ap bytes_of blank in
    let within = found.within in
    let low : frames < 2 ^ 63 = omega arith in
    let timed : f ≡ record { shape = edit.shape; planes = edit.planes; pts = pos frames; duration = pos 1 } =
    sealed ∙ ap (λ (z : ℤ). record { shape = edit.shape; planes = edit.planes; pts = z; duration = pos 1 }) (to_z_pos w64 frames low) in
    subst (λ (r : Reading). GivesFrame shape old new r after f) view
    (subst (λ (v : FrameValue). GivesFrame shape old new (record { id = id; room = room; frames = frames; stage = stage }) after v) (sym timed)
    (frame_given room frames n size stage shape s edit found.line (is ∙ ap Headed same) found.is_mark found.long found.reads (found.shape ∙ (blank ∙ same)) kept picture (omega arith) (omega arith)))

-- the room after a frame
pub room_after : (room frames n size : ℕ) (line : List ℕ) → IsMark line → length line ≡ n → n + size ≤ room → 6 * frames + room < 2 ^ 64 → 6 * (frames + 1) + (room - (n + size)) < 2 ^ 64
room_after room frames n size line mark long within few = let some = length-mark mark in omega arith

-- the cause of a failure
pub refused : {old new : World} {id room frames : ℕ} {stage : Stage} {told shape : Shape} (Cause : Shape → ℕ → List ℕ → Type 0) (reader : Reading) (was : Shape)
    → record { id = id; room = room; frames = frames; stage = stage } ≡ reader → stage ≡ Headed told → reader.stage ≡ Headed shape → was ≡ told → ReadsSome old new id × ForSome (old.inputs.left id) (Cause was room)
    → Refuses old new reader (record { id = id; room = room; frames = frames; stage = Spent }) (Cause shape reader.room)
refused {old} {new} {id} {room} {frames} {stage} {told} {shape} Cause reader was view is headed kept found =
    subst (λ (r : Reading). Refuses old new r (record { id = id; room = room; frames = frames; stage = Spent }) (Cause shape r.room)) view record {
      reads = found.0;
      after_is = refl;
      cause = λ left seen. subst (λ (s : Shape). Cause s room left) (kept ∙ same_shape reader view is headed) (found.1 left seen);
    }
