-- Texts of frames, one after another.
use Rattle.std.proofs.Common.{◌≡◌, ℕ, ◌+◌, ◌≤◌, List, [], ◌∷◌, ◌++◌, map, length, refl, ◌∙◌, ap, subst, arith, length-append}
use Rattle.std.specs.List.{concat}
use Rattle.std.proofs.lemmas.List.{append-nil, map-append}
use Rattle.std.proofs.lemmas.List.Folds.{concat-append}
use Rattle.av_base.specs.declared.shapes.Shape.{Shape}
use Rattle.av_base.specs.Shapes.{bytes_of}
use Rattle.av_frame.specs.Frames.{FrameValue}
use Rattle.y4m_io.specs.FrameTexts.{picture_text, frame_text, frames_text, IsMark, IsFrameAt, AreFramesThen}
use Rattle.y4m_io.proofs.FrameLemmas.{length-picture}

-- ---- written texts of frames

pub frames_text-append : (xs ys : List FrameValue) → frames_text (xs ++ ys) ≡ frames_text xs ++ frames_text ys
frames_text-append xs ys =
    ap concat (map-append (λ (f : FrameValue). frame_text f.planes) xs ys) ∙ concat-append (map (λ (f : FrameValue). frame_text f.planes) xs) (map (λ (f : FrameValue). frame_text f.planes) ys)

pub frames_text-push : (xs : List FrameValue) (f : FrameValue) → frames_text (xs ++ f ∷ []) ≡ frames_text xs ++ frame_text f.planes
frames_text-push xs f = frames_text-append xs (f ∷ []) ∙ ap (λ (z : List ℕ). frames_text xs ++ z) (append-nil (frame_text f.planes))

-- ---- frames of a file

pub planes_at : (shape : Shape) (k : ℕ) (f : FrameValue) → IsFrameAt shape k f → length (picture_text f.planes) ≡ bytes_of shape
planes_at shape k f is = length-picture shape f.planes is.are_planes

-- a frame follows whole frames
pub AreFramesThen-push : (shape : Shape) (k : ℕ) (text : List ℕ) (xs : List FrameValue) (rest mark after : List ℕ) (f : FrameValue) → AreFramesThen shape k text xs rest → IsMark mark → IsFrameAt shape (k + length xs) f
    → rest ≡ mark ++ (picture_text f.planes ++ after) → AreFramesThen shape k text (xs ++ f ∷ []) after
AreFramesThen-push shape k text [] rest mark after f are line is e =
    (mark, after, line, subst (λ (n : ℕ). IsFrameAt shape n f) (let same : k + 0 ≡ k = omega arith in same) is, are ∙ e, refl)
AreFramesThen-push shape k text (x ∷ xs) rest mark after f are line is e = (
  are.0,
  are.1,
  are.2,
  are.3,
  are.4,
  AreFramesThen-push shape (k + 1) are.1 xs rest mark after f are.5 line (subst (λ (n : ℕ). IsFrameAt shape n f) (let same : k + length (x ∷ xs) ≡ (k + 1) + length xs = omega arith in same) is) e,
)

-- what follows frames is no longer than the text
pub rest_shorter : (shape : Shape) (k : ℕ) (text : List ℕ) (xs : List FrameValue) (rest : List ℕ) → AreFramesThen shape k text xs rest → length rest ≤ length text
rest_shorter shape k text [] rest are = let same = ap length are in omega arith
rest_shorter shape k text (x ∷ xs) rest are =
    let others = rest_shorter shape (k + 1) are.1 xs rest are.5 in
    let all = ap length are.4 ∙ length-append are.0 (picture_text x.planes ++ are.1) in
    let both = length-append (picture_text x.planes) are.1 in
    omega arith

-- how long a first frame is
pub length-first : (shape : Shape) (k : ℕ) (f : FrameValue) (text mark after : List ℕ) → IsFrameAt shape k f → text ≡ mark ++ (picture_text f.planes ++ after) → length text ≡ (length mark + bytes_of shape) + length after
length-first shape k f text mark after is e =
    let picture = planes_at shape k f is in
    let all = ap length e ∙ length-append mark (picture_text f.planes ++ after) in
    let both = length-append (picture_text f.planes) after in
    omega arith
