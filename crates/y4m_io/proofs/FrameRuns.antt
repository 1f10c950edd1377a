-- Texts of whole frames, one after another.
use Rattle.std.proofs.Common.{◌≡◌, ℕ, ◌+◌, suc, List, [], ◌∷◌, ◌++◌, length, refl, ◌∙◌, ap, subst, arith, append_assoc}
use Rattle.std.proofs.lemmas.List.{append-nil}
use Rattle.av_base.specs.declared.shapes.Shape.{Shape}
use Rattle.av_frame.specs.Frames.{FrameValue}
use Rattle.y4m_io.specs.FrameTexts.{picture_text, AreFramesThen}

-- frames, and more frames after them
pub AreFramesThen-append : (shape : Shape) (k : ℕ) (a b : List ℕ) (xs ys : List FrameValue) (rest : List ℕ) → AreFramesThen shape k a xs [] → AreFramesThen shape (k + length xs) b ys rest
    → AreFramesThen shape k (a ++ b) (xs ++ ys) rest
AreFramesThen-append shape k a b [] ys rest p q =
    let here = subst (λ (n : ℕ). AreFramesThen shape n b ys rest) (let e : k + 0 ≡ k = omega arith in e) q in
    subst (λ (z : List ℕ). AreFramesThen shape k (z ++ b) ys rest) (let e : [] ≡ a = cc in e) here
AreFramesThen-append shape k a b (x ∷ xs) ys rest (mark, after, is_mark, at, text, more) q = (
  mark,
  after ++ b,
  is_mark,
  at,
  ap (λ (z : List ℕ). z ++ b) text ∙ (append_assoc mark (picture_text x.planes ++ after) b ∙ ap (λ (z : List ℕ). mark ++ z) (append_assoc (picture_text x.planes) after b)),
  AreFramesThen-append shape (k + 1) after b xs ys rest more (subst (λ (n : ℕ). AreFramesThen shape n b ys rest) (let e : k + suc (length xs) ≡ (k + 1) + length xs = omega arith in e) q),
)

-- what follows frames is a rest
pub AreFramesThen-rest : (shape : Shape) (k : ℕ) (text : List ℕ) (xs : List FrameValue) (rest : List ℕ) → AreFramesThen shape k text xs [] → AreFramesThen shape k (text ++ rest) xs rest
AreFramesThen-rest shape k text xs rest p = subst (λ (ys : List FrameValue). AreFramesThen shape k (text ++ rest) ys rest) (append-nil xs) (AreFramesThen-append shape k text rest xs [] rest p refl)
