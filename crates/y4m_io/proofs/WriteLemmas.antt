-- Texts that are written piece by piece.
use Rattle.std.proofs.Common.{◌≡◌, ℕ, ◌+◌, ◌<◌, min, List, ◌++◌, length, take, drop, map, ap, sym, ◌∙◌, subst, arith}
use Rattle.std.specs.List.{concat}
use Rattle.std.proofs.lemmas.List.{take-append-drop, take_min, take-append-le, map_more, map-append, drop_more}
use Rattle.std.proofs.lemmas.List.Folds.{concat-append}
use Rattle.std.proofs.Math.Seq.{take-append-add, take-add}
use Rattle.av_host.specs.World.{World}
use Rattle.av_host.specs.Calls.{Changes, appended}
use Rattle.av_host.proofs.Runs.{Changes-append}
use Rattle.av_frame.specs.Rasters.{Raster, blank_raster}
use Rattle.av_base.specs.declared.shapes.Shape.{Shape}
use Rattle.av_frame.specs.Frames.{FrameValue, ArePlanes, IsFrame, plane_at}
use Rattle.av_host.specs.HostRuns.{WritesPart}
use Rattle.y4m_io.specs.FrameTexts.{picture_text, frame_text, frame_size}
use Rattle.y4m_io.proofs.FrameLemmas.{length-frame}
use Rattle.y4m_io.proofs.RowLemmas.{concat-push}

-- a beginning of a front of a text is a beginning of the text
pub WritesPart-front : {a b : World} {id : ℕ} (xs ys : List ℕ) → WritesPart a b id xs → WritesPart a b id (xs ++ ys)
WritesPart-front {a} {b} {id} xs ys (n, h) =
    let m = min n (length xs) in
    let e : take m (xs ++ ys) ≡ take n xs = take-append-le m xs ys (omega arith) ∙ take_min n xs in
    (m, subst (λ (z : List ℕ). Changes a b id (appended z)) (sym e) h)

-- a text, and a beginning of the text after it
pub WritesPart-after : {a b c : World} {id : ℕ} (xs ys : List ℕ) → Changes a b id (appended xs) → WritesPart b c id ys → WritesPart a c id (xs ++ ys)
WritesPart-after {a} {b} {c} {id} xs ys before (n, h) =
    (length xs + n, subst (λ (z : List ℕ). Changes a c id (appended z)) (sym (take-append-add xs ys n)) (Changes-append xs (take n ys) before h))

-- the rows up to i, and n more
pub concat-more : (i n : ℕ) (rows : List (List ℕ)) → concat (take (i + n) rows) ≡ concat (take i rows) ++ concat (take n (drop i rows))
concat-more i n rows = ap concat (take-add i n rows) ∙ concat-append (take i rows) (take n (drop i rows))

-- all rows: those up to i, n more, and the rest
pub concat-parts : (i n : ℕ) (rows : List (List ℕ)) → concat rows ≡ concat (take i rows) ++ (concat (take n (drop i rows)) ++ concat (drop n (drop i rows)))
concat-parts i n rows =
    ap concat (sym (take-append-drop i rows))
    ∙ (concat-append (take i rows) (drop i rows)
    ∙ ap (λ (zs : List ℕ). concat (take i rows) ++ zs) (ap concat (sym (take-append-drop n (drop i rows))) ∙ concat-append (take n (drop i rows)) (drop n (drop i rows))))

-- the next rows were written
pub Changes-rows : {a b c : World} {id : ℕ} (i n : ℕ) (rows now : List (List ℕ)) (piece : List ℕ) → now ≡ rows → piece ≡ concat (take n (drop i now))
    → Changes a b id (appended (concat (take i rows))) → Changes b c id (appended piece) → Changes a c id (appended (concat (take (i + n) rows)))
Changes-rows {a} {b} {c} {id} i n rows now piece same is before done =
    let next = concat (take n (drop i rows)) in
    let here : piece ≡ next = is ∙ ap (λ (z : List (List ℕ)). concat (take n (drop i z))) same in
    subst (λ (z : List ℕ). Changes a c id (appended z)) (sym (concat-more i n rows))
    (Changes-append (concat (take i rows)) next before (subst (λ (z : List ℕ). Changes b c id (appended z)) here done))

-- a beginning of the next rows was written
pub WritesPart-rows : {a b c : World} {id : ℕ} (i n : ℕ) (rows now : List (List ℕ)) (piece : List ℕ) → now ≡ rows → piece ≡ concat (take n (drop i now))
    → Changes a b id (appended (concat (take i rows))) → WritesPart b c id piece → WritesPart a c id (concat rows)
WritesPart-rows {a} {b} {c} {id} i n rows now piece same is before done =
    let next = concat (take n (drop i rows)) in
    let rest = concat (drop n (drop i rows)) in
    let here : piece ≡ next = is ∙ ap (λ (z : List (List ℕ)). concat (take n (drop i z))) same in
    subst (λ (z : List ℕ). WritesPart a c id z) (sym (concat-parts i n rows))
    (WritesPart-after (concat (take i rows)) (next ++ rest) before (WritesPart-front next rest (subst (λ (z : List ℕ). WritesPart b c id z) here done)))

-- the planes before plane p, and that plane
picture-more : (p : ℕ) (planes : List Raster) → p < length planes → picture_text (take (p + 1) planes) ≡ picture_text (take p planes) ++ concat (plane_at planes p).rows
picture-more p planes less =
    ap concat (map_more (λ (x : Raster). concat x.rows) planes p (blank_raster 0 0) less)
    ∙ concat-push (map (λ (x : Raster). concat x.rows) (take p planes)) (concat (plane_at planes p).rows)

-- the planes before plane p, that plane, and the rest
picture-parts : (p : ℕ) (planes : List Raster) → p < length planes
    → picture_text planes ≡ picture_text (take p planes) ++ (concat (plane_at planes p).rows ++ picture_text (drop (p + 1) planes))
picture-parts p planes less =
    let f : Raster → List ℕ = λ x. concat x.rows in
    ap picture_text (sym (take-append-drop p planes))
    ∙ (ap concat (map-append f (take p planes) (drop p planes))
    ∙ (concat-append (map f (take p planes)) (map f (drop p planes))
    ∙ ap (λ (z : List Raster). picture_text (take p planes) ++ picture_text z) (drop_more planes p (blank_raster 0 0) less)))

-- the next plane was written
pub Changes-plane : {a b c : World} {id : ℕ} (p : ℕ) (planes now : List Raster) → now ≡ planes → p < length planes
    → Changes a b id (appended (picture_text (take p planes))) → Changes b c id (appended (concat (plane_at now p).rows)) → Changes a c id (appended (picture_text (take (p + 1) planes)))
Changes-plane {a} {b} {c} {id} p planes now same less before done =
    let here = subst (λ (z : List Raster). Changes b c id (appended (concat (plane_at z p).rows))) same done in
    subst (λ (z : List ℕ). Changes a c id (appended z)) (sym (picture-more p planes less)) (Changes-append (picture_text (take p planes)) (concat (plane_at planes p).rows) before here)

-- a beginning of the next plane was written
pub WritesPart-plane : {a b c : World} {id : ℕ} (p : ℕ) (planes now : List Raster) → now ≡ planes → p < length planes
    → Changes a b id (appended (picture_text (take p planes))) → WritesPart b c id (concat (plane_at now p).rows) → WritesPart a c id (picture_text planes)
WritesPart-plane {a} {b} {c} {id} p planes now same less before done =
    let here = subst (λ (z : List Raster). WritesPart b c id (concat (plane_at z p).rows)) same done in
    let text = concat (plane_at planes p).rows in
    let rest = picture_text (drop (p + 1) planes) in
    subst (λ (z : List ℕ). WritesPart a c id z) (sym (picture-parts p planes less))
    (WritesPart-after (picture_text (take p planes)) (text ++ rest) before (WritesPart-front text rest here))

-- ---- frames

pub frame_length : (old new : FrameValue) (shape : Shape) → new ≡ old → old.shape ≡ shape → IsFrame new → length (frame_text old.planes) ≡ frame_size shape
frame_length old new shape same fits is =
    length-frame shape old.planes (subst (λ (s : Shape). ArePlanes s old.planes) fits (subst (λ (f : FrameValue). ArePlanes f.shape f.planes) same is.picture.sizes))
