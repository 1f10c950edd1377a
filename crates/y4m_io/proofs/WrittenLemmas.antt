-- A written text is a file of its frames.
use Rattle.std.proofs.Common.{◌+◌, ◌≤◌, ℕ, List, [], ◌∷◌, ◌++◌, length, refl, ◌∙◌, ap, subst, arith, append_assoc, length-append}
use Rattle.av_base.specs.declared.formats.Format.{Format}
use Rattle.av_base.specs.declared.shapes.Shape.{Shape}
use Rattle.av_base.specs.declared.shapes.Props.{Props}
use Rattle.av_base.specs.declared.shapes.Props.TheVariants as props
use Rattle.av_frame.specs.Rasters.{Raster}
use Rattle.av_frame.specs.Frames.{FrameValue, ArePlanes}
use Rattle.y4m_header.specs.HeaderTexts.{IsWritable, header_text, read_shape}
use Rattle.y4m_io.specs.FrameTexts.{frame_mark, picture_text, frames_text, AreFramesThen}
use Rattle.y4m_io.specs.Heads.{HasHead}
use Rattle.y4m_io.specs.Files.{HasFrames, whole_text, AreFramesOf, read_frames}
use Rattle.y4m_io.proofs.MarkLemmas.{written_mark}
use Rattle.y4m_header.proofs.KnownLemmas.{headers}

-- a picture of a shape is one of the shape that is read again
planes_again : (format : Format) (p : Props) (planes : List Raster) → ArePlanes (record { format = format; props = p }) planes → ArePlanes (read_shape (record { format = format; props = p })) planes
planes_again format (props.Video p) planes are = record { count = are.count; width = are.width; height = are.height; rows = are.rows }
planes_again format (props.Audio p) planes are = are

read_planes : (shape : Shape) (planes : List Raster) → ArePlanes shape planes → ArePlanes (read_shape shape) planes
read_planes shape planes are = planes_again shape.format shape.props planes are

-- the frames are read again
frames_again : (shape : Shape) (k : ℕ) (frames : List FrameValue) → AreFramesOf shape frames → AreFramesThen (read_shape shape) k (frames_text frames) (read_frames shape k frames) []
frames_again shape k [] are = refl
frames_again shape k (f ∷ fs) are = (
  frame_mark,
  frames_text fs,
  written_mark,
  record { shape_is = refl; are_planes = read_planes shape f.planes (subst (λ (s : Shape). ArePlanes s f.planes) are.0.0 are.0.1.picture.sizes); pts = refl; duration = refl },
  append_assoc frame_mark (picture_text f.planes) (frames_text fs),
  frames_again shape (k + 1) fs are.1,
)

pub written_again : (limit : ℕ) (shape : Shape) (frames : List FrameValue) → IsWritable shape → AreFramesOf shape frames → length (whole_text shape frames) ≤ limit → HasFrames limit (whole_text shape frames) (read_shape shape) (read_frames shape 0 frames)
written_again limit shape frames writable are low =
    let found = headers.written shape writable in
    let line = found.0 in
    let text = frames_text frames in
    let all = length-append (header_text shape) text in
    let size = ap length found.1.text_is ∙ length-append line (10 ∷ []) in
    let short = found.1.short in
    let head : HasHead limit (whole_text shape frames) (read_shape shape) = record {
      line = line;
      has_line = record {
        rest = text;
        bytes_are = ap (λ (xs : List ℕ). xs ++ text) found.1.text_is ∙ append_assoc line (10 ∷ []) text;
        no_feed = found.1.no_feed;
        short = omega arith;
        within = omega arith;
      };
      means = found.1.means;
    } in
    record { has_head = head; are_frames = frames_again shape 0 frames are; within = omega arith }
