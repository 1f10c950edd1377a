-- Header lines of YUV4MPEG2 that are written.
use Rattle.std.specs.Prelude.{◌<◌, ◌==◌, ℕ, List, [], ◌∷◌, ◌++◌, codes, length, if◌then◌else◌}
use Rattle.std.specs.Fmt.{decimal}
use Rattle.av_base.specs.declared.formats.PixelFormat.{PixelFormat}
use Rattle.av_base.specs.declared.formats.PixelFormat.TheVariants.{Gray, Yuv420p, Yuv422p, Yuv444p, Yuva420p, Yuva422p, Yuva444p}
use Rattle.av_base.specs.declared.formats.Format.{Format}
use Rattle.av_base.specs.declared.formats.Format.TheVariants as format
use Rattle.av_base.specs.declared.shapes.Shape.{Shape}
use Rattle.av_base.specs.declared.shapes.VideoProps.{VideoProps}
use Rattle.av_base.specs.declared.shapes.Props.{Props}
use Rattle.av_base.specs.declared.shapes.Props.TheVariants as props
use Rattle.av_base.specs.declared.numbers.Ratio.{Ratio}
use Rattle.av_base.specs.Shapes.{IsLawful, IsVideo, IsWithinLimits}

-- the name of a colour; there is none for the formats that a file cannot hold
abbrev pub colour_of : PixelFormat → List ℕ
colour_of Gray = codes "mono"
colour_of Yuv420p = codes "420jpeg"
colour_of Yuv422p = codes "422"
colour_of Yuv444p = codes "444"
colour_of Yuva420p = []
colour_of Yuva422p = []
colour_of Yuva444p = codes "444alpha"

-- two numbers with a colon between them
abbrev pub ratio_text : ℕ → ℕ → List ℕ
ratio_text num den = decimal num ++ (codes ":" ++ decimal den)

-- an aspect that isn't known is written as 0:0
abbrev pub aspect_text : Ratio → List ℕ
aspect_text r = ratio_text r.num (if r.num == 0 then 0 else r.den)

abbrev pub video_header : PixelFormat → VideoProps → List ℕ
video_header f p =
    codes "YUV4MPEG2 W" ++ (decimal p.width ++ (codes " H" ++ (decimal p.height ++ (codes " F" ++ (ratio_text p.rate.num p.rate.den
    ++ (codes " I" ++ (p.scan ∷ [] ++ (codes " A" ++ (aspect_text p.aspect ++ (codes " C" ++ (colour_of f ++ 10 ∷ [])))))))))))

-- the header line of a written file, with its line feed
abbrev pub header_text : Shape → List ℕ
header_text s = header_of s.format s.props where
  header_of : Format → Props → List ℕ
  header_of (format.Video f) (props.Video p) = video_header f p
  header_of f p = []

-- the colour has a name, and the rate is known
abbrev pub HasHeader : Format → Props → Type 0
HasHeader (format.Video f) (props.Video p) = (0 < length (colour_of f)) × (0 < p.rate.num)
HasHeader f p = ⊥

-- a file can hold pictures of this shape
pub record IsWritable (s : Shape) : Type 0 where
  pub lawful : IsLawful s
  pub video : IsVideo s.format
  pub limits : IsWithinLimits s
  pub header : HasHeader s.format s.props

-- the shape of a written file as it is read again: a tick is a frame
abbrev pub read_shape : Shape → Shape
read_shape s = record s { props = read_props s.props } where
  read_props : Props → Props
  read_props (props.Video p) = props.Video (record p { base = record { num = p.rate.den; den = p.rate.num } })
  read_props other = other
