-- What header lines of YUV4MPEG2 say.
use Rattle.std.specs.Prelude.{◌≡◌, ◌≢◌, ◌==◌, ◌++◌, ℕ, List, Bool, true, false, ◌&&◌, nat_le, nat_lt, codes, Option, Some, None, Result, Ok, Err, Contains, fold, filter_map, if◌then◌else◌}
use Rattle.std.specs.Prelude.{option_and_then}
use Rattle.std.specs.List.{list_all}
use Rattle.av_base.specs.declared.formats.PixelFormat.{PixelFormat}
use Rattle.av_base.specs.declared.formats.PixelFormat.TheVariants.{Yuv420p}
use Rattle.av_base.specs.declared.formats.Format.TheVariants as format
use Rattle.av_base.specs.declared.shapes.Shape.{Shape}
use Rattle.av_base.specs.declared.shapes.Props.TheVariants as props
use Rattle.av_base.specs.declared.numbers.Ratio.{Ratio}
use Rattle.av_base.specs.Reduced.{IsReduced}
use Rattle.av_base.specs.Bounds.{greatest_picture}
use Rattle.av_base.specs.Planes.{picture_bytes_of}
use Rattle.y4m_header.specs.Params.{Param, params_of, side_in, rate_in, aspect_in, scan_in, colour_in, is_good, is_known, width_letter, height_letter, rate_letter, scan_letter, aspect_letter, colour_letter}
use Rattle.y4m_header.specs.declared.fault.HeaderFault.{HeaderFault}
use Rattle.y4m_header.specs.declared.fault.HeaderFault.TheVariants.{NotMedia, BadHeader, BadColour}

-- what a line begins with
abbrev pub magic : List ℕ
magic = codes "YUV4MPEG2"

-- what a parameter says, if it has this letter
abbrev pub said_in : {T : Type 0} → (List ℕ → Option T) → ℕ → Param → Option T
said_in read letter p = if p.letter == letter then read p.value else None

-- what the last parameter of a letter says, or else what holds without one
abbrev pub latest : {T : Type 0} → T → (List ℕ → Option T) → ℕ → List Param → T
latest without read letter params = fold (λ old new. new) without (filter_map (said_in read letter) params)

-- what the parameters say together. A side that no parameter says is 0, and a colour that isn't known is none.
pub record Said : Type 0 where
  pub width : ℕ
  pub height : ℕ
  pub rate : ℕ × ℕ
  pub aspect : ℕ × ℕ
  pub scan : ℕ
  pub colour : Option PixelFormat

-- Of several parameters of one letter the last counts. Without them the rate is 25:1, the aspect is unknown, the frames
-- are progressive (p), and the colour is 420.
abbrev pub said : List Param → Said
said params = record {
  width = latest 0 side_in width_letter params;
  height = latest 0 side_in height_letter params;
  rate = latest (25, 1) rate_in rate_letter params;
  aspect = latest (0, 1) aspect_in aspect_letter params;
  scan = latest 112 scan_in scan_letter params;
  colour = latest (Some Yuv420p) (λ value. Some (colour_in value)) colour_letter params;
}

-- a picture of the colour isn't too large
abbrev pub fits : Option PixelFormat → ℕ → ℕ → Bool
fits None width height = true
fits (Some f) width height = nat_le (picture_bytes_of f width height) greatest_picture

-- there are both sides, and the picture isn't too large
abbrev pub is_sized : Said → Bool
is_sized s = (nat_lt 0 s.width && nat_lt 0 s.height) && fits s.colour s.width s.height

-- each value is one that its letter may have, and the size of the picture is within the limits
abbrev pub are_in_order : List Param → Bool
are_in_order params = list_all is_good params && is_sized (said params)

-- the parameters that follow the name of the format, if they are in order
abbrev pub ordered_in : List ℕ → Option (List Param)
ordered_in text = option_and_then (λ params. if are_in_order params then Some params else None) (params_of text)

-- the shape of a file: what its header says, with a tick a frame
pub record IsShapeOf (s : Said) (shape : Shape) : Type 0 where
  pub colour : PixelFormat
  pub rate : Ratio
  pub aspect : Ratio
  pub colour_is : s.colour ≡ Some colour
  pub rate_is : IsReduced s.rate.0 s.rate.1 rate
  pub aspect_is : IsReduced s.aspect.0 s.aspect.1 aspect
  pub shape_is : shape ≡ record {
    format = format.Video colour;
    props = props.Video (record {
      width = s.width;
      height = s.height;
      aspect = aspect;
      rate = rate;
      base = record { num = rate.den; den = rate.num };
      scan = s.scan;
    });
  }

-- What a header line means, which is given without its line feed, in the order of the checks: another file, a header
-- that isn't in order, a header that is in order but for the name of a colour, or a shape.
pub data HeaderMeans (text : List ℕ) : Result Shape HeaderFault → Type 0 where
  Other : ((rest : List ℕ) → text ≢ magic ++ rest) → HeaderMeans text (Err NotMedia)
  Disorder : (rest : List ℕ) → text ≡ magic ++ rest → ordered_in rest ≡ None → HeaderMeans text (Err BadHeader)
  Colour : (rest : List ℕ) (params : List Param) → text ≡ magic ++ rest → ordered_in rest ≡ Some params → list_all is_known params ≡ false → HeaderMeans text (Err BadColour)
  Header : (rest : List ℕ) (params : List Param) (shape : Shape) → text ≡ magic ++ rest → ordered_in rest ≡ Some params → list_all is_known params ≡ true
      → IsShapeOf (said params) shape → HeaderMeans text (Ok shape)

-- the line is refused for this, whatever follows on it
abbrev pub StandsAlways : List ℕ → HeaderFault → Type 0
StandsAlways front e = (more : List ℕ) → ¬ Contains more 10 → HeaderMeans (front ++ more) (Err e)
