-- How the parameters of a header line are put together, one after another.
use Rattle.std.specs.Prelude.{◌≡◌, ◌<◌, ◌≤◌, ℕ, List, [], ◌∷◌, Bool, true, false, ◌&&◌, Option, Some, None, Contains, if◌then◌else◌}
use Rattle.std.specs.Prelude.{option_and_then}
use Rattle.std.specs.List.{list_all}
use Rattle.av_base.specs.declared.formats.PixelFormat.TheVariants.{Yuv420p}
use Rattle.y4m_header.specs.Params.{Param, params_in, side_in, rate_in, aspect_in, scan_in, colour_in, is_good, is_known, width_letter, height_letter, rate_letter, scan_letter, aspect_letter, colour_letter}
use Rattle.av_base.specs.Bounds.{number_bound, greatest_side}
use Rattle.av_base.specs.Shapes.{scan_letters}
use Rattle.y4m_header.specs.Said.{Said, latest, ordered_in}
use Rattle.y4m_header.specs.declared.params.Latest.{Latest}

-- a parameter of this letter and value
abbrev pub param : ℕ → List ℕ → Param
param letter value = record { letter = letter; value = value }

-- what holds before any parameter
abbrev pub unsaid : Latest
unsaid = record { width = 0; height = 0; rate = (25, 1); aspect = (0, 1); scan = 112; colour = Some Yuv420p; named = true }

-- what holds after more parameters
abbrev pub said_after : Latest → List Param → Latest
said_after s params = record {
  width = latest s.width side_in width_letter params;
  height = latest s.height side_in height_letter params;
  rate = latest s.rate rate_in rate_letter params;
  aspect = latest s.aspect aspect_in aspect_letter params;
  scan = latest s.scan scan_in scan_letter params;
  colour = latest s.colour (λ value. Some (colour_in value)) colour_letter params;
  named = list_all is_known params && s.named;
}

-- one more parameter, whose value is one that its letter may have
pub record IsSet (old : Latest) (p : Param) (new : Latest) : Type 0 where
  pub good : is_good p ≡ true
  pub after : (params : List Param) → said_after new params ≡ said_after old (p ∷ params)

-- what holds after the parameters in more pieces, if each is good
abbrev pub outcome : Latest → List (List ℕ) → Option Latest
outcome s pieces = option_and_then (λ params. if list_all is_good params then Some (said_after s params) else None) (params_in pieces)

-- the pieces that follow, after an empty piece or another
abbrev pub with_gap : Bool → List (List ℕ) → List (List ℕ)
with_gap true pieces = [] ∷ pieces
with_gap false pieces = pieces

-- what the parameters say together
abbrev pub said_of : Latest → Said
said_of s = record { width = s.width; height = s.height; rate = s.rate; aspect = s.aspect; scan = s.scan; colour = s.colour }

-- the values are in their ranges
pub record AreInRange (s : Latest) : Type 0 where
  pub width : s.width ≤ greatest_side
  pub height : s.height ≤ greatest_side
  pub rate_num_some : 0 < s.rate.0
  pub rate_num_fits : s.rate.0 < number_bound
  pub rate_den_some : 0 < s.rate.1
  pub rate_den_fits : s.rate.1 < number_bound
  pub aspect_num_fits : s.aspect.0 < number_bound
  pub aspect_den_some : 0 < s.aspect.1
  pub aspect_den_fits : s.aspect.1 < number_bound
  pub scan : Contains scan_letters s.scan

-- the text after the name of the format has parameters that are in order
pub record IsOrdered (text : List ℕ) (s : Latest) : Type 0 where
  pub params : List Param
  pub ordered : ordered_in text ≡ Some params
  pub said_is : s ≡ said_after unsaid params
  pub range : AreInRange s
