-- What the values of options mean, and what files are by their names (this project's own, but for the digits and the labels
-- of the FFmpeg Filters Documentation).
use Rattle.std.specs.Prelude.{◌≡◌, ◌==◌, ◌-◌, ◌<◌, ◌≤◌, ◌^◌, ◌++◌, ℕ, Bool, true, List, [], ◌∷◌, Option, Some, None, map, drop, length, bytes_eq, codes, if◌then◌else◌}
use Rattle.std.specs.Char.{to_ascii_lowercase}
use Rattle.std.specs.List.{AllByRecursion, AllZip, slice_split}
use Rattle.av_base.specs.declared.formats.Media.{Media}
use Rattle.av_base.specs.declared.formats.Media.TheVariants.{Video, Audio}
use Rattle.av_base.specs.declared.formats.PixelFormat.TheVariants.{Yuv420p}
use Rattle.av_base.specs.Bounds.{greatest_side, greatest_picture}
use Rattle.av_base.specs.Planes.{picture_bytes_of}
use Rattle.av_text.specs.Classes.{is_label}
use Rattle.av_text.specs.Numbers.{IsNumber}
use Rattle.graph_plan.specs.declared.plan.Ending.{Ending}
use Rattle.graph_plan.specs.declared.plan.Ending.TheVariants.{Y4m, Wav, Frames}
use Rattle.av_words.specs.declared.command_words.InputWord.{InputWord}
use Rattle.av_words.specs.declared.command_words.InputWord.TheVariants.{Made}

-- ---- names

-- the name has this ending, in letters of either case
abbrev pub ends_in : List ℕ → List ℕ → Bool
ends_in name ending = bytes_eq (map to_ascii_lowercase (drop (length name - length ending) name)) (map to_ascii_lowercase ending)

-- what an input file gives
abbrev pub media_of : List ℕ → Option Media
media_of name = if ends_in name (codes ".y4m") then Some Video else (if ends_in name (codes ".wav") then Some Audio else None)

-- what an output file is written as
abbrev pub ending_of : List ℕ → Option Ending
ending_of name = if ends_in name (codes ".y4m") then Some Y4m else (if ends_in name (codes ".wav") then Some Wav else (if ends_in name (codes ".frames") then Some Frames else None))

-- ---- labels

-- `[`, one or more letters, digits, `_` and `:`, and `]`
pub record IsLabelled (text label : List ℕ) : Type 0 where
  pub text_is : text ≡ 91 ∷ (label ++ 93 ∷ [])
  pub each : AllByRecursion (λ c. is_label c ≡ true) label
  pub some : 0 < length label

-- ---- numbers

-- the greatest number of workers and of slices
abbrev pub greatest_count : ℕ
greatest_count = 64

-- the greatest seed of a made input
abbrev pub greatest_seed : ℕ
greatest_seed = 2 ^ 32 - 1

-- the greatest number of frames of a made input
abbrev pub greatest_length : ℕ
greatest_length = 100_000

-- a number of workers or slices, of 1 to 4 digits
pub record IsCount (lowest : ℕ) (text : List ℕ) (n : ℕ) : Type 0 where
  pub number : IsNumber 1 4 text n
  pub enough : lowest ≤ n
  pub few : n ≤ greatest_count

-- the pieces of a text between marks
abbrev pub pieces : ℕ → List ℕ → List (List ℕ)
pieces mark text = slice_split (λ c. c == mark) text

-- an order of filters: numbers of 1 to 4 digits, with a `|` between each two
abbrev pub SaysOrder : List ℕ → List ℕ → Type 0
SaysOrder text numbers = AllZip (IsNumber 1 4) (pieces 124 text) numbers

-- a number of 1 to 10 digits in this range
pub record IsWithin (lowest most : ℕ) (text : List ℕ) (n : ℕ) : Type 0 where
  pub number : IsNumber 1 10 text n
  pub enough : lowest ≤ n
  pub few : n ≤ most

-- a made input of a seed, a width, a height and a number of frames
pub record IsMade (seed_text width_text height_text frames_text : List ℕ) (input : InputWord) : Type 0 where
  pub seed : ℕ
  pub width : ℕ
  pub height : ℕ
  pub frames : ℕ
  pub is_seed : IsWithin 0 greatest_seed seed_text seed
  pub is_width : IsWithin 1 greatest_side width_text width
  pub is_height : IsWithin 1 greatest_side height_text height
  pub is_frames : IsWithin 0 greatest_length frames_text frames
  pub bytes_fit : picture_bytes_of Yuv420p width height ≤ greatest_picture
  pub input_is : input ≡ Made seed width height frames

-- the four, with a `:` between each two
abbrev pub SaysMade : List ℕ → InputWord → Type 0
SaysMade text input = (seed width height frames : List ℕ) × (pieces 58 text ≡ seed ∷ width ∷ height ∷ frames ∷ []) × IsMade seed width height frames input
