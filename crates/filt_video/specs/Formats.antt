-- Lists of formats (FFmpeg Filters Documentation, format; which formats there are is this project's own).
use Rattle.std.specs.Prelude.{◌≡◌, ◌↔◌, ◌==◌, ℕ, List, [], ◌∷◌, Option, Some, None, Result, Ok, Err, codes, Contains}
use Rattle.std.specs.List.{slice_split}
use Rattle.av_base.specs.declared.formats.PixelFormat.{PixelFormat}
use Rattle.av_base.specs.declared.formats.PixelFormat.TheVariants.{Gray, Yuv420p, Yuv422p, Yuv444p, Yuva420p, Yuva422p, Yuva444p}
use Rattle.av_base.specs.declared.formats.Format.{Format}
use Rattle.av_base.specs.declared.formats.Format.TheVariants as format
use Rattle.av_base.specs.declared.sets.FormatSet.{FormatSet}
use Rattle.av_base.specs.FormatSets.{Has}
use Rattle.av_base.specs.Shapes.{width_of, height_of}
use Rattle.av_base.specs.declared.shapes.Shape.{Shape}
use Rattle.av_filter.specs.Limits.{AfterLimits}
use Rattle.av_filter.specs.Meanings.{OptionRules, Making, Meaning}
use Rattle.av_frame.specs.declared.refusals.OptionError.{OptionError}
use Rattle.av_frame.specs.declared.refusals.OptionError.TheVariants.{MissingOption}
use Rattle.av_filter.specs.Words.{word_in}
use Rattle.av_frame.specs.declared.refusals.ConfigError.{ConfigError}
use Rattle.filt_video.specs.declared.format.FormatOptions.{FormatOptions}
use Rattle.filt_video.specs.declared.format.FormatRule.{FormatRule}

-- the names of pixel formats
abbrev pub format_words : List (List ℕ × PixelFormat)
format_words =
    (codes "gray", Gray)
    ∷ (codes "yuv420p", Yuv420p) ∷ (codes "yuv422p", Yuv422p) ∷ (codes "yuv444p", Yuv444p)
    ∷ (codes "yuva420p", Yuva420p) ∷ (codes "yuva422p", Yuva422p) ∷ (codes "yuva444p", Yuva444p)
    ∷ []

-- the parts of a text between its `|`
abbrev pub parts_of : List ℕ → List (List ℕ)
parts_of text = slice_split (λ c. c == 124) text

-- a format that some part names
pub record IsNamed (parts : List (List ℕ)) (f : Format) : Type 0 where
  pub part : List ℕ
  pub is_part : Contains parts part
  pub pixels : PixelFormat
  pub named : word_in format_words part ≡ Some pixels
  pub is : f ≡ format.Video pixels

-- each part names a format, and the set has just these
pub record AreFormats (parts : List (List ℕ)) (set : FormatSet) : Type 0 where
  pub each : (part : List ℕ) → Contains parts part → (pixels : PixelFormat) × (word_in format_words part ≡ Some pixels)
  pub has : (f : Format) → Has set f ↔ IsNamed parts f

-- the names of formats, joined by `|`, and the set of these
abbrev pub IsFormatList : List ℕ → FormatSet → Type 0
IsFormatList text set = AreFormats (parts_of text) set

abbrev pub format_names : List (List ℕ × ℕ)
format_names = (codes "pix_fmts", 0) ∷ []

abbrev pub format_takes : ℕ → List ℕ → Type 0
format_takes o text = (set : FormatSet) × IsFormatList text set

-- the set that the text says, and none without a text
abbrev pub formats_are : Option FormatSet → Option (List ℕ) → Type 0
formats_are given (Some text) = (set : FormatSet) × (given ≡ Some set) × IsFormatList text set
formats_are given None = given ≡ None

-- option 0 has what the text says
pub record FormatHas (given : Option FormatSet) (o : ℕ) (text : Option (List ℕ)) : Type 0 where
  pub list : o ≡ 0 → formats_are given text

-- options without a list are rejected, and others are complete
abbrev pub completed : FormatOptions → Option FormatSet → Result FormatOptions OptionError
completed options None = Err MissingOption
completed options (Some set) = Ok options

abbrev pub format_completes : FormatOptions → ℕ → Result FormatOptions OptionError → Type 0
format_completes options n r = r ≡ completed options options.pix_fmts

abbrev pub format_rules : OptionRules FormatOptions
format_rules = record { count = 1; names = format_names; takes = format_takes; has = λ options. FormatHas options.pix_fmts; completes = format_completes }

-- ---- all together

-- the list has the format
abbrev pub IsListed : Option FormatSet → Format → Type 0
IsListed None f = ⊥
IsListed (Some set) f = Has set f

-- the limits are checked
unfoldable pub format_outcome : Shape → Result FormatRule ConfigError → Type 0
format_outcome s = AfterLimits s (width_of s.props) (height_of s.props) (λ r. r ≡ Ok (record {}))

abbrev pub format_making : Making FormatOptions FormatRule
format_making = record { takes = λ options. IsListed options.pix_fmts; settles = λ options. format_outcome; shape = λ t s. s; made = λ t x. x }

abbrev pub format_filter : Meaning
format_filter = record { Options = FormatOptions; Settings = FormatRule; name = codes "format"; options = format_rules; making = format_making }
