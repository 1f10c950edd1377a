-- Pictures with rows and columns exchanged (FFmpeg Filters Documentation, transpose; for which formats is this project's
-- own).
use Rattle.std.specs.Prelude.{◌≡◌, ◌≢◌, ◌-◌, ℕ, Bool, false, List, [], ◌∷◌, Option, Some, None, Result, Ok, codes, nat_le, nat_eq, if◌then◌else◌}
use Rattle.av_base.specs.declared.numbers.Ratio.{Ratio}
use Rattle.av_base.specs.declared.formats.Format.{Format}
use Rattle.av_base.specs.declared.formats.PixelFormat.TheVariants.{Yuv422p, Yuva422p}
use Rattle.av_base.specs.declared.formats.Format.TheVariants as format
use Rattle.av_base.specs.declared.shapes.Shape.{Shape}
use Rattle.av_base.specs.declared.shapes.Props.{Props}
use Rattle.av_base.specs.declared.shapes.Props.TheVariants as props
use Rattle.av_base.specs.Shapes.{columns_of, rows_of, width_of, height_of}
use Rattle.av_frame.specs.Frames.{FrameValue}
use Rattle.av_filter.specs.Limits.{AfterLimits}
use Rattle.av_filter.specs.Meanings.{OptionRules, is_complete, Making, Meaning}
use Rattle.av_frame.specs.Pictures.{sample, painted}
use Rattle.av_filter.specs.Words.{word_in}
use Rattle.av_frame.specs.declared.refusals.ConfigError.{ConfigError}
use Rattle.filt_video.specs.declared.transpose.Turn.{Turn}
use Rattle.filt_video.specs.declared.transpose.Turn.TheVariants.{CclockFlip, Clock, Cclock, ClockFlip}
use Rattle.filt_video.specs.declared.transpose.Passthrough.{Passthrough}
use Rattle.filt_video.specs.declared.transpose.Passthrough.TheVariants.{Never, Portrait, Landscape}
use Rattle.filt_video.specs.declared.transpose.TransposeOptions.{TransposeOptions}
use Rattle.filt_video.specs.declared.transpose.TransposeSettings.{TransposeSettings}

-- ---- options

abbrev pub transpose_names : List (List ℕ × ℕ)
transpose_names = (codes "dir", 0) ∷ (codes "passthrough", 1) ∷ []

-- the words for ways of turning
abbrev pub turns : List (List ℕ × Turn)
turns =
    (codes "0", CclockFlip) ∷ (codes "cclock_flip", CclockFlip)
    ∷ (codes "1", Clock) ∷ (codes "clock", Clock)
    ∷ (codes "2", Cclock) ∷ (codes "cclock", Cclock)
    ∷ (codes "3", ClockFlip) ∷ (codes "clock_flip", ClockFlip)
    ∷ []

-- the words for pictures that pass
abbrev pub passthroughs : List (List ℕ × Passthrough)
passthroughs = (codes "none", Never) ∷ (codes "portrait", Portrait) ∷ (codes "landscape", Landscape) ∷ []

-- option 0 takes the words for ways of turning, option 1 those for pictures that pass
pub record TransposeTakes (o : ℕ) (text : List ℕ) : Type 0 where
  pub dir : o ≡ 0 → (turn : Turn) × (word_in turns text ≡ Some turn)
  pub passthrough : o ≡ 1 → (passing : Passthrough) × (word_in passthroughs text ≡ Some passing)

abbrev pub turn_is : Turn → Option (List ℕ) → Type 0
turn_is turn (Some text) = word_in turns text ≡ Some turn
turn_is turn None = turn ≡ CclockFlip

abbrev pub passthrough_is : Passthrough → Option (List ℕ) → Type 0
passthrough_is passthrough (Some text) = word_in passthroughs text ≡ Some passthrough
passthrough_is passthrough None = passthrough ≡ Never

-- the options have at o what the text says
pub record TransposeHas (options : TransposeOptions) (o : ℕ) (text : Option (List ℕ)) : Type 0 where
  pub dir : o ≡ 0 → turn_is options.dir text
  pub passthrough : o ≡ 1 → passthrough_is options.passthrough text

abbrev pub transpose_rules : OptionRules TransposeOptions
transpose_rules = record { count = 2; names = transpose_names; takes = TransposeTakes; has = TransposeHas; completes = is_complete }

-- ---- settings and shapes

-- the format isn't one of 4:2:2, of which a turned picture would be of another
abbrev pub IsTurnable : Format → Type 0
IsTurnable f = (f ≢ format.Video Yuv422p) × (f ≢ format.Video Yuva422p)

-- pictures of this shape pass as they are
abbrev pub passes : Passthrough → Shape → Bool
passes Never s = false
passes Portrait s = nat_le (width_of s.props) (height_of s.props)
passes Landscape s = nat_le (height_of s.props) (width_of s.props)

abbrev pub transpose_settings : TransposeOptions → Shape → TransposeSettings
transpose_settings options s = record { dir = options.dir; passes = passes options.passthrough s }

-- n/d becomes d/n; 0/1, which isn't known, stays
abbrev pub turned_aspect : Ratio → Ratio
turned_aspect r = if nat_eq r.num 0 then r else record { num = r.den; den = r.num }

abbrev pub turned_props : Props → Props
turned_props (props.Video p) = props.Video (record p { width = p.height; height = p.width; aspect = turned_aspect p.aspect })
turned_props (props.Audio p) = props.Audio p

abbrev pub turned_shape : Shape → Shape
turned_shape s = record s { props = turned_props s.props }

abbrev pub transposed_shape : TransposeSettings → Shape → Shape
transposed_shape settings s = if settings.passes then s else turned_shape s

-- the limits of the output are checked
unfoldable pub transpose_outcome : TransposeOptions → Shape → Result TransposeSettings ConfigError → Type 0
transpose_outcome o s =
    AfterLimits (transposed_shape (transpose_settings o s) s) (width_of (transposed_shape (transpose_settings o s) s).props) (height_of (transposed_shape (transpose_settings o s) s).props)
    (λ r. r ≡ Ok (transpose_settings o s))

-- ---- pictures

-- out(p, r, c), where plane p of the input has w columns and h rows
abbrev pub turned : Turn → FrameValue → ℕ → ℕ → ℕ → ℕ
turned CclockFlip x p r c = sample x p c r
turned Clock x p r c = sample x p ((rows_of x.shape p - 1) - c) r
turned Cclock x p r c = sample x p c ((columns_of x.shape p - 1) - r)
turned ClockFlip x p r c = sample x p ((rows_of x.shape p - 1) - c) ((columns_of x.shape p - 1) - r)

-- what is made of a frame
abbrev pub transposed : TransposeSettings → Shape → FrameValue → FrameValue
transposed settings s x = if settings.passes then x else painted (turned settings.dir) (turned_shape s) x

-- ---- where a sample comes from

-- the row of the input, of h rows, that column c of the output comes from
abbrev pub source_row : Turn → ℕ → ℕ → ℕ
source_row CclockFlip h c = c
source_row Clock h c = (h - 1) - c
source_row Cclock h c = c
source_row ClockFlip h c = (h - 1) - c

-- the column of the input, of w columns, that row r of the output comes from
abbrev pub source_column : Turn → ℕ → ℕ → ℕ
source_column CclockFlip w r = r
source_column Clock w r = r
source_column Cclock w r = (w - 1) - r
source_column ClockFlip w r = (w - 1) - r

-- ---- all together

abbrev pub transpose_making : Making TransposeOptions TransposeSettings
transpose_making = record {
  takes = λ o. IsTurnable;
  settles = transpose_outcome;
  shape = transposed_shape;
  made = λ t x. transposed t x.shape x;
}

abbrev pub transpose : Meaning
transpose = record { Options = TransposeOptions; Settings = TransposeSettings; name = codes "transpose"; options = transpose_rules; making = transpose_making }
