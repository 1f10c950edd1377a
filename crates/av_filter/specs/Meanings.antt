-- What a filter means that makes one frame of each: its name, its options, the formats that it takes, the outcome of its
-- settings, and what it makes of a frame.
use Rattle.std.specs.Prelude.{◌≡◌, ◌⊎◌, ℕ, List, [], ◌∷◌, Option, Result, Ok, Err, length, refl}
use Rattle.av_base.specs.declared.formats.Format.{Format}
use Rattle.av_base.specs.declared.shapes.Shape.{Shape}
use Rattle.av_base.specs.declared.shapes.Props.{Props}
use Rattle.av_base.specs.declared.shapes.Props.TheVariants as props
use Rattle.av_text.specs.declared.arguments.Arg.{Arg}
use Rattle.av_frame.specs.Frames.{FrameValue}
use Rattle.av_base.specs.Shapes.{IsPictureShape, IsPictured}
use Rattle.av_frame.specs.Rules.{SameTimes}
use Rattle.av_filter.specs.Options.{HasGiven, AreTaken, IsFirstFault}
use Rattle.av_filter.specs.Outcomes.{HasOne, AfterFault}
use Rattle.av_frame.specs.declared.refusals.OptionError.{OptionError}
use Rattle.av_frame.specs.declared.refusals.OptionError.TheVariants as option
use Rattle.av_frame.specs.declared.refusals.ConfigError.{ConfigError}
use Rattle.av_frame.specs.declared.refusals.ConfigError.TheVariants as config

-- ---- options

-- The options of a filter: how many there are, their names with their numbers, and the texts that option o takes. Of
-- options, `has o text` says that option o has what the text says, or without a text its default; `completes` says what
-- options come to that so many arguments gave: they are refused if they contradict each other, or if one is missing.
pub record OptionRules (O : Type 0) : Type 1 where
  pub count : ℕ
  pub names : List (List ℕ × ℕ)
  pub takes : ℕ → List ℕ → Type 0
  pub has : O → ℕ → Option (List ℕ) → Type 0
  pub completes : O → ℕ → Result O OptionError → Type 0

-- all options are complete
abbrev pub is_complete : {O : Type 0} → O → ℕ → Result O OptionError → Type 0
is_complete o n r = r ≡ Ok o

-- What arguments give: they are refused for the first one that has a fault; else each option has what it is given, and
-- the options are completed.
abbrev pub IsReading : {O : Type 0} → OptionRules O → List Arg → Result O OptionError → Type 0
IsReading {O} rules args =
    AfterFault (IsFirstFault rules.count rules.names rules.takes args) Err (AreTaken rules.count rules.names rules.takes args) (λ r. (o : O) × HasGiven rules.count rules.names (rules.has o) args × rules.completes o (length args) r)

-- ---- settings and frames

-- The formats that a filter with these options takes, the outcome of its settings for pictures of a shape, and, with
-- settings, the shape of its output and what it makes of a frame.
pub record Making (O S : Type 0) : Type 1 where
  pub takes : O → Format → Type 0
  pub settles : O → Shape → Result S ConfigError → Type 0
  pub shape : S → Shape → Shape
  pub made : S → FrameValue → FrameValue

-- the format, rate, time base and order of fields stay
abbrev pub AreOfStream : Props → Props → Type 0
AreOfStream (props.Video p) (props.Video q) = (q.rate ≡ p.rate) × (q.base ≡ p.base) × (q.scan ≡ p.scan)
AreOfStream (props.Audio p) (props.Audio q) = q ≡ p
AreOfStream p q = ⊥

pub record IsOfStream (s u : Shape) : Type 0 where
  pub format : u.format ≡ s.format
  pub props : AreOfStream s.props u.props

-- what a filter means: its name, its options, and what it makes with settings
pub record Meaning : Type 1 where
  pub Options : Type 0
  pub Settings : Type 0
  pub name : List ℕ
  pub options : OptionRules Options
  pub making : Making Options Settings

-- the settings are those of some options, for pictures of a shape whose format these take
pub record IsSettled {O S : Type 0} (m : Making O S) (s : Shape) (t : S) : Type 0 where
  pub options : O
  pub picture : IsPictureShape s
  pub takes : m.takes options s.format
  pub settles : m.settles options s (Ok t)

-- what the one options take and settle the others do too
pub record Follows {O S : Type 0} (m : Making O S) (a b : O) : Type 0 where
  pub takes : (f : Format) → m.takes a f → m.takes b f
  pub settles : (s : Shape) (r : Result S ConfigError) → m.settles a s r → m.settles b s r

-- Of everything that is read there is exactly one reading or one fault, always, and out of memory is no fault of it. (Two
-- readings take and settle the same.)
pub record HasOneReading {O S : Type 0} (m : Making O S) (reads : Result O OptionError → Type 0) : Type 0 where
  pub some : (r : Result O OptionError) × reads r
  pub follows : (o p : O) → reads (Ok o) → reads (Ok p) → Follows m o p
  pub not_both : (o : O) (e : OptionError) → reads (Ok o) → ¬ reads (Err e)
  pub one_fault : (e f : OptionError) → reads (Err e) → reads (Err f) → e ≡ f
  pub no_memory : ¬ reads (Err option.NoMemory)

-- Options that were read have exactly one outcome, always, for pictures of every shape that they take.
abbrev pub HasOneOutcome : {O S : Type 0} → Making O S → (Result O OptionError → Type 0) → Type 0
HasOneOutcome {O} m reads = (o : O) (s : Shape) → reads (Ok o) → IsPictureShape s → m.takes o s.format → HasOne (m.settles o s)

-- the only input is one of pictures, and the output has its format
pub record IsOnly (ins : List Shape) (chosen : List Format) (s : Shape) : Type 0 where
  pub input : ins ≡ s ∷ []
  pub picture : IsPictureShape s
  pub format : chosen ≡ s.format ∷ []

-- what contracts see of a rule for frames of a shape
pub record PlacedValue (T : Type 0) : Type 0 where
  pub rule : T
  pub shape : Shape

same_stream : (p : Props) → AreOfStream p p
same_stream (props.Video p) = (refl, refl, refl)
same_stream (props.Audio p) = refl

pub is_of_stream : (s : Shape) → IsOfStream s s
is_of_stream s = record { format = refl; props = same_stream s.props }

-- ---- laws

-- Of each format it is known whether options take it. Of settings: out of memory is no fault of them, and the output's
-- shape is one of pictures within the limits, and of the input's stream. Of a frame: what is made of it is shown when it
-- is, and has the output's shape.
pub record MakingLaws {O S : Type 0} (m : Making O S) : Type 0 where
  pub decided : (o : O) (f : Format) → m.takes o f ⊎ ¬ m.takes o f
  pub no_memory : (o : O) (s : Shape) → ¬ m.settles o s (Err config.NoMemory)
  pub pictured : (t : S) (s : Shape) → IsSettled m s t → IsPictured (m.shape t s)
  pub stream : (t : S) (s : Shape) → IsOfStream s (m.shape t s)
  pub keeps : (t : S) (x : FrameValue) → SameTimes x (m.made t x)
  pub shaped : (t : S) (x : FrameValue) → (m.made t x).shape ≡ m.shape t x.shape

-- Arguments have exactly one reading, and options that were read exactly one outcome, always.
pub record ReadingLaws {O S : Type 0} (m : Making O S) (rules : OptionRules O) : Type 0 where
  pub one_reading : (args : List Arg) → HasOneReading m (IsReading rules args)
  pub one_outcome : (args : List Arg) → HasOneOutcome m (IsReading rules args)

pub record MeaningLaws (filter : Meaning) : Type 0 where
  pub making : MakingLaws filter.making
  pub reading : ReadingLaws filter.making filter.options
