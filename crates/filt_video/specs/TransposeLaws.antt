-- What is shown of transpose: its outcome is exactly one, and turned shapes are lawful.
use Rattle.std.specs.Prelude.{◌≡◌, ◌<◌, Bool, true, false, nat_eq, if◌then◌else◌, ℕ, zero, suc, List, Option, Some, None, IfSome, Ok, Err, refl}
use Rattle.std.proofs.Common.{inl, inr, ◌∙◌, sym, ap, subst, arith}
use Rattle.std.proofs.lemmas.Bool.{cases_eq}
use Rattle.std.proofs.lemmas.Bool.Decides.{nat_tests}
use Rattle.std.proofs.lemmas.Nat.Gcd.{IsGcd-swap}
use Rattle.av_base.proofs.FormatSetLemmas.{same_place}
use Rattle.av_base.specs.FormatSets.{place_of}
use Rattle.av_base.specs.Numbers.{IsRatio}
use Rattle.av_base.specs.Shapes.{IsLawful, IsPictureShape, IsPictured}
use Rattle.av_base.specs.declared.numbers.Ratio.{Ratio}
use Rattle.av_base.specs.declared.formats.PixelFormat.TheVariants.{Yuv422p, Yuva422p}
use Rattle.av_base.specs.declared.formats.Format.{Format}
use Rattle.av_base.specs.declared.formats.Format.TheVariants as format
use Rattle.av_base.specs.declared.shapes.Shape.{Shape}
use Rattle.av_base.specs.declared.shapes.Props.{Props}
use Rattle.av_base.specs.declared.shapes.Props.TheVariants as props
use Rattle.av_text.specs.declared.arguments.Arg.{Arg}
use Rattle.av_frame.specs.Frames.{FrameValue}
use Rattle.av_filter.specs.Limits.{after_limits, limits_passed}
use Rattle.av_filter.specs.Meanings.{AreOfStream, HasOneOutcome, HasOneReading, IsOfStream, IsReading, IsSettled, MakingLaws, MeaningLaws, ReadingLaws, is_of_stream}
use Rattle.av_filter.specs.OptionExistence.{AreDecided, AreNumbered}
use Rattle.av_filter.specs.Outcomes.{HasOne, ends_one}
use Rattle.av_frame.specs.Pictures.{painted}
use Rattle.av_frame.specs.declared.refusals.ConfigError.TheVariants.{NoMemory}
use Rattle.av_filter.specs.Readings.{OptionLaws, BothHave, complete_law}
use Rattle.av_frame.specs.Rules.{SameTimes}
use Rattle.av_filter.specs.WordLaws.{word_below}
use Rattle.filt_video.specs.Transpose.{transpose_names, turns, passthroughs, TransposeTakes, TransposeHas, turn_is, passthrough_is, transpose_rules, IsTurnable, transpose_settings, turned_props, turned_shape, transposed_shape, turned, transpose_outcome, transpose_making, transpose}
use Rattle.av_filter.specs.Decisions.{IsDecided, word_decided}
use Rattle.filt_video.specs.declared.transpose.Turn.{Turn}
use Rattle.filt_video.specs.declared.transpose.Turn.TheVariants.{CclockFlip}
use Rattle.filt_video.specs.declared.transpose.Passthrough.{Passthrough}
use Rattle.filt_video.specs.declared.transpose.Passthrough.TheVariants.{Never}
use Rattle.filt_video.specs.declared.transpose.TransposeOptions.{TransposeOptions}
use Rattle.filt_video.specs.declared.transpose.TransposeSettings.{TransposeSettings}

-- ---- options

pub transpose_numbers : AreNumbered 2 transpose_names
transpose_numbers = word_below 2 transpose_names (omega arith, (omega arith, tt))

transpose_decided : AreDecided 2 TransposeTakes
transpose_decided zero text low = elim (word_decided turns text) [
  | inl h ↦ inl (record { dir = λ e. h; passthrough = λ e. absurd (omega arith) })
  | inr lacks ↦ inr (λ t. lacks (t.dir refl))
]
transpose_decided (suc zero) text low = elim (word_decided passthroughs text) [
  | inl h ↦ inl (record { dir = λ e. absurd (omega arith); passthrough = λ e. h })
  | inr lacks ↦ inr (λ t. lacks (t.passthrough refl))
]
transpose_decided (suc (suc o)) text low = absurd (omega arith)

turn_some : (t : Option (List ℕ)) → IfSome t (TransposeTakes 0) → (turn : Turn) × turn_is turn t
turn_some None taken = (CclockFlip, refl)
turn_some (Some text) taken = taken.dir refl

passing_some : (t : Option (List ℕ)) → IfSome t (TransposeTakes 1) → (passing : Passthrough) × passthrough_is passing t
passing_some None taken = (Never, refl)
passing_some (Some text) taken = taken.passthrough refl

-- there are options that have what given texts say
transpose_some : (texts : ℕ → Option (List ℕ)) → ((o : ℕ) → o < 2 → IfSome (texts o) (TransposeTakes o))
    → (options : TransposeOptions) × ((o : ℕ) → o < 2 → TransposeHas options o (texts o))
transpose_some texts taken = (record { dir = dir.0; passthrough = passing.0 }, has)
  where
    dir : (turn : Turn) × turn_is turn (texts 0)
    dir = turn_some (texts 0) (taken 0 (omega arith))

    passing : (passthrough : Passthrough) × passthrough_is passthrough (texts 1)
    passing = passing_some (texts 1) (taken 1 (omega arith))

    has : (o : ℕ) → o < 2 → TransposeHas (record { dir = dir.0; passthrough = passing.0 }) o (texts o)
    has zero low = record { dir = λ e. dir.1; passthrough = λ e. absurd (omega arith) }
    has (suc zero) low = record { dir = λ e. absurd (omega arith); passthrough = λ e. passing.1 }
    has (suc (suc o)) low = absurd (omega arith)

turn_one : (text : Option (List ℕ)) (a b : Turn) → turn_is a text → turn_is b text → a ≡ b
turn_one None a b p q = p ∙ sym q
turn_one (Some text) a b p q = cc

passthrough_one : (text : Option (List ℕ)) (a b : Passthrough) → passthrough_is a text → passthrough_is b text → a ≡ b
passthrough_one None a b p q = p ∙ sym q
passthrough_one (Some text) a b p q = cc

same_options : (o p : TransposeOptions) → o.dir ≡ p.dir → o.passthrough ≡ p.passthrough → o ≡ p
same_options o p dir passthrough = λ i. record { dir = dir i; passthrough = passthrough i }

-- and just one
transpose_one : (o p : TransposeOptions) → BothHave 2 (TransposeHas o) (TransposeHas p) → o ≡ p
transpose_one o p both =
    let dir = both 0 (omega arith) in
    let passthrough = both 1 (omega arith) in
    same_options o p
    (turn_one dir.0 o.dir p.dir (dir.1.dir refl) (dir.2.dir refl))
    (passthrough_one passthrough.0 o.passthrough p.passthrough (passthrough.1.passthrough refl) (passthrough.2.passthrough refl))

transpose_option_laws : OptionLaws transpose_rules
transpose_option_laws = record { decided = transpose_decided; numbered = transpose_numbers; some = transpose_some; one = transpose_one }

transpose_one_reading : (args : List Arg) → HasOneReading transpose_making (IsReading transpose_rules args)
transpose_one_reading = complete_law transpose_making transpose_rules transpose_option_laws (λ options n r h. h) (λ options n. refl)

-- ---- formats

-- two formats are one, or they aren't
equal_decided : (f g : Format) → IsDecided (f ≡ g)
equal_decided f g = elim (cases_eq (place_of f) (place_of g)) [
  | inl same ↦ inl (same_place f g same)
  | inr apart ↦ inr (λ e. apart (ap place_of e))
]

-- pictures of a format can be turned, or they can't
turnable_decided : (f : Format) → IsDecided (IsTurnable f)
turnable_decided f = elim (equal_decided f (format.Video Yuv422p)) [
  | inl plain ↦ inr (λ h. h.0 plain)
  | inr other ↦ elim (equal_decided f (format.Video Yuva422p)) [
    | inl alpha ↦ inr (λ h. h.1 alpha)
    | inr neither ↦ inl (other, neither)
  ]
]

-- ---- settings

outcome_one : (o : TransposeOptions) (s : Shape) → HasOne (transpose_outcome o s)
unfolding transpose_outcome
outcome_one o s = after_limits (transposed_shape (transpose_settings o s) s) _ _ _ (λ small. ends_one _)

transpose_one_outcome : (args : List Arg) → HasOneOutcome transpose_making (IsReading transpose_rules args)
transpose_one_outcome args o s reads picture takes = outcome_one o s

transpose_memory : (o : TransposeOptions) (s : Shape) → ¬ transpose_outcome o s (Err NoMemory)
unfolding transpose_outcome
transpose_memory o s outcome = let end = (limits_passed outcome).1 in cc

-- ---- the output

aspect_case : (r : Ratio) (b : Bool) → nat_eq r.num 0 ≡ b → IsRatio r → IsRatio (if b then r else record { num = r.den; den = r.num })
aspect_case r true e h = h
aspect_case r false e h = record {
  num_fits = h.den_fits;
  den_fits = h.num_fits;
  den_some = grind (arith, nat_tests);
  coprime = IsGcd-swap r.num r.den 1 h.coprime;
}

lawful_of : (f : Format) (p : Props) → IsLawful (record { format = f; props = p }) → IsLawful (record { format = f; props = turned_props p })
lawful_of (format.Audio f) (props.Audio p) h = h
lawful_of (format.Audio f) (props.Video p) h = absurd h
lawful_of (format.Video f) (props.Audio p) h = absurd h
lawful_of (format.Video f) (props.Video p) h = record {
  width = h.height;
  height = h.width;
  aspect = aspect_case p.aspect (nat_eq p.aspect.num 0) refl h.aspect;
  rate = h.rate;
  base = h.base;
  scan = h.scan;
}

pub turned_picture : (s : Shape) → IsPictureShape s → IsPictureShape (turned_shape s)
turned_picture s h = record { lawful = lawful_of s.format s.props h.lawful; video = h.video }

passed_picture : (b : Bool) (s : Shape) → IsPictureShape s → IsPictureShape (if b then s else turned_shape s)
passed_picture true s h = h
passed_picture false s h = turned_picture s h

transposed_picture : (t : TransposeSettings) (s : Shape) → IsPictureShape s → IsPictureShape (transposed_shape t s)
transposed_picture t s h = passed_picture t.passes s h

pictured_end : (o : TransposeOptions) (t : TransposeSettings) (s : Shape) → IsPictureShape s → transpose_outcome o s (Ok t) → IsPictured (transposed_shape t s)
unfolding transpose_outcome
pictured_end o t s picture (inl e) = absurd (let no = e.2 in cc)
pictured_end o t s picture (inr (small, is)) =
    let same : transpose_settings o s ≡ t = cc in
    let out = transposed_picture (transpose_settings o s) s picture in
    subst (λ (z : TransposeSettings). IsPictured (transposed_shape z s)) same
    (record { lawful = out.lawful; video = out.video; limits = record { width = small.width; height = small.height; bytes = small.bytes } })

pub transpose_pictured : (t : TransposeSettings) (s : Shape) → IsSettled transpose_making s t → IsPictured (transpose_making.shape t s)
transpose_pictured t s h = pictured_end h.options t s h.picture h.settles

-- if frames don't pass
pub turned_pictured : (t : TransposeSettings) (s : Shape) → t.passes ≡ false → IsSettled transpose_making s t → IsPictured (turned_shape s)
turned_pictured t s off h = subst (λ (b : Bool). IsPictured (if b then s else turned_shape s)) off (transpose_pictured t s h)

passed_keeps : (b : Bool) (turn : Turn) (x : FrameValue) → SameTimes x (if b then x else painted (turned turn) (turned_shape x.shape) x)
passed_keeps true turn x = record { pts = refl; duration = refl }
passed_keeps false turn x = record { pts = refl; duration = refl }

transpose_keeps : (t : TransposeSettings) (x : FrameValue) → SameTimes x (transpose_making.made t x)
transpose_keeps t x = passed_keeps t.passes t.dir x

passed_shaped : (b : Bool) (turn : Turn) (x : FrameValue) → (if b then x else painted (turned turn) (turned_shape x.shape) x).shape ≡ (if b then x.shape else turned_shape x.shape)
passed_shaped true turn x = refl
passed_shaped false turn x = refl

transpose_shaped : (t : TransposeSettings) (x : FrameValue) → (transpose_making.made t x).shape ≡ transpose_making.shape t x.shape
transpose_shaped t x = passed_shaped t.passes t.dir x

turned_props_stream : (p : Props) → AreOfStream p (turned_props p)
turned_props_stream (props.Video p) = (refl, refl, refl)
turned_props_stream (props.Audio p) = refl

passing_stream : (passes : Bool) (s : Shape) → IsOfStream s (if passes then s else turned_shape s)
passing_stream true s = is_of_stream s
passing_stream false s = record { format = refl; props = turned_props_stream s.props }

transpose_stream : (t : TransposeSettings) (s : Shape) → IsOfStream s (transpose_making.shape t s)
transpose_stream t s = passing_stream t.passes s

-- ---- the laws

pub transpose_making_laws : MakingLaws transpose_making
transpose_making_laws = record { decided = λ o. turnable_decided; no_memory = transpose_memory; pictured = transpose_pictured; stream = transpose_stream; keeps = transpose_keeps; shaped = transpose_shaped }

pub transpose_reading_laws : ReadingLaws transpose_making transpose_rules
transpose_reading_laws = record { one_reading = transpose_one_reading; one_outcome = transpose_one_outcome }

pub transpose_laws : MeaningLaws transpose
transpose_laws = record { making = transpose_making_laws; reading = transpose_reading_laws }
