-- Filters without options and without settings, whose output has the shape of their input.
use Rattle.std.specs.Prelude.{◌≡◌, ℕ, List, Result, Ok, Err, refl}
use Rattle.std.proofs.Common.{inl, inr, arith}
use Rattle.av_base.specs.Shapes.{width_of, height_of, IsPictured}
use Rattle.av_base.specs.declared.shapes.Shape.{Shape}
use Rattle.av_text.specs.declared.arguments.Arg.{Arg}
use Rattle.av_frame.specs.Frames.{FrameValue}
use Rattle.av_filter.specs.Limits.{AfterLimits, after_limits, limits_passed}
use Rattle.av_filter.specs.Outcomes.{ends_one}
use Rattle.av_filter.specs.Meanings.{Meaning, Making, MakingLaws, ReadingLaws, MeaningLaws, is_of_stream, IsSettled, IsReading, HasOneReading, HasOneOutcome}
use Rattle.av_filter.specs.NoOptions.{no_rules}
use Rattle.av_frame.specs.Rules.{SameTimes}
use Rattle.av_filter.specs.Readings.{OptionLaws, complete_law}
use Rattle.av_filter.specs.declared.options.NoOptions.{NoOptions}
use Rattle.av_frame.specs.declared.refusals.ConfigError.{ConfigError}
use Rattle.av_frame.specs.declared.refusals.ConfigError.TheVariants.{NoMemory}
use Rattle.av_filter.specs.declared.plain.Plain.{Plain}

-- the limits are checked
abbrev pub plain_outcome : {P : Type 0} → P → Shape → Result (Plain P) ConfigError → Type 0
plain_outcome rule s = AfterLimits s (width_of s.props) (height_of s.props) (λ r. r ≡ Ok (record { rule = rule }))

abbrev pub plain_making : {P : Type 0} → P → (FrameValue → FrameValue) → Making NoOptions (Plain P)
plain_making rule made = record { takes = λ o f. Unit {0}; settles = λ o. plain_outcome rule; shape = λ t s. s; made = λ t. made }

plain_memory : {P : Type 0} (rule : P) (s : Shape) → ¬ plain_outcome rule s (Err NoMemory)
plain_memory rule s outcome = let end = (limits_passed outcome).1 in cc

plain_pictured : {P : Type 0} (rule : P) (made : FrameValue → FrameValue) (t : Plain P) (s : Shape) → IsSettled (plain_making rule made) s t → IsPictured s
plain_pictured {P} rule made t s h = by h.settles
  where
    by : plain_outcome rule s (Ok t) → IsPictured s
    by (inl e) = absurd (let no = e.2 in cc)
    by (inr e) = record { lawful = h.picture.lawful; video = h.picture.video; limits = record { width = e.0.width; height = e.0.height; bytes = e.0.bytes } }

no_option_laws : OptionLaws no_rules
no_option_laws = record {
  decided = λ o text below. absurd (omega arith);
  numbered = λ name o e. absurd (cc);
  some = λ texts taken. (record {}, λ o below. tt);
  one = λ a b h. refl;
}

plain_one_reading : {P : Type 0} (rule : P) (made : FrameValue → FrameValue) (args : List Arg) → HasOneReading (plain_making rule made) (IsReading no_rules args)
plain_one_reading rule made = complete_law (plain_making rule made) no_rules no_option_laws (λ options n r h. h) (λ options n. refl)

plain_one_outcome : {P : Type 0} (rule : P) (made : FrameValue → FrameValue) (args : List Arg) → HasOneOutcome (plain_making rule made) (IsReading no_rules args)
plain_one_outcome rule made args o s reads picture takes = after_limits s (width_of s.props) (height_of s.props) _ (λ small. ends_one _)

pub plain_laws : {P : Type 0} (rule : P) (made : FrameValue → FrameValue) → ((x : FrameValue) → SameTimes x (made x)) → ((x : FrameValue) → (made x).shape ≡ x.shape) → MakingLaws (plain_making rule made)
plain_laws rule made keeps shaped = record { decided = λ o f. inl tt; no_memory = λ o. plain_memory rule; pictured = plain_pictured rule made; stream = λ t. is_of_stream; keeps = λ t. keeps; shaped = λ t. shaped }

pub plain_one : {P : Type 0} (rule : P) (made : FrameValue → FrameValue) → ReadingLaws (plain_making rule made) no_rules
plain_one rule made = record { one_reading = plain_one_reading rule made; one_outcome = plain_one_outcome rule made }

-- what such a filter means
abbrev pub plain_meaning : {P : Type 0} → List ℕ → P → (FrameValue → FrameValue) → Meaning
plain_meaning {P} name rule made = record { Options = NoOptions; Settings = Plain P; name = name; options = no_rules; making = plain_making rule made }

pub plain_meaning_laws : {P : Type 0} (name : List ℕ) (rule : P) (made : FrameValue → FrameValue) → ((x : FrameValue) → SameTimes x (made x)) → ((x : FrameValue) → (made x).shape ≡ x.shape) → MeaningLaws (plain_meaning name rule made)
plain_meaning_laws name rule made keeps shaped = record { making = plain_laws rule made keeps shaped; reading = plain_one rule made }
