-- What is shown of format: arguments have exactly one reading, always, and its outcome is exactly one.
use Rattle.std.specs.Prelude.{◌≡◌, ◌*◌, ◌%◌, ◌^◌, ◌⊎◌, bit_or, ℕ, zero, suc, List, [], ◌∷◌, Option, Some, None, Result, Ok, Err, Contains, refl}
use Rattle.std.specs.Int.{bit_at}
use Rattle.std.proofs.Common.{inl, inr, ◌∙◌, sym, ap, subst, arith}
use Rattle.std.proofs.lemmas.Bool.{cases_eq}
use Rattle.std.proofs.lemmas.Option.{same_Some}
use Rattle.av_base.proofs.FormatSetLemmas.{in_none, in_more}
use Rattle.av_base.specs.FormatSets.{place_of, Has}
use Rattle.av_base.specs.Shapes.{width_of, height_of, IsPictureShape, IsPictured}
use Rattle.av_base.specs.declared.formats.PixelFormat.{PixelFormat}
use Rattle.av_base.specs.declared.formats.Format.{Format}
use Rattle.av_base.specs.declared.formats.Format.TheVariants as format
use Rattle.av_base.specs.declared.sets.FormatSet.{FormatSet}
use Rattle.av_base.specs.declared.shapes.Shape.{Shape}
use Rattle.av_text.specs.declared.arguments.Arg.{Arg}
use Rattle.av_frame.specs.Frames.{FrameValue}
use Rattle.av_filter.specs.Limits.{after_limits, limits_passed}
use Rattle.av_filter.specs.Meanings.{Follows, HasOneOutcome, HasOneReading, IsReading, IsSettled, MakingLaws, MeaningLaws, ReadingLaws, is_of_stream}
use Rattle.av_filter.specs.Options.{HasGiven, AreTaken, IsFirstFault, IsGiven}
use Rattle.av_filter.specs.OptionExistence.{AreDecided, AreNumbered, given_some, given_taken, taken_or_refused}
use Rattle.av_filter.specs.OptionLaws.{one_first, none_first, first_memory}
use Rattle.av_filter.specs.Outcomes.{HasOne, ends_one}
use Rattle.av_filter.specs.Readings.{both_have}
use Rattle.av_frame.specs.Rules.{SameTimes}
use Rattle.av_filter.specs.Words.{word_in}
use Rattle.av_filter.specs.WordLaws.{word_below}
use Rattle.av_frame.specs.declared.refusals.OptionError.{OptionError}
use Rattle.av_frame.specs.declared.refusals.OptionError.TheVariants.{MissingOption}
use Rattle.av_frame.specs.declared.refusals.OptionError.TheVariants as option
use Rattle.av_frame.specs.declared.refusals.ConfigError.TheVariants.{NoMemory}
use Rattle.filt_video.specs.Formats.{format_words, parts_of, IsNamed, AreFormats, IsFormatList, format_names, format_takes, formats_are, FormatHas, completed, format_rules, IsListed, format_outcome, format_making, format_filter}
use Rattle.av_filter.specs.Decisions.{IsDecided, word_or_none}
use Rattle.filt_video.specs.declared.format.FormatOptions.{FormatOptions}
use Rattle.filt_video.specs.declared.format.FormatRule.{FormatRule}

-- ---- lists of formats

-- each part names a format
abbrev NamesEach : List (List ℕ) → Type 0
NamesEach parts = (part : List ℕ) → Contains parts part → (pixels : PixelFormat) × (word_in format_words part ≡ Some pixels)

no_part : (part : List ℕ) → ¬ Contains [] part
no_part part c = let less = c.1 in omega arith

-- a set with the format of one part more
more_formats : (part : List ℕ) (parts : List (List ℕ)) (pixels : PixelFormat) (set : FormatSet) → word_in format_words part ≡ Some pixels → AreFormats parts set
    → (more : FormatSet) × AreFormats (part ∷ parts) more
more_formats part parts pixels set named are = (
  record { bits = bit_or set.bits (1 * 2 ^ place_of (format.Video pixels) % 2 ^ 16) },
  record { each = each; has = λ f. (into f, out f) },
)
  where
    each : NamesEach (part ∷ parts)
    each other (zero, less, e) = (pixels, subst (λ (t : List ℕ). word_in format_words t ≡ Some pixels) e named)
    each other (suc k, less, e) = are.each other (k, omega arith, e)

    wider : (f : Format) → IsNamed parts f → IsNamed (part ∷ parts) f
    wider f n = record { part = n.part; is_part = (suc n.is_part.0, omega (arith, n.is_part.1), n.is_part.2); pixels = n.pixels; named = n.named; is = n.is }

    into : (f : Format) → Has (record { bits = bit_or set.bits (1 * 2 ^ place_of (format.Video pixels) % 2 ^ 16) }) f → IsNamed (part ∷ parts) f
    into f h = elim ((in_more set (format.Video pixels) f).0 h) [
      | inl old ↦ wider f ((are.has f).0 old)
      | inr new ↦ record { part = part; is_part = (0, omega arith, refl); pixels = pixels; named = named; is = new }
    ]

    named_in : (f : Format) (other : List ℕ) (p : PixelFormat) → Contains (part ∷ parts) other → word_in format_words other ≡ Some p → f ≡ format.Video p → Has set f ⊎ (f ≡ format.Video pixels)
    named_in f other p (zero, less, e) says is =
        let same : Some p ≡ Some pixels = sym says ∙ subst (λ (t : List ℕ). word_in format_words t ≡ Some pixels) e named in
        inr (is ∙ ap (λ (q : PixelFormat). format.Video q) (same_Some p pixels same))
    named_in f other p (suc k, less, e) says is = inl ((are.has f).1 (record { part = other; is_part = (k, omega arith, e); pixels = p; named = says; is = is }))

    out : (f : Format) → IsNamed (part ∷ parts) f → Has (record { bits = bit_or set.bits (1 * 2 ^ place_of (format.Video pixels) % 2 ^ 16) }) f
    out f n = (in_more set (format.Video pixels) f).1 (named_in f n.part n.pixels n.is_part n.named n.is)

formats_or : (parts : List (List ℕ)) → ((set : FormatSet) × AreFormats parts set) ⊎ ¬ NamesEach parts
formats_or [] = inl (record { bits = 0 }, record { each = λ part c. absurd (no_part part c); has = λ f. (λ h. absurd (in_none f h), λ n. absurd (no_part n.part n.is_part)) })
formats_or (part ∷ parts) = elim (word_or_none format_words part) [
  | inr none ↦ inr (λ each. let h = each part (0, omega arith, refl) in absurd (let bad : None ≡ Some h.0 = sym none ∙ h.1 in cc))
  | inl word ↦ elim (formats_or parts) [
    | inr lacks ↦ inr (λ each. lacks (λ other c. each other (suc c.0, omega (arith, c.1), c.2)))
    | inl set ↦ inl (more_formats part parts word.0 set.0 word.1 set.1)
  ]
]

-- a text is a list of formats, or it isn't
formats_decided : (text : List ℕ) → IsDecided ((set : FormatSet) × IsFormatList text set)
formats_decided text = elim (formats_or (parts_of text)) [
  | inl set ↦ inl set
  | inr lacks ↦ inr (λ h. lacks h.1.each)
]

-- a list has a format, or it doesn't
listed_decided : (given : Option FormatSet) (f : Format) → IsDecided (IsListed given f)
unfolding Has
listed_decided None f = inr (λ none. none)
listed_decided (Some set) f = cases_eq (bit_at set.bits (place_of f)) 1

-- a text says the members of a set
list_one : (text : List ℕ) (a b : FormatSet) → IsFormatList text a → IsFormatList text b → (f : Format) → Has a f → Has b f
list_one text a b p q f h = (q.has f).1 ((p.has f).0 h)

-- ---- options

pub format_numbers : AreNumbered 1 format_names
format_numbers = word_below 1 format_names (omega arith, tt)

format_decided : AreDecided 1 format_takes
format_decided o text low = formats_decided text

-- options that are completed have a list
completed_ok : (options o : FormatOptions) (given : Option FormatSet) → Ok o ≡ completed options given → (o ≡ options) × ((set : FormatSet) × (given ≡ Some set))
completed_ok options o None e = absurd (cc)
completed_ok options o (Some set) e = (cc, (set, refl))

-- and those that are rejected have none
completed_err : (options : FormatOptions) (e : OptionError) (given : Option FormatSet) → Err e ≡ completed options given → (e ≡ MissingOption) × (given ≡ None)
completed_err options e None is = (cc, refl)
completed_err options e (Some set) is = absurd (cc)

-- lists of one text have the same formats
same_listed : (given other : Option FormatSet) (text : Option (List ℕ)) → formats_are given text → formats_are other text → (f : Format) → IsListed given f → IsListed other f
same_listed given other None a b f h = absurd (subst (λ (g : Option FormatSet). IsListed g f) a h)
same_listed given other (Some text) a b f h =
    subst (λ (g : Option FormatSet). IsListed g f) (sym b.1) (list_one text a.0 b.0 a.2 b.2 f (subst (λ (g : Option FormatSet). IsListed g f) a.1 h))

-- one text doesn't both give a list and none
not_missing : (given other : Option FormatSet) (text : Option (List ℕ)) (set : FormatSet) → formats_are given text → formats_are other text → given ≡ Some set → other ≡ None → ⊥
not_missing given other None set a b some none = let no : Some set ≡ None = sym some ∙ a in cc
not_missing given other (Some text) set a b some none = let no : Some b.0 ≡ None = sym b.1 ∙ none in cc

-- ---- readings

module _ (args : List Arg) where
  -- what the one reading gives and the other
  text_between : {o p : FormatOptions} → HasGiven 1 format_names (FormatHas o.pix_fmts) args → HasGiven 1 format_names (FormatHas p.pix_fmts) args
      → (text : Option (List ℕ)) × formats_are o.pix_fmts text × formats_are p.pix_fmts text
  text_between a b = let both = both_have a b 0 (omega arith) in (both.0, both.1.list refl, both.2.list refl)

  has_at : (given : Option FormatSet) (text : Option (List ℕ)) → IsGiven 1 format_names args 0 text → formats_are given text → HasGiven 1 format_names (FormatHas given) args
  has_at given text is are zero low = (text, is, record { list = λ e. are })
  has_at given text is are (suc o) low = absurd (omega arith)

  read_by : AreTaken 1 format_names format_takes args → (text : Option (List ℕ)) → IsGiven 1 format_names args 0 text → (r : Result FormatOptions OptionError) × IsReading format_rules args r
  read_by taken None is = (Err MissingOption, inr (taken, (record { pix_fmts = None }, has_at None None is refl, refl)))
  read_by taken (Some text) is =
      let list = given_taken text taken refl (format_decided 0 text (omega arith)) is in
      (Ok (record { pix_fmts = Some list.0 }), inr (taken, (record { pix_fmts = Some list.0 }, has_at (Some list.0) (Some text) is (list.0, refl, list.1), refl)))

  read_some : AreTaken 1 format_names format_takes args ⊎ ((e : OptionError) × IsFirstFault 1 format_names format_takes args e) → (r : Result FormatOptions OptionError) × IsReading format_rules args r
  read_some (inl taken) = let given = given_some {count = 1} {names = format_names} {args = args} 0 in read_by taken given.0 given.1
  read_some (inr refused) = (Err refused.0, inl (refused.0, refused.1, refl))

  follows : (o p : FormatOptions) → IsReading format_rules args (Ok o) → IsReading format_rules args (Ok p) → Follows format_making o p
  follows o p (inr x) (inr y) =
      let a = (completed_ok x.1.0 o x.1.0.pix_fmts x.1.2).0 in
      let b = (completed_ok y.1.0 p y.1.0.pix_fmts y.1.2).0 in
      let between = text_between x.1.1 y.1.1 in
      record {
        takes = λ f h. subst (λ (z : FormatOptions). IsListed z.pix_fmts f) (sym b) (same_listed x.1.0.pix_fmts y.1.0.pix_fmts between.0 between.1 between.2 f (subst (λ (z : FormatOptions). IsListed z.pix_fmts f) a h));
        settles = λ s r h. h;
      }
  follows o p (inl x) y = absurd (let no = x.2 in cc)
  follows o p (inr x) (inl y) = absurd (let no = y.2 in cc)

  apart : (o : FormatOptions) (e : OptionError) → IsReading format_rules args (Ok o) → ¬ IsReading format_rules args (Err e)
  apart o e (inl x) y = absurd (let no = x.2 in cc)
  apart o e (inr x) (inl y) = none_first x.0 y.1
  apart o e (inr x) (inr y) =
      let some = (completed_ok x.1.0 o x.1.0.pix_fmts x.1.2).1 in
      let none = (completed_err y.1.0 e y.1.0.pix_fmts y.1.2).1 in
      let between = text_between x.1.1 y.1.1 in
      not_missing x.1.0.pix_fmts y.1.0.pix_fmts between.0 some.0 between.1 between.2 some.1 none

  is_err : {a b : OptionError} → ◌≡◌ {A = Result FormatOptions OptionError} (Err a) (Err b) → a ≡ b
  is_err e = cc

  fault : (e f : OptionError) → IsReading format_rules args (Err e) → IsReading format_rules args (Err f) → e ≡ f
  fault e f (inl x) (inl y) = is_err (x.2 ∙ ap Err (one_first x.1 y.1) ∙ sym y.2)
  fault e f (inl x) (inr y) = absurd (none_first y.0 x.1)
  fault e f (inr x) (inl y) = absurd (none_first x.0 y.1)
  fault e f (inr x) (inr y) = (completed_err x.1.0 e x.1.0.pix_fmts x.1.2).0 ∙ sym (completed_err y.1.0 f y.1.0.pix_fmts y.1.2).0

  memory : ¬ IsReading format_rules args (Err option.NoMemory)
  memory (inl x) = first_memory x.1 (is_err x.2)
  memory (inr x) = let no = (completed_err x.1.0 option.NoMemory x.1.0.pix_fmts x.1.2).0 in cc

  format_one_reading : HasOneReading format_making (IsReading format_rules args)
  format_one_reading = record { some = read_some (taken_or_refused format_decided format_numbers); follows = follows; not_both = apart; one_fault = fault; no_memory = memory }

-- ---- settings

outcome_one : (s : Shape) → HasOne (format_outcome s)
unfolding format_outcome
outcome_one s = after_limits s (width_of s.props) (height_of s.props) _ (λ small. ends_one _)

format_one_outcome : (args : List Arg) → HasOneOutcome format_making (IsReading format_rules args)
format_one_outcome args o s reads picture takes = outcome_one s

format_memory : (s : Shape) → ¬ format_outcome s (Err NoMemory)
unfolding format_outcome
format_memory s outcome = let end = (limits_passed outcome).1 in cc

pictured_end : (t : FormatRule) (s : Shape) → IsPictureShape s → format_outcome s (Ok t) → IsPictured s
unfolding format_outcome
pictured_end t s picture (inl e) = absurd (let no = e.2 in cc)
pictured_end t s picture (inr (small, is)) = record { lawful = picture.lawful; video = picture.video; limits = record { width = small.width; height = small.height; bytes = small.bytes } }

pub format_pictured : (t : FormatRule) (s : Shape) → IsSettled format_making s t → IsPictured (format_making.shape t s)
format_pictured t s h = pictured_end t s h.picture h.settles

format_keeps : (t : FormatRule) (x : FrameValue) → SameTimes x (format_making.made t x)
format_keeps t x = record { pts = refl; duration = refl }

format_shaped : (t : FormatRule) (x : FrameValue) → (format_making.made t x).shape ≡ format_making.shape t x.shape
format_shaped t x = refl

-- ---- the laws

pub format_making_laws : MakingLaws format_making
format_making_laws = record { decided = λ o. listed_decided o.pix_fmts; no_memory = λ o. format_memory; pictured = format_pictured; stream = λ t. is_of_stream; keeps = format_keeps; shaped = format_shaped }

pub format_reading_laws : ReadingLaws format_making format_rules
format_reading_laws = record { one_reading = format_one_reading; one_outcome = format_one_outcome }

pub format_laws : MeaningLaws format_filter
format_laws = record { making = format_making_laws; reading = format_reading_laws }
