-- Arguments have exactly one reading, always.
use Rattle.std.specs.Prelude.{◌≡◌, ◌<◌, ◌⊎◌, ℕ, List, Option, Some, None, IfSome, Result, Ok, Err, refl, length}
use Rattle.std.proofs.Common.{◌∙◌, sym, ap, subst, inl, inr}
use Rattle.av_text.specs.declared.arguments.Arg.{Arg}
use Rattle.av_frame.specs.declared.refusals.OptionError.{OptionError}
use Rattle.av_frame.specs.declared.refusals.OptionError.TheVariants.{NoMemory}
use Rattle.av_filter.specs.Options.{HasGiven, AreTaken, IsFirstFault, IsGiven}
use Rattle.av_filter.specs.OptionLaws.{one_given, one_first, none_first, first_memory}
use Rattle.av_filter.specs.OptionExistence.{AreDecided, AreNumbered, given_some, given_taken, taken_or_refused}
use Rattle.av_filter.specs.Outcomes.{IsOne, HasOne, same_ok}
use Rattle.av_filter.specs.Meanings.{OptionRules, IsReading, Making, Follows, HasOneReading}

-- two sets of options of which each option has what one text says, or the default
abbrev pub BothHave : ℕ → (has also : ℕ → Option (List ℕ) → Type 0) → Type 0
BothHave count has also = (o : ℕ) → o < count → (text : Option (List ℕ)) × has o text × also o text

pub both_have : {count : ℕ} {names : List (List ℕ × ℕ)} {has also : ℕ → Option (List ℕ) → Type 0} {args : List Arg}
    → HasGiven count names has args → HasGiven count names also args → BothHave count has also
both_have {also = also} p q o below =
    let a = p o below in
    let b = q o below in
    (a.0, a.2, subst (λ t. also o t) (one_given b.1 a.1) b.2)

-- What a filter shows of its options: it is known whether each takes a text, each name is that of an option, there are
-- options that have what given texts say, and just one.
pub record OptionLaws {O : Type 0} (rules : OptionRules O) : Type 0 where
  pub decided : AreDecided rules.count rules.takes
  pub numbered : AreNumbered rules.count rules.names
  pub some : (texts : ℕ → Option (List ℕ)) → ((o : ℕ) → o < rules.count → IfSome (texts o) (rules.takes o)) → (options : O) × ((o : ℕ) → o < rules.count → rules.has options o (texts o))
  pub one : (a b : O) → BothHave rules.count (rules.has a) (rules.has b) → a ≡ b

module _ {O : Type 0} (rules : OptionRules O) (laws : OptionLaws rules) (args : List Arg) where
  -- the text that an option is given, if it is given one
  text_of : ℕ → Option (List ℕ)
  text_of o = (given_some {count = rules.count} {names = rules.names} {args = args} o).0

  is_given : (o : ℕ) → IsGiven rules.count rules.names args o (text_of o)
  unfolding text_of
  is_given o = (given_some {count = rules.count} {names = rules.names} {args = args} o).1

  taken_at : AreTaken rules.count rules.names rules.takes args → (o : ℕ) → o < rules.count → (t : Option (List ℕ)) → IsGiven rules.count rules.names args o t → IfSome t (rules.takes o)
  taken_at taken o below None given = tt
  taken_at taken o below (Some text) given = given_taken text taken refl (laws.decided o text below) given

  -- there are options that have what arguments give
  pub options_some : AreTaken rules.count rules.names rules.takes args → (options : O) × HasGiven rules.count rules.names (rules.has options) args
  options_some taken =
      let built = laws.some text_of (λ o below. taken_at taken o below (text_of o) (is_given o)) in
      (built.0, λ o below. (text_of o, is_given o, built.1 o below))

  pub options_one : IsOne (λ options. HasGiven rules.count rules.names (rules.has options) args)
  options_one a b p q = laws.one a b (both_have p q)

-- arguments have one reading if nothing else is asked of options
pub reading_law : {O S : Type 0} (m : Making O S) (rules : OptionRules O) → OptionLaws rules
    → ((options : O) (n : ℕ) → HasOne (rules.completes options n)) → ((options : O) (n : ℕ) (o : O) → rules.completes options n (Ok o) → o ≡ options)
    → ((options : O) (n : ℕ) → ¬ rules.completes options n (Err NoMemory)) → (args : List Arg) → HasOneReading m (IsReading rules args)
reading_law {O} m rules laws completes same lacks args = record {
  some = some (taken_or_refused laws.decided laws.numbered);
  follows = follows;
  not_both = apart;
  one_fault = fault;
  no_memory = memory;
}
  where
    is_ok : {a b : O} → ◌≡◌ {A = Result O OptionError} (Ok a) (Ok b) → a ≡ b
    is_ok e = cc

    is_err : {a b : OptionError} → ◌≡◌ {A = Result O OptionError} (Err a) (Err b) → a ≡ b
    is_err e = cc

    some : AreTaken rules.count rules.names rules.takes args ⊎ ((e : OptionError) × IsFirstFault rules.count rules.names rules.takes args e) → (r : Result O OptionError) × IsReading rules args r
    some (inl taken) =
        let options = options_some rules laws args taken in
        let end = (completes options.0 (length args)).some in
        (end.0, inr (taken, (options.0, options.1, end.1)))
    some (inr refused) = (Err refused.0, inl (refused.0, refused.1, refl))

    follows : (o p : O) → IsReading rules args (Ok o) → IsReading rules args (Ok p) → Follows m o p
    follows o p (inr x) (inr y) =
        let is : o ≡ p = same x.1.0 (length args) o x.1.2 ∙ options_one rules laws args x.1.0 y.1.0 x.1.1 y.1.1 ∙ sym (same y.1.0 (length args) p y.1.2) in
        subst (λ q. Follows m o q) is (record { takes = λ f h. h; settles = λ s r h. h })
    follows o p (inl x) y = absurd (let no = x.2 in cc)
    follows o p (inr x) (inl y) = absurd (let no = y.2 in cc)

    apart : (o : O) (e : OptionError) → IsReading rules args (Ok o) → ¬ IsReading rules args (Err e)
    apart o e (inl x) y = absurd (let no = x.2 in cc)
    apart o e (inr x) (inl y) = none_first x.0 y.1
    apart o e (inr x) (inr y) =
        let is = options_one rules laws args y.1.0 x.1.0 y.1.1 x.1.1 in
        let end : rules.completes x.1.0 (length args) (Err e) = subst (λ q. rules.completes q (length args) (Err e)) is y.1.2 in
        let no = (completes x.1.0 (length args)).one (Ok o) (Err e) x.1.2 end in
        absurd (cc)

    fault : (e f : OptionError) → IsReading rules args (Err e) → IsReading rules args (Err f) → e ≡ f
    fault e f (inl x) (inl y) = is_err (x.2 ∙ ap Err (one_first x.1 y.1) ∙ sym y.2)
    fault e f (inl x) (inr y) = absurd (none_first y.0 x.1)
    fault e f (inr x) (inl y) = absurd (none_first x.0 y.1)
    fault e f (inr x) (inr y) =
        let is = options_one rules laws args y.1.0 x.1.0 y.1.1 x.1.1 in
        let end : rules.completes x.1.0 (length args) (Err f) = subst (λ q. rules.completes q (length args) (Err f)) is y.1.2 in
        is_err ((completes x.1.0 (length args)).one (Err e) (Err f) x.1.2 end)

    memory : ¬ IsReading rules args (Err NoMemory)
    memory (inl x) = first_memory x.1 (is_err x.2)
    memory (inr x) = lacks x.1.0 (length args) x.1.2

-- the same for options that are always complete
pub complete_law : {O S : Type 0} (m : Making O S) (rules : OptionRules O) → OptionLaws rules
    → ((options : O) (n : ℕ) (r : Result O OptionError) → rules.completes options n r → r ≡ Ok options) → ((options : O) (n : ℕ) → rules.completes options n (Ok options))
    → (args : List Arg) → HasOneReading m (IsReading rules args)
complete_law {O} m rules laws is holds =
    reading_law m rules laws
    (λ options n. record { some = (Ok options, holds options n); one = λ a b p q. is options n a p ∙ sym (is options n b q) })
    (λ options n o h. let same = is options n (Ok o) h in cc)
    (λ options n h. let no = is options n (Err NoMemory) h in cc)

-- options that are always complete have what arguments give
pub given_of : {O : Type 0} (rules : OptionRules O) (args : List Arg) (o : O) → ((options : O) (n : ℕ) (r : Result O OptionError) → rules.completes options n r → r ≡ Ok options)
    → IsReading rules args (Ok o) → HasGiven rules.count rules.names (rules.has o) args
given_of rules args o is (inl bad) = absurd (let no = bad.2 in cc)
given_of rules args o is (inr read) =
    subst (λ p. HasGiven rules.count rules.names (rules.has p) args) (sym (same_ok (is read.1.0 (length args) (Ok o) read.1.2))) read.1.1
