-- Arguments are taken or have a first fault, and each option is given a text or none.
use Rattle.std.specs.Prelude.{◌≡◌, ◌<◌, ◌⊎◌, ℕ, zero, suc, Bool, true, false, ◌||◌, not, nat_lt, cond, List, length, take, Option, Some, None, IfSome, refl}
use Rattle.std.specs.List.{slice_get}
use Rattle.std.proofs.Common.{inl, inr, ◌∙◌, sym, ap, subst, arith, ltb-true}
use Rattle.std.proofs.lemmas.Bool.{cases_lt, cases_eq}
use Rattle.std.proofs.lemmas.Option.{slice_get_within}
use Rattle.av_text.specs.declared.arguments.Arg.{Arg}
use Rattle.av_frame.specs.declared.refusals.OptionError.{OptionError}
use Rattle.av_frame.specs.declared.refusals.OptionError.TheVariants.{BadValue}
use Rattle.av_filter.specs.Options.{any_named, option_for, misplaced, Gives, HasFault, AreTaken, IsFirstFault, IsGiven}
use Rattle.av_filter.specs.Words.{word_in}

-- it is known of each option whether it takes a text
abbrev pub AreDecided : ℕ → (ℕ → List ℕ → Type 0) → Type 0
AreDecided count takes = (o : ℕ) (text : List ℕ) → o < count → takes o text ⊎ ¬ takes o text

-- each name is that of an option
abbrev pub AreNumbered : ℕ → List (List ℕ × ℕ) → Type 0
AreNumbered count names = (name : List ℕ) (o : ℕ) → word_in names name ≡ Some o → o < count

some_is : {X : Type 0} {x y : X} → Some x ≡ Some y → x ≡ y
some_is e = cc

-- ---- options of arguments

placed_below : (count k o : ℕ) (late low : Bool) → nat_lt k count ≡ low → cond (late || not low) None (Some k) ≡ Some o → o < count
placed_below count k o true low e f = absurd (let no : None ≡ Some o = f in cc)
placed_below count k o false false e f = absurd (let no : None ≡ Some o = f in cc)
placed_below count k o false true e f = subst (λ (n : ℕ). n < count) (some_is f) (ltb-true k count e)

option_below : (count : ℕ) (names : List (List ℕ × ℕ)) → AreNumbered count names → (late : Bool) (k : ℕ) (name : Option (List ℕ)) (o : ℕ) → option_for count names late k name ≡ Some o → o < count
option_below count names numbered late k (Some name) o e = numbered name o e
option_below count names numbered late k None o e = placed_below count k o late (nat_lt k count) refl e

module _ {count : ℕ} {names : List (List ℕ × ℕ)} {args : List Arg} where
  gives_below : {k o : ℕ} {text : List ℕ} → AreNumbered count names → Gives count names args k o text → o < count
  gives_below {k} {o} numbered g = option_below count names numbered (any_named (take k args)) k g.arg.name o g.option

  gives_within : {k o : ℕ} {text : List ℕ} → Gives count names args k o text → k < length args
  gives_within {k} g = slice_get_within args k g.arg g.is_arg

  -- an option that is given a text is one of the filter's
  pub given_below : {o : ℕ} {t : Option (List ℕ)} (text : List ℕ) → AreNumbered count names → t ≡ Some text → IsGiven count names args o t → o < count
  given_below text numbered e (IsGiven.Last k said g last) = gives_below numbered g
  given_below text numbered e (IsGiven.Never never) = absurd (cc)

  -- an argument gives an option a text, or it gives it none
  gives_or : (k o : ℕ) → ((text : List ℕ) × Gives count names args k o text) ⊎ ((text : List ℕ) → ¬ Gives count names args k o text)
  gives_or k o = at (slice_get args k) refl
    where
      other : (arg : Arg) → slice_get args k ≡ Some arg → ¬ (option_for count names (any_named (take k args)) k arg.name ≡ Some o) → (text : List ℕ) → ¬ Gives count names args k o text
      other arg e apart text g =
          let same : g.arg ≡ arg = some_is (sym g.is_arg ∙ e) in
          apart (ap (λ (a : Arg). option_for count names (any_named (take k args)) k a.name) (sym same) ∙ g.option)

      stands : (arg : Arg) → slice_get args k ≡ Some arg → (p : Option ℕ) → option_for count names (any_named (take k args)) k arg.name ≡ p
          → ((text : List ℕ) × Gives count names args k o text) ⊎ ((text : List ℕ) → ¬ Gives count names args k o text)
      stands arg e None f = inr (other arg e (λ g. absurd (let no : None ≡ Some o = sym f ∙ g in cc)))
      stands arg e (Some p) f = elim (cases_eq p o) [
        | inl same ↦ inl (arg.value, record { arg = arg; is_arg = e; option = f ∙ ap (λ (n : ℕ). Some n) same; value = refl })
        | inr apart ↦ inr (other arg e (λ g. apart (some_is (sym f ∙ g))))
      ]

      at : (a : Option Arg) → slice_get args k ≡ a → ((text : List ℕ) × Gives count names args k o text) ⊎ ((text : List ℕ) → ¬ Gives count names args k o text)
      at None e = inr (λ text g. absurd (let no : None ≡ Some g.arg = sym e ∙ g.is_arg in cc))
      at (Some arg) e = stands arg e (option_for count names (any_named (take k args)) k arg.name) refl

  -- of the first n arguments the last one that gives an option a text, or none does
  last_below : (n o : ℕ)
      → ((k : ℕ) × (text : List ℕ) × Gives count names args k o text × ((later : ℕ) (other : List ℕ) → k < later → later < n → ¬ Gives count names args later o other))
      ⊎ ((k : ℕ) (text : List ℕ) → k < n → ¬ Gives count names args k o text)
  last_below zero o = inr (λ k text less. absurd (omega arith))
  last_below (suc n) o = elim (gives_or n o) [
    | inl g ↦ inl (n, g.0, g.1, λ later other from below. absurd (omega arith))
    | inr none ↦ elim (last_below n o) [
      | inl l ↦ inl (
        l.0,
        l.1,
        l.2,
        λ later other from below. elim (cases_lt later n) [
          | inl less ↦ l.3 later other from less
          | inr past ↦ (let same : later ≡ n = omega arith in λ g. none other (subst (λ (k : ℕ). Gives count names args k o other) same g))
        ],
      )
      | inr never ↦ inr (λ k text below. elim (cases_lt k n) [
        | inl less ↦ never k text less
        | inr past ↦ (let same : k ≡ n = omega arith in λ g. none text (subst (λ (m : ℕ). Gives count names args m o text) same g))
      ])
    ]
  ]

  -- an option is given a text, or none
  pub given_some : (o : ℕ) → (t : Option (List ℕ)) × IsGiven count names args o t
  given_some o = elim (last_below (length args) o) [
    | inl l ↦ (Some l.1, IsGiven.Last l.0 l.1 l.2 (λ later other from g. l.3 later other from (gives_within g) g))
    | inr never ↦ (None, IsGiven.Never (λ k text g. never k text (gives_within g) g))
  ]

  -- ---- faults

  module _ {takes : ℕ → List ℕ → Type 0} where
    -- an argument has a fault, or none
    fault_or : AreDecided count takes → AreNumbered count names → (k : ℕ) → ((e : OptionError) × HasFault count names takes args k e) ⊎ ((e : OptionError) → ¬ HasFault count names takes args k e)
    fault_or decided numbered k = at (slice_get args k) refl
      where
        taken : (o : ℕ) (text : List ℕ) → Gives count names args k o text → takes o text → {e : OptionError} → ¬ HasFault count names takes args k e
        taken o text g takes_it (HasFault.NoOption arg is none) =
            let same : g.arg ≡ arg = some_is (sym g.is_arg ∙ is) in
            let no : None ≡ Some o = sym none ∙ (ap (λ (a : Arg). option_for count names (any_named (take k args)) k a.name) (sym same) ∙ g.option) in
            absurd (cc)
        taken o text g takes_it (HasFault.NotTaken p other h refused) =
            let same : g.arg ≡ h.arg = some_is (sym g.is_arg ∙ h.is_arg) in
            let option : p ≡ o = some_is (sym h.option ∙ (ap (λ (a : Arg). option_for count names (any_named (take k args)) k a.name) (sym same) ∙ g.option)) in
            let value : other ≡ text = h.value ∙ (ap (λ (a : Arg). a.value) (sym same) ∙ sym g.value) in
            refused (subst (λ (n : ℕ). takes n other) (sym option) (subst (λ (t : List ℕ). takes o t) (sym value) takes_it))

        stands : (arg : Arg) → slice_get args k ≡ Some arg → (p : Option ℕ) → option_for count names (any_named (take k args)) k arg.name ≡ p
            → ((e : OptionError) × HasFault count names takes args k e) ⊎ ((e : OptionError) → ¬ HasFault count names takes args k e)
        stands arg e None f = inl (misplaced k arg.name, HasFault.NoOption arg e f)
        stands arg e (Some o) f =
            let g : Gives count names args k o arg.value = record { arg = arg; is_arg = e; option = f; value = refl } in
            elim (decided o arg.value (gives_below numbered g)) [
              | inl takes_it ↦ inr (λ e. taken o arg.value g takes_it)
              | inr refused ↦ inl (BadValue k, HasFault.NotTaken o arg.value g refused)
            ]

        missing : slice_get args k ≡ None → {e : OptionError} → ¬ HasFault count names takes args k e
        missing e (HasFault.NoOption arg is none) = absurd (let no : None ≡ Some arg = sym e ∙ is in cc)
        missing e (HasFault.NotTaken o text g refused) = absurd (let no : None ≡ Some g.arg = sym e ∙ g.is_arg in cc)

        at : (a : Option Arg) → slice_get args k ≡ a → ((e : OptionError) × HasFault count names takes args k e) ⊎ ((e : OptionError) → ¬ HasFault count names takes args k e)
        at None e = inr (λ f. missing e)
        at (Some arg) e = stands arg e (option_for count names (any_named (take k args)) k arg.name) refl

    fault_within : {k : ℕ} {e : OptionError} → HasFault count names takes args k e → k < length args
    fault_within {k} (HasFault.NoOption arg is none) = slice_get_within args k arg is
    fault_within (HasFault.NotTaken o text g refused) = gives_within g

    first_below : AreDecided count takes → AreNumbered count names → (n : ℕ)
        → ((k : ℕ) (e : OptionError) → k < n → ¬ HasFault count names takes args k e) ⊎ ((e : OptionError) × IsFirstFault count names takes args e)
    first_below decided numbered zero = inl (λ k e less. absurd (omega arith))
    first_below decided numbered (suc n) = elim (first_below decided numbered n) [
      | inr first ↦ inr first
      | inl none ↦ elim (fault_or decided numbered n) [
        | inl fault ↦ inr (fault.0, record { place = n; has = fault.1; first = λ earlier f less. none earlier f less })
        | inr fine ↦ inl (λ k e below. elim (cases_lt k n) [
          | inl less ↦ none k e less
          | inr past ↦ (let same : k ≡ n = omega arith in λ h. fine e (subst (λ (m : ℕ). HasFault count names takes args m e) same h))
        ])
      ]
    ]

    -- arguments are taken, or refused for a fault
    pub taken_or_refused : AreDecided count takes → AreNumbered count names → AreTaken count names takes args ⊎ ((e : OptionError) × IsFirstFault count names takes args e)
    taken_or_refused decided numbered = elim (first_below decided numbered (length args)) [
      | inl none ↦ inl (λ k e h. none k e (fault_within h) h)
      | inr first ↦ inr first
    ]

    -- ---- texts that are taken

    -- the text that an option is given is taken
    pub given_taken : {o : ℕ} {t : Option (List ℕ)} (text : List ℕ) → AreTaken count names takes args → t ≡ Some text → takes o text ⊎ ¬ takes o text → IsGiven count names args o t → takes o text
    given_taken {o} text taken e decided (IsGiven.Last k said g last) = elim decided [
      | inl takes_it ↦ takes_it
      | inr refused ↦ absurd (taken k (BadValue k) (HasFault.NotTaken o text (subst (λ (x : List ℕ). Gives count names args k o x) (some_is e) g) refused))
    ]
    given_taken text taken e decided (IsGiven.Never never) = absurd (cc)

    -- each option is given a text that it takes, or none
    pub reading_some : AreDecided count takes → AreTaken count names takes args → (o : ℕ) → o < count → (t : Option (List ℕ)) × IsGiven count names args o t × IfSome t (takes o)
    reading_some decided taken o below = let g = given_some o in (g.0, g.1, at g.0 g.1)
      where
        at : (t : Option (List ℕ)) → IsGiven count names args o t → IfSome t (takes o)
        at None given = tt
        at (Some text) given = given_taken text taken refl (decided o text below) given
