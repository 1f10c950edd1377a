-- Arguments that are read one by one.
use Rattle.std.proofs.Common.{◌≡◌, ◌≢◌, ◌<◌, ◌≤◌, ◌+◌, ◌⊎◌, inl, inr, ℕ, Bool, List, length, take, get_or, ◌||◌, Option, Some, None, refl, sym, arith}
use Rattle.std.proofs.Common.{⊎_elim, subst}
use Rattle.std.proofs.lemmas.Bool.{cases_lt, cases_eq}
use Rattle.std.proofs.lemmas.Option.{slice_get_within, slice_get_read, get_or_from_slice_get}
use Rattle.std.proofs.lemmas.List.Folds.{list_any_more}
use Rattle.std.specs.List.{slice_get}
use Rattle.av_text.specs.declared.arguments.Arg.{Arg}
use Rattle.av_frame.specs.declared.refusals.OptionError.{OptionError}
use Rattle.av_frame.specs.declared.refusals.OptionError.TheVariants.{NoMemory, BadValue}
use Rattle.av_filter.specs.Options.{has_name, any_named, option_for, misplaced, Gives, HasFault, IsFirstFault, IsGiven, HasGiven, AreTaken, IsRead}

-- an argument that stands for no option
pub no_option : (count : ℕ) (names : List (List ℕ × ℕ)) (takes : ℕ → List ℕ → Type 0) (args : List Arg) (k : ℕ) (arg : Arg) (is_late : Bool) (e : OptionError)
    → (option_for count names is_late k arg.name ≡ None) × (e ≡ misplaced k arg.name) → slice_get args k ≡ Some arg → is_late ≡ any_named (take k args)
    → (e ≡ NoMemory) ⊎ HasFault count names takes args k e
no_option count names takes args k arg is_late e h is late =
    inr (rw h.1 (HasFault.NoOption arg is (rw (← late) h.0)))

-- an argument whose option doesn't take its text
pub not_taken : (count : ℕ) (names : List (List ℕ × ℕ)) (takes : ℕ → List ℕ → Type 0) (args : List Arg) (k o : ℕ) (arg : Arg) (is_late : Bool)
    → option_for count names is_late k arg.name ≡ Some o → ¬ takes o arg.value → slice_get args k ≡ Some arg → is_late ≡ any_named (take k args)
    → HasFault count names takes args k (BadValue k)
not_taken count names takes args k o arg is_late option refused is late =
    HasFault.NotTaken o arg.value (record { arg = arg; is_arg = is; option = rw (← late) option; value = refl }) refused

-- the text that an option is given by the first n arguments
pub data GivenBelow (count : ℕ) (names : List (List ℕ × ℕ)) (args : List Arg) (n o : ℕ) : Option (List ℕ) → Type 0 where
  Last : (k : ℕ) (text : List ℕ) → k < n → Gives count names args k o text → ((later : ℕ) (other : List ℕ) → k < later → later < n → ¬ Gives count names args later o other)
      → GivenBelow count names args n o (Some text)
  Never : ((k : ℕ) (text : List ℕ) → k < n → ¬ Gives count names args k o text) → GivenBelow count names args n o None

-- the first n arguments were read
pub record AreRead (count : ℕ) (names : List (List ℕ × ℕ)) (takes : ℕ → List ℕ → Type 0) (has : ℕ → Option (List ℕ) → Type 0) (args : List Arg) (n : ℕ) : Type 0 where
  pub given : (o : ℕ) → o < count → (text : Option (List ℕ)) × GivenBelow count names args n o text × has o text
  pub taken : (k : ℕ) (e : OptionError) → k < n → ¬ HasFault count names takes args k e

module _ {count : ℕ} {names : List (List ℕ × ℕ)} {args : List Arg} where
  -- an argument gives one option alone
  one_option : {k o p : ℕ} {text other : List ℕ} → Gives count names args k o text → Gives count names args k p other → o ≡ p
  one_option g h =
      let same = g.is_arg in
      let also = h.is_arg in
      let first = g.option in
      let second = h.option in
      cc

  last_or : {k n o : ℕ} → ((later : ℕ) (other : List ℕ) → k < later → later < n → ¬ Gives count names args later o other) → ((text : List ℕ) → ¬ Gives count names args n o text)
      → (later : ℕ) (other : List ℕ) → k < later → later < n + 1 → ¬ Gives count names args later o other
  last_or {k} {n} {o} last apart later other above below g =
      ⊎_elim (λ (h : later < n). last later other above h g) (λ (h : n ≤ later). apart other (subst (λ j. Gives count names args j o other) (omega arith) g)) (cases_lt later n)

  never_or : {n o : ℕ} → ((k : ℕ) (text : List ℕ) → k < n → ¬ Gives count names args k o text) → ((text : List ℕ) → ¬ Gives count names args n o text)
      → (k : ℕ) (text : List ℕ) → k < n + 1 → ¬ Gives count names args k o text
  never_or {n} {o} never apart k text below g =
      ⊎_elim (λ (h : k < n). never k text h g) (λ (h : n ≤ k). apart text (subst (λ j. Gives count names args j o text) (omega arith) g)) (cases_lt k n)

  given_more : {n o : ℕ} {said : Option (List ℕ)} → GivenBelow count names args n o said → ((text : List ℕ) → ¬ Gives count names args n o text) → GivenBelow count names args (n + 1) o said
  given_more (GivenBelow.Last k text less gives last) apart = GivenBelow.Last k text (omega arith) gives (last_or last apart)
  given_more (GivenBelow.Never never) apart = GivenBelow.Never (never_or never apart)

  given_here : {n o : ℕ} {text : List ℕ} → Gives count names args n o text → GivenBelow count names args (n + 1) o (Some text)
  given_here {n} {o} {text} gives = GivenBelow.Last n text (omega arith) gives (λ later other above below g. absurd (omega arith))

  within : {k o : ℕ} {text : List ℕ} → Gives count names args k o text → k < length args
  within {k} g = slice_get_within args k g.arg g.is_arg

  given_all : {n o : ℕ} {said : Option (List ℕ)} → length args ≤ n → GivenBelow count names args n o said → IsGiven count names args o said
  given_all all (GivenBelow.Last k text less gives last) = IsGiven.Last k text gives (λ later other above g. let below = within g in last later other above (omega arith) g)
  given_all all (GivenBelow.Never never) = IsGiven.Never (λ k text g. let below = within g in never k text (omega arith) g)

  pub all_given : {takes : ℕ → List ℕ → Type 0} {has : ℕ → Option (List ℕ) → Type 0} {n : ℕ} → AreRead count names takes has args n → length args ≤ n → HasGiven count names has args
  all_given r all o h = let given = r.given o h in (given.0, given_all all given.1, given.2)

  has_within : {takes : ℕ → List ℕ → Type 0} {k : ℕ} {e : OptionError} → HasFault count names takes args k e → k < length args
  has_within {takes} {k} (HasFault.NoOption arg is none) = slice_get_within args k arg is
  has_within (HasFault.NotTaken o text gives refused) = within gives

  pub all_taken : {takes : ℕ → List ℕ → Type 0} {has : ℕ → Option (List ℕ) → Type 0} {n : ℕ} → AreRead count names takes has args n → length args ≤ n → AreTaken count names takes args
  all_taken r all k e h = let below = has_within h in r.taken k e (omega arith) h

  pub none_read : {takes : ℕ → List ℕ → Type 0} {has : ℕ → Option (List ℕ) → Type 0} → ((o : ℕ) → o < count → has o None) → AreRead count names takes has args 0
  none_read defaults = record {
    given = λ o h. (None, GivenBelow.Never (λ k text less. absurd (omega arith)), defaults o h);
    taken = λ k e less. absurd (omega arith);
  }

  given_step : {n : ℕ} {old new : ℕ → Option (List ℕ) → Type 0} (r : IsRead count names args n old new) (o : ℕ)
      → ((text : Option (List ℕ)) × GivenBelow count names args n o text × old o text) → (o ≡ r.option) ⊎ (o ≢ r.option)
      → (text : Option (List ℕ)) × GivenBelow count names args (n + 1) o text × new o text
  given_step {n} {old} {new} r o given (inl same) =
      (Some r.text, given_here (subst (λ j. Gives count names args n j r.text) (sym same) r.gives), subst (λ j. new j (Some r.text)) (sym same) r.set)
  given_step {n} {old} {new} r o given (inr apart) =
      (given.0, given_more given.1 (λ text g. apart (one_option g r.gives)), r.others o given.0 apart given.2)

  pub one_more : {takes : ℕ → List ℕ → Type 0} {old new : ℕ → Option (List ℕ) → Type 0} {n : ℕ} → AreRead count names takes old args n → IsRead count names args n old new
      → ((e : OptionError) → ¬ HasFault count names takes args n e) → AreRead count names takes new args (n + 1)
  one_more {takes} {old} {new} {n} r now fine = record {
    given = λ o h. given_step now o (r.given o h) (cases_eq o now.option);
    taken = λ k e less h. ⊎_elim (λ (below : k < n). r.taken k e below h) (λ (above : n ≤ k). fine e (subst (λ j. HasFault count names takes args j e) (omega arith) h)) (cases_lt k n);
  }

  pub first_fault : {takes : ℕ → List ℕ → Type 0} {has : ℕ → Option (List ℕ) → Type 0} {n : ℕ} {e : OptionError} → AreRead count names takes has args n
      → (e ≡ NoMemory) ⊎ HasFault count names takes args n e → (e ≡ NoMemory) ⊎ IsFirstFault count names takes args e
  first_fault {takes} {has} {n} {e} r (inl h) = inl h
  first_fault {takes} {has} {n} {e} r (inr h) = inr (record { place = n; has = h; first = λ k f less. r.taken k f less })

-- the argument of a step
pub at_place : (args items : List Arg) (k : ℕ) (x : Arg) → items ≡ args → k < length items → x ≡ get_or items k x → slice_get args k ≡ Some x
at_place args items k x same below read = slice_get_read args (length args) k x refl (rw same at below) (rw same at read)

-- whether an argument has a name, one step on
pub late_more : (args : List Arg) (k : ℕ) (x : Arg) (is_late : Bool) → slice_get args k ≡ Some x → is_late ≡ any_named (take k args)
    → (is_late || has_name x) ≡ any_named (take (k + 1) args)
late_more args k x is_late is late =
    rw (list_any_more has_name args k x (slice_get_within args k x is), ← late, get_or_from_slice_get args k x x is) refl
