-- Arguments have one reading.
use Rattle.std.specs.Prelude.{◌≡◌, ◌≢◌, ◌<◌, ◌≤◌, ℕ, List, Option, Some, None, refl}
use Rattle.std.proofs.Common.{⊎_elim, arith, subst}
use Rattle.std.proofs.lemmas.Bool.{cases_lt}
use Rattle.av_text.specs.declared.arguments.Arg.{Arg}
use Rattle.av_frame.specs.declared.refusals.OptionError.{OptionError}
use Rattle.av_frame.specs.declared.refusals.OptionError.TheVariants.{NoMemory}
use Rattle.av_filter.specs.Options.{misplaced, Gives, HasFault, AreTaken, IsFirstFault, IsGiven}

-- out of memory is no fault of an argument without an option
misplaced_memory : (k : ℕ) (name : Option (List ℕ)) → NoMemory ≢ misplaced k name
misplaced_memory k (Some name) is = cc
misplaced_memory k None is = cc

module _ {count : ℕ} {names : List (List ℕ × ℕ)} {args : List Arg} where
  one_text : {k m o : ℕ} {text other : List ℕ} → k ≡ m → Gives count names args k o text → Gives count names args m o other → Some text ≡ Some other
  one_text e g h =
      let is = g.is_arg in
      let same = h.is_arg in
      let one = g.value in
      let two = h.value in
      cc

  -- an option is given one text, or none
  pub one_given : {o : ℕ} {t u : Option (List ℕ)} → IsGiven count names args o t → IsGiven count names args o u → t ≡ u
  one_given (IsGiven.Last k text g last) (IsGiven.Last m other h later) =
      ⊎_elim (λ (less : k < m). absurd (last m other less h)) (λ (from : m ≤ k).
      ⊎_elim (λ (less : m < k). absurd (later k text less g)) (λ (to : k ≤ m). one_text (omega arith) g h) (cases_lt m k)) (cases_lt k m)
  one_given (IsGiven.Last k text g last) (IsGiven.Never never) = absurd (never k text g)
  one_given (IsGiven.Never never) (IsGiven.Last m other h later) = absurd (never m other h)
  one_given (IsGiven.Never never) (IsGiven.Never also) = refl

  -- an argument has one fault
  one_fault : {takes : ℕ → List ℕ → Type 0} {k : ℕ} {e f : OptionError} → HasFault count names takes args k e → HasFault count names takes args k f → e ≡ f
  one_fault (HasFault.NoOption arg is none) (HasFault.NoOption other same also) = cc
  one_fault (HasFault.NoOption arg is none) (HasFault.NotTaken o text g refused) =
      let same = g.is_arg in
      let some = g.option in
      cc
  one_fault (HasFault.NotTaken o text g refused) (HasFault.NoOption arg is none) =
      let same = g.is_arg in
      let some = g.option in
      cc
  one_fault (HasFault.NotTaken o text g refused) (HasFault.NotTaken p other h also) = refl

  -- arguments are refused for one fault
  pub one_first : {takes : ℕ → List ℕ → Type 0} {e f : OptionError} → IsFirstFault count names takes args e → IsFirstFault count names takes args f → e ≡ f
  one_first {takes} {e} {f} a b =
      ⊎_elim (λ (less : a.place < b.place). absurd (b.first a.place e less a.has)) (λ (from : b.place ≤ a.place).
      ⊎_elim (λ (less : b.place < a.place). absurd (a.first b.place f less b.has)) (λ (to : a.place ≤ b.place).
      one_fault a.has (subst (λ k. HasFault count names takes args k f) (omega arith) b.has)) (cases_lt b.place a.place)) (cases_lt a.place b.place)

  -- out of memory is no fault of arguments
  fault_memory : {takes : ℕ → List ℕ → Type 0} {k : ℕ} {e : OptionError} → HasFault count names takes args k e → NoMemory ≢ e
  fault_memory {k = k} (HasFault.NoOption arg is none) = misplaced_memory k arg.name
  fault_memory (HasFault.NotTaken o text g refused) = λ is. cc

  pub first_memory : {takes : ℕ → List ℕ → Type 0} {e : OptionError} → IsFirstFault count names takes args e → NoMemory ≢ e
  first_memory a = fault_memory a.has

  -- what is taken isn't refused
  pub none_first : {takes : ℕ → List ℕ → Type 0} {e : OptionError} → AreTaken count names takes args → ¬ IsFirstFault count names takes args e
  none_first taken a = taken a.place _ a.has
