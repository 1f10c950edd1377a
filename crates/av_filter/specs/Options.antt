-- Options of a filter, as its arguments give them (FFmpeg Filters Documentation, "Filtergraph syntax": values, and
-- `key=value` pairs after them; what is refused is this project's own).
use Rattle.std.specs.Prelude.{◌≡◌, ◌≢◌, ◌<◌, ◌≤ℤ◌, ◌||◌, ℕ, ℤ, List, [], ◌∷◌, Option, Some, None, Bool, true, false, not, nat_lt, is_some, take, if◌then◌else◌, codes}
use Rattle.std.specs.List.{slice_get, list_any}
use Rattle.av_text.specs.Numbers.{IsWhole}
use Rattle.av_text.specs.declared.arguments.Arg.{Arg}
use Rattle.av_frame.specs.declared.refusals.OptionError.{OptionError}
use Rattle.av_frame.specs.declared.refusals.OptionError.TheVariants.{UnknownOption, TooManyValues, BadValue}
use Rattle.av_filter.specs.Words.{word_in}

abbrev pub has_name : Arg → Bool
has_name arg = is_some arg.name

abbrev pub any_named : List Arg → Bool
any_named args = list_any has_name args

-- the option of an argument: the one that its name means; without a name that of the argument's own
-- number, unless there is none or the argument comes late, after one with a name
abbrev pub option_for : ℕ → List (List ℕ × ℕ) → Bool → ℕ → Option (List ℕ) → Option ℕ
option_for count names is_late k (Some name) = word_in names name
option_for count names is_late k None = if is_late || not (nat_lt k count) then None else Some k

-- why argument k is rejected if it has no option
abbrev pub misplaced : ℕ → Option (List ℕ) → OptionError
misplaced k (Some name) = UnknownOption k
misplaced k None = TooManyValues k

-- argument k is for option o, and gives it this text
pub record Gives (count : ℕ) (names : List (List ℕ × ℕ)) (args : List Arg) (k o : ℕ) (text : List ℕ) : Type 0 where
  pub arg : Arg
  pub is_arg : slice_get args k ≡ Some arg
  pub option : option_for count names (any_named (take k args)) k arg.name ≡ Some o
  pub value : text ≡ arg.value

-- why argument k is rejected: it has no option, or its option doesn't take its text
pub data HasFault (count : ℕ) (names : List (List ℕ × ℕ)) (takes : ℕ → List ℕ → Type 0) (args : List Arg) (k : ℕ) : OptionError → Type 0 where
  NoOption : (arg : Arg) → slice_get args k ≡ Some arg → option_for count names (any_named (take k args)) k arg.name ≡ None
      → HasFault count names takes args k (misplaced k arg.name)
  NotTaken : (o : ℕ) (text : List ℕ) → Gives count names args k o text → ¬ takes o text → HasFault count names takes args k (BadValue k)

-- no argument has a fault
abbrev pub AreTaken : ℕ → List (List ℕ × ℕ) → (ℕ → List ℕ → Type 0) → List Arg → Type 0
AreTaken count names takes args = (k : ℕ) (e : OptionError) → ¬ HasFault count names takes args k e

-- the fault of the first argument that has one
pub record IsFirstFault (count : ℕ) (names : List (List ℕ × ℕ)) (takes : ℕ → List ℕ → Type 0) (args : List Arg) (e : OptionError) : Type 0 where
  pub place : ℕ
  pub has : HasFault count names takes args place e
  pub first : (earlier : ℕ) (f : OptionError) → earlier < place → ¬ HasFault count names takes args earlier f

-- the text that an option is given: that of the last argument for it, and none if no argument is
pub data IsGiven (count : ℕ) (names : List (List ℕ × ℕ)) (args : List Arg) (o : ℕ) : Option (List ℕ) → Type 0 where
  Last : (k : ℕ) (text : List ℕ) → Gives count names args k o text → ((later : ℕ) (other : List ℕ) → k < later → ¬ Gives count names args later o other)
      → IsGiven count names args o (Some text)
  Never : ((k : ℕ) (text : List ℕ) → ¬ Gives count names args k o text) → IsGiven count names args o None

-- each option has what it is given; `has o text` says so of option o
abbrev pub HasGiven : ℕ → List (List ℕ × ℕ) → (ℕ → Option (List ℕ) → Type 0) → List Arg → Type 0
HasGiven count names has args = (o : ℕ) → o < count → (text : Option (List ℕ)) × IsGiven count names args o text × has o text

-- argument k was read: its option now has what it says, and every other option what it had
pub record IsRead (count : ℕ) (names : List (List ℕ × ℕ)) (args : List Arg) (k : ℕ) (old new : ℕ → Option (List ℕ) → Type 0) : Type 0 where
  pub option : ℕ
  pub text : List ℕ
  pub gives : Gives count names args k option text
  pub set : new option (Some text)
  pub others : (o : ℕ) (said : Option (List ℕ)) → o ≢ option → old o said → new o said

-- `0`, `1`, `false` or `true`
abbrev pub flags : List (List ℕ × Bool)
flags = (codes "0", false) ∷ (codes "1", true) ∷ (codes "false", false) ∷ (codes "true", true) ∷ []

-- a whole number from `least` to `most`
pub record IsWholeWithin (least most : ℤ) (text : List ℕ) (z : ℤ) : Type 0 where
  pub whole : IsWhole text z
  pub low : least ≤ℤ z
  pub high : z ≤ℤ most
