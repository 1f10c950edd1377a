-- Classes of characters, all of ASCII, and the runs of them that texts begin with.
use Rattle.std.specs.Prelude.{◌≡◌, ◌==◌, ◌||◌, ◌&&◌, ◌++◌, ℕ, Bool, true, false, List, [], ◌∷◌, nat_lt, nat_le}
use Rattle.std.specs.List.{AllByRecursion}
use Rattle.std.specs.Char.{digit_value}
use Rattle.av_text.specs.declared.classes.Class.{Class}
use Rattle.av_text.specs.declared.classes.Class.TheVariants.{White, Digit, Name, Label}

-- space, tab, line feed, carriage return
abbrev pub is_white : ℕ → Bool
is_white c = c == 32 || (c == 9 || (c == 10 || c == 13))

-- a decimal digit: one whose value is below 10
abbrev pub is_digit : ℕ → Bool
is_digit c = nat_lt (digit_value c) 10

-- a letter of either case
abbrev pub is_letter : ℕ → Bool
is_letter c = (nat_le 65 c && nat_le c 90) || (nat_le 97 c && nat_le c 122)

-- what names are made of: letters, digits and `_`
abbrev pub is_name : ℕ → Bool
is_name c = is_letter c || (is_digit c || c == 95)

-- what labels are made of: the same, and `:`
abbrev pub is_label : ℕ → Bool
is_label c = is_name c || c == 58

-- the class has this character
abbrev pub has : Class → ℕ → Bool
has White c = is_white c
has Digit c = is_digit c
has Name c = is_name c
has Label c = is_label c

-- the text doesn't begin with such a character
abbrev pub Stops : (ℕ → Bool) → List ℕ → Type 0
Stops p [] = Unit {0}
Stops p (c ∷ rest) = p c ≡ false

-- the text begins with all of `front`, each such a character, and `rest` doesn't go on so
pub record IsRun (p : ℕ → Bool) (text front rest : List ℕ) : Type 0 where
  pub text_is : text ≡ front ++ rest
  pub each : AllByRecursion (λ c. p c ≡ true) front
  pub whole : Stops p rest
