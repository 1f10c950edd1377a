-- What the parts of the reader of header lines read.
use Rattle.std.specs.Prelude.{◌≡◌, ◌+◌, ◌*◌, ℕ, List, [], ◌∷◌, ◌++◌, false, ◌&&◌, nat_lt, Option, Some, None, if◌then◌else◌}
use Rattle.std.specs.Prelude.{option_and_then}
use Rattle.std.specs.List.{list_any}
use Rattle.std.specs.Char.{is_digit, digit_value}
use Rattle.av_base.specs.Bounds.{number_bound}
use Rattle.y4m_header.specs.Params.{number_in, numbers_in, is_colon}

-- the number that digits give after the number n, if all numbers on the way are below the bound
abbrev pub digits_from : ℕ → List ℕ → Option ℕ
digits_from n [] = Some n
digits_from n (c ∷ cs) = if is_digit c 10 && nat_lt (n * 10 + digit_value c) number_bound then digits_from (n * 10 + digit_value c) cs else None

-- a number that is below the bound
abbrev pub below : ℕ → Option ℕ
below n = if nat_lt n number_bound then Some n else None

abbrev pub small_in : List ℕ → Option ℕ
small_in text = option_and_then below (number_in text)

-- two numbers, if there are both
abbrev pub pair_of : Option ℕ → Option ℕ → Option (ℕ × ℕ)
pair_of (Some n) (Some d) = Some (n, d)
pair_of first second = None

-- two numbers that are below the bound
abbrev pub both_below : ℕ × ℕ → Option (ℕ × ℕ)
both_below (n, d) = if nat_lt n number_bound && nat_lt d number_bound then Some (n, d) else None

abbrev pub small_numbers_in : List ℕ → Option (ℕ × ℕ)
small_numbers_in value = option_and_then both_below (numbers_in value)

-- no byte is a colon
abbrev pub HasNoColon : List ℕ → Type 0
HasNoColon text = list_any is_colon text ≡ false

-- what comes before the first colon of a text, and what comes after it
pub record IsAroundColon (text before after : List ℕ) : Type 0 where
  pub text_is : text ≡ before ++ 58 ∷ after
  pub first : HasNoColon before
