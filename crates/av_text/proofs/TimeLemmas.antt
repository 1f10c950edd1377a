-- A text has one time at most.
use Rattle.std.proofs.Common.{◌≡◌, ◌≤◌, ◌^◌, ◌⊎◌, ℕ, Bool, false, nat_eq, List, [], ◌∷◌, ◌++◌, length, get_or, refl, sym, ◌∙◌, ap, subst, inl, inr, arith}
use Rattle.std.specs.Str.Parse.{AllDigits}
use Rattle.std.proofs.lemmas.List.{append-nil, append_assoc}
use Rattle.std.proofs.lemmas.Bool.{or_parts, ne_eqb}
use Rattle.std.proofs.lemmas.Str.Parse.{digit_from_value}
use Rattle.av_text.specs.Classes.{is_digit, Stops, IsRun}
use Rattle.av_text.specs.Numbers.{IsNumber}
use Rattle.av_text.specs.Times.{IsFraction, IsClock, IsUnit, IsAmount, micros}
use Rattle.av_text.specs.NumberParts.{BeginsFraction, EndsFraction, IsClockOf}
use Rattle.av_text.proofs.NumberLemmas.{run_of_digits, digits_here}

-- ---- fractions

pub ends_digits : (rest : List ℕ) → EndsFraction rest → Stops is_digit rest
ends_digits [] ends = tt
ends_digits (c ∷ cs) ends = (or_parts (is_digit c) (nat_eq c 46) ends).0

-- what stops a row of characters that are no points follows a fraction
fraction_stops : (p : ℕ → Bool) {fraction : List ℕ} {part scale : ℕ} → p 46 ≡ false → IsFraction fraction part scale → (rest : List ℕ) → Stops p rest → Stops p (fraction ++ rest)
fraction_stops p {fraction} point (inl e) rest stops = rw e.0 stops
fraction_stops p {fraction} point (inr f) rest stops = rw f.1 point

-- a point and digits, if the text has them
pub fraction_here : {tail digits left rest : List ℕ} {part scale : ℕ} → IsRun is_digit tail digits left → BeginsFraction (46 ∷ tail) part scale rest → EndsFraction rest
    → IsNumber 1 18 digits part × (10 ^ length digits ≡ scale) × (left ≡ rest)
fraction_here {tail} {digits} {left} {rest} {part} {scale} run begins ends = elim begins.is_fraction [
  | inl e ↦ absurd (let t : EndsFraction (46 ∷ tail) = subst EndsFraction (sym (begins.text_is ∙ ap (λ xs. xs ++ rest) e.0)) ends in cc)
  | inr f ↦
      let e : tail ≡ f.0 ++ rest = let whole : 46 ∷ tail ≡ 46 ∷ (f.0 ++ rest) = begins.text_is ∙ ap (λ xs. xs ++ rest) f.1 in cc in
      let same = digits_here run e f.2.digits (ends_digits rest ends) in
      (rw (← same.0) f.2, rw (← same.0) (sym f.3), sym same.1)
]

pub whole_fraction : {text : List ℕ} {part scale : ℕ} → IsFraction text part scale → BeginsFraction text part scale []
whole_fraction {text} f = record { fraction = text; text_is = sym (append-nil text); is_fraction = f }

pub same_micros : {unit whole part scale u w p q n size : ℕ} → n ≡ micros unit whole part scale → size ≡ micros u w p q → unit ≡ u → whole ≡ w → part ≡ p → scale ≡ q → n ≡ size
same_micros e f a b c d = cc

-- ---- clocks

-- the seconds, and the parts of one after them
pub seconds_here : {hours size : ℕ} {minute behind second rest : List ℕ} → IsRun is_digit behind second rest → (h : IsClockOf hours minute behind size)
    → (h.second ≡ second) × (h.rest ≡ rest)
seconds_here {behind = behind} run h =
    let stops : Stops is_digit h.rest = subst (Stops is_digit) (append-nil h.rest) (fraction_stops is_digit refl h.is_fraction [] tt) in
    digits_here run h.behind_is h.is_second.0.digits stops

-- ---- amounts

pub one_byte : (xs : List ℕ) (a : ℕ) → length xs ≡ 1 → get_or xs 0 0 ≡ a → xs ≡ a ∷ []
one_byte [] a h e = absurd (omega arith)
one_byte (x ∷ []) a h e = ap (λ (n : ℕ). n ∷ []) e
one_byte (x ∷ y ∷ xs) a h e = absurd (omega arith)

pub two_bytes : (xs : List ℕ) (a b : ℕ) → length xs ≡ 2 → get_or xs 0 0 ≡ a → get_or xs 1 0 ≡ b → xs ≡ a ∷ b ∷ []
two_bytes [] a b h e f = absurd (omega arith)
two_bytes (x ∷ xs) a b h e f = let rest = one_byte xs b (omega arith) f in cc

pub unit_ends : {suffix : List ℕ} {unit most : ℕ} → IsUnit suffix unit most → EndsFraction suffix
unit_ends IsUnit.none = tt
unit_ends IsUnit.s = refl
unit_ends IsUnit.ms = refl
unit_ends IsUnit.us = refl

-- no `:` is after the digits of an amount
unit_plain : {suffix : List ℕ} {unit most : ℕ} → IsUnit suffix unit most → Stops (λ c. nat_eq c 58) suffix
unit_plain IsUnit.none = tt
unit_plain IsUnit.s = refl
unit_plain IsUnit.ms = refl
unit_plain IsUnit.us = refl

amount_digits : {text digits tail : List ℕ} {size : ℕ} → IsRun is_digit text digits tail → (h : IsAmount text size) → (h.digits ≡ digits) × (h.fraction ++ h.suffix ≡ tail)
amount_digits run h = digits_here run h.text_is h.is_whole.digits (fraction_stops is_digit refl h.is_fraction h.suffix (ends_digits h.suffix (unit_ends h.is_unit)))

pub amount_here : {digits tail : List ℕ} {size : ℕ} → AllDigits 10 digits → Stops is_digit tail → (h : IsAmount (digits ++ tail) size)
    → (h.digits ≡ digits) × BeginsFraction tail h.part h.scale h.suffix
amount_here {digits} {tail} all stops h =
    let same = amount_digits (run_of_digits digits tail all stops) h in
    (same.0, record { fraction = h.fraction; text_is = sym same.1; is_fraction = h.is_fraction })

-- ---- clocks and amounts

-- a clock's text is its hours, minutes and what is after them, or the latter two
record HasHours (text : List ℕ) (size : ℕ) : Type 0 where
  digits : List ℕ
  minute : List ℕ
  behind : List ℕ
  hours : ℕ
  text_is : text ≡ digits ++ 58 ∷ (minute ++ 58 ∷ behind)
  is_hours : IsNumber 1 9 digits hours
  clock : IsClockOf hours minute behind size

record HasNoHours (text : List ℕ) (size : ℕ) : Type 0 where
  minute : List ℕ
  behind : List ℕ
  text_is : text ≡ minute ++ 58 ∷ behind
  clock : IsClockOf 0 minute behind size

clock_forms : {text : List ℕ} {size : ℕ} → IsClock text size → HasHours text size ⊎ HasNoHours text size
clock_forms {text} {size} h = elim h.is_hours [
  | inl e ↦ inr (record {
    minute = h.minute;
    behind = h.second ++ h.rest;
    text_is = h.text_is ∙ ap (λ xs. xs ++ (h.minute ++ 58 ∷ (h.second ++ h.rest))) e.0;
    clock = rw e.1 at (of {text = text} {size = size} h);
  })
  | inr f ↦ inl (record {
    digits = f.0;
    minute = h.minute;
    behind = h.second ++ h.rest;
    hours = h.hours;
    text_is = h.text_is ∙ (ap (λ xs. xs ++ (h.minute ++ 58 ∷ (h.second ++ h.rest))) f.1 ∙ append_assoc f.0 (58 ∷ []) (h.minute ++ 58 ∷ (h.second ++ h.rest)));
    is_hours = f.2;
    clock = of {text = text} {size = size} h;
  })
] where
  of : {text : List ℕ} {size : ℕ} (h : IsClock text size) → IsClockOf h.hours h.minute (h.second ++ h.rest) size
  of h = record {
    second = h.second;
    rest = h.rest;
    minutes = h.minutes;
    seconds = h.seconds;
    part = h.part;
    scale = h.scale;
    behind_is = refl;
    is_minute = (h.is_minute, h.minutes_fit);
    is_second = (h.is_second, h.seconds_fit);
    is_fraction = h.is_fraction;
    size_is = h.size_is;
  }

-- a point or nothing is after a clock's seconds
seconds_plain : {hours size : ℕ} {minute behind second rest : List ℕ} → IsRun is_digit behind second rest → IsClockOf hours minute behind size → Stops (λ c. nat_eq c 58) rest
seconds_plain run h =
    let plain : Stops (λ c. nat_eq c 58) h.rest = subst (Stops (λ c. nat_eq c 58)) (append-nil h.rest) (fraction_stops (λ c. nat_eq c 58) refl h.is_fraction [] tt) in
    subst (Stops (λ c. nat_eq c 58)) (seconds_here run h).1 plain

amount_plain : {text digits tail : List ℕ} {size : ℕ} → IsRun is_digit text digits tail → IsAmount text size → Stops (λ c. nat_eq c 58) tail
amount_plain run h = subst (Stops (λ c. nat_eq c 58)) (amount_digits run h).1 (fraction_stops (λ c. nat_eq c 58) refl h.is_fraction h.suffix (unit_plain h.is_unit))

no_colon : (rest : List ℕ) → Stops (λ c. nat_eq c 58) (58 ∷ rest) → ⊥
no_colon rest h = cc

after_colon : {tail rest : List ℕ} → 58 ∷ rest ≡ tail → Stops (λ c. nat_eq c 58) tail → ⊥
after_colon {tail} {rest} e h = no_colon rest (subst (Stops (λ c. nat_eq c 58)) (sym e) h)

hours_at : {text first tail : List ℕ} {size : ℕ} → IsRun is_digit text first tail → (h : HasHours text size) → (h.digits ≡ first) × (58 ∷ (h.minute ++ 58 ∷ h.behind) ≡ tail)
hours_at run h = digits_here run h.text_is h.is_hours.digits refl

minutes_at : {text first tail : List ℕ} {size : ℕ} → IsRun is_digit text first tail → (h : HasNoHours text size) → (h.minute ≡ first) × (58 ∷ h.behind ≡ tail)
minutes_at run h = digits_here run h.text_is h.clock.is_minute.0.digits refl

-- A clock with hours has two `:`, another clock one, and an amount none.
pub hours_here : {text first behind second third : List ℕ} {size : ℕ} → IsRun is_digit text first (58 ∷ behind) → IsRun is_digit behind second (58 ∷ third)
    → IsClock text size ⊎ IsAmount text size → (hours : ℕ) × IsNumber 1 9 first hours × IsClockOf hours second third size
hours_here {behind = behind} run later (inr a) = absurd (no_colon behind (amount_plain run a))
hours_here {text} {first} {behind} {second} {third} {size} run later (inl clock) = elim (clock_forms clock) [
  | inl h ↦
      let same = hours_at run h in
      let e : behind ≡ h.minute ++ 58 ∷ h.behind = cc in
      let more = digits_here later e h.clock.is_minute.0.digits refl in
      let rest : h.behind ≡ third = cc in
      (h.hours, rw same.0 at h.is_hours, rw (more.0, rest) at h.clock)
  | inr h ↦
      let same : h.behind ≡ behind = let both = minutes_at run h in cc in
      absurd (no_colon third (seconds_plain later (rw same at h.clock)))
]

pub no_hours_here : {text first behind second rest : List ℕ} {size : ℕ} → IsRun is_digit text first (58 ∷ behind) → IsRun is_digit behind second rest → Stops (λ c. nat_eq c 58) rest
    → IsClock text size ⊎ IsAmount text size → IsClockOf 0 first behind size
no_hours_here {behind = behind} run later plain (inr a) = absurd (no_colon behind (amount_plain run a))
no_hours_here {text} {first} {behind} {second} {rest} {size} run later plain (inl clock) = elim (clock_forms clock) [
  | inl h ↦
      let both = hours_at run h in
      let e : behind ≡ h.minute ++ 58 ∷ h.behind = cc in
      absurd (after_colon (digits_here later e h.clock.is_minute.0.digits refl).1 plain)
  | inr h ↦
      let both = minutes_at run h in
      let same : h.behind ≡ behind = cc in
      rw (both.0, same) at h.clock
]

pub amount_only : {text first tail : List ℕ} {size : ℕ} → IsRun is_digit text first tail → Stops (λ c. nat_eq c 58) tail → IsClock text size ⊎ IsAmount text size → IsAmount (first ++ tail) size
amount_only run plain (inr a) = rw run.text_is at a
amount_only run plain (inl clock) = elim (clock_forms clock) [
  | inl h ↦ absurd (after_colon (hours_at run h).1 plain)
  | inr h ↦ absurd (after_colon (minutes_at run h).1 plain)
]

pub clock_with_hours : {text first behind second third : List ℕ} {hours size : ℕ} → IsRun is_digit text first (58 ∷ behind) → IsRun is_digit behind second (58 ∷ third)
    → IsNumber 1 9 first hours → IsClockOf hours second third size → IsClock text size
clock_with_hours {text} {first} {behind} {second} {third} {hours} {size} run later number h = record {
  front = first ++ 58 ∷ [];
  minute = second;
  second = h.second;
  rest = h.rest;
  hours = hours;
  minutes = h.minutes;
  seconds = h.seconds;
  part = h.part;
  scale = h.scale;
  text_is = run.text_is ∙ (ap (λ xs. first ++ 58 ∷ xs) (later.text_is ∙ ap (λ xs. second ++ 58 ∷ xs) h.behind_is) ∙ sym (append_assoc first (58 ∷ []) (second ++ 58 ∷ (h.second ++ h.rest))));
  is_hours = inr (first, refl, number);
  is_minute = h.is_minute.0;
  minutes_fit = h.is_minute.1;
  is_second = h.is_second.0;
  seconds_fit = h.is_second.1;
  is_fraction = h.is_fraction;
  size_is = h.size_is;
}

pub clock_without_hours : {text first behind : List ℕ} {size : ℕ} → IsRun is_digit text first (58 ∷ behind) → IsClockOf 0 first behind size → IsClock text size
clock_without_hours {text} {first} {behind} {size} run h = record {
  front = [];
  minute = first;
  second = h.second;
  rest = h.rest;
  hours = 0;
  minutes = h.minutes;
  seconds = h.seconds;
  part = h.part;
  scale = h.scale;
  text_is = run.text_is ∙ ap (λ xs. first ++ 58 ∷ xs) h.behind_is;
  is_hours = inl (refl, refl);
  is_minute = h.is_minute.0;
  minutes_fit = h.is_minute.1;
  is_second = h.is_second.0;
  seconds_fit = h.is_second.1;
  is_fraction = h.is_fraction;
  size_is = h.size_is;
}

-- a time without its sign begins with a digit, so that no `-` begins it
digits_unsigned : (ds rest : List ℕ) → AllDigits 10 ds → 1 ≤ length ds → Stops (λ c. nat_eq c 45) (ds ++ rest)
digits_unsigned [] rest all some = absurd (omega arith)
digits_unsigned (c ∷ ds) rest all some = let range = digit_from_value c all.0 in ne_eqb c 45 (λ e. absurd (omega (arith, range.0)))

pub time_unsigned : {body : List ℕ} {size : ℕ} → IsClock body size ⊎ IsAmount body size → Stops (λ c. nat_eq c 45) body
time_unsigned (inl clock) = elim (clock_forms clock) [
  | inl h ↦ rw h.text_is (digits_unsigned h.digits (58 ∷ (h.minute ++ 58 ∷ h.behind)) h.is_hours.digits h.is_hours.enough)
  | inr h ↦ rw h.text_is (digits_unsigned h.minute (58 ∷ h.behind) h.clock.is_minute.0.digits (omega (arith, h.clock.is_minute.0.enough)))
]
time_unsigned (inr a) = rw a.text_is (digits_unsigned a.digits (a.fraction ++ a.suffix) a.is_whole.digits a.is_whole.enough)
