-- Values that may go on.
use Rattle.std.proofs.Common.{◌≡◌, ℕ, ◌+◌, ◌*◌, ◌<◌, ◌≤◌, ◌&&◌, ◌⊎◌, Bool, true, false, ltb, leb, eqb, nat_lt, nat_eq, Option, Some, None, List, [], ◌∷◌, ◌++◌, length, refl, sym, ap, ◌∙◌, subst, arith, inl, inr, is_some, append_assoc, length-append}
use Rattle.std.specs.Prelude.{option_and_then}
use Rattle.std.specs.List.{list_any}
use Rattle.std.specs.Char.{is_digit, digit_value}
use Rattle.std.proofs.lemmas.Bool.{cases_Bool, cases_eq, lt-ltb, le-leb, lt-leb, ltb-true, leb-true, leb-false, and_parts, ne_eqb, false≢true}
use Rattle.std.proofs.lemmas.List.{append-nil}
use Rattle.std.proofs.lemmas.List.Folds.{list_any-append}
use Rattle.av_base.specs.Bounds.{number_bound, greatest_side}
use Rattle.av_base.specs.Shapes.{scan_letters}
use Rattle.y4m_header.specs.Front.{Completes, GoesOn}
use Rattle.y4m_header.specs.Params.{is_colon, side_in, rate_in, aspect_in, scan_in}
use Rattle.y4m_header.specs.Parts.{digits_from, small_in, small_numbers_in, pair_of, HasNoColon, IsAroundColon}
use Rattle.y4m_header.proofs.ColonLemmas.{first_colon}
use Rattle.y4m_header.proofs.ValueLemmas.{small_digits, side_of, side_small, rate_of, aspect_of, rate_small, aspect_small, small_numbers_around, small_numbers_none, pair_off}

-- ---- digits

digits_append : (n : ℕ) (xs ys : List ℕ) → digits_from n (xs ++ ys) ≡ option_and_then (λ m. digits_from m ys) (digits_from n xs)
digits_append n [] ys = refl
digits_append n (c ∷ cs) ys = elim (cases_Bool (is_digit c 10 && nat_lt (n * 10 + digit_value c) number_bound)) [
  | inl on ↦ rw on (digits_append (n * 10 + digit_value c) cs ys)
  | inr off ↦ rw off refl
]

digits_grow : (n : ℕ) (xs : List ℕ) (m : ℕ) → digits_from n xs ≡ Some m → n < number_bound → (n ≤ m) × (m < number_bound)
digits_grow n [] m e less = let same : n ≡ m = cc in (omega arith, omega arith)
digits_grow n (c ∷ cs) m e less = elim (cases_Bool (is_digit c 10 && nat_lt (n * 10 + digit_value c) number_bound)) [
  | inl on ↦
      let fits = ltb-true (n * 10 + digit_value c) number_bound (and_parts (is_digit c 10) (nat_lt (n * 10 + digit_value c) number_bound) on).1 in
      let rest : digits_from (n * 10 + digit_value c) cs ≡ Some m = sym (rw on refl) ∙ e in
      let grown = digits_grow (n * 10 + digit_value c) cs m rest fits in
      let least = grown.0 in
      (omega arith, grown.1)
  | inr off ↦ let never : None ≡ Some m = sym (rw off refl) ∙ e in absurd (cc)
]

small_or : (text : List ℕ) → (small_in text ≡ None) ⊎ (small_in text ≡ digits_from 0 text)
small_or [] = inl refl
small_or (c ∷ cs) = inr (sym (small_digits (c ∷ cs) (omega arith)))

-- a text that isn't the beginning of a number
small_none : (v : List ℕ) → None ≡ digits_from 0 v → (more : List ℕ) → small_in (v ++ more) ≡ None
small_none v e more = elim (small_or (v ++ more)) [
  | inl none ↦ none
  | inr is ↦ is ∙ (digits_append 0 v more ∙ rw (← e) refl)
]

-- a number that goes on isn't less
small_more : (v : List ℕ) (n : ℕ) → Some n ≡ digits_from 0 v → (more : List ℕ) (m : ℕ) → small_in (v ++ more) ≡ Some m → n ≤ m
small_more v n e more m is = elim (small_or (v ++ more)) [
  | inl none ↦ let never : None ≡ Some m = sym none ∙ is in absurd (cc)
  | inr same ↦
      let fits = (digits_grow 0 v n (sym e) (omega arith)).1 in
      let rest : digits_from n more ≡ Some m = sym (same ∙ (digits_append 0 v more ∙ rw (← e) refl)) ∙ is in
      (digits_grow n more m rest fits).0
]

-- zeros may be followed by a number
small_restart : (v : List ℕ) (n c : ℕ) → Some n ≡ digits_from 0 v → n ≡ 0 → small_in (v ++ c ∷ []) ≡ digits_from 0 (c ∷ [])
small_restart v n c e none =
    sym (small_digits (v ++ c ∷ []) (omega (arith, length-append v (c ∷ [])))) ∙ (digits_append 0 v (c ∷ []) ∙ rw (← e) (ap (λ (m : ℕ). digits_from m (c ∷ [])) none))

-- a number that isn't 0 has digits
small_here : (v : List ℕ) (n : ℕ) → Some n ≡ digits_from 0 v → 0 < n → small_in v ≡ Some n
small_here [] n e some = let none : n ≡ 0 = cc in absurd (omega arith)
small_here (c ∷ cs) n e some = sym (small_digits (c ∷ cs) (omega arith)) ∙ sym e

small_below : (v : List ℕ) (n : ℕ) → Some n ≡ small_in v → n < number_bound
small_below v n e = elim (small_or v) [
  | inl none ↦ let never : Some n ≡ None = e ∙ none in absurd (cc)
  | inr same ↦ (digits_grow 0 v n (sym (e ∙ same)) (omega arith)).1
]

-- ---- sides

abbrev is_side : List ℕ → Bool
is_side v = is_some (side_in v)

pub side_stops : (v : List ℕ) → None ≡ digits_from 0 v → (more : List ℕ) → is_some (side_in (v ++ more)) ≡ false
side_stops v e more = ap is_some (side_small (v ++ more) ∙ ap (option_and_then side_of) (small_none v e more))

side_large : (n : ℕ) → greatest_side < n → side_of n ≡ None
side_large n large = rw (lt-leb n greatest_side large) (elim (cases_Bool (ltb 0 n)) [ inl on ↦ rw on refl | inr off ↦ rw off refl ])

side_passed : (v : List ℕ) (n : ℕ) → Some n ≡ digits_from 0 v → greatest_side < n → (more : List ℕ) (o : Option ℕ) → small_in (v ++ more) ≡ o → option_and_then side_of o ≡ None
side_passed v n e large more None is = refl
side_passed v n e large more (Some m) is = let grown = small_more v n e more m is in side_large m (omega arith)

side_here : (n : ℕ) → 0 < n → n ≤ greatest_side → side_of n ≡ Some n
side_here n some most = rw (lt-ltb 0 n some, le-leb n greatest_side most) refl

side_completes : (v : List ℕ) (n : ℕ) → Some n ≡ digits_from 0 v → n ≤ greatest_side → Completes 32 is_side v
side_completes v n e most = elim (cases_eq n 0) [
  | inl none ↦ record { more = 49 ∷ []; above = refl; passes = ap is_some (side_small (v ++ 49 ∷ []) ∙ ap (option_and_then side_of) (small_restart v n 49 e none)) }
  | inr some ↦ record {
    more = [];
    above = refl;
    passes = ap is_some (ap side_in (append-nil v) ∙ (side_small v ∙ (ap (option_and_then side_of) (small_here v n e (omega arith)) ∙ side_here n (omega arith) most)));
  }
]

pub side_goes : (v : List ℕ) (n : ℕ) → Some n ≡ digits_from 0 v → GoesOn 32 (λ v. is_some (side_in v)) v (leb n 8192)
side_goes v n e = elim (cases_Bool (leb n 8192)) [
  | inl on ↦ rw on (side_completes v n e (leb-true n 8192 on))
  | inr off ↦ rw off (λ more. ap is_some (side_small (v ++ more) ∙ side_passed v n e (leb-false n 8192 off) more (small_in (v ++ more)) refl))
]

-- ---- two numbers

abbrev of_pair : (ℕ × ℕ → Option (ℕ × ℕ)) → List ℕ → Bool
of_pair g v = is_some (option_and_then g (small_numbers_in v))

-- a colon that comes later
colon_later : (v : List ℕ) → HasNoColon v → (more : List ℕ) → (HasNoColon (v ++ more)) ⊎ ((before after : List ℕ) × IsAroundColon (v ++ more) (v ++ before) after)
colon_later v none more = elim (first_colon more) [
  | inl also ↦ inl (list_any-append is_colon v more ∙ rw (none, also) refl)
  | inr found ↦
      let here = found.2 in
      inr (
        found.0,
        found.1,
        record {
          text_is = ap (λ (z : List ℕ). v ++ z) here.text_is ∙ sym (append_assoc v found.0 (58 ∷ found.1));
          first = list_any-append is_colon v found.0 ∙ rw (none, here.first) refl;
        },
      )
]

pair_stops : (v : List ℕ) → HasNoColon v → None ≡ digits_from 0 v → (more : List ℕ) → small_numbers_in (v ++ more) ≡ None
pair_stops v none e more = elim (colon_later v none more) [
  | inl also ↦ small_numbers_none (v ++ more) also
  | inr found ↦ small_numbers_around found.2 ∙ rw (small_none v e found.0) refl
]

zero_pair : (v : List ℕ) (n : ℕ) → HasNoColon v → Some n ≡ digits_from 0 v → n ≡ 0 → small_numbers_in (v ++ 48 ∷ (58 ∷ (48 ∷ []))) ≡ Some (0, 0)
zero_pair v n none e is =
    small_numbers_around {text = v ++ 48 ∷ (58 ∷ (48 ∷ []))} {before = v ++ 48 ∷ []} {after = 48 ∷ []} (record {
      text_is = sym (append_assoc v (48 ∷ []) (58 ∷ (48 ∷ [])));
      first = list_any-append is_colon v (48 ∷ []) ∙ rw none refl;
    })
    ∙ rw (small_restart v n 48 e is) refl

one_pair : (v : List ℕ) (n : ℕ) → HasNoColon v → Some n ≡ digits_from 0 v → 0 < n → small_numbers_in (v ++ 58 ∷ (49 ∷ [])) ≡ Some (n, 1)
one_pair v n none e some =
    small_numbers_around {text = v ++ 58 ∷ (49 ∷ [])} {before = v} {after = 49 ∷ []} (record { text_is = refl; first = none })
    ∙ rw (small_here v n e some) refl

before_completes : (g : ℕ × ℕ → Option (ℕ × ℕ)) → is_some (g (0, 0)) ≡ true → ((n : ℕ) → 0 < n → n < number_bound → is_some (g (n, 1)) ≡ true)
    → (v : List ℕ) (n : ℕ) → HasNoColon v → Some n ≡ digits_from 0 v → Completes 32 (of_pair g) v
before_completes g zeros ones v n none e = elim (cases_eq n 0) [
  | inl is ↦ record { more = 48 ∷ (58 ∷ (48 ∷ [])); above = refl; passes = ap (λ (o : Option (ℕ × ℕ)). is_some (option_and_then g o)) (zero_pair v n none e is) ∙ zeros }
  | inr some ↦ record {
    more = 58 ∷ (49 ∷ []);
    above = refl;
    passes = ap (λ (o : Option (ℕ × ℕ)). is_some (option_and_then g o)) (one_pair v n none e (omega arith)) ∙ ones n (omega arith) (digits_grow 0 v n (sym e) (omega arith)).1;
  }
]

before_colon : (g : ℕ × ℕ → Option (ℕ × ℕ)) → is_some (g (0, 0)) ≡ true → ((n : ℕ) → 0 < n → n < number_bound → is_some (g (n, 1)) ≡ true)
    → (v : List ℕ) (o : Option ℕ) → HasNoColon v → o ≡ digits_from 0 v → GoesOn 32 (of_pair g) v (is_some o)
before_colon g zeros ones v None none e = λ more. ap (λ (o : Option (ℕ × ℕ)). is_some (option_and_then g o)) (pair_stops v none e more)
before_colon g zeros ones v (Some n) none e = before_completes g zeros ones v n none e

colon_more : {v a b : List ℕ} → IsAroundColon v a b → (more : List ℕ) → IsAroundColon (v ++ more) a (b ++ more)
colon_more {v} {a} {b} is more = record { text_is = ap (λ (z : List ℕ). z ++ more) is.text_is ∙ append_assoc a (58 ∷ b) more; first = is.first }

stop_num : {v a b : List ℕ} → IsAroundColon v a b → None ≡ small_in a → (more : List ℕ) → small_numbers_in (v ++ more) ≡ None
stop_num {v} {a} {b} is e more = small_numbers_around (colon_more is more) ∙ rw (← e) refl

stop_den : {v a b : List ℕ} → IsAroundColon v a b → None ≡ digits_from 0 b → (more : List ℕ) → small_numbers_in (v ++ more) ≡ None
stop_den {v} {a} {b} is e more = small_numbers_around (colon_more is more) ∙ rw (small_none b e more) (pair_off (small_in a))

-- the numbers, where the second may go on
pair_restart : {v a b : List ℕ} (n d c : ℕ) → IsAroundColon v a b → Some n ≡ small_in a → Some d ≡ digits_from 0 b → d ≡ 0 → small_numbers_in (v ++ c ∷ []) ≡ pair_of (Some n) (digits_from 0 (c ∷ []))
pair_restart {v} {a} {b} n d c is e f none = small_numbers_around (colon_more is (c ∷ [])) ∙ rw (← e, small_restart b d c f none) refl

pair_here : {v a b : List ℕ} (n d : ℕ) → IsAroundColon v a b → Some n ≡ small_in a → Some d ≡ digits_from 0 b → 0 < d → small_numbers_in (v ++ []) ≡ Some (n, d)
pair_here {v} {a} {b} n d is e f some = ap small_numbers_in (append-nil v) ∙ (small_numbers_around is ∙ rw (← e, small_here b d f some) refl)

pair_more : {v a b : List ℕ} (n : ℕ) → IsAroundColon v a b → Some n ≡ small_in a → (more : List ℕ) → small_numbers_in (v ++ more) ≡ pair_of (Some n) (small_in (b ++ more))
pair_more {v} {a} {b} n is e more = small_numbers_around (colon_more is more) ∙ rw (← e) refl

-- ---- rates

abbrev is_rate : List ℕ → Bool
is_rate v = is_some (rate_in v)

same_rates : of_pair rate_of ≡ is_rate
same_rates = λ i v. is_some (sym (rate_small v) i)

rate_ones : (n : ℕ) → 0 < n → n < number_bound → is_some (rate_of (n, 1)) ≡ true
rate_ones n some less = rw (ne_eqb n 0 (λ e. omega arith), lt-ltb 0 n some, lt-ltb n number_bound less) refl

rate_pairs : (n d : ℕ) → 0 < n → n < number_bound → 0 < d → d < number_bound → is_some (rate_of (n, d)) ≡ true
rate_pairs n d some less any low = rw (ne_eqb n 0 (λ e. omega arith), lt-ltb 0 n some, lt-ltb n number_bound less, lt-ltb 0 d any, lt-ltb d number_bound low) refl

pub rate_before : (v : List ℕ) (o : Option ℕ) → HasNoColon v → o ≡ digits_from 0 v → GoesOn 32 (λ v. is_some (rate_in v)) v (is_some o)
rate_before v o none e = subst (λ (test : List ℕ → Bool). GoesOn 32 test v (is_some o)) same_rates (before_colon rate_of refl rate_ones v o none e)

pub rate_stop_num : {v a b : List ℕ} → IsAroundColon v a b → None ≡ small_in a → (more : List ℕ) → is_some (rate_in (v ++ more)) ≡ false
rate_stop_num {v} {a} {b} is e more = ap is_some (rate_small (v ++ more) ∙ ap (option_and_then rate_of) (stop_num is e more))

pub rate_stop_den : {v a b : List ℕ} → IsAroundColon v a b → None ≡ digits_from 0 b → (more : List ℕ) → is_some (rate_in (v ++ more)) ≡ false
rate_stop_den {v} {a} {b} is e more = ap is_some (rate_small (v ++ more) ∙ ap (option_and_then rate_of) (stop_den is e more))

rate_from : (v : List ℕ) (o : Option (ℕ × ℕ)) → small_numbers_in v ≡ o → is_some (rate_in v) ≡ is_some (option_and_then rate_of o)
rate_from v o e = ap is_some (rate_small v ∙ ap (option_and_then rate_of) e)

pub rate_moves : {v a b : List ℕ} (n d : ℕ) → IsAroundColon v a b → Some n ≡ small_in a → Some d ≡ digits_from 0 b → 0 < n → Completes 32 (λ v. is_some (rate_in v)) v
rate_moves {v} {a} {b} n d is e f some = elim (cases_eq d 0) [
  | inl none ↦ record {
    more = 49 ∷ [];
    above = refl;
    passes = rate_from (v ++ 49 ∷ []) (Some (n, 1)) (pair_restart n d 49 is e f none) ∙ rate_ones n some (small_below a n e);
  }
  | inr any ↦ record {
    more = [];
    above = refl;
    passes = rate_from (v ++ []) (Some (n, d)) (pair_here n d is e f (omega arith)) ∙ rate_pairs n d some (small_below a n e) (omega arith) (digits_grow 0 b d (sym f) (omega arith)).1;
  }
]

no_rate : (n : ℕ) (o : Option ℕ) → n ≡ 0 → ((m : ℕ) → o ≡ Some m → 0 < m) → is_some (option_and_then rate_of (pair_of (Some n) o)) ≡ false
no_rate n None none any = refl
no_rate n (Some m) none any = rw (none, ne_eqb m 0 (λ e. let least = any m refl in omega arith)) refl

pub rate_stays : {v a b : List ℕ} (n d : ℕ) → IsAroundColon v a b → Some n ≡ small_in a → Some d ≡ digits_from 0 b → n ≡ 0 → GoesOn 32 (λ v. is_some (rate_in v)) v (eqb d 0)
rate_stays {v} {a} {b} n d is e f none = elim (cases_eq d 0) [
  | inl zero_den ↦ rw zero_den (record {
    more = 48 ∷ [];
    above = refl;
    passes = rate_from (v ++ 48 ∷ []) (Some (0, 0)) (pair_restart n d 48 is e f zero_den ∙ rw none refl);
  })
  | inr any ↦ rw (ne_eqb d 0 any) (λ more. rate_from (v ++ more) (pair_of (Some n) (small_in (b ++ more))) (pair_more n is e more)
      ∙ no_rate n (small_in (b ++ more)) none (λ m found. let grown = small_more b d f more m found in omega arith))
]

-- ---- aspects

abbrev is_aspect : List ℕ → Bool
is_aspect v = is_some (aspect_in v)

same_aspects : of_pair aspect_of ≡ is_aspect
same_aspects = λ i v. is_some (sym (aspect_small v) i)

aspect_pairs : (n d : ℕ) → n < number_bound → d < number_bound → is_some (aspect_of (n, d)) ≡ true
aspect_pairs n d less low = rw (lt-ltb n number_bound less, lt-ltb d number_bound low) refl

pub aspect_before : (v : List ℕ) (o : Option ℕ) → HasNoColon v → o ≡ digits_from 0 v → GoesOn 32 (λ v. is_some (aspect_in v)) v (is_some o)
aspect_before v o none e = subst (λ (test : List ℕ → Bool). GoesOn 32 test v (is_some o)) same_aspects (before_colon aspect_of refl (λ n some less. aspect_pairs n 1 less (omega arith)) v o none e)

aspect_from : (v : List ℕ) (o : Option (ℕ × ℕ)) → small_numbers_in v ≡ o → is_some (aspect_in v) ≡ is_some (option_and_then aspect_of o)
aspect_from v o e = ap is_some (aspect_small v ∙ ap (option_and_then aspect_of) e)

aspect_completes : {v a b : List ℕ} (n d : ℕ) → IsAroundColon v a b → Some n ≡ small_in a → Some d ≡ digits_from 0 b → Completes 32 (λ v. is_some (aspect_in v)) v
aspect_completes {v} {a} {b} n d is e f = elim (cases_eq d 0) [
  | inl none ↦ record {
    more = 48 ∷ [];
    above = refl;
    passes = aspect_from (v ++ 48 ∷ []) (Some (n, 0)) (pair_restart n d 48 is e f none) ∙ aspect_pairs n 0 (small_below a n e) (omega arith);
  }
  | inr any ↦ record {
    more = [];
    above = refl;
    passes = aspect_from (v ++ []) (Some (n, d)) (pair_here n d is e f (omega arith)) ∙ aspect_pairs n d (small_below a n e) (digits_grow 0 b d (sym f) (omega arith)).1;
  }
]

pub aspect_num : {v a b : List ℕ} → IsAroundColon v a b → None ≡ small_in a → (more : List ℕ) → is_some (aspect_in (v ++ more)) ≡ false
aspect_num {v} {a} {b} is e more = ap is_some (aspect_small (v ++ more) ∙ ap (option_and_then aspect_of) (stop_num is e more))

pub aspect_after : {v a b : List ℕ} (n : ℕ) (o : Option ℕ) → IsAroundColon v a b → Some n ≡ small_in a → o ≡ digits_from 0 b → GoesOn 32 (λ v. is_some (aspect_in v)) v (is_some o)
aspect_after {v} {a} {b} n None is e f = λ more. ap is_some (aspect_small (v ++ more) ∙ ap (option_and_then aspect_of) (stop_den is f more))
aspect_after {v} {a} {b} n (Some d) is e f = aspect_completes n d is e f

-- ---- the order of the fields

pub scan_empty : Completes 32 (λ v. is_some (scan_in v)) []
scan_empty = record { more = 112 ∷ []; above = refl; passes = refl }

pub scan_goes : (v : List ℕ) → 0 < length v → GoesOn 32 (λ v. is_some (scan_in v)) v (is_some (scan_in v))
scan_goes [] some = absurd (omega arith)
scan_goes (c ∷ (d ∷ cs)) some = λ more. refl
scan_goes (c ∷ []) some = elim (cases_Bool (list_any (nat_eq c) scan_letters)) [
  | inl on ↦ rw on (record { more = []; above = refl; passes = rw on refl })
  | inr off ↦ rw off (alone off)
]
  where
    alone : list_any (nat_eq c) scan_letters ≡ false → (more : List ℕ) → is_some (scan_in (c ∷ more)) ≡ false
    alone off [] = rw off refl
    alone off (x ∷ xs) = refl

pub aspect_else : {v a b : List ℕ} (o : Option ℕ) → IsAroundColon v a b → o ≡ small_in a → is_some o ≡ false → (more : List ℕ) → is_some (aspect_in (v ++ more)) ≡ false
aspect_else {v} {a} {b} None is e none more = aspect_num is e more
aspect_else {v} {a} {b} (Some n) is e none more = absurd (false≢true (sym none))

pub aspect_then : {v a b : List ℕ} (o p : Option ℕ) → IsAroundColon v a b → o ≡ small_in a → is_some o ≡ true → p ≡ digits_from 0 b → GoesOn 32 (λ v. is_some (aspect_in v)) v (is_some p)
aspect_then {v} {a} {b} None p is e some f = absurd (false≢true some)
aspect_then {v} {a} {b} (Some n) p is e some f = aspect_after n p is e f
