-- A text has one number or ratio at most.
use Rattle.std.proofs.Common.{◌≡◌, ◌+◌, ◌*◌, ◌-◌, ◌<◌, ◌≤◌, ◌^◌, ◌||◌, ◌⊎◌, ℕ, suc, ℤ, Bool, true, false, cond, nat_eq, List, [], ◌∷◌, ◌++◌, codes, take, drop, length, get_or, Option, Some, None, IfSome, refl, sym, ◌∙◌, ap, subst, inl, inr, lit<, arith}
use Rattle.std.specs.Prelude.{IsNone}
use Rattle.std.specs.Char.{digit_value}
use Rattle.std.specs.Int.{IsInRange}
use Rattle.std.specs.List.{AllByRecursion}
use Rattle.std.specs.Str.Parse.{AllDigits, digits_value}
use Rattle.std.proofs.lemmas.Bool.{ltb-true, lt-ltb}
use Rattle.std.proofs.lemmas.Int.Digits.{digits_value_more}
use Rattle.std.proofs.lemmas.List.{append-nil, take_all}
use Rattle.std.proofs.lemmas.Str.{digit_value_digit}
use Rattle.std.proofs.lemmas.Str.Parse.{digits_value_short}
use Rattle.std.proofs.Math.Nat.{one-le-pow}
use Rattle.av_base.specs.declared.numbers.Ratio.{Ratio}
use Rattle.av_base.specs.Reduced.{IsReduced}
use Rattle.av_text.specs.Classes.{is_digit, Stops, IsRun}
use Rattle.av_text.specs.Numbers.{IsSigned, IsRateWord, Spells}
use Rattle.av_text.specs.NumberParts.{IsUnsigned, signed_of, AreParts}
use Rattle.av_text.proofs.Runs.{same_run}
use Rattle.av_base.proofs.Arithmetic.{are_numerals}
use Rattle.av_base.proofs.Ratios.{reduced_unique}

-- ---- texts by their first byte

pub first_and_rest : (text : List ℕ) (c : ℕ) → 1 ≤ length text → get_or text 0 0 ≡ c → text ≡ c ∷ take (length text - 1) (drop 1 text)
first_and_rest [] c some e = absurd (omega arith)
first_and_rest (x ∷ xs) c some e = ap (λ (n : ℕ). n ∷ xs) e ∙ ap (λ ys. c ∷ ys) (sym (take_all (suc (length xs) - 1) xs (omega arith)))

-- ---- digits

pub value_more : (text : List ℕ) (i value : ℕ) → i < length text → IsInRange 48 57 (get_or text i 0) → value ≡ digits_value 10 (take i text)
    → value * 10 + (get_or text i 0 - 48) ≡ digits_value 10 (take (i + 1) text)
value_more text i value h r e =
    let more = digits_value_more 10 text i h in
    let same = digit_value_digit (get_or text i 0) r in
    omega arith

pub value_below : (ds : List ℕ) (k : ℕ) → AllDigits 10 ds → length ds ≤ k → digits_value 10 ds < 10 ^ k
value_below ds k all h = digits_value_short are_numerals ds k all h

pub run_of_digits : (ds rest : List ℕ) → AllDigits 10 ds → Stops is_digit rest → IsRun is_digit (ds ++ rest) ds rest
run_of_digits ds rest all stops = record { text_is = refl; each = each ds all; whole = stops } where
  each : (ds : List ℕ) → AllDigits 10 ds → AllByRecursion (λ c. is_digit c ≡ true) ds
  each [] all = tt
  each (c ∷ ds) all = (lt-ltb (digit_value c) 10 all.0, each ds all.1)

pub digits_of_run : (ds : List ℕ) → AllByRecursion (λ c. is_digit c ≡ true) ds → AllDigits 10 ds
digits_of_run [] each = tt
digits_of_run (c ∷ ds) each = (ltb-true (digit_value c) 10 each.0, digits_of_run ds each.1)

-- the digits that a text begins with, and what is after them
pub digits_here : {text front rest ds left : List ℕ} → IsRun is_digit text front rest → text ≡ ds ++ left → AllDigits 10 ds → Stops is_digit left → (ds ≡ front) × (left ≡ rest)
digits_here {text} {front} {rest} {ds} {left} run e all stops =
    let same : IsRun is_digit (ds ++ left) front rest = rw e at run in
    same_run is_digit (run_of_digits ds left all stops) same

-- ---- signs

pub sign_here : {text body other : List ℕ} {n : ℕ} {z : ℤ} → (negative : Bool) → IsUnsigned text negative body → IsSigned text other n z → Stops (λ c. nat_eq c 45) other
    → (other ≡ body) × (z ≡ signed_of negative n)
sign_here {body = body} {other} true u s stops = elim s.sign [
  | inl p ↦ absurd (let t : Stops (λ c. nat_eq c 45) (45 ∷ body) = subst (Stops (λ c. nat_eq c 45)) (sym p.0 ∙ u) stops in cc)
  | inr p ↦ (cc, p.1)
]
sign_here {other = other} false u s stops = elim s.sign [
  | inl p ↦ (cc, p.1)
  | inr p ↦ absurd (let t : Stops (λ c. nat_eq c 45) (45 ∷ other) = subst (Stops (λ c. nat_eq c 45)) p.0 u.1 in cc)
]

-- ---- words for ratios

-- the numbers of a word, if the text is one
abbrev word_num : List ℕ → ℕ
word_num text = cond (nat_eq (get_or text 0 0) 112) 25 (cond (nat_eq (get_or text 0 0) 102) 24 (cond (nat_eq (length text) 4) 30000 24000))

abbrev word_den : List ℕ → ℕ
word_den text = cond (nat_eq (get_or text 0 0) 110) 1001 1

word_is : {text : List ℕ} {num den : ℕ} → IsRateWord text num den → (num ≡ word_num text) × (den ≡ word_den text)
word_is IsRateWord.ntsc = (refl, refl)
word_is IsRateWord.pal = (refl, refl)
word_is IsRateWord.film = (refl, refl)
word_is IsRateWord.ntsc_film = (refl, refl)

pub no_word : {text : List ℕ} {num den : ℕ} → ¬ (text ≡ codes "ntsc") → ¬ (text ≡ codes "pal") → ¬ (text ≡ codes "film") → ¬ (text ≡ codes "ntsc_film") → IsRateWord text num den → ⊥
no_word a b c d IsRateWord.ntsc = a refl
no_word a b c d IsRateWord.pal = b refl
no_word a b c d IsRateWord.film = c refl
no_word a b c d IsRateWord.ntsc_film = d refl

-- whether a number may begin so: with a digit or a point
abbrev begins_number : List ℕ → Bool
begins_number [] = false
begins_number (c ∷ cs) = is_digit c || nat_eq c 46

word_begins : {text : List ℕ} {num den : ℕ} → IsRateWord text num den → begins_number text ≡ false
word_begins IsRateWord.ntsc = refl
word_begins IsRateWord.pal = refl
word_begins IsRateWord.film = refl
word_begins IsRateWord.ntsc_film = refl

digits_begin : (ds rest : List ℕ) → AllDigits 10 ds → 1 ≤ length ds → begins_number (ds ++ rest) ≡ true
digits_begin [] rest all some = absurd (omega arith)
digits_begin (c ∷ ds) rest all some = rw (lt-ltb (digit_value c) 10 all.0) refl

point_begins : (ds rest : List ℕ) → AllDigits 10 ds → begins_number (ds ++ 46 ∷ rest) ≡ true
point_begins [] rest all = refl
point_begins (c ∷ ds) rest all = digits_begin (c ∷ ds) (46 ∷ rest) all (omega arith)

-- what a word says
pub word_only : {text : List ℕ} {n d num den : ℕ} → IsRateWord text n d → Spells text num den → (num ≡ n) × (den ≡ d)
word_only {text} {n} {d} {num} {den} word (Spells.Whole number one) =
    let a = word_begins word in
    let b : begins_number text ≡ true = rw (← append-nil text) (digits_begin text [] number.digits number.enough) in
    cc
word_only word (Spells.Parts above below mark e m num den some) =
    let a = word_begins word in
    let b = rw (← e) at (digits_begin above (mark ∷ below) num.digits num.enough) in
    cc
word_only word (Spells.Decimal above below whole part e w p num den) =
    let a = word_begins word in
    let b = rw (← e) at (point_begins above below w.digits) in
    cc
word_only word (Spells.Word other) =
    let a = word_is word in
    let b = word_is other in
    (cc, cc)

-- ---- ratios

-- the digits and the text after them give the two numbers
pub parts_here : {text above tail : List ℕ} {num den : ℕ} → IsRun is_digit text above tail → (IsRateWord text num den → ⊥) → Spells text num den → AreParts above tail num den
parts_here {text} run none (Spells.Whole number one) =
    let same = digits_here run (sym (append-nil text)) number.digits tt in
    rw (← same.0, ← same.1) (number, one)
parts_here run none (Spells.Parts a b mark e m na nb some) =
    let same = digits_here run e na.digits (not_digit mark m) in
    rw (← same.0, ← same.1) (inl (m, record { is_num = na; is_den = nb; some = some }))
  where
    not_digit : (mark : ℕ) → (mark ≡ 47) ⊎ (mark ≡ 58) → is_digit mark ≡ false
    not_digit mark (inl e) = rw e refl
    not_digit mark (inr e) = rw e refl
parts_here run none (Spells.Decimal a b whole part e w p num_is den_is) =
    let same = digits_here run e w.digits refl in
    rw (← same.0, ← same.1) (inr (refl, record { whole = whole; part = part; is_whole = w; is_part = p; num_is = num_is; den_is = den_is }))
parts_here run none (Spells.Word word) = absurd (none word)

pub spelled_by : {text above : List ℕ} {num den : ℕ} (tail : List ℕ) → IsRun is_digit text above tail → AreParts above tail num den → Spells text num den
spelled_by {text} {above} [] run (number, one) =
    let all : text ≡ above = run.text_is ∙ append-nil above in
    Spells.Whole (rw all number) one
spelled_by {text} {above} (mark ∷ below) run (inl (m, q)) = Spells.Parts above below mark run.text_is m q.is_num q.is_den q.some
spelled_by {text} {above} (mark ∷ below) run (inr (m, d)) =
    let e : text ≡ above ++ 46 ∷ below = run.text_is ∙ ap (λ (c : ℕ). above ++ c ∷ below) m in
    Spells.Decimal above below d.whole d.part e d.is_whole d.is_part d.num_is d.den_is

pub some_below : {text : List ℕ} {num den : ℕ} → Spells text num den → 0 < den
some_below (Spells.Whole number one) = omega arith
some_below (Spells.Parts a b mark e m na nb some) = some
some_below (Spells.Decimal a b whole part e w p num_is den_is) = rw den_is (one-le-pow (length b) 10 (lit< tt))
some_below (Spells.Word IsRateWord.ntsc) = lit< tt
some_below (Spells.Word IsRateWord.pal) = lit< tt
some_below (Spells.Word IsRateWord.film) = lit< tt
some_below (Spells.Word IsRateWord.ntsc_film) = lit< tt

-- ---- lowest terms

pub reduced_only : {num den : ℕ} {r : Ratio} (o : Option Ratio) → 0 < den → IfSome o (IsReduced num den) → (IsNone o → (r : Ratio) → IsReduced num den r → ⊥)
    → IsReduced num den r → o ≡ Some r
reduced_only {r = r} None some found none h = absurd (none refl r h)
reduced_only (Some s) some found none h = ap Some (reduced_unique (omega arith) found h)
