-- Runs of characters of a class.
use Rattle.std.proofs.Common.{◌≡◌, ◌<◌, ◌≤◌, ◌+◌, ℕ, zero, suc, Bool, true, false, ◌||◌, ◌==◌, List, [], ◌∷◌, ◌++◌, take, drop, length, get_or, refl, sym, ◌∙◌, subst, arith, inl, inr}
use Rattle.std.specs.List.{AllByRecursion}
use Rattle.std.specs.Str.{IsUtf8, IsCharBoundary}
use Rattle.std.proofs.lemmas.List.{take_more, drop_more, take-append-drop}
use Rattle.std.proofs.lemmas.Bool.{or_cases, and_parts, leb-true, eqb-true, ltb-true}
use Rattle.std.proofs.lemmas.Str.{IsCharBoundary-start, IsCharBoundary-after_ascii}
use Rattle.av_text.specs.declared.classes.Class.{Class}
use Rattle.av_text.specs.declared.classes.Class.TheVariants.{White, Digit, Name, Label}
use Rattle.av_text.specs.Classes.{has, is_white, is_digit, is_letter, is_name, Stops, IsRun}

-- ---- facts that hold of each

pub all_append : {X : Type 0} (P : X → Type 0) (xs ys : List X) → AllByRecursion P xs → AllByRecursion P ys → AllByRecursion P (xs ++ ys)
all_append P [] ys a b = b
all_append P (x ∷ xs) ys a b = (a.0, all_append P xs ys a.1 b)

pub all_left : {X : Type 0} (P : X → Type 0) (xs ys : List X) → AllByRecursion P (xs ++ ys) → AllByRecursion P xs
all_left P [] ys a = tt
all_left P (x ∷ xs) ys a = (a.0, all_left P xs ys a.1)

-- ---- the run at the front of a text

pub run_more : (p : ℕ → Bool) (text : List ℕ) (i : ℕ) → i < length text → AllByRecursion (λ c. p c ≡ true) (take i text) → p (get_or text i 0) ≡ true → AllByRecursion (λ c. p c ≡ true) (take (i + 1) text)
run_more p text i h a e =
    let P : List ℕ → Type 0 = λ xs. AllByRecursion (λ (c : ℕ). p c ≡ true) xs in
    subst P (sym (take_more text i 0 h)) (all_append (λ (c : ℕ). p c ≡ true) (take i text) (get_or text i 0 ∷ []) a (e, tt))

pub run_stops : (p : ℕ → Bool) (text : List ℕ) (i : ℕ) → i < length text → AllByRecursion (λ c. p c ≡ true) (take i text) → p (get_or text i 0) ≡ false → IsRun p text (take i text) (drop i text)
run_stops p text i h a e = record {
  text_is = sym (take-append-drop i text);
  each = a;
  whole = subst (Stops p) (sym (drop_more text i 0 h)) e;
}

-- a text splits into a run and what is left in one way
pub run_unique : (p : ℕ → Bool) (xs ys r s : List ℕ) → AllByRecursion (λ c. p c ≡ true) xs → AllByRecursion (λ c. p c ≡ true) ys → Stops p r → Stops p s → xs ++ r ≡ ys ++ s → (xs ≡ ys) × (r ≡ s)
run_unique p [] [] r s a b u v e = (refl, e)
run_unique p [] (y ∷ ys) r s a b u v e =
    let no : p y ≡ false = subst (Stops p) e u in
    let yes = b.0 in cc
run_unique p (x ∷ xs) [] r s a b u v e =
    let no : p x ≡ false = subst (Stops p) (sym e) v in
    let yes = a.0 in cc
run_unique p (x ∷ xs) (y ∷ ys) r s a b u v e =
    let t = run_unique p xs ys r s a.1 b.1 u v cc in
    (let h = t.0 in cc, t.1)

pub same_run : (p : ℕ → Bool) {text xs ys r s : List ℕ} → IsRun p text xs r → IsRun p text ys s → (xs ≡ ys) × (r ≡ s)
same_run p {text} {xs} {ys} {r} {s} a b = run_unique p xs ys r s a.each b.each a.whole b.whole (sym a.text_is ∙ b.text_is)

-- ---- the classes are of ASCII

letter_ascii : (c : ℕ) → is_letter c ≡ true → c < 128
letter_ascii c e = grind (arith, or_cases, and_parts, leb-true)

-- the value of a character that is no digit is above all digits
digit_ascii : (c : ℕ) → is_digit c ≡ true → c < 128
digit_ascii c e = grind (arith, ltb-true)

pub white_ascii : (c : ℕ) → is_white c ≡ true → c < 128
white_ascii c e = grind (arith, eqb-true, or_cases)

name_ascii : (c : ℕ) → is_name c ≡ true → c < 128
name_ascii c e = elim (or_cases (is_letter c) (is_digit c || c == 95) e) [
  | inl l ↦ letter_ascii c l
  | inr o ↦ elim (or_cases (is_digit c) (c == 95) o) [ inl d ↦ digit_ascii c d | inr u ↦ grind (arith, eqb-true) ]
]

pub class_ascii : (class : Class) (c : ℕ) → has class c ≡ true → c < 128
class_ascii White c e = white_ascii c e
class_ascii Digit c e = digit_ascii c e
class_ascii Name c e = name_ascii c e
class_ascii Label c e = elim (or_cases (is_name c) (c == 58) e) [ inl n ↦ name_ascii c n | inr o ↦ grind (arith, eqb-true) ]

-- the last of a run
run_last : (class : Class) (text : List ℕ) (i : ℕ) → suc i ≤ length text → AllByRecursion (λ c. has class c ≡ true) (take (suc i) text) → has class (get_or text i 0) ≡ true
run_last class [] i h a = absurd (omega arith)
run_last class (x ∷ xs) zero h a = a.0
run_last class (x ∷ xs) (suc i) h a = run_last class xs i (omega arith) a.1

-- a text may be cut after a run
pub run_boundary : (class : Class) (text : List ℕ) (i : ℕ) → IsUtf8 text → i ≤ length text → AllByRecursion (λ c. has class c ≡ true) (take i text) → IsCharBoundary text i
run_boundary class text zero u h a = IsCharBoundary-start text u
run_boundary class text (suc i) u h a =
    let P : ℕ → Type 0 = λ n. IsCharBoundary text n in
    let next : i + 1 ≡ suc i = omega arith in
    subst P next (IsCharBoundary-after_ascii text i u (omega arith) (class_ascii class (get_or text i 0) (run_last class text i h a)))
