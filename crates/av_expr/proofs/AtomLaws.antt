-- Numbers and names have one reading at most, or one fault.
use Rattle.std.proofs.Common.{◌≡◌, ◌==◌, ◌||◌, ◌⊎◌, ◌<◌, ◌≤◌, ◌+◌, ◌*◌, ◌^◌, ◌++◌, ℕ, Bool, false, true, pos, List, [], ◌∷◌, length, refl, sym, ◌∙◌, ap, subst, inl, inr, arith, eq-eqb}
use Rattle.std.specs.Str.Parse.{digits_value}
use Rattle.av_text.specs.Classes.{is_digit, is_name, is_letter, Stops, IsRun}
use Rattle.av_text.proofs.Runs.{same_run}
use Rattle.av_expr.specs.Trees.{Tree, Number, Variable}
use Rattle.av_expr.specs.Fractions.{IsReduced}
use Rattle.av_text.specs.Parts.{Lacks}
use Rattle.av_expr.specs.Grammar.{IsNumber, IsNineteenth, NoDigits, NoNumber, IsName, IsVariable, NoVariable, IsAtom, NoAtom, opens, begins}
use Rattle.av_expr.specs.Reading.{BeginsNumber, BeginsName}
use Rattle.av_expr.specs.declared.vars.Var.{Var}
use Rattle.av_expr.specs.declared.vars.VarSet.{VarSet}
use Rattle.av_expr.specs.declared.fraction.Fraction.{Fraction}
use Rattle.av_expr.specs.declared.fault.ExprKind.{ExprKind}
use Rattle.av_expr.specs.declared.fault.ExprKind.TheVariants.{Syntax}
use Rattle.av_expr.proofs.FractionLemmas.{one_fraction}
use Rattle.av_text.proofs.Places.{skip_same}
use Rattle.av_text.proofs.PartLaws.{Lawful, one_or_other, wrapped}
use Rattle.av_expr.proofs.PartLaws.{some_same}
use Rattle.av_base.proofs.Lists.{cons_parts}

no_run : (p : ℕ → Bool) {text : List ℕ} → Stops p text → IsRun p text [] text
no_run p stops = record { text_is = refl; each = tt; whole = stops }

point_lacks : {text after : List ℕ} → text ≡ 46 ∷ after → Lacks 46 text → ⊥
point_lacks {text} {after} e h = let not_so : (46 == 46) ≡ false = subst (Lacks 46) e h in let is : (46 == 46) ≡ true = refl in cc

-- ---- numbers

same_value : (a b part other : List ℕ) (f g : Fraction) → a ≡ b → part ≡ other → IsReduced (pos (digits_value 10 a * 10 ^ length part + digits_value 10 part)) (pos (10 ^ length part)) f
    → IsReduced (pos (digits_value 10 b * 10 ^ length other + digits_value 10 other)) (pos (10 ^ length other)) g → f ≡ g
same_value a b part other f g e h p q = one_fraction _ _ f g (rw (e, h) at p) q

number_same : {text r s : List ℕ} {f g : Fraction} → IsNumber text f r → IsNumber text g s → (f ≡ g) × (r ≡ s)
number_same {text} {r} {s} {f} {g} (inl a) (inl b) =
    let run = same_run is_digit a.2 b.2 in
    let value : Fraction = record { num = pos 0; den = pos 1 } in
    (a.6 ∙ ap (λ (d : List ℕ). let f : Fraction = record { num = pos (digits_value 10 d); den = pos 1 } in f) run.0 ∙ sym b.6, skip_same (rw run.1 at a.7) b.7)
number_same (inl a) (inr b) = absurd (point_lacks (same_run is_digit a.2 b.4).1 a.5)
number_same (inr a) (inl b) = absurd (point_lacks (same_run is_digit b.2 a.4).1 b.5)
number_same {text} {r} {s} {f} {g} (inr a) (inr b) =
    let run = same_run is_digit a.4 b.4 in
    let after = (cons_parts run.1).1 in
    let part = same_run is_digit (rw after at a.6) b.6 in
    (same_value a.0 b.0 a.1 b.1 f g run.0 part.0 a.9 b.9, skip_same (rw part.1 at a.10) b.10)

nineteenth_same : {text r s : List ℕ} {k l : ExprKind} → IsNineteenth text k r → IsNineteenth text l s → (k ≡ l) × (r ≡ s)
nineteenth_same a b = (a.4 ∙ sym b.4, a.5 ∙ sym b.5)

-- the run of digits is either short or long
short_or_long : {text digits behind other rest : List ℕ} → IsRun is_digit text digits behind → 18 < length digits → IsRun is_digit text other rest → length other ≤ 18 → ⊥
short_or_long {text} {digits} {behind} {other} {rest} a many b few = let e = ap length (same_run is_digit a b).0 in omega arith

digits_fault : {text r s : List ℕ} {k l : ExprKind} → NoDigits text k r → NoDigits text l s → (k ≡ l) × (r ≡ s)
digits_fault (inl a) (inl b) = (a.1 ∙ sym b.1, a.2 ∙ sym b.2)
digits_fault {text} (inl a) (inr b) = absurd (short_or_long b.2 b.3 (no_run is_digit a.0) (omega arith))
digits_fault {text} (inr a) (inl b) = absurd (short_or_long a.2 a.3 (no_run is_digit b.0) (omega arith))
digits_fault (inr a) (inr b) = nineteenth_same a b

number_fault : {text r s : List ℕ} {k l : ExprKind} → NoNumber text k r → NoNumber text l s → (k ≡ l) × (r ≡ s)
number_fault (inl a) (inl b) = nineteenth_same a b
number_fault (inl a) (inr b) = absurd (short_or_long a.2 a.3 b.2 b.3)
number_fault (inr a) (inl b) = absurd (short_or_long b.2 b.3 a.2 a.3)
number_fault {r = r} {k = k} (inr a) (inr b) =
    let after = (cons_parts (same_run is_digit a.2 b.2).1).1 in
    digits_fault (subst (λ (t : List ℕ). NoDigits t k r) after a.4) b.4

number_apart : {text r s : List ℕ} {f : Fraction} {k : ExprKind} → IsNumber text f r → NoNumber text k s → ⊥
number_apart (inl a) (inl b) = short_or_long b.2 b.3 a.2 a.4
number_apart (inl a) (inr b) = point_lacks (same_run is_digit a.2 b.2).1 a.5
number_apart (inr a) (inl b) = short_or_long b.2 b.3 a.4 a.5
number_apart {s = s} {k = k} (inr a) (inr b) =
    let after = (cons_parts (same_run is_digit a.4 b.2).1).1 in
    part_apart (rw after at a.6) a.7 a.8 b.4
  where
    part_apart : {text part behind s : List ℕ} {k : ExprKind} → IsRun is_digit text part behind → 0 < length part → length part ≤ 18 → NoDigits text k s → ⊥
    part_apart {text} {part} {behind} {s} {k} run some few (inl h) = let e = ap length (same_run is_digit run (no_run is_digit h.0)).0 in omega arith
    part_apart {text} {part} {behind} {s} {k} run some few (inr h) = short_or_long h.2 h.3 run few

pub number_law : Lawful IsNumber NoNumber
number_law = record { same = number_same; fault = number_fault; apart = number_apart }

-- ---- names

variable_same : (allowed : VarSet) {text r s : List ℕ} {x y : Var} → IsVariable allowed text x r → IsVariable allowed text y s → (x ≡ y) × (r ≡ s)
variable_same allowed {text} {r} {s} {x} {y} a b =
    let run = same_run is_name a.2.0 b.2.0 in
    let named = rw run.0 at a.3.0 in
    (some_same (sym named ∙ b.3.0), skip_same (rw run.1 at a.4) b.4)

variable_fault : (allowed : VarSet) {text r s : List ℕ} {k l : ExprKind} → NoVariable allowed text k r → NoVariable allowed text l s → (k ≡ l) × (r ≡ s)
variable_fault allowed a b = (a.0 ∙ sym b.0, a.1 ∙ sym b.1)

variable_apart : (allowed : VarSet) {text r s : List ℕ} {x : Var} {k : ExprKind} → IsVariable allowed text x r → NoVariable allowed text k s → ⊥
variable_apart allowed {text} {r} {s} {x} {k} a b = let run = same_run is_name a.2.0 b.4.0 in b.5 x (rw run.0 at a.3)

pub variable_law : (allowed : VarSet) → Lawful (IsVariable allowed) (NoVariable allowed)
variable_law allowed = record { same = variable_same allowed; fault = variable_fault allowed; apart = variable_apart allowed }

-- ---- how they begin

first_of_run : (p : ℕ → Bool) {text front rest : List ℕ} → IsRun p text front rest → 0 < length front → (c : ℕ) × (behind : List ℕ) × (text ≡ c ∷ behind) × (p c ≡ true)
first_of_run p {text} {front} {rest} run some = by front run some where
  by : (front : List ℕ) → IsRun p text front rest → 0 < length front → (c : ℕ) × (behind : List ℕ) × (text ≡ c ∷ behind) × (p c ≡ true)
  by [] run some = absurd (omega arith)
  by (c ∷ front) run some = (c, front ++ rest, run.text_is, run.each.0)

pub begins_digits : {text digits after : List ℕ} → IsRun is_digit text digits (46 ∷ after) → BeginsNumber text
begins_digits {text} {digits} {after} run = by digits run where
  by : (digits : List ℕ) → IsRun is_digit text digits (46 ∷ after) → BeginsNumber text
  by [] run = (46, after, run.text_is, inr refl)
  by (c ∷ digits) run = (c, digits ++ 46 ∷ after, run.text_is, inl run.each.0)

some_digits_begin : {text digits behind : List ℕ} → IsRun is_digit text digits behind → 0 < length digits → BeginsNumber text
some_digits_begin {text} {digits} {behind} run some = let f = first_of_run is_digit run some in (f.0, f.1, f.2, inl f.3)

pub number_begins : {text r : List ℕ} {f : Fraction} → IsNumber text f r → BeginsNumber text
number_begins (inl a) = some_digits_begin a.2 a.3
number_begins (inr a) = begins_digits a.4

pub no_number_begins : {text r : List ℕ} {k : ExprKind} → NoNumber text k r → BeginsNumber text
no_number_begins (inl a) = some_digits_begin a.2 (let many = a.3 in omega arith)
no_number_begins (inr a) = begins_digits a.2

pub name_begins : {text name behind : List ℕ} → IsName text name behind → BeginsName text
name_begins {text} {name} {behind} h =
    let f = first_of_run is_name h.0 h.1 in
    (f.0, f.1, f.2, f.3, subst (Stops is_digit) f.2 h.2)

pub digit_names : (c : ℕ) → is_digit c ≡ true → is_name c ≡ true
digit_names c e = by (is_letter c) (is_digit c) (c == 95) e where
  by : (a b d : Bool) → b ≡ true → (a || (b || d)) ≡ true
  by true b d e = refl
  by false true d e = refl
  by false false d e = absurd (let not_so = e in cc)

pub number_or_name : (text : List ℕ) → BeginsNumber text → BeginsName text → ⊥
number_or_name text a b = elim a.3 [
  | inl digit ↦ (let e = (cons_parts (sym a.2 ∙ b.2)).0 in let is : is_digit b.0 ≡ true = subst (λ (c : ℕ). is_digit c ≡ true) e digit in let not_so = b.4 in cc)
  | inr point ↦ (let e = sym (cons_parts (sym a.2 ∙ b.2)).0 ∙ point in let is : is_name 46 ≡ true = subst (λ (c : ℕ). is_name c ≡ true) e b.3 in let not_so : is_name 46 ≡ false = refl in cc)
]

-- ---- atoms

-- no number and no name begins
abbrev NoBeginning : List ℕ → ExprKind → List ℕ → Type 0
NoBeginning text kind bad = (kind ≡ Syntax) × (bad ≡ text) × Stops begins text

pub begins_number : (c : ℕ) → (is_digit c ≡ true) ⊎ (c ≡ 46) → begins c ≡ true
begins_number c (inl digit) = named (is_name c) (c == 46) (opens c) (digit_names c digit) where
  named : (a b d : Bool) → a ≡ true → (a || (b || d)) ≡ true
  named true b d e = refl
  named false b d e = absurd (let not_so = e in cc)
begins_number c (inr point) = marked (is_name c) (c == 46) (opens c) (eq-eqb c 46 point) where
  marked : (a b d : Bool) → b ≡ true → (a || (b || d)) ≡ true
  marked true b d e = refl
  marked false true d e = refl
  marked false false d e = absurd (let not_so = e in cc)

pub begins_name : (c : ℕ) → is_name c ≡ true → begins c ≡ true
begins_name c e = by (is_name c) (c == 46) (opens c) e where
  by : (a b d : Bool) → a ≡ true → (a || (b || d)) ≡ true
  by true b d e = refl
  by false b d e = absurd (let not_so = e in cc)

number_begun : {text : List ℕ} → BeginsNumber text → Stops begins text → ⊥
number_begun {text} h stops = let is = begins_number h.0 h.3 in let not_so : begins h.0 ≡ false = subst (Stops begins) h.2 stops in cc

name_begun : {text : List ℕ} → BeginsName text → Stops begins text → ⊥
name_begun {text} h stops = let is = begins_name h.0 h.3 in let not_so : begins h.0 ≡ false = subst (Stops begins) h.2 stops in cc

-- a name that is read or wrong, or nothing
name_law : (allowed : VarSet) → Lawful (λ text t r. (x : Var) × (t ≡ Variable x) × IsVariable allowed text x r) (λ text k r. NoVariable allowed text k r ⊎ NoBeginning text k r)
name_law allowed = record { same = law.same; fault = fault; apart = apart } where
  law : Lawful (λ text t r. (x : Var) × (t ≡ Variable x) × IsVariable allowed text x r) (NoVariable allowed)
  law = wrapped Variable (variable_law allowed)

  fault : {text r s : List ℕ} {k l : ExprKind} → NoVariable allowed text k r ⊎ NoBeginning text k r → NoVariable allowed text l s ⊎ NoBeginning text l s → (k ≡ l) × (r ≡ s)
  fault (inl a) (inl b) = law.fault a b
  fault (inl a) (inr b) = absurd (name_begun (name_begins a.4) b.2)
  fault (inr a) (inl b) = absurd (name_begun (name_begins b.4) a.2)
  fault (inr a) (inr b) = (a.0 ∙ sym b.0, a.1 ∙ sym b.1)

  apart : {text r s : List ℕ} {x : Tree} {k : ExprKind} → ((v : Var) × (x ≡ Variable v) × IsVariable allowed text v r) → NoVariable allowed text k s ⊎ NoBeginning text k s → ⊥
  apart a (inl b) = law.apart a b
  apart a (inr b) = name_begun (name_begins a.2.2) b.2

-- the text doesn't begin with a number
abbrev NotNumber : List ℕ → Type 0
NotNumber text = ¬ BeginsNumber text

pub atom_law : (allowed : VarSet) → Lawful (IsAtom allowed) (NoAtom allowed)
atom_law allowed = one_or_other BeginsNumber NotNumber (wrapped Number number_law) (name_law allowed)
    (λ text r x h. number_begins h.2)
    (λ text r k h. no_number_begins h)
    (λ text r x h b. number_or_name text b (name_begins h.2.2))
    no_name
    (λ text a b. b a)
  where
    no_name : (text r : List ℕ) (k : ExprKind) → NoVariable allowed text k r ⊎ NoBeginning text k r → ¬ BeginsNumber text
    no_name text r k (inl h) b = number_or_name text b (name_begins h.4)
    no_name text r k (inr h) b = number_begun b h.2
