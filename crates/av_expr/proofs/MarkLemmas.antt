-- Marks at places of a text.
use Rattle.std.proofs.Common.{◌≡◌, ◌<◌, ◌≤◌, ◌+◌, ◌==◌, ◌||◌, nat_lt, ℕ, Bool, true, false, if◌then◌else◌, List, [], ◌∷◌, Option, Some, None, drop, length, get_or, refl, sym, ◌∙◌, ap, subst, arith, inl, inr, ◌⊎◌}
use Rattle.std.specs.Str.{IsUtf8}
use Rattle.std.proofs.lemmas.Bool.{eqb-true, ltb-true}
use Rattle.std.proofs.lemmas.List.{drop_more, length-drop}
use Rattle.std.proofs.lemmas.Str.{IsCharBoundary-after_ascii}
use Rattle.av_text.specs.Classes.{is_name, Stops}
use Rattle.av_expr.specs.Parts.{NoOperator}
use Rattle.av_expr.specs.Grammar.{additive, multiplicative, opens, begins, NoAtom}
use Rattle.av_expr.specs.Reading.{StandsAt, IsOperatorAt, FailsAt}
use Rattle.av_expr.specs.declared.vars.VarSet.{VarSet}
use Rattle.av_expr.specs.declared.fault.ExprKind.TheVariants.{Syntax}
use Rattle.av_expr.specs.declared.fraction.Operator.{Operator}
use Rattle.av_expr.specs.declared.fraction.Operator.TheVariants.{Plus, Minus, Times, Over}
use Rattle.av_text.proofs.Places.{byte_at}
use Rattle.av_base.proofs.Lists.{cons_parts}

-- the byte at a place was read
pub record IsByteAt (text bytes : List ℕ) (place byte : ℕ) : Type 0 where
  pub same : bytes ≡ text
  pub within : true ≡ nat_lt place (length bytes)
  pub read : byte ≡ get_or bytes place byte
  pub utf8 : IsUtf8 text

pub begins_byte : {text bytes : List ℕ} {place byte : ℕ} → IsByteAt text bytes place byte → drop place text ≡ byte ∷ drop (place + 1) text
begins_byte {text} {bytes} {place} {byte} h = byte_at byte text bytes place byte h.same h.within h.read refl

pub stands_at : {text bytes : List ℕ} {place byte : ℕ} → IsByteAt text bytes place byte → byte < 128 → StandsAt byte text place
stands_at {text} {bytes} {place} {byte} h low =
    let inside : place < length bytes = ltb-true place (length bytes) (sym h.within) in
    let here : place < length text = omega (arith, ap length h.same) in
    let e = begins_byte h in
    let first = (cons_parts (sym (drop_more text place 0 here) ∙ e)).0 in
    (e, IsCharBoundary-after_ascii text place h.utf8 here (omega arith))

pub operator_at : (ops : ℕ → Option Operator) → ((c : ℕ) (op : Operator) → ops c ≡ Some op → c < 128) → {text bytes : List ℕ} {place byte : ℕ} → IsByteAt text bytes place byte
    → (r : Option Operator) → r ≡ ops byte → IsOperatorAt ops text place r
operator_at ops ascii {text} {bytes} {place} {byte} h None e = subst (NoOperator ops) (sym (begins_byte h)) (sym e)
operator_at ops ascii {text} {bytes} {place} {byte} h (Some op) e = (byte, sym e, stands_at h (ascii byte op (sym e)))

which_mark : (c m n : ℕ) (p q op : Operator) (s t : Bool) → (c == m) ≡ s → (c == n) ≡ t → (if s then Some p else (if t then Some q else None)) ≡ Some op → (c ≡ m) ⊎ (c ≡ n)
which_mark c m n p q op true t e f h = inl (eqb-true c m e)
which_mark c m n p q op false true e f h = inr (eqb-true c n f)
which_mark c m n p q op false false e f h = absurd (let no = h in cc)

pub additive_mark : (c : ℕ) (op : Operator) → additive c ≡ Some op → (c ≡ 43) ⊎ (c ≡ 45)
additive_mark c op h = which_mark c 43 45 Plus Minus op (c == 43) (c == 45) refl refl h

pub multiplicative_mark : (c : ℕ) (op : Operator) → multiplicative c ≡ Some op → (c ≡ 42) ⊎ (c ≡ 47)
multiplicative_mark c op h = which_mark c 42 47 Times Over op (c == 42) (c == 47) refl refl h

pub additive_ascii : (c : ℕ) (op : Operator) → additive c ≡ Some op → c < 128
additive_ascii c op h = elim (additive_mark c op h) [
  | inl e ↦ omega arith
  | inr e ↦ omega arith
]

pub multiplicative_ascii : (c : ℕ) (op : Operator) → multiplicative c ≡ Some op → c < 128
multiplicative_ascii c op h = elim (multiplicative_mark c op h) [
  | inl e ↦ omega arith
  | inr e ↦ omega arith
]

-- the first byte begins no number and no name, and no level
pub begins_none : (text : List ℕ) → Stops (λ c. is_name c || c == 46) text → Stops opens text → Stops begins text
begins_none [] p q = tt
begins_none (c ∷ text) p q = neither (is_name c) (c == 46) (opens c) p q where
  neither : (a b d : Bool) → (a || b) ≡ false → d ≡ false → (a || (b || d)) ≡ false
  neither true b d e f = e
  neither false true d e f = e
  neither false false d e f = f

pub nothing_begins : (allowed : VarSet) (text : List ℕ) (place : ℕ) → place ≤ length text → Stops (λ c. is_name c || c == 46) (drop place text) → Stops opens (drop place text)
    → FailsAt (NoAtom allowed) text place (record { at = place; kind = Syntax })
nothing_begins allowed text place within p q = let left = length-drop place text in (drop place text, inr (inr (refl, refl, begins_none (drop place text) p q)), omega arith)
