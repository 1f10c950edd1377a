-- Every text has a reading or a fault.
use Rattle.std.proofs.Common.{◌≡◌, ◌≢◌, ◌==◌, ◌||◌, ◌⊎◌, ◌<◌, ◌≤◌, ◌+◌, ◌*◌, ◌^◌, ℕ, zero, suc, Bool, true, false, pos, List, [], ◌∷◌, Option, Some, None, length, drop, refl, sym, ◌∙◌, ap, subst, arith, inl, inr, eqb-true}
use Rattle.std.specs.Prelude.{bit_and}
use Rattle.std.specs.Str.Parse.{digits_value}
use Rattle.std.proofs.Math.Nat.{one-le-pow}
use Rattle.std.proofs.lemmas.Bool.{cases_lt, cases_eq}
use Rattle.std.proofs.lemmas.Int.{ints}
use Rattle.std.proofs.lemmas.List.{length-append}
use Rattle.av_text.specs.Classes.{is_digit, is_name, Stops, IsRun}
use Rattle.av_text.proofs.TotalLemmas.{span, skip_of, skip_length, begins_or}
use Rattle.av_expr.specs.Vars.{order, variable_named}
use Rattle.av_expr.specs.Trees.{Tree, Number, Variable, Negation}
use Rattle.av_text.specs.Parts.{Skips}
use Rattle.av_expr.specs.Parts.{IsMark, IsOperator, NoOperator, AreLinks, NoLinks, grouped, IsChain, NoChain}
use Rattle.av_expr.specs.Grammar.{IsNumber, NoNumber, IsAllowed, IsVariable, NoVariable, IsAtom, NoAtom, opens, additive, multiplicative, IsSum, NoSum, IsProduct, NoProduct, IsUnary, NoUnary}
use Rattle.av_expr.specs.Exprs.{IsExpr, IsExprFault}
use Rattle.av_expr.specs.Reading.{BeginsNumber, BeginsName}
use Rattle.av_expr.specs.declared.vars.Var.{Var}
use Rattle.av_expr.specs.declared.vars.VarSet.{VarSet}
use Rattle.av_expr.specs.declared.fraction.Fraction.{Fraction}
use Rattle.av_expr.specs.declared.fraction.Operator.{Operator}
use Rattle.av_expr.specs.declared.fault.ExprKind.{ExprKind}
use Rattle.av_expr.specs.declared.fault.ExprKind.TheVariants.{Syntax, UnknownName, TooDeep}
use Rattle.av_expr.proofs.AtomLemmas.{some_run, some_digits, name_stops}
use Rattle.av_expr.proofs.MarkLemmas.{begins_none}
use Rattle.av_expr.proofs.PartLaws.{some_same}
use Rattle.av_expr.proofs.ValueLaws.{reduced_some}
use Rattle.av_expr.proofs.GrammarLaws.{opens_which}

-- such a part begins the text, and what follows isn't longer; or there is a fault
abbrev Found : {X : Type 0} → (List ℕ → X → List ℕ → Type 0) → (List ℕ → ExprKind → List ℕ → Type 0) → List ℕ → Type 0
Found {X} P F text = ((x : X) × (rest : List ℕ) × P text x rest × (length rest ≤ length text)) ⊎ ((k : ExprKind) × (bad : List ℕ) × F text k bad)

run_length : {p : ℕ → Bool} {text front rest : List ℕ} → IsRun p text front rest → length rest ≤ length text
run_length {p} {text} {front} {rest} run = omega (arith, ap length run.text_is, length-append front rest)

mark_length : {m : ℕ} {text rest : List ℕ} → IsMark m text rest → length rest < length text
mark_length {m} {text} {rest} h = let short = skip_length h.2 in omega (arith, ap length h.1)

-- what a mark begins
mark_of : (m : ℕ) (behind : List ℕ) → (rest : List ℕ) × IsMark m (m ∷ behind) rest
mark_of m behind = let s = skip_of behind in (s.0, (behind, refl, s.1))

-- ---- numbers

power_some : (k : ℕ) → pos (10 ^ k) ≢ pos 0
power_some k e = let some = one-le-pow k 10 (omega arith) in omega (arith, ints)

part_total : (text front after : List ℕ) → IsRun is_digit text front (46 ∷ after) → length front ≤ 18 → Found IsNumber NoNumber text
part_total text front after run few = by part.0 part.1 part.2 where
  part : (digits rest : List ℕ) × IsRun is_digit after digits rest
  part = span is_digit after

  long : length after ≤ length text
  long = let h = run_length run in omega arith

  short : (digits rest : List ℕ) → IsRun is_digit after digits rest → 0 < length digits → length digits ≤ 18 → Found IsNumber NoNumber text
  short digits rest r some enough =
      let f = reduced_some (pos (digits_value 10 front * 10 ^ length digits + digits_value 10 digits)) (pos (10 ^ length digits)) (power_some (length digits)) in
      let s = skip_of rest in
      inl (f.0, s.0, inr (front, digits, after, rest, run, few, r, some, enough, f.1, s.1), (let a = skip_length s.1 in let b = run_length r in let d = long in omega arith))

  by : (digits rest : List ℕ) → IsRun is_digit after digits rest → Found IsNumber NoNumber text
  by [] rest r = inr (Syntax, after, inr (front, after, run, few, inl (subst (Stops is_digit) (sym r.text_is) r.whole, refl, refl)))
  by (c ∷ digits) rest r = elim (cases_lt 18 (length (c ∷ digits))) [
    | inl many ↦ inr (Syntax, drop 18 after, inr (front, after, run, few, inr (c ∷ digits, rest, r, many, refl, refl)))
    | inr enough ↦ short (c ∷ digits) rest r (omega arith) enough
  ]

digits_total : (text front rest : List ℕ) → BeginsNumber text → IsRun is_digit text front rest → length front ≤ 18 → Found IsNumber NoNumber text
digits_total text front rest b run few = elim (begins_or 46 rest) [
  | inl point ↦ part_total text front point.0 (subst (IsRun is_digit text front) point.1 run) few
  | inr lacks ↦ (let s = skip_of rest in let f : Fraction = record { num = pos (digits_value 10 front); den = pos 1 } in
      inl (f, s.0, inl (front, rest, run, some_digits b run lacks, few, lacks, refl, s.1), (let a = skip_length s.1 in let c = run_length run in omega arith)))
]

number_total : (text : List ℕ) → BeginsNumber text → Found IsNumber NoNumber text
number_total text b = let r = span is_digit text in elim (cases_lt 18 (length r.0)) [
  | inl many ↦ inr (Syntax, drop 18 text, inl (r.0, r.1, r.2, many, refl, refl))
  | inr few ↦ digits_total text r.0 r.1 b r.2 few
]

-- ---- names

allowed_or : (allowed : VarSet) (name : List ℕ) → ((x : Var) × IsAllowed allowed name x) ⊎ ((x : Var) → ¬ IsAllowed allowed name x)
allowed_or allowed name = by (variable_named name) refl where
  by : (o : Option Var) → variable_named name ≡ o → ((x : Var) × IsAllowed allowed name x) ⊎ ((x : Var) → ¬ IsAllowed allowed name x)
  by None e = inr (λ x h. let a = h.0 in cc)
  by (Some y) e = elim (cases_eq (bit_and allowed.bits (2 ^ order y)) 0) [
    | inl without ↦ inr (λ x h. h.1 (subst (λ (z : Var). bit_and allowed.bits (2 ^ order z) ≡ 0) (some_same (sym e ∙ h.0)) without))
    | inr has ↦ inl (y, (e, has))
  ]

name_total : (allowed : VarSet) (text : List ℕ) → BeginsName text → Found (IsVariable allowed) (NoVariable allowed) text
name_total allowed text b =
    let r = span is_name text in
    let some = some_run is_name text r.0 r.1 b.1 b.0 r.2 b.2 b.3 in
    elim (allowed_or allowed r.0) [
      | inl x ↦ (let s = skip_of r.1 in inl (x.0, s.0, (r.0, r.1, (r.2, some, name_stops b), x.1, s.1), (let c = skip_length s.1 in let d = run_length r.2 in omega arith)))
      | inr none ↦ inr (UnknownName, text, (refl, refl, r.0, r.1, (r.2, some, name_stops b), none))
    ]

-- ---- atoms

number_atom : (allowed : VarSet) (text : List ℕ) → Found IsNumber NoNumber text → Found (IsAtom allowed) (NoAtom allowed) text
number_atom allowed text (inl h) = inl (Number h.0, h.1, inl (h.0, refl, h.2), h.3)
number_atom allowed text (inr h) = inr (h.0, h.1, inl h.2)

name_atom : (allowed : VarSet) (text : List ℕ) → Found (IsVariable allowed) (NoVariable allowed) text → Found (IsAtom allowed) (NoAtom allowed) text
name_atom allowed text (inl h) = inl (Variable h.0, h.1, inr (h.0, refl, h.2), h.3)
name_atom allowed text (inr h) = inr (h.0, h.1, inr (inl h.2))

atom_total : (allowed : VarSet) (text : List ℕ) → Stops opens text → Found (IsAtom allowed) (NoAtom allowed) text
atom_total allowed [] stops = inr (Syntax, [], inr (inr (refl, refl, tt)))
atom_total allowed (c ∷ behind) stops = digit (is_digit c) refl where
  neither : (a b : Bool) → a ≡ false → b ≡ false → (a || b) ≡ false
  neither true b e f = e
  neither false b e f = f

  name : (a b : Bool) → is_name c ≡ a → (c == 46) ≡ b → is_digit c ≡ false → Found (IsAtom allowed) (NoAtom allowed) (c ∷ behind)
  name a true e f d = number_atom allowed (c ∷ behind) (number_total (c ∷ behind) (c, behind, refl, inr (eqb-true c 46 f)))
  name true false e f d = name_atom allowed (c ∷ behind) (name_total allowed (c ∷ behind) (c, behind, refl, e, d))
  name false false e f d = inr (Syntax, c ∷ behind, inr (inr (refl, refl, begins_none (c ∷ behind) (neither (is_name c) (c == 46) e f) stops)))

  digit : (d : Bool) → is_digit c ≡ d → Found (IsAtom allowed) (NoAtom allowed) (c ∷ behind)
  digit true e = number_atom allowed (c ∷ behind) (number_total (c ∷ behind) (c, behind, refl, inl e))
  digit false e = name (is_name c) (c == 46) refl refl e

-- ---- rows of operands

operator_or : (ops : ℕ → Option Operator) (text : List ℕ) → ((op : Operator) × (operand : List ℕ) × IsOperator ops text op operand × (length operand < length text)) ⊎ NoOperator ops text
operator_or ops [] = inr tt
operator_or ops (c ∷ behind) = by (ops c) refl where
  by : (o : Option Operator) → ops c ≡ o → ((op : Operator) × (operand : List ℕ) × IsOperator ops (c ∷ behind) op operand × (length operand < length (c ∷ behind))) ⊎ NoOperator ops (c ∷ behind)
  by None e = inr e
  by (Some op) e = let m = mark_of c behind in inl (op, m.0, (c, e, m.1), mark_length m.1)

module _ (ops : ℕ → Option Operator) (P : List ℕ → Tree → List ℕ → Type 0) (F : List ℕ → ExprKind → List ℕ → Type 0) (total : (text : List ℕ) → Found P F text) where
  abbrev LinksFound : List ℕ → Type 0
  LinksFound text = ((links : List (Operator × Tree)) × (rest : List ℕ) × AreLinks ops P text links rest × (length rest ≤ length text)) ⊎ ((k : ExprKind) × (bad : List ℕ) × NoLinks ops P F text k bad)

  links_next : (n : ℕ) (text : List ℕ) → length text ≤ suc n → ((t : List ℕ) → length t ≤ n → LinksFound t) → LinksFound text
  links_next n text fits again = elim (operator_or ops text) [
    | inr none ↦ inl ([], text, (refl, none), omega arith)
    | inl o ↦ elim (total o.1) [
      | inr bad ↦ inr (bad.0, bad.1, ([], (o.0, o.1, o.2, bad.2)))
      | inl t ↦ (let a = o.3 in let b = t.3 in elim (again t.1 (omega arith)) [
        | inl others ↦ inl ((o.0, t.0) ∷ others.0, others.1, (o.1, t.1, o.2, t.2, others.2), (let c = others.3 in omega arith))
        | inr bad ↦ inr (bad.0, bad.1, ((o.0, t.0) ∷ bad.2.0, (o.1, t.1, o.2, t.2, bad.2.1)))
      ])
    ]
  ]

  links_within : (n : ℕ) (text : List ℕ) → length text ≤ n → LinksFound text
  links_within zero text fits = links_next zero text (omega arith) (λ t short. empty t short) where
    empty : (t : List ℕ) → length t ≤ zero → LinksFound t
    empty [] short = inl ([], [], (refl, tt), omega arith)
    empty (c ∷ t) short = absurd (omega arith)
  links_within (suc n) text fits = links_next n text fits (λ t short. links_within n t short)

  chain_found : (text : List ℕ) → Found (IsChain ops P) (NoChain ops P F) text
  chain_found text = elim (total text) [
    | inr bad ↦ inr (bad.0, bad.1, inl bad.2)
    | inl first ↦ elim (links_within (length first.1) first.1 (omega arith)) [
      | inl links ↦ inl (grouped first.0 links.0, links.1, (first.0, links.0, first.1, first.2, links.2, refl), (let a = first.3 in let b = links.3 in omega arith))
      | inr bad ↦ inr (bad.0, bad.1, inr (first.0, first.1, first.2, bad.2))
    ]
  ]

sum_total : (P : List ℕ → Tree → List ℕ → Type 0) (F : List ℕ → ExprKind → List ℕ → Type 0) → ((text : List ℕ) → Found P F text) → (text : List ℕ) → Found (IsSum P) (NoSum P F) text
sum_total P F total = chain_found additive (IsProduct P) (NoProduct P F) (chain_found multiplicative P F total)

-- ---- operands

opens_or : (text : List ℕ) → ((c : ℕ) × (behind : List ℕ) × (text ≡ c ∷ behind) × (opens c ≡ true)) ⊎ Stops opens text
opens_or [] = inr tt
opens_or (c ∷ behind) = by (opens c) refl where
  by : (t : Bool) → opens c ≡ t → ((x : ℕ) × (rest : List ℕ) × (c ∷ behind ≡ x ∷ rest) × (opens x ≡ true)) ⊎ Stops opens (c ∷ behind)
  by true e = inl (c, behind, refl, e)
  by false e = inr e

unary_base : (allowed : VarSet) (text : List ℕ) → Found (IsUnary allowed zero) (NoUnary allowed zero) text
unfolding IsUnary NoUnary
unary_base allowed text = elim (opens_or text) [
  | inl level ↦ inr (TooDeep, text, inr (refl, refl, level.0, level.1, level.2, level.3))
  | inr stops ↦ elim (atom_total allowed text stops) [
    | inl atom ↦ inl atom
    | inr bad ↦ inr (bad.0, bad.1, inl bad.2)
  ]
]

plus_total : (allowed : VarSet) (n : ℕ) → ((t : List ℕ) → Found (IsUnary allowed n) (NoUnary allowed n) t) → (text inside : List ℕ) → IsMark 43 text inside → Found (IsUnary allowed (suc n)) (NoUnary allowed (suc n)) text
unfolding IsUnary NoUnary
plus_total allowed n total text inside m = let less = mark_length m in elim (total inside) [
  | inl t ↦ inl (t.0, t.1, inr (inl (inside, inl (m, t.2))), (let a = t.3 in omega arith))
  | inr bad ↦ inr (bad.0, bad.1, inr (inl (inside, inl m, bad.2)))
]

minus_total : (allowed : VarSet) (n : ℕ) → ((t : List ℕ) → Found (IsUnary allowed n) (NoUnary allowed n) t) → (text inside : List ℕ) → IsMark 45 text inside → Found (IsUnary allowed (suc n)) (NoUnary allowed (suc n)) text
unfolding IsUnary NoUnary
minus_total allowed n total text inside m = let less = mark_length m in elim (total inside) [
  | inl t ↦ inl (Negation t.0, t.1, inr (inl (inside, inr (t.0, refl, m, t.2))), (let a = t.3 in omega arith))
  | inr bad ↦ inr (bad.0, bad.1, inr (inl (inside, inr m, bad.2)))
]

group_total : (allowed : VarSet) (n : ℕ) → ((t : List ℕ) → Found (IsUnary allowed n) (NoUnary allowed n) t) → (text inside : List ℕ) → IsMark 40 text inside → Found (IsUnary allowed (suc n)) (NoUnary allowed (suc n)) text
unfolding IsUnary NoUnary
group_total allowed n total text inside m = let less = mark_length m in elim (sum_total (IsUnary allowed n) (NoUnary allowed n) total inside) [
  | inr bad ↦ inr (bad.0, bad.1, inr (inr (inside, m, inl bad.2)))
  | inl t ↦ elim (begins_or 41 t.1) [
    | inr lacks ↦ inr (Syntax, t.1, inr (inr (inside, m, inr (t.0, t.1, t.2, (refl, refl, lacks)))))
    | inl mark ↦ (let s = skip_of mark.0 in
        inl (t.0, s.0, inr (inr (inside, t.1, m, t.2, (mark.0, mark.1, s.1))), (let a = t.3 in let b = skip_length s.1 in omega (arith, ap length mark.1))))
  ]
]

unary_next : (allowed : VarSet) (n : ℕ) → ((t : List ℕ) → Found (IsUnary allowed n) (NoUnary allowed n) t) → (text : List ℕ) → Found (IsUnary allowed (suc n)) (NoUnary allowed (suc n)) text
unfolding IsUnary NoUnary
unary_next allowed n total text = elim (opens_or text) [
  | inr stops ↦ elim (atom_total allowed text stops) [
    | inl atom ↦ inl (atom.0, atom.1, inl atom.2, atom.3)
    | inr bad ↦ inr (bad.0, bad.1, inl bad.2)
  ]
  | inl level ↦ (let s = skip_of level.1 in elim (opens_which level.0 level.3) [
    | inl e ↦ minus_total allowed n total text s.0 (level.1, level.2 ∙ ap (λ (x : ℕ). x ∷ level.1) e, s.1)
    | inr (inl e) ↦ plus_total allowed n total text s.0 (level.1, level.2 ∙ ap (λ (x : ℕ). x ∷ level.1) e, s.1)
    | inr (inr e) ↦ group_total allowed n total text s.0 (level.1, level.2 ∙ ap (λ (x : ℕ). x ∷ level.1) e, s.1)
  ])
]

unary_total : (allowed : VarSet) (levels : ℕ) (text : List ℕ) → Found (IsUnary allowed levels) (NoUnary allowed levels) text
unary_total allowed zero text = unary_base allowed text
unary_total allowed (suc n) text = unary_next allowed n (unary_total allowed n) text

-- ---- whole texts

pub tree_or_none : (allowed : VarSet) (text : List ℕ) → ((tree : Tree) × IsExpr allowed text tree) ⊎ ((kind : ExprKind) × (bad : List ℕ) × IsExprFault allowed text kind bad)
tree_or_none allowed text = whole (sum_total (IsUnary allowed 64) (NoUnary allowed 64) (unary_total allowed 64) s.0) where
  s : (rest : List ℕ) × Skips text rest
  s = skip_of text

  ends : (t : Tree) (rest : List ℕ) → IsSum (IsUnary allowed 64) s.0 t rest → ((tree : Tree) × IsExpr allowed text tree) ⊎ ((kind : ExprKind) × (bad : List ℕ) × IsExprFault allowed text kind bad)
  ends t [] h = inl (t, record { start = s.0; skips = s.1; is_sum = h })
  ends t (c ∷ rest) h = inr (Syntax, c ∷ rest, record { start = s.0; skips = s.1; fails = inr (t, c ∷ rest, h, (refl, refl, omega arith)) })

  whole : Found (IsSum (IsUnary allowed 64)) (NoSum (IsUnary allowed 64) (NoUnary allowed 64)) s.0 → ((tree : Tree) × IsExpr allowed text tree) ⊎ ((kind : ExprKind) × (bad : List ℕ) × IsExprFault allowed text kind bad)
  whole (inl t) = ends t.0 t.1 t.2
  whole (inr bad) = inr (bad.0, bad.1, record { start = s.0; skips = s.1; fails = inl bad.2 })
