-- The expressions that defaults say, for the lemmas on options.
use Rattle.std.proofs.Common.{◌≡◌, ℕ, List, [], ◌∷◌, refl, inl, inr, arith, false}
use Rattle.std.specs.Prelude.{codes, pos, suc, Some, bit_and, ◌^◌}
use Rattle.std.specs.Int.{IsBitSet}
use Rattle.av_text.specs.Classes.{is_white, is_name, is_digit, IsRun, Stops}
use Rattle.av_expr.specs.Vars.{order, variable_named}
use Rattle.av_text.specs.Parts.{Skips}
use Rattle.av_expr.specs.Parts.{AreLinks}
use Rattle.av_expr.specs.Trees.{Tree, Number, Variable, Binary}
use Rattle.av_expr.specs.Grammar.{IsAtom, IsUnary, IsProduct, IsSum, IsGroup, multiplicative}
use Rattle.av_expr.specs.Exprs.{IsExpr}
use Rattle.av_expr.specs.declared.vars.Var.{Var}
use Rattle.av_expr.specs.declared.vars.Var.TheVariants.{InW, InH, OutW, OutH, Val}
use Rattle.av_expr.specs.declared.vars.VarSet.{VarSet}
use Rattle.av_expr.specs.declared.fraction.Operator.TheVariants.{Minus, Over}
use Rattle.filt_expr.specs.Worth.{set_of, vars_of}
use Rattle.filt_expr.specs.declared.worth.Role.TheVariants.{Width, Height, Place, Sample}

-- no white space is here
skips_none : (c : ℕ) (rest : List ℕ) → is_white c ≡ false → Skips (c ∷ rest) (c ∷ rest)
skips_none c rest e = ([], record { text_is = refl; each = tt; whole = e })

skips_end : Skips [] []
skips_end = ([], record { text_is = refl; each = tt; whole = tt })

bit_set : (bits k n : ℕ) → bit_and bits (2 ^ k) ≡ suc n → IsBitSet bits k
bit_set bits k n e = λ none. absurd (omega (arith, e, none))

-- a variable of two letters
var_atom : (allowed : VarSet) (a b : ℕ) (behind : List ℕ) (x : Var)
    → IsRun is_name (a ∷ b ∷ behind) (a ∷ b ∷ []) behind → Stops is_digit (a ∷ b ∷ behind)
    → variable_named (a ∷ b ∷ []) ≡ Some x → IsBitSet allowed.bits (order x) → Skips behind behind
    → IsAtom allowed (a ∷ b ∷ behind) (Variable x) behind
var_atom allowed a b behind x run stops named bit skips = inr (x, refl, ((a ∷ b ∷ []), behind, (run, omega arith, stops), (named, bit), skips))

-- an operand alone
alone : (allowed : VarSet) (text : List ℕ) (tree : Tree) → IsAtom allowed text tree [] → IsRun is_white text [] text → IsExpr allowed text tree
unfolding IsUnary
alone allowed text tree atom run = record {
  start = text;
  skips = ([], run);
  is_sum = (tree, [], [], (tree, [], [], inl atom, (refl, tt), refl), (refl, tt), refl);
}

pub says_iw : (tree : Tree) × IsExpr (set_of (vars_of Width)) (codes "iw") tree
unfolding variable_named
says_iw =
    let atom = var_atom (set_of (vars_of Width)) 105 119 [] InW (record { text_is = refl; each = (refl, (refl, tt)); whole = tt }) refl refl (bit_set (set_of (vars_of Width)).bits 0 0 refl) skips_end in
    (Variable InW, alone (set_of (vars_of Width)) (105 ∷ 119 ∷ []) (Variable InW) atom (record { text_is = refl; each = tt; whole = refl }))

pub says_ih : (tree : Tree) × IsExpr (set_of (vars_of Height)) (codes "ih") tree
unfolding variable_named
says_ih =
    let atom = var_atom (set_of (vars_of Height)) 105 104 [] InH (record { text_is = refl; each = (refl, (refl, tt)); whole = tt }) refl refl (bit_set (set_of (vars_of Height)).bits 1 1 refl) skips_end in
    (Variable InH, alone (set_of (vars_of Height)) (105 ∷ 104 ∷ []) (Variable InH) atom (record { text_is = refl; each = tt; whole = refl }))

abbrev two : Tree
two = Number (record { num = pos 2; den = pos 1 })

-- half of the difference of two variables, whose names begin with `i` and `o`
half : (allowed : VarSet) (a : ℕ) (x y : Var)
    → IsAtom allowed (105 ∷ a ∷ 45 ∷ 111 ∷ a ∷ 41 ∷ 47 ∷ 50 ∷ []) (Variable x) (45 ∷ 111 ∷ a ∷ 41 ∷ 47 ∷ 50 ∷ [])
    → IsAtom allowed (111 ∷ a ∷ 41 ∷ 47 ∷ 50 ∷ []) (Variable y) (41 ∷ 47 ∷ 50 ∷ [])
    → IsExpr allowed (40 ∷ 105 ∷ a ∷ 45 ∷ 111 ∷ a ∷ 41 ∷ 47 ∷ 50 ∷ []) (Binary Over (Binary Minus (Variable x) (Variable y)) two)
unfolding IsUnary
half allowed a x y left right = record {
  start = _;
  skips = skips_none 40 _ refl;
  is_sum = (Binary Over (Binary Minus (Variable x) (Variable y)) two, [], [], (Binary Minus (Variable x) (Variable y), (Over, two) ∷ [], (47 ∷ 50 ∷ []), inr (inr group), over, refl), (refl, tt), refl);
} where
  product : IsProduct (IsUnary allowed 63) (105 ∷ a ∷ 45 ∷ 111 ∷ a ∷ 41 ∷ 47 ∷ 50 ∷ []) (Variable x) (45 ∷ 111 ∷ a ∷ 41 ∷ 47 ∷ 50 ∷ [])
  product = (Variable x, [], (45 ∷ 111 ∷ a ∷ 41 ∷ 47 ∷ 50 ∷ []), inl left, (refl, refl), refl)

  second : IsProduct (IsUnary allowed 63) (111 ∷ a ∷ 41 ∷ 47 ∷ 50 ∷ []) (Variable y) (41 ∷ 47 ∷ 50 ∷ [])
  second = (Variable y, [], (41 ∷ 47 ∷ 50 ∷ []), inl right, (refl, refl), refl)

  inside : IsSum (IsUnary allowed 63) (105 ∷ a ∷ 45 ∷ 111 ∷ a ∷ 41 ∷ 47 ∷ 50 ∷ []) (Binary Minus (Variable x) (Variable y)) (41 ∷ 47 ∷ 50 ∷ [])
  inside = (Variable x, (Minus, Variable y) ∷ [], (45 ∷ 111 ∷ a ∷ 41 ∷ 47 ∷ 50 ∷ []), product, ((111 ∷ a ∷ 41 ∷ 47 ∷ 50 ∷ []), (41 ∷ 47 ∷ 50 ∷ []), (45, refl, (_, refl, skips_none 111 _ refl)), second, (refl, refl)), refl)

  group : IsGroup (IsUnary allowed 63) (40 ∷ 105 ∷ a ∷ 45 ∷ 111 ∷ a ∷ 41 ∷ 47 ∷ 50 ∷ []) (Binary Minus (Variable x) (Variable y)) (47 ∷ 50 ∷ [])
  group = (_, _, (_, refl, skips_none 105 _ refl), inside, (_, refl, skips_none 47 _ refl))

  digit : IsAtom allowed (50 ∷ []) two []
  digit = inl (record { num = pos 2; den = pos 1 }, refl, inl ((50 ∷ []), [], record { text_is = refl; each = (refl, tt); whole = tt }, omega arith, omega arith, tt, refl, skips_end))

  over : AreLinks multiplicative (IsUnary allowed 64) (47 ∷ 50 ∷ []) ((Over, two) ∷ []) []
  over = ((50 ∷ []), [], (47, refl, (_, refl, skips_none 50 _ refl)), inl digit, (refl, tt))

pub says_middle_x : (tree : Tree) × IsExpr (set_of (vars_of Place)) (codes "(iw-ow)/2") tree
unfolding variable_named
says_middle_x =
    let left = var_atom (set_of (vars_of Place)) 105 119 (45 ∷ 111 ∷ 119 ∷ 41 ∷ 47 ∷ 50 ∷ []) InW (record { text_is = refl; each = (refl, (refl, tt)); whole = refl }) refl refl (bit_set (set_of (vars_of Place)).bits 0 0 refl) (skips_none 45 _ refl) in
    let right = var_atom (set_of (vars_of Place)) 111 119 (41 ∷ 47 ∷ 50 ∷ []) OutW (record { text_is = refl; each = (refl, (refl, tt)); whole = refl }) refl refl (bit_set (set_of (vars_of Place)).bits 2 3 refl) (skips_none 41 _ refl) in
    (_, half (set_of (vars_of Place)) 119 InW OutW left right)

pub says_middle_y : (tree : Tree) × IsExpr (set_of (vars_of Place)) (codes "(ih-oh)/2") tree
unfolding variable_named
says_middle_y =
    let left = var_atom (set_of (vars_of Place)) 105 104 (45 ∷ 111 ∷ 104 ∷ 41 ∷ 47 ∷ 50 ∷ []) InH (record { text_is = refl; each = (refl, (refl, tt)); whole = refl }) refl refl (bit_set (set_of (vars_of Place)).bits 1 1 refl) (skips_none 45 _ refl) in
    let right = var_atom (set_of (vars_of Place)) 111 104 (41 ∷ 47 ∷ 50 ∷ []) OutH (record { text_is = refl; each = (refl, (refl, tt)); whole = refl }) refl refl (bit_set (set_of (vars_of Place)).bits 3 7 refl) (skips_none 41 _ refl) in
    (_, half (set_of (vars_of Place)) 104 InH OutH left right)

pub says_val : (tree : Tree) × IsExpr (set_of (vars_of Sample)) (codes "val") tree
unfolding variable_named
says_val =
    let atom : IsAtom (set_of (vars_of Sample)) (118 ∷ 97 ∷ 108 ∷ []) (Variable Val) [] = inr (Val, refl, ((118 ∷ 97 ∷ 108 ∷ []), [], (record { text_is = refl; each = (refl, (refl, (refl, tt))); whole = tt }, omega arith, refl), (refl, bit_set (set_of (vars_of Sample)).bits 10 1023 refl), skips_end)) in
    (Variable Val, alone (set_of (vars_of Sample)) (118 ∷ 97 ∷ 108 ∷ []) (Variable Val) atom (record { text_is = refl; each = tt; whole = refl }))

pub says_zero : (tree : Tree) × IsExpr (set_of (vars_of Place)) (codes "0") tree
says_zero =
    let zero_tree = Number (record { num = pos 0; den = pos 1 }) in
    let atom : IsAtom (set_of (vars_of Place)) (48 ∷ []) zero_tree [] = inl (record { num = pos 0; den = pos 1 }, refl, inl ((48 ∷ []), [], record { text_is = refl; each = (refl, tt); whole = tt }, omega arith, omega arith, tt, refl, skips_end)) in
    (zero_tree, alone (set_of (vars_of Place)) (48 ∷ []) zero_tree atom (record { text_is = refl; each = tt; whole = refl }))

-- for the calls that read defaults
pub ruleset defaults = (says_iw, says_ih, says_middle_x, says_middle_y, says_zero)
