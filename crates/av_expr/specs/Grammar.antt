-- The grammar of expressions. Each part begins without white space.
use Rattle.std.specs.Prelude.{◌≡◌, ◌<◌, ◌≤◌, ◌+◌, ◌*◌, ◌^◌, ◌==◌, ◌||◌, ◌⊎◌, if◌then◌else◌, ℕ, zero, suc, pos, Bool, true, List, ◌∷◌, Option, Some, None, length, drop}
use Rattle.std.specs.Int.{IsBitSet}
use Rattle.std.specs.Str.Parse.{digits_value}
use Rattle.av_text.specs.Classes.{is_digit, is_name, Stops, IsRun}
use Rattle.av_expr.specs.Vars.{order, variable_named}
use Rattle.av_expr.specs.Fractions.{IsReduced}
use Rattle.av_expr.specs.Trees.{Tree, Number, Variable, Negation}
use Rattle.av_text.specs.Parts.{Part, NoPart, Either, Skips, Lacks}
use Rattle.av_expr.specs.Parts.{IsMark, IsChain, NoChain}
use Rattle.av_expr.specs.declared.vars.Var.{Var}
use Rattle.av_expr.specs.declared.vars.VarSet.{VarSet}
use Rattle.av_expr.specs.declared.fraction.Fraction.{Fraction}
use Rattle.av_expr.specs.declared.fraction.Operator.{Operator}
use Rattle.av_expr.specs.declared.fraction.Operator.TheVariants.{Plus, Minus, Times, Over}
use Rattle.av_expr.specs.declared.fault.ExprKind.TheVariants.{Syntax, UnknownName, TooDeep}
use Rattle.av_expr.specs.declared.fault.ExprKind.{ExprKind}

-- ---- numbers

-- digits without a point, which say a whole number
abbrev pub IsWhole : List ℕ → Fraction → List ℕ → Type 0
IsWhole text f rest = (digits behind : List ℕ) × IsRun is_digit text digits behind × (0 < length digits) × (length digits ≤ 18)
    × Lacks 46 behind × (f ≡ record { num = pos (digits_value 10 digits); den = pos 1 }) × Skips behind rest

-- a point with digits after it, and digits or none before it
abbrev pub IsDecimal : List ℕ → Fraction → List ℕ → Type 0
IsDecimal text f rest = (digits part after behind : List ℕ) × IsRun is_digit text digits (46 ∷ after) × (length digits ≤ 18)
    × IsRun is_digit after part behind × (0 < length part) × (length part ≤ 18)
    × IsReduced (pos (digits_value 10 digits * 10 ^ length part + digits_value 10 part)) (pos (10 ^ length part)) f × Skips behind rest

abbrev pub IsNumber : Part Fraction
IsNumber text f rest = IsWhole text f rest ⊎ IsDecimal text f rest

-- the text begins with more than 18 digits, and the 19th is one too many
abbrev pub IsNineteenth : NoPart ExprKind
IsNineteenth text kind bad = (digits behind : List ℕ) × IsRun is_digit text digits behind × (18 < length digits) × (kind ≡ Syntax) × (bad ≡ drop 18 text)

-- no digit is here, or too many are
abbrev pub NoDigits : NoPart ExprKind
NoDigits text kind bad = (Stops is_digit text × (kind ≡ Syntax) × (bad ≡ text)) ⊎ IsNineteenth text kind bad

-- there are too many digits before the point, or too many or none after it
abbrev pub NoNumber : NoPart ExprKind
NoNumber text kind bad = IsNineteenth text kind bad
    ⊎ ((digits after : List ℕ) × IsRun is_digit text digits (46 ∷ after) × (length digits ≤ 18) × NoDigits after kind bad)

-- ---- names

-- a letter or `_`, then letters, digits and `_`
abbrev pub IsName : List ℕ → List ℕ → List ℕ → Type 0
IsName text name behind = IsRun is_name text name behind × (0 < length name) × Stops is_digit text

-- the name spells this variable, which is allowed
abbrev pub IsAllowed : VarSet → List ℕ → Var → Type 0
IsAllowed allowed name x = (variable_named name ≡ Some x) × IsBitSet allowed.bits (order x)

abbrev pub IsVariable : VarSet → Part Var
IsVariable allowed text x rest = (name behind : List ℕ) × IsName text name behind × IsAllowed allowed name x × Skips behind rest

abbrev pub NoVariable : VarSet → NoPart ExprKind
NoVariable allowed text kind bad = (kind ≡ UnknownName) × (bad ≡ text) × (name behind : List ℕ) × IsName text name behind × ((x : Var) → ¬ IsAllowed allowed name x)

-- ---- numbers and names

abbrev pub IsAtom : VarSet → Part Tree
IsAtom allowed text tree rest = ((f : Fraction) × (tree ≡ Number f) × IsNumber text f rest) ⊎ ((x : Var) × (tree ≡ Variable x) × IsVariable allowed text x rest)

-- what begins a level: `-`, `+` and `(`
abbrev pub opens : ℕ → Bool
opens c = c == 45 || (c == 43 || c == 40)

-- what may begin an operand
abbrev pub begins : ℕ → Bool
begins c = is_name c || (c == 46 || opens c)

-- a number or a name that is wrong, or nothing that begins an operand
abbrev pub NoAtom : VarSet → NoPart ExprKind
NoAtom allowed text kind bad = NoNumber text kind bad ⊎ (NoVariable allowed text kind bad ⊎ ((kind ≡ Syntax) × (bad ≡ text) × Stops begins text))

-- ---- sums and products

abbrev pub additive : ℕ → Option Operator
additive c = if c == 43 then Some Plus else (if c == 45 then Some Minus else None)

abbrev pub multiplicative : ℕ → Option Operator
multiplicative c = if c == 42 then Some Times else (if c == 47 then Some Over else None)

-- products of such operands, and sums of products
abbrev pub IsProduct : Part Tree → Part Tree
IsProduct P = IsChain multiplicative P

abbrev pub NoProduct : Part Tree → NoPart ExprKind → NoPart ExprKind
NoProduct P F = NoChain multiplicative P F

abbrev pub IsSum : Part Tree → Part Tree
IsSum P = IsChain additive (IsProduct P)

abbrev pub NoSum : Part Tree → NoPart ExprKind → NoPart ExprKind
NoSum P F = NoChain additive (IsProduct P) (NoProduct P F)

-- ---- signs and parentheses

-- a sign before an operand
abbrev pub IsSigned : Part Tree → Part Tree
IsSigned P text tree rest = (operand : List ℕ) × ((IsMark 43 text operand × P operand tree rest) ⊎ ((t : Tree) × (tree ≡ Negation t) × IsMark 45 text operand × P operand t rest))

abbrev pub NoSigned : NoPart ExprKind → NoPart ExprKind
NoSigned F text kind bad = (operand : List ℕ) × (IsMark 43 text operand ⊎ IsMark 45 text operand) × F operand kind bad

-- a sum between `(` and `)`
abbrev pub IsGroup : Part Tree → Part Tree
IsGroup P text tree rest = (inside behind : List ℕ) × IsMark 40 text inside × IsSum P inside tree behind × IsMark 41 behind rest

abbrev pub IsOpen : NoPart ExprKind
IsOpen text kind bad = (kind ≡ Syntax) × (bad ≡ text) × Lacks 41 text

abbrev pub NoGroup : Part Tree → NoPart ExprKind → NoPart ExprKind
NoGroup P F text kind bad = (inside : List ℕ) × IsMark 40 text inside × Either (IsSum P) (NoSum P F) IsOpen inside kind bad

-- an operand with at most this many levels of signs and parentheses in it
unfoldable pub IsUnary : VarSet → ℕ → Part Tree
IsUnary allowed zero text tree rest = IsAtom allowed text tree rest
IsUnary allowed (suc levels) text tree rest = IsAtom allowed text tree rest ⊎ (IsSigned (IsUnary allowed levels) text tree rest ⊎ IsGroup (IsUnary allowed levels) text tree rest)

-- a level here is one too many
abbrev pub IsTooDeep : NoPart ExprKind
IsTooDeep text kind bad = (kind ≡ TooDeep) × (bad ≡ text) × (c : ℕ) × (behind : List ℕ) × (text ≡ c ∷ behind) × (opens c ≡ true)

unfoldable pub NoUnary : VarSet → ℕ → NoPart ExprKind
NoUnary allowed zero text kind bad = NoAtom allowed text kind bad ⊎ IsTooDeep text kind bad
NoUnary allowed (suc levels) text kind bad = NoAtom allowed text kind bad
    ⊎ (NoSigned (NoUnary allowed levels) text kind bad ⊎ NoGroup (IsUnary allowed levels) (NoUnary allowed levels) text kind bad)
