-- The variables of expressions, their numbers and their names.
use Rattle.std.specs.Prelude.{◌^◌, ℕ, Bool, List, [], ◌∷◌, Option, ◌==◌, ◌&&◌, true, false, codes, bit_or}
use Rattle.std.specs.List.{fold}
use Rattle.std.specs.Map.{lookup}
use Rattle.av_expr.specs.declared.vars.Var.{Var}
use Rattle.av_expr.specs.declared.vars.Var.TheVariants.{InW, InH, OutW, OutH, Hsub, Vsub, MainW, MainH, OverW, OverH, Val, MinVal, MaxVal, NegVal, Pts, StartPts, N, Tb}

-- the variable's number, in the order of the variants
abbrev pub order : Var → ℕ
order InW = 0
order InH = 1
order OutW = 2
order OutH = 3
order Hsub = 4
order Vsub = 5
order MainW = 6
order MainH = 7
order OverW = 8
order OverH = 9
order Val = 10
order MinVal = 11
order MaxVal = 12
order NegVal = 13
order Pts = 14
order StartPts = 15
order N = 16
order Tb = 17

-- the names, and what they spell
abbrev pub spellings : List (List ℕ × Var)
spellings =
    (codes "iw", InW) ∷ (codes "in_w", InW)
    ∷ (codes "ih", InH) ∷ (codes "in_h", InH)
    ∷ (codes "ow", OutW) ∷ (codes "out_w", OutW)
    ∷ (codes "oh", OutH) ∷ (codes "out_h", OutH)
    ∷ (codes "hsub", Hsub)
    ∷ (codes "vsub", Vsub)
    ∷ (codes "W", MainW) ∷ (codes "main_w", MainW)
    ∷ (codes "H", MainH) ∷ (codes "main_h", MainH)
    ∷ (codes "w", OverW) ∷ (codes "overlay_w", OverW)
    ∷ (codes "h", OverH) ∷ (codes "overlay_h", OverH)
    ∷ (codes "val", Val)
    ∷ (codes "minval", MinVal)
    ∷ (codes "maxval", MaxVal)
    ∷ (codes "negval", NegVal)
    ∷ (codes "PTS", Pts)
    ∷ (codes "STARTPTS", StartPts)
    ∷ (codes "N", N)
    ∷ (codes "TB", Tb)
    ∷ []

-- two texts are the same
abbrev pub is_text : List ℕ → List ℕ → Bool
is_text [] [] = true
is_text [] (d ∷ other) = false
is_text (c ∷ text) [] = false
is_text (c ∷ text) (d ∷ other) = c == d && is_text text other

-- the variable that a name spells
unfoldable pub variable_named : List ℕ → Option Var
variable_named name = lookup (is_text name) spellings

-- the bits of a set of variables
abbrev pub together : List Var → ℕ
together vars = fold (λ bits x. bit_or bits (2 ^ order x)) 0 vars
