-- Names of variables.
use Rattle.std.proofs.Common.{◌≡◌, ◌≢◌, ◌==◌, ℕ, Bool, true, false, List, [], ◌∷◌, None, refl}
use Rattle.std.specs.Map.{lookup}
use Rattle.std.specs.List.{AllByRecursion}
use Rattle.std.proofs.lemmas.Bool.{eqb-true, and_parts}
use Rattle.av_expr.specs.Vars.{is_text}
use Rattle.av_expr.specs.declared.vars.Var.{Var}

same_text : (a b : List ℕ) → is_text a b ≡ true → a ≡ b
same_text [] [] e = refl
same_text [] (d ∷ b) e = cc
same_text (c ∷ a) [] e = cc
same_text (c ∷ a) (d ∷ b) e =
    let parts = and_parts (c == d) (is_text a b) e in
    let first = eqb-true c d parts.0 in
    let rest = same_text a b parts.1 in
    cc

first_missed : (name : List ℕ) (e : List ℕ × Var) (others : List (List ℕ × Var)) (t : Bool) → is_text name e.0 ≡ t → name ≢ e.0 → lookup (is_text name) others ≡ None → lookup (is_text name) (e ∷ others) ≡ None
first_missed name e others true same apart none = absurd (apart (same_text name e.0 same))
first_missed name e others false other apart none = rw other none

-- a name that is none of the keys
pub missed : (name : List ℕ) (all : List (List ℕ × Var)) → AllByRecursion (λ e. name ≢ e.0) all → lookup (is_text name) all ≡ None
missed name [] h = refl
missed name (e ∷ others) h = first_missed name e others (is_text name e.0) refl h.0 (missed name others h.1)
