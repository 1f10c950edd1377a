-- The laws of options that take expressions.
use Rattle.std.specs.Prelude.{◌<◌, ◌^◌, ℕ, List, length}
use Rattle.std.proofs.Common.{inl, inr, arith}
use Rattle.std.proofs.lemmas.Bool.{cases_lt}
use Rattle.av_expr.specs.Exprs.{IsExpr}
use Rattle.av_expr.specs.Trees.{Tree, HasLowest}
use Rattle.av_expr.proofs.GrammarLaws.{tree_or_fault, one_tree}
use Rattle.av_expr.proofs.TotalLaws.{tree_or_none}
use Rattle.av_expr.proofs.TreeLemmas.{expr_lowest}
use Rattle.av_filter.specs.Decisions.{IsDecided}
use Rattle.av_filter.specs.Forms.{FormLaws}
use Rattle.filt_expr.specs.Worth.{set_of, vars_of, MeansExpr, expr_form}
use Rattle.filt_expr.specs.declared.worth.Role.{Role}

means_decided : (role : Role) (text : List ℕ) → IsDecided ((tree : Tree) × MeansExpr role text tree)
means_decided role text = elim (cases_lt (length text) (2 ^ 32)) [
  | inr long ↦ inr (λ t. let less = t.1.short in omega arith)
  | inl short ↦ elim (tree_or_none (set_of (vars_of role)) text) [
    | inl tree ↦ inl (tree.0, record { short = short; is = tree.1 })
    | inr fault ↦ inr (λ t. tree_or_fault (set_of (vars_of role)) text fault.1 t.0 fault.0 t.1.is fault.2)
  ]
]

pub expr_laws : {O : Type 0} (role : Role) (default : List ℕ) (value : O → Tree) → length default < 2 ^ 32 → (tree : Tree) × IsExpr (set_of (vars_of role)) default tree → FormLaws (expr_form role default value)
expr_laws role default value short is = record {
  decided = means_decided role;
  one = λ text a b p q. one_tree (set_of (vars_of role)) text a b p.is q.is;
  default = (is.0, record { short = short; is = is.1 });
}

-- expressions that texts mean are in lowest terms
pub means_lowest : {role : Role} {text : List ℕ} {tree : Tree} → MeansExpr role text tree → HasLowest tree
means_lowest {role} {text} {tree} m = expr_lowest (set_of (vars_of role)) text tree m.is
