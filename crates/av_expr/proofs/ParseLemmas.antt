-- Whole texts.
use Rattle.std.proofs.Common.{◌≡◌, ◌<◌, ◌+◌, ◌++◌, ℕ, List, [], drop, length, refl, sym, ◌∙◌, ap, subst, arith, inr}
use Rattle.std.specs.Prelude.{Result, IfOk}
use Rattle.std.proofs.lemmas.List.{length-drop}
use Rattle.av_expr.specs.Trees.{Tree, postfix}
use Rattle.av_text.specs.Parts.{Skips}
use Rattle.av_expr.specs.Grammar.{IsUnary, IsSum}
use Rattle.av_expr.specs.Exprs.{IsExpr, IsExprFault, IsFaultAt}
use Rattle.av_expr.specs.Reading.{IsRead}
use Rattle.av_expr.specs.declared.vars.VarSet.{VarSet}
use Rattle.av_expr.specs.declared.expr.Node.{Node}
use Rattle.av_expr.specs.declared.fault.ExprKind.{ExprKind}
use Rattle.av_expr.specs.declared.fault.ExprKind.TheVariants.{Syntax}
use Rattle.av_expr.specs.declared.fault.ExprFault.{ExprFault}
use Rattle.av_base.specs.declared.failure.Failure.{Failure}
use Rattle.av_base.proofs.FailureLemmas.{gives_from, refuses_from}
use Rattle.av_expr.specs.Kept.{IsKept, tree_of, tree_back}
use Rattle.av_expr.proofs.TreeLemmas.{kept}
use Rattle.av_expr.proofs.GrammarLaws.{one_tree, one_fault, tree_or_fault}
use Rattle.av_base.specs.Failures.{IfFault, Gives, Refuses}

-- the fault of a text
abbrev pub HasFault : VarSet → List ℕ → ExprFault → Type 0
HasFault allowed text f = (bad : List ℕ) × IsExprFault allowed text f.kind bad × (f.at + length bad ≡ length text)

pub after_fault : {allowed : VarSet} {text : List ℕ} {start end : ℕ} {before after : List Node} → Skips text (drop start text) → IsRead (IsSum (IsUnary allowed 64)) text start before after end → end < length text
    → HasFault allowed text (record { at = end; kind = Syntax })
after_fault {allowed} {text} {start} {end} {before} {after} skips h more =
    let left = length-drop end text in
    (drop end text, record { start = drop start text; skips = skips; fails = inr (h.tree, drop end text, h.is_part, (refl, refl, omega arith)) }, omega arith)

-- ---- what a call returns

pub parse_gives : (allowed : VarSet) (text : List ℕ) (r : Result Tree (Failure ExprFault)) → IfOk r (IsExpr allowed text) → IfFault r (HasFault allowed text) → (tree : Tree) → IsExpr allowed text tree → Gives (λ e. e ≡ tree) r
parse_gives allowed text r found fault tree h = gives_from r found fault (λ t p. one_tree allowed text t tree p h) (λ f q. tree_or_fault allowed text q.0 tree f.kind h q.1)

pub parse_refuses : (allowed : VarSet) (text : List ℕ) (r : Result Tree (Failure ExprFault)) → IfOk r (IsExpr allowed text) → IfFault r (HasFault allowed text) → (kind : ExprKind) (bad : List ℕ) → IsExprFault allowed text kind bad
    → Refuses (IsFaultAt text kind bad) r
parse_refuses allowed text r found fault kind bad h = refuses_from r found fault
    (λ t p. tree_or_fault allowed text bad t kind p h)
    (λ f q. let e = one_fault allowed text q.0 bad f.kind kind q.1 h in record { kind_is = e.0; at_is = (let at = q.2 in omega (arith, ap length e.1)) })

-- ---- the tree of the nodes

pub nodes_of : {allowed : VarSet} {text : List ℕ} {before after : List Node} → (h : (tree : Tree) × IsExpr allowed text tree × (after ≡ before ++ postfix tree)) → before ≡ [] → after ≡ postfix h.0
nodes_of {allowed} {text} {before} {after} h none = rw none at h.2

pub read_kept : {allowed : VarSet} {text : List ℕ} {before after : List Node} → ((tree : Tree) × IsExpr allowed text tree × (after ≡ before ++ postfix tree)) → before ≡ [] → IsKept after
read_kept {allowed} {text} {before} {after} h none = kept allowed text h.0 after h.1 (nodes_of h none)

pub read_tree : {allowed : VarSet} {text : List ℕ} {before after : List Node} → ((tree : Tree) × IsExpr allowed text tree × (after ≡ before ++ postfix tree)) → before ≡ [] → (e : Tree) → e ≡ tree_of after → IsExpr allowed text e
read_tree {allowed} {text} {before} {after} h none e is = subst (IsExpr allowed text) (sym (is ∙ ap tree_of (nodes_of h none) ∙ tree_back h.0)) h.1
