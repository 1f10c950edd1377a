use Rattle.av_expr.proofs.GrammarLaws.{one_tree, one_fault, tree_or_fault}
use Rattle.av_expr.proofs.TreeLemmas.{expr_lowest}
use Rattle.av_expr.proofs.TotalLaws.{tree_or_none}
use Rattle.av_expr.proofs.law.expressions_have_one_reading.Goals as goal

pub returns : goal.returns
returns c = record { one_tree = one_tree; one_fault = one_fault; not_both = tree_or_fault; one_of_both = tree_or_none; lowest = expr_lowest }
