use Rattle.std.proofs.Common.{reverse, drop, List}
use Rattle.av_expr.specs.Trees.{Tree}
use Rattle.av_expr.specs.Kept.{tree_of}
use Rattle.av_expr.proofs.EvalLemmas.{Builds, AreWorth}
use Rattle.av_expr.proofs.row.evaluate.Given as goal

abbrev pub invariant-nodes : goal.invariant-nodes
invariant-nodes l = (trees : List Tree) × AreWorth l.values trees (reverse l.row.items) × Builds trees (drop l.node-index l.nodes) (tree_of l.nodes)
