use Rattle.std.proofs.Common.{ℤ, ◌≤ℤ◌, List}
use Rattle.av_base.specs.declared.shapes.Shape.{Shape}
use Rattle.node_core.specs.Shaping.{ReadyValue}
use Rattle.avgraph.specs.Chains.{AllTake}
use Rattle.avgraph.proofs.ChainLemmas.{Passing}
use Rattle.avgraph.proofs.chain.pass.Given as goal

abbrev pub invariant-loop-i : goal.invariant-loop-i
invariant-loop-i g l =
    let F = g.F.Filter in
    (low : ℤ) (readies : List ReadyValue) (t : Shape) → low ≤ℤ l.fn.frame.pts → AllTake F.pads F.rest F.accepts low l.fn.frame.shape readies l.fn.filters t
    → Passing F.pads F.rest F.accepts low t readies l.filters l.i l.fn.frame l.current
