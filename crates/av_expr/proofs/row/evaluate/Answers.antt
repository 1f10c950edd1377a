use Rattle.std.proofs.Common.{List, [], reverse, sym, ◌∙◌, subst}
use Rattle.std.proofs.lemmas.List.{length-reverse, drop_more}
use Rattle.std.proofs.lemmas.Result.{err_from_is_err_and}
use Rattle.av_expr.specs.Kept.{tree_of}
use Rattle.av_expr.specs.Nodes.{HasRoom}
use Rattle.av_expr.specs.declared.fraction.Fraction.{Fraction}
use Rattle.av_expr.proofs.EvalLemmas.{Builds, AreWorth, builds_whole, worth_length, worth_lowest, fault_whole}
use Rattle.av_expr.proofs.row.evaluate.Goals as goal

pub nodes-init : goal.nodes-init
nodes-init c = (
  [],
  subst (λ (items : List Fraction). AreWorth c.args.values.now [] (reverse items)) (sym c.new-row.ensures) tt,
  subst (λ ns. Builds [] ns (tree_of c.args.nodes.now)) c.requires.kept.whole (builds_whole (tree_of c.args.nodes.now) c.requires.kept.narrow c.requires.kept.lowest),
)

pub step-requires-clause-room : goal.step-requires-clause-room
step-requires-clause-room c =
    let i = c.nodes.invariant in
    let behind = drop_more c.args.nodes.now c.nodes.node-index _ c.nodes-test.true in
    subst (HasRoom _) (worth_length c.args.values.now i.0 (reverse c.nodes.row.items) i.1 ∙ length-reverse c.nodes.row.items) (rw behind at i.2).0

pub step-requires-clause-lowest : goal.step-requires-clause-lowest
step-requires-clause-lowest c = let i = c.nodes.invariant in worth_lowest c.args.values.now i.0 (reverse c.nodes.row.items) c.requires.lowest i.1

pub returns-in_err-step-clause-none : goal.returns-in_err-step-clause-none
returns-in_err-step-clause-none c =
    let i = c.nodes.invariant in
    let behind = drop_more c.args.nodes.now c.nodes.node-index _ c.nodes-test.true in
    let p = err_from_is_err_and c.from_residual.result c.from_residual.ensures.1 in
    rw (p.1, p.2) (fault_whole c.args.values.now _ _ _ i.0 (reverse c.nodes.row.items) _ i.1 (rw behind at i.2) c.in_err-step.ensures.none)
