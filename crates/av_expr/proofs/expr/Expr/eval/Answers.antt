use Rattle.std.proofs.Common.{rules, IfOk, IfErr}
use Rattle.av_expr.specs.Values.{IsValue, HasNone}
use Rattle.av_expr.proofs.ValueLaws.{only_value, only_reason, only_lowest}
use Rattle.av_expr.proofs.expr.Expr.eval.Goals as goal

pub returns-clause-valued : goal.returns-clause-valued
returns-clause-valued c =
    let value : IfOk c.evaluate.result (IsValue c.args.values.now c.args.self.now) = search rules in
    let none : IfErr c.evaluate.result (HasNone c.args.values.now c.args.self.now) = search rules in
    only_value c.args.values.now c.args.self.now c.evaluate.result value none

pub returns-clause-valueless : goal.returns-clause-valueless
returns-clause-valueless c =
    let value : IfOk c.evaluate.result (IsValue c.args.values.now c.args.self.now) = search rules in
    let none : IfErr c.evaluate.result (HasNone c.args.values.now c.args.self.now) = search rules in
    only_reason c.args.values.now c.args.self.now c.evaluate.result value none

pub returns-clause-lowest : goal.returns-clause-lowest
returns-clause-lowest c =
    let value : IfOk c.evaluate.result (IsValue c.args.values.now c.args.self.now) = search rules in
    only_lowest c.args.values.now c.args.self.now c.evaluate.result (rw c.table.ensures.same at c.table.ensures.lowest) (rw c.self.view_is at c.self.invariant.lowest) value
