use Rattle.std.proofs.Common.{arith, rules}
use Rattle.filt_expr.specs.Lutyuv.{IsEntry}
use Rattle.filt_expr.proofs.LutyuvLemmas.{set_more}
use Rattle.filt_expr.proofs.lutyuv.table.Goals as goal

pub loop-val-preserved : goal.loop-val-preserved
loop-val-preserved c = record {
  long = search rules;
  entries = set_more (IsEntry c.args.expr.now c.args.plane) c.loop-val.table c.loop-val.val c.in_ok-table.field-0 0 c.loop-val.invariant.entries (let n = c.loop-val.invariant.long in omega arith) c.in_ok-table.ensures.ok;
}
