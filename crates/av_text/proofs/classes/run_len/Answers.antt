use Rattle.std.proofs.Common.{arith}
use Rattle.av_text.specs.Classes.{has}
use Rattle.av_text.proofs.Runs.{run_more, run_stops}
use Rattle.av_text.proofs.classes.run_len.Goals as goal

pub loop-i-preserved : goal.loop-i-preserved
loop-i-preserved c = run_more (has c.args.class) c.args.text.now c.loop-i.i (omega arith) c.loop-i.invariant (cc)

pub returns-then-not-has-clause-run : goal.returns-then-not-has-clause-run
returns-then-not-has-clause-run c = run_stops (has c.args.class) c.args.text.now c.loop-i.i (omega arith) c.loop-i.invariant (cc)
