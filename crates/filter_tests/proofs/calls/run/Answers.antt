use Rattle.std.proofs.Common.{sym}
use Rattle.filter_tests.proofs.calls.run.Goals as goal

pub through-requires-clause-accepts : goal.through-requires-clause-accepts
through-requires-clause-accepts g c κs within = c.in_ok-filter.ensures.accepts c.args.frame (sym c.shape-shape.ensures.shape)
