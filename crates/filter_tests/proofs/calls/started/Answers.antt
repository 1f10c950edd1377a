use Rattle.std.proofs.Common.{arith}
use Rattle.filter_tests.proofs.ResultLemmas.{if_ok}
use Rattle.filter_tests.proofs.calls.started.Goals as goal

pub returns-clause-pads : goal.returns-clause-pads
returns-clause-pads c = let ready = c.requires.1 in if_ok (λ f new. new.pads_are) c.start.result (c.start.ensures c.args.shape _ ready.ins ready.outs)

pub returns-clause-accepts : goal.returns-clause-accepts
returns-clause-accepts c = let ready = c.requires.1 in if_ok (λ f new x e. new.accepts_first 0 x (omega arith) e) c.start.result (c.start.ensures c.args.shape _ ready.ins ready.outs)
