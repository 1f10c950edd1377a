use Rattle.std.proofs.Common.{arith}
use Rattle.std.proofs.lemmas.List.{nil_from_length}
use Rattle.av_text.specs.Times.{IsUnit}
use Rattle.av_text.proofs.TimeLemmas.{one_byte, two_bytes}
use Rattle.av_text.proofs.times.unit_of.Goals as goal

pub returns-in-ms-clause-found : goal.returns-in-ms-clause-found
returns-in-ms-clause-found c = rw (two_bytes c.args.suffix.now 109 115 (omega arith) (omega arith) (omega arith)) IsUnit.ms

pub returns-in-us-clause-found : goal.returns-in-us-clause-found
returns-in-us-clause-found c = rw (two_bytes c.args.suffix.now 117 115 (omega arith) (omega arith) (omega arith)) IsUnit.us

pub returns-in-empty-clause-found : goal.returns-in-empty-clause-found
returns-in-empty-clause-found c = rw (nil_from_length c.args.suffix.now (omega arith)) IsUnit.none

pub returns-in-empty-2-clause-found : goal.returns-in-empty-2-clause-found
returns-in-empty-2-clause-found c = rw (one_byte c.args.suffix.now 115 (omega arith) (omega arith)) IsUnit.s
