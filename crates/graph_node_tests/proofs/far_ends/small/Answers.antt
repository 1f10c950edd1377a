use Rattle.std.proofs.Common.{arith, refl}
use Rattle.av_base.proofs.LowestTerms.{IsLowest-over_one, IsLowest-one_over}
use Rattle.graph_node_tests.proofs.far_ends.small.Goals as goal

pub returns-clause-lawful : goal.returns-clause-lawful
returns-clause-lawful c = record {
  width = omega arith;
  height = omega arith;
  aspect = IsLowest-over_one 0 (omega arith);
  rate = IsLowest-over_one 25 (omega arith);
  base = (IsLowest-one_over 25 (omega arith) (omega arith), omega arith);
  scan = (0, omega arith, refl);
}
