use Rattle.std.proofs.Common.{arith, rules}
use Rattle.av_base.proofs.LowestTerms.{IsLowest-over_one, IsLowest-one_over}
use Rattle.filter_tests.proofs.pictures.shape_with.Goals as goal

pub returns-clause-picture : goal.returns-clause-picture
returns-clause-picture c = record {
  lawful = record {
    width = search rules;
    height = search rules;
    aspect = c.requires;
    rate = IsLowest-over_one 25 (omega arith);
    base = (IsLowest-one_over 25 (omega arith) (omega arith), omega arith);
    scan = search rules;
  };
  video = tt;
}
