use Rattle.std.proofs.Common.{arith}
use Rattle.av_base.proofs.LowestTerms.{IsLowest-over_one}
use Rattle.filter_tests.proofs.AspectLemmas.{lowest_3_4}
use Rattle.filter_tests.proofs.shape_tests.check_transposed.Goals as goal

pub shape_with-requires : goal.shape_with-requires
shape_with-requires g c = IsLowest-over_one 0 (omega arith)

pub shape_with-requires-2 : goal.shape_with-requires-2
shape_with-requires-2 g c = IsLowest-over_one 0 (omega arith)

pub shape_with-requires-then-turned-2 : goal.shape_with-requires-then-turned-2
shape_with-requires-then-turned-2 g c = lowest_3_4
