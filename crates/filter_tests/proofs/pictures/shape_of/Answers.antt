use Rattle.filter_tests.proofs.AspectLemmas.{lowest_4_3}
use Rattle.filter_tests.proofs.pictures.shape_of.Goals as goal

pub shape_with-requires : goal.shape_with-requires
shape_with-requires c = lowest_4_3
