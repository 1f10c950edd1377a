use Rattle.graph_formats.proofs.tests.are_below.Goals as goal

pub returns-then-are_wishes_below : goal.returns-then-are_wishes_below
returns-then-are_wishes_below c is = record {
  wishes_below = rw c.as_slice.ensures at c.are_wishes_below.ensures c.if-are_wishes_below.true;
  relations_below = rw c.as_slice-then-are_wishes_below.ensures at c.are_relations_below.ensures is;
}
