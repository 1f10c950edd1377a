use Rattle.std.proofs.Common.{rules, ◌<◌, ◌^◌, refl, arith}
use Rattle.graph_plan.specs.Bindings.{Mixes}
use Rattle.graph_plan.proofs.BindLemmas.{pad_left, all_find, all_mapped, wrong_within}
use Rattle.graph_plan.proofs.CalledLemmas.{left_unmarked, all_marked}
use Rattle.graph_plan.proofs.bind.check_taken.Goals as goal

pub returns-in-Some-clause-fault : goal.returns-in-Some-clause-fault
returns-in-Some-clause-fault c = pad_left c.in-Some.place c.index-pads-place.result c.requires.found c.requires.each (left_unmarked c.requires.marked (rw c.as_slice.ensures.value at c.in-Some.ensures.left)) c.index-pads-place.is

pub overflow_cast-output : goal.overflow_cast-output
overflow_cast-output c = let within = wrong_within c.in-Some-first_wrong.ensures.wrong in
    let fits : c.in-Some-first_wrong.output < 2 ^ 32 = omega (arith, c.requires.few) in search rules

pub returns-in-Some-first_wrong-clause-fault : goal.returns-in-Some-first_wrong-clause-fault
returns-in-Some-first_wrong-clause-fault c =
    Mixes _ (all_find c.requires.found c.requires.each) (all_mapped c.requires.found (all_marked c.requires.marked (rw c.as_slice.ensures.value at (c.in_default.ensures.none refl)))) c.in-Some-first_wrong.ensures.wrong

pub returns-clause-mapped : goal.returns-clause-mapped
returns-clause-mapped c = all_mapped c.requires.found (all_marked c.requires.marked (rw c.as_slice.ensures.value at (c.in_default.ensures.none refl)))

pub returns-clause-fit : goal.returns-clause-fit
returns-clause-fit c = c.in_default-first_wrong.ensures.none refl
