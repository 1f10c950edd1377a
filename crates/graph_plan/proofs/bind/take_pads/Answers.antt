use Rattle.std.proofs.Common.{◌+◌, ℕ, length, refl, ap, ◌∙◌}
use Rattle.std.proofs.lemmas.List.{length_push}
use Rattle.graph_plan.specs.declared.plan.OutputFile.{OutputFile}
use Rattle.graph_plan.specs.Bindings.{name_of}
use Rattle.graph_plan.proofs.BindLemmas.{found_more, file_stuck, number_next}
use Rattle.graph_plan.proofs.CalledLemmas.{found_pad, pad_found, found_within, marks_more}
use Rattle.graph_plan.proofs.bind.take_pads.Goals as goal

pub find_free-requires : goal.find_free-requires
find_free-requires c = found_within c.args.pads.now c.in_ok-table.table c.in_ok-table.ensures (length c.as_slice.result.now) (ap length c.as_slice.ensures.value ∙ c.files.invariant.marked.each)

pub returns-in_default-clause-fault : goal.returns-in_default-clause-fault
returns-in_default-clause-fault c =
    let loop = c.files.invariant in
    let name = name_of c.index-files-output.result.label c.files.number in
    let none = rw c.as_slice.ensures.value at (c.in_default.ensures.none refl) in
    file_stuck c.files.output c.files.number c.index-files-output.result loop.found loop.each c.files-test.true c.index-files-output.is loop.numbered
    (λ o is. (loop.marked.marked o).0 (none o (pad_found c.args.pads.now c.in_ok-table.table c.in_ok-table.ensures name o is)))

pub push-requires : goal.push-requires
push-requires c =
    let name = name_of c.index-files-output.result.label c.files.number in
    let within = found_within c.args.pads.now c.in_ok-table.table c.in_ok-table.ensures (length c.files.taken.marks.items) c.files.invariant.marked.each name in
    rw c.in-Some.ensures.free.0 at within

pub files-preserved : goal.files-preserved
files-preserved c =
    let loop = c.files.invariant in
    let files = c.args.files.now in
    let pads = c.args.pads.now in
    let name = name_of c.index-files-output.result.label c.files.number in
    let place = c.in-Some.place in
    let free = rw c.as_slice.ensures.value at c.in-Some.ensures.free in
    let next = number_next (λ (f : OutputFile). f.label) files c.files.output c.files.number c.next_number-number.result c.index-files-output.result c.files-test.true c.index-files-output.is loop.numbered c.next_number-number.ensures loop.few in
    let is = found_pad pads c.in_ok-table.table c.in_ok-table.ensures name place free.0 in
    let more = found_more c.files.output c.files.number place c.index-files-output.result loop.found loop.each c.files-test.true c.index-files-output.is loop.numbered is (λ contains. free.1 ((loop.marked.marked place).1 contains)) in
    let within = rw free.0 at (found_within pads c.in_ok-table.table c.in_ok-table.ensures (length pads) refl name) in
    record {
      few = next.0;
      numbered = next.1;
      each = rw (c.in_ok-push.ensures.places, length_push) (ap (λ (n : ℕ). n + 1) loop.each);
      found = rw c.in_ok-push.ensures.places more;
      marked = rw (c.in_ok-push.ensures.places, c.in_ok-push.ensures.marks) (marks_more (length pads) place c.files.taken.places.items c.files.taken.marks.items within loop.marked);
    }
