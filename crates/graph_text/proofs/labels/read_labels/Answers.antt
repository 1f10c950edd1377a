use Rattle.std.proofs.Common.{rules, true, false, ◌≡◌, ◌==◌, ◌-◌, ◌++◌, ℕ, List, drop, length, refl, sym, ◌∙◌, lit<, arith}
use Rattle.std.specs.Prelude.{slice_index}
use Rattle.std.proofs.lemmas.List.{length-drop}
use Rattle.av_text.specs.Parts.{IsPlace}
use Rattle.av_text.proofs.Places.{later_rest, later_place, lacks_test, begins_test}
use Rattle.graph_text.proofs.LabelLemmas.{labelled_none, labelled_more, labelled_all, labelled_bad, label_front}
use Rattle.graph_text.proofs.labels.read_labels.Goals as goal
use Rattle.graph_text.proofs.labels.read_labels.Goals.{In_ok-push}

pub labels-init : goal.labels-init
labels-init c = rw c.new-labels.ensures.items (labelled_none c.args.text.now c.args.start c.skip_white-place.result c.skip_white-place.ensures.later c.skip_white-place.ensures.skips)

pub returns-in_default-clause-fault : goal.returns-in_default-clause-fault
returns-in_default-clause-fault c =
    let place = c.labels.place in
    let at = c.range_from-in-labels.ensures.value in
    let test : true ≡ (slice_index (drop place c.args.text.now) 0 == 91) = search rules in
    let bad = labelled_bad c.labels.invariant (begins_test 91 (drop place c.args.text.now) (lit< tt) test) (rw at at (c.in_default.ensures.none refl)) in
    rw c.fault.ensures (drop place c.args.text.now, bad, (let within = c.labels.invariant.later.1.0 in omega (arith, length-drop place c.args.text.now)))

-- the place after the label
front : (c : goal.In_ok-push) → (front : List ℕ) × (drop c.labels.place c.args.text.now ≡ front ++ c.in-Some.rest.now)
front c = let f = label_front c.in-Some.ensures.label in (f.0, sym c.range_from-in-labels.ensures.value ∙ f.1)

end : (c : goal.In_ok-push) → IsPlace c.args.text.now c.labels.place (length c.args.text.now - length c.in-Some.rest.now)
end c = let f = front c in later_place c.args.text.now c.labels.place f.0 c.in-Some.rest.now c.labels.invariant.later.1.0 c.in-Some.ensures.utf8 f.1

pub skip_white-place-requires-in-labels : goal.skip_white-place-requires-in-labels
skip_white-place-requires-in-labels c = (end c).1

pub labels-preserved : goal.labels-preserved
labels-preserved c =
    let pushed = (goal.at.labels-preserved c).In_ok-push in
    let f = front pushed in
    let name : c.new.result ≡ c.in-Some.name.now = c.new.ensures ∙ c.in_ok-from_str.ensures.ok in
    rw (c.in_ok-push.ensures.items, name)
    (labelled_more c.in-Some.name.now c.in-Some.rest.now (length c.args.text.now - length c.in-Some.rest.now) c.skip_white-place-in-labels.result c.labels.invariant
    (rw c.range_from-in-labels.ensures.value at c.in-Some.ensures.label) (later_rest c.args.text.now c.labels.place f.0 c.in-Some.rest.now f.1) (end pushed).0 c.skip_white-place-in-labels.ensures.later c.skip_white-place-in-labels.ensures.skips)

pub returns-clause-labels : goal.returns-clause-labels
returns-clause-labels c =
    let place = c.labels.place in
    let test : false ≡ (slice_index (drop place c.args.text.now) 0 == 91) = search rules in
    rw c.new-2.ensures (labelled_all c.labels.invariant (lacks_test 91 (drop place c.args.text.now) test))
