use Rattle.std.proofs.Common.{rules, refl, sym, arith}
use Rattle.std.proofs.lemmas.Bool.{false≢true}
use Rattle.graph_plan.proofs.BindLemmas.{pad_within, kind_wrong, kind_fits, all_fit}
use Rattle.graph_plan.proofs.bind.first_wrong.Goals as goal

pub offset_bounds-pads-place : goal.offset_bounds-pads-place
offset_bounds-pads-place c = let within = pad_within c.requires.found c.files.output c.files-test.true in search rules

pub bounds-pads-place : goal.bounds-pads-place
bounds-pads-place c = pad_within c.requires.found c.files.output c.files-test.true

pub bounds-pads-place-in-files : goal.bounds-pads-place-in-files
bounds-pads-place-in-files c = pad_within c.requires.found c.files.output c.files-test.true

pub returns-then-cannot_take-clause-wrong : goal.returns-then-cannot_take-clause-wrong
returns-then-cannot_take-clause-wrong c =
    let h = c.if-cannot_take.ensures in
    kind_wrong c.files.output c.index-files-output.result c.index-pads-place.result c.requires.found c.files-test.true c.index-files-output.is c.index-pads-place.is (rw (sym c.index-files-output.is, sym c.index-pads-place.is) at (h.0 refl)) c.files.invariant

pub files-preserved : goal.files-preserved
files-preserved c =
    let h = c.if-cannot_take.ensures in
    let fits = rw (sym c.index-files-output.is, sym c.index-pads-place.is) at h.1 in
    kind_fits c.files.output c.index-files-output.result c.index-pads-place.result c.requires.found c.files-test.true c.index-files-output.is c.index-pads-place.is (λ cannot. false≢true (fits cannot)) c.files.invariant

pub returns-clause-none : goal.returns-clause-none
returns-clause-none c = λ none. all_fit c.files.output (let all = c.files-test.false in omega (arith, c.requires.each)) c.files.invariant
