use Rattle.std.proofs.Common.{arith, rules, below_more}
use Rattle.std.proofs.lemmas.List.{length-map}
use Rattle.av_words.specs.WordRoles.{said_of, line_of}
use Rattle.av_words.specs.WordChecks.{HasNoneAt}
use Rattle.av_words.proofs.WordCheckLemmas.{no_item, line_more, first_found, word_within}
use Rattle.av_words.proofs.word_checks.check_items.Goals as goal
use Rattle.av_base.proofs.FailureLemmas.{fault_then}

pub returns-in_err-check_item-clause-fault : goal.returns-in_err-check_item-clause-fault
returns-in_err-check_item-clause-fault c =
    let line = line_of c.args.items.now in
    let fault = fault_then (Unit {0}) (Unit {0}) c.in_err-check_item.field-0.0 _ _ (λ f is. first_found line c.items.number f c.items.invariant.clean is) c.in_err-check_item.ensures.fault in
    search rules

pub items-preserved : goal.items-preserved
items-preserved c = record {
  read = rw (line_more c.args.items.now c.items.number no_item c.items-test.true) (c.in_ok-note.ensures.noted _ c.items.invariant.read);
  clean = below_more (HasNoneAt (line_of c.args.items.now)) c.items.number c.items.invariant.clean c.in_ok-check_item.ensures.none;
}

pub returns-clause-none : goal.returns-clause-none
returns-clause-none c n fault is has =
    let line = line_of c.args.items.now in
    let within = word_within line n fault is has in
    c.items.invariant.clean n (omega (arith, length-map c.args.items.now said_of)) fault is has
