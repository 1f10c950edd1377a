use Rattle.std.proofs.Common.{rules, refl, arith}
use Rattle.av_filter.proofs.OptionLemmas.{none_read, one_more, first_fault, all_given, all_taken, at_place, late_more}
use Rattle.av_filter.proofs.options.read_arguments.Goals as goal

pub reading-init : goal.reading-init
reading-init g c = record { late = refl; read = none_read c.requires.defaults }

pub returns-in_err-read_argument-clause-refused : goal.returns-in_err-read_argument-clause-refused
returns-in_err-read_argument-clause-refused g c =
    let args = c.args.args.now in
    let is = at_place args c.as_slice-arg-items.result.now c.reading.place c.arg-item.result c.as_slice-arg-items.ensures (omega arith) c.arg-item.is in
    let fault = first_fault c.reading.invariant.read (c.in_err-read_argument.ensures.refused args is c.reading.invariant.late) in
    search rules

pub reading-preserved : goal.reading-preserved
reading-preserved g c =
    let args = c.args.args.now in
    let is = at_place args c.as_slice-arg-items.result.now c.reading.place c.arg-item.result c.as_slice-arg-items.ensures (omega arith) c.arg-item.is in
    let late = c.reading.invariant.late in
    record {
      late = rw c.is_some-is_late.ensures (late_more args c.reading.place c.arg-item.result c.reading.is_late is late);
      read = one_more c.reading.invariant.read (c.in_ok-read_argument.ensures.read args is late) (c.in_ok-read_argument.ensures.taken args is late);
    }

pub returns-clause-read : goal.returns-clause-read
returns-clause-read g c = all_given c.reading.invariant.read (let same = c.as_slice-arg-items.ensures in rw same at c.reading-test.false)

pub returns-clause-taken : goal.returns-clause-taken
returns-clause-taken g c = all_taken c.reading.invariant.read (let same = c.as_slice-arg-items.ensures in rw same at c.reading-test.false)
