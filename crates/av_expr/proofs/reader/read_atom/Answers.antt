use Rattle.std.proofs.Common.{refl, inl, inr}
use Rattle.av_expr.specs.Trees.{Number, Variable}
use Rattle.av_expr.proofs.MarkLemmas.{nothing_begins}
use Rattle.av_expr.proofs.reader.read_atom.Goals as goal

pub returns-in_ok-push-in-Some-Number-clause-read : goal.returns-in_ok-push-in-Some-Number-clause-read
returns-in_ok-push-in-Some-Number-clause-read c =
    let t = c.in_ok-value-in-Some-Number in
    record { tree = Number t.value; is_part = inl (t.value, refl, t.ensures.number); added = c.in_ok-push-in-Some-Number.ensures.items; later = t.ensures.later }

pub returns-in_ok-push-in-Some-Name-clause-read : goal.returns-in_ok-push-in-Some-Name-clause-read
returns-in_ok-push-in-Some-Name-clause-read c =
    let t = c.in_ok-var-in-Some-Name in
    record { tree = Variable t.var; is_part = inr (t.var, refl, t.ensures.variable); added = c.in_ok-push-in-Some-Name.ensures.items; later = t.ensures.later }

pub returns-in-None-clause-fault : goal.returns-in-None-clause-fault
returns-in-None-clause-fault c = rw c.fault.ensures (nothing_begins c.args.allowed c.args.text.now c.args.place c.requires.place.0 c.in-None.ensures c.requires.no_level)
