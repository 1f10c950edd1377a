use Rattle.std.proofs.Common.{◌<◌, arith}
use Rattle.std.proofs.lemmas.Bool.Decides.{Decides-ltb}
use Rattle.av_words.specs.declared.word_roles.Role.TheVariants.{File}
use Rattle.av_words.proofs.WordCheckLemmas.{one_after, none_after, never_after}
use Rattle.av_words.proofs.word_checks.has_file_after.Goals as goal

pub returns-in-Some-clause-after : goal.returns-in-Some-clause-after
returns-in-Some-clause-after c line last t =
    let is = rw c.in-Some.is at last in
    one_after line c.args.number c.in-Some.last File is.0 is.1 ((Decides-ltb c.args.number c.in-Some.last).0 t)

pub returns-in-Some-clause-none : goal.returns-in-Some-clause-none
returns-in-Some-clause-none c line last not =
    let is = rw c.in-Some.is at last in
    let more : c.args.number < c.in-Some.last → ⊥ = λ h. not ((Decides-ltb c.args.number c.in-Some.last).1 h) in
    none_after line c.args.number c.in-Some.last File is.0 is.1 (omega arith)

pub returns-in-None-clause-none : goal.returns-in-None-clause-none
returns-in-None-clause-none c line last not = never_after line c.args.number File (rw c.in-None.is at last)
