use Rattle.std.proofs.lemmas.Str.{IsCharBoundary-start}
use Rattle.av_expr.proofs.ParseLemmas.{after_fault}
use Rattle.av_expr.proofs.reader.read_text.Goals as goal

pub skip_white-start-requires : goal.skip_white-start-requires
skip_white-start-requires c = IsCharBoundary-start c.args.text.now c.utf8.text

pub returns-then-end-text-clause-fault : goal.returns-then-end-text-clause-fault
returns-then-end-text-clause-fault c = rw c.fault.ensures (after_fault c.skip_white-start.ensures.skips c.in_ok-end.ensures.read c.if-end-text.true)
