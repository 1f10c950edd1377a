use Rattle.std.proofs.Common.{◌∙◌, None, ap, sym}
use Rattle.std.specs.Option.{is_some}
use Rattle.av_words.specs.WordFaults.{waiting}
use Rattle.av_words.proofs.WordCheckLemmas.{said_as, waiting_more}
use Rattle.av_words.proofs.word_checks.Seen.note.Goals as goal

pub returns-clause-noted : goal.returns-clause-noted
returns-clause-noted c before read =
    let role = c.args.item.role in
    let word = c.args.item.word.now in
    record {
      inputs = c.in_ok-note_name.ensures.noted before read.inputs;
      outputs = c.in_ok-note_name-2.ensures.noted before read.outputs;
      waits = c.waits_after-self.ensures word (waiting None before) read.waits ∙ ap is_some (sym (waiting_more None before (said_as role word)));
    }
