use Rattle.av_text.proofs.Runs.{run_boundary}
use Rattle.av_text.proofs.classes.split_run.Goals as goal

pub split_at-requires : goal.split_at-requires
split_at-requires c =
    let same = c.as_bytes.ensures.value in
    run_boundary c.args.class c.args.text.now c.run_len.result c.utf8.text (rw same at c.run_len.ensures.within) (rw same at c.run_len.ensures.run.each)
