use Rattle.std.proofs.lemmas.Result.{err_from_is_err_and}
use Rattle.av_host.proofs.Runs.{Changes-append}
use Rattle.y4m_io.specs.FrameTexts.{frame_mark, picture_text}
use Rattle.y4m_io.proofs.WriteLemmas.{WritesPart-front, WritesPart-after}
use Rattle.y4m_io.proofs.writer.write_frame.Goals as goal

pub returns-in_err-write_all-clause-refused : goal.returns-in_err-write_all-clause-refused
returns-in_err-write_all-clause-refused g c =
    let p = err_from_is_err_and c.from_residual.result c.from_residual.ensures.1 in
    rw p.1 (WritesPart-front frame_mark (picture_text c.args.frame.now.planes) c.in_err-write_all.ensures.refused)

pub returns-in_err-write_picture-clause-refused : goal.returns-in_err-write_picture-clause-refused
returns-in_err-write_picture-clause-refused g c =
    let p = err_from_is_err_and c.from_residual-in_err-write_picture.result c.from_residual-in_err-write_picture.ensures.1 in
    rw p.1 (WritesPart-after frame_mark (picture_text c.args.frame.now.planes) c.in_ok-write_all.ensures.written c.in_err-write_picture.ensures.refused)

pub returns-clause-written : goal.returns-clause-written
returns-clause-written g c =
    Changes-append frame_mark (picture_text c.args.frame.now.planes) c.in_ok-write_all.ensures.written c.in_ok-write_picture.ensures.written
