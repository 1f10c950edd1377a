use Rattle.std.proofs.Common.{rules, ◌≡◌, Result, Ok, Err, OnErr, false, ap, sym, ◌∙◌}
use Rattle.std.proofs.lemmas.Bool.{false≢true}
use Rattle.std.specs.Result.{is_ok}
use Rattle.std.proofs.lemmas.Result.{err_from_is_err_and}
use Rattle.y4m_io.proofs.WriteLemmas.{frame_length}
use Rattle.y4m_io.proofs.writer.Writer.frame.Goals as goal

at_err : {T E : Type 0} (r : Result T E) (Q : Type 0) → is_ok r ≡ false → OnErr r Q → Q
at_err (Ok x) Q e h = absurd (false≢true (sym e))
at_err (Err x) Q e h = h

pub returns-in_err-map_err-clause-writes : goal.returns-in_err-map_err-clause-writes
returns-in_err-map_err-clause-writes g c =
    let p = err_from_is_err_and c.from_residual.result c.from_residual.ensures.1 in
    let part = at_err c.write_frame.result _ (sym c.map_err.ensures.variant ∙ ap is_ok c.in_err-map_err.was) c.write_frame.ensures.refused in
    rw p.1 (search (rules, part), search rules)

pub returns-clause-writes : goal.returns-clause-writes
returns-clause-writes g c =
    let size = frame_length c.args.frame.now c.write_frame.new.frame c.args.self.now.shape c.write_frame.ensures.same c.requires.shape c.shape.ensures.frame in
    (search rules, search (rules, size))

pub returns-clause-size : goal.returns-clause-size
returns-clause-size g c = frame_length c.args.frame.now c.write_frame.new.frame c.args.self.now.shape c.write_frame.ensures.same c.requires.shape c.shape.ensures.frame
