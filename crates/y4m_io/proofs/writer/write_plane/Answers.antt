use Rattle.std.proofs.Common.{List, ℕ, ap, ◌∙◌, arith}
use Rattle.std.proofs.lemmas.Result.{err_from_is_err_and}
use Rattle.av_frame.specs.Frames.{FrameValue, plane_at}
use Rattle.y4m_io.proofs.WriteLemmas.{Changes-rows, WritesPart-rows}
use Rattle.y4m_io.proofs.writer.write_plane.Goals as goal

pub returns-in_err-write_all-clause-refused : goal.returns-in_err-write_all-clause-refused
returns-in_err-write_all-clause-refused g c =
    let i = c.loop-row.invariant in
    let rows : FrameValue → List (List ℕ) = λ f. (plane_at f.planes c.args.plane).rows in
    let p = err_from_is_err_and c.from_residual.result c.from_residual.ensures.1 in
    rw p.1
    (WritesPart-rows c.loop-row.row c.min-count.result (rows c.args.frame.now) (rows c.loop-row.frame) c.copy_rows.new.out
    (ap rows i.same) c.copy_rows.ensures.out i.written c.in_err-write_all.ensures.refused)

pub loop-row-preserved : goal.loop-row-preserved
loop-row-preserved g c =
    let i = c.loop-row.invariant in
    let rows : FrameValue → List (List ℕ) = λ f. (plane_at f.planes c.args.plane).rows in
    record {
      within = omega (arith, c.min-count.ensures, c.loop-row-test.true);
      same = c.copy_rows.ensures.same ∙ i.same;
      written = Changes-rows c.loop-row.row c.min-count.result (rows c.args.frame.now) (rows c.loop-row.frame) c.copy_rows.new.out
          (ap rows i.same) c.copy_rows.ensures.out i.written c.in_ok-write_all.ensures.written;
      faults = c.in_ok-write_all.ensures.faults ∙ i.faults;
    }
