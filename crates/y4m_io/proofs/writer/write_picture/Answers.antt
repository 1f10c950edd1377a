use Rattle.std.proofs.Common.{◌<◌, length, ap, ◌∙◌, arith}
use Rattle.std.proofs.lemmas.Result.{err_from_is_err_and}
use Rattle.av_base.specs.Shapes.{planes_of}
use Rattle.av_frame.specs.Frames.{FrameValue}
use Rattle.y4m_io.proofs.WriteLemmas.{Changes-plane, WritesPart-plane}
use Rattle.y4m_io.proofs.writer.write_picture.Goals as goal

pub returns-in_err-write_plane-clause-refused : goal.returns-in_err-write_plane-clause-refused
returns-in_err-write_plane-clause-refused g c =
    let i = c.loop-plane.invariant in
    let p = err_from_is_err_and c.from_residual.result c.from_residual.ensures.1 in
    let many = c.shape.ensures.frame.picture.sizes.count in
    let shape = ap planes_of c.shape.ensures.shape in
    let less : c.loop-plane.plane < length c.args.frame.now.planes = omega (arith, c.loop-plane-test.true, c.planes-plane-end.ensures) in
    rw p.1
    (WritesPart-plane c.loop-plane.plane c.args.frame.now.planes c.loop-plane.frame.planes
    (ap (λ (f : FrameValue). f.planes) i.same) less i.written c.in_err-write_plane.ensures.refused)

pub loop-plane-preserved : goal.loop-plane-preserved
loop-plane-preserved g c =
    let i = c.loop-plane.invariant in
    let many = c.shape.ensures.frame.picture.sizes.count in
    let shape = ap planes_of c.shape.ensures.shape in
    let less : c.loop-plane.plane < length c.args.frame.now.planes = omega (arith, c.loop-plane-test.true, c.planes-plane-end.ensures) in
    record {
      same = c.write_plane.ensures.same ∙ i.same;
      written = Changes-plane c.loop-plane.plane c.args.frame.now.planes c.loop-plane.frame.planes
          (ap (λ (f : FrameValue). f.planes) i.same) less i.written c.in_ok-write_plane.ensures.written;
      faults = c.in_ok-write_plane.ensures.faults ∙ i.faults;
    }
