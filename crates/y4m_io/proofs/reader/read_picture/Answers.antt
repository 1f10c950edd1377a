use Rattle.std.proofs.Common.{◌≡◌, ◌<◌, ◌∙◌, ap, arith}
use Rattle.std.proofs.lemmas.Result.{err_from_is_err_and}
use Rattle.av_base.specs.declared.shapes.Shape.{Shape}
use Rattle.av_base.specs.Shapes.{planes_of}
use Rattle.y4m_io.proofs.ReadLemmas.{ReadsSome-append, ReadsPlanes-more, ReadsPlanes-short}
use Rattle.y4m_io.proofs.reader.read_picture.Goals as goal

pub returns-in_err-read_plane-clause-refused : goal.returns-in_err-read_plane-clause-refused
returns-in_err-read_plane-clause-refused g c =
    let p = err_from_is_err_and c.from_residual.result c.from_residual.ensures.1 in
    rw p.1 (ReadsSome-append (_, c.loop-plane.invariant.planes.reads) c.in_err-read_plane.ensures.refused)

pub loop-plane-preserved : goal.loop-plane-preserved
loop-plane-preserved g c =
    let now = c.in_ok-read_plane.ensures in
    let less : c.loop-plane.plane < planes_of c.loop-plane.edit.shape = let n : c.planes.result ≡ planes_of c.loop-plane.edit.shape = c.planes.ensures ∙ ap (λ (s : Shape). planes_of s) c.shape.ensures.shape in omega arith in
    record {
      planes = ReadsPlanes-more c.loop-plane.invariant.planes c.shape.ensures.picture less (rw c.in-Whole.is at now.read);
      faults = now.faults ∙ c.loop-plane.invariant.faults;
    }

pub returns-in-Short-clause-read : goal.returns-in-Short-clause-read
returns-in-Short-clause-read g c =
    let now = c.in_ok-read_plane.ensures in
    let less : c.loop-plane.plane < planes_of c.loop-plane.edit.shape = let n : c.planes.result ≡ planes_of c.loop-plane.edit.shape = c.planes.ensures ∙ ap (λ (s : Shape). planes_of s) c.shape.ensures.shape in omega arith in
    ReadsPlanes-short c.loop-plane.invariant.planes c.shape.ensures.picture less (rw c.in-Short.is at now.read)
