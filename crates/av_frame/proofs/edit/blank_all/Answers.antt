use Rattle.av_frame.proofs.PictureLemmas.{blank_more}
use Rattle.av_frame.proofs.edit.blank_all.Goals as goal

pub loop-plane-preserved : goal.loop-plane-preserved
loop-plane-preserved c =
    let size = c.plane_size-columns in
    blank_more c.args.shape c.loop-plane.plane size.result.0 size.result.1 c.in_ok-plane.plane c.loop-plane.planes.items c.push.new.self.items
    c.in_ok-push.ensures.items c.loop-plane.invariant c.in_ok-plane.ensures size.ensures.columns size.ensures.rows
