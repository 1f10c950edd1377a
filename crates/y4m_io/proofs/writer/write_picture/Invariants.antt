use Rattle.std.proofs.Common.{◌≡◌, take}
use Rattle.av_host.specs.Calls.{Changes, appended}
use Rattle.y4m_io.specs.FrameTexts.{picture_text}
use Rattle.y4m_io.proofs.writer.write_picture.Given as goal

abbrev pub invariant-loop-plane : goal.invariant-loop-plane
invariant-loop-plane g l = record {
  same : l.frame ≡ l.initial.frame;
  written : Changes (g.H.Host.world l.initial.host) (g.H.Host.world l.host) l.id (appended (picture_text (take l.plane l.initial.frame.planes)));
  faults : (g.H.Host.world l.host).faults ≡ (g.H.Host.world l.initial.host).faults;
}
