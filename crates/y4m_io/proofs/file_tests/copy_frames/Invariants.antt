use Rattle.std.proofs.Common.{◌≡◌, IsTrue, IsSome}
use Rattle.y4m_io.specs.declared.y4m_state.Stage.TheVariants.{Headed}
use Rattle.y4m_io.specs.declared.y4m_state.Progress.TheVariants.{Started}
use Rattle.y4m_io.proofs.file_tests.copy_frames.Given as goal

abbrev pub invariant-loop-frame : goal.invariant-loop-frame
invariant-loop-frame g l = record {
  is_open : IsTrue ((g.H.Host.world l.host).inputs.is_open l.reader.id);
  named : IsSome ((g.H.Host.world l.host).outputs.name l.writer.id);
  stage : l.reader.stage ≡ Headed l.fn.shape;
  started : l.writer.progress ≡ Started;
  shape : l.writer.shape ≡ l.fn.shape;
}

abbrev pub decreases-loop-frame : goal.decreases-loop-frame
decreases-loop-frame g l = l.reader.room
