use Rattle.std.proofs.Common.{◌≡◌, ◌-◌, ◌≤◌, ℕ, List, length}
use Rattle.av_host.specs.Calls.{Reads}
use Rattle.y4m_io.proofs.reader.skip.Given as goal

abbrev pub invariant-loop-skipped : goal.invariant-loop-skipped
invariant-loop-skipped g l = record {
  within : l.skipped ≤ l.most;
  read : (got : List ℕ) × (length got ≡ l.skipped) × Reads (g.H.Host.world l.initial.host) (g.H.Host.world l.host) l.id got;
  faults : (g.H.Host.world l.host).faults ≡ (g.H.Host.world l.initial.host).faults;
}

abbrev pub decreases-loop-skipped : goal.decreases-loop-skipped
decreases-loop-skipped g l = l.most - l.skipped
