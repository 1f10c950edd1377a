use Rattle.std.proofs.Common.{◌<◌, ℕ}
use Rattle.filt_video.specs.Shuffleplanes.{IsFilled}
use Rattle.filt_video.proofs.shuffleplanes.check_planes.Given as goal

abbrev pub invariant-loop-plane : goal.invariant-loop-plane
invariant-loop-plane l = (p : ℕ) → p < l.plane → IsFilled l.shape l.order.maps p
