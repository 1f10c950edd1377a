use Rattle.av_frame.proofs.PlanesLemmas.{Made, turned}
use Rattle.av_frame.proofs.frame.turn_planes.Given as goal

abbrev pub invariant-loop-plane : goal.invariant-loop-plane
invariant-loop-plane l = Made l.fn.shape (turned l.fn.shape l.initial.planes) l.initial.planes l.planes l.plane
