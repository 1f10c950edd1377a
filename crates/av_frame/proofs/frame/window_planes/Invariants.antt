use Rattle.av_frame.proofs.PlanesLemmas.{Made, windowed}
use Rattle.av_frame.proofs.frame.window_planes.Given as goal

abbrev pub invariant-loop-plane : goal.invariant-loop-plane
invariant-loop-plane l = Made l.shape (windowed l.whole l.x l.y l.initial.planes) l.initial.planes l.planes l.plane
