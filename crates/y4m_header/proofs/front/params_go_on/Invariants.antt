use Rattle.std.proofs.Common.{drop, length}
use Rattle.std.specs.List.{slice_split}
use Rattle.y4m_header.specs.Params.{is_space}
use Rattle.y4m_header.proofs.FrontWalk.{Walks}
use Rattle.y4m_header.proofs.front.params_go_on.Given as goal

abbrev pub invariant-loop-piece : goal.invariant-loop-piece
invariant-loop-piece l = Walks l.latest l.last (drop (length l.yielded) (slice_split is_space l.text)) (slice_split is_space l.text)
