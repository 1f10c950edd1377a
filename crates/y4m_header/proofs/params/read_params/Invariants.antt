use Rattle.std.proofs.Common.{◌≡◌, drop, length}
use Rattle.std.specs.List.{slice_split}
use Rattle.y4m_header.specs.Params.{is_space}
use Rattle.y4m_header.specs.Walk.{unsaid, outcome, with_gap}
use Rattle.y4m_header.proofs.params.read_params.Given as goal

abbrev pub invariant-loop-piece : goal.invariant-loop-piece
invariant-loop-piece l =
    outcome l.latest (with_gap l.gap (drop (length l.yielded) (slice_split is_space l.text))) ≡ outcome unsaid (slice_split is_space l.text)
