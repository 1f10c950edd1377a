use Rattle.std.proofs.Common.{take}
use Rattle.frame_sync.specs.Lanes.{AreEach}
use Rattle.frame_sync.proofs.Growing.{IsFresh}
use Rattle.frame_sync.proofs.timeline.Timeline.new.Given as goal

abbrev pub invariant-rules : goal.invariant-rules
invariant-rules l = AreEach IsFresh l.lanes.items (take l.rule-index l.rule-items)
