use Rattle.std.proofs.Common.{◌≡◌, ◌∙◌, ◌++◌, List, length, take, drop, sym, subst, arith}
use Rattle.std.proofs.lemmas.List.{take_at}
use Rattle.frame_sync.specs.Histories.{returned}
use Rattle.frame_sync.specs.Lanes.{LaneValue}
use Rattle.frame_sync.specs.Timelines.{Represents}
use Rattle.frame_sync.proofs.timeline.Timeline.next.Goals as goal

pub returns-clause-next : goal.returns-clause-next
returns-clause-next c = λ h represents.
    let old : List LaneValue = c.self.inside.lanes.items in
    let new : List LaneValue = c.advance.new.lanes in
    let many : length new ≡ c.self.inside.lanes.len = (let a = c.advance.auto.lanes in let b = c.as_mut_slice.ensures.len in omega arith) in
    let back : take c.self.inside.lanes.len (new ++ drop (length new) old) ≡ new = take_at new (drop (length new) old) c.self.inside.lanes.len many in
    let now : Represents c.as_mut_slice.result.now h = subst (λ (ls : List LaneValue). Represents ls h) (sym (c.as_mut_slice.ensures.value ∙ c.self.view_is)) represents in
    let next = c.advance.ensures.next h now in
    (next.0, subst (λ (ls : List LaneValue). Represents ls (returned c.advance.result h)) (sym back) next.1)
