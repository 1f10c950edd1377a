use Rattle.std.proofs.Common.{◌<◌, List, length, set, refl, sym, subst}
use Rattle.std.proofs.lemmas.Option.{slice_get_read}
use Rattle.frame_sync.specs.Histories.{ended}
use Rattle.frame_sync.specs.Lanes.{LaneValue}
use Rattle.frame_sync.specs.Timelines.{Represents}
use Rattle.frame_sync.proofs.Growing.{represents_ended}
use Rattle.frame_sync.proofs.timeline.Timeline.end.Goals as goal

pub returns : goal.returns
returns c = λ h represents.
    let lanes : List LaneValue = c.self.inside.lanes.items in
    let l : LaneValue = c.index_mut.result.now in
    let now : Represents lanes h = subst (λ (ls : List LaneValue). Represents ls h) (sym c.self.view_is) represents in
    let within = subst (λ (ls : List LaneValue). c.args.input < length ls) (sym c.self.view_is) c.requires in
    subst (λ (m : LaneValue). Represents (set lanes c.args.input m) (ended c.args.input h)) (sym c.end.ensures)
    (represents_ended lanes h c.args.input l (slice_get_read lanes (length lanes) c.args.input l refl within c.index_mut.ensures.value) now)
