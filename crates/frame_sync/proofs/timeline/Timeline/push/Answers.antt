use Rattle.std.proofs.Common.{◌≡◌, ◌++◌, ◌∷◌, ◌∙◌, ℤ, [], Ok, Err, Result, List, length, set, refl, sym, ap, subst, false, w64, to_z, of_z}
use Rattle.std.specs.Prelude.{OnOk}
use Rattle.std.proofs.lemmas.Int.{to_z-of_z}
use Rattle.std.proofs.lemmas.Option.{slice_get_read, slice_get_within, same_Some}
use Rattle.frame_sync.specs.Histories.{pushed}
use Rattle.frame_sync.specs.Lanes.{LaneValue, IsPast, IsOpen, IsPastAt}
use Rattle.frame_sync.specs.Timelines.{Represents}
use Rattle.frame_sync.proofs.Growing.{represents_pushed}
use Rattle.frame_sync.proofs.timeline.Timeline.push.Goals as goal

on_ok : {X E : Type 0} (r : Result X E) {P Q : Type 0} → (P → Q) → OnOk r P → OnOk r Q
on_ok (Ok x) f p = f p
on_ok (Err e) f p = tt

pub push-requires : goal.push-requires
push-requires c =
    let l : LaneValue = c.index_mut.result.now in
    let lanes : List LaneValue = c.self.inside.lanes.items in
    let is_open : IsOpen lanes c.args.input = subst (λ (ls : List LaneValue). IsOpen ls c.args.input) (sym c.self.view_is) c.requires.open in
    let within = slice_get_within lanes c.args.input is_open.0 is_open.1 in
    let at = slice_get_read lanes (length lanes) c.args.input l refl within c.index_mut.ensures.value in
    let past : IsPastAt lanes c.args.input c.args.pts = subst (λ (ls : List LaneValue). IsPastAt ls c.args.input c.args.pts) (sym c.self.view_is) c.requires.past in
    subst (IsPast l) (sym (to_z-of_z w64 c.args.pts c.ranges.pts)) (past l at)

pub returns-clause-pushed : goal.returns-clause-pushed
returns-clause-pushed c =
    let l : LaneValue = c.index_mut.result.now in
    let lanes : List LaneValue = c.self.inside.lanes.items in
    let is_open : IsOpen lanes c.args.input = subst (λ (ls : List LaneValue). IsOpen ls c.args.input) (sym c.self.view_is) c.requires.open in
    let within = slice_get_within lanes c.args.input is_open.0 is_open.1 in
    let at = slice_get_read lanes (length lanes) c.args.input l refl within c.index_mut.ensures.value in
    let past : IsPastAt lanes c.args.input c.args.pts = subst (λ (ls : List LaneValue). IsPastAt ls c.args.input c.args.pts) (sym c.self.view_is) c.requires.past in
    let still = subst (λ (z : LaneValue). z.ended ≡ false) (same_Some is_open.0 l (sym is_open.1 ∙ at)) is_open.2 in
    let t : ℤ = to_z w64 (of_z w64 c.args.pts) in
    on_ok c.push.result (λ e h represents.
    let now : Represents lanes h = subst (λ (ls : List LaneValue). Represents ls h) (sym c.self.view_is) represents in
    let same : t ≡ c.args.pts = to_z-of_z w64 c.args.pts c.ranges.pts in
    let is : c.push.new.self ≡ record l { waiting = l.waiting ++ c.args.pts ∷ [] } = e ∙ ap (λ (z : ℤ). record l { waiting = l.waiting ++ z ∷ [] }) same in
    subst (λ (m : LaneValue). Represents (set lanes c.args.input m) (pushed c.args.input c.args.pts h)) (sym is) (represents_pushed lanes h c.args.input c.args.pts l at still (past l at) c.ranges.pts now)) c.push.ensures.pushed
