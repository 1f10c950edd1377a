use Rattle.std.proofs.Common.{ℤ, sym, subst, arith, w64, to_z, of_z}
use Rattle.std.proofs.lemmas.Int.{to_z-of_z}
use Rattle.frame_sync.specs.Lanes.{MakesEvent, PassesAll, ShowsAll}
use Rattle.frame_sync.proofs.Turning.{Turns, represents_passed, represents_shown, begin_returned, count_less, count_shown}
use Rattle.frame_sync.proofs.lanes.turn.Goals as goal

pub returns-then-is_event-clause-event : goal.returns-then-is_event-clause-event
returns-then-is_event-clause-event c = λ h represents true'.
    let e = to_z-of_z w64 c.args.pts c.ranges.pts in
    let t : Turns c.args.lanes.now h c.args.pts = record { represents = represents; earliest = c.requires.earliest; fed = c.requires.fed; lasting = c.requires.lasting } in
    let passes : PassesAll c.args.lanes.now c.args.pts c.pass_all.new.lanes = subst (λ (z : ℤ). PassesAll c.args.lanes.now z c.pass_all.new.lanes) e c.pass_all.ensures in
    let shows : ShowsAll c.pass_all.new.lanes c.args.pts c.show_all.new.lanes = subst (λ (z : ℤ). ShowsAll c.pass_all.new.lanes z c.show_all.new.lanes) e c.show_all.ensures in
    let makes : MakesEvent c.args.lanes.now c.args.pts = subst (MakesEvent c.args.lanes.now) e (c.makes_event-is_event.ensures.0 true') in
    let new = represents_shown t passes shows makes in
    (begin_returned new, new)

pub returns-then-is_event-clause-fewer : goal.returns-then-is_event-clause-fewer
returns-then-is_event-clause-fewer c =
    let e = to_z-of_z w64 c.args.pts c.ranges.pts in
    let passes : PassesAll c.args.lanes.now c.args.pts c.pass_all.new.lanes = subst (λ (z : ℤ). PassesAll c.args.lanes.now z c.pass_all.new.lanes) e c.pass_all.ensures in
    let less = count_less c.args.pts c.args.lanes.now c.pass_all.new.lanes passes c.requires.earliest.here in
    let same = count_shown (to_z w64 (of_z w64 c.args.pts)) c.pass_all.new.lanes c.show_all.new.lanes c.show_all.ensures in
    omega arith

pub returns-else-is_event-clause-none : goal.returns-else-is_event-clause-none
returns-else-is_event-clause-none c = λ h represents false'.
    let e = to_z-of_z w64 c.args.pts c.ranges.pts in
    let t : Turns c.args.lanes.now h c.args.pts = record { represents = represents; earliest = c.requires.earliest; fed = c.requires.fed; lasting = c.requires.lasting } in
    let passes : PassesAll c.args.lanes.now c.args.pts c.pass_all.new.lanes = subst (λ (z : ℤ). PassesAll c.args.lanes.now z c.pass_all.new.lanes) e c.pass_all.ensures in
    represents_passed t passes (λ makes.
    let is = c.makes_event-is_event.ensures.1 (subst (MakesEvent c.args.lanes.now) (sym e) makes) in
    let isnt = c.if-is_event.false in
    cc)

pub returns-else-is_event-clause-fewer : goal.returns-else-is_event-clause-fewer
returns-else-is_event-clause-fewer c =
    let e = to_z-of_z w64 c.args.pts c.ranges.pts in
    let passes : PassesAll c.args.lanes.now c.args.pts c.pass_all.new.lanes = subst (λ (z : ℤ). PassesAll c.args.lanes.now z c.pass_all.new.lanes) e c.pass_all.ensures in
    count_less c.args.pts c.args.lanes.now c.pass_all.new.lanes passes c.requires.earliest.here
