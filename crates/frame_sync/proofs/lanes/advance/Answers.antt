use Rattle.std.proofs.Common.{◌≡◌, ◌<◌, ◌^◌, ℕ, [], arith, rules}
use Rattle.std.proofs.lemmas.Option.{MatchOption-at_none, MatchOption-at_some, slice_get_within}
use Rattle.frame_sync.specs.Framesync.{EachOne}
use Rattle.av_base.specs.First.{IsFirst}
use Rattle.frame_sync.specs.Lanes.{LaneValue, IsHungryAt, IsEarliestTime}
use Rattle.frame_sync.proofs.NextResults.{is_done, is_need, all_spent}
use Rattle.frame_sync.proofs.lanes.advance.Goals as goal

pub returns-then-is_done-clause-next : goal.returns-then-is_done-clause-next
returns-then-is_done-clause-next c = λ h represents. let now = c.turns.invariant h represents in (is_done now (c.is_done.ensures.0 c.if-is_done.true), now)

pub overflow_cast-input : goal.overflow_cast-input
overflow_cast-input c =
    let first = MatchOption-at_some ((k : ℕ) → IsHungryAt c.turns.lanes k → ⊥) (IsFirst (IsHungryAt c.turns.lanes)) c.in-Some.input c.in-Some.is c.first_hungry.ensures in
    let lt = slice_get_within c.turns.lanes c.in-Some.input first.holds.0 first.holds.1 in
    let h : c.in-Some.input < 2 ^ 32 = omega arith in
    search rules

pub returns-in-Some-clause-next : goal.returns-in-Some-clause-next
returns-in-Some-clause-next c = λ h represents.
    let now = c.turns.invariant h represents in
    let first = MatchOption-at_some ((k : ℕ) → IsHungryAt c.turns.lanes k → ⊥) (IsFirst (IsHungryAt c.turns.lanes)) c.in-Some.input c.in-Some.is c.first_hungry.ensures in
    (is_need c.in-Some.input now (λ done. let e = c.is_done.ensures.1 done in let f = c.if-is_done.false in cc) first, now)

pub returns-in_default-earliest_time-clause-next : goal.returns-in_default-earliest_time-clause-next
returns-in_default-earliest_time-clause-next c = λ h represents.
    let now = c.turns.invariant h represents in
    let fed = MatchOption-at_none ((k : ℕ) → IsHungryAt c.turns.lanes k → ⊥) (IsFirst (IsHungryAt c.turns.lanes)) c.in_default.is c.first_hungry.ensures in
    let none = MatchOption-at_none (EachOne c.turns.lanes (λ (l : LaneValue). l.waiting ≡ [])) (IsEarliestTime c.turns.lanes) c.in_default-earliest_time.is c.earliest_time.ensures in
    (is_done now (all_spent c.turns.lanes none fed), now)

pub returns-in_default-earliest_time-clause-left : goal.returns-in_default-earliest_time-clause-left
returns-in_default-earliest_time-clause-left c =
    let fed = MatchOption-at_none ((k : ℕ) → IsHungryAt c.turns.lanes k → ⊥) (IsFirst (IsHungryAt c.turns.lanes)) c.in_default.is c.first_hungry.ensures in
    let none = MatchOption-at_none (EachOne c.turns.lanes (λ (l : LaneValue). l.waiting ≡ [])) (IsEarliestTime c.turns.lanes) c.in_default-earliest_time.is c.earliest_time.ensures in
    all_spent c.turns.lanes none fed

pub returns-then-turn-clause-next : goal.returns-then-turn-clause-next
returns-then-turn-clause-next c = λ h represents. c.turn.ensures.event h (c.turns.invariant h represents) c.if-turn.true

pub turns-preserved : goal.turns-preserved
turns-preserved c = λ h represents. c.turn.ensures.none h (c.turns.invariant h represents) c.if-turn.false
