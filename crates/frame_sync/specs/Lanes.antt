-- What is kept of each input: what waits, and of what was passed the last one alone.
use Rattle.std.specs.Prelude.{◌≡◌, ◌≢◌, ◌<◌, ◌≤◌, ◌+◌, ◌^◌, ◌⊎◌, ◌<ℤ◌, ◌≤ℤ◌, ◌+ℤ◌, ℕ, ℤ, pos, List, [], ◌∷◌, Bool, true, false, Option, Some, None, length, IfSome}
use Rattle.std.specs.List.{slice_get}
use Rattle.frame_sync.specs.declared.rules.Rule.{Rule}
use Rattle.frame_sync.specs.declared.rules.Before.TheVariants as before
use Rattle.frame_sync.specs.declared.rules.After.TheVariants as after
use Rattle.frame_sync.specs.declared.stamp.Stamp.{Stamp}
use Rattle.frame_sync.specs.Framesync.{SomeOne, EachOne, IsRising}

-- The last frame that was passed, the times that wait, and the current frame at the last event.
pub record LaneValue : Type 0 where
  pub rule : Rule
  pub latest : Option Stamp
  pub waiting : List ℤ
  pub ended : Bool
  pub current : Option ℕ

-- every time that waits is past the last one that was passed, and a frame has no greater number than its time allows
pub record IsSound (l : LaneValue) : Type 0 where
  pub rising : IsRising l.waiting
  pub past : IfSome l.latest (λ (s : Stamp). EachOne l.waiting (λ t. s.pts <ℤ t))
  pub few : IfSome l.latest (λ (s : Stamp). pos s.number ≤ℤ (s.pts +ℤ pos (2 ^ 63)))

-- it has ended with nothing waiting
abbrev pub IsSpent : LaneValue → Type 0
IsSpent l = (l.ended ≡ true) × (l.waiting ≡ [])

-- it is open with nothing waiting
abbrev pub IsHungry : LaneValue → Type 0
IsHungry l = (l.ended ≡ false) × (l.waiting ≡ [])

-- it is Stop-before and has ended without any timestamp, or it is Stop-after and has ended with nothing waiting
abbrev pub EndsAll : LaneValue → Type 0
EndsAll l = ((l.rule.before ≡ before.Stop) × IsSpent l × (l.latest ≡ None)) ⊎ ((l.rule.after ≡ after.Stop) × IsSpent l)

-- one ends all, or every one of sync above 0 has ended with nothing waiting
abbrev pub IsDone : List LaneValue → Type 0
IsDone lanes = SomeOne lanes EndsAll ⊎ EachOne lanes (λ l. 0 < l.rule.sync → IsSpent l)

-- this one is open with nothing waiting
abbrev pub IsHungryAt : List LaneValue → ℕ → Type 0
IsHungryAt lanes k = (l : LaneValue) × (slice_get lanes k ≡ Some l) × IsHungry l

-- the first time that waits
abbrev pub Heads : LaneValue → ℤ → Type 0
Heads l t = slice_get l.waiting 0 ≡ Some t

-- the earlier of two times, either of which may be missing
abbrev pub IsEarlier : Option ℤ → Option ℤ → Option ℤ → Type 0
IsEarlier a b None = (a ≡ None) × (b ≡ None)
IsEarlier a b (Some t) = ((a ≡ Some t) ⊎ (b ≡ Some t)) × ((u : ℤ) → a ≡ Some u → t ≤ℤ u) × ((u : ℤ) → b ≡ Some u → t ≤ℤ u)

-- the earliest time that waits
pub record IsEarliestTime (lanes : List LaneValue) (t : ℤ) : Type 0 where
  pub here : SomeOne lanes (λ l. Heads l t)
  pub earliest : EachOne lanes (λ l. (u : ℤ) → Heads l u → t ≤ℤ u)

-- the greatest sync of those with something waiting, or 0
pub record IsTop (lanes : List LaneValue) (level : ℕ) : Type 0 where
  pub reached : 0 < level → SomeOne lanes (λ l. (l.waiting ≢ []) × (l.rule.sync ≡ level))
  pub greatest : EachOne lanes (λ l. l.waiting ≢ [] → l.rule.sync ≤ level)

-- a timestamp not later than the earliest that waits
abbrev pub HasBegun : LaneValue → ℤ → Type 0
HasBegun l t = (l.latest ≢ None) ⊎ Heads l t

-- what makes the earliest time that waits an event
pub record MakesEvent (lanes : List LaneValue) (t : ℤ) : Type 0 where
  pub level : ℕ
  pub top : IsTop lanes level
  pub above_0 : 0 < level
  pub meets : SomeOne lanes (λ l. Heads l t × (l.rule.sync ≡ level))
  pub begun : EachOne lanes (λ l. l.rule.before ≡ before.Stop → HasBegun l t)

-- the number of the next frame to be passed
abbrev pub next_number : Option Stamp → ℕ
next_number None = 0
next_number (Some s) = s.number + 1

-- a time is passed if it is the first that waits
abbrev pub Passes : LaneValue → ℤ → LaneValue → Type 0
Passes old t new = ((old.waiting ≡ t ∷ new.waiting) × (new ≡ record old { waiting = new.waiting; latest = Some (record { number = next_number old.latest; pts = t }) }))
    ⊎ ((¬ Heads old t) × (new ≡ old))

-- it is Null-after, has ended, and its last frame was passed before the time
pub record HasLeft (l : LaneValue) (t : ℤ) : Type 0 where
  pub rule : l.rule.after ≡ after.Null
  pub spent : IsSpent l
  pub before : IfSome l.latest (λ (s : Stamp). s.pts <ℤ t)

-- its current frame is the last one that was passed, if there is one and it hasn't left
abbrev pub IsCurrentOf : LaneValue → ℤ → Option ℕ → Type 0
IsCurrentOf l t None = (l.latest ≡ None) ⊎ HasLeft l t
IsCurrentOf l t (Some number) = ((s : Stamp) × (l.latest ≡ Some s) × (s.number ≡ number)) × ¬ HasLeft l t

-- the two lists are as long, and related one by one
pub record AreEach {X Y : Type 0} (R : X → Y → Type 0) (xs : List X) (ys : List Y) : Type 0 where
  pub same : length xs ≡ length ys
  pub each : (k : ℕ) (x : X) (y : Y) → slice_get xs k ≡ Some x → slice_get ys k ≡ Some y → R x y

-- a time is passed by all inputs
abbrev pub PassesAll : List LaneValue → ℤ → List LaneValue → Type 0
PassesAll old t new = AreEach (λ l m. Passes l t m) old new

-- the current frames become those at the time
abbrev pub Shows : LaneValue → ℤ → LaneValue → Type 0
Shows old t new = (new ≡ record old { current = new.current }) × IsCurrentOf old t new.current

abbrev pub ShowsAll : List LaneValue → ℤ → List LaneValue → Type 0
ShowsAll old t new = AreEach (λ l m. Shows l t m) old new

-- the number of times that wait
abbrev pub waiting_count : List LaneValue → ℕ
waiting_count [] = 0
waiting_count (l ∷ ls) = length l.waiting + waiting_count ls

-- an open input of the timeline
abbrev pub IsOpen : List LaneValue → ℕ → Type 0
IsOpen lanes k = (l : LaneValue) × (slice_get lanes k ≡ Some l) × (l.ended ≡ false)

-- a time past the last one of what is kept of an input
abbrev pub IsPast : LaneValue → ℤ → Type 0
IsPast l t = EachOne l.waiting (λ u. u <ℤ t) × IfSome l.latest (λ (s : Stamp). s.pts <ℤ t)

-- a time past the last one of an input of the timeline
abbrev pub IsPastAt : List LaneValue → ℕ → ℤ → Type 0
IsPastAt lanes k t = (l : LaneValue) → slice_get lanes k ≡ Some l → IsPast l t
