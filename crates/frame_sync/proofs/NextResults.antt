-- What `next` returns if nothing is passed.
use Rattle.std.proofs.Common.{◌≡◌, ◌<ℤ◌, ◌≤ℤ◌, ◌+◌, ◌++◌, ◌∙◌, ℕ, ℤ, List, [], ◌∷◌, Option, Some, None, length, refl, sym, subst, ap, arith, inl, inr}
use Rattle.std.specs.List.{slice_get}
use Rattle.std.proofs.lemmas.Bool.{cases_Bool}
use Rattle.std.proofs.lemmas.Int.{ints}
use Rattle.std.proofs.lemmas.List.{length_push}
use Rattle.std.proofs.lemmas.Option.{none-some}
use Rattle.frame_sync.specs.declared.rules.Rule.{Rule}
use Rattle.frame_sync.specs.declared.rules.Step.TheVariants.{Need, Done}
use Rattle.frame_sync.specs.declared.stamp.Stamp.{Stamp}
use Rattle.frame_sync.specs.Framesync.{Input, EachOne, IsSettled, IsEvent, AreEvents, IsOver, HasEnded, NeverBegins, Stops, AllOver}
use Rattle.av_base.specs.First.{IsFirst}
use Rattle.frame_sync.specs.Histories.{History, IsNext}
use Rattle.frame_sync.specs.Lanes.{LaneValue, IsSpent, IsDone, IsHungryAt}
use Rattle.frame_sync.specs.Timelines.{IsLatest, Keeps, Represents}
use Rattle.frame_sync.proofs.Along.{partner, partner_back}
use Rattle.frame_sync.proofs.Keeping.{frame_cases, waiting_frame, waits_none}

-- if no event comes after the clock, all were returned
all_returned : {lanes : List LaneValue} {h : History} (s : Represents lanes h) → ((t : ℤ) → IsEvent h.inputs t → t ≤ℤ s.clock) → AreEvents h.inputs h.events
all_returned s up_to = record { rising = s.rising; each = λ k t e. (s.each k t e).0; all = λ t e. s.all t e (up_to t e) }

-- with nothing waiting all frames were passed
frame_passed : {c : ℤ} {l : LaneValue} {i : Input} → Keeps c l i → l.waiting ≡ [] → EachOne i.times (λ (t : ℤ). t ≤ℤ c)
frame_passed {c} {l} {i} h none n t e = elim (frame_cases h n t e) [
  | inl was ↦ h.reached n t was
  | inr w ↦ absurd (none-some t (subst (λ (ts : List ℤ). slice_get ts w.0 ≡ Some t) none w.2))
]

-- and if all frames were passed, nothing waits
nothing_left : {c : ℤ} {l : LaneValue} {i : Input} → Keeps c l i → EachOne i.times (λ (t : ℤ). t ≤ℤ c) → l.waiting ≡ []
nothing_left {c} {l} {i} h all = waits_none l.waiting (λ k t e.
    let a : t ≤ℤ c = all (length h.passed + k) t (waiting_frame h k t e) in
    let b : c <ℤ t = h.ahead k t e in
    omega (arith, ints))

-- what was passed is settled
passed_settled : {lanes : List LaneValue} {h : History} (s : Represents lanes h) (k : ℕ) (i : Input) → slice_get h.inputs k ≡ Some i → EachOne i.times (λ (t : ℤ). t ≤ℤ s.clock) → EachOne i.times (IsSettled h.inputs)
passed_settled s k i at all n t e = s.settled t (k, i, at, (n, t, e, refl)) (all n t e)

-- ---- Done

spent_over : {lanes : List LaneValue} {h : History} (s : Represents lanes h) (k : ℕ) (l : LaneValue) (i : Input) → slice_get h.inputs k ≡ Some i → Keeps s.clock l i → IsSpent l → IsOver h.inputs i
spent_over s k l i at keeps spent = record { ended = sym keeps.ended ∙ spent.0; settled = passed_settled s k i at (frame_passed keeps spent.1) }

no_frames : {c : ℤ} {l : LaneValue} {i : Input} → Keeps c l i → l.waiting ≡ [] → l.latest ≡ None → i.times ≡ []
no_frames {c} {l} {i} h none never =
    let passed : h.passed ≡ [] = subst (IsLatest h.passed) never h.latest in
    h.times ∙ (ap (λ (ts : List ℤ). ts ++ l.waiting) passed ∙ none)

pub is_done : {lanes : List LaneValue} {h : History} → Represents lanes h → IsDone lanes → IsNext h Done
is_done {lanes} {h} s done = elim done [
  | inl one ↦ (
      let i = partner s.keeps one.0 one.1 one.2 in
      elim one.3 [
        | inl never ↦ (
            let none = no_frames i.2 never.1.1 never.2 in
            let stop = ap (λ (r : Rule). r.before) (sym i.2.rule) ∙ never.0 in (
              all_returned s (λ t e. let up = e.begun one.0 i.0 i.1 stop in absurd (none-some up.1 (subst (λ (ts : List ℤ). slice_get ts up.0 ≡ Some up.1) none up.2))),
              NeverBegins (one.0, i.0, i.1, (stop, sym i.2.ended ∙ never.1.0, none)),
            )
            )
        | inr stops ↦ (
            let stop = ap (λ (r : Rule). r.after) (sym i.2.rule) ∙ stops.0 in (
              all_returned s (λ t e.
                  let from = e.lasting one.0 i.0 i.1 stop in
                  let a : t ≤ℤ from.1 = from.3 in
                  let b : from.1 ≤ℤ s.clock = frame_passed i.2 stops.1.1 from.0 from.1 from.2 in
                  omega (arith, ints)),
              Stops (one.0, i.0, i.1, (stop, spent_over s one.0 one.1 i.0 i.1 i.2 stops.1)),
            )
            )
      ]
      )
  | inr all ↦ (
    all_returned s (λ t e.
        let m = e.meets in
        let l = partner_back s.keeps m.0 m.1 m.2 in
        let spent = all m.0 l.0 l.1 (let a = ap (λ (r : Rule). r.sync) l.2.rule in let b = m.3.1 in let d = e.above_0 in omega arith) in
        let at = m.3.0 in
        let a : at.1 ≤ℤ s.clock = frame_passed l.2 spent.1 at.0 at.1 at.2 in
        let b : at.1 ≡ t = at.3 in
        omega (arith, ints)),
    AllOver (λ k i at above.
        let l = partner_back s.keeps k i at in
        spent_over s k l.0 i at l.2 (all k l.0 l.1 (let a = ap (λ (r : Rule). r.sync) l.2.rule in omega arith))),
  )
]

-- ---- Need

-- if an input is open with nothing waiting, only what was passed is settled
settled_passed : {lanes : List LaneValue} {h : History} (s : Represents lanes h) (k : ℕ) → IsHungryAt lanes k → (t : ℤ) → IsSettled h.inputs t → t ≤ℤ s.clock
settled_passed s k hungry t settled =
    let i = partner s.keeps k hungry.0 hungry.1 in
    let from = settled.ahead k i.0 i.1 (sym i.2.ended ∙ hungry.2.0) in
    let a : t ≤ℤ from.1 = from.3 in
    let b : from.1 ≤ℤ s.clock = frame_passed i.2 hungry.2.1 from.0 from.1 from.2 in
    omega (arith, ints)

over_spent : {lanes : List LaneValue} {h : History} (s : Represents lanes h) (k : ℕ) → IsHungryAt lanes k → (l : LaneValue) (i : Input) → Keeps s.clock l i → IsOver h.inputs i → IsSpent l
over_spent s k hungry l i keeps over = (keeps.ended ∙ over.ended, nothing_left keeps (λ n t e. settled_passed s k hungry t (over.settled n t e)))

nothing_in : (xs ys : List ℤ) → xs ++ ys ≡ [] → (xs ≡ []) × (ys ≡ [])
nothing_in [] ys e = (refl, e)
nothing_in (x ∷ xs) ys e = absurd (cc)

never : (passed : List ℤ) (latest : Option Stamp) → IsLatest passed latest → passed ≡ [] → latest ≡ None
never passed None is e = refl
never passed (Some s) is e = absurd (let a = ap (λ (ts : List ℤ). length ts) (sym e ∙ is.1) in let b = length_push is.0 s.pts in omega arith)

-- there the events haven't ended unless all is done
not_ended : {lanes : List LaneValue} {h : History} (s : Represents lanes h) (k : ℕ) → IsHungryAt lanes k → HasEnded h.inputs → IsDone lanes
not_ended {lanes} {h} s k hungry (NeverBegins p) =
    let l = partner_back s.keeps p.0 p.1 p.2 in
    let none = nothing_in l.2.passed l.0.waiting (sym l.2.times ∙ p.3.2) in
    inl (p.0, l.0, l.1, inl (ap (λ (r : Rule). r.before) l.2.rule ∙ p.3.0, (l.2.ended ∙ p.3.1, none.1), never l.2.passed l.0.latest l.2.latest none.0))
not_ended {lanes} {h} s k hungry (Stops p) =
    let l = partner_back s.keeps p.0 p.1 p.2 in
    inl (p.0, l.0, l.1, inr (ap (λ (r : Rule). r.after) l.2.rule ∙ p.3.0, over_spent s k hungry l.0 p.1 l.2 p.3.1))
not_ended {lanes} {h} s k hungry (AllOver p) = inr (λ j l e above.
    let i = partner s.keeps j l e in
    over_spent s k hungry l i.0 i.2 (p j i.0 i.1 (let a = ap (λ (r : Rule). r.sync) i.2.rule in omega arith)))

pub is_need : {lanes : List LaneValue} {h : History} (k : ℕ) → Represents lanes h → ¬ IsDone lanes → IsFirst (IsHungryAt lanes) k → IsNext h (Need k)
is_need {lanes} {h} k s lasting first = (
  all_returned s (λ t e. settled_passed s k hungry t e.settled),
  λ ended. lasting (not_ended s k hungry ended),
  record {
    holds = (let i = partner s.keeps k hungry.0 hungry.1 in (i.0, i.1, sym i.2.ended ∙ hungry.2.0, passed_settled s k i.0 i.1 (frame_passed i.2 hungry.2.1)));
    none_before = λ j lt awaited.
        let l = partner_back s.keeps j awaited.0 awaited.1 in
        first.none_before j lt (l.0, l.1, (l.2.ended ∙ awaited.2, nothing_left l.2 (λ n t e. settled_passed s k hungry t (awaited.3 n t e))));
  },
) where
  hungry : IsHungryAt lanes k
  hungry = first.holds

-- ---- if nothing waits at all

pub all_spent : (lanes : List LaneValue) → EachOne lanes (λ (l : LaneValue). l.waiting ≡ []) → ((k : ℕ) → IsHungryAt lanes k → ⊥) → IsDone lanes
all_spent lanes none fed = inr (λ k l e above. (
  elim (cases_Bool l.ended) [ inl shut ↦ shut | inr is_open ↦ absurd (fed k (l, e, (is_open, none k l e))) ],
  none k l e,
))
