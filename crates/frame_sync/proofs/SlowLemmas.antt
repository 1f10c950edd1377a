-- What a plain slow program finds is what the definition means.
use Rattle.std.proofs.Common.{◌≡◌, ◌<◌, ◌<ℤ◌, ◌≤ℤ◌, ◌+ℤ◌, ◌++◌, ℕ, ℤ, pos, Bool, true, false, IsTrue, List, [], ◌∷◌, length, get_or, refl, sym, subst, arith, inl, inr, w64, to_z, of_z}
use lib.Signed.{lt_z}
use mir.Val.{SFits}
use Rattle.std.proofs.lemmas.Int.{ints, to_z-of_z}
use Rattle.std.proofs.lemmas.Option.{slice_get_read, none-some}
use Rattle.frame_sync.specs.Framesync.{Input, SomeOne, EachOne, IsRising, HasAt, HasFrom, IsEvent, AreEvents}
use Rattle.av_base.proofs.Lists.{pushed_at}
use Rattle.frame_sync.specs.SlowEvents.{Allows, IsMet, AreFew}
use Rattle.frame_sync.proofs.Pushes.{rising_none, rising_more}
use Rattle.frame_sync.proofs.Rising.{Has, has_last, has_pushed}
use Rattle.frame_sync.proofs.Along.{cases_ltz}

-- a test of a time as the program hands it on is a test of the time
pub at_value : (P : ℤ → Type 0) (b : Bool) (t : ℤ) → SFits w64 t → (IsTrue b → P (to_z w64 (of_z w64 t))) × (P (to_z w64 (of_z w64 t)) → IsTrue b) → (IsTrue b → P t) × (P t → IsTrue b)
at_value P b t fits h = let e = to_z-of_z w64 t fits in ((λ x. subst P e (h.0 x)), (λ p. h.1 (subst P (sym e) p)))

-- one item isn't so, and so not each is
pub not_each : {X : Type 0} (P : X → Type 0) (xs : List X) (i : ℕ) (x : X) → i < length xs → x ≡ get_or xs i x → (P x → ⊥) → EachOne xs P → ⊥
not_each P xs i x within is none each = none (each i x (slice_get_read xs (length xs) i x refl within is))

from_at : (i : Input) (t : ℤ) → HasAt i t → HasFrom i t
from_at i t h = (h.0, h.1, h.2, let e : h.1 ≡ t = h.3 in omega (arith, ints))

-- an input meets the time, and each allows it
pub event_is : (inputs : List Input) (t : ℤ) → SomeOne inputs (IsMet inputs t) → EachOne inputs (Allows t) → IsEvent inputs t
event_is inputs t met all =
    let m = met.3 in
    record {
      settled = record { here = (met.0, met.1, met.2, m.at); ahead = λ k i e. (all k i e).ahead };
      level = met.1.rule.sync;
      is_level = record { reached = (met.0, met.1, met.2, (from_at met.1 t m.at, refl)); greatest = m.top };
      above_0 = m.above_0;
      meets = (met.0, met.1, met.2, (m.at, refl));
      begun = λ k i e. (all k i e).begun;
      lasting = λ k i e. (all k i e).lasting;
    }

pub event_met : (inputs : List Input) (t : ℤ) → IsEvent inputs t → SomeOne inputs (IsMet inputs t)
event_met inputs t e =
    let m = e.meets in (
      m.0,
      m.1,
      m.2,
      record {
        at = m.3.0;
        above_0 = (let a = e.above_0 in let b = m.3.1 in omega arith);
        top = λ k i at from. let a = e.is_level.greatest k i at from in let b = m.3.1 in omega arith;
      },
    )

pub event_allowed : (inputs : List Input) (t : ℤ) → IsEvent inputs t → EachOne inputs (Allows t)
event_allowed inputs t e = λ k i at. record { begun = e.begun k i at; lasting = e.lasting k i at; ahead = e.settled.ahead k i at }

-- what holds at the program's value of a time holds at the time
pub each_at_value : (P : ℤ → Input → Type 0) (inputs : List Input) (t : ℤ) → SFits w64 t → EachOne inputs (P (to_z w64 (of_z w64 t))) → EachOne inputs (P t)
each_at_value P inputs t fits h = subst (λ (z : ℤ). EachOne inputs (P z)) (to_z-of_z w64 t fits) h

pub some_at_value : (P : ℤ → Input → Type 0) (inputs : List Input) (t : ℤ) → SFits w64 t → SomeOne inputs (P t) → SomeOne inputs (P (to_z w64 (of_z w64 t)))
some_at_value P inputs t fits h = subst (λ (z : ℤ). SomeOne inputs (P z)) (sym (to_z-of_z w64 t fits)) h

-- ---- all events

-- these are the events before a time, from 0 on
pub record FoundBelow (inputs : List Input) (t : ℤ) (events : List ℤ) : Type 0 where
  pub rising : IsRising events
  pub each : EachOne events (λ u. IsEvent inputs u × (u <ℤ t))
  pub all : (u : ℤ) → pos 0 ≤ℤ u → u <ℤ t → IsEvent inputs u → Has events u

pub found_none : (inputs : List Input) (events : List ℤ) → events ≡ [] → FoundBelow inputs (pos 0) events
found_none inputs events e = subst (FoundBelow inputs (pos 0)) (sym e) (record {
  rising = rising_none;
  each = λ k u at. absurd (none-some u at);
  all = λ u low lt event. absurd (omega (arith, ints));
})

pub found_more : (inputs : List Input) (t next : ℤ) (events more : List ℤ) → next ≡ t +ℤ pos 1 → IsEvent inputs t → more ≡ events ++ t ∷ [] → FoundBelow inputs t events → FoundBelow inputs next more
found_more inputs t next events more then event e h = subst (FoundBelow inputs next) (sym e) (record {
  rising = rising_more events t h.rising (λ k u at. (h.each k u at).1);
  each = λ k u at. elim (pushed_at events t k u at) [
    | inl old ↦ (let a = h.each k u old in (a.0, let b = a.1 in omega (arith, ints)))
    | inr last ↦ (subst (IsEvent inputs) (sym last.1) event, let a : u ≡ t = last.1 in omega (arith, ints))
  ];
  all = λ u low lt is. elim (cases_ltz u t) [
    | inl less ↦ has_pushed events t u (h.all u low less is)
    | inr from ↦ subst (Has (events ++ t ∷ [])) (let a : t ≡ u = omega (arith, ints) in a) (has_last events t)
  ];
})

pub found_same : (inputs : List Input) (t next : ℤ) (events : List ℤ) → next ≡ t +ℤ pos 1 → (IsEvent inputs t → ⊥) → FoundBelow inputs t events → FoundBelow inputs next events
found_same inputs t next events then none h = record {
  rising = h.rising;
  each = λ k u at. (let a = h.each k u at in (a.0, let b = a.1 in omega (arith, ints)));
  all = λ u low lt is. elim (cases_ltz u t) [
    | inl less ↦ h.all u low less is
    | inr from ↦ absurd (none (subst (IsEvent inputs) (let a : u ≡ t = omega (arith, ints) in a) is))
  ];
}

pub found_all : (inputs : List Input) (t : ℤ) (events : List ℤ) → pos 6 ≤ℤ t → FoundBelow inputs t events → AreFew inputs → AreEvents inputs events
found_all inputs t events end h few = record {
  rising = h.rising;
  each = λ k u at. (h.each k u at).0;
  all = λ u event.
      let here = event.settled.here in
      let at = here.3 in
      let bounds = few here.0 here.1 here.2 at.0 at.1 at.2 in
      let same : at.1 ≡ u = at.3 in
      let low : pos 0 ≤ℤ at.1 = bounds.0 in
      let high : at.1 <ℤ pos 6 = bounds.1 in
      h.all u (omega (arith, ints)) (omega (arith, ints)) event;
}

-- what the test of a loop over times means
pub is_less : (a b : ℤ) → lt_z a b ≡ true → a <ℤ b
is_less a b e = grind (arith, ints)

pub is_from : (a b : ℤ) → lt_z a b ≡ false → b ≤ℤ a
is_from a b e = grind (arith, ints)
