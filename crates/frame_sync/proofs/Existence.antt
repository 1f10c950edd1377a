-- Inputs have a list of events.
use Rattle.std.proofs.Common.{◌≡◌, ◌≤◌, ◌<ℤ◌, ◌≤ℤ◌, ◌++◌, ◌∙◌, ◌⊎◌, ℕ, zero, suc, ℤ, Bool, true, false, List, [], ◌∷◌, refl, sym, subst, arith, inl, inr}
use Rattle.std.proofs.lemmas.Bool.{cases_lt}
use Rattle.std.proofs.lemmas.Int.{ints}
use Rattle.std.proofs.lemmas.Option.{same_Some, none-some}
use Rattle.frame_sync.specs.declared.rules.Before.{Before}
use Rattle.frame_sync.specs.declared.rules.Before.TheVariants as before
use Rattle.frame_sync.specs.declared.rules.After.{After}
use Rattle.frame_sync.specs.declared.rules.After.TheVariants as after
use Rattle.frame_sync.specs.Framesync.{Input, SomeOne, EachOne, IsRising, HasAt, HasFrom, IsEvent, AreEvents}
use Rattle.av_base.proofs.Lists.{append_get_left}
use Rattle.frame_sync.specs.SlowEvents.{Allows, IsBelow, IsMet}
use Rattle.frame_sync.proofs.Pushes.{rising_none}
use Rattle.frame_sync.proofs.Rising.{Has}
use Rattle.frame_sync.proofs.Along.{cases_ltz}
use Rattle.frame_sync.proofs.SlowLemmas.{event_is, event_met, event_allowed}

-- ---- whether something is so

abbrev Decided : Type 0 → Type 0
Decided P = P ⊎ ¬ P

decide_both : {P Q : Type 0} → Decided P → Decided Q → Decided (P × Q)
decide_both (inl p) (inl q) = inl (p, q)
decide_both (inl p) (inr none) = inr (λ h. none h.1)
decide_both (inr none) q = inr (λ h. none h.0)

decide_if : {P Q : Type 0} → Decided P → Decided Q → Decided (P → Q)
decide_if p (inl q) = inl (λ _. q)
decide_if (inl p) (inr none) = inr (λ h. none (h p))
decide_if (inr without) (inr none) = inl (λ p. absurd (without p))

not_some : {X : Type 0} (P : X → Type 0) (x : X) (xs : List X) → ¬ P x → ¬ SomeOne xs P → SomeOne (x ∷ xs) P → ⊥
not_some P x xs none fewer (zero, y, e, p) = none (subst P (sym (same_Some x y e)) p)
not_some P x xs none fewer (suc k, y, e, p) = fewer (k, y, e, p)

decide_some : {X : Type 0} (P : X → Type 0) (xs : List X) → ((x : X) → Decided (P x)) → Decided (SomeOne xs P)
decide_some P [] d = inr (λ s. none-some s.1 s.2)
decide_some {X} P (x ∷ xs) d = elim (d x) [
  | inl p ↦ inl (0, x, refl, p)
  | inr none ↦ elim (decide_some P xs d) [
    | inl s ↦ inl (suc s.0, s.1, s.2, s.3)
    | inr fewer ↦ inr (not_some P x xs none fewer)
  ]
]

each_cons : {X : Type 0} (P : X → Type 0) (x : X) (xs : List X) → P x → EachOne xs P → EachOne (x ∷ xs) P
each_cons P x xs p each zero y e = subst P (same_Some x y e) p
each_cons P x xs p each (suc k) y e = each k y e

decide_each : {X : Type 0} (P : X → Type 0) (xs : List X) → ((x : X) → Decided (P x)) → Decided (EachOne xs P)
decide_each P [] d = inl (λ k x e. absurd (none-some x e))
decide_each {X} P (x ∷ xs) d = elim (d x) [
  | inl p ↦ elim (decide_each P xs d) [
    | inl each ↦ inl (each_cons P x xs p each)
    | inr none ↦ inr (λ each. none (λ k y e. each (suc k) y e))
  ]
  | inr none ↦ inr (λ each. none (each 0 x refl))
]

decide_same : (t u : ℤ) → Decided (u ≡ t)
decide_same t u = elim (cases_ltz t u) [
  | inl lt ↦ inr (λ e. omega (arith, ints))
  | inr le ↦ elim (cases_ltz u t) [ inl lt ↦ inr (λ e. omega (arith, ints)) | inr ge ↦ inl (omega (arith, ints)) ]
]

decide_le : (t u : ℤ) → Decided (t ≤ℤ u)
decide_le t u = elim (cases_ltz u t) [ inl lt ↦ inr (λ le. omega (arith, ints)) | inr le ↦ inl le ]

decide_ended : (b : Bool) → Decided (b ≡ false)
decide_ended true = inr (λ e. cc)
decide_ended false = inl refl

decide_before : (b : Before) → Decided (b ≡ before.Stop)
decide_before before.Stop = inl refl
decide_before before.Null = inr (λ e. cc)

decide_after : (a : After) → Decided (a ≡ after.Stop)
decide_after after.Stop = inl refl
decide_after after.Null = inr (λ e. cc)
decide_after after.Infinity = inr (λ e. cc)

decide_from : (t : ℤ) (i : Input) → Decided (HasFrom i t)
decide_from t i = decide_some (λ (u : ℤ). t ≤ℤ u) i.times (decide_le t)

decide_allows : (t : ℤ) (i : Input) → Decided (Allows t i)
decide_allows t i = elim (decide_both (decide_if (decide_before i.rule.before) (decide_some (λ (u : ℤ). u ≤ℤ t) i.times (λ u. decide_le u t)))
    (decide_both (decide_if (decide_after i.rule.after) (decide_from t i)) (decide_if (decide_ended i.ended) (decide_from t i)))) [
      | inl h ↦ inl (record { begun = h.0; lasting = h.1.0; ahead = h.1.1 })
      | inr none ↦ inr (λ a. none (a.begun, (a.lasting, a.ahead)))
    ]

decide_number : (m n : ℕ) → Decided (m ≤ n)
decide_number m n = elim (cases_lt n m) [ inl lt ↦ inr (λ le. omega arith) | inr le ↦ inl le ]

decide_met : (inputs : List Input) (t : ℤ) (i : Input) → Decided (IsMet inputs t i)
decide_met inputs t i = elim (decide_both (decide_some (λ (u : ℤ). u ≡ t) i.times (decide_same t))
    (decide_both (decide_number 1 i.rule.sync) (decide_each (IsBelow t i.rule.sync) inputs (λ j. decide_if (decide_from t j) (decide_number j.rule.sync i.rule.sync))))) [
      | inl h ↦ inl (record { at = h.0; above_0 = (let a = h.1.0 in omega arith); top = h.1.1 })
      | inr none ↦ inr (λ m. none (m.at, ((let a = m.above_0 in omega arith), m.top)))
    ]

decide_event : (inputs : List Input) (t : ℤ) → Decided (IsEvent inputs t)
decide_event inputs t = elim (decide_both (decide_some (IsMet inputs t) inputs (decide_met inputs t)) (decide_each (Allows t) inputs (decide_allows t))) [
  | inl h ↦ inl (event_is inputs t h.0 h.1)
  | inr none ↦ inr (λ e. none (event_met inputs t e, event_allowed inputs t e))
]

-- ---- a rising list of some of the times

rising_cons : (x : ℤ) (ts : List ℤ) → EachOne ts (λ u. x <ℤ u) → IsRising ts → IsRising (x ∷ ts)
rising_cons x ts past r zero zero t u lt e f = absurd (omega arith)
rising_cons x ts past r zero (suc n) t u lt e f = subst (λ (z : ℤ). z <ℤ u) (same_Some x t e) (past n u f)
rising_cons x ts past r (suc m) zero t u lt e f = absurd (omega arith)
rising_cons x ts past r (suc m) (suc n) t u lt e f = r m n t u (omega arith) e f

rising_rest : (x : ℤ) (ts : List ℤ) → IsRising (x ∷ ts) → IsRising ts
rising_rest x ts r m n t u lt e f = r (suc m) (suc n) t u (omega arith) e f

-- the list has the time and those of another, and no more
record Adds (t : ℤ) (ts : List ℤ) : Type 0 where
  all : List ℤ
  rising : IsRising all
  has : (u : ℤ) → Has ts u ⊎ (u ≡ t) → Has all u
  only : (u : ℤ) → Has all u → Has ts u ⊎ (u ≡ t)

has_rest : (x : ℤ) (ts : List ℤ) (u : ℤ) → Has ts u → Has (x ∷ ts) u
has_rest x ts u h = (suc h.0, h.1, h.2, h.3)

has_parts : (x : ℤ) (ts : List ℤ) (u : ℤ) → Has (x ∷ ts) u → (u ≡ x) ⊎ Has ts u
has_parts x ts u (zero, v, e, same) = inl (sym same ∙ sym (same_Some x v e))
has_parts x ts u (suc k, v, e, same) = inr (k, v, e, same)

has_first : (x : ℤ) (ts : List ℤ) (u : ℤ) → u ≡ x → Has (x ∷ ts) u
has_first x ts u e = (0, x, refl, sym e)

adds_first : (t : ℤ) (ts : List ℤ) → IsRising ts → EachOne ts (λ u. t <ℤ u) → Adds t ts
adds_first t ts r past = record {
  all = t ∷ ts;
  rising = rising_cons t ts past r;
  has = λ u h. elim h [ inl old ↦ has_rest t ts u old | inr same ↦ has_first t ts u same ];
  only = λ u h. elim (has_parts t ts u h) [ inl same ↦ inr same | inr old ↦ inl old ];
}

adds_none : (t : ℤ) (ts : List ℤ) → IsRising ts → Has ts t → Adds t ts
adds_none t ts r here = record {
  all = ts;
  rising = r;
  has = λ u h. elim h [ inl old ↦ old | inr same ↦ subst (Has ts) (sym same) here ];
  only = λ u h. inl h;
}

adds_after : (t x : ℤ) (ts : List ℤ) → IsRising (x ∷ ts) → x <ℤ t → Adds t ts → Adds t (x ∷ ts)
adds_after t x ts r lt a = record {
  all = x ∷ a.all;
  rising = rising_cons x a.all (λ k u e. elim (a.only u (k, u, e, refl)) [
    | inl old ↦ (let p : x <ℤ old.1 = r 0 (suc old.0) x old.1 (omega arith) refl old.2 in let q : old.1 ≡ u = old.3 in omega (arith, ints))
    | inr same ↦ omega (arith, ints)
  ]) a.rising;
  has = λ u h. elim h [
    | inl old ↦ elim (has_parts x ts u old) [ inl same ↦ has_first x a.all u same | inr rest ↦ has_rest x a.all u (a.has u (inl rest)) ]
    | inr same ↦ has_rest x a.all u (a.has u (inr same))
  ];
  only = λ u h. elim (has_parts x a.all u h) [
    | inl same ↦ inl (has_first x ts u same)
    | inr rest ↦ elim (a.only u rest) [ inl old ↦ inl (has_rest x ts u old) | inr same ↦ inr same ]
  ];
}

add_time : (t : ℤ) (ts : List ℤ) → IsRising ts → Adds t ts
add_time t [] r = adds_first t [] r (λ k u e. absurd (none-some u e))
add_time t (x ∷ ts) r = elim (cases_ltz x t) [
  | inl after ↦ adds_after t x ts r after (add_time t ts (rising_rest x ts r))
  | inr le ↦ elim (cases_ltz t x) [
    | inl first ↦ adds_first t (x ∷ ts) r (each_cons (λ (u : ℤ). t <ℤ u) x ts first (λ k u e. let p : x <ℤ u = r 0 (suc k) x u (omega arith) refl e in omega (arith, ints)))
    | inr ge ↦ adds_none t (x ∷ ts) r (has_first x ts t (omega (arith, ints)))
  ]
]

-- the events among some times
record Chosen (inputs : List Input) (ts : List ℤ) : Type 0 where
  all : List ℤ
  rising : IsRising all
  has : (u : ℤ) → Has ts u → IsEvent inputs u → Has all u
  only : (u : ℤ) → Has all u → IsEvent inputs u

choose : (inputs : List Input) (ts : List ℤ) → Chosen inputs ts
choose inputs [] = record { all = []; rising = rising_none; has = λ u h e. absurd (none-some h.1 h.2); only = λ u h. absurd (none-some h.1 h.2) }
choose inputs (t ∷ ts) = elim (decide_event inputs t) [
  | inl event ↦ (
      let rest = choose inputs ts in
      let a = add_time t rest.all rest.rising in
      record {
        all = a.all;
        rising = a.rising;
        has = λ u h e. elim (has_parts t ts u h) [ inl same ↦ a.has u (inr same) | inr old ↦ a.has u (inl (rest.has u old e)) ];
        only = λ u h. elim (a.only u h) [ inl old ↦ rest.only u old | inr same ↦ subst (IsEvent inputs) (sym same) event ];
      }
      )
  | inr none ↦ (
      let rest = choose inputs ts in
      record {
        all = rest.all;
        rising = rest.rising;
        has = λ u h e. elim (has_parts t ts u h) [ inl same ↦ absurd (none (subst (IsEvent inputs) same e)) | inr old ↦ rest.has u old e ];
        only = rest.only;
      }
      )
]

-- ---- the times of all inputs

abbrev all_times : List Input → List ℤ
all_times [] = []
all_times (i ∷ is) = i.times ++ all_times is

has_left : (xs ys : List ℤ) (u : ℤ) → Has xs u → Has (xs ++ ys) u
has_left xs ys u h = (h.0, h.1, append_get_left xs ys h.0 h.1 h.2, h.3)

has_right : (xs ys : List ℤ) (u : ℤ) → Has ys u → Has (xs ++ ys) u
has_right [] ys u h = h
has_right (x ∷ xs) ys u h = has_rest x (xs ++ ys) u (has_right xs ys u h)

has_time : (inputs : List Input) (u : ℤ) → SomeOne inputs (λ (i : Input). HasAt i u) → Has (all_times inputs) u
has_time [] u s = absurd (none-some s.1 s.2)
has_time (i ∷ is) u (zero, j, e, at) = has_left i.times (all_times is) u (subst (λ (z : Input). HasAt z u) (sym (same_Some i j e)) at)
has_time (i ∷ is) u (suc k, j, e, at) = has_right i.times (all_times is) u (has_time is u (k, j, e, at))

pub there_are_events : (inputs : List Input) → (events : List ℤ) × AreEvents inputs events
there_are_events inputs = let c = choose inputs (all_times inputs) in (
  c.all,
  record {
    rising = c.rising;
    each = λ k t e. c.only t (k, t, e, refl);
    all = λ t event. c.has t (has_time inputs t event.settled.here) event;
  },
)
