-- Laws on events.
use Rattle.std.proofs.Common.{◌≡◌, ◌<◌, ◌<ℤ◌, ◌≤ℤ◌, ◌++◌, ◌∙◌, ◌⊎◌, ℕ, ℤ, true, List, [], ◌∷◌, Option, Some, None, length, refl, sym, subst, ap, arith, inl, inr}
use Rattle.std.specs.List.{slice_get}
use Rattle.std.proofs.lemmas.Bool.{cases_lt}
use Rattle.std.proofs.lemmas.Int.{ints}
use Rattle.std.proofs.lemmas.Option.{none-some}
use Rattle.av_base.proofs.Arithmetic.{first_same}
use Rattle.frame_sync.specs.declared.rules.Rule.{Rule}
use Rattle.frame_sync.specs.declared.rules.Step.{Step}
use Rattle.frame_sync.specs.declared.rules.Step.TheVariants.{Event, Need, Done}
use Rattle.frame_sync.specs.declared.rules.Before.TheVariants as before
use Rattle.frame_sync.specs.declared.rules.After.TheVariants as after
use Rattle.frame_sync.specs.Framesync.{Input, EachOne, IsEvent, AreEvents, BeginEvents, IsLast, IsCurrent, IsOver, HasEnded, NeverBegins, Stops, AllOver}
use Rattle.av_base.proofs.Lists.{get_within}
use Rattle.frame_sync.specs.Histories.{History, IsNext, IsShown}
use Rattle.frame_sync.specs.Laws.{BeginsList, BeginsInput, BeginInputs, EventsBegin, EventsAreOne}
use Rattle.frame_sync.proofs.Rising.{Has, begins, one_list, has_last, pushed_has, not_before}
use Rattle.frame_sync.proofs.Along.{some_along, each_along, partner, partner_back, cases_ltz}
use Rattle.frame_sync.proofs.Existence.{there_are_events}
use Rattle.frame_sync.proofs.Agreeing.{AreReached, reached_before, settled_along, event_grows, event_shrinks, current_grows}

-- ---- all events begin all events

pub events_begin_themselves : (inputs : List Input) (xs : List ℤ) → AreEvents inputs xs → BeginEvents inputs xs
events_begin_themselves inputs xs h = record { rising = h.rising; each = h.each; first = λ t e _. h.all t e }

each_has : (inputs : List Input) (xs : List ℤ) (t : ℤ) → EachOne xs (IsEvent inputs) → Has xs t → IsEvent inputs t
each_has inputs xs t each h = subst (IsEvent inputs) h.3 (each h.0 h.1 h.2)

pub begins_events : (inputs : List Input) (xs ys : List ℤ) → BeginEvents inputs xs → AreEvents inputs ys → BeginsList xs ys
begins_events inputs xs ys p q = begins xs ys p.rising q.rising
    (λ t h. q.all t (each_has inputs xs t p.each h))
    (λ t u h g le. p.first t (each_has inputs ys t q.each h) (g.0, g.1, g.2, let e : g.1 ≡ u = g.3 in omega (arith, ints)))

pub one_list_of_events : (inputs : List Input) (xs ys : List ℤ) → AreEvents inputs xs → AreEvents inputs ys → xs ≡ ys
one_list_of_events inputs xs ys p q = one_list xs ys p.rising q.rising (λ t h. q.all t (each_has inputs xs t p.each h)) (λ t h. p.all t (each_has inputs ys t q.each h))

-- ---- events of inputs that begin others

pub returned_begin : (a b : List Input) (xs : List ℤ) → BeginInputs a b → BeginEvents a xs → BeginEvents b xs
returned_begin a b xs h p = record {
  rising = p.rising;
  each = λ k t e. event_grows t h (p.each k t e);
  first = λ t e g. p.first t (event_shrinks t h (reached_before a g.1 t g.3 (p.each g.0 g.1 g.2).settled.ahead) e) g;
}

-- a time up to which all is settled, once the events have ended
over_reached : (a b : List Input) (t : ℤ) → BeginInputs a b → HasEnded a → IsEvent b t → AreReached a t
over_reached a b t h (NeverBegins s) e =
    let j = partner h.each s.0 s.1 s.2 in
    let up = e.begun s.0 j.0 j.1 (ap (λ (r : Rule). r.before) (sym j.2.rule) ∙ s.3.0) in
    absurd (none-some up.1 (subst (λ (ts : List ℤ). slice_get ts up.0 ≡ Some up.1) (sym (j.2.ended s.3.1).1 ∙ s.3.2) up.2))
over_reached a b t h (Stops s) e =
    let j = partner h.each s.0 s.1 s.2 in
    let from = e.lasting s.0 j.0 j.1 (ap (λ (r : Rule). r.after) (sym j.2.rule) ∙ s.3.0) in
    let here = subst (λ (ts : List ℤ). slice_get ts from.0 ≡ Some from.1) (sym (j.2.ended s.3.1.ended).1) from.2 in
    reached_before a from.1 t from.3 (s.3.1.settled from.0 from.1 here).ahead
over_reached a b t h (AllOver each) e =
    let m = e.meets in
    let i = partner_back h.each m.0 m.1 m.2 in
    let over = each m.0 i.0 i.1 (let p = m.3.1 in let q = ap (λ (r : Rule). r.sync) i.2.rule in let s = e.above_0 in omega arith) in
    let at = m.3.0 in
    let here = subst (λ (ts : List ℤ). slice_get ts at.0 ≡ Some at.1) (sym (i.2.ended over.ended).1) at.2 in
    subst (AreReached a) at.3 (over.settled at.0 at.1 here).ahead

pub all_begin : (a b : List Input) (xs : List ℤ) → BeginInputs a b → HasEnded a → AreEvents a xs → AreEvents b xs
all_begin a b xs h ended p = record {
  rising = p.rising;
  each = λ k t e. event_grows t h (p.each k t e);
  all = λ t e. p.all t (event_shrinks t h (over_reached a b t h ended e) e);
}

over_grows : (a b : List Input) (i j : Input) → BeginInputs a b → BeginsInput i j → IsOver a i → IsOver b j
over_grows a b i j h begin over = record {
  ended = (begin.ended over.ended).0;
  settled = λ k t e. settled_along t h (over.settled k t (subst (λ (ts : List ℤ). slice_get ts k ≡ Some t) (sym (begin.ended over.ended).1) e));
}

pub ended_grows : (a b : List Input) → BeginInputs a b → HasEnded a → HasEnded b
ended_grows a b h (NeverBegins s) = NeverBegins (some_along (λ (i : Input). (i.rule.before ≡ before.Stop) × (i.ended ≡ true) × (i.times ≡ [])) (λ (i : Input). (i.rule.before ≡ before.Stop) × (i.ended ≡ true) × (i.times ≡ [])) h.each
    (λ i j begin p. (ap (λ (r : Rule). r.before) (sym begin.rule) ∙ p.0, (begin.ended p.1).0, sym (begin.ended p.1).1 ∙ p.2)) s)
ended_grows a b h (Stops s) = Stops (some_along (λ (i : Input). (i.rule.after ≡ after.Stop) × IsOver a i) (λ (i : Input). (i.rule.after ≡ after.Stop) × IsOver b i) h.each
    (λ i j begin p. (ap (λ (r : Rule). r.after) (sym begin.rule) ∙ p.0, over_grows a b i j h begin p.1)) s)
ended_grows a b h (AllOver s) = AllOver (each_along (λ (i : Input). 0 < i.rule.sync → IsOver a i) (λ (i : Input). 0 < i.rule.sync → IsOver b i) h.each
    (λ i j begin p above. over_grows a b i j h begin (p (let q = ap (λ (r : Rule). r.sync) begin.rule in omega arith))) s)

pub events_begin : EventsBegin
events_begin = record {
  events = λ a b xs ys h p q. begins_events b xs ys (returned_begin a b xs h (events_begin_themselves a xs p)) q;
  returned = returned_begin;
  all = all_begin;
  ended = ended_grows;
  current = λ a b t h e k i j at_i at_j c is. current_grows t c (h.each.each k i j at_i at_j) (h.rising k j at_j) (e.settled.ahead k i at_i) is;
}

-- ---- one result

last_is_event : (inputs : List Input) (xs : List ℤ) (t : ℤ) → BeginEvents inputs (xs ++ t ∷ []) → IsEvent inputs t
last_is_event inputs xs t p = each_has inputs (xs ++ t ∷ []) t p.each (has_last xs t)

-- the first event that is missing isn't before another
not_earlier : (inputs : List Input) (xs : List ℤ) (t u : ℤ) → BeginEvents inputs (xs ++ t ∷ []) → BeginEvents inputs (xs ++ u ∷ []) → t <ℤ u → ⊥
not_earlier inputs xs t u p q lt =
    let last = has_last xs u in
    elim (pushed_has xs u t (q.first t (last_is_event inputs xs t p) (last.0, last.1, last.2, omega (arith, ints)))) [
      | inl before ↦ not_before xs t p.rising before
      | inr same ↦ omega (arith, ints)
    ]

not_more : (inputs : List Input) (xs : List ℤ) (t : ℤ) → BeginEvents inputs (xs ++ t ∷ []) → AreEvents inputs xs → ⊥
not_more inputs xs t p q = not_before xs t p.rising (q.all t (last_is_event inputs xs t p))

pub one_next : (h : History) (a b : Step) → IsNext h a → IsNext h b → a ≡ b
one_next h (Event t) (Event u) p q = elim (cases_ltz t u) [
  | inl lt ↦ absurd (not_earlier h.inputs h.events t u p q lt)
  | inr le ↦ elim (cases_ltz u t) [ inl lt ↦ absurd (not_earlier h.inputs h.events u t q p lt) | inr ge ↦ ap Event (omega (arith, ints)) ]
]
one_next h (Event t) (Need k) p q = absurd (not_more h.inputs h.events t p q.0)
one_next h (Event t) Done p q = absurd (not_more h.inputs h.events t p q.0)
one_next h (Need k) (Event t) p q = absurd (not_more h.inputs h.events t q p.0)
one_next h (Need k) (Need j) p q = ap Need (first_same p.2 q.2)
one_next h (Need k) Done p q = absurd (p.1 q.1)
one_next h Done (Event t) p q = absurd (not_more h.inputs h.events t q p.0)
one_next h Done (Need k) p q = absurd (q.1 p.1)
one_next h Done Done p q = refl

not_later : (i : Input) (t : ℤ) (a b : ℕ) → IsLast i t a → IsLast i t b → a < b → ⊥
not_later i t a b p q lt = let x : t <ℤ q.here.0 = p.later b q.here.0 lt q.here.1 in let y : q.here.0 ≤ℤ t = q.here.2 in omega (arith, ints)

not_none : (i : Input) (t : ℤ) (a : ℕ) → IsCurrent i t (Some a) → IsCurrent i t None → ⊥
not_none i t a p q = elim q [ inl none ↦ none (a, p.0.here.0, p.0.here.1, p.0.here.2) | inr gone ↦ p.1 gone ]

pub one_current : (i : Input) (t : ℤ) (a b : Option ℕ) → IsCurrent i t a → IsCurrent i t b → a ≡ b
one_current i t None None p q = refl
one_current i t None (Some b) p q = absurd (not_none i t b q p)
one_current i t (Some a) None p q = absurd (not_none i t a p q)
one_current i t (Some a) (Some b) p q = elim (cases_lt a b) [
  | inl lt ↦ absurd (not_later i t a b p.0 q.0 lt)
  | inr le ↦ elim (cases_lt b a) [ inl lt ↦ absurd (not_later i t b a q.0 p.0 lt) | inr ge ↦ ap (λ (n : ℕ). Some n) (omega arith) ]
]

-- a list is empty, or has a last item
none_or_last : (ts : List ℤ) → (ts ≡ []) ⊎ ((before : List ℤ) × (t : ℤ) × (ts ≡ before ++ t ∷ []))
none_or_last [] = inl refl
none_or_last (u ∷ us) = inr (elim (none_or_last us) [
  | inl none ↦ ([], u, ap (λ (ts : List ℤ). u ∷ ts) none)
  | inr last ↦ (u ∷ last.0, last.1, ap (λ (ts : List ℤ). u ∷ ts) last.2)
])

one_shown : (h : History) (k : ℕ) (a b : Option ℕ) → k < length h.inputs → IsShown h k a → IsShown h k b → a ≡ b
one_shown h k a b within p q = elim (none_or_last h.events) [
  | inl none ↦ p.none none ∙ sym (q.none none)
  | inr last ↦ (let i = get_within h.inputs k within in one_current i.0 last.1 a b (p.last last.0 last.1 last.2 i.0 i.1) (q.last last.0 last.1 last.2 i.0 i.1))
]

pub events_are_one : EventsAreOne
events_are_one = record {
  rising = λ inputs xs h. h.rising;
  some_list = there_are_events;
  one_list = one_list_of_events;
  begins = begins_events;
  one_next = one_next;
  one_current = one_current;
  one_shown = one_shown;
}
