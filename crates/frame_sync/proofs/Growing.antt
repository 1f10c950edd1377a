-- A timeline still represents its histories after an input gets a time, or ends.
use Rattle.std.proofs.Common.{◌≡◌, ◌<◌, ◌≤◌, ◌<ℤ◌, ◌≤ℤ◌, ◌+◌, ◌++◌, ◌∙◌, ◌^◌, ℕ, zero, suc, ℤ, negsuc, true, false, List, [], ◌∷◌, Option, Some, None, map, length, take, set, get_or, refl, sym, subst, ap, arith, inl, inr, append_assoc, w64}
use mir.Val.{SFits}
use Rattle.std.specs.Prelude.{IfSome}
use Rattle.std.specs.List.{slice_get}
use Rattle.std.proofs.lemmas.Bool.{cases_eq}
use Rattle.std.proofs.lemmas.Int.{ints}
use Rattle.std.proofs.lemmas.List.{length-set, length-map, length_push, append-nil, take_more, take_all}
use Rattle.std.proofs.lemmas.Option.{same_Some, none-some, slice_get_within}
use Rattle.frame_sync.specs.declared.rules.Rule.{Rule}
use Rattle.frame_sync.specs.declared.stamp.Stamp.{Stamp}
use Rattle.frame_sync.specs.Framesync.{Input, SomeOne, EachOne, HasAt, IsCurrent}
use Rattle.av_base.proofs.Lists.{pushed_at, pushed_last, get_set_same, get_set_other}
use Rattle.frame_sync.specs.Histories.{History, fresh, changed_at, pushed, ended}
use Rattle.frame_sync.specs.Lanes.{LaneValue, AreEach, IsOpen, IsPast, IsPastAt}
use Rattle.frame_sync.specs.Laws.{BeginsInput, BeginInputs}
use Rattle.frame_sync.specs.Timelines.{IsLatest, Keeps, Represents}
use Rattle.frame_sync.proofs.Pushes.{rising_more, rising_none}
use Rattle.frame_sync.proofs.Along.{partner, partner_back}
use Rattle.frame_sync.proofs.Agreeing.{settled_along, event_grows, event_shrinks, current_grows, still_open, kept}
use Rattle.frame_sync.proofs.Keeping.{frame_cases, waiting_frame, up_to_latest}

-- ---- one item is changed

length-changed_at : {X : Type 0} (f : X → X) (k : ℕ) (xs : List X) → length (changed_at f k xs) ≡ length xs
length-changed_at f k [] = refl
length-changed_at f zero (x ∷ xs) = refl
length-changed_at f (suc k) (x ∷ xs) = ap suc (length-changed_at f k xs)

changed_here : {X : Type 0} (f : X → X) (k : ℕ) (xs : List X) (x : X) → slice_get xs k ≡ Some x → slice_get (changed_at f k xs) k ≡ Some (f x)
changed_here f k [] x e = absurd (none-some x e)
changed_here {X} f zero (y ∷ xs) x e = ap (λ (z : X). Some (f z)) (same_Some y x e)
changed_here f (suc k) (y ∷ xs) x e = changed_here f k xs x e

changed_apart : {X : Type 0} (f : X → X) (k : ℕ) (xs : List X) (j : ℕ) → (j ≡ k → ⊥) → slice_get (changed_at f k xs) j ≡ slice_get xs j
changed_apart f k [] j h = refl
changed_apart f zero (x ∷ xs) zero h = absurd (h refl)
changed_apart f zero (x ∷ xs) (suc j) h = refl
changed_apart f (suc k) (x ∷ xs) zero h = refl
changed_apart f (suc k) (x ∷ xs) (suc j) h = changed_apart f k xs j (λ e. h (ap suc e))

-- ---- the timeline over inputs that grew

-- up to the clock nothing new came
abbrev pub BringsNothing : ℤ → List Input → List Input → Type 0
BringsNothing clock a b = (u : ℤ) → SomeOne b (λ (i : Input). HasAt i u) → u ≤ℤ clock → SomeOne a (λ (i : Input). HasAt i u)

represents_grown : {lanes new : List LaneValue} {h : History} {b : List Input} (s : Represents lanes h) → AreEach (Keeps s.clock) new b → AreEach (λ (l m : LaneValue). m.current ≡ l.current) lanes new
    → BeginInputs h.inputs b → BringsNothing s.clock h.inputs b → Represents new (record h { inputs = b })
represents_grown {lanes} {new} {h} {b} s keeps same grows nothing = record {
  clock = s.clock;
  keeps = keeps;
  settled = λ u here le. settled_along u grows (s.settled u (nothing u here le) le);
  coming = λ k j e is_open u can.
      let i = partner_back grows.each k j e in
      s.coming k i.0 i.1 (still_open i.2 is_open) u (can.0, λ n v f. can.1 n v (kept i.2 n v f));
  rising = s.rising;
  each = λ k u e. (event_grows u grows (s.each k u e).0, (s.each k u e).1);
  all = λ u e le. s.all u (event_shrinks u grows (s.settled u (nothing u e.settled.here le) le).ahead e) le;
  shows = λ k m e. let l = partner_back same k m e in record {
    none = λ is. l.2 ∙ (s.shows k l.0 l.1).none is;
    last = λ before t is j f.
        let i = partner_back grows.each k j f in
        let at : slice_get h.events (length before) ≡ Some t = subst (λ (ts : List ℤ). slice_get ts (length before) ≡ Some t) (sym is) (pushed_last before t) in
        let event = (s.each (length before) t at).0 in
        subst (IsCurrent j t) (sym l.2) (current_grows t l.0.current i.2 (grows.rising k j f) (event.settled.ahead k i.0 i.1) ((s.shows k l.0 l.1).last before t is i.0 i.1));
  };
}

-- one input grew
pub record Grows (c : ℤ) (l m : LaneValue) (i j : Input) : Type 0 where
  pub keeps : Keeps c m j
  pub same : m.current ≡ l.current
  pub begins : BeginsInput i j
  pub nothing : (u : ℤ) → HasAt j u → u ≤ℤ c → HasAt i u

begins_itself : (i : Input) → BeginsInput i i
begins_itself i = record { rule = refl; times = ([], sym (append-nil i.times)); ended = λ e. (e, refl) }

pub represents_changed : (lanes : List LaneValue) (h : History) (k : ℕ) (l m : LaneValue) (f : Input → Input) (s : Represents lanes h) → slice_get lanes k ≡ Some l
    → ((i : Input) → slice_get h.inputs k ≡ Some i → Keeps s.clock l i → Grows s.clock l m i (f i)) → Represents (set lanes k m) (record h { inputs = changed_at f k h.inputs })
represents_changed lanes h k l m f s at grow = represents_grown s keeps same grows nothing where
  within : k < length lanes
  within = slice_get_within lanes k l at

  i : Input
  i = (partner s.keeps k l at).0

  at_i : slice_get h.inputs k ≡ Some i
  at_i = (partner s.keeps k l at).1

  grown : Grows s.clock l m i (f i)
  grown = grow i at_i (partner s.keeps k l at).2

  m_is : (n : LaneValue) → slice_get (set lanes k m) k ≡ Some n → m ≡ n
  m_is n e = same_Some m n (sym (get_set_same lanes k m within) ∙ e)

  j_is : (j : Input) → slice_get (changed_at f k h.inputs) k ≡ Some j → f i ≡ j
  j_is j e = same_Some (f i) j (sym (changed_here f k h.inputs i at_i) ∙ e)

  keeps : AreEach (Keeps s.clock) (set lanes k m) (changed_at f k h.inputs)
  keeps = record {
    same = (let a = length-set lanes k m in let b = length-changed_at f k h.inputs in let c = s.keeps.same in omega arith);
    each = λ p n j e g. elim (cases_eq p k) [
      | inl here ↦ (
          let at_n = subst (λ (z : ℕ). slice_get (set lanes k m) z ≡ Some n) here e in
          let at_j = subst (λ (z : ℕ). slice_get (changed_at f k h.inputs) z ≡ Some j) here g in
          subst (λ (z : LaneValue). Keeps s.clock z j) (m_is n at_n) (subst (Keeps s.clock m) (j_is j at_j) grown.keeps)
          )
      | inr apart ↦ s.keeps.each p n j (sym (get_set_other lanes k p m apart) ∙ e) (sym (changed_apart f k h.inputs p apart) ∙ g)
    ];
  }

  same : AreEach (λ (x y : LaneValue). y.current ≡ x.current) lanes (set lanes k m)
  same = record {
    same = sym (length-set lanes k m);
    each = λ p x y e g. elim (cases_eq p k) [
      | inl here ↦ (
          let at_x = same_Some l x (sym at ∙ subst (λ (z : ℕ). slice_get lanes z ≡ Some x) here e) in
          let at_y = m_is y (subst (λ (z : ℕ). slice_get (set lanes k m) z ≡ Some y) here g) in
          ap (λ (z : LaneValue). z.current) (sym at_y) ∙ (grown.same ∙ ap (λ (z : LaneValue). z.current) at_x)
          )
      | inr apart ↦ ap (λ (z : LaneValue). z.current) (same_Some y x (sym g ∙ (get_set_other lanes k p m apart ∙ e)))
    ];
  }

  grows : BeginInputs h.inputs (changed_at f k h.inputs)
  grows = record {
    each = record {
      same = sym (length-changed_at f k h.inputs);
      each = λ p x y e g. elim (cases_eq p k) [
        | inl here ↦ (
            let at_x = same_Some i x (sym at_i ∙ subst (λ (z : ℕ). slice_get h.inputs z ≡ Some x) here e) in
            let at_y = j_is y (subst (λ (z : ℕ). slice_get (changed_at f k h.inputs) z ≡ Some y) here g) in
            subst (λ (z : Input). BeginsInput z y) at_x (subst (BeginsInput i) at_y grown.begins)
            )
        | inr apart ↦ subst (BeginsInput x) (same_Some x y (sym e ∙ (sym (changed_apart f k h.inputs p apart) ∙ g))) (begins_itself x)
      ];
    };
    rising = λ p j g. (partner_back keeps p j g).2.rising;
  }

  nothing : BringsNothing s.clock h.inputs (changed_at f k h.inputs)
  nothing u here le = elim (cases_eq here.0 k) [
    | inl same' ↦ (
        let at_j = j_is here.1 (subst (λ (z : ℕ). slice_get (changed_at f k h.inputs) z ≡ Some here.1) same' here.2) in
        (k, i, at_i, grown.nothing u (subst (λ (z : Input). HasAt z u) (sym at_j) here.3) le)
        )
    | inr apart ↦ (here.0, here.1, sym (changed_apart f k h.inputs here.0 apart) ∙ here.2, here.3)
  ]

-- ---- an input gets a time

-- the time is past all that was pushed
all_past : {c : ℤ} {l : LaneValue} {i : Input} (t : ℤ) → Keeps c l i → IsPast l t → EachOne i.times (λ (u : ℤ). u <ℤ t)
all_past {c} {l} {i} t h past n u e = elim (frame_cases h n u e) [
  | inl was ↦ before l.latest refl past.1 n u was
  | inr w ↦ past.0 w.0 u w.2
] where
  before : (latest : Option Stamp) → l.latest ≡ latest → IfSome latest (λ (s : Stamp). s.pts <ℤ t) → (n : ℕ) (u : ℤ) → slice_get h.passed n ≡ Some u → u <ℤ t
  before None e lt n u was = absurd (none-some u (subst (λ (ts : List ℤ). slice_get ts n ≡ Some u) (subst (IsLatest h.passed) e h.latest) was))
  before (Some s) e lt n u was = let a : u ≤ℤ s.pts = (up_to_latest h s e).1 n u was in let b : s.pts <ℤ t = lt in omega (arith, ints)

grows_by : (c t : ℤ) (l : LaneValue) (i : Input) → Keeps c l i → i.ended ≡ false → IsPast l t → c <ℤ t → Grows c l (record l { waiting = l.waiting ++ t ∷ [] }) i (record i { times = i.times ++ t ∷ [] })
grows_by c t l i h is_open past after = record {
  keeps = record {
    rule = h.rule;
    ended = h.ended;
    rising = rising_more i.times t h.rising (all_past t h past);
    passed = h.passed;
    times = ap (λ (ts : List ℤ). ts ++ t ∷ []) h.times ∙ append_assoc h.passed l.waiting (t ∷ []);
    latest = h.latest;
    reached = h.reached;
    ahead = λ k u e. elim (pushed_at l.waiting t k u e) [ inl a ↦ h.ahead k u a | inr a ↦ subst (λ (z : ℤ). c <ℤ z) (sym a.1) after ];
  };
  same = refl;
  begins = record { rule = refl; times = (t ∷ [], refl); ended = λ shut. absurd (cc) };
  nothing = λ u at le. elim (pushed_at i.times t at.0 at.1 at.2) [
    | inl a ↦ (at.0, at.1, a, at.3)
    | inr a ↦ absurd (let p : at.1 ≡ t = a.1 in let q : at.1 ≡ u = at.3 in omega (arith, ints))
  ];
}

pub represents_pushed : (lanes : List LaneValue) (h : History) (k : ℕ) (t : ℤ) (l : LaneValue) → slice_get lanes k ≡ Some l → l.ended ≡ false → IsPast l t → SFits w64 t → Represents lanes h
    → Represents (set lanes k (record l { waiting = l.waiting ++ t ∷ [] })) (pushed k t h)
represents_pushed lanes h k t l at is_open past fits s = represents_changed lanes h k l (record l { waiting = l.waiting ++ t ∷ [] }) (λ (i : Input). record i { times = i.times ++ t ∷ [] }) s at
    (λ i at_i keeps.
    let still : i.ended ≡ false = sym keeps.ended ∙ is_open in
    grows_by s.clock t l i keeps still past (s.coming k i at_i still t (omega (arith, ints), all_past t keeps past)))

-- ---- an input ends

pub represents_ended : (lanes : List LaneValue) (h : History) (k : ℕ) (l : LaneValue) → slice_get lanes k ≡ Some l → Represents lanes h → Represents (set lanes k (record l { ended = true })) (ended k h)
represents_ended lanes h k l at s = represents_changed lanes h k l (record l { ended = true }) (λ (i : Input). record i { ended = true }) s at
    (λ i at_i keeps. record {
      keeps = record {
        rule = keeps.rule;
        ended = refl;
        rising = keeps.rising;
        passed = keeps.passed;
        times = keeps.times;
        latest = keeps.latest;
        reached = keeps.reached;
        ahead = keeps.ahead;
      };
      same = refl;
      begins = record { rule = refl; times = ([], sym (append-nil i.times)); ended = λ shut. (refl, refl) };
      nothing = λ u has le. has;
    })

lane_past : {c : ℤ} {l : LaneValue} {i : Input} {t : ℤ} → Keeps c l i → EachOne i.times (λ (u : ℤ). u <ℤ t) → IsPast l t
lane_past {c} {l} {i} {t} h past = ((λ k u e. past (length h.passed + k) u (waiting_frame h k u e)), before l.latest refl) where
  before : (latest : Option Stamp) → l.latest ≡ latest → IfSome latest (λ (s : Stamp). s.pts <ℤ t)
  before None e = tt
  before (Some s) e = past s.number s.pts (up_to_latest h s e).0

-- ---- nothing was pushed

abbrev pub IsFresh : LaneValue → Rule → Type 0
IsFresh l rule = l ≡ record { rule = rule; latest = None; waiting = []; ended = false; current = None }

pub fresh_none : (lanes : List LaneValue) (rules : List Rule) → lanes ≡ [] → AreEach IsFresh lanes (take 0 rules)
fresh_none lanes rules e = subst (λ (ls : List LaneValue). AreEach IsFresh ls []) (sym e) (record { same = refl; each = λ k l r at. absurd (none-some l at) })

-- one more rule got its lane
pub fresh_more : (lanes all : List LaneValue) (rules : List Rule) (i : ℕ) (d : Rule) (l : LaneValue) → i < length rules → IsFresh l (get_or rules i d) → all ≡ lanes ++ l ∷ [] → AreEach IsFresh lanes (take i rules)
    → AreEach IsFresh all (take (i + 1) rules)
fresh_more lanes all rules i d l within is grown h = subst (AreEach IsFresh all) (sym (take_more rules i d within)) (subst (λ (ls : List LaneValue). AreEach IsFresh ls (take i rules ++ r ∷ [])) (sym grown) (record {
  same = (let a = h.same in let b = length_push lanes l in let c = length_push (take i rules) r in omega arith);
  each = λ k m s e f. elim (pushed_at lanes l k m e) [
    | inl old ↦ elim (pushed_at (take i rules) r k s f) [
      | inl old' ↦ h.each k m s old old'
      | inr last ↦ absurd (let a = slice_get_within lanes k m old in let b = h.same in let c = last.0 in omega arith)
    ]
    | inr last ↦ elim (pushed_at (take i rules) r k s f) [
      | inl old' ↦ absurd (let a = slice_get_within (take i rules) k s old' in let b = h.same in let c = last.0 in omega arith)
      | inr last' ↦ subst (λ (z : LaneValue). IsFresh z s) (sym last.1) (subst (IsFresh l) (sym last'.1) is)
    ]
  ];
})) where
  r : Rule
  r = get_or rules i d

pub fresh_all : (lanes : List LaneValue) (rules : List Rule) (i : ℕ) → length rules ≤ i → AreEach IsFresh lanes (take i rules) → AreEach IsFresh lanes rules
fresh_all lanes rules i all h = subst (AreEach IsFresh lanes) (take_all i rules all) h

abbrev fresh_input : Rule → Input
fresh_input rule = record { rule = rule; times = []; ended = false }

fresh_at : (rules : List Rule) (k : ℕ) (i : Input) → slice_get (map (λ (r : Rule). fresh_input r) rules) k ≡ Some i → (r : Rule) × (slice_get rules k ≡ Some r) × (fresh_input r ≡ i)
fresh_at [] k i e = absurd (none-some i e)
fresh_at (r ∷ rules) zero i e = (r, refl, same_Some (fresh_input r) i e)
fresh_at (r ∷ rules) (suc k) i e = fresh_at rules k i e

no_time : (rules : List Rule) (t : ℤ) → SomeOne (map (λ (r : Rule). fresh_input r) rules) (λ (i : Input). HasAt i t) → ⊥
no_time rules t here =
    let r = fresh_at rules here.0 here.1 here.2 in
    let at = here.3 in
    none-some at.1 (subst (λ (z : Input). slice_get z.times at.0 ≡ Some at.1) (sym r.2) at.2)

fresh_kept : (c : ℤ) (r : Rule) → Keeps c (record { rule = r; latest = None; waiting = []; ended = false; current = None }) (fresh_input r)
fresh_kept c r = record {
  rule = refl;
  ended = refl;
  rising = rising_none;
  passed = [];
  times = refl;
  latest = refl;
  reached = λ k t e. absurd (none-some t e);
  ahead = λ k t e. absurd (none-some t e);
}

pub represents_fresh : (lanes : List LaneValue) (rules : List Rule) → AreEach IsFresh lanes rules → Represents lanes (fresh rules)
represents_fresh lanes rules h = record {
  clock = negsuc (2 ^ 63);
  keeps = record {
    same = h.same ∙ sym (length-map rules (λ (r : Rule). fresh_input r));
    each = λ k l i e f.
        let r = fresh_at rules k i f in
        subst (Keeps (negsuc (2 ^ 63)) l) r.2 (subst (λ (z : LaneValue). Keeps (negsuc (2 ^ 63)) z (fresh_input r.0)) (sym (h.each k l r.0 e r.1)) (fresh_kept (negsuc (2 ^ 63)) r.0));
  };
  settled = λ t here le. absurd (no_time rules t here);
  coming = λ k i e is_open t can. let a = can.0 in omega (arith, ints);
  rising = rising_none;
  each = λ k t e. absurd (none-some t e);
  all = λ t e le. absurd (no_time rules t e.settled.here);
  shows = λ k l e. record {
    none = λ _. let r = partner h k l e in ap (λ (z : LaneValue). z.current) r.2;
    last = λ before t is. absurd (let a = ap (λ (ts : List ℤ). length ts) is in let b = length_push before t in omega arith);
  };
}

-- ---- what a call requires of the timeline can be seen in each history

pub asks_pushed : (lanes : List LaneValue) (h : History) (k : ℕ) (i : Input) (t : ℤ) → Represents lanes h → slice_get h.inputs k ≡ Some i → i.ended ≡ false → EachOne i.times (λ (u : ℤ). u <ℤ t) → IsOpen lanes k × IsPastAt lanes k t
asks_pushed lanes h k i t s at is_open past =
    let l = partner_back s.keeps k i at in
    ((l.0, l.1, l.2.ended ∙ is_open), λ m e. subst (λ (z : LaneValue). IsPast z t) (same_Some l.0 m (sym l.1 ∙ e)) (lane_past l.2 past))
