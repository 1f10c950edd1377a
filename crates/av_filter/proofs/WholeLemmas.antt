-- Whole streams, offered frame by frame and input by input.
use Rattle.std.proofs.Common.{◌≡◌, ◌≢◌, ℕ, ◌<◌, ◌≤◌, ◌==◌, ◌⊎◌, Bool, true, false, List, [], ◌∷◌, ◌++◌, length, get_or, sym, ◌∙◌, ap, refl, subst, arith, eqb-true, inl, inr}
use Rattle.std.specs.Prelude.{if◌then◌else◌}
use Rattle.std.specs.List.{remove}
use Rattle.std.proofs.lemmas.List.{get_or_append_left, get_or_push, length_push, get_or_past}
use mathlib.Core.Path.{fun_ext}
use Rattle.av_frame.specs.Frames.{FrameValue}
use Rattle.av_frame.specs.Streams.{Stream, Streams, ended_stream, at_pad, after, coming, ending, AllRise, Rises, RisesFrom, FollowsOn}
use Rattle.av_frame.specs.FilterLaws.{Pads, FilterLaws}
use Rattle.av_frame.specs.Rules.{queue}
use Rattle.av_filter.specs.Whole.{FollowFrom, IsReady, AreReady, all_ended, no_frames}
use Rattle.av_frame.specs.StreamLemmas.{at_pad_twice}

if_end : (b : Bool) → (let s : Stream = ended_stream [] in if b then s else s) ≡ ended_stream []
if_end true = refl
if_end false = refl

pub ending_none : (i : ℕ) → ending i no_frames ≡ no_frames
ending_none i = fun_ext (λ j. if_end (j == i))

at_self : (i : ℕ) (s t : Stream) (b : Bool) → (i == i) ≡ b → (if b then s else t) ≡ s
at_self i s t true e = refl
at_self i s t false e = absurd (no i e)
  where
    no : (i : ℕ) → (i == i) ≡ false → ⊥
    no i e = grind arith

pub coming_at : (ins : Streams) (i : ℕ) (x : FrameValue) (s : Stream) → coming i x (at_pad ins i s) ≡ at_pad ins i (after (x ∷ []) s)
coming_at ins i x s = at_pad_twice ins i s (after (x ∷ []) (at_pad ins i s i)) ∙ ap (λ (t : Stream). at_pad ins i (after (x ∷ []) t)) (at_self i s (ins i) (i == i) refl)

pub at_rises : (n i : ℕ) (ins : Streams) (s : Stream) → AllRise n ins → Rises s.frames → AllRise n (at_pad ins i s)
at_rises n i ins s r q j h = at (j == i)
  where
    at : (b : Bool) → Rises (if b then s else ins j).frames
    at true = q
    at false = r j h

pub front_is : (xs ys : List FrameValue) (x : FrameValue) → 0 < length xs → x ≡ get_or xs 0 x → ys ≡ remove xs 0 → xs ≡ x ∷ ys
front_is [] ys x h e f = absurd (omega arith)
front_is (z ∷ zs) ys x h e f = cc

follow_rises : (x : FrameValue) (ys : List FrameValue) → FollowFrom x ys → RisesFrom x ys
follow_rises x [] h = tt
follow_rises x (y ∷ ys) h = (h.0.later, follow_rises y ys h.1)

pub ready_rises : (accepts : FrameValue → Type 0) (xs : List FrameValue) → IsReady accepts xs → Rises xs
ready_rises accepts [] h = tt
ready_rises accepts (x ∷ xs) h = follow_rises x xs h.1

pub ready_next : (accepts : FrameValue → Type 0) (x : FrameValue) (ys : List FrameValue) → FollowFrom x ys → ((y : FrameValue) → FollowsOn x y → accepts y) → IsReady accepts ys
ready_next accepts x [] h f = tt
ready_next accepts x (y ∷ ys) h f = (f y h.0, h.1)

pub ready_more : (P Q : FrameValue → Type 0) → ((y : FrameValue) → P y → Q y) → (xs : List FrameValue) → IsReady P xs → IsReady Q xs
ready_more P Q f [] h = tt
ready_more P Q f (x ∷ xs) h = (f x h.0, h.1)

-- the next frame of an input was offered
pub offered_next : (p : Pads) (old new : Streams → Streams) (i : ℕ) (x : FrameValue) (ys : List FrameValue) (ins : Streams) (o : ℕ)
    → Rises (x ∷ ys) → AllRise p.inputs ins → o < p.outputs
    → ((all : Streams) → AllRise p.inputs (coming i x all) → (o : ℕ) → o < p.outputs → new all o ≡ old (coming i x all) o)
    → old (at_pad ins i (ended_stream (x ∷ ys))) o ≡ new (at_pad ins i (ended_stream ys)) o
offered_next p old new i x ys ins o q r h step =
    let same = coming_at ins i x (ended_stream ys) in
    let rise = subst (λ (all : Streams). AllRise p.inputs all) (sym same) (at_rises p.inputs i ins (ended_stream (x ∷ ys)) r q) in
    ap (λ (all : Streams). old all o) (sym same) ∙ sym (step (at_pad ins i (ended_stream ys)) rise o h)

-- a closed input has as well nothing more
pub closed_none : (p : Pads) (rest : Streams → Streams) (closes wants over : ℕ → Bool) → FilterLaws p rest closes wants over
    → (i : ℕ) → i < p.inputs → closes i ≡ true → (ins : Streams) (s t : Stream) (o : ℕ) → o < p.outputs → rest (at_pad ins i s) o ≡ rest (at_pad ins i t) o
closed_none p rest closes wants over laws i h c ins s t o k = laws.settled i h c ins s o k ∙ sym (laws.settled i h c ins t o k)

-- where every input is closed, none is needed
pub none_needed : (p : Pads) (rest : Streams → Streams) (closes wants over : ℕ → Bool) → FilterLaws p rest closes wants over
    → ((i : ℕ) → i < p.inputs → closes i ≡ true) → ((i : ℕ) × (i < p.inputs) × (wants i ≡ true)) → ⊥
none_needed p rest closes wants over laws c n = both (closes n.0) (c n.0 n.1) (laws.wanted_open n.0 n.1 n.2)
  where
    both : (b : Bool) → b ≡ true → b ≡ false → ⊥
    both true e f = cc
    both false e f = cc

-- ---- the lists of all inputs, the last of which is offered

lt_or : (i n : ℕ) → (i < n) ⊎ (n ≤ i)
lt_or i n = grind arith

queue_less : (less : List (List FrameValue)) (xs : List FrameValue) (j : ℕ) → j < length less → queue (less ++ xs ∷ []) j ≡ queue less j
queue_less less xs j h = get_or_append_left less (xs ∷ []) [] j h

queue_past : (lists : List (List FrameValue)) (j : ℕ) → length lists ≤ j → queue lists j ≡ []
queue_past lists j h = get_or_past lists j [] h

last_at : (less : List (List FrameValue)) (xs : List FrameValue) → at_pad (all_ended less) (length less) (ended_stream xs) ≡ all_ended (less ++ xs ∷ [])
last_at less xs = fun_ext (λ j. at j (j == length less) refl)
  where
    no : (j n : ℕ) → (j == n) ≡ false → j ≢ n
    no j n e f = grind arith

    beyond : (j : ℕ) → j ≢ length less → (j < length less) ⊎ (length less ≤ j) → queue less j ≡ queue (less ++ xs ∷ []) j
    beyond j n (inl h) = sym (queue_less less xs j h)
    beyond j n (inr h) =
        let long = length_push less xs in
        queue_past less j h ∙ sym (queue_past (less ++ xs ∷ []) j (omega (arith, long)))

    at : (j : ℕ) (b : Bool) → (j == length less) ≡ b → (if b then ended_stream xs else ended_stream (queue less j)) ≡ ended_stream (queue (less ++ xs ∷ []) j)
    at j true e = let z : j ≡ length less = eqb-true _ _ e in ap ended_stream (sym (get_or_push less xs [] j (sym z)))
    at j false e = ap ended_stream (beyond j (no j (length less) e) (lt_or j (length less)))

none_at : (less : List (List FrameValue)) → at_pad (all_ended less) (length less) (ended_stream []) ≡ all_ended less
none_at less = fun_ext (λ j. at j (j == length less) refl)
  where
    at : (j : ℕ) (b : Bool) → (j == length less) ≡ b → (if b then ended_stream [] else ended_stream (queue less j)) ≡ ended_stream (queue less j)
    at j true e = let z : j ≡ length less = eqb-true _ _ e in ap ended_stream (sym (queue_past less j (omega (arith, z))))
    at j false e = refl

pub all_none : all_ended [] ≡ no_frames
all_none = fun_ext (λ j. ap ended_stream (queue_past [] j (omega arith)))

all_rise : (accepts : ℕ → FrameValue → Type 0) (lists : List (List FrameValue)) (n : ℕ) → AreReady accepts lists → AllRise n (all_ended lists)
all_rise accepts lists n r i h = at (lt_or i (length lists))
  where
    at : (i < length lists) ⊎ (length lists ≤ i) → Rises (queue lists i)
    at (inl k) = ready_rises (accepts i) (queue lists i) (r i k)
    at (inr k) = rw (queue_past lists i k) tt

less_ready : (accepts : ℕ → FrameValue → Type 0) (less : List (List FrameValue)) (xs : List FrameValue) → AreReady accepts (less ++ xs ∷ []) → AreReady accepts less
less_ready accepts less xs r j h =
    let long = length_push less xs in
    subst (λ (zs : List FrameValue). IsReady (accepts j) zs) (queue_less less xs j h) (r j (omega (arith, long)))

pub last_ready : (accepts : ℕ → FrameValue → Type 0) (lists less : List (List FrameValue)) (xs : List FrameValue) → lists ≡ less ++ xs ∷ [] → AreReady accepts lists → IsReady (accepts (length less)) xs
last_ready accepts lists less xs e r =
    let long = length_push less xs in
    let r' = subst (λ (all : List (List FrameValue)). AreReady accepts all) e r in
    subst (λ (zs : List FrameValue). IsReady (accepts (length less)) zs) (get_or_push less xs [] (length less) refl) (r' (length less) (omega (arith, long)))

pub ready_on : (P Q : ℕ → FrameValue → Type 0) (lists less : List (List FrameValue)) (xs : List FrameValue) → lists ≡ less ++ xs ∷ []
    → ((j : ℕ) (y : FrameValue) → j ≢ length less → P j y → Q j y) → AreReady P lists → AreReady Q less
ready_on P Q lists less xs e f r j h =
    let n : j ≢ length less = omega (arith, h) in
    ready_more (P j) (Q j) (λ y. f j y n) (queue less j) (less_ready P less xs (subst (λ (all : List (List FrameValue)). AreReady P all) e r) j h)

-- the last list was offered
pub rest_on : (p : Pads) (accepts : ℕ → FrameValue → Type 0) (old new : Streams → Streams) (start : Stream) (lists less : List (List FrameValue)) (xs : List FrameValue) (o : ℕ)
    → lists ≡ less ++ xs ∷ [] → AreReady accepts lists → o < p.outputs
    → ((ins : Streams) → AllRise p.inputs ins → (o : ℕ) → o < p.outputs → old (at_pad ins (length less) (ended_stream xs)) o ≡ new (at_pad ins (length less) (ended_stream [])) o)
    → start ≡ old (all_ended lists) o → start ≡ new (all_ended less) o
rest_on p accepts old new start lists less xs o e r h step is =
    let before = ap all_ended e ∙ sym (last_at less xs) in
    let ready = less_ready accepts less xs (subst (λ (all : List (List FrameValue)). AreReady accepts all) e r) in
    is ∙ (ap (λ (all : Streams). old all o) before ∙ (step (all_ended less) (all_rise accepts less p.inputs ready) o h ∙ ap (λ (all : Streams). new all o) (none_at less)))
