-- How the histories go on for which a filter stands.
use Rattle.std.proofs.Common.{◌≡◌, ℕ, ◌<◌, ◌==◌, Bool, true, false, List, [], ◌∷◌, ◌++◌, sym, ◌∙◌, ap, refl, subst, append_assoc, eqb-true, arith, ◌≤◌}
use Rattle.std.proofs.lemmas.Bool.Decides.{nat_tests}
use Rattle.std.specs.Prelude.{if◌then◌else◌}
use Rattle.std.proofs.lemmas.List.{append-nil}
use mathlib.Core.Path.{fun_ext}
use Rattle.av_base.specs.declared.shapes.Shape.{Shape}
use Rattle.av_frame.specs.Frames.{FrameValue}
use Rattle.av_frame.specs.Streams.{Stream, Streams, Begins, open_stream, ended_stream, at_pad, after, coming, ending, nothing_more, AllBegin, Rises, RisesFrom, AllRise}
use Rattle.av_frame.specs.FilterLaws.{Pads, FilterLaws, IsNew}
use Rattle.filter_history.specs.Histories.{History, no_history, with_frame, offered, finished, given, end_given, joined, all_joined, Stands}

-- a new filter stands for the empty history
pub stands_new : (p : Pads) (rest : Streams → Streams) (closes over : ℕ → Bool) → Stands p rest rest closes over no_history
stands_new p rest closes over = record { is = λ ins r q o h. refl; closed_is = λ i h e. cc; over_is = λ o h e. cc }

joined_frame : (s t : Stream) (x : FrameValue) → s.ended ≡ false → joined (with_frame s x) t ≡ joined s (after (x ∷ []) t)
joined_frame s t x e = rw (e, append_assoc) refl

offered_at : (ins all : Streams) (i : ℕ) (x : FrameValue) → (all i).ended ≡ false → (j : ℕ) (b : Bool) → (j == i) ≡ b
    → joined (if b then with_frame (all i) x else all j) (ins j) ≡ joined (all j) (if b then after (x ∷ []) (ins i) else ins j)
offered_at ins all i x e j true p = let q : j ≡ i = eqb-true _ _ p in rw q (joined_frame (all i) (ins i) x e)
offered_at ins all i x e j false p = refl

all_offered : (ins all : Streams) (i : ℕ) (x : FrameValue) → (all i).ended ≡ false → all_joined (at_pad all i (with_frame (all i) x)) ins ≡ all_joined all (coming i x ins)
all_offered ins all i x e = fun_ext (λ j. offered_at ins all i x e j (j == i) refl)

joined_end : (s t : Stream) → s.ended ≡ false → joined (ended_stream s.frames) t ≡ joined s (ended_stream [])
joined_end s t e = rw (e, append-nil) refl

finished_at : (ins all : Streams) (i : ℕ) → (all i).ended ≡ false → (j : ℕ) (b : Bool) → (j == i) ≡ b
    → joined (if b then ended_stream (all i).frames else all j) (ins j) ≡ joined (all j) (if b then ended_stream [] else ins j)
finished_at ins all i e j true p = let q : j ≡ i = eqb-true _ _ p in rw q (joined_end (all i) (ins i) e)
finished_at ins all i e j false p = refl

all_finished : (ins all : Streams) (i : ℕ) → (all i).ended ≡ false → all_joined (at_pad all i (ended_stream (all i).frames)) ins ≡ all_joined all (ending i ins)
all_finished ins all i e = fun_ext (λ j. finished_at ins all i e j (j == i) refl)

rises_behind : (x : FrameValue) (xs ys : List FrameValue) → RisesFrom x (xs ++ ys) → Rises ys
rises_behind x [] [] h = tt
rises_behind x [] (y ∷ ys) h = h.1
rises_behind x (z ∷ zs) ys h = rises_behind z zs ys h.1

pub rises_end : (xs ys : List FrameValue) → Rises (xs ++ ys) → Rises ys
rises_end [] ys h = h
rises_end (x ∷ xs) ys h = rises_behind x xs ys h

joined_rises : (s t : Stream) → s.ended ≡ false → Rises (joined s t).frames → Rises t.frames
joined_rises s t e h = rises_end s.frames t.frames (rw e at h)

coming_rises : (n i : ℕ) (x : FrameValue) (ins all : Streams) → (all i).ended ≡ false → AllRise n ins → AllRise n (all_joined all (coming i x ins)) → AllRise n (coming i x ins)
coming_rises n i x ins all e r q j h = at (j == i) refl (q j h)
  where
    at : (b : Bool) → (j == i) ≡ b → Rises (joined (all j) (if b then after (x ∷ []) (ins i) else ins j)).frames → Rises (if b then after (x ∷ []) (ins i) else ins j).frames
    at true p k = let z : j ≡ i = eqb-true _ _ p in joined_rises (all j) (after (x ∷ []) (ins i)) (rw z e) k
    at false p k = r j h

pub stands_offered : (p : Pads) (whole old new : Streams → Streams) (closes closes' over over' : ℕ → Bool) (h : History) (i : ℕ) (x : FrameValue)
    → Stands p whole old closes over h → (h.ins i).ended ≡ false
    → ((ins : Streams) → AllRise p.inputs (coming i x ins) → (o : ℕ) → o < p.outputs → new ins o ≡ old (coming i x ins) o)
    → ((j : ℕ) → closes j ≡ true → closes' j ≡ true)
    → ((o : ℕ) → over o ≡ true → over' o ≡ true)
    → Stands p whole new closes' over' (offered h i x)
stands_offered p whole old new closes closes' over over' h i x s e step shut keep = record {
  is = λ ins r q o k.
      let same = all_offered ins h.ins i x e in
      let q' = subst (AllRise p.inputs) same q in
      let r' = coming_rises p.inputs i x ins h.ins e r q' in
      ap (λ (all : Streams). whole all o) same ∙ (s.is (coming i x ins) r' q' o k ∙ ap (joined (h.outs o)) (sym (step ins r' o k)));
  closed_is = λ j k d. shut j (s.closed_is j k (before j (j == i) refl d));
  over_is = λ o k d. keep o (s.over_is o k d);
}
  where
    before : (j : ℕ) (b : Bool) → (j == i) ≡ b → (if b then with_frame (h.ins i) x else h.ins j).ended ≡ true → (h.ins j).ended ≡ true
    before j true q d = let z : j ≡ i = eqb-true _ _ q in rw z d
    before j false q d = d

ending_rises : (n i : ℕ) (ins : Streams) → AllRise n ins → AllRise n (ending i ins)
ending_rises n i ins r j h = at (j == i)
  where
    at : (b : Bool) → Rises (if b then ended_stream [] else ins j).frames
    at true = tt
    at false = r j h

pub stands_finished : (p : Pads) (whole old new : Streams → Streams) (closes closes' over over' : ℕ → Bool) (h : History) (i : ℕ)
    → Stands p whole old closes over h → (h.ins i).ended ≡ false
    → ((ins : Streams) (o : ℕ) → o < p.outputs → new ins o ≡ old (ending i ins) o)
    → ((j : ℕ) → closes j ≡ true → closes' j ≡ true) → closes' i ≡ true
    → ((o : ℕ) → over o ≡ true → over' o ≡ true)
    → Stands p whole new closes' over' (finished h i)
stands_finished p whole old new closes closes' over over' h i s e step shut now keep = record {
  is = λ ins r q o k.
      let same = all_finished ins h.ins i e in
      let q' = subst (AllRise p.inputs) same q in
      ap (λ (all : Streams). whole all o) same ∙ (s.is (ending i ins) (ending_rises p.inputs i ins r) q' o k ∙ ap (joined (h.outs o)) (sym (step ins o k)));
  closed_is = λ j k d. at j k (j == i) refl d;
  over_is = λ o k d. keep o (s.over_is o k d);
}
  where
    at : (j : ℕ) → j < p.inputs → (b : Bool) → (j == i) ≡ b → (if b then ended_stream (h.ins i).frames else h.ins j).ended ≡ true → closes' j ≡ true
    at j k true q d = let z : j ≡ i = eqb-true _ _ q in rw z now
    at j k false q d = shut j (s.closed_is j k d)

pub joined_open : (s : Stream) (d : Bool) → s.ended ≡ d → joined s (open_stream []) ≡ s
joined_open s true e = rw e refl
joined_open s false e = rw (e, append-nil) refl

all_joined_open : (all : Streams) → all_joined all nothing_more ≡ all
all_joined_open all = fun_ext (λ i. joined_open (all i) (all i).ended refl)

pub begins_joined : (s t : Stream) (d : Bool) → s.ended ≡ d → Begins s (joined s t)
begins_joined s t true e = rw e (record { front = record { rest = []; whole = sym (append-nil s.frames) }; same = λ _. refl })
begins_joined s t false e = rw e (record { front = record { rest = t.frames; whole = refl }; same = λ k. cc })

now_is : (p : Pads) (whole rest : Streams → Streams) (closes over : ℕ → Bool) (h : History) → Stands p whole rest closes over h → AllRise p.inputs h.ins
    → (o : ℕ) → o < p.outputs → whole h.ins o ≡ joined (h.outs o) (rest nothing_more o)
now_is p whole rest closes over h s r o k =
    let same = all_joined_open h.ins in
    ap (λ (all : Streams). whole all o) (sym same) ∙ s.is nothing_more (λ i _. tt) (subst (AllRise p.inputs) (sym same) r) o k

-- what was given begins what whole gives of what was offered
pub stands_begins : (p : Pads) (whole rest : Streams → Streams) (closes over : ℕ → Bool) (h : History) → Stands p whole rest closes over h → AllRise p.inputs h.ins
    → (o : ℕ) → o < p.outputs → Begins (h.outs o) (whole h.ins o)
stands_begins p whole rest closes over h s r o k = rw (now_is p whole rest closes over h s r o k) (begins_joined (h.outs o) (rest nothing_more o) (h.outs o).ended refl)

same_at : (b : Bool) (s : Stream) → after (if b then [] else []) s ≡ s
same_at true s = refl
same_at false s = refl

-- nothing was given
pub stands_same : (p : Pads) (whole old new : Streams → Streams) (closes closes' over over' : ℕ → Bool) (h : History) (i : ℕ)
    → Stands p whole old closes over h
    → ((ins : Streams) → AllRise p.inputs ins → (o : ℕ) → o < p.outputs → old ins o ≡ after (if o == i then [] else []) (new ins o))
    → ((j : ℕ) → closes j ≡ true → closes' j ≡ true)
    → ((o : ℕ) → over o ≡ true → over' o ≡ true)
    → Stands p whole new closes' over' h
stands_same p whole old new closes closes' over over' h i s step shut keep = record {
  is = λ ins r q o k. s.is ins r q o k ∙ ap (joined (h.outs o)) (step ins r o k ∙ same_at (o == i) (new ins o));
  closed_is = λ j k d. shut j (s.closed_is j k d);
  over_is = λ o k d. keep o (s.over_is o k d);
}

-- an output that gives a frame has not ended
still_open : (s t u : Stream) (x : FrameValue) (d : Bool) → s.ended ≡ d → (s.ended ≡ true → t ≡ ended_stream []) → t ≡ after (x ∷ []) u → s.ended ≡ false
still_open s t u x false e f g = e
still_open s t u x true e f g = absurd (apart (ap (λ (r : Stream). r.frames) (sym (f e) ∙ g)))
  where
    apart : {xs : List FrameValue} → (let none : List FrameValue = [] in none) ≡ x ∷ xs → ⊥
    apart k = cc

given_at : (outs new : Streams) (i : ℕ) (x : FrameValue) → (outs i).ended ≡ false → (o : ℕ) (b : Bool) → (o == i) ≡ b
    → joined (outs o) (after (if b then x ∷ [] else []) (new o)) ≡ joined (if b then with_frame (outs i) x else outs o) (new o)
given_at outs new i x e o true p = let z : o ≡ i = eqb-true _ _ p in rw z (sym (joined_frame (outs i) (new i) x e))
given_at outs new i x e o false p = refl

if_same : (b : Bool) → (i o : ℕ) → (o == i) ≡ b → o ≡ i → b ≡ true
if_same true i o p e = refl
if_same false i o p e = absurd (omega (arith, eqb-false i o e p))
  where
    eqb-false : (i o : ℕ) → o ≡ i → (o == i) ≡ false → 1 ≤ 0
    eqb-false i o e p = grind (arith, nat_tests)

pub stands_given : (p : Pads) (whole old new : Streams → Streams) (closes closes' over over' : ℕ → Bool) (h : History) (i : ℕ) (x : FrameValue)
    → Stands p whole old closes over h → i < p.outputs
    → (over i ≡ true → (ins : Streams) → old ins i ≡ ended_stream [])
    → ((ins : Streams) → AllRise p.inputs ins → (o : ℕ) → o < p.outputs → old ins o ≡ after (if o == i then x ∷ [] else []) (new ins o))
    → ((j : ℕ) → closes j ≡ true → closes' j ≡ true)
    → ((o : ℕ) → over o ≡ true → over' o ≡ true)
    → Stands p whole new closes' over' (given h i x)
stands_given p whole old new closes closes' over over' h i x s k none step shut keep =
    let self : (i == i) ≡ true = if_same (i == i) i i refl refl in
    let first : old nothing_more i ≡ after (x ∷ []) (new nothing_more i) = rw self at (step nothing_more (λ j _. tt) i k) in
    let e : (h.outs i).ended ≡ false = still_open (h.outs i) (old nothing_more i) (new nothing_more i) x (h.outs i).ended refl (λ d. none (s.over_is i k d) nothing_more) first in
    record {
      is = λ ins r q o l. s.is ins r q o l ∙ (ap (joined (h.outs o)) (step ins r o l) ∙ given_at h.outs (new ins) i x e o (o == i) refl);
      closed_is = λ j l d. shut j (s.closed_is j l d);
      over_is = λ o l d. keep o (s.over_is o l (before o l (o == i) refl d));
    }
  where
    before : (o : ℕ) → o < p.outputs → (b : Bool) → (o == i) ≡ b → (if b then with_frame (h.outs i) x else h.outs o).ended ≡ true → (h.outs o).ended ≡ true
    before o l true q d = let z : o ≡ i = eqb-true _ _ q in rw z d
    before o l false q d = d

ended_at : (s : Stream) (d : Bool) → s.ended ≡ d → joined s (ended_stream []) ≡ ended_stream s.frames
ended_at s true e = rw e refl
ended_at s false e = rw (e, append-nil) refl

end_at : (outs new : Streams) (i : ℕ) → new i ≡ ended_stream [] → (o : ℕ) (b : Bool) → (o == i) ≡ b
    → joined (outs o) (new o) ≡ joined (if b then ended_stream (outs i).frames else outs o) (new o)
end_at outs new i e o true p = let z : o ≡ i = eqb-true _ _ p in rw (z, e) (ended_at (outs i) (outs i).ended refl)
end_at outs new i e o false p = refl

pub stands_end : (p : Pads) (whole new : Streams → Streams) (closes over : ℕ → Bool) (h : History) (i : ℕ)
    → Stands p whole new closes over h
    → ((ins : Streams) → new ins i ≡ ended_stream [])
    → over i ≡ true
    → Stands p whole new closes over (end_given h i)
stands_end p whole new closes over h i s none done = record {
  is = λ ins r q o l. s.is ins r q o l ∙ end_at h.outs (new ins) i (none ins) o (o == i) refl;
  closed_is = s.closed_is;
  over_is = λ o l d. before o l (o == i) refl d;
}
  where
    before : (o : ℕ) → o < p.outputs → (b : Bool) → (o == i) ≡ b → (if b then ended_stream (h.outs i).frames else h.outs o).ended ≡ true → over o ≡ true
    before o l true q d = let z : o ≡ i = eqb-true _ _ q in rw z done
    before o l false q d = s.over_is o l d

-- where nothing can be given for now, all of it was given
pub stands_all : (p : Pads) (whole rest : Streams → Streams) (closes over : ℕ → Bool) (h : History) → Stands p whole rest closes over h → AllRise p.inputs h.ins
    → (o : ℕ) → o < p.outputs → rest nothing_more o ≡ open_stream [] → whole h.ins o ≡ h.outs o
stands_all p whole rest closes over h s r o k e = now_is p whole rest closes over h s r o k ∙ (ap (joined (h.outs o)) e ∙ joined_open (h.outs o) (h.outs o).ended refl)

-- where nothing is to be given whatever comes, all of it was given, with its end
pub stands_over : (p : Pads) (whole rest : Streams → Streams) (closes over : ℕ → Bool) (h : History) → Stands p whole rest closes over h → AllRise p.inputs h.ins
    → (o : ℕ) → o < p.outputs → ((ins : Streams) → rest ins o ≡ ended_stream []) → whole h.ins o ≡ ended_stream (h.outs o).frames
stands_over p whole rest closes over h s r o k e = now_is p whole rest closes over h s r o k ∙ (ap (joined (h.outs o)) (e nothing_more) ∙ ended_at (h.outs o) (h.outs o).ended refl)

-- what t has behind s
behind : (s t : Stream) → Begins s t → Stream
behind s t b = record { frames = b.front.rest; ended = t.ended }

joined_behind : (s t : Stream) (b : Begins s t) → joined s (behind s t b) ≡ t
unfolding behind
joined_behind s t b = at s.ended refl
  where
    at : (d : Bool) → s.ended ≡ d → (if s.ended then s else after s.frames (behind s t b)) ≡ t
    at true e = ap (λ (d : Bool). if d then s else after s.frames (behind s t b)) e ∙ sym (b.same e)
    at false e = ap (λ (d : Bool). if d then s else after s.frames (behind s t b)) e ∙ (ap (λ (xs : List FrameValue). let r : Stream = record { frames = xs; ended = t.ended } in r) (sym b.front.whole))

behind_rises : (s t : Stream) (b : Begins s t) → Rises t.frames → Rises (behind s t b).frames
unfolding behind
behind_rises s t b r = rises_end s.frames b.front.rest (subst Rises b.front.whole r)

-- what closed input i becomes makes no difference, whatever the others become
pub stands_settled : (p : Pads) (whole rest : Streams → Streams) (closes wants over : ℕ → Bool) (h : History) → FilterLaws p rest closes wants over
    → Stands p whole rest closes over h
    → (i : ℕ) → i < p.inputs → closes i ≡ true
    → (all : Streams) (t : Stream) → AllRise p.inputs all → Rises t.frames → ((j : ℕ) → Begins (h.ins j) (all j)) → Begins (h.ins i) t
    → (o : ℕ) → o < p.outputs → whole (at_pad all i t) o ≡ whole all o
stands_settled p whole rest closes wants over h laws s i k c all t r q b d o l =
    let ins : Streams = λ j. behind (h.ins j) (all j) (b j) in
    let more : Stream = behind (h.ins i) t d in
    let first : all_joined h.ins ins ≡ all = fun_ext (λ j. joined_behind (h.ins j) (all j) (b j)) in
    let second : all_joined h.ins (at_pad ins i more) ≡ at_pad all i t = fun_ext (λ j. at j (j == i) refl) in
    let rise : AllRise p.inputs ins = λ j m. behind_rises (h.ins j) (all j) (b j) (r j m) in
    ap (λ (z : Streams). whole z o) (sym second)
    ∙ (s.is (at_pad ins i more) (λ j m. other j (j == i) (rise j m)) (subst (λ (z : Streams). AllRise p.inputs z) (sym second) (λ j m. both j (j == i) (r j m))) o l
    ∙ (ap (joined (h.outs o)) (laws.settled i k c ins more o l)
    ∙ (sym (s.is ins rise (subst (λ (z : Streams). AllRise p.inputs z) (sym first) r) o l)
    ∙ ap (λ (z : Streams). whole z o) first)))
  where
    at : (j : ℕ) (e : Bool) → (j == i) ≡ e → joined (h.ins j) (if e then behind (h.ins i) t d else behind (h.ins j) (all j) (b j)) ≡ (if e then t else all j)
    at j true m = let z : j ≡ i = eqb-true _ _ m in rw z (joined_behind (h.ins i) t d)
    at j false m = joined_behind (h.ins j) (all j) (b j)

    other : (j : ℕ) (e : Bool) → Rises (behind (h.ins j) (all j) (b j)).frames → Rises (if e then behind (h.ins i) t d else behind (h.ins j) (all j) (b j)).frames
    other j true m = behind_rises (h.ins i) t d q
    other j false m = m

    both : (j : ℕ) (e : Bool) → Rises (all j).frames → Rises (if e then t else all j).frames
    both j true m = q
    both j false m = m

-- a needed input is neither closed nor finished
pub stands_needs : (p : Pads) (whole rest : Streams → Streams) (closes wants over : ℕ → Bool) (h : History) → FilterLaws p rest closes wants over
    → Stands p whole rest closes over h → (i : ℕ) → i < p.inputs → wants i ≡ true → (closes i ≡ false) × ((h.ins i).ended ≡ false)
stands_needs p whole rest closes wants over h laws s i k w = (laws.wanted_open i k w, not_ended (h.ins i).ended refl)
  where
    not_ended : (d : Bool) → (h.ins i).ended ≡ d → d ≡ false
    not_ended true e = absurd (both (closes i) (s.closed_is i k e) (laws.wanted_open i k w))
      where
        both : (c : Bool) → c ≡ true → c ≡ false → ⊥
        both true e f = cc
        both false e f = cc
    not_ended false e = refl

-- where input streams begin others, so do what a new filter gives of them
pub new_begins : (p : Pads) (rest : Streams → Streams) (accepts : ℕ → FrameValue → Type 0) (pads : Pads) (rule : Streams → Streams) (in_shape out_shape : ℕ → Shape)
    → IsNew p rest accepts pads rule in_shape out_shape
    → (s t : Streams) → AllRise p.inputs s → AllRise p.inputs t → AllBegin p.inputs s t → AllBegin p.outputs (rest s) (rest t)
new_begins p rest accepts pads rule in_shape out_shape new s t r q b o k =
    let same = new.pads_are in
    let k' : o < pads.outputs = subst (λ (z : Pads). o < z.outputs) same k in
    let r' = subst (λ (z : Pads). AllRise z.inputs s) same r in
    let q' = subst (λ (z : Pads). AllRise z.inputs t) same q in
    let b' = subst (λ (z : Pads). AllBegin z.inputs s t) same b in
    rw (new.rest_is s o k', new.rest_is t o k') (new.begins s t r' q' b' o k')
