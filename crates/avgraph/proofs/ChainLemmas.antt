-- Frames through a chain of filters.
use Rattle.std.proofs.Common.{◌≡◌, ℕ, ℤ, pos, ◌+◌, ◌<◌, ◌≤◌, ◌+ℤ◌, ◌≤ℤ◌, Bool, true, false, Result, Ok, List, [], ◌∷◌, ◌++◌, map, take, drop, set, length, get_or, suc, refl, ◌∙◌, ap, sym, subst, arith, add-one}
use Rattle.std.specs.Prelude.{◌==◌, if◌then◌else◌}
use Rattle.std.proofs.Math.Seq.{drop-cons, take-suc}
use Rattle.std.proofs.lemmas.Grind.{take-set_at}
use Rattle.std.proofs.lemmas.Int.{ints}
use Rattle.std.proofs.lemmas.List.{length-map, map-append, map-id, append-nil, take-append-drop, take_all, drop_all, drop-set-lt, length-drop}
use Rattle.std.proofs.lemmas.Simd.{map-map}
use Rattle.av_base.specs.declared.NoMemory.{NoMemory}
use Rattle.av_base.specs.declared.shapes.Shape.{Shape}
use Rattle.av_frame.specs.Answers.{frames_of}
use Rattle.av_frame.specs.Frames.{FrameValue}
use Rattle.av_frame.specs.FilterLaws.{Pads, FilterLaws, IsNew, one_to}
use Rattle.av_frame.specs.Rules.{each_stream, each_rule}
use Rattle.av_frame.specs.Streams.{Stream, Streams, open_stream, at_pad, after, coming, nothing_more, Rises, RisesFrom, AllRise, FollowsOn}
use Rattle.av_frame.specs.declared.filter.Given.{Given}
use Rattle.av_frame.specs.declared.filter.Given.TheVariants as gives
use Rattle.node_core.specs.Shaping.{ReadyValue, made_by, given}
use Rattle.node_core.specs.Filters.{frame_filters}
use Rattle.node_core.specs.FilterLaws.{frame_filter_laws}
use Rattle.avgraph.specs.Chains.{Step, through, passed, AreReady, AreLinked, StartsFrom, TakesFrom, AllTake}

-- ---- lists of frames

-- the frames at the end of a chain are those that pass it one by one
pub through-map : (rs : List ReadyValue) (xs : List FrameValue) → through rs xs ≡ map (passed rs) xs
through-map [] xs = sym (map-id xs)
through-map (r ∷ rs) xs = through-map rs (given r xs) ∙ map-map (passed rs) (made_by r) xs

-- one more frame goes in, and one more comes out
pub through-push : (rs : List ReadyValue) (frames : List FrameValue) (x : FrameValue) → through rs (frames ++ x ∷ []) ≡ through rs frames ++ passed rs x ∷ []
through-push rs frames x =
    through-map rs (frames ++ x ∷ []) ∙ (map-append (passed rs) frames (x ∷ []) ∙ ap (λ (z : List FrameValue). z ++ passed rs x ∷ []) (sym (through-map rs frames)))

-- as many frames come out as go in
pub through-length : (rs : List ReadyValue) (frames : List FrameValue) → length (through rs frames) ≡ length frames
through-length rs frames = ap length (through-map rs frames) ∙ length-map frames (passed rs)

-- no frames come out of none
pub through-nil : (rs : List ReadyValue) → through rs [] ≡ []
through-nil rs = through-map rs []

-- ---- one filter

not_true : (b : Bool) → ¬ (b ≡ true) → b ≡ false
not_true true n = absurd (n refl)
not_true false n = refl

-- a filter that is to give something of what is to come isn't closed
pub still_open : {low : ℤ} {s : Shape} {made : FrameValue → FrameValue} {p : Pads} {rest : Streams → Streams} {accepts : ℕ → FrameValue → Type 0} {closes wants over : ℕ → Bool} (x : FrameValue)
    → TakesFrom low s made p rest accepts → FilterLaws p rest closes wants over → low ≤ℤ x.pts → closes 0 ≡ false
still_open {low} {s} {made} {p} {rest} {accepts} {closes} x takes laws h = not_true (closes 0) (λ e.
    let one : Stream = open_stream (x ∷ []) in
    let input : 0 < p.inputs = rw takes.pads (omega arith) in
    let output : 0 < p.outputs = rw takes.pads (omega arith) in
    let same : rest (at_pad nothing_more 0 one) 0 ≡ rest nothing_more 0 = laws.settled 0 input e nothing_more one 0 output in
    let some : rest (at_pad nothing_more 0 one) 0 ≡ each_stream made one = takes.rest_is (at_pad nothing_more 0 one) tt h in
    let none : rest nothing_more 0 ≡ each_stream made (open_stream []) = takes.rest_is nothing_more tt tt in
    let both : made x ∷ [] ≡ [] = ap (λ (t : Stream). t.frames) (sym some ∙ (same ∙ none)) in
    absurd cc)

-- frames that start after x rise after x
after_rises : (x : FrameValue) (ys : List FrameValue) → Rises ys → StartsFrom (x.pts +ℤ pos 1) ys → RisesFrom x ys
after_rises x [] r h = tt
after_rises x (y ∷ ys) r h = (omega (arith, ints), r)

one_rises : (ins : Streams) → Rises (ins 0).frames → AllRise 1 ins
one_rises ins r i h = subst (λ (j : ℕ). Rises (ins j).frames) (let e : 0 ≡ i = omega arith in e) r

coming_rises : (x : FrameValue) (ins : Streams) → Rises (ins 0).frames → StartsFrom (x.pts +ℤ pos 1) (ins 0).frames → AllRise 1 (coming 0 x ins)
coming_rises x ins r h = one_rises (coming 0 x ins) (after_rises x (ins 0).frames r h)

-- What an offer of x, and a call of `give` after it with this result, mean for a filter: `offered` is what it was to give
-- in between, and `left` what it is to give then.
pub record Answered (x : FrameValue) (p : Pads) (rest offered left : Streams → Streams) (answer : Result Given NoMemory) : Type 0 where
  pub offer : (ins : Streams) → AllRise p.inputs (coming 0 x ins) → (o : ℕ) → o < p.outputs → offered ins o ≡ rest (coming 0 x ins) o
  pub give : (ins : Streams) → AllRise p.inputs ins → (o : ℕ) → o < p.outputs → offered ins o ≡ after (if o == 0 then frames_of answer else []) (left ins o)

-- what was given, and what is still to be given, is what is made of the frame, and then of those that come
answered_is : {low : ℤ} {made : FrameValue → FrameValue} {x : FrameValue} {p : Pads} {rest offered left : Streams → Streams} {accepts : ℕ → FrameValue → Type 0} {answer : Result Given NoMemory}
    → TakesFrom low x.shape made p rest accepts → low ≤ℤ x.pts → Answered x p rest offered left answer
    → (ins : Streams) → Rises (ins 0).frames → StartsFrom (x.pts +ℤ pos 1) (ins 0).frames → after (frames_of answer) (left ins 0) ≡ after (made x ∷ []) (each_stream made (ins 0))
answered_is {low} {made} {x} {p} takes h a ins r f =
    let input : p.inputs ≡ 1 = rw takes.pads refl in
    let coming_rise : AllRise p.inputs (coming 0 x ins) = rw input (coming_rises x ins r f) in
    let rise : AllRise p.inputs ins = rw input (one_rises ins r) in
    let output : 0 < p.outputs = rw takes.pads (omega arith) in
    sym (a.give ins rise 0 output) ∙ (a.offer ins coming_rise 0 output ∙ takes.rest_is (coming 0 x ins) (after_rises x (ins 0).frames r f) h)

same_stream : (y z : FrameValue) (s t : Stream) → after (y ∷ []) s ≡ after (z ∷ []) t → s ≡ t
same_stream y z s t e =
    let lists : y ∷ s.frames ≡ z ∷ t.frames = ap (λ (u : Stream). u.frames) e in
    let frames : s.frames ≡ t.frames = cc in
    let ended : s.ended ≡ t.ended = ap (λ (u : Stream). u.ended) e in
    let left : s ≡ record { frames = t.frames; ended = s.ended } = ap (λ (f : List FrameValue). let u : Stream = record { frames = f; ended = s.ended } in u) frames in
    left ∙ ap (λ (b : Bool). let u : Stream = record { frames = t.frames; ended = b } in u) ended

-- the filter then takes later frames
pub takes_on : {low : ℤ} {made : FrameValue → FrameValue} {x : FrameValue} {p q : Pads} {rest offered left : Streams → Streams} {accepts later : ℕ → FrameValue → Type 0} (y : FrameValue)
    → TakesFrom low x.shape made p rest accepts → low ≤ℤ x.pts → q ≡ p → Answered x p rest offered left (Ok (gives.Frame y)) → ((z : FrameValue) → FollowsOn x z → later 0 z)
    → TakesFrom (x.pts +ℤ pos 1) x.shape made q left later
takes_on {low} {made} {x} {left = left} y takes h same a follow = record {
  pads = same ∙ takes.pads;
  rest_is = λ ins r f. same_stream y (made x) (left ins 0) (each_stream made (ins 0)) (answered_is takes h a ins r f);
  accepts_all = λ z e f. follow z (record { shape = e; later = omega (arith, ints) });
}

-- a filter that was started for frames of a shape takes them from any time on
pub new_takes : (low : ℤ) (r : ReadyValue) (s out : Shape) {p : Pads} {rest : Streams → Streams} {accepts : ℕ → FrameValue → Type 0}
    → IsNew p rest accepts (one_to 1) (each_rule (λ _. made_by r)) (λ _. s) (λ _. out) → TakesFrom low s (made_by r) p rest accepts
new_takes low r s out new = record {
  pads = new.pads_are;
  rest_is = λ ins f g. new.rest_is ins 0 (omega arith);
  accepts_all = λ x f g. new.accepts_first 0 x (omega arith) f;
}

-- ---- chains

made_at : (r : ReadyValue) (x : FrameValue) → (made_by r x).pts ≡ x.pts
made_at r x = (frame_filter_laws.making.keeps r.settings x).pts

-- one more filter comes after a chain
pub take_more : {V : Type 0} (pads : V → Pads) (rest : V → Streams → Streams) (accepts : V → ℕ → FrameValue → Type 0) (low : ℤ) (s mid u : Shape) (rs : List ReadyValue) (vs : List V) (r : ReadyValue) (v : V)
    → AllTake pads rest accepts low s rs vs mid → TakesFrom low mid (made_by r) (pads v) (rest v) (accepts v) → ((x : FrameValue) → x.shape ≡ mid → (made_by r x).shape ≡ u)
    → AllTake pads rest accepts low s (rs ++ r ∷ []) (vs ++ v ∷ []) u
take_more pads rest accepts low s mid u [] [] r v all takes shaped = rw (sym all) (takes, (u, shaped, refl))
take_more pads rest accepts low s mid u (q ∷ rs) (w ∷ vs) r v all takes shaped =
    (all.0, (all.1.0, all.1.1, take_more pads rest accepts low all.1.0 mid u rs vs r v all.1.2 takes shaped))
take_more pads rest accepts low s mid u [] (w ∷ vs) r v all takes shaped = absurd all
take_more pads rest accepts low s mid u (q ∷ rs) [] r v all takes shaped = absurd all

-- the first of those after i
drop_front : (rs left : List ReadyValue) (r : ReadyValue) (i : ℕ) → drop i rs ≡ r ∷ left → (take (i + 1) rs ≡ take i rs ++ r ∷ []) × (drop (i + 1) rs ≡ left)
drop_front rs left r i e =
    let long : length (drop i rs) ≡ length (r ∷ left) = ap length e in
    let less : i < length rs = grind (arith, length-drop i rs) in
    let front = drop-cons rs i r less in
    let same : get_or rs i r ≡ r = cc in
    let taken = take-suc rs i r less in
    (rw (add-one i) (rw same at taken), rw (add-one i) cc)

-- The first i filters of a chain have passed the frame, and take later ones. The others are still to.
pub record Passing {V : Type 0} (pads : V → Pads) (rest : V → Streams → Streams) (accepts : V → ℕ → FrameValue → Type 0) (low : ℤ) (t : Shape) (rs : List ReadyValue) (vs : List V) (i : ℕ) (first current : FrameValue) : Type 0 where
  pub mid : Shape
  pub done : AllTake pads rest accepts (first.pts +ℤ pos 1) first.shape (take i rs) (take i vs) mid
  pub left : AllTake pads rest accepts low mid (drop i rs) (drop i vs) t
  pub shape : current.shape ≡ mid
  pub time : current.pts ≡ first.pts
  pub same_end : passed (drop i rs) current ≡ passed rs first

-- what is known of the next filter: what it makes, and that the frame is then one filter further
pub record Next {V : Type 0} (pads : V → Pads) (rest : V → Streams → Streams) (accepts : V → ℕ → FrameValue → Type 0) (low : ℤ) (t : Shape) (rs : List ReadyValue) (vs : List V) (i : ℕ) (first current : FrameValue) (v : V) : Type 0 where
  pub ready : ReadyValue
  pub takes : TakesFrom low current.shape (made_by ready) (pads v) (rest v) (accepts v)
  pub passes : (w : V) (next : FrameValue) → TakesFrom (current.pts +ℤ pos 1) current.shape (made_by ready) (pads w) (rest w) (accepts w) → next ≡ made_by ready current
      → Passing pads rest accepts low t rs (set vs i w) (i + 1) first next

next_at : {V : Type 0} (pads : V → Pads) (rest : V → Streams → Streams) (accepts : V → ℕ → FrameValue → Type 0) (low : ℤ) (t mid : Shape) (rs : List ReadyValue) (vs : List V) (i : ℕ) (first current : FrameValue) (v : V) (qs : List ReadyValue) (ws : List V)
    → i < length vs → drop i rs ≡ qs → drop i vs ≡ v ∷ ws → drop (i + 1) vs ≡ ws
    → AllTake pads rest accepts (first.pts +ℤ pos 1) first.shape (take i rs) (take i vs) mid → AllTake pads rest accepts low mid qs (v ∷ ws) t
    → current.shape ≡ mid → current.pts ≡ first.pts → passed qs current ≡ passed rs first
    → Next pads rest accepts low t rs vs i first current v
next_at pads rest accepts low t mid rs vs i first current v [] ws less are front later done left shape time same = absurd left
next_at pads rest accepts low t mid rs vs i first current v (r ∷ qs) ws less are front later done left shape time same =
    let parts = drop_front rs qs r i are in
    record {
      ready = r;
      takes = rw shape left.0;
      passes = λ w next takes is. record {
        mid = left.1.0;
        done = rw (parts.0, take-set_at vs i (i + 1) w refl less) (take_more pads rest accepts (first.pts +ℤ pos 1) first.shape mid left.1.0 (take i rs) (take i vs) r w done (rw (shape, time) at takes) left.1.1);
        left = rw (parts.1, drop-set-lt (i + 1) vs i w (omega arith), later) left.1.2;
        shape = rw is (left.1.1 current shape);
        time = rw is (made_at r current ∙ time);
        same_end = rw (parts.1, is) same;
      };
    }

pub next_of : {V : Type 0} (pads : V → Pads) (rest : V → Streams → Streams) (accepts : V → ℕ → FrameValue → Type 0) (low : ℤ) (t : Shape) (rs : List ReadyValue) (vs : List V) (i : ℕ) (first current : FrameValue) (v : V)
    → v ≡ get_or vs i v → i < length vs → Passing pads rest accepts low t rs vs i first current → Next pads rest accepts low t rs vs i first current v
next_of pads rest accepts low t rs vs i first current v is less p =
    let front = drop-cons vs i v less in
    let at : drop i vs ≡ v ∷ drop (suc i) vs = rw (sym is) at front in
    next_at pads rest accepts low t p.mid rs vs i first current v (drop i rs) (drop (suc i) vs) less refl at (ap (λ (n : ℕ). drop n vs) (add-one i)) p.done (rw at at p.left) p.shape p.time p.same_end

-- every filter has passed it
pub all_passed : {V : Type 0} (pads : V → Pads) (rest : V → Streams → Streams) (accepts : V → ℕ → FrameValue → Type 0) (low : ℤ) (t : Shape) (rs : List ReadyValue) (vs : List V) (i : ℕ) (first current : FrameValue)
    → length vs ≤ i → Passing pads rest accepts low t rs vs i first current
    → AllTake pads rest accepts (first.pts +ℤ pos 1) first.shape rs vs t × (current ≡ passed rs first) × (current.shape ≡ t)
all_passed pads rest accepts low t rs vs i first current long p =
    ended (drop i rs) refl (rw (drop_all i vs long) at p.left) p.same_end
  where
    ended : (qs : List ReadyValue) → drop i rs ≡ qs → AllTake pads rest accepts low p.mid qs [] t → passed qs current ≡ passed rs first → AllTake pads rest accepts (first.pts +ℤ pos 1) first.shape rs vs t × (current ≡ passed rs first) × (current.shape ≡ t)
    ended [] are left same =
        let whole : take i rs ≡ rs = sym (append-nil (take i rs)) ∙ (ap (λ (qs : List ReadyValue). take i rs ++ qs) (sym are) ∙ take-append-drop i rs) in
        (rw left (rw (whole, take_all i vs long) at p.done), same, rw left p.shape)
    ended (r ∷ qs) are left same = absurd left

-- ---- chains that are started

made_fits : (r : ReadyValue) (s : Shape) (x : FrameValue) → x.shape ≡ s → (made_by r x).shape ≡ frame_filters.making.shape r.settings s
made_fits r s x e = frame_filter_laws.making.shaped r.settings x ∙ ap (frame_filters.making.shape r.settings) e

-- The first i filters of a chain are started, and take frames from time 0 on.
pub record Started {V : Type 0} (pads : V → Pads) (rest : V → Streams → Streams) (accepts : V → ℕ → FrameValue → Type 0) (s t : Shape) (rs : List ReadyValue) (vs : List V) (i : ℕ) : Type 0 where
  pub mid : Shape
  pub done : AllTake pads rest accepts (pos 0) s (take i rs) vs mid
  pub linked : AreLinked mid (drop i rs) t

-- what is known of the next filter that is to be started, and that the chain is then one filter longer
pub record ToStart {V : Type 0} (pads : V → Pads) (rest : V → Streams → Streams) (accepts : V → ℕ → FrameValue → Type 0) (s t : Shape) (rs : List ReadyValue) (vs : List V) (i : ℕ) (r : ReadyValue) : Type 0 where
  pub shape : Shape
  pub out : Shape
  pub ins : r.ins ≡ shape ∷ []
  pub outs : r.outs ≡ out ∷ []
  pub starts : (v : V) → IsNew (pads v) (rest v) (accepts v) (one_to 1) (each_rule (λ _. made_by r)) (λ _. shape) (λ _. out) → Started pads rest accepts s t rs (vs ++ v ∷ []) (i + 1)

start_at : {V : Type 0} (pads : V → Pads) (rest : V → Streams → Streams) (accepts : V → ℕ → FrameValue → Type 0) (s t mid : Shape) (rs : List ReadyValue) (vs : List V) (i : ℕ) (r : ReadyValue) (qs : List ReadyValue)
    → drop i rs ≡ r ∷ qs → AllTake pads rest accepts (pos 0) s (take i rs) vs mid → AreLinked mid (r ∷ qs) t → ToStart pads rest accepts s t rs vs i r
start_at pads rest accepts s t mid rs vs i r qs are done linked =
    let parts = drop_front rs qs r i are in
    let out = frame_filters.making.shape r.settings mid in
    record {
      shape = mid;
      out = out;
      ins = linked.0;
      outs = linked.1;
      starts = λ v new. record {
        mid = out;
        done = rw parts.0 (take_more pads rest accepts (pos 0) s mid out (take i rs) vs r v done (new_takes (pos 0) r mid out new) (made_fits r mid));
        linked = rw parts.1 linked.2;
      };
    }

pub to_start : {V : Type 0} (pads : V → Pads) (rest : V → Streams → Streams) (accepts : V → ℕ → FrameValue → Type 0) (s t : Shape) (rs : List ReadyValue) (vs : List V) (i : ℕ) (r : ReadyValue)
    → r ≡ get_or rs i r → i < length rs → Started pads rest accepts s t rs vs i → ToStart pads rest accepts s t rs vs i r
to_start pads rest accepts s t rs vs i r is less started =
    let at : drop i rs ≡ r ∷ drop (suc i) rs = rw (sym is) at (drop-cons rs i r less) in
    start_at pads rest accepts s t started.mid rs vs i r (drop (suc i) rs) at started.done (rw at at started.linked)

-- every filter is started
pub all_started : {V : Type 0} (pads : V → Pads) (rest : V → Streams → Streams) (accepts : V → ℕ → FrameValue → Type 0) (s t : Shape) (rs : List ReadyValue) (vs : List V) (i : ℕ)
    → length rs ≤ i → Started pads rest accepts s t rs vs i → AllTake pads rest accepts (pos 0) s rs vs t
all_started pads rest accepts s t rs vs i long started =
    let end : t ≡ started.mid = rw (drop_all i rs long) at started.linked in
    rw end (rw (take_all i rs long) at started.done)

-- none is started yet
pub none_started : {V : Type 0} (pads : V → Pads) (rest : V → Streams → Streams) (accepts : V → ℕ → FrameValue → Type 0) (s t : Shape) (rs : List ReadyValue) → AreLinked s rs t → Started pads rest accepts s t rs [] 0
none_started pads rest accepts s t rs linked = record { mid = s; done = refl; linked = linked }

-- ---- a chain that was written back

chain_long : {V : Type 0} (pads : V → Pads) (rest : V → Streams → Streams) (accepts : V → ℕ → FrameValue → Type 0) (low : ℤ) (s t : Shape) (rs : List ReadyValue) (vs : List V) → AllTake pads rest accepts low s rs vs t → length vs ≡ length rs
chain_long pads rest accepts low s t [] [] all = refl
chain_long pads rest accepts low s t [] (v ∷ vs) all = absurd all
chain_long pads rest accepts low s t (r ∷ rs) [] all = absurd all
chain_long pads rest accepts low s t (r ∷ rs) (v ∷ vs) all = ap suc (chain_long pads rest accepts low all.1.0 t rs vs all.1.2)

-- the filters that passed a frame are in the places of those before it
pub written_back : {V : Type 0} (pads : V → Pads) (rest : V → Streams → Streams) (accepts : V → ℕ → FrameValue → Type 0) (low high : ℤ) (s t : Shape) (rs : List ReadyValue) (vs ws : List V) (n : ℕ) → n ≡ length vs
    → AllTake pads rest accepts low s rs vs t → AllTake pads rest accepts high s rs ws t → AllTake pads rest accepts high s rs (take n (ws ++ drop (length ws) vs)) t
written_back {V} pads rest accepts low high s t rs vs ws n e old new =
    let before = chain_long pads rest accepts low s t rs vs old in
    let after = chain_long pads rest accepts high s t rs ws new in
    let none : drop (length ws) vs ≡ [] = drop_all (length ws) vs (omega arith) in
    let whole : take n (ws ++ drop (length ws) vs) ≡ ws = ap (λ (z : List V). take n (ws ++ z)) none ∙ (ap (take n) (append-nil ws) ∙ take_all n ws (omega arith)) in
    rw whole new

-- ---- paths

-- the filters of a path are configured for what comes to them
pub ready_linked : (path : List Step) (s t : Shape) (rs : List ReadyValue) → AreReady path s rs t → AreLinked s rs t
ready_linked [] s t [] p = p
ready_linked [] s t (r ∷ rs) p = absurd p
ready_linked (c ∷ cs) s t [] p = absurd p
ready_linked (c ∷ cs) s t (r ∷ rs) p =
    let ready = p.0.is_ready in
    (ready.ins, ready.outs, subst (λ (u : Shape). AreLinked u rs t) (only (sym p.1.1 ∙ ready.outs)) (ready_linked cs p.1.0 t rs p.1.2))
  where
    only : {a b : Shape} → ◌≡◌ {A = List Shape} (a ∷ []) (b ∷ []) → a ≡ b
    only e = cc
