-- What a filter gives of every stream that its inputs may still become.
use Rattle.std.specs.Prelude.{◌≡◌, ◌⊎◌, ℕ, ◌<◌, ◌≤◌, ◌==◌, if◌then◌else◌, Bool, true, false, List, [], refl}
use Rattle.std.proofs.Common.{sym, ◌∙◌, ap, subst, arith, inl, inr, eqb-true, zero, suc, append_assoc, ◌++◌}
use mathlib.Core.Path.{fun_ext}
use Rattle.av_frame.specs.Frames.{FrameValue}
use Rattle.av_frame.specs.Streams.{Stream, Streams, Begins, open_stream, ended_stream, at_pad, after, nothing_more, Rises, AllRise}
use Rattle.av_frame.specs.FilterLaws.{Pads, FilterLaws}
use Rattle.filter_history.specs.Histories.{joined, all_joined, Stands}
use Rattle.filter_history.proofs.HistoryLemmas.{rises_end, begins_joined, joined_open}

-- what t has after s
abbrev pub behind : (s t : Stream) → Begins s t → Stream
behind s t b = record { frames = b.front.rest; ended = t.ended }

pub joined_behind : (s t : Stream) (b : Begins s t) → joined s (behind s t b) ≡ t
joined_behind s t b = at s.ended refl
  where
    at : (d : Bool) → s.ended ≡ d → (if s.ended then s else after s.frames (behind s t b)) ≡ t
    at true e = ap (λ (d : Bool). if d then s else after s.frames (behind s t b)) e ∙ sym (b.same e)
    at false e = ap (λ (d : Bool). if d then s else after s.frames (behind s t b)) e ∙ (ap (λ (xs : List FrameValue). let r : Stream = record { frames = xs; ended = t.ended } in r) (sym b.front.whole))

-- what is still to come, where only some inputs go on
abbrev pub more : (offered asked : Streams) → ((i : ℕ) → Begins (offered i) (asked i)) → (ℕ → Bool) → Streams
more offered asked b goes = λ i. (if goes i then behind (offered i) (asked i) (b i) else open_stream [])

pub all_more : (offered asked : Streams) (b : (i : ℕ) → Begins (offered i) (asked i)) (goes : ℕ → Bool) → ((i : ℕ) → goes i ≡ false → asked i ≡ offered i)
    → all_joined offered (more offered asked b goes) ≡ asked
all_more offered asked b goes same = fun_ext (λ i. at i (goes i) refl)
  where
    at : (i : ℕ) (d : Bool) → goes i ≡ d → joined (offered i) (if d then behind (offered i) (asked i) (b i) else open_stream []) ≡ asked i
    at i true e = joined_behind (offered i) (asked i) (b i)
    at i false e = joined_open (offered i) (offered i).ended refl ∙ sym (same i e)

pub more_rises : (n : ℕ) (offered asked : Streams) (b : (i : ℕ) → Begins (offered i) (asked i)) (goes : ℕ → Bool) → AllRise n asked → AllRise n (more offered asked b goes)
more_rises n offered asked b goes r i h = at (goes i)
  where
    at : (d : Bool) → Rises (if d then behind (offered i) (asked i) (b i) else open_stream []).frames
    at true = rises_end (offered i).frames (b i).front.rest (subst Rises (b i).front.whole (r i h))
    at false = tt

-- what was given begins what whole gives of whatever the inputs become
pub given_begins : (p : Pads) (whole rest : Streams → Streams) (closes over : ℕ → Bool) (offered given : Streams)
    → Stands p whole rest closes over record { ins = offered; outs = given }
    → (asked : Streams) → AllRise p.inputs asked → ((i : ℕ) → Begins (offered i) (asked i))
    → (o : ℕ) → o < p.outputs → Begins (given o) (whole asked o)
given_begins p whole rest closes over offered given s asked r b o h =
    let goes : ℕ → Bool = λ _. true in
    let ins : Streams = more offered asked b goes in
    let same : all_joined offered ins ≡ asked = all_more offered asked b goes (λ i e. absurd (cc)) in
    let is : whole asked o ≡ joined (given o) (rest ins o)
    = ap (λ (z : Streams). whole z o) (sym same) ∙ s.is ins (more_rises p.inputs offered asked b goes r) (subst (λ (z : Streams). AllRise p.inputs z) (sym same) r) o h in
    subst (λ (z : Stream). Begins (given o) z) (sym is) (begins_joined (given o) (rest ins o) (given o).ended refl)

-- ---- several closed inputs
fill : Streams → ℕ → Streams
fill ins zero = nothing_more
fill ins (suc k) = at_pad (fill ins k) k (ins k)

if_self : (n : ℕ) (s t : Stream) (b : Bool) → (n == n) ≡ b → (if b then s else t) ≡ s
if_self n s t true e = refl
if_self n s t false e = absurd (no n e)
  where
    no : (n : ℕ) → (n == n) ≡ false → ⊥
    no n e = grind arith

if_other : (j k : ℕ) (s t : Stream) (b : Bool) → (j == k) ≡ b → (j ≡ k → ⊥) → (if b then s else t) ≡ t
if_other j k s t true e n = absurd (n (eqb-true _ _ e))
if_other j k s t false e n = refl

fill_above : (ins : Streams) (k j : ℕ) → k ≤ j → fill ins k j ≡ open_stream []
unfolding fill
fill_above ins zero j h = refl
fill_above ins (suc k) j h = if_other j k (ins k) (fill ins k j) (j == k) refl (λ e. omega (arith, e, h)) ∙ fill_above ins k j (omega arith)

fill_below : (ins : Streams) (k j : ℕ) → j < k → fill ins k j ≡ ins j
unfolding fill
fill_below ins zero j h = absurd (omega arith)
fill_below ins (suc k) j h = at (j == k) refl (λ l. fill_below ins k j l)
  where
    no : (j k : ℕ) → (j == k) ≡ false → j ≡ k → ⊥
    no j k e f = grind arith

    at : (b : Bool) → (j == k) ≡ b → (j < k → fill ins k j ≡ ins j) → (if b then ins k else fill ins k j) ≡ ins j
    at true e f = ap ins (sym (eqb-true _ _ e))
    at false e f = f (let n : j ≡ k → ⊥ = no j k e in omega arith)

pub at_same : (all : Streams) (i : ℕ) (s : Stream) → all i ≡ s → at_pad all i s ≡ all
at_same all i s e = fun_ext (λ j. at j (j == i) refl)
  where
    at : (j : ℕ) (b : Bool) → (j == i) ≡ b → (if b then s else all j) ≡ all j
    at j true q = sym e ∙ ap all (sym (eqb-true _ _ q))
    at j false q = refl

fill_rest : (p : Pads) (rest : Streams → Streams) (closes : ℕ → Bool)
    → ((i : ℕ) → i < p.inputs → closes i ≡ true → (ins : Streams) (s : Stream) (o : ℕ) → o < p.outputs → rest (at_pad ins i s) o ≡ rest ins o)
    → (ins : Streams) → ((i : ℕ) → i < p.inputs → (closes i ≡ true) ⊎ (ins i ≡ open_stream []))
    → (o : ℕ) → o < p.outputs → (k : ℕ) → k ≤ p.inputs → rest (fill ins k) o ≡ rest nothing_more o
unfolding fill
fill_rest p rest closes law ins c o h zero l = refl
fill_rest p rest closes law ins c o h (suc k) l =
    let m : k < p.inputs = omega arith in
    let before : rest (fill ins k) o ≡ rest nothing_more o = fill_rest p rest closes law ins c o h k (omega arith) in
    elim (c k m) [
      | inl e ↦ law k m e (fill ins k) (ins k) o h ∙ before
      | inr e ↦ ap (λ (z : Streams). rest z o) (at_same (fill ins k) k (ins k) (fill_above ins k k (omega arith) ∙ sym e)) ∙ before
    ]

le_or : (i n : ℕ) → (i < n) ⊎ (n ≤ i)
le_or i n = grind arith

pub settled_all : (p : Pads) (rest : Streams → Streams) (closes : ℕ → Bool)
    → ((i : ℕ) → i < p.inputs → closes i ≡ true → (ins : Streams) (s : Stream) (o : ℕ) → o < p.outputs → rest (at_pad ins i s) o ≡ rest ins o)
    → (ins : Streams) → ((i : ℕ) → i < p.inputs → (closes i ≡ true) ⊎ (ins i ≡ open_stream [])) → ((i : ℕ) → p.inputs ≤ i → ins i ≡ open_stream [])
    → (o : ℕ) → o < p.outputs → rest ins o ≡ rest nothing_more o
settled_all p rest closes law ins c far o h =
    ap (λ (z : Streams). rest z o) (sym (fun_ext at)) ∙ fill_rest p rest closes law ins c o h p.inputs (omega arith)
  where
    at : (j : ℕ) → fill ins p.inputs j ≡ ins j
    at j = elim (le_or j p.inputs) [ inl l ↦ fill_below ins p.inputs j l | inr l ↦ fill_above ins p.inputs j l ∙ sym (far j l) ]

joined_ended : (s : Stream) (d : Bool) → s.ended ≡ d → d ≡ true → joined s (ended_stream []) ≡ s
joined_ended s true e f = rw e refl
joined_ended s false e f = absurd (cc)

-- if nothing can be given for now on an output, what was given is all that whole gives, also of more on the closed inputs
pub given_whole : (p : Pads) (whole rest : Streams → Streams) (closes wants over : ℕ → Bool) (offered given : Streams)
    → FilterLaws p rest closes wants over
    → Stands p whole rest closes over record { ins = offered; outs = given }
    → (goes : ℕ → Bool) → ((i : ℕ) → p.inputs ≤ i → goes i ≡ false)
    → (asked : Streams) → AllRise p.inputs asked → ((i : ℕ) → Begins (offered i) (asked i)) → ((i : ℕ) → goes i ≡ false → asked i ≡ offered i)
    → (o : ℕ) → o < p.outputs
    → ((given o).ended ≡ true) ⊎ ((rest nothing_more o ≡ open_stream []) × ((i : ℕ) → i < p.inputs → goes i ≡ true → closes i ≡ true))
    → whole asked o ≡ given o
given_whole p whole rest closes wants over offered given laws s goes far asked r b same o h k =
    let ins : Streams = more offered asked b goes in
    let all : all_joined offered ins ≡ asked = all_more offered asked b goes same in
    let is : whole asked o ≡ joined (given o) (rest ins o)
    = ap (λ (z : Streams). whole z o) (sym all) ∙ s.is ins (more_rises p.inputs offered asked b goes r) (subst (λ (z : Streams). AllRise p.inputs z) (sym all) r) o h in
    elim k [
      | inl e ↦ is ∙ ap (joined (given o)) (laws.over_is o h (s.over_is o h e) ins) ∙ joined_ended (given o) (given o).ended refl e
      | inr q ↦
          let quiet : rest ins o ≡ open_stream [] = settled_all p rest closes laws.settled ins
          (λ i l. one i l (goes i) refl q.1) (λ i l. none i (goes i) refl (far i l)) o h ∙ q.0 in
          is ∙ ap (joined (given o)) quiet ∙ joined_open (given o) (given o).ended refl
    ]
  where
    one : (i : ℕ) → i < p.inputs → (d : Bool) → goes i ≡ d → ((i : ℕ) → i < p.inputs → goes i ≡ true → closes i ≡ true)
        → (closes i ≡ true) ⊎ ((if d then behind (offered i) (asked i) (b i) else open_stream []) ≡ open_stream [])
    one i l true e c = inl (c i l e)
    one i l false e c = inr refl

    none : (i : ℕ) (d : Bool) → goes i ≡ d → d ≡ false → (if d then behind (offered i) (asked i) (b i) else open_stream []) ≡ open_stream []
    none i true e f = absurd (cc)
    none i false e f = refl

pub begins_trans : (s t u : Stream) → Begins s t → Begins t u → Begins s u
begins_trans s t u b c = record {
  front = record { rest = b.front.rest ++ c.front.rest; whole = c.front.whole ∙ ap (λ (l : List FrameValue). l ++ c.front.rest) b.front.whole ∙ append_assoc s.frames b.front.rest c.front.rest };
  same = λ e. (let k = b.same e in c.same (ap (λ (z : Stream). z.ended) k ∙ e) ∙ k);
}
