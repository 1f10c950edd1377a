-- Whole texts: one graph at most, or one fault.
use Rattle.std.proofs.Common.{◌≡◌, ◌<◌, ◌≤◌, ◌+◌, ◌⊎◌, ℕ, List, [], ◌∷◌, ◌++◌, Some, Result, Err, lit<, length, drop, refl, sym, ◌∙◌, ap, subst, arith, inl, inr, append_assoc}
use Rattle.std.specs.Str.{IsUtf8, IsCharBoundary}
use Rattle.std.specs.List.{Contains}
use Rattle.std.proofs.lemmas.List.{append-nil, drop-drop, drop_more, length-drop, append_cancel_left}
use Rattle.std.proofs.lemmas.Str.{IsCharBoundary-after_ascii}
use Rattle.av_base.specs.declared.failure.Failure.{Failure}
use Rattle.graph_text.specs.declared.graph.GraphText.{GraphText}
use Rattle.std.proofs.lemmas.List.Elements.{Contains-append_right}
use Rattle.av_text.specs.Faults.{IsFaultAt}
use Rattle.av_text.specs.declared.fault.TextFault.{TextFault}
use Rattle.av_text.proofs.ReadingLemmas.{mark_unique}
use Rattle.av_text.specs.declared.fault.TextKind.{TextKind}
use Rattle.av_text.specs.declared.fault.TextKind.TheVariants.{Stray}
use Rattle.graph_text.specs.Grammar.{IsFilter, NoFilter}
use Rattle.av_text.specs.Parts.{Skips}
use Rattle.graph_text.specs.Graphs.{AreCalls, IsStray, CallsFail, flags_mark, IsBody, NoBody, IsGraph, IsGraphFault}
use Rattle.av_text.proofs.Places.{skip_same}
use Rattle.graph_text.proofs.PartLemmas.{filter_same, filter_fault, filter_apart}
use Rattle.graph_text.specs.Reading.{IsNext}
use Rattle.graph_text.specs.declared.graph.FilterCall.{FilterCall}
use Rattle.av_base.proofs.Lists.{cons_parts}
use Rattle.av_base.specs.Failures.{IfFault, Gives, Refuses}
use Rattle.av_base.proofs.FailureLemmas.{fault_passed, error_gives, error_refuses}

-- ---- the calls so far

-- calls were read up to a place, at which a filter of this chain must be: whatever is there completes them
pub record Called (text : List ℕ) (start : ℕ) (calls : List FilterCall) (chain place : ℕ) : Type 0 where
  pub boundary : IsCharBoundary text place
  pub few : chain ≤ place
  pub reads : (more : List FilterCall) → AreCalls (length text) chain (drop place text) more → AreCalls (length text) 0 (drop start text) (calls ++ more)
  pub fails : (more : List FilterCall) (kind : TextKind) (bad : List ℕ) → CallsFail (length text) chain (drop place text) more kind bad → CallsFail (length text) 0 (drop start text) (calls ++ more) kind bad

pub called_none : (text : List ℕ) (start : ℕ) → IsCharBoundary text start → Called text start [] 0 start
called_none text start b = record { boundary = b; few = omega arith; reads = λ more h. h; fails = λ more kind bad h. h }

-- the place after a mark
after_mark : (text more : List ℕ) (end mark : ℕ) → drop end text ≡ mark ∷ more → drop (end + 1) text ≡ more
after_mark text more end mark e = sym (drop-drop 1 end text) ∙ ap (drop 1) e

pub called_more : {text : List ℕ} {start : ℕ} {calls : List FilterCall} {chain place : ℕ} (call : FilterCall) (end next : ℕ) → Called text start calls chain place
    → IsFilter (length text) chain (drop place text) call (drop end text) → place ≤ end → IsCharBoundary text (end + 1) → IsNext (drop end text) chain (Some next) → Called text start (calls ++ call ∷ []) next (end + 1)
called_more {text} {start} {calls} {chain} {place} call end next l h later b n = record {
  boundary = b;
  few = (let few = l.few in elim n.1 [ inl same ↦ (let e = same.1 in omega arith) | inr on ↦ (let e = on.1 in omega arith) ]);
  reads = λ more are.
      let P : List FilterCall → Type 0 = λ xs. AreCalls (length text) 0 (drop start text) xs in
      subst P (sym (append_assoc calls (call ∷ []) more)) (l.reads (call ∷ more) (drop end text, h, inr (follows more are)));
  fails = λ more kind bad are.
      let P : List FilterCall → Type 0 = λ xs. CallsFail (length text) 0 (drop start text) xs kind bad in
      subst P (sym (append_assoc calls (call ∷ []) more)) (l.fails (call ∷ more) kind bad (drop end text, n.0, h, failing more kind bad are));
} where
  follows : (more : List FilterCall) → AreCalls (length text) next (drop (end + 1) text) more
      → ((rest : List ℕ) × (drop end text ≡ 44 ∷ rest) × AreCalls (length text) chain rest more) ⊎ ((rest : List ℕ) × (drop end text ≡ 59 ∷ rest) × AreCalls (length text) (chain + 1) rest more)
  follows more are = elim n.1 [
    | inl same ↦ inl (n.0, same.0, rw (same.1, after_mark text n.0 end 44 same.0) at are)
    | inr on ↦ inr (n.0, on.0, rw (on.1, after_mark text n.0 end 59 on.0) at are)
  ]

  failing : (more : List FilterCall) (kind : TextKind) (bad : List ℕ) → CallsFail (length text) next (drop (end + 1) text) more kind bad
      → ((drop end text ≡ 44 ∷ n.0) × CallsFail (length text) chain n.0 more kind bad) ⊎ ((drop end text ≡ 59 ∷ n.0) × CallsFail (length text) (chain + 1) n.0 more kind bad)
  failing more kind bad are = elim n.1 [
    | inl same ↦ inl (same.0, rw (same.1, after_mark text n.0 end 44 same.0) at are)
    | inr on ↦ inr (on.0, rw (on.1, after_mark text n.0 end 59 on.0) at are)
  ]

-- a filter, and the end after it
pub called_all : {text : List ℕ} {start : ℕ} {calls : List FilterCall} {chain place : ℕ} (call : FilterCall) (end : ℕ) → Called text start calls chain place
    → IsFilter (length text) chain (drop place text) call (drop end text) → drop end text ≡ [] → AreCalls (length text) 0 (drop start text) (calls ++ call ∷ [])
called_all {text} {start} {calls} {chain} {place} call end l h over = l.reads (call ∷ []) (drop end text, h, inl (over, refl))

-- no filter
pub called_fault : {text : List ℕ} {start : ℕ} {calls : List FilterCall} {chain place : ℕ} (kind : TextKind) (bad : List ℕ) → Called text start calls chain place
    → NoFilter (drop place text) kind bad → CallsFail (length text) 0 (drop start text) calls kind bad
called_fault {text} {start} {calls} {chain} {place} kind bad l h = rw append-nil at (l.fails [] kind bad (inl h))

-- a filter, and something else after it
pub called_stray : {text : List ℕ} {start : ℕ} {calls : List FilterCall} {chain place : ℕ} (call : FilterCall) (end : ℕ) → Called text start calls chain place
    → IsFilter (length text) chain (drop place text) call (drop end text) → IsStray (drop end text) → CallsFail (length text) 0 (drop start text) calls Stray (drop end text)
called_stray {text} {start} {calls} {chain} {place} call end l h stray = rw append-nil at (l.fails [] Stray (drop end text) (inr (call, h, stray, refl)))

-- ---- one reading

-- what follows a filter
abbrev Follows : ℕ → ℕ → List ℕ → List FilterCall → Type 0
Follows total chain rest calls = ((rest ≡ []) × (calls ≡ []))
    ⊎ (((more : List ℕ) × (rest ≡ 44 ∷ more) × AreCalls total chain more calls) ⊎ ((more : List ℕ) × (rest ≡ 59 ∷ more) × AreCalls total (chain + 1) more calls))

no_rest : {mark : ℕ} {rest more : List ℕ} → rest ≡ [] → rest ≡ mark ∷ more → ⊥
no_rest e f = omega (arith, ap length e, ap length f)

marks_differ : {rest more other : List ℕ} → rest ≡ 44 ∷ more → rest ≡ 59 ∷ other → ⊥
marks_differ e f = let h = (cons_parts (sym e ∙ f)).0 in omega arith

follow_same : (total chain : ℕ) (xs ys : List FilterCall) {r s : List ℕ} → Follows total chain r xs → Follows total chain s ys → r ≡ s
    → ((c : ℕ) (m : List ℕ) → AreCalls total c m xs → AreCalls total c m ys → xs ≡ ys) → xs ≡ ys
follow_same total chain xs ys (inl u) (inl v) e again = u.1 ∙ sym v.1
follow_same total chain xs ys (inl u) (inr (inl v)) e again = absurd (no_rest (sym e ∙ u.0) v.1)
follow_same total chain xs ys (inl u) (inr (inr v)) e again = absurd (no_rest (sym e ∙ u.0) v.1)
follow_same total chain xs ys (inr (inl u)) (inl v) e again = absurd (no_rest (e ∙ v.0) u.1)
follow_same total chain xs ys (inr (inr u)) (inl v) e again = absurd (no_rest (e ∙ v.0) u.1)
follow_same total chain xs ys (inr (inl u)) (inr (inl v)) e again = again chain v.0 (rw (cons_parts (sym u.1 ∙ (e ∙ v.1))).1 at u.2) v.2
follow_same total chain xs ys (inr (inl u)) (inr (inr v)) e again = absurd (marks_differ u.1 (e ∙ v.1))
follow_same total chain xs ys (inr (inr u)) (inr (inl v)) e again = absurd (marks_differ v.1 (sym e ∙ u.1))
follow_same total chain xs ys (inr (inr u)) (inr (inr v)) e again = again (chain + 1) v.0 (rw (cons_parts (sym u.1 ∙ (e ∙ v.1))).1 at u.2) v.2

calls_same : (total chain : ℕ) (text : List ℕ) (xs ys : List FilterCall) → AreCalls total chain text xs → AreCalls total chain text ys → xs ≡ ys
calls_same total chain text [] ys p q = absurd p
calls_same total chain text (x ∷ xs) [] p q = absurd q
calls_same total chain text (x ∷ xs) (y ∷ ys) p q =
    let one = filter_same p.1 q.1 in
    let others : xs ≡ ys = follow_same total chain xs ys p.2 q.2 one.1 (λ c m. calls_same total c m xs ys) in
    let first = one.0 in
    cc

-- ---- one fault

stray_not : {rest more : List ℕ} → IsStray rest → (rest ≡ 44 ∷ more) ⊎ (rest ≡ 59 ∷ more) → ⊥
stray_not stray (inl e) = (subst IsStray e stray).0 refl
stray_not stray (inr e) = (subst IsStray e stray).1 refl

-- a mark and what fails after it
abbrev FailsOn : ℕ → ℕ → List ℕ → List ℕ → List FilterCall → TextKind → List ℕ → Type 0
FailsOn total chain rest more calls kind bad = ((rest ≡ 44 ∷ more) × CallsFail total chain more calls kind bad) ⊎ ((rest ≡ 59 ∷ more) × CallsFail total (chain + 1) more calls kind bad)

on_mark : (total chain : ℕ) {rest more : List ℕ} (calls : List FilterCall) (kind : TextKind) (bad : List ℕ) → FailsOn total chain rest more calls kind bad → (rest ≡ 44 ∷ more) ⊎ (rest ≡ 59 ∷ more)
on_mark total chain calls kind bad (inl h) = inl h.0
on_mark total chain calls kind bad (inr h) = inr h.0

fails_on_same : (total chain : ℕ) (xs ys : List FilterCall) {r s m n bad other : List ℕ} {k l : TextKind} → FailsOn total chain r m xs k bad → FailsOn total chain s n ys l other → r ≡ s
    → ((c : ℕ) → CallsFail total c n xs k bad → CallsFail total c n ys l other → (k ≡ l) × (bad ≡ other)) → (k ≡ l) × (bad ≡ other)
fails_on_same total chain xs ys (inl u) (inl v) e again = again chain (rw (cons_parts (sym u.0 ∙ (e ∙ v.0))).1 at u.1) v.1
fails_on_same total chain xs ys (inl u) (inr v) e again = absurd (marks_differ u.0 (e ∙ v.0))
fails_on_same total chain xs ys (inr u) (inl v) e again = absurd (marks_differ v.0 (sym e ∙ u.0))
fails_on_same total chain xs ys (inr u) (inr v) e again = again (chain + 1) (rw (cons_parts (sym u.0 ∙ (e ∙ v.0))).1 at u.1) v.1

-- no call after which another fails fails itself
none_fails : (total chain : ℕ) (text : List ℕ) {y : FilterCall} {rest more : List ℕ} {k : TextKind} {bad : List ℕ} → CallsFail total chain text [] k bad → IsFilter total chain text y rest → (rest ≡ 44 ∷ more) ⊎ (rest ≡ 59 ∷ more) → ⊥
none_fails total chain text (inl f) h on = filter_apart h f
none_fails total chain text (inr f) h on = stray_not (subst IsStray (filter_same f.1 h).1 f.2) on

calls_fault : (total chain : ℕ) (text : List ℕ) (xs ys : List FilterCall) (k l : TextKind) (r s : List ℕ) → CallsFail total chain text xs k r → CallsFail total chain text ys l s → (k ≡ l) × (r ≡ s)
calls_fault total chain text [] [] k l r s (inl p) (inl q) = filter_fault p q
calls_fault total chain text [] [] k l r s (inl p) (inr q) = absurd (filter_apart q.1 p)
calls_fault total chain text [] [] k l r s (inr p) (inl q) = absurd (filter_apart p.1 q)
calls_fault total chain text [] [] k l r s (inr p) (inr q) = (p.3 ∙ sym q.3, (filter_same p.1 q.1).1)
calls_fault total chain text [] (y ∷ ys) k l r s p q = absurd (none_fails total chain text p q.2 (on_mark total chain ys l s q.3))
calls_fault total chain text (x ∷ xs) [] k l r s p q = absurd (none_fails total chain text q p.2 (on_mark total chain xs k r p.3))
calls_fault total chain text (x ∷ xs) (y ∷ ys) k l r s p q =
    fails_on_same total chain xs ys p.3 q.3 (filter_same p.2 q.2).1 (λ c. calls_fault total c q.1 xs ys k l r s)

-- ---- not both

-- what follows a filter is no stray
follows_fine : (total chain : ℕ) (xs : List FilterCall) {rest : List ℕ} → Follows total chain rest xs → IsStray rest → ⊥
follows_fine total chain xs (inl u) stray = subst IsStray u.0 stray
follows_fine total chain xs (inr (inl u)) stray = stray_not stray (inl u.1)
follows_fine total chain xs (inr (inr u)) stray = stray_not stray (inr u.1)

follows_apart : (total chain : ℕ) (xs ys : List FilterCall) (k : TextKind) (bad : List ℕ) {r s n : List ℕ} → Follows total chain r xs → FailsOn total chain s n ys k bad → r ≡ s
    → ((c : ℕ) → AreCalls total c n xs → CallsFail total c n ys k bad → ⊥) → ⊥
follows_apart total chain xs ys k bad (inl u) (inl v) e again = no_rest (sym e ∙ u.0) v.0
follows_apart total chain xs ys k bad (inl u) (inr v) e again = no_rest (sym e ∙ u.0) v.0
follows_apart total chain xs ys k bad (inr (inl u)) (inl v) e again = again chain (rw (cons_parts (sym u.1 ∙ (e ∙ v.0))).1 at u.2) v.1
follows_apart total chain xs ys k bad (inr (inl u)) (inr v) e again = marks_differ u.1 (e ∙ v.0)
follows_apart total chain xs ys k bad (inr (inr u)) (inl v) e again = marks_differ v.0 (sym e ∙ u.1)
follows_apart total chain xs ys k bad (inr (inr u)) (inr v) e again = again (chain + 1) (rw (cons_parts (sym u.1 ∙ (e ∙ v.0))).1 at u.2) v.1

calls_apart : (total chain : ℕ) (text : List ℕ) (xs ys : List FilterCall) (k : TextKind) (bad : List ℕ) → AreCalls total chain text xs → CallsFail total chain text ys k bad → ⊥
calls_apart total chain text [] ys k bad p q = p
calls_apart total chain text (x ∷ xs) [] k bad p (inl f) = filter_apart p.1 f
calls_apart total chain text (x ∷ xs) [] k bad p (inr f) = follows_fine total chain xs p.2 (subst IsStray (filter_same f.1 p.1).1 f.2)
calls_apart total chain text (x ∷ xs) (y ∷ ys) k bad p q = follows_apart total chain xs ys k bad p.2 q.3 (filter_same p.1 q.2).1 (λ c. calls_apart total c q.1 xs ys k bad)

-- ---- bodies

same_flags : {text xs ys : List ℕ} → Skips text (flags_mark ++ xs) → Skips text (flags_mark ++ ys) → xs ≡ ys
same_flags {text} {xs} {ys} p q = append_cancel_left flags_mark xs ys (skip_same p q)

body_same : (text a b : List ℕ) → IsBody text a → IsBody text b → a ≡ b
body_same text a b (inl p) (inl q) = (mark_unique 59 p.0 q.0 a b p.2 q.2 (same_flags p.1 q.1)).1
body_same text a b (inl p) (inr q) = absurd (q.0 (p.0 ++ 59 ∷ a) p.1)
body_same text a b (inr p) (inl q) = absurd (p.0 (q.0 ++ 59 ∷ b) q.1)
body_same text a b (inr p) (inr q) = p.1 ∙ sym q.1

body_apart : (text a bad : List ℕ) (k : TextKind) → IsBody text a → NoBody text k bad → ⊥
body_apart text a bad k (inl p) q = q.2 (subst (λ (xs : List ℕ). Contains xs 59) (same_flags p.1 q.1) (Contains-append_right p.0 (59 ∷ a) 59 (0, omega arith, refl)))
body_apart text a bad k (inr p) q = p.0 q.0 q.1

-- ---- the law

pub one_graph : (text : List ℕ) (a b : List FilterCall) → IsGraph text a → IsGraph text b → a ≡ b
one_graph text a b p q = calls_same (length text) 0 q.0 a b (rw (body_same text p.0 q.0 p.1 q.1) at p.2) q.2

pub one_graph_fault : (text r s : List ℕ) (k l : TextKind) → IsGraphFault text k r → IsGraphFault text l s → (k ≡ l) × (r ≡ s)
one_graph_fault text r s k l (inl p) (inl q) = (p.4 ∙ sym q.4, p.3 ∙ sym q.3)
one_graph_fault text r s k l (inl p) (inr q) = absurd (body_apart text q.0 r k q.2 p)
one_graph_fault text r s k l (inr p) (inl q) = absurd (body_apart text p.0 s l p.2 q)
one_graph_fault text r s k l (inr p) (inr q) = calls_fault (length text) 0 q.0 p.1 q.1 k l r s (rw (body_same text p.0 q.0 p.2 q.2) at p.3) q.3

pub graph_or_fault : (text s : List ℕ) (a : List FilterCall) (k : TextKind) → IsGraph text a → IsGraphFault text k s → ⊥
graph_or_fault text s a k p (inl q) = body_apart text p.0 s k p.1 q
graph_or_fault text s a k p (inr q) = calls_apart (length text) 0 q.0 a q.1 k s (rw (body_same text p.0 q.0 p.1 q.2) at p.2) q.3

-- ---- a refused text

pub same_fault : (text : List ℕ) (kind : TextKind) (bad : List ℕ) (f : TextFault) → (other : List ℕ) × IsGraphFault text f.kind other × (f.at + length other ≡ length text) → IsGraphFault text kind bad → IsFaultAt text kind bad f
same_fault text kind bad f h g =
    let same = one_graph_fault text h.0 bad f.kind kind h.1 g in
    record { kind_is = same.0; at_is = rw same.1 at h.2 }

abbrev pub GraphFaultAt : List ℕ → TextFault → Type 0
GraphFaultAt text f = (bad : List ℕ) × IsGraphFault text f.kind bad × (f.at + length bad ≡ length text)

pub refused_reads : (text : List ℕ) (q : Result GraphText (Failure TextFault)) (e : Failure TextFault) → q ≡ Err e → IfFault q (GraphFaultAt text) → (calls : List FilterCall) → IsGraph text calls → Gives (λ g. g.calls ≡ calls) q
refused_reads text q e is fault calls are = error_gives q e _ is (fault_passed q q e e is is refl (GraphFaultAt text) _ (λ f h. graph_or_fault text h.0 calls f.kind are h.1) fault)

pub refused_faulty : (text : List ℕ) (q : Result GraphText (Failure TextFault)) (e : Failure TextFault) → q ≡ Err e → IfFault q (GraphFaultAt text) → (kind : TextKind) (bad : List ℕ) → IsGraphFault text kind bad → Refuses (IsFaultAt text kind bad) q
refused_faulty text q e is fault kind bad g = error_refuses q e _ is (fault_passed q q e e is is refl (GraphFaultAt text) (IsFaultAt text kind bad) (λ f h. same_fault text kind bad f h g) fault)

-- ---- places between filters

pub next_boundary : (text : List ℕ) (end chain next : ℕ) → IsUtf8 text → IsNext (drop end text) chain (Some next) → IsCharBoundary text (end + 1)
next_boundary text end chain next u n = elim n.1 [ inl h ↦ behind 44 h.0 (lit< tt) | inr h ↦ behind 59 h.0 (lit< tt) ] where
  behind : (mark : ℕ) → drop end text ≡ mark ∷ n.0 → mark < 128 → IsCharBoundary text (end + 1)
  behind mark e low =
      let within : end < length text = omega (arith, ap length e, length-drop end text) in
      let same = (cons_parts (sym (drop_more text end 0 within) ∙ e)).0 in
      IsCharBoundary-after_ascii text end u within (omega arith)
