-- Graphs link in one way.
use Rattle.std.specs.Prelude.{IfOk}
use Rattle.std.proofs.Common.{◌≡◌, ◌++◌, Result, ℕ, List, [], ◌∷◌, length, refl, sym, ◌∙◌, ap, subst, inl, inr}
use Rattle.std.proofs.lemmas.Option.{same_Some}
use Rattle.graph_plan.specs.declared.plan.Edge.{Edge}
use Rattle.graph_plan.specs.declared.plan.Source.{Source}
use Rattle.graph_plan.specs.declared.plan.OpenOut.{OpenOut}
use Rattle.graph_plan.specs.declared.plan.DraftPlan.{DraftPlan}
use Rattle.graph_plan.specs.declared.plan.PlanFault.{PlanFault}
use Rattle.graph_plan.specs.declared.plan.PlanFault.TheVariants.{TooManyLinks, PadCount, LabelTwice, UnknownInput, MediaMismatch, Cycle, OpenPad}
use Rattle.graph_plan.specs.declared.places.Place.{Place}
use Rattle.graph_plan.specs.declared.places.Side.TheVariants.{In, Out}
use Rattle.av_base.specs.declared.failure.Failure.{Failure}
use Rattle.av_base.proofs.FailureLemmas.{gives_from, refuses_from}
use Rattle.av_base.specs.Failures.{IfFault, Gives, Refuses}
use Rattle.av_base.specs.First.{Never}
use Rattle.av_base.proofs.Arithmetic.{first_same}
use Rattle.graph_plan.specs.Orders.{AreBelow}
use Rattle.graph_plan.specs.Graphs.{Graph, pads_on, TakesFrom}
use Rattle.graph_plan.specs.Links.{link_to, AreLinks, out_pad, AreLeft}
use Rattle.graph_plan.specs.Refusals.{HasLabelTwice, FindsNone, IsSmall, IsLinkFault, IsLinked}
use Rattle.graph_plan.proofs.OrderLemmas.{same_comes, leads_below, done_none, comes_straight}
use Rattle.graph_plan.proofs.GraphLemmas.{one_origin, no_origin, joined_giver_within, joined_taker_within}

-- filters take from filters of the text
pub takes_below : (graph : Graph) → AreBelow (TakesFrom graph) (length graph.calls)
takes_below graph = record {
  givers = λ giver taker takes. joined_giver_within graph (record { filter = giver; pad = takes.0 }) (record { filter = taker; pad = takes.1 }) takes.2;
  takers = λ giver taker takes. joined_taker_within graph (record { filter = giver; pad = takes.0 }) (record { filter = taker; pad = takes.1 }) takes.2;
}

-- ---- one draft

pub same_links : (graph : Graph) → Never (HasLabelTwice graph) → (before : List Edge) (takers : List Place) (a b : List Edge) → AreLinks graph before takers a → AreLinks graph before takers b → a ≡ b
same_links graph once before [] [] [] p q = refl
same_links graph once before [] [] (d ∷ b) p q = absurd q
same_links graph once before [] (c ∷ a) b p q = absurd p
same_links graph once before (taker ∷ takers) [] b p q = absurd p
same_links graph once before (taker ∷ takers) (c ∷ a) [] p q = absurd q
same_links graph once before (taker ∷ takers) (c ∷ a) (d ∷ b) p q =
    let origins : p.0.0 ≡ q.0.0 = one_origin graph once before taker p.0.0 q.0.0 p.0.2 q.0.2 in
    let first : c ≡ d = p.0.1 ∙ (ap (link_to taker) origins ∙ sym q.0.1) in
    let P : Edge → Type 0 = λ link. AreLinks graph (before ++ link ∷ []) takers b in
    let rest = same_links graph once (before ++ c ∷ []) takers a b p.1 (subst P (sym first) q.1) in
    cc

pub same_left : (graph : Graph) (givers : List Place) (a b : List OpenOut) → AreLeft graph givers a → AreLeft graph givers b → a ≡ b
same_left graph [] [] [] p q = refl
same_left graph [] [] (d ∷ b) p q = absurd q
same_left graph [] (c ∷ a) b p q = absurd p
same_left graph (giver ∷ givers) a b (inl p) (inl q) = same_left graph givers a b p.1 q.1
same_left graph (giver ∷ givers) a b (inl p) (inr q) = absurd (q.0 p.0.0 p.0.1)
same_left graph (giver ∷ givers) a b (inr p) (inl q) = absurd (p.0 q.0.0 q.0.1)
same_left graph (giver ∷ givers) a b (inr p) (inr q) =
    let gives : p.1.0 ≡ q.1.0 = same_Some p.1.0 q.1.0 (sym p.1.2 ∙ q.1.2) in
    let first : out_pad graph giver p.1.0 ≡ out_pad graph giver q.1.0 = ap (out_pad graph giver) gives in
    let rest = same_left graph givers p.1.1 q.1.1 p.1.4 q.1.4 in
    p.1.3 ∙ (ap (λ (o : OpenOut). o ∷ p.1.1) first ∙ (ap (λ (os : List OpenOut). out_pad graph giver q.1.0 ∷ os) rest ∙ sym q.1.3))

pub one_draft : (graph : Graph) (outputs : ℕ) (a b : DraftPlan) → IsLinked graph outputs a → IsLinked graph outputs b → a ≡ b
one_draft graph outputs a b p q =
    let links : a.links ≡ b.links = same_links graph p.sound.labels [] (pads_on graph In) a.links b.links p.draft_is.links q.draft_is.links in
    let order : a.order ≡ b.order = same_comes (TakesFrom graph) (length graph.calls) [] a.order b.order p.draft_is.order q.draft_is.order in
    let opens : a.opens ≡ b.opens = same_left graph (pads_on graph Out) a.opens b.opens p.draft_is.opens q.draft_is.opens in
    let with_links : a ≡ record a { links = b.links } = ap (λ (z : List Edge). record a { links = z }) links in
    let with_order : record a { links = b.links } ≡ record { links = b.links; order = b.order; opens = a.opens } = ap (λ (z : List ℕ). let d : DraftPlan = record { links = b.links; order = z; opens = a.opens } in d) order in
    with_links ∙ (with_order ∙ ap (λ (z : List OpenOut). let d : DraftPlan = record { links = b.links; order = b.order; opens = z } in d) opens)

-- ---- one fault

-- the first input pad that finds none is one
same_open : (graph : Graph) → Never (HasLabelTwice graph) → (before : List Edge) (takers : List Place) (f p g q : ℕ) → FindsNone graph before takers f p → FindsNone graph before takers g q → (f ≡ g) × (p ≡ q)
same_open graph once before [] f p g q x y = absurd x
same_open graph once before (taker ∷ takers) f p g q (inl x) (inl y) = (sym x.0 ∙ y.0, sym x.1 ∙ y.1)
same_open graph once before (taker ∷ takers) f p g q (inl x) (inr y) = absurd (no_origin graph before taker y.0 x.3.0 x.2 x.3.1 x.3.2 y.1)
same_open graph once before (taker ∷ takers) f p g q (inr x) (inl y) = absurd (no_origin graph before taker x.0 y.3.0 y.2 y.3.1 y.3.2 x.1)
same_open graph once before (taker ∷ takers) f p g q (inr x) (inr y) =
    let origins : x.0 ≡ y.0 = one_origin graph once before taker x.0 y.0 x.1 y.1 in
    let P : Source → Type 0 = λ origin. FindsNone graph (before ++ link_to taker origin ∷ []) takers g q in
    same_open graph once (before ++ link_to taker x.0 ∷ []) takers f p g q x.2 (subst P (sym origins) y.2)

pub one_fault : (graph : Graph) (outputs : ℕ) (f g : PlanFault) → IsLinkFault graph outputs f → IsLinkFault graph outputs g → f ≡ g
one_fault graph outputs TooManyLinks TooManyLinks p q = refl
one_fault graph outputs TooManyLinks (PadCount b) p q = absurd (q.0 p)
one_fault graph outputs TooManyLinks (LabelTwice b) p q = absurd (q.0 p)
one_fault graph outputs TooManyLinks (UnknownInput b) p q = absurd (q.0 p)
one_fault graph outputs TooManyLinks (MediaMismatch b) p q = absurd (q.0 p)
one_fault graph outputs TooManyLinks (Cycle b) p q = absurd (q.0.few p)
one_fault graph outputs TooManyLinks (OpenPad b d) p q = absurd (q.0.few p)
one_fault graph outputs TooManyLinks g p q = absurd q
one_fault graph outputs (PadCount a) TooManyLinks p q = absurd (p.0 q)
one_fault graph outputs (PadCount a) (PadCount b) p q = ap PadCount (first_same p.1 q.1)
one_fault graph outputs (PadCount a) (LabelTwice b) p q = absurd (q.1 a p.1.holds)
one_fault graph outputs (PadCount a) (UnknownInput b) p q = absurd (q.1 a p.1.holds)
one_fault graph outputs (PadCount a) (MediaMismatch b) p q = absurd (q.1 a p.1.holds)
one_fault graph outputs (PadCount a) (Cycle b) p q = absurd (q.0.pads a p.1.holds)
one_fault graph outputs (PadCount a) (OpenPad b d) p q = absurd (q.0.pads a p.1.holds)
one_fault graph outputs (PadCount a) g p q = absurd q
one_fault graph outputs (LabelTwice a) TooManyLinks p q = absurd (p.0 q)
one_fault graph outputs (LabelTwice a) (PadCount b) p q = absurd (p.1 b q.1.holds)
one_fault graph outputs (LabelTwice a) (LabelTwice b) p q = ap LabelTwice (first_same p.2 q.2)
one_fault graph outputs (LabelTwice a) (UnknownInput b) p q = absurd (q.2 a p.2.holds)
one_fault graph outputs (LabelTwice a) (MediaMismatch b) p q = absurd (q.2 a p.2.holds)
one_fault graph outputs (LabelTwice a) (Cycle b) p q = absurd (q.0.labels a p.2.holds)
one_fault graph outputs (LabelTwice a) (OpenPad b d) p q = absurd (q.0.labels a p.2.holds)
one_fault graph outputs (LabelTwice a) g p q = absurd q
one_fault graph outputs (UnknownInput a) TooManyLinks p q = absurd (p.0 q)
one_fault graph outputs (UnknownInput a) (PadCount b) p q = absurd (p.1 b q.1.holds)
one_fault graph outputs (UnknownInput a) (LabelTwice b) p q = absurd (p.2 b q.2.holds)
one_fault graph outputs (UnknownInput a) (UnknownInput b) p q = ap UnknownInput (first_same p.3 q.3)
one_fault graph outputs (UnknownInput a) (MediaMismatch b) p q = absurd (q.3 a p.3.holds)
one_fault graph outputs (UnknownInput a) (Cycle b) p q = absurd (q.0.inputs a p.3.holds)
one_fault graph outputs (UnknownInput a) (OpenPad b d) p q = absurd (q.0.inputs a p.3.holds)
one_fault graph outputs (UnknownInput a) g p q = absurd q
one_fault graph outputs (MediaMismatch a) TooManyLinks p q = absurd (p.0 q)
one_fault graph outputs (MediaMismatch a) (PadCount b) p q = absurd (p.1 b q.1.holds)
one_fault graph outputs (MediaMismatch a) (LabelTwice b) p q = absurd (p.2 b q.2.holds)
one_fault graph outputs (MediaMismatch a) (UnknownInput b) p q = absurd (p.3 b q.3.holds)
one_fault graph outputs (MediaMismatch a) (MediaMismatch b) p q = ap MediaMismatch (first_same p.4 q.4)
one_fault graph outputs (MediaMismatch a) (Cycle b) p q = absurd (q.0.kinds a p.4.holds)
one_fault graph outputs (MediaMismatch a) (OpenPad b d) p q = absurd (q.0.kinds a p.4.holds)
one_fault graph outputs (MediaMismatch a) g p q = absurd q
one_fault graph outputs (Cycle a) TooManyLinks p q = absurd (p.0.few q)
one_fault graph outputs (Cycle a) (PadCount b) p q = absurd (p.0.pads b q.1.holds)
one_fault graph outputs (Cycle a) (LabelTwice b) p q = absurd (p.0.labels b q.2.holds)
one_fault graph outputs (Cycle a) (UnknownInput b) p q = absurd (p.0.inputs b q.3.holds)
one_fault graph outputs (Cycle a) (MediaMismatch b) p q = absurd (p.0.kinds b q.4.holds)
one_fault graph outputs (Cycle a) (Cycle b) p q = ap Cycle (first_same p.1 q.1)
one_fault graph outputs (Cycle a) (OpenPad b d) p q = absurd (q.1 a p.1.holds)
one_fault graph outputs (Cycle a) g p q = absurd q
one_fault graph outputs (OpenPad a c) TooManyLinks p q = absurd (p.0.few q)
one_fault graph outputs (OpenPad a c) (PadCount b) p q = absurd (p.0.pads b q.1.holds)
one_fault graph outputs (OpenPad a c) (LabelTwice b) p q = absurd (p.0.labels b q.2.holds)
one_fault graph outputs (OpenPad a c) (UnknownInput b) p q = absurd (p.0.inputs b q.3.holds)
one_fault graph outputs (OpenPad a c) (MediaMismatch b) p q = absurd (p.0.kinds b q.4.holds)
one_fault graph outputs (OpenPad a c) (Cycle b) p q = absurd (p.1 b q.1.holds)
one_fault graph outputs (OpenPad a c) (OpenPad b d) p q =
    let same = same_open graph p.0.labels [] (pads_on graph In) a c b d p.2 q.2 in
    ap (λ (z : ℕ). OpenPad z c) same.0 ∙ ap (λ (z : ℕ). OpenPad b z) same.1
one_fault graph outputs (OpenPad a c) g p q = absurd q
one_fault graph outputs f g p q = absurd p

-- ---- never both

-- if each input pad has its link, none finds none
links_or_none : (graph : Graph) → Never (HasLabelTwice graph) → (before : List Edge) (takers : List Place) (links : List Edge) (filter pad : ℕ) → AreLinks graph before takers links → FindsNone graph before takers filter pad → ⊥
links_or_none graph once before [] links filter pad p q = q
links_or_none graph once before (taker ∷ takers) [] filter pad p q = p
links_or_none graph once before (taker ∷ takers) (link ∷ links) filter pad p (inl q) = no_origin graph before taker p.0.0 q.3.0 q.2 q.3.1 q.3.2 p.0.2
links_or_none graph once before (taker ∷ takers) (link ∷ links) filter pad p (inr q) =
    let origins : q.0 ≡ p.0.0 = one_origin graph once before taker q.0 p.0.0 q.1 p.0.2 in
    let same : link_to taker q.0 ≡ link = ap (link_to taker) origins ∙ sym p.0.1 in
    let P : Edge → Type 0 = λ l. FindsNone graph (before ++ l ∷ []) takers filter pad in
    links_or_none graph once (before ++ link ∷ []) takers links filter pad p.1 (subst P same q.2)

pub not_both : (graph : Graph) (outputs : ℕ) (draft : DraftPlan) (f : PlanFault) → IsSmall graph → IsLinked graph outputs draft → IsLinkFault graph outputs f → ⊥
not_both graph outputs draft TooManyLinks small p q = p.sound.few q
not_both graph outputs draft (PadCount a) small p q = p.sound.pads a q.1.holds
not_both graph outputs draft (LabelTwice a) small p q = p.sound.labels a q.2.holds
not_both graph outputs draft (UnknownInput a) small p q = p.sound.inputs a q.3.holds
not_both graph outputs draft (MediaMismatch a) small p q = p.sound.kinds a q.4.holds
not_both graph outputs draft (Cycle a) small p q =
    comes_straight (TakesFrom graph) (length graph.calls) [] draft.order a (done_none (TakesFrom graph) (length graph.calls)) p.draft_is.order
    (leads_below (TakesFrom graph) (length graph.calls) a a (takes_below graph) q.1.holds) q.1.holds
not_both graph outputs draft (OpenPad a c) small p q = links_or_none graph p.sound.labels [] (pads_on graph In) draft.links a c p.draft_is.links q.2
not_both graph outputs draft f small p q = q

-- ---- what the call returns if there is a draft, and if there is a fault

pub links : (graph : Graph) (outputs : ℕ) → IsSmall graph → (r : Result DraftPlan (Failure PlanFault)) → IfOk r (IsLinked graph outputs) → IfFault r (IsLinkFault graph outputs)
    → (draft : DraftPlan) → IsLinked graph outputs draft → Gives (λ made. made ≡ draft) r
links graph outputs small r p q draft is = gives_from r p q (λ made made_is. one_draft graph outputs made draft made_is is) (λ f f_is. not_both graph outputs draft f small is f_is)

pub refuses : (graph : Graph) (outputs : ℕ) → IsSmall graph → (r : Result DraftPlan (Failure PlanFault)) → IfOk r (IsLinked graph outputs) → IfFault r (IsLinkFault graph outputs)
    → (f : PlanFault) → IsLinkFault graph outputs f → Refuses (λ found. found ≡ f) r
refuses graph outputs small r p q f is = refuses_from r p q (λ made made_is. not_both graph outputs made f small made_is is) (λ found found_is. one_fault graph outputs found f found_is is)
