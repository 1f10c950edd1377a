-- Filters have an order, or one of them reaches itself.
use Rattle.std.proofs.Common.{◌≡◌, ◌<◌, ◌⊎◌, ℕ, zero, suc, List, subst, inl, inr, arith}
use Rattle.std.specs.List.{Contains}
use Rattle.std.proofs.lemmas.Bool.{cases_lt}
use Rattle.av_base.specs.First.{IsFirst, Never}
use Rattle.graph_plan.specs.Orders.{LeadsTo, Directly, Through, Reaches, IsReady, IsOrder, AreBelow}
use Rattle.graph_plan.proofs.OrderLemmas.{leads_below}
use Rattle.graph_plan.proofs.BuiltOrder.{cases_listed, HoldsBack, order_of}
use Rattle.graph_plan.proofs.Decisions.{Decided, decide_both, decide_either, decide_not, decide_along, decide_below, first_or_never}

-- the one leads to the other, on the way over filters below the bound alone
abbrev Via : (ℕ → ℕ → Type 0) → ℕ → ℕ → ℕ → Type 0
Via R zero giver taker = R giver taker
Via R (suc bound) giver taker = Via R bound giver taker ⊎ (Via R bound giver bound × Via R bound bound taker)

leads_both : (R : ℕ → ℕ → Type 0) (middle taker giver : ℕ) → LeadsTo R middle giver → LeadsTo R taker middle → LeadsTo R taker giver
leads_both R middle taker _ (Directly giver feeds) on = Through giver middle feeds on
leads_both R middle taker _ (Through giver next feeds leads) on = Through giver next feeds (leads_both R middle taker next leads on)

via_leads : (R : ℕ → ℕ → Type 0) (bound giver taker : ℕ) → Via R bound giver taker → LeadsTo R taker giver
via_leads R zero giver taker feeds = Directly giver feeds
via_leads R (suc bound) giver taker (inl via) = via_leads R bound giver taker via
via_leads R (suc bound) giver taker (inr both) = leads_both R bound taker giver (via_leads R bound giver bound both.0) (via_leads R bound bound taker both.1)

via_directly : (R : ℕ → ℕ → Type 0) (bound giver taker : ℕ) → R giver taker → Via R bound giver taker
via_directly R zero giver taker feeds = feeds
via_directly R (suc bound) giver taker feeds = inl (via_directly R bound giver taker feeds)

-- a way over the last filter below the bound
via_last : (R : ℕ → ℕ → Type 0) (bound giver taker : ℕ) → Via R (suc bound) giver bound → Via R (suc bound) bound taker → Via R (suc bound) giver taker
via_last R bound giver taker (inl p) (inl q) = inr (p, q)
via_last R bound giver taker (inl p) (inr q) = inr (p, q.1)
via_last R bound giver taker (inr p) (inl q) = inr (p.0, q)
via_last R bound giver taker (inr p) (inr q) = inr (p.0, q.1)

-- a way over an earlier one
via_earlier : (R : ℕ → ℕ → Type 0) (bound giver middle taker : ℕ) → ((a b : ℕ) → Via R bound a middle → Via R bound middle b → Via R bound a b)
    → Via R (suc bound) giver middle → Via R (suc bound) middle taker → Via R (suc bound) giver taker
via_earlier R bound giver middle taker both (inl p) (inl q) = inl (both giver taker p q)
via_earlier R bound giver middle taker both (inl p) (inr q) = inr (both giver bound p q.0, q.1)
via_earlier R bound giver middle taker both (inr p) (inl q) = inr (p.0, both bound taker p.1 q)
via_earlier R bound giver middle taker both (inr p) (inr q) = inr (p.0, q.1)

via_both : (R : ℕ → ℕ → Type 0) (bound middle giver taker : ℕ) → middle < bound → Via R bound giver middle → Via R bound middle taker → Via R bound giver taker
via_both R zero middle giver taker low p q = absurd (omega arith)
via_both R (suc bound) middle giver taker low p q = elim (cases_lt middle bound) [
  | inl less ↦ via_earlier R bound giver middle taker (λ a b. via_both R bound middle a b less) p q
  | inr past ↦ (
      let same : middle ≡ bound = omega arith in
      let P : ℕ → Type 0 = λ m. Via R (suc bound) giver m in
      let Q : ℕ → Type 0 = λ m. Via R (suc bound) m taker in
      via_last R bound giver taker (subst P same p) (subst Q same q)
      )
]

leads_via : (R : ℕ → ℕ → Type 0) (count taker giver : ℕ) → AreBelow R count → LeadsTo R taker giver → Via R count giver taker
leads_via R count taker _ below (Directly giver feeds) = via_directly R count giver taker feeds
leads_via R count taker _ below (Through giver middle feeds leads) =
    via_both R count middle giver taker (below.takers giver middle feeds) (via_directly R count giver middle feeds) (leads_via R count taker middle below leads)

module _ (R : ℕ → ℕ → Type 0) (count : ℕ) (below : AreBelow R count) (decide : (giver taker : ℕ) → Decided (R giver taker)) where
  decide_via : (bound giver taker : ℕ) → Decided (Via R bound giver taker)
  decide_via zero giver taker = decide giver taker
  decide_via (suc bound) giver taker = decide_either (decide_via bound giver taker) (decide_both (decide_via bound giver bound) (decide_via bound bound taker))

  decide_reaches : (giver taker : ℕ) → Decided (Reaches R giver taker)
  decide_reaches giver taker = decide_along (via_leads R count giver taker) (leads_via R count taker giver below) (decide_via count giver taker)

  ready_or_held : (done : List ℕ) (taker : ℕ) → IsReady R done taker ⊎ HoldsBack R done taker
  ready_or_held done taker = elim (decide_below Holds count (λ giver h. below.givers giver taker h.0) (λ giver. decide_both (decide giver taker) (decide_not (cases_listed done giver)))) [
    | inl held ↦ inr (held.0, held.1.0, held.1.1)
    | inr none ↦ inl (λ giver feeds. elim (cases_listed done giver) [ inl here ↦ here | inr left ↦ absurd (none (giver, (feeds, left))) ])
  ] where
    Holds : ℕ → Type 0
    Holds giver = R giver taker × (Contains done giver → ⊥)

  -- a first filter reaches itself, or none does and all have an order
  pub cycle_or_order : ((filter : ℕ) × IsFirst (λ f. Reaches R f f) filter) ⊎ (Never (λ f. Reaches R f f) × ((order : List ℕ) × IsOrder R count order))
  cycle_or_order = elim (first_or_never (λ f. Reaches R f f) count (λ f reaches. leads_below R count f f below reaches) (λ f. decide_reaches f f)) [
    | inl cycle ↦ inl cycle
    | inr straight ↦ inr (straight, order_of R ready_or_held count below straight)
  ]
