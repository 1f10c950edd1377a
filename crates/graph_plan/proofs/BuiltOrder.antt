-- Filters of which none reaches itself have an order.
use Rattle.std.proofs.Common.{◌≡◌, ◌<◌, ◌+◌, ◌++◌, ◌⊎◌, ℕ, zero, suc, List, [], ◌∷◌, Some, nat_eq, length, ap, subst, inl, inr, arith}
use Rattle.std.specs.List.{Contains, list_any}
use Rattle.std.proofs.lemmas.Bool.{cases_Bool, cases_eq}
use Rattle.std.proofs.lemmas.List.{length_push}
use Rattle.std.proofs.lemmas.List.Elements.{Contains-append_right}
use Rattle.std.proofs.lemmas.Map.Steps.{le-length_from_below}
use Rattle.graph_plan.specs.declared.plan.Edge.{Edge}
use Rattle.graph_plan.specs.declared.plan.Source.{Source}
use Rattle.graph_plan.specs.declared.plan.Source.TheVariants as from
use Rattle.graph_plan.specs.declared.plan.Target.{Target}
use Rattle.graph_plan.specs.declared.plan.Target.TheVariants as to
use Rattle.graph_plan.specs.Orders.{Feeds, Reaches, IsReady, Comes, IsOrder, AreBelow, OneOrder}
use Rattle.graph_plan.specs.Arranging.{Joins}
use Rattle.av_base.proofs.Lists.{contained, contained_cases}
use Rattle.av_base.proofs.Arithmetic.{first_or_none}
use Rattle.graph_plan.proofs.OrderLemmas.{listed, is_listed, same_comes, leads_below, done_none, comes_straight, held_cycle}

-- ---- what can come next

-- a filter is among these, or it isn't
pub cases_listed : (filters : List ℕ) (filter : ℕ) → Contains filters filter ⊎ (Contains filters filter → ⊥)
cases_listed filters filter = elim (cases_Bool (list_any (nat_eq filter) filters)) [
  | inl any ↦ inl (listed filters filter any)
  | inr none ↦ inr (λ here. let any = is_listed filters filter here in cc)
]

-- a filter that isn't done and gives to another
abbrev pub HoldsBack : (ℕ → ℕ → Type 0) → List ℕ → ℕ → Type 0
HoldsBack R done taker = (giver : ℕ) × R giver taker × (Contains done giver → ⊥)

-- a link holds its taker back, or it doesn't
link_holds : (done : List ℕ) (taker : ℕ) (source : Source) (target : Target) → IsReady (Joins (record { from = source; to = target })) done taker ⊎ HoldsBack (Joins (record { from = source; to = target })) done taker
link_holds done taker (from.Input file) target = inl (λ giver joins. absurd (let e = ap (λ (l : Edge). l.from) joins.2 in cc))
link_holds done taker (from.Filter giver pad) (to.Output file) = inl (λ other joins. absurd (let e = ap (λ (l : Edge). l.to) joins.2 in cc))
link_holds done taker (from.Filter giver pad) (to.Filter other in_pad) = elim (cases_eq other taker) [
  | inl same ↦ elim (cases_listed done giver) [
    | inl here ↦ inl (λ first joins. let e : giver ≡ first = (let e = ap (λ (l : Edge). l.from) joins.2 in cc) in subst (Contains done) e here)
    | inr left ↦ inr (giver, (pad, in_pad, ap (λ (n : ℕ). let l : Edge = record { from = from.Filter giver pad; to = to.Filter n in_pad } in l) same), left)
  ]
  | inr apart ↦ inl (λ first joins. absurd (apart (let e = ap (λ (l : Edge). l.to) joins.2 in cc)))
]

-- a filter is ready, or one that isn't done gives to it
pub cases_ready : (links : List Edge) (done : List ℕ) (taker : ℕ) → IsReady (Feeds links) done taker ⊎ HoldsBack (Feeds links) done taker
cases_ready [] done taker = inl (λ giver feeds. absurd (let k : feeds.2.0 < 0 = feeds.2.1 in omega arith))
cases_ready (link ∷ links) done taker = both (link_holds done taker link.from link.to) (cases_ready links done taker) where
  more : (giver : ℕ) → Feeds links giver taker → Feeds (link ∷ links) giver taker
  more giver feeds = (feeds.0, feeds.1, Contains-append_right (link ∷ []) links (record { from = from.Filter giver feeds.0; to = to.Filter taker feeds.1 }) feeds.2)

  both : IsReady (Joins link) done taker ⊎ HoldsBack (Joins link) done taker → IsReady (Feeds links) done taker ⊎ HoldsBack (Feeds links) done taker
      → IsReady (Feeds (link ∷ links)) done taker ⊎ HoldsBack (Feeds (link ∷ links)) done taker
  both (inl ready) (inl all) = inl (λ giver feeds. elim (contained_cases link links (record { from = from.Filter giver feeds.0; to = to.Filter taker feeds.1 }) feeds.2) [
    | inl same ↦ ready giver (feeds.0, feeds.1, same)
    | inr old ↦ all giver (feeds.0, feeds.1, old)
  ])
  both (inl ready) (inr held) = inr (held.0, more held.0 held.1, held.2)
  both (inr held) _ = inr (held.0, (held.1.0, held.1.1, contained (link ∷ links) 0 (record { from = from.Filter held.0 held.1.0; to = to.Filter taker held.1.1 }) (ap Some held.1.2)), held.2)

-- each filter is ready or held back
abbrev pub KnowsReady : (ℕ → ℕ → Type 0) → Type 0
KnowsReady R = (done : List ℕ) (taker : ℕ) → IsReady R done taker ⊎ HoldsBack R done taker

-- it isn't done, and can come
abbrev pub CanCome : (ℕ → ℕ → Type 0) → List ℕ → ℕ → Type 0
CanCome R done filter = (Contains done filter → ⊥) × IsReady R done filter

-- it is done, or held back
abbrev pub Waits : (ℕ → ℕ → Type 0) → List ℕ → ℕ → Type 0
Waits R done filter = (Contains done filter → ⊥) → HoldsBack R done filter

pub can_or_waits : (R : ℕ → ℕ → Type 0) → KnowsReady R → (done : List ℕ) (filter : ℕ) → CanCome R done filter ⊎ Waits R done filter
can_or_waits R knows done filter = elim (cases_listed done filter) [
  | inl here ↦ inr (λ new. absurd (new here))
  | inr new ↦ elim (knows done filter) [ inl ready ↦ inl (new, ready) | inr held ↦ inr (λ left. held) ]
]

-- ---- the order

-- it isn't done
abbrev IsLeft : ℕ → List ℕ → ℕ → Type 0
IsLeft count done filter = (filter < count) × (Contains done filter → ⊥)

-- if none can come, all are done
pub all_done : (R : ℕ → ℕ → Type 0) (count : ℕ) (done : List ℕ) → AreBelow R count → ((filter : ℕ) → Reaches R filter filter → ⊥) → ((filter : ℕ) → filter < count → Waits R done filter)
    → (filter : ℕ) → filter < count → Contains done filter
all_done R count done below straight wait filter low = elim (cases_listed done filter) [
  | inl here ↦ here
  | inr left ↦ absurd (held_cycle R count (IsLeft count done) below (λ taker is. let held = wait taker is.0 is.1 in (held.0, held.1, (below.givers held.0 taker held.1, held.2))) filter low (low, left) straight)
]

-- after those that are done come all that are left
comes_on : (R : ℕ → ℕ → Type 0) → KnowsReady R → (count : ℕ) → AreBelow R count → ((filter : ℕ) → Reaches R filter filter → ⊥) → (left : ℕ) (done : List ℕ) → length done + left ≡ count
    → (filters : List ℕ) × Comes R count done filters
comes_on R knows count below straight zero done all = ([], omega arith)
comes_on R knows count below straight (suc left) done all = elim (first_or_none (CanCome R done) (Waits R done) (can_or_waits R knows done) count) [
  | inl next ↦ (
      let more = comes_on R knows count below straight left (done ++ next.0 ∷ []) (omega (arith, length_push done next.0)) in (
        next.0 ∷ more.0,
        (
          next.1,
          next.2.0,
          next.2.1,
          λ other less new ready. (let held = next.3 other less new in held.2 (ready held.0 held.1)),
          more.1,
        ),
      )
      )
  | inr none ↦ absurd (
      let full = le-length_from_below done count (λ filter low. is_listed done filter (all_done R count done below straight none filter low)) in
      omega arith
      )
]

pub order_of : (R : ℕ → ℕ → Type 0) → KnowsReady R → (count : ℕ) → AreBelow R count → ((filter : ℕ) → Reaches R filter filter → ⊥) → (order : List ℕ) × IsOrder R count order
order_of R knows count below straight = comes_on R knows count below straight count [] (omega arith)

pub orders_are_one : OneOrder
orders_are_one = record {
  one_order = λ links count a b p q. same_comes (Feeds links) count [] a b p q;
  no_cycle = λ links count filter order below is reaches. comes_straight (Feeds links) count [] order filter (done_none (Feeds links) count) is (leads_below (Feeds links) count filter filter below reaches) reaches;
  an_order = λ links. order_of (Feeds links) (cases_ready links);
}
