-- The formats of the links of a flow.
use Rattle.std.proofs.Common.{◌≡◌, ◌⊎◌, ℕ, zero, suc, ◌+◌, ◌<◌, List, [], ◌∷◌, ◌++◌, length, map, Some, refl, sym, ◌∙◌, ap, subst, inl, inr, arith}
use Rattle.std.specs.List.{AllZip, Contains, slice_get, flat_map, enumerate_from}
use Rattle.std.proofs.lemmas.Option.{same_Some, slice_get_within}
use Rattle.av_base.specs.declared.formats.Format.{Format}
use Rattle.av_base.specs.declared.sets.FormatSet.{FormatSet}
use Rattle.av_base.specs.FormatSets.{Has}
use Rattle.av_filter.specs.Outcomes.{IsOne}
use Rattle.graph_text.specs.declared.graph.FilterCall.{FilterCall}
use Rattle.graph_plan.specs.declared.plan.Edge.{Edge}
use Rattle.graph_formats.specs.declared.request.Wish.{Wish}
use Rattle.graph_formats.specs.declared.request.Relation.{Relation}
use Rattle.graph_formats.specs.Assignments.{IsChosen, IsFirstWithout}
use Rattle.graph_formats.proofs.LawLemmas.{one_fault, not_both}
use Rattle.graph_formats.proofs.TotalLemmas.{one_of_both}
use Rattle.node_core.specs.declared.kind.Kind.{Kind}
use Rattle.node_core.specs.Kinds.{IsKind}
use Rattle.node_core.specs.Shaping.{Takes}
use Rattle.node_core.proofs.LawLemmas.{one_meaning}
use Rattle.plan_formats.specs.Wished.{plan_wishes, plan_relations, filter_wishes, pad_links, end_wishes}
use Rattle.plan_formats.specs.PathFormats.{HavePath, AreKinds}
use Rattle.plan_formats.proofs.PathLemmas.{plans_ask}
use Rattle.avgraph.specs.Chains.{Step, Flow}
use Rattle.avgraph.specs.Requests.{AreSteps}
use Rattle.avgraph.specs.Jobs.{IsFlow}
use Rattle.avgraph.specs.Answers.{LacksFormats, HasFormats, y4m_formats}
use Rattle.avgraph.specs.Readying.{AreTaking}

-- what is known of the flow of a request: its calls mean filters, and its links have the path
pub record IsKnownFlow (flow : Flow) : Type 0 where
  pub kinds : List Kind
  pub are_kinds : AllZip IsKind flow.calls kinds
  pub order : List ℕ
  pub have_path : HavePath flow.links order
  pub steps : AreSteps flow.calls order flow.path

-- the kind of a call
pub kind_at : (calls : List FilterCall) (kinds : List Kind) (n : ℕ) (call : FilterCall) → AllZip IsKind calls kinds → slice_get calls n ≡ Some call → (kind : Kind) × (slice_get kinds n ≡ Some kind) × IsKind call kind
kind_at [] kinds n call zip e = absurd cc
kind_at (c ∷ cs) [] n call zip e = absurd zip
kind_at (c ∷ cs) (k ∷ ks) zero call zip e = (k, refl, subst (λ (d : FilterCall). IsKind d k) (same_Some c call e) zip.0)
kind_at (c ∷ cs) (k ∷ ks) (suc n) call zip e = kind_at cs ks n call zip.1 e

-- ---- the same of any filters that the calls mean

same_wishes : (links : List Edge) (calls : List FilterCall) (a b : List Kind) (n : ℕ) → AllZip IsKind calls a → AllZip IsKind calls b
    → flat_map (λ (p : ℕ × Kind). (filter_wishes links p).wishes) (enumerate_from n a) ≡ flat_map (λ (p : ℕ × Kind). (filter_wishes links p).wishes) (enumerate_from n b)
same_wishes links [] [] [] n p q = refl
same_wishes links [] [] (y ∷ ys) n p q = absurd q
same_wishes links [] (x ∷ xs) b n p q = absurd p
same_wishes links (c ∷ cs) [] b n p q = absurd p
same_wishes links (c ∷ cs) (x ∷ xs) [] n p q = absurd q
same_wishes links (c ∷ cs) (x ∷ xs) (y ∷ ys) n p q =
    let first : (filter_wishes links (n, x)).wishes ≡ (filter_wishes links (n, y)).wishes =
    ap (λ (set : FormatSet). map (λ (link : ℕ). let w : Wish = record { link = link; set = set } in w) ((pad_links links n x).ins ++ (pad_links links n x).outs)) (sym (one_meaning.one c x y p.0 q.0).formats) in
    let others = same_wishes links cs xs ys (n + 1) p.1 q.1 in
    ap (λ (z : List Wish). z ++ flat_map (λ (p : ℕ × Kind). (filter_wishes links p).wishes) (enumerate_from (n + 1) xs)) first ∙ ap (λ (z : List Wish). (filter_wishes links (n, y)).wishes ++ z) others

same_relations : (links : List Edge) (calls : List FilterCall) (a b : List Kind) (n : ℕ) → AllZip IsKind calls a → AllZip IsKind calls b
    → flat_map (λ (p : ℕ × Kind). (filter_wishes links p).relations) (enumerate_from n a) ≡ flat_map (λ (p : ℕ × Kind). (filter_wishes links p).relations) (enumerate_from n b)
same_relations links [] [] [] n p q = refl
same_relations links [] [] (y ∷ ys) n p q = absurd q
same_relations links [] (x ∷ xs) b n p q = absurd p
same_relations links (c ∷ cs) [] b n p q = absurd p
same_relations links (c ∷ cs) (x ∷ xs) [] n p q = absurd q
same_relations links (c ∷ cs) (x ∷ xs) (y ∷ ys) n p q = ap (λ (z : List Relation). (filter_wishes links (n, y)).relations ++ z) (same_relations links cs xs ys (n + 1) p.1 q.1)

module _ (flow : Flow) (f : Format) where
  abbrev wishes : List Kind → List Wish
  wishes kinds = plan_wishes flow.links kinds (f ∷ []) (y4m_formats ∷ [])

  abbrev relations : List Kind → List Relation
  relations kinds = plan_relations flow.links kinds

  wishes_are : (a b : List Kind) → AllZip IsKind flow.calls a → AllZip IsKind flow.calls b → wishes a ≡ wishes b
  wishes_are a b p q = ap (λ (z : List Wish). flat_map (end_wishes (f ∷ []) (y4m_formats ∷ [])) (enumerate_from 0 flow.links) ++ z) (same_wishes flow.links flow.calls a b 0 p q)

  relations_are : (a b : List Kind) → AllZip IsKind flow.calls a → AllZip IsKind flow.calls b → relations a ≡ relations b
  relations_are a b p q = same_relations flow.links flow.calls a b 0 p q

  chosen_of : (a b : List Kind) (formats : List Format) → AllZip IsKind flow.calls a → AllZip IsKind flow.calls b → IsChosen (length flow.links) (wishes a) (relations a) formats → IsChosen (length flow.links) (wishes b) (relations b) formats
  chosen_of a b formats p q h =
      subst (λ (r : List Relation). IsChosen (length flow.links) (wishes b) r formats) (relations_are a b p q) (subst (λ (w : List Wish). IsChosen (length flow.links) w (relations a) formats) (wishes_are a b p q) h)

  lacks_of : (a b : List Kind) (link : ℕ) → AllZip IsKind flow.calls a → AllZip IsKind flow.calls b → IsFirstWithout (length flow.links) (wishes a) (relations a) link → IsFirstWithout (length flow.links) (wishes b) (relations b) link
  lacks_of a b link p q h =
      subst (λ (r : List Relation). IsFirstWithout (length flow.links) (wishes b) r link) (relations_are a b p q) (subst (λ (w : List Wish). IsFirstWithout (length flow.links) w (relations a) link) (wishes_are a b p q) h)

  -- ---- one outcome

  pub formats_or_none : IsKnownFlow flow → ((formats : List Format) × HasFormats flow f formats) ⊎ ((link : ℕ) × LacksFormats flow f link)
  formats_or_none known = elim (one_of_both (length flow.links) (wishes known.kinds) (relations known.kinds) (plans_ask.below flow.links known.kinds (f ∷ []) (y4m_formats ∷ []))) [
    | inl chosen ↦ inl (chosen.0, record { kinds = known.kinds; are_kinds = known.are_kinds; chosen = chosen.1 })
    | inr lacks ↦ inr (lacks.0, record { kinds = known.kinds; are_kinds = known.are_kinds; lacks = lacks.1 })
  ]

  pub lacks_one : IsOne (LacksFormats flow f)
  lacks_one a b p q = one_fault (length flow.links) (wishes q.kinds) (relations q.kinds) a b (lacks_of p.kinds q.kinds a p.are_kinds q.are_kinds p.lacks) q.lacks

  pub formats_apart : (formats : List Format) (link : ℕ) → HasFormats flow f formats → ¬ LacksFormats flow f link
  formats_apart formats link p q = not_both (length flow.links) (wishes q.kinds) (relations q.kinds) formats link (chosen_of p.kinds q.kinds formats p.are_kinds q.are_kinds p.chosen).assignment q.lacks

  -- ---- what chosen formats say of the path

  taking_from : (kinds : List Kind) (order : List ℕ) (path : List Step) → AllZip IsKind flow.calls kinds → AreSteps flow.calls order path
      → ((filter : ℕ) (kind : Kind) → Contains order filter → slice_get kinds filter ≡ Some kind → Takes kind f) → AreTaking path f
  taking_from kinds [] [] zip are taken = tt
  taking_from kinds [] (s ∷ ss) zip are taken = absurd are
  taking_from kinds (n ∷ ns) [] zip are taken = absurd are
  taking_from kinds (n ∷ ns) (s ∷ ss) zip are taken =
      let at = kind_at flow.calls kinds n s.call zip are.0.1 in
      ((at.0, at.2, taken n at.0 (0, omega arith, refl) at.1), taking_from kinds ns ss zip are.1 (λ filter kind has is. taken filter kind (let h = has.1 in (suc has.0, omega arith, has.2)) is))

  -- each filter of the path is one of the filters
  kinds_within : (kinds : List Kind) (order : List ℕ) (path : List Step) → AllZip IsKind flow.calls kinds → AreSteps flow.calls order path → AreKinds order kinds
  kinds_within kinds [] path zip are filter has = absurd (let less = has.1 in omega arith)
  kinds_within kinds (n ∷ ns) [] zip are filter has = absurd are
  kinds_within kinds (n ∷ ns) (s ∷ ss) zip are filter (zero, less, is) =
      let at = kind_at flow.calls kinds n s.call zip are.0.1 in
      subst (λ (k : ℕ). k < length kinds) is (slice_get_within kinds n at.0 at.1)
  kinds_within kinds (n ∷ ns) (s ∷ ss) zip are filter (suc k, less, is) = kinds_within kinds ns ss zip are.1 filter (k, omega arith, is)

  pub formats_taking : (formats : List Format) → IsKnownFlow flow → HasFormats flow f formats → AreTaking flow.path f × Has y4m_formats f
  formats_taking formats known has =
      let on_path = plans_ask.path flow.links has.kinds known.order f y4m_formats formats known.have_path (kinds_within has.kinds known.order flow.path has.are_kinds known.steps) has.chosen.assignment in
      (taking_from has.kinds known.order flow.path has.are_kinds known.steps on_path.taken, on_path.held)

-- what the code keeps of a flow is known of it
pub flow_known : {kinds : List Kind} {order : List ℕ} {links : List Edge} {flow : Flow} → IsFlow kinds order links flow → IsKnownFlow flow
flow_known {kinds} {order} {links} {flow} is = record {
  kinds = kinds;
  are_kinds = is.are_kinds;
  order = order;
  have_path = subst (λ (l : List Edge). HavePath l order) (sym is.links_are) is.have_path;
  steps = is.steps;
}
