-- Output pads that no filter takes.
use Rattle.std.proofs.Common.{◌≡◌, ◌<◌, ◌≤◌, ◌+◌, ◌-◌, ◌++◌, ◌↔◌, ℕ, List, [], ◌∷◌, Some, None, length, take, get_or, refl, sym, ◌∙◌, ap, subst, inl, inr, arith}
use Rattle.std.specs.List.{slice_get}
use Rattle.std.proofs.lemmas.Bool.{cases_lt}
use Rattle.std.proofs.lemmas.Option.{same_Some}
use Rattle.std.proofs.lemmas.List.{take_more}
use Rattle.av_base.specs.declared.formats.Media.{Media}
use Rattle.graph_text.specs.declared.graph.FilterCall.{FilterCall}
use Rattle.graph_plan.specs.declared.plan.OpenOut.{OpenOut}
use Rattle.graph_plan.specs.declared.places.Place.{Place}
use Rattle.graph_plan.specs.declared.places.Side.TheVariants.{In, Out}
use Rattle.graph_plan.specs.declared.labels.LabelTable.{LabelTable}
use Rattle.graph_plan.specs.Graphs.{Graph, labels, label, kind, AreJoined}
use Rattle.graph_plan.specs.Links.{AreLeft}
use Rattle.graph_plan.specs.Refusals.{IsOnOutput}
use Rattle.graph_plan.specs.Joining.{HasPad, Notes}
use Rattle.av_base.proofs.Lists.{get_within}
use Rattle.graph_plan.proofs.GraphLemmas.{item_is, neighbour_out}

module _ (graph : Graph) (giver : Place) where
  -- a pad with a label is taken if an input pad has the label
  pub label_taken : (ins : LabelTable) → Notes graph In (IsOnOutput graph) ins → (name : List ℕ) → label graph Out giver.filter giver.pad ≡ Some name → HasPad ins name ↔ ((taker : Place) × AreJoined graph giver taker)
  label_taken ins notes name labelled = (
    λ has. (has.0, inl (name, labelled, (notes.pad name has.0 has.1).0)),
    λ is. elim is.1 [
      | inl share ↦ (
          let same : share.0 ≡ name = same_Some share.0 name (sym share.1 ∙ labelled) in
          let P : List ℕ → Type 0 = λ n. HasPad ins n in
          subst P same (notes.all is.0.filter is.0.pad share.0 share.2 (giver.filter, giver.pad, share.1))
          )
      | inr neighbours ↦ absurd (let none = neighbour_out graph giver is.0 neighbours in cc)
    ],
  )

  -- another filter comes after the pad's filter in its chain
  abbrev pub IsFollowed : Type 0
  IsFollowed = (first second : FilterCall) × (slice_get graph.calls giver.filter ≡ Some first) × (slice_get graph.calls (giver.filter + 1) ≡ Some second) × (first.chain ≡ second.chain)

  -- a pad without a label is taken if a filter follows
  pub bare_taken : (gives : Media) → kind graph Out giver.filter giver.pad ≡ Some gives → label graph Out giver.filter giver.pad ≡ None → IsFollowed ↔ ((taker : Place) × AreJoined graph giver taker)
  bare_taken gives is_there bare = (
    λ f. (
      record { filter = giver.filter + 1; pad = length f.1.ins + (giver.pad - length f.0.outs) },
      inr (record {
        first = f.0;
        is_first = f.2;
        second = f.1;
        is_second = f.3;
        next = refl;
        chain = f.4;
        nth = giver.pad - length f.0.outs;
        giver_is = (let past = past_label f.0 f.2 in omega arith);
        taker_is = refl;
        gives = gives;
        is_there = is_there;
      }),
    ),
    λ is. elim is.1 [
      | inl share ↦ absurd (let some = share.1 in cc)
      | inr n ↦ (
          let P : ℕ → Type 0 = λ k. slice_get graph.calls k ≡ Some n.second in
          (n.first, n.second, n.is_first, subst P n.next n.is_second, n.chain)
          )
    ],
  ) where
    past_label : (call : FilterCall) → slice_get graph.calls giver.filter ≡ Some call → length call.outs ≤ giver.pad
    past_label call is = elim (cases_lt giver.pad (length call.outs)) [
      | inl low ↦ absurd (
          let here = get_within call.outs giver.pad low in
          let at = item_is (labels Out) graph.calls giver.filter giver.pad call is in
          let some = here.1 in cc
          )
      | inr past ↦ omega arith
    ]

-- ---- pads so far

left_append : (graph : Graph) (givers more : List Place) (outs rest : List OpenOut) → AreLeft graph givers outs → AreLeft graph more rest → AreLeft graph (givers ++ more) (outs ++ rest)
left_append graph [] more [] rest p q = q
left_append graph [] more (out ∷ outs) rest p q = absurd p
left_append graph (giver ∷ givers) more outs rest (inl taken) q = inl (taken.0, left_append graph givers more outs rest taken.1 q)
left_append graph (giver ∷ givers) more outs rest (inr left) q =
    let d = left.1 in
    inr (left.0, (d.0, d.1 ++ rest, d.2, ap (λ (xs : List OpenOut). xs ++ rest) d.3, left_append graph givers more d.1 rest d.4 q))

-- one more pad
pub left_more : (graph : Graph) (givers : List Place) (index : ℕ) (d : Place) (outs more : List OpenOut) → index < length givers → AreLeft graph (take index givers) outs
    → AreLeft graph (get_or givers index d ∷ []) more → AreLeft graph (take (index + 1) givers) (outs ++ more)
left_more graph givers index d outs more within p q = rw (take_more givers index d within) (left_append graph (take index givers) (get_or givers index d ∷ []) outs more p q)
