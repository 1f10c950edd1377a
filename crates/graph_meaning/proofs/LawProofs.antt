-- By induction along the row of the nodes.
use Rattle.std.proofs.Common.{◌≡◌, inl, inr, ℕ, ◌<◌, Bool, true, false, List, ◌++◌, length, refl, sym, ◌∙◌, ap, subst, arith, append_assoc, Some}
use Rattle.std.specs.Prelude.{slice_get}
use Rattle.av_base.specs.declared.shapes.Shape.{Shape}
use Rattle.av_frame.specs.Streams.{Stream, Streams, Begins, Lawful, AllLawful}
use Rattle.av_frame.specs.StreamLemmas.{begins_refl}
use Rattle.graph_meaning.specs.Meaning.{PlanNode, NodeIs, TakesFrom, source_of, sources, den, Agrees}
use Rattle.graph_meaning.specs.Laws.{IsPlan, Says, SaysAll, SaysWants, MeaningLaw, PrefixLaw, QuietLaw, WantLaw}
use Rattle.graph_plan.specs.declared.plan.Source.{Source}
use Rattle.graph_plan.specs.declared.plan.Source.TheVariants.{Input, Filter}
use Rattle.graph_meaning.proofs.Table.{den_is, same_sources, sources_at, sources_past, some_or_past, along}

begins_trans : (s t u : Stream) → Begins s t → Begins t u → Begins s u
begins_trans s t u p q = record {
  front = record { rest = p.front.rest ++ q.front.rest; whole = q.front.whole ∙ ap (λ (l : List _). l ++ q.front.rest) p.front.whole ∙ append_assoc s.frames p.front.rest q.front.rest };
  same = λ e. (let d : t ≡ s = p.same e in q.same (subst (λ (x : Stream). x.ended ≡ true) (sym d) e) ∙ d);
}

module _ (plan : List PlanNode) (fed : Streams) (given told : ℕ → Streams) (isp : IsPlan plan fed) (says : Says plan fed given told) where
  abbrev D : ℕ → Streams
  D = den plan fed

  pub record Good (k : ℕ) : Type 0 where
    pub begins : (p : PlanNode) → NodeIs plan k p → (o : ℕ) → o < p.outputs → Begins (given k o) (D k o)
    pub lawful : (p : PlanNode) → NodeIs plan k p → AllLawful p.outputs p.out_shape (D k)

  asked_lawful : (k : ℕ) → ((j : ℕ) → isp.place j < isp.place k → Good j) → (p : PlanNode) → NodeIs plan k p → AllLawful (length p.ins) p.in_shape (sources fed D p.ins)
  asked_lawful k before p e i h = elim (some_or_past p.ins i) [
    | inr l ↦ absurd (omega (arith, l, h))
    | inl x ↦ subst (λ (z : Stream). Lawful (p.in_shape i) z.frames) (sym (sources_at fed D p.ins i x.0 x.1)) (one x.0 x.1)
  ]
    where
      one : (s : Source) → TakesFrom p i s → Lawful (p.in_shape i) (source_of fed D s).frames
      one (Input m) f = isp.fed_lawful k p e i m f
      one (Filter j m) f =
          let t = isp.there k p e i j m f in
          let s = isp.shapes k p e i j m t.1.0 f t.1.1 in
          subst (λ (z : Shape). Lawful z (D j m).frames) (sym s.1) ((before j t.0).lawful t.1.0 t.1.1 m s.0)

  asked_begins : (k : ℕ) → ((j : ℕ) → isp.place j < isp.place k → Good j) → (p : PlanNode) → NodeIs plan k p → (i : ℕ) → Begins (told k i) (sources fed D p.ins i)
  asked_begins k before p e i = begins_trans (told k i) (sources fed given p.ins i) (sources fed D p.ins i) (says.links k p e i) (elim (some_or_past p.ins i) [
    | inr l ↦ subst (λ (z : Stream). Begins z (sources fed D p.ins i)) (sources_past fed D p.ins i l ∙ sym (sources_past fed given p.ins i l)) (begins_refl (sources fed D p.ins i))
    | inl x ↦ subst (λ (z : Stream). Begins z (sources fed D p.ins i)) (sym (sources_at fed given p.ins i x.0 x.1))
        (subst (λ (z : Stream). Begins (source_of fed given x.0) z) (sym (sources_at fed D p.ins i x.0 x.1)) (one x.0 x.1))
  ])
    where
      one : (s : Source) → TakesFrom p i s → Begins (source_of fed given s) (source_of fed D s)
      one (Input m) f = begins_refl (fed m)
      one (Filter j m) f =
          let t = isp.there k p e i j m f in
          (before j t.0).begins t.1.0 t.1.1 m (isp.shapes k p e i j m t.1.0 f t.1.1).0

  good : (k : ℕ) → Good k
  good = along Good isp.place (λ k before. record {
    begins = λ p e o h.
        subst (λ (z : Streams). Begins (given k o) (z o)) (sym (den_is plan fed isp k p e))
        (says.begins k p e (sources fed D p.ins) (asked_lawful k before p e) (asked_begins k before p e) o h);
    lawful = λ p e.
        subst (λ (z : Streams). AllLawful p.outputs p.out_shape z) (sym (den_is plan fed isp k p e))
        (isp.lawful k p e (sources fed D p.ins) (asked_lawful k before p e));
  })

  pub prefix : (k : ℕ) (p : PlanNode) → NodeIs plan k p → (o : ℕ) → o < p.outputs → Begins (given k o) (den plan fed k o)
  prefix k p e o h = (good k).begins p e o h

  module _ (closing closed : ℕ → ℕ → Bool) (all : SaysAll plan fed given told closing closed) where
    Whole : ℕ → Type 0
    Whole k = (p : PlanNode) → NodeIs plan k p → (o : ℕ) → o < p.outputs → closed k o ≡ false → given k o ≡ D k o

    step : (k : ℕ) → ((j : ℕ) → isp.place j < isp.place k → Whole j) → Whole k
    unfolding Whole
    step k before p e o h c =
        sym (ap (λ (z : Streams). z o) (den_is plan fed isp k p e)
        ∙ all.whole k p e (sources fed D p.ins) (asked_lawful k (λ j l. good j) p e) (asked_begins k (λ j l. good j) p e) same o h c)
      where
        one : (i : ℕ) (s : Source) → TakesFrom p i s → closing k i ≡ false → source_of fed D s ≡ told k i
        one i (Input m) f q = all.drawn k p e i (Input m) f q (isp.fed_lawful k p e i m f)
        one i (Filter j m) f q =
            let t = isp.there k p e i j m f in
            let s = isp.shapes k p e i j m t.1.0 f t.1.1 in
            let here : given j m ≡ D j m = before j t.0 t.1.0 t.1.1 m s.0 (all.closings k p e i j m f q) in
            let good_ : Lawful (p.in_shape i) (given j m).frames
            = subst (λ (z : Stream). Lawful (p.in_shape i) z.frames) (sym here) (subst (λ (z : Shape). Lawful z (D j m).frames) (sym s.1) ((good j).lawful t.1.0 t.1.1 m s.0)) in
            sym here ∙ all.drawn k p e i (Filter j m) f q good_

        same : (i : ℕ) → closing k i ≡ false → sources fed D p.ins i ≡ told k i
        same i q = elim (some_or_past p.ins i) [
          | inl x ↦ sources_at fed D p.ins i x.0 x.1 ∙ one i x.0 x.1 q
          | inr l ↦ sources_past fed D p.ins i l ∙ sym (all.beyond k p e i (omega (arith, l)))
        ]

    pub quiet : (k : ℕ) (p : PlanNode) → NodeIs plan k p → (o : ℕ) → o < p.outputs → closed k o ≡ false → given k o ≡ den plan fed k o
    unfolding Whole
    quiet k p e o h c = along Whole isp.place step k p e o h c

    module _ (needs asked wanted : ℕ → ℕ → Bool) (input_wanted : ℕ → Bool) (w : SaysWants plan fed given told closing closed needs asked wanted input_wanted) where
      Found : ℕ → Type 0
      Found k = (p : PlanNode) → NodeIs plan k p → (o : ℕ) → o < p.outputs → wanted k o ≡ true → closed k o ≡ false → (given k o).ended ≡ false
          → (m : ℕ) × (input_wanted m ≡ true) × ((fed m).ended ≡ false)

      find : (k : ℕ) → ((j : ℕ) → isp.place j < isp.place k → Found j) → Found k
      unfolding Found
      find k before p e o h a c d =
          let n = w.needs_one k p e o h c d in
          let t = w.asks k p e o h a c d n.0 n.1 n.2 in
          elim (some_or_past p.ins n.0) [
            | inr l ↦ absurd (let lt = n.1 in omega (arith, lt, l))
            | inl x ↦ one n.0 x.0 x.1 t.0 t.1 t.2
          ]
        where
          one : (i : ℕ) (s : Source) → TakesFrom p i s → asked k i ≡ true → closing k i ≡ false → (told k i).ended ≡ false → (m : ℕ) × (input_wanted m ≡ true) × ((fed m).ended ≡ false)
          one i (Input m) f y q z =
              let same : fed m ≡ told k i = all.drawn k p e i (Input m) f q (isp.fed_lawful k p e i m f) in
              (m, w.hands_in k p e i m f y, ap (λ (r : Stream). r.ended) same ∙ z)
          one i (Filter j m) f y q z =
              let t = isp.there k p e i j m f in
              let s = isp.shapes k p e i j m t.1.0 f t.1.1 in
              let open_ : closed j m ≡ false = all.closings k p e i j m f q in
              let here : given j m ≡ D j m = quiet j t.1.0 t.1.1 m s.0 open_ in
              let good_ : Lawful (p.in_shape i) (given j m).frames
              = subst (λ (r : Stream). Lawful (p.in_shape i) r.frames) (sym here) (subst (λ (r : Shape). Lawful r (D j m).frames) (sym s.1) ((good j).lawful t.1.0 t.1.1 m s.0)) in
              let same : given j m ≡ told k i = all.drawn k p e i (Filter j m) f q good_ in
              before j t.0 t.1.0 t.1.1 m s.0 (w.hands_over k p e i j m f y) open_ (ap (λ (r : Stream). r.ended) same ∙ z)

      finds : (k : ℕ) → Found k
      finds = along Found isp.place find

      pub wanted_input : (k : ℕ) (p : PlanNode) → NodeIs plan k p → (o : ℕ) → o < p.outputs → wanted k o ≡ true → closed k o ≡ false → (given k o).ended ≡ false
          → (m : ℕ) × (input_wanted m ≡ true) × ((fed m).ended ≡ false)
      unfolding Found
      wanted_input k p e o h a c d = finds k p e o h a c d

pub prefix_law : PrefixLaw
prefix_law plan fed given told isp says k p e o h = prefix plan fed given told isp says k p e o h

pub quiet_law : QuietLaw
quiet_law plan fed given told closing closed isp says all k p e o h c = quiet plan fed given told isp says closing closed all k p e o h c

pub want_law : WantLaw
want_law plan fed given told closing closed needs asked wanted input_wanted isp says all w k p e o h a c d =
    wanted_input plan fed given told isp says closing closed all needs asked wanted input_wanted w k p e o h a c d

module _ (plan : List PlanNode) (fed : Streams) (gives : ℕ → Streams) (isp : IsPlan plan fed) (agrees : Agrees plan fed gives) where
  Same : ℕ → Type 0
  Same k = (p : PlanNode) → NodeIs plan k p → (o : ℕ) → o < p.outputs → gives k o ≡ den plan fed k o

  same_here : (k : ℕ) → ((j : ℕ) → isp.place j < isp.place k → Same j) → Same k
  unfolding Same
  same_here k before p e o h =
      agrees k p e o h
      ∙ ap (λ (z : Streams). p.rule z o) (same_sources fed gives (den plan fed) p.ins one)
      ∙ sym (ap (λ (z : Streams). z o) (den_is plan fed isp k p e))
    where
      one : (i : ℕ) (s : Source) → slice_get p.ins i ≡ Some s → source_of fed gives s ≡ source_of fed (den plan fed) s
      one i (Input m) f = refl
      one i (Filter j m) f =
          let t = isp.there k p e i j m f in
          before j t.0 t.1.0 t.1.1 m (isp.shapes k p e i j m t.1.0 f t.1.1).0

  pub alone : (k : ℕ) (p : PlanNode) → NodeIs plan k p → (o : ℕ) → o < p.outputs → gives k o ≡ den plan fed k o
  unfolding Same
  alone k p e o h = along Same isp.place same_here k p e o h

pub meaning_law : MeaningLaw
meaning_law = record {
  agrees = λ plan fed isp k p e o h. ap (λ (z : Streams). z o) (den_is plan fed isp k p e);
  alone = λ plan fed gives isp agrees k p e o h. alone plan fed gives isp agrees k p e o h;
}
