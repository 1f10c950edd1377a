-- What a file comes to on a path of filters is one thing, always.
use Rattle.std.proofs.Common.{◌≡◌, ◌⊎◌, ℕ, List, [], ◌∷◌, Result, Ok, Err, refl, sym, ◌∙◌, ap, subst, arith, inl, inr}
use Rattle.std.proofs.lemmas.Bool.{cases_lt}
use Rattle.av_base.specs.declared.shapes.Shape.{Shape}
use Rattle.av_base.specs.Shapes.{IsPictureShape}
use Rattle.av_filter.specs.Outcomes.{IsOne, HasOne, after_check, after_step, alike_one, ends_one}
use Rattle.av_frame.specs.Frames.{FrameValue}
use Rattle.av_frame.specs.declared.refusals.ConfigError.{ConfigError}
use Rattle.graph_text.specs.declared.graph.FilterCall.{FilterCall}
use Rattle.node_core.specs.declared.kind.Kind.{Kind}
use Rattle.node_core.specs.Shaping.{ReadyValue, Takes}
use Rattle.node_core.specs.Filters.{frame_filters}
use Rattle.node_core.specs.FilterLaws.{frame_filter_laws}
use Rattle.node_core.specs.Kinds.{IsKind}
use Rattle.node_core.proofs.LawLemmas.{one_meaning, one_outcome}
use Rattle.av_frame.specs.declared.faults.HeadError.{HeadError}
use Rattle.av_frame.specs.declared.faults.NextError.{NextError}
use Rattle.av_base.specs.declared.shapes.Props.{Props}
use Rattle.av_base.specs.declared.shapes.Props.TheVariants as props
use Rattle.y4m_io.specs.Heads.{HasHead, IsHeadFault, HeadMeans}
use Rattle.y4m_io.specs.Files.{HasFrames, FramesMean}
use Rattle.y4m_io.proofs.Examples.{files_law, head_pictured}
use Rattle.av_faults.specs.declared.fault.Fault.TheVariants.{NoCommonFormat, NoRate}
use Rattle.av_faults.specs.declared.fault.Stop.{Stop}
use Rattle.avgraph.specs.Chains.{Step, Flow, IsReadied, AreReady}
use Rattle.avgraph.specs.Stops.{config_stop, head_stop, next_stop}
use Rattle.avgraph.specs.Answers.{Readied, answer_of, IsRefused, IsUnready, LacksFormats, HasFormats, HasRate, IsDamaged, reject, stops_with, FramesGive, RateGives, ReadyGives, ShapeGives, FileGives}
use Rattle.avgraph.specs.Readying.{AreTaking}
use Rattle.avgraph.proofs.FormatLemmas.{IsKnownFlow, formats_or_none, formats_apart, lacks_one, formats_taking}

-- ---- one filter

same_ready : (r q : ReadyValue) (s : Shape) → r.settings ≡ q.settings → r.ins ≡ s ∷ [] → q.ins ≡ s ∷ [] → r.outs ≡ frame_filters.making.shape r.settings s ∷ []
    → q.outs ≡ frame_filters.making.shape q.settings s ∷ [] → r ≡ q
same_ready r q s a b c d e =
    ap (λ (i : List Shape). record r { ins = i }) b ∙ (ap (λ (o : List Shape). let u : ReadyValue = record { settings = r.settings; ins = s ∷ []; outs = o } in u) d
    ∙ (ap (λ (t : frame_filters.Settings). let u : ReadyValue = record { settings = t; ins = s ∷ []; outs = frame_filters.making.shape t s ∷ [] } in u) a
    ∙ (ap (λ (o : List Shape). let u : ReadyValue = record { settings = q.settings; ins = s ∷ []; outs = o } in u) (sym e) ∙ ap (λ (i : List Shape). record q { ins = i }) (sym c))))

settings_is : {a b : frame_filters.Settings} → ◌≡◌ {A = Result frame_filters.Settings ConfigError} (Ok a) (Ok b) → a ≡ b
settings_is e = cc

error_is : {e f : ConfigError} → ◌≡◌ {A = Result frame_filters.Settings ConfigError} (Err e) (Err f) → e ≡ f
error_is e = cc

module _ (call : FilterCall) (s : Shape) where
  -- what one reading of the call settles, the other settles too
  follows : (k l : Kind) (r : Result frame_filters.Settings ConfigError) → IsKind call k → IsKind call l → frame_filters.making.settles k.options s r → frame_filters.making.settles l.options s r
  follows k l r p q = (one_meaning.one call k l p q).settles s r

  ready_one : (r q : ReadyValue) → IsReadied call s r → IsReadied call s q → r ≡ q
  ready_one r q p k =
      let one = p.is_ready in
      let other = k.is_ready in
      let outcome = one_outcome call k.kind s k.is_kind k.picture k.takes in
      let same = outcome.one (Ok r.settings) (Ok q.settings) (follows p.kind k.kind (Ok r.settings) p.is_kind k.is_kind one.settles) other.settles in
      same_ready r q s (settings_is same) one.ins other.ins one.outs other.outs

  ready_or_fault : (r : ReadyValue) (e : ConfigError) → IsReadied call s r → IsRefused call s e → ⊥
  ready_or_fault r e p k =
      let outcome = one_outcome call k.kind s k.is_kind k.picture k.takes in
      let same = outcome.one (Ok r.settings) (Err e) (follows p.kind k.kind (Ok r.settings) p.is_kind k.is_kind p.is_ready.settles) k.fault in
      cc

  fault_one : (e f : ConfigError) → IsRefused call s e → IsRefused call s f → e ≡ f
  fault_one e f p k =
      let outcome = one_outcome call k.kind s k.is_kind k.picture k.takes in
      error_is (outcome.one (Err e) (Err f) (follows p.kind k.kind (Err e) p.is_kind k.is_kind p.fault) k.fault)

  -- a filter that takes pictures of the shape is ready for them, or rejected
  ready_or_refused : IsPictureShape s → (kind : Kind) → IsKind call kind → Takes kind s.format → ((r : ReadyValue) × IsReadied call s r) ⊎ ((e : ConfigError) × IsRefused call s e)
  ready_or_refused picture kind is takes = let one = one_outcome call kind s is picture takes in by_outcome one.some.0 one.some.1
    where
      by_outcome : (r : Result frame_filters.Settings ConfigError) → frame_filters.making.settles kind.options s r → ((r : ReadyValue) × IsReadied call s r) ⊎ ((e : ConfigError) × IsRefused call s e)
      by_outcome (Ok t) h = inl (
        record { settings = t; ins = s ∷ []; outs = frame_filters.making.shape t s ∷ [] },
        record { kind = kind; is_kind = is; picture = picture; takes = takes; is_ready = record { settles = h; ins = refl; outs = refl } },
      )
      by_outcome (Err e) h = inr (e, record { kind = kind; is_kind = is; picture = picture; takes = takes; fault = h })

-- one list, of one shape each
same_shape : {a b : Shape} → ◌≡◌ {A = List Shape} (a ∷ []) (b ∷ []) → a ≡ b
same_shape e = cc

outs_one : {r q : ReadyValue} {t u : Shape} → r ≡ q → r.outs ≡ t ∷ [] → q.outs ≡ u ∷ [] → t ≡ u
outs_one e p q = same_shape (sym p ∙ (ap (λ (x : ReadyValue). x.outs) e ∙ q))

-- what a filter gives are pictures of its input's format
readied_is : (call : FilterCall) (s : Shape) (r : ReadyValue) → IsReadied call s r → r.outs ≡ frame_filters.making.shape r.settings s ∷ []
readied_is call s r p = p.is_ready.outs

readied_format : (call : FilterCall) (s u : Shape) (r : ReadyValue) → IsReadied call s r → r.outs ≡ u ∷ [] → u.format ≡ s.format
readied_format call s u r p outs = ap (λ (x : Shape). x.format) (same_shape (sym outs ∙ p.is_ready.outs)) ∙ (frame_filter_laws.making.stream r.settings s).format

readied_picture : (call : FilterCall) (s u : Shape) (r : ReadyValue) → IsReadied call s r → r.outs ≡ u ∷ [] → IsPictureShape u
readied_picture call s u r p outs =
    let pictured = frame_filter_laws.making.pictured r.settings s (record { options = p.kind.options; picture = p.picture; takes = p.takes; settles = p.is_ready.settles }) in
    subst IsPictureShape (same_shape (sym p.is_ready.outs ∙ outs)) (record { lawful = pictured.lawful; video = pictured.video })

-- ---- paths

path_one : (path : List Step) (s t u : Shape) (rs qs : List ReadyValue) → AreReady path s rs t → AreReady path s qs u → (rs ≡ qs) × (t ≡ u)
path_one [] s t u [] [] p q = (refl, p ∙ sym q)
path_one [] s t u [] (x ∷ xs) p q = absurd q
path_one [] s t u (r ∷ rs) qs p q = absurd p
path_one (c ∷ cs) s t u [] qs p q = absurd p
path_one (c ∷ cs) s t u (r ∷ rs) [] p q = absurd q
path_one (c ∷ cs) s t u (r ∷ rs) (x ∷ xs) p q =
    let first = ready_one c.call s r x p.0 q.0 in
    let middle = outs_one first p.1.1 q.1.1 in
    let others = path_one cs q.1.0 t u rs xs (subst (λ (m : Shape). AreReady cs m rs t) middle p.1.2) q.1.2 in
    (ap (λ (y : ReadyValue). y ∷ rs) first ∙ ap (λ (ys : List ReadyValue). x ∷ ys) others.0, others.1)

readied_one : (path : List Step) (s : Shape) → IsOne (λ (r : Readied). AreReady path s r.readies r.end)
readied_one path s a b p q =
    let same = path_one path s a.end b.end a.readies b.readies p q in
    ap (λ (rs : List ReadyValue). let u : Readied = record { readies = rs; end = a.end } in u) same.0 ∙ ap (λ (t : Shape). let u : Readied = record { readies = b.readies; end = t } in u) same.1

path_or_unready : (path : List Step) (s t : Shape) (rs : List ReadyValue) (stops : Stop) → AreReady path s rs t → IsUnready path s stops → ⊥
path_or_unready [] s t rs stops p q = q
path_or_unready (c ∷ cs) s t [] stops p q = p
path_or_unready (c ∷ cs) s t (r ∷ rs) stops p (inl q) = ready_or_fault c.call s r q.0 p.0 q.1
path_or_unready (c ∷ cs) s t (r ∷ rs) stops p (inr q) =
    path_or_unready cs q.1 t rs stops (subst (λ (m : Shape). AreReady cs m rs t) (outs_one (ready_one c.call s r q.0 p.0 q.2) p.1.1 q.3) p.1.2) q.4

unready_one : (path : List Step) (s : Shape) → IsOne (IsUnready path s)
unready_one [] s a b p q = absurd p
unready_one (c ∷ cs) s a b (inl p) (inl q) = p.2 ∙ (ap (config_stop c.number) (fault_one c.call s p.0 q.0 p.1 q.1) ∙ sym q.2)
unready_one (c ∷ cs) s a b (inl p) (inr q) = absurd (ready_or_fault c.call s q.0 p.0 q.2 p.1)
unready_one (c ∷ cs) s a b (inr p) (inl q) = absurd (ready_or_fault c.call s p.0 q.0 p.2 q.1)
unready_one (c ∷ cs) s a b (inr p) (inr q) =
    unready_one cs q.1 a b (subst (λ (m : Shape). IsUnready cs m a) (outs_one (ready_one c.call s p.0 q.0 p.2 q.2) p.3 q.3) p.4) q.4

-- filters that take the format of the shape are ready, or one of them is rejected
ready_or_unready : (path : List Step) (s : Shape) → IsPictureShape s → AreTaking path s.format → ((r : Readied) × AreReady path s r.readies r.end) ⊎ ((stops : Stop) × IsUnready path s stops)
ready_or_unready [] s picture taking = inl (record { readies = []; end = s }, refl)
ready_or_unready (c ∷ cs) s picture taking = first (λ u more takes. ready_or_unready cs u more takes) (ready_or_refused c.call s picture taking.0.0 taking.0.1 taking.0.2)
  where
    first : ((u : Shape) → IsPictureShape u → AreTaking cs u.format → ((r : Readied) × AreReady cs u r.readies r.end) ⊎ ((stops : Stop) × IsUnready cs u stops)) → ((r : ReadyValue) × IsReadied c.call s r) ⊎ ((e : ConfigError) × IsRefused c.call s e)
        → ((r : Readied) × AreReady (c ∷ cs) s r.readies r.end) ⊎ ((stops : Stop) × IsUnready (c ∷ cs) s stops)
    first others (inr h) = inr (config_stop c.number h.0, inl (h.0, h.1, refl))
    first others (inl h) =
        let u = frame_filters.making.shape h.0.settings s in
        let outs = readied_is c.call s h.0 h.1 in
        let format = readied_format c.call s u h.0 h.1 outs in
        let picture = readied_picture c.call s u h.0 h.1 outs in
        elim (others u picture (subst (AreTaking cs) (sym format) taking.1)) [
          | inl more ↦ inl (record { readies = h.0 ∷ more.0.readies; end = more.0.end }, (h.1, (u, outs, more.1)))
          | inr stops ↦ inr (stops.0, inr (h.0, u, h.1, outs, stops.1))
        ]

-- filters that are ready take the format
pub path_takes : (path : List Step) (s t : Shape) (rs : List ReadyValue) → AreReady path s rs t → AreTaking path s.format
path_takes [] s t [] p = tt
path_takes [] s t (r ∷ rs) p = absurd p
path_takes (c ∷ cs) s t [] p = absurd p
path_takes (c ∷ cs) s t (r ∷ rs) p =
    ((p.0.kind, p.0.is_kind, p.0.takes), subst (AreTaking cs) (readied_format c.call s p.1.0 r p.0 p.1.1) (path_takes cs p.1.0 t rs p.1.2))

-- ---- each step

rate_or_not : (p : Props) → HasRate p ⊎ ¬ HasRate p
rate_or_not (props.Video p) = elim (cases_lt 0 p.rate.num) [ inl some ↦ inl some | inr none ↦ inr (λ h. omega arith) ]
rate_or_not (props.Audio p) = inr (λ h. h)

frames_or_damage : (limit : ℕ) (bytes : List ℕ) (s : Shape) → (r : Result (List FrameValue) (List FrameValue × NextError)) → FramesMean limit bytes s r
    → ((frames : List FrameValue) × HasFrames limit bytes s frames) ⊎ ((damage : List FrameValue × NextError) × IsDamaged limit bytes s damage)
frames_or_damage limit bytes s (Ok frames) h = inl (frames, h)
frames_or_damage limit bytes s (Err damage) h = inr (damage, h)

ok_is : {a b : List FrameValue} → ◌≡◌ {A = Result (List FrameValue) (List FrameValue × NextError)} (Ok a) (Ok b) → a ≡ b
ok_is e = cc

damage_is : {a b : List FrameValue × NextError} → ◌≡◌ {A = Result (List FrameValue) (List FrameValue × NextError)} (Err a) (Err b) → a ≡ b
damage_is e = cc

frames_give : (limit : ℕ) (bytes : List ℕ) (s : Shape) (readied : Readied) → HasHead limit bytes s → HasOne (FramesGive limit bytes s readied)
frames_give limit bytes s readied head =
    let some = files_law.frames limit bytes s head in
    after_step (IsDamaged limit bytes s) (stops_with (λ damage. next_stop limit damage.1)) (HasFrames limit bytes s) (λ frames r. r ≡ Ok (answer_of readied frames))
    (frames_or_damage limit bytes s some.0 some.1) (λ a b p q. damage_is (files_law.one_frames limit bytes s (Err a) (Err b) p q))
    (λ frames damage p q. let e = files_law.one_frames limit bytes s (Ok frames) (Err damage) p q in cc)
    (alike_one (HasFrames limit bytes s) (λ frames r. r ≡ Ok (answer_of readied frames)) (λ a b p q. ok_is (files_law.one_frames limit bytes s (Ok a) (Ok b) p q)))
    (λ frames has. ends_one (Ok (answer_of readied frames)))

rate_gives : (limit : ℕ) (bytes : List ℕ) (s : Shape) (readied : Readied) → HasHead limit bytes s → HasOne (RateGives limit bytes s readied)
rate_gives limit bytes s readied head = after_check (HasRate readied.end.props) (reject (NoRate 0)) (FramesGive limit bytes s readied) (rate_or_not readied.end.props) (λ rate. frames_give limit bytes s readied head)

ready_gives : (limit : ℕ) (flow : Flow) (bytes : List ℕ) (s : Shape) → AreTaking flow.path s.format → HasHead limit bytes s → HasOne (ReadyGives limit flow bytes s)
ready_gives limit flow bytes s taking head =
    let pictured = head_pictured limit bytes s head in
    after_step (IsUnready flow.path s) Err (λ readied. AreReady flow.path s readied.readies readied.end) (RateGives limit bytes s)
    (ready_or_unready flow.path s (record { lawful = pictured.lawful; video = pictured.video }) taking) (unready_one flow.path s)
    (λ readied stops ready unready. path_or_unready flow.path s readied.end readied.readies stops ready unready)
    (alike_one (λ (readied : Readied). AreReady flow.path s readied.readies readied.end) (RateGives limit bytes s) (readied_one flow.path s)) (λ readied ready. rate_gives limit bytes s readied head)

shape_gives : (limit : ℕ) (flow : Flow) (bytes : List ℕ) (s : Shape) → IsKnownFlow flow → HasHead limit bytes s → HasOne (ShapeGives limit flow bytes s)
shape_gives limit flow bytes s known head =
    after_step (LacksFormats flow s.format) (λ link. reject (NoCommonFormat link)) (HasFormats flow s.format) (λ formats. ReadyGives limit flow bytes s)
    (formats_or_none flow s.format known) (lacks_one flow s.format) (λ formats link has lacks. formats_apart flow s.format formats link has lacks)
    (λ x y r p q h. h) (λ formats has. ready_gives limit flow bytes s (formats_taking flow s.format formats known has).0 head)

head_or_fault : (limit : ℕ) (bytes : List ℕ) (r : Result Shape HeadError) → HeadMeans limit bytes r → ((s : Shape) × HasHead limit bytes s) ⊎ ((e : HeadError) × IsHeadFault limit bytes e)
head_or_fault limit bytes (Ok s) h = inl (s, h)
head_or_fault limit bytes (Err e) h = inr (e, h)

shape_is : {a b : Shape} → ◌≡◌ {A = Result Shape HeadError} (Ok a) (Ok b) → a ≡ b
shape_is e = cc

fault_is : {a b : HeadError} → ◌≡◌ {A = Result Shape HeadError} (Err a) (Err b) → a ≡ b
fault_is e = cc

pub file_gives : (limit : ℕ) (flow : Flow) (bytes : List ℕ) → IsKnownFlow flow → HasOne (FileGives limit flow bytes)
file_gives limit flow bytes known =
    let some = files_law.head limit bytes in
    after_step (IsHeadFault limit bytes) (stops_with (head_stop limit)) (HasHead limit bytes) (ShapeGives limit flow bytes)
    (head_or_fault limit bytes some.0 some.1) (λ a b p q. fault_is (files_law.one_head limit bytes (Err a) (Err b) p q))
    (λ s e p q. let same = files_law.one_head limit bytes (Ok s) (Err e) p q in cc)
    (alike_one (HasHead limit bytes) (ShapeGives limit flow bytes) (λ a b p q. shape_is (files_law.one_head limit bytes (Ok a) (Ok b) p q)))
    (λ s head. shape_gives limit flow bytes s known head)
