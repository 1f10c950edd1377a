-- Filters of a path, made ready one after the other.
use Rattle.std.proofs.Common.{◌≡◌, ◌<◌, ◌+◌, ◌⊎◌, ℕ, List, [], ◌∷◌, ◌++◌, Some, Result, Err, take, length, get_or, slice_index_or, zero, suc, refl, sym, ◌∙◌, ap, subst, arith, inl, inr}
use Rattle.std.specs.List.{slice_get}
use Rattle.std.proofs.lemmas.List.{take_more}
use Rattle.std.proofs.lemmas.Option.{slice_get_within, get_or_from_slice_get, same_Some}
use Rattle.av_base.specs.declared.formats.PixelFormat.{PixelFormat}
use Rattle.av_base.specs.declared.formats.PixelFormat.TheVariants.{Gray, Yuv420p, Yuv422p, Yuv444p, Yuva420p, Yuva422p, Yuva444p}
use Rattle.av_base.specs.FormatSets.{Has}
use Rattle.av_base.specs.declared.formats.Format.{Format}
use Rattle.av_base.specs.declared.formats.Format.TheVariants as format
use Rattle.av_base.specs.declared.shapes.Shape.{Shape}
use Rattle.av_base.specs.declared.shapes.Props.{Props}
use Rattle.av_base.specs.declared.shapes.Props.TheVariants as props
use Rattle.av_host.specs.World.{Faults}
use Rattle.av_base.specs.Shapes.{IsVideo, IsPictureShape, IsPictured}
use Rattle.av_frame.specs.declared.refusals.ConfigError.{ConfigError}
use Rattle.av_frame.specs.declared.refusals.ConfigError.TheVariants as config
use Rattle.graph_text.specs.declared.graph.FilterCall.{FilterCall}
use Rattle.node_core.specs.declared.kind.Kind.{Kind}
use Rattle.node_core.specs.Shaping.{ReadyValue, Takes, IsReady, IsConfigFault}
use Rattle.node_core.specs.Kinds.{IsKind}
use Rattle.node_core.proofs.LawLemmas.{one_meaning}
use Rattle.node_core.proofs.WishLemmas.{in_set_of}
use Rattle.node_core.specs.FilterLaws.{frame_filter_laws}
use Rattle.avgraph.specs.Chains.{Step, Flow, IsReadied, AreReady}
use Rattle.y4m_header.specs.HeaderTexts.{HasHeader, IsWritable, colour_of}
use Rattle.av_faults.specs.Faults.{stop_status}
use Rattle.avgraph.specs.Stops.{IsHostStop, config_stop, CountsStop}
use Rattle.avgraph.specs.Answers.{Answer, Readied, IsRefused, IsUnready, HasFormats, HasRate, ShapeGives, y4m_formats}
use Rattle.avgraph.specs.Readying.{TakesFormat, AreTaking, LacksStop}
use Rattle.avgraph.specs.Jobs.{AreOfPath}
use Rattle.avgraph.specs.Commands.{StopsShape}
use Rattle.av_faults.specs.declared.fault.Fault.TheVariants.{OpenFault, ReadFault, WriteFault, NoRate}
use Rattle.av_faults.specs.declared.fault.Stop.{Stop}
use Rattle.av_faults.specs.declared.fault.Stop.TheVariants as stop
use Rattle.avgraph.proofs.StopLemmas.{config_memory}

-- ---- what stops the making ready

config_status : (n : ℕ) (e : ConfigError) → (config_stop n e ≡ stop.NoMemory) ⊎ (stop_status (config_stop n e) ≡ 8)
config_status n (config.SizeMismatch a b) = inr refl
config_status n (config.BadGeometry found allowed) = inr refl
config_status n config.TimeBaseRange = inr refl
config_status n (config.TooLarge found allowed) = inr refl
config_status n (config.NoValue k) = inr refl
config_status n config.NoMemory = inl refl

-- a filter that can't be configured has the status 8
pub unready_status : (path : List Step) (s : Shape) (stops : Stop) → IsUnready path s stops → stop_status stops ≡ 8
unready_status [] s stops h = absurd h
unready_status (c ∷ cs) s stops (inl h) = elim (config_status c.number h.0) [
  | inr e ↦ subst (λ (x : Stop). stop_status x ≡ 8) (sym h.2) e
  | inl e ↦ absurd (frame_filter_laws.making.no_memory h.1.kind.options s (subst (IsConfigFault h.1.kind s) (config_memory c.number h.0 (sym e)) h.1.fault))
]
unready_status (c ∷ cs) s stops (inr h) = unready_status cs h.1 stops h.4

-- a stop of one of these statuses is no failed call, nor out of memory
pub no_host : (stops : Stop) → stop_status stops < 11 → ¬ IsHostStop stops
no_host (stop.Fault OpenFault) less h = absurd (omega arith)
no_host (stop.Fault ReadFault) less h = absurd (omega arith)
no_host (stop.Fault WriteFault) less h = absurd (omega arith)
no_host stop.NoMemory less h = absurd (omega arith)
no_host (stop.Fault other) less h = h

-- no count rises with what is no failed call
still_counts : (T : Type 0) (stops : Stop) (faults : Faults) → ¬ IsHostStop stops → CountsStop {T = T} (Err stops) faults faults
still_counts T (stop.Fault OpenFault) faults none = absurd (none tt)
still_counts T (stop.Fault ReadFault) faults none = absurd (none tt)
still_counts T (stop.Fault WriteFault) faults none = absurd (none tt)
still_counts T stop.NoMemory faults none = refl
still_counts T (stop.Fault other) faults none = refl

-- no count rises if the filters can't be made ready
pub shape_counts : (T : Type 0) (flow : Flow) (s : Shape) (stops : Stop) (faults : Faults) → StopsShape flow s stops → CountsStop {T = T} (Err stops) faults faults
shape_counts T flow s stops faults (inl e) = subst (λ (x : Stop). CountsStop {T = T} (Err x) faults faults) (sym e) refl
shape_counts T flow s stops faults (inr h) = still_counts T stops faults h.no_host

shape_stop : (flow : Flow) (s : Shape) (stops : Stop) → stop_status stops < 9 → ((limit : ℕ) (bytes : List ℕ) → ShapeGives limit flow bytes s (Err stops)) → StopsShape flow s stops
shape_stop flow s stops less gives = inr (record { gives = gives; no_damage = λ e. omega arith; no_host = no_host stops (omega arith) })

-- the links can't be given formats
pub lacks_stop : (flow : Flow) (s : Shape) (stops : Stop) → LacksStop flow s.format stops → StopsShape flow s stops
lacks_stop flow s stops (inl e) = inl e
lacks_stop flow s stops (inr h) = shape_stop flow s stops (subst (λ (x : Stop). stop_status x < 9) (sym h.2) (omega arith)) (λ limit bytes. inl (h.0, h.1, ap (λ (x : Stop). let r : Result Answer Stop = Err x in r) h.2))

-- a filter can't be configured
pub unready_stop : (flow : Flow) (s : Shape) (stops : Stop) → (fs : List Format) × HasFormats flow s.format fs → (stops ≡ stop.NoMemory) ⊎ IsUnready flow.path s stops → StopsShape flow s stops
unready_stop flow s stops formats (inl e) = inl e
unready_stop flow s stops formats (inr h) = shape_stop flow s stops (let e = unready_status flow.path s stops h in omega arith) (λ limit bytes. inr (formats.0, formats.1, inl (stops, h, refl)))

-- the rate of the output isn't known
pub rate_stop : (flow : Flow) (s : Shape) → (fs : List Format) × HasFormats flow s.format fs → (readied : Readied) → AreReady flow.path s readied.readies readied.end → ¬ HasRate readied.end.props → StopsShape flow s (stop.Fault (NoRate 0))
rate_stop flow s formats readied ready none = shape_stop flow s (stop.Fault (NoRate 0)) (omega arith) (λ limit bytes. inr (formats.0, formats.1, inr (readied, ready, inl (none, refl))))

-- ---- the filters of a path

-- what is known of a place of a path: the filter there
pub record FilterAt (kinds : List Kind) (path : List Step) (i filter : ℕ) : Type 0 where
  pub step : Step
  pub is_step : slice_get path i ≡ Some step
  pub number : step.number ≡ filter
  pub kind : Kind
  pub is_there : slice_get kinds filter ≡ Some kind
  pub is_kind : IsKind step.call kind

pub filter_at : (kinds : List Kind) (order : List ℕ) (path : List Step) (i : ℕ) → i < length order → AreOfPath kinds order path → FilterAt kinds path i (slice_index_or order i 0)
filter_at kinds [] path i less are = absurd (omega arith)
filter_at kinds (f ∷ fs) [] i less are = absurd are
filter_at kinds (f ∷ fs) (s ∷ ss) zero less are = let at = are.0 in record { step = s; is_step = refl; number = at.0; kind = at.1.0; is_there = at.1.1; is_kind = at.1.2 }
filter_at kinds (f ∷ fs) (s ∷ ss) (suc i) less are =
    let at = filter_at kinds fs ss i (omega arith) are.1 in
    record { step = at.step; is_step = at.is_step; number = at.number; kind = at.kind; is_there = at.is_there; is_kind = at.is_kind }

-- the number is one of a filter
pub filter_within : {kinds : List Kind} {path : List Step} {i filter : ℕ} → FilterAt kinds path i filter → filter < length kinds
filter_within {kinds} {path} {i} {filter} at = slice_get_within kinds filter at.kind at.is_there

-- the filter of the number is the one of the path
pub filter_is : {kinds : List Kind} {path : List Step} {i filter : ℕ} (kind : Kind) → kind ≡ get_or kinds filter kind → (at : FilterAt kinds path i filter) → at.kind ≡ kind
filter_is {kinds} {path} {i} {filter} kind is at = sym (get_or_from_slice_get kinds filter at.kind kind at.is_there) ∙ sym is

pub is_kind_at : {kinds : List Kind} {path : List Step} {i filter : ℕ} (kind : Kind) → kind ≡ get_or kinds filter kind → (at : FilterAt kinds path i filter) → IsKind at.step.call kind
is_kind_at kind is at = subst (IsKind at.step.call) (filter_is kind is at) at.is_kind

pub path_length : (kinds : List Kind) (order : List ℕ) (path : List Step) → AreOfPath kinds order path → length path ≡ length order
path_length kinds [] [] are = refl
path_length kinds [] (s ∷ ss) are = absurd are
path_length kinds (f ∷ fs) [] are = absurd are
path_length kinds (f ∷ fs) (s ∷ ss) are = ap suc (path_length kinds fs ss are.1)

-- one place more
pub path_more : (path : List Step) (i : ℕ) (step : Step) → slice_get path i ≡ Some step → take (i + 1) path ≡ take i path ++ step ∷ []
path_more path i step is = take_more path i step (slice_get_within path i step is) ∙ ap (λ (s : Step). take i path ++ s ∷ []) (get_or_from_slice_get path i step step is)

-- ---- formats

taken_at : (path : List Step) (i : ℕ) (step : Step) (f : Format) → slice_get path i ≡ Some step → AreTaking path f → TakesFormat f step
taken_at [] i step f is all = absurd cc
taken_at (s ∷ ss) zero step f is all = subst (TakesFormat f) (same_Some s step is) all.0
taken_at (s ∷ ss) (suc i) step f is all = taken_at ss i step f is all.1

-- a filter of a path that takes the format takes it
pub takes_at : {kinds : List Kind} {path : List Step} {i filter : ℕ} (kind : Kind) (f : Format) → kind ≡ get_or kinds filter kind → FilterAt kinds path i filter → AreTaking path f → Takes kind f
takes_at {kinds} {path} {i} kind f is at all =
    let other = taken_at path i at.step f at.is_step all in
    (one_meaning.one at.step.call other.0 kind other.1 (is_kind_at kind is at)).takes f other.2

-- ---- one filter more

path_push : (path : List Step) (s u w : Shape) (rs : List ReadyValue) (step : Step) (r : ReadyValue) → AreReady path s rs u → IsReadied step.call u r → r.outs ≡ w ∷ [] → AreReady (path ++ step ∷ []) s (rs ++ r ∷ []) w
path_push [] s u w [] step r p is outs = (subst (λ (x : Shape). IsReadied step.call x r) p is, (w, outs, refl))
path_push [] s u w (x ∷ xs) step r p is outs = absurd p
path_push (c ∷ cs) s u w [] step r p is outs = absurd p
path_push (c ∷ cs) s u w (x ∷ xs) step r p is outs = (p.0, (p.1.0, p.1.1, path_push cs p.1.0 u w xs step r p.1.2 is outs))

pub ready_more : {kinds : List Kind} {path : List Step} {i filter : ℕ} (kind : Kind) (s u w : Shape) (rs : List ReadyValue) (r : ReadyValue) → kind ≡ get_or kinds filter kind → FilterAt kinds path i filter
    → AreReady (take i path) s rs u → IsPictureShape u → Takes kind u.format → IsReady kind u r → r.outs ≡ w ∷ [] → AreReady (take (i + 1) path) s (rs ++ r ∷ []) w
ready_more {kinds} {path} {i} {filter} kind s u w rs r is at p picture takes ready outs =
    rw (path_more path i at.step at.is_step) (path_push (take i path) s u w rs at.step r p (record { kind = kind; is_kind = is_kind_at kind is at; picture = picture; takes = takes; is_ready = ready }) outs)

-- ---- a filter that can't be made ready

unready_from : (path : List Step) (i : ℕ) (step : Step) (s u : Shape) (rs : List ReadyValue) (e : ConfigError) → slice_get path i ≡ Some step → AreReady (take i path) s rs u → IsRefused step.call u e → IsUnready path s (config_stop step.number e)
unready_from [] i step s u rs e is p h = absurd cc
unready_from (c ∷ cs) zero step s u [] e is p h =
    let same = same_Some c step is in
    inl (e, subst (λ (x : Step). IsRefused x.call s e) (sym same) (subst (λ (x : Shape). IsRefused step.call x e) p h), ap (λ (x : Step). config_stop x.number e) (sym same))
unready_from (c ∷ cs) zero step s u (r ∷ rs) e is p h = absurd p
unready_from (c ∷ cs) (suc i) step s u [] e is p h = absurd p
unready_from (c ∷ cs) (suc i) step s u (r ∷ rs) e is p h = inr (r, p.1.0, p.0, p.1.1, unready_from cs i step p.1.0 u rs e is p.1.2 h)

pub path_unready : {kinds : List Kind} {path : List Step} {i filter : ℕ} (kind : Kind) (s u : Shape) (rs : List ReadyValue) (e : ConfigError) → kind ≡ get_or kinds filter kind → FilterAt kinds path i filter
    → AreReady (take i path) s rs u → IsPictureShape u → Takes kind u.format → (e ≡ config.NoMemory) ⊎ IsConfigFault kind u e → (config_stop filter e ≡ stop.NoMemory) ⊎ IsUnready path s (config_stop filter e)
path_unready {filter = filter} kind s u rs e is at p picture takes (inl h) = inl (ap (config_stop filter) h)
path_unready {kinds} {path} {i} {filter} kind s u rs e is at p picture takes (inr h) =
    inr (subst (λ (n : ℕ). IsUnready path s (config_stop n e)) at.number
    (unready_from path i at.step s u rs e at.is_step p (record { kind = kind; is_kind = is_kind_at kind is at; picture = picture; takes = takes; fault = h })))

-- ---- what a file can hold

-- the formats that an output file can hold, as a list
abbrev held : List Format
held = format.Video Gray ∷ format.Video Yuv420p ∷ format.Video Yuv422p ∷ format.Video Yuv444p ∷ format.Video Yuva444p ∷ []

-- it can't hold these
none_420_alpha : (k : ℕ) → k < 5 → slice_index_or held k (format.Video Yuva420p) ≡ format.Video Yuva420p → ⊥
none_420_alpha zero less e = absurd cc
none_420_alpha (suc zero) less e = absurd cc
none_420_alpha (suc (suc zero)) less e = absurd cc
none_420_alpha (suc (suc (suc zero))) less e = absurd cc
none_420_alpha (suc (suc (suc (suc zero)))) less e = absurd cc
none_420_alpha (suc (suc (suc (suc (suc k))))) less e = omega arith

none_422_alpha : (k : ℕ) → k < 5 → slice_index_or held k (format.Video Yuva422p) ≡ format.Video Yuva422p → ⊥
none_422_alpha zero less e = absurd cc
none_422_alpha (suc zero) less e = absurd cc
none_422_alpha (suc (suc zero)) less e = absurd cc
none_422_alpha (suc (suc (suc zero))) less e = absurd cc
none_422_alpha (suc (suc (suc (suc zero)))) less e = absurd cc
none_422_alpha (suc (suc (suc (suc (suc k))))) less e = omega arith

no_420_alpha : ¬ Has y4m_formats (format.Video Yuva420p)
no_420_alpha has = let h = (in_set_of held (format.Video Yuva420p)).0 has in none_420_alpha h.0 h.1 h.2

no_422_alpha : ¬ Has y4m_formats (format.Video Yuva422p)
no_422_alpha has = let h = (in_set_of held (format.Video Yuva422p)).0 has in none_422_alpha h.0 h.1 h.2

-- the colour of a format that an output file can hold has a name
held_colour : (f : PixelFormat) → Has y4m_formats (format.Video f) → 0 < length (colour_of f)
held_colour Gray has = omega arith
held_colour Yuv420p has = omega arith
held_colour Yuv422p has = omega arith
held_colour Yuv444p has = omega arith
held_colour Yuva420p has = absurd (no_420_alpha has)
held_colour Yuva422p has = absurd (no_422_alpha has)
held_colour Yuva444p has = omega arith

held_header : (f : Format) (p : Props) → Has y4m_formats f → IsVideo f → HasRate p → HasHeader f p
held_header (format.Video f) (props.Video p) has video rate = (held_colour f has, rate)
held_header (format.Video f) (props.Audio p) has video rate = rate
held_header (format.Audio f) p has video rate = absurd video

readied_pictured : (c : FilterCall) (s u : Shape) (r : ReadyValue) → IsReadied c s r → r.outs ≡ u ∷ [] → IsPictured u × (u.format ≡ s.format)
readied_pictured c s u r p outs =
    let same = only (sym p.is_ready.outs ∙ outs) in (
      subst IsPictured same (frame_filter_laws.making.pictured r.settings s (record { options = p.kind.options; picture = p.picture; takes = p.takes; settles = p.is_ready.settles })),
      subst (λ (x : Shape). x.format ≡ s.format) same ((frame_filter_laws.making.stream r.settings s).format),
    )
  where
    only : {a b : Shape} → ◌≡◌ {A = List Shape} (a ∷ []) (b ∷ []) → a ≡ b
    only e = cc

-- the end of a path is a picture in the format of its beginning
pub path_pictured : (path : List Step) (s t : Shape) (rs : List ReadyValue) → AreReady path s rs t → IsPictured s → IsPictured t × (t.format ≡ s.format)
path_pictured [] s t [] p pictured = (subst IsPictured (sym p) pictured, ap (λ (x : Shape). x.format) p)
path_pictured [] s t (x ∷ xs) p pictured = absurd p
path_pictured (c ∷ cs) s t [] p pictured = absurd p
path_pictured (c ∷ cs) s t (r ∷ rs) p pictured =
    let here = readied_pictured c.call s p.1.0 r p.0 p.1.1 in
    let end = path_pictured cs p.1.0 t rs p.1.2 here.0 in
    (end.0, end.1 ∙ here.1)

-- it is written if an output file can hold the format and its rate is known
pub path_writable : (path : List Step) (s t : Shape) (rs : List ReadyValue) → AreReady path s rs t → IsPictured s → Has y4m_formats s.format → HasRate t.props → IsWritable t
path_writable path s t rs p pictured has rate =
    let end = path_pictured path s t rs p pictured in
    record {
      lawful = end.0.lawful;
      video = end.0.video;
      limits = end.0.limits;
      header = held_header t.format t.props (subst (Has y4m_formats) (sym end.1) has) end.0.video rate;
    }
