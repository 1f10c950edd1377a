-- What a file comes to for what its frames flow through, from its bytes alone.
use Rattle.std.specs.Prelude.{◌≡◌, ◌<◌, ◌⊎◌, ℕ, List, [], ◌∷◌, ◌++◌, length, Result, Ok, Err}
use Rattle.std.specs.List.{AllZip}
use Rattle.av_base.specs.declared.shapes.Shape.{Shape}
use Rattle.av_base.specs.declared.shapes.Props.{Props}
use Rattle.av_base.specs.declared.shapes.Props.TheVariants as props
use Rattle.av_base.specs.declared.formats.PixelFormat.TheVariants.{Gray, Yuv420p, Yuv422p, Yuv444p, Yuva444p}
use Rattle.av_base.specs.declared.formats.Format.{Format}
use Rattle.av_base.specs.declared.formats.Format.TheVariants.{Video}
use Rattle.av_base.specs.declared.sets.FormatSet.{FormatSet}
use Rattle.av_base.specs.Shapes.{IsPictureShape}
use Rattle.graph_text.specs.declared.graph.FilterCall.{FilterCall}
use Rattle.graph_formats.specs.Assignments.{IsChosen, IsFirstWithout}
use Rattle.av_frame.specs.Frames.{FrameValue}
use Rattle.av_frame.specs.declared.faults.NextError.{NextError}
use Rattle.av_frame.specs.declared.refusals.ConfigError.{ConfigError}
use Rattle.av_filter.specs.Outcomes.{AfterCheck, AfterStep}
use Rattle.node_core.specs.declared.kind.Kind.{Kind}
use Rattle.node_core.specs.Shaping.{ReadyValue, Takes, IsConfigFault}
use Rattle.node_core.specs.Kinds.{IsKind}
use Rattle.node_core.specs.Wishing.{set_of}
use Rattle.plan_formats.specs.Wished.{plan_wishes, plan_relations}
use Rattle.y4m_io.specs.Heads.{HasHead, IsHeadFault}
use Rattle.y4m_io.specs.Files.{HasFrames, HasDamage, whole_text}
use Rattle.av_faults.specs.Reports.{input_line, output_line}
use Rattle.av_faults.specs.declared.fault.Fault.{Fault}
use Rattle.av_faults.specs.declared.fault.Fault.TheVariants.{NoCommonFormat, NoRate}
use Rattle.av_faults.specs.declared.fault.Stop.{Stop}
use Rattle.av_faults.specs.declared.fault.Stop.TheVariants as stop
use Rattle.avgraph.specs.Chains.{Step, Flow, IsReadied, AreReady, through}
use Rattle.avgraph.specs.Stops.{config_stop, head_stop, next_stop}

-- ---- answers

-- the bytes of the output, and how many frames were read and written
pub record Answer : Type 0 where
  pub out : List ℕ
  pub read : ℕ
  pub written : ℕ

-- the report of an answer
abbrev pub report_text : Answer → List ℕ
report_text answer = input_line 0 answer.read ++ output_line 0 answer.written (length answer.out)

-- filters that are ready, and the shape that the last one gives
pub record Readied : Type 0 where
  pub readies : List ReadyValue
  pub end : Shape

-- the text of the frames at the end of the filters
abbrev pub answer_of : Readied → List FrameValue → Answer
answer_of readied frames = record {
  out = whole_text readied.end (through readied.readies frames);
  read = length frames;
  written = length (through readied.readies frames);
}

-- ---- formats

-- the formats that an output file can hold
abbrev pub y4m_formats : FormatSet
y4m_formats = set_of (Video Gray ∷ Video Yuv420p ∷ Video Yuv422p ∷ Video Yuv444p ∷ Video Yuva444p ∷ [])

-- no formats are as the filters and the files ask, and this is the lowest link of the first part that has none
pub record LacksFormats (flow : Flow) (f : Format) (link : ℕ) : Type 0 where
  pub kinds : List Kind
  pub are_kinds : AllZip IsKind flow.calls kinds
  pub lacks : IsFirstWithout (length flow.links) (plan_wishes flow.links kinds (f ∷ []) (y4m_formats ∷ [])) (plan_relations flow.links kinds) link

-- these are the chosen formats of the links, where the input's pictures have a format
pub record HasFormats (flow : Flow) (f : Format) (formats : List Format) : Type 0 where
  pub kinds : List Kind
  pub are_kinds : AllZip IsKind flow.calls kinds
  pub chosen : IsChosen (length flow.links) (plan_wishes flow.links kinds (f ∷ []) (y4m_formats ∷ [])) (plan_relations flow.links kinds) formats

-- ---- shapes

-- the call means a filter that takes pictures of the shape, and is rejected for them
pub record IsRefused (call : FilterCall) (s : Shape) (e : ConfigError) : Type 0 where
  pub kind : Kind
  pub is_kind : IsKind call kind
  pub picture : IsPictureShape s
  pub takes : Takes kind s.format
  pub fault : IsConfigFault kind s e

-- the first filter of a path that can't be configured stops the command with this
abbrev pub IsUnready : List Step → Shape → Stop → Type 0
IsUnready [] s stops = ⊥
IsUnready (step ∷ steps) s stops = ((e : ConfigError) × IsRefused step.call s e × (stops ≡ config_stop step.number e))
    ⊎ ((ready : ReadyValue) × (u : Shape) × IsReadied step.call s ready × (ready.outs ≡ u ∷ []) × IsUnready steps u stops)

-- pictures of which a file can state the rate
abbrev pub HasRate : Props → Type 0
HasRate (props.Video p) = 0 < p.rate.num
HasRate (props.Audio p) = ⊥

-- ---- what a file comes to, in the order of its checks

abbrev pub reject : Fault → Result Answer Stop
reject fault = Err (stop.Fault fault)

abbrev pub stops_with : {E : Type 0} → (E → Stop) → E → Result Answer Stop
stops_with f e = Err (f e)

-- the frames before the first damage, and the damage
abbrev pub IsDamaged : ℕ → List ℕ → Shape → List FrameValue × NextError → Type 0
IsDamaged limit bytes s damage = HasDamage limit bytes s damage.0 damage.1

-- all that follows the header are frames
abbrev pub FramesGive : ℕ → List ℕ → Shape → Readied → Result Answer Stop → Type 0
FramesGive limit bytes s readied = AfterStep (IsDamaged limit bytes s) (stops_with (λ damage. next_stop limit damage.1)) (HasFrames limit bytes s) (λ frames r. r ≡ Ok (answer_of readied frames))

-- the rate of the output is known
abbrev pub RateGives : ℕ → List ℕ → Shape → Readied → Result Answer Stop → Type 0
RateGives limit bytes s readied = AfterCheck (HasRate readied.end.props) (reject (NoRate 0)) (FramesGive limit bytes s readied)

-- the filters of the path are configured, each for the shape that the one before it gives
abbrev pub ReadyGives : ℕ → Flow → List ℕ → Shape → Result Answer Stop → Type 0
ReadyGives limit flow bytes s = AfterStep (IsUnready flow.path s) Err (λ readied. AreReady flow.path s readied.readies readied.end) (RateGives limit bytes s)

-- the links have formats
abbrev pub ShapeGives : ℕ → Flow → List ℕ → Shape → Result Answer Stop → Type 0
ShapeGives limit flow bytes s = AfterStep (LacksFormats flow s.format) (λ link. reject (NoCommonFormat link)) (HasFormats flow s.format) (λ formats. ReadyGives limit flow bytes s)

-- the file begins with a header
abbrev pub FileGives : ℕ → Flow → List ℕ → Result Answer Stop → Type 0
FileGives limit flow bytes = AfterStep (IsHeadFault limit bytes) (stops_with (head_stop limit)) (HasHead limit bytes) (ShapeGives limit flow bytes)
