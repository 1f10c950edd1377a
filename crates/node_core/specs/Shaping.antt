-- Pads, settings, shapes and frames of filters (FFmpeg Filters Documentation; limits and the order of checks are this
-- project's own).
use Rattle.std.specs.Prelude.{◌≡◌, List, [], ◌∷◌, map, Ok, Err}
use Rattle.av_base.specs.declared.formats.Media.{Media}
use Rattle.av_base.specs.declared.formats.Media.TheVariants.{Video}
use Rattle.av_base.specs.declared.formats.Format.{Format}
use Rattle.av_base.specs.declared.shapes.Shape.{Shape}
use Rattle.av_frame.specs.Frames.{FrameValue}
use Rattle.av_filter.specs.Meanings.{IsSettled}
use Rattle.av_frame.specs.declared.refusals.ConfigError.{ConfigError}
use Rattle.node_core.specs.Filters.{frame_filters}
use Rattle.graph_plan.specs.declared.plan.Pads.{Pads}
use Rattle.node_core.specs.declared.kind.Kind.{Kind}

-- one pad, for video
abbrev pub video_pads : List Media
video_pads = Video ∷ []

-- what a filter's pads take and give: all filters that there are take one video and give one
abbrev pub pads_of : Kind → Pads
pads_of kind = record { ins = video_pads; outs = video_pads }

-- a filter takes pictures of this format
abbrev pub Takes : Kind → Format → Type 0
Takes kind f = frame_filters.making.takes kind.options f

-- what contracts see of a filter that is configured: its settings, and the shapes of its inputs and outputs
pub record ReadyValue : Type 0 where
  pub settings : frame_filters.Settings
  pub ins : List Shape
  pub outs : List Shape

-- the settings were settled for the only input, and the only output has their shape
pub record IsConfigured (ready : ReadyValue) : Type 0 where
  pub shape : Shape
  pub settled : IsSettled frame_filters.making shape ready.settings
  pub ins : ready.ins ≡ shape ∷ []
  pub outs : ready.outs ≡ frame_filters.making.shape ready.settings shape ∷ []

-- the filter is configured for pictures of a shape: the outcome of its options is these settings
pub record IsReady (kind : Kind) (s : Shape) (ready : ReadyValue) : Type 0 where
  pub settles : frame_filters.making.settles kind.options s (Ok ready.settings)
  pub ins : ready.ins ≡ s ∷ []
  pub outs : ready.outs ≡ frame_filters.making.shape ready.settings s ∷ []

-- the outcome of its options is a fault
abbrev pub IsConfigFault : Kind → Shape → ConfigError → Type 0
IsConfigFault kind s e = frame_filters.making.settles kind.options s (Err e)

-- ---- frames

-- what a filter makes of a frame
abbrev pub made_by : ReadyValue → FrameValue → FrameValue
made_by r = frame_filters.making.made r.settings

-- the frames that a filter gives for all frames of its input
abbrev pub given : ReadyValue → List FrameValue → List FrameValue
given r xs = map (made_by r) xs
