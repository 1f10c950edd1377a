-- A call means exactly one filter or is refused for exactly one fault, always, and out of memory is no fault of it; and a
-- filter that a call means has exactly one outcome, always, for pictures of every shape that it takes.
use Rattle.std.specs.Prelude.{◌≡◌, Result}
use Rattle.av_base.specs.declared.formats.Format.{Format}
use Rattle.av_base.specs.declared.shapes.Shape.{Shape}
use Rattle.graph_text.specs.declared.graph.FilterCall.{FilterCall}
use Rattle.av_base.specs.Shapes.{IsPictureShape}
use Rattle.av_filter.specs.Outcomes.{HasOne}
use Rattle.av_frame.specs.declared.refusals.OptionError.{OptionError}
use Rattle.av_frame.specs.declared.refusals.OptionError.TheVariants as option
use Rattle.av_frame.specs.declared.refusals.ConfigError.{ConfigError}
use Rattle.node_core.specs.Filters.{frame_filters}
use Rattle.node_core.specs.Kinds.{Means, IsKind, IsKindFault}
use Rattle.node_core.specs.Shaping.{Takes}
use Rattle.node_core.specs.Wishing.{formats_of}
use Rattle.node_core.specs.declared.kind.Kind.{Kind}

-- what the one filter takes and settles, the other does too, and it asks the same of formats. (Two sets of formats may
-- differ in bits that mean no format.)
pub record FollowsKind (a b : Kind) : Type 0 where
  pub formats : formats_of b ≡ formats_of a
  pub takes : (f : Format) → Takes a f → Takes b f
  pub settles : (s : Shape) (r : Result frame_filters.Settings ConfigError) → frame_filters.making.settles a.options s r → frame_filters.making.settles b.options s r

pub record CallsHaveOneMeaning : Type 0 where
  pub some : (call : FilterCall) → (r : Result Kind OptionError) × Means call r
  pub one : (call : FilterCall) (a b : Kind) → IsKind call a → IsKind call b → FollowsKind a b
  pub not_both : (call : FilterCall) (a : Kind) (e : OptionError) → IsKind call a → ¬ IsKindFault call e
  pub one_fault : (call : FilterCall) (e f : OptionError) → IsKindFault call e → IsKindFault call f → e ≡ f
  pub no_memory : (call : FilterCall) → ¬ IsKindFault call option.NoMemory

abbrev pub FiltersHaveOneOutcome : Type 0
FiltersHaveOneOutcome = (call : FilterCall) (k : Kind) (s : Shape) → IsKind call k → IsPictureShape s → Takes k s.format → HasOne (frame_filters.making.settles k.options s)
