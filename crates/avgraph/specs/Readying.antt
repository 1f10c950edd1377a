-- How the filters of a path are made ready, as contracts inside the crate see it.
use Rattle.std.specs.Prelude.{◌≡◌, ◌⊎◌, ℕ, List}
use Rattle.std.specs.List.{AllByRecursion}
use Rattle.av_base.specs.declared.formats.Format.{Format}
use Rattle.node_core.specs.declared.kind.Kind.{Kind}
use Rattle.node_core.specs.Shaping.{Takes}
use Rattle.node_core.specs.Kinds.{IsKind}
use Rattle.av_faults.specs.declared.fault.Fault.TheVariants.{NoCommonFormat}
use Rattle.av_faults.specs.declared.fault.Stop.{Stop}
use Rattle.av_faults.specs.declared.fault.Stop.TheVariants as stop
use Rattle.avgraph.specs.Chains.{Step, Flow}
use Rattle.avgraph.specs.Answers.{LacksFormats}

-- the call means a filter that takes pictures of the format
abbrev pub TakesFormat : Format → Step → Type 0
TakesFormat f step = (kind : Kind) × IsKind step.call kind × Takes kind f

-- all filters of the path take pictures of the format
abbrev pub AreTaking : List Step → Format → Type 0
AreTaking path f = AllByRecursion (TakesFormat f) path

-- the links can't be given formats, or there is no memory
abbrev pub LacksStop : Flow → Format → Stop → Type 0
LacksStop flow f stops = (stops ≡ stop.NoMemory) ⊎ ((link : ℕ) × LacksFormats flow f link × (stops ≡ stop.Fault (NoCommonFormat link)))
