-- What the code keeps of a request.
use Rattle.std.specs.Prelude.{◌≡◌, ◌⊎◌, ◌<◌, ◌^◌, ℕ, List, Some, length, Result, Ok, Err}
use Rattle.std.specs.List.{AllZip, slice_get}
use Rattle.node_core.specs.declared.kind.Kind.{Kind}
use Rattle.node_core.specs.Kinds.{IsKind}
use Rattle.av_words.specs.declared.command_words.Command.{Command}
use Rattle.av_faults.specs.declared.fault.Stop.{Stop}
use Rattle.av_faults.specs.declared.fault.Stop.TheVariants as stop
use Rattle.graph_plan.specs.declared.plan.Edge.{Edge}
use Rattle.plan_formats.specs.PathFormats.{HavePath}
use Rattle.avgraph.specs.Chains.{Step, Flow}
use Rattle.avgraph.specs.Requests.{Request, AreSteps}
use Rattle.avgraph.specs.declared.request.Job.{Job}

-- the numbers of the path's filters, and among all filters the ones that their calls mean
abbrev pub AreOfPath : List Kind → List ℕ → List Step → Type 0
AreOfPath kinds filters path =
    AllZip (λ filter (step : Step). (step.number ≡ filter) × ((kind : Kind) × (slice_get kinds filter ≡ Some kind) × IsKind step.call kind)) filters path

-- the filters that the calls mean, the numbers of those on the path, and the links
pub record IsFlow (kinds : List Kind) (order : List ℕ) (links : List Edge) (flow : Flow) : Type 0 where
  pub are_kinds : AllZip IsKind flow.calls kinds
  pub few_kinds : length kinds < 2 ^ 32
  pub path : AreOfPath kinds order flow.path
  pub steps : AreSteps flow.calls order flow.path
  pub links_are : flow.links ≡ links
  pub few_links : length links < 2 ^ 32
  pub have_path : HavePath links order

-- what is to be done is what is asked for
pub record IsJob (request : Request) (job : Job) : Type 0 where
  pub input : job.input ≡ request.input
  pub flow : IsFlow job.kinds.items job.order job.links request.flow
  pub output : job.output ≡ request.output
  pub report : job.report ≡ request.report

-- what is asked for is to be done, or what stops it was found, or there is no memory
abbrev pub Asked : (Result Request Stop → Type 0) → Result Job Stop → Type 0
Asked P (Ok job) = (request : Request) × P (Ok request) × IsJob request job
Asked P (Err stops) = (stops ≡ stop.NoMemory) ⊎ P (Err stops)

-- the numbers of inputs, of outputs and of bytes of the text fit in 32 bits
pub record IsSmallCommand (command : Command) : Type 0 where
  pub inputs : length command.inputs < 2 ^ 32
  pub outputs : length command.outputs < 2 ^ 32
  pub text : length command.text < 2 ^ 32
