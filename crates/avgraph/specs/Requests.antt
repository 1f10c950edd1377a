-- What a command line asks for, or what stops it before any file is opened.
use Rattle.std.specs.Prelude.{◌≡◌, ◌≤◌, ◌+◌, ◌-◌, ◌⊎◌, ℕ, Bool, List, [], ◌∷◌, Some, length, map, Result, Ok, Err}
use Rattle.std.specs.List.{AllZip, AllByRecursion, slice_get}
use Rattle.av_base.specs.declared.formats.Media.{Media}
use Rattle.av_base.specs.declared.formats.Media.TheVariants.{Video}
use Rattle.av_text.specs.declared.fault.TextKind.{TextKind}
use Rattle.graph_text.specs.Graphs.{IsGraph, IsGraphFault}
use Rattle.graph_text.specs.declared.graph.FilterCall.{FilterCall}
use Rattle.graph_plan.specs.declared.plan.DraftPlan.{DraftPlan}
use Rattle.graph_plan.specs.declared.plan.Plan.{Plan}
use Rattle.graph_plan.specs.declared.plan.OutputFile.{OutputFile}
use Rattle.graph_plan.specs.declared.plan.PlanFault.{PlanFault}
use Rattle.graph_plan.specs.declared.plan.Ending.TheVariants.{Y4m}
use Rattle.graph_plan.specs.Graphs.{Graph}
use Rattle.graph_plan.specs.Refusals.{IsLinked, IsLinkFault}
use Rattle.graph_plan.specs.Bindings.{IsBound, IsBindFault}
use Rattle.graph_plan.specs.Paths.{IsPath}
use Rattle.av_filter.specs.Outcomes.{AfterCheck, AfterStep, AfterValue}
use Rattle.av_frame.specs.declared.refusals.OptionError.{OptionError}
use Rattle.node_core.specs.declared.kind.Kind.{Kind}
use Rattle.node_core.specs.Kinds.{IsKind, IsKindFault}
use Rattle.node_core.specs.Shaping.{pads_of}
use Rattle.av_words.specs.declared.command_words.Command.{Command}
use Rattle.av_words.specs.declared.command_words.InputWord.{InputWord}
use Rattle.av_words.specs.declared.command_words.InputWord.TheVariants as input
use Rattle.av_words.specs.declared.command_words.OutputWord.{OutputWord}
use Rattle.av_words.specs.CommandWords.{IsCommand, IsWordFault}
use Rattle.av_faults.specs.declared.fault.Fault.{Fault}
use Rattle.av_faults.specs.declared.fault.Fault.TheVariants.{NotYet, TextFault, Limit}
use Rattle.av_faults.specs.declared.fault.LimitKind.TheVariants.{Filters}
use Rattle.av_faults.specs.declared.fault.Stop.{Stop}
use Rattle.av_faults.specs.declared.fault.Stop.TheVariants as stop
use Rattle.avgraph.specs.Stops.{option_stop, plan_stop}
use Rattle.avgraph.specs.Chains.{Step, Flow}
use Rattle.avgraph.specs.Bounds.{most_filters}

-- ---- what can run today

-- an input file of video
abbrev pub IsVideoFile : InputWord → Type 0
IsVideoFile (input.File name kind) = kind ≡ Video
IsVideoFile (input.Made seed width height frames) = ⊥

-- files of Y4M alone, on one thread, in no order that was asked for
pub record RunsToday (command : Command) : Type 0 where
  pub inputs : AllByRecursion IsVideoFile command.inputs
  pub outputs : AllByRecursion (λ (o : OutputWord). o.file.ending ≡ Y4m) command.outputs
  pub workers : command.workers ≡ 0
  pub slices : command.slices ≡ 1
  pub order : command.order ≡ []

-- the names of the one input and of the one output
pub record AreNames (command : Command) (names : List ℕ × List ℕ) : Type 0 where
  pub inputs : command.inputs ≡ input.File names.0 Video ∷ []
  pub output : OutputFile
  pub outputs : command.outputs ≡ (record { name = names.1; file = output }) ∷ []

-- ---- graphs

-- the text has no reading, and this is its fault, where the rest begins that can't be read
pub record HasTextFault (text : List ℕ) (fault : Fault) : Type 0 where
  pub kind : TextKind
  pub bad : List ℕ
  pub is_fault : IsGraphFault text kind bad
  pub fault_is : fault ≡ TextFault (length text - length bad) kind

-- the first call that is rejected, of those of which the first listed is the n-th filter, stops the command with this
abbrev pub IsRefusedCall : ℕ → List FilterCall → Stop → Type 0
IsRefusedCall n [] stops = ⊥
IsRefusedCall n (call ∷ calls) stops = ((e : OptionError) × IsKindFault call e × (stops ≡ option_stop n e))
    ⊎ ((kind : Kind) × IsKind call kind × IsRefusedCall (n + 1) calls stops)

-- what an input gives
abbrev pub given_by : InputWord → Media
given_by (input.File name kind) = kind
given_by (input.Made seed width height frames) = Video

-- the graph of the calls, which mean these filters
abbrev pub graph_of : Command → List FilterCall → List Kind → Graph
graph_of command calls kinds = record { calls = calls; pads = map pads_of kinds; files = map given_by command.inputs }

-- the output files
abbrev pub files_of : Command → List OutputFile
files_of command = map (λ (o : OutputWord). o.file) command.outputs

-- ---- requests

-- what is read, what its frames flow through, what is written, and whether a report is asked for
pub record Request : Type 0 where
  pub input : List ℕ
  pub flow : Flow
  pub output : List ℕ
  pub report : Bool

-- the numbers and the calls of these filters
abbrev pub AreSteps : List FilterCall → List ℕ → List Step → Type 0
AreSteps calls filters path = AllZip (λ filter (step : Step). (step.number ≡ filter) × (slice_get calls filter ≡ Some step.call)) filters path

-- the request of a plan with one input and one output, which is the path through the filters in their order
pub record IsRequest (command : Command) (calls : List FilterCall) (plan : Plan) (names : List ℕ × List ℕ) (request : Request) : Type 0 where
  pub input : request.input ≡ names.0
  pub calls_are : request.flow.calls ≡ calls
  pub links_are : request.flow.links ≡ plan.links
  pub is_path : IsPath plan
  pub steps : AreSteps calls plan.order request.flow.path
  pub output : request.output ≡ names.1
  pub report : request.report ≡ command.report

-- ---- what a command line comes to, in the order of its checks

abbrev pub refuse : Fault → Result Request Stop
refuse fault = Err (stop.Fault fault)

abbrev pub refuse_plan : PlanFault → Result Request Stop
refuse_plan fault = Err (plan_stop fault)

-- one input and one output can run today
abbrev pub AsksPlan : Command → List FilterCall → Plan → Result Request Stop → Type 0
AsksPlan command calls plan = AfterValue ((names : List ℕ × List ℕ) → ¬ AreNames command names) (refuse NotYet) (AreNames command) (λ names r.
    (request : Request) × IsRequest command calls plan names request × (r ≡ Ok request))

-- the outputs are bound
abbrev pub AsksDraft : Command → List FilterCall → DraftPlan → Result Request Stop → Type 0
AsksDraft command calls draft = AfterStep (IsBindFault draft.opens (files_of command)) refuse_plan (IsBound draft (files_of command)) (AsksPlan command calls)

-- the filters are linked
abbrev pub AsksKinds : Command → List FilterCall → List Kind → Result Request Stop → Type 0
AsksKinds command calls kinds =
    AfterStep (IsLinkFault (graph_of command calls kinds) (length command.outputs)) refuse_plan (IsLinked (graph_of command calls kinds) (length command.outputs)) (AsksDraft command calls)

-- the filters are not too many, and each is named with options that it takes
abbrev pub AsksCalls : Command → List FilterCall → Result Request Stop → Type 0
AsksCalls command calls =
    AfterCheck (length calls ≤ most_filters) (refuse (Limit Filters 0 most_filters)) (AfterStep (IsRefusedCall 0 calls) Err (AllZip IsKind calls) (AsksKinds command calls))

-- the command can run today, and its text is read
abbrev pub AsksCommand : Command → Result Request Stop → Type 0
AsksCommand command = AfterCheck (RunsToday command) (refuse NotYet) (AfterStep (HasTextFault command.text) refuse (IsGraph command.text) (AsksCalls command))

-- the words are a command
abbrev pub Asks : List (List ℕ) → Result Request Stop → Type 0
Asks words = AfterStep (IsWordFault words) refuse (IsCommand words) AsksCommand
