-- Which output file takes which open output pad.
use Rattle.std.specs.Prelude.{◌≡◌, ◌<◌, ◌+◌, ◌++◌, ◌⊎◌, ℕ, List, [], ◌∷◌, Option, Some, None, length}
use Rattle.std.specs.List.{slice_get}
use Rattle.av_base.specs.First.{IsFirst, Never}
use Rattle.av_base.specs.declared.formats.Media.{Media}
use Rattle.av_base.specs.declared.formats.Media.TheVariants as media
use Rattle.graph_plan.specs.declared.plan.Edge.{Edge}
use Rattle.graph_plan.specs.declared.plan.Source.TheVariants as from
use Rattle.graph_plan.specs.declared.plan.Target.TheVariants as to
use Rattle.graph_plan.specs.declared.plan.Ending.{Ending}
use Rattle.graph_plan.specs.declared.plan.Ending.TheVariants.{Y4m, Wav, Frames}
use Rattle.graph_plan.specs.declared.plan.OpenOut.{OpenOut}
use Rattle.graph_plan.specs.declared.plan.OutputFile.{OutputFile}
use Rattle.graph_plan.specs.declared.plan.DraftPlan.{DraftPlan}
use Rattle.graph_plan.specs.declared.plan.Plan.{Plan}
use Rattle.graph_plan.specs.declared.plan.PlanFault.{PlanFault}
use Rattle.graph_plan.specs.declared.plan.PlanFault.TheVariants.{NoSuchOutput, Unmapped, WrongKind}

-- what a pad or a file is called: its label, or if it has none its number among those without one
pub data Name : Type 0 where
  Label : List ℕ → Name
  Number : ℕ → Name

abbrev pub name_of : Option (List ℕ) → ℕ → Name
name_of (Some label) number = Label label
name_of None number = Number number

-- the number of the next one without a label
abbrev pub number_after : Option (List ℕ) → ℕ → ℕ
number_after (Some label) number = number
number_after None number = number + 1

-- what these are called. Those without a label are numbered from a number on
abbrev pub names : {X : Type 0} → (X → Option (List ℕ)) → ℕ → List X → List Name
names label number [] = []
names label number (x ∷ xs) = name_of (label x) number ∷ names label (number_after (label x) number) xs

abbrev pub pad_names : List OpenOut → List Name
pad_names opens = names (λ (p : OpenOut). p.label) 0 opens

abbrev pub file_names : List OutputFile → List Name
file_names files = names (λ (f : OutputFile). f.label) 0 files

-- the first open pad that is called so
abbrev pub IsPadOf : List OpenOut → Name → ℕ → Type 0
IsPadOf opens name = IsFirst (λ o. slice_get (pad_names opens) o ≡ Some name)

-- a file takes the open pad that is called as it is: the one with its label; those without one in order
pub record Takes (opens : List OpenOut) (files : List OutputFile) (k o : ℕ) : Type 0 where
  pub name : Name
  pub is_file : slice_get (file_names files) k ≡ Some name
  pub is_pad : IsPadOf opens name o

-- a file has no pad to take, or one that an earlier file takes
abbrev pub FindsNone : List OpenOut → List OutputFile → ℕ → Type 0
FindsNone opens files k = (k < length files) × ((o : ℕ) → Takes opens files k o → (earlier : ℕ) × (earlier < k) × Takes opens files earlier o)

-- no file takes an open pad
abbrev pub IsUnmapped : List OpenOut → List OutputFile → ℕ → Type 0
IsUnmapped opens files o = (o < length opens) × ((k : ℕ) → ¬ Takes opens files k o)

-- a Y4M file can't take audio, and a WAV file can't take video
abbrev pub CannotTake : Ending → Media → Type 0
CannotTake Y4m kind = kind ≡ media.Audio
CannotTake Wav kind = kind ≡ media.Video
CannotTake Frames kind = ⊥

-- a file takes a pad of a kind that it can't take
pub record TakesWrong (opens : List OpenOut) (files : List OutputFile) (k : ℕ) : Type 0 where
  pub place : ℕ
  pub takes : Takes opens files k place
  pub file : OutputFile
  pub is_file : slice_get files k ≡ Some file
  pub pad : OpenOut
  pub is_pad : slice_get opens place ≡ Some pad
  pub cannot : CannotTake file.ending pad.media

-- the first fault: the lowest file that finds no pad, else the first pad that is left, else the lowest file that takes a
-- pad of the wrong kind
pub data IsBindFault (opens : List OpenOut) (files : List OutputFile) : PlanFault → Type 0 where
  Misses : (output : ℕ) → IsFirst (FindsNone opens files) output → IsBindFault opens files (NoSuchOutput output)
  Leaves : (filter pad : ℕ) → Never (FindsNone opens files)
      → ((o : ℕ) × IsFirst (IsUnmapped opens files) o × ((p : OpenOut) × (slice_get opens o ≡ Some p) × (p.filter ≡ filter) × (p.pad ≡ pad)))
      → IsBindFault opens files (Unmapped filter pad)
  Mixes : (output : ℕ) → Never (FindsNone opens files) → Never (IsUnmapped opens files) → IsFirst (TakesWrong opens files) output
      → IsBindFault opens files (WrongKind output)

-- the link from a pad to an output
abbrev pub link_to_output : OpenOut → ℕ → Edge
link_to_output p output = record { from = from.Filter p.filter p.pad; to = to.Output output }

-- the links to outputs, in order
pub record AreOutputs (opens : List OpenOut) (files : List OutputFile) (links : List Edge) : Type 0 where
  pub each : length links ≡ length files
  pub are : (k : ℕ) (link : Edge) → slice_get links k ≡ Some link → (o : ℕ) × Takes opens files k o × ((p : OpenOut) × (slice_get opens o ≡ Some p) × (link ≡ link_to_output p k))

-- the plan of a draft whose outputs are bound: each file takes a pad of its own, each pad is taken, and the kinds fit
pub record IsBound (draft : DraftPlan) (files : List OutputFile) (plan : Plan) : Type 0 where
  pub all_find : (k : ℕ) → ¬ FindsNone draft.opens files k
  pub all_mapped : (o : ℕ) → ¬ IsUnmapped draft.opens files o
  pub all_fit : (k : ℕ) → ¬ TakesWrong draft.opens files k
  pub outputs : List Edge
  pub are_outputs : AreOutputs draft.opens files outputs
  pub links : plan.links ≡ draft.links ++ outputs
  pub order : plan.order ≡ draft.order

-- a draft has one bound plan or one fault, and never both
pub record OutputsBindInOneWay : Type 0 where
  pub one_plan : (draft : DraftPlan) (files : List OutputFile) (a b : Plan) → IsBound draft files a → IsBound draft files b → a ≡ b
  pub one_fault : (opens : List OpenOut) (files : List OutputFile) (f g : PlanFault) → IsBindFault opens files f → IsBindFault opens files g → f ≡ g
  pub not_both : (draft : DraftPlan) (files : List OutputFile) (plan : Plan) (f : PlanFault) → IsBound draft files plan → IsBindFault draft.opens files f → ⊥
  pub one_of_both : (draft : DraftPlan) (files : List OutputFile) → ((plan : Plan) × IsBound draft files plan) ⊎ ((f : PlanFault) × IsBindFault draft.opens files f)
