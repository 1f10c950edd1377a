-- The command that words mean (the ffmpeg documentation's options `-i`, `-filter_complex`, `-map` and `-y`; the others, the
-- endings, and the order of faults are this project's own).
use Rattle.std.specs.Prelude.{◌≡◌, ◌↔◌, ◌⊎◌, ℕ, List, [], ◌∷◌, ◌++◌, Option, Some, None, filter, IsTrue}
use Rattle.std.specs.List.{AllZip}
use Rattle.av_words.specs.declared.command_words.Command.{Command}
use Rattle.av_words.specs.declared.command_words.InputWord.{InputWord}
use Rattle.av_words.specs.declared.command_words.InputWord.TheVariants as input
use Rattle.av_words.specs.declared.command_words.OutputWord.{OutputWord}
use Rattle.av_words.specs.declared.word_roles.Role.{Role}
use Rattle.av_words.specs.declared.word_roles.Role.TheVariants.{Report, Value, File}
use Rattle.av_words.specs.declared.word_roles.Valued.{Valued}
use Rattle.av_words.specs.declared.word_roles.Valued.TheVariants.{Workers, Slices, Order, Input, Generator, Graph}
use Rattle.av_faults.specs.declared.fault.Fault.{Fault}
use Rattle.av_words.specs.WordRoles.{Said, said}
use Rattle.av_words.specs.WordValues.{media_of, ending_of, IsLabelled, IsCount, SaysOrder, SaysMade}
use Rattle.av_words.specs.WordFaults.{Has, Lacks, IsLast, is_input, map_after, HasFault, IsFirstFault}

-- ---- inputs

-- what a value names: a file and what that gives, or a made input
abbrev pub SaysInputAs : Role → List ℕ → InputWord → Type 0
SaysInputAs (Value Input) word (input.File name media) = (name ≡ word) × (media_of word ≡ Some media)
SaysInputAs (Value Generator) word made = SaysMade word made
SaysInputAs other word input = ⊥

abbrev pub SaysInput : Said → InputWord → Type 0
SaysInput item input = SaysInputAs item.role item.word input

-- ---- outputs

-- an output file, and the value of the `-map` before it
pub record Output : Type 0 where
  pub map : Option (List ℕ)
  pub name : List ℕ

-- the output file that a word is, if it is one, while this value of `-map` waits
abbrev pub output_at : Option (List ℕ) → Role → List ℕ → List Output
output_at map File word = (record { map = map; name = word }) ∷ []
output_at map other word = []

-- all of them
abbrev pub outputs_after : Option (List ℕ) → List Said → List Output
outputs_after map [] = []
outputs_after map (item ∷ line) = output_at map item.role item.word ++ outputs_after (map_after item.role item.word map) line

-- the label that a value of `-map` names, or none if there is no `-map`
abbrev pub IsLabelOf : Option (List ℕ) → Option (List ℕ) → Type 0
IsLabelOf None label = label ≡ None
IsLabelOf (Some value) None = ⊥
IsLabelOf (Some value) (Some label) = IsLabelled value label

-- what is written to an output file
pub record SaysOutput (output : Output) (word : OutputWord) : Type 0 where
  pub name : word.name ≡ output.name
  pub label : IsLabelOf output.map word.file.label
  pub ending : ending_of output.name ≡ Some word.file.ending

-- ---- settings

-- what the last value of an option says, or what is meant if there is none
abbrev pub IsSet : {X : Type 0} → List Said → Valued → (List ℕ → X → Type 0) → X → X → Type 0
IsSet line option Says unset x = (Lacks line (Value option) × (x ≡ unset)) ⊎ ((at : ℕ) × (value : List ℕ) × IsLast line (Value option) at value × Says value x)

-- ---- the command

abbrev pub IsFaultless : List Said → Type 0
IsFaultless line = (fault : Fault) → ¬ HasFault line fault

pub record SaysCommand (line : List Said) (command : Command) : Type 0 where
  pub faultless : IsFaultless line
  pub inputs : AllZip SaysInput (filter is_input line) command.inputs
  pub text : (at : ℕ) × IsLast line (Value Graph) at command.text
  pub outputs : AllZip SaysOutput (outputs_after None line) command.outputs
  pub workers : IsSet line Workers (IsCount 0) 0 command.workers
  pub slices : IsSet line Slices (IsCount 1) 1 command.slices
  pub order : IsSet line Order SaysOrder [] command.order
  pub report : IsTrue command.report ↔ ((word : List ℕ) × Has line Report word)

-- the command of a command line
abbrev pub IsCommand : List (List ℕ) → Command → Type 0
IsCommand words command = SaysCommand (said words) command

-- its fault: the one at the first word that has one, or else one of the whole line; at one place the one of the lowest rank
abbrev pub IsWordFault : List (List ℕ) → Fault → Type 0
IsWordFault words fault = IsFirstFault (said words) fault

-- words mean one command or have one fault, and never both
pub record WordsSayOneThing : Type 0 where
  pub one_command : (words : List (List ℕ)) (a b : Command) → IsCommand words a → IsCommand words b → a ≡ b
  pub one_fault : (words : List (List ℕ)) (f g : Fault) → IsWordFault words f → IsWordFault words g → f ≡ g
  pub not_both : (words : List (List ℕ)) (command : Command) (fault : Fault) → IsCommand words command → IsWordFault words fault → ⊥
  pub one_of_both : (words : List (List ℕ)) → ((command : Command) × IsCommand words command) ⊎ ((fault : Fault) × IsWordFault words fault)
