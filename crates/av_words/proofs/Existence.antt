-- Words mean a command or have a fault.
use Rattle.std.proofs.Common.{◌≡◌, ◌++◌, ◌⊎◌, ◌↔◌, ℕ, Bool, true, false, suc, List, [], ◌∷◌, Option, Some, None, filter, length, IsTrue, refl, sym, subst, inl, inr, arith}
use Rattle.std.specs.List.{AllZip}
use Rattle.std.proofs.lemmas.Bool.{false≢true}
use Rattle.std.proofs.lemmas.List.Elements.{filter-append}
use Rattle.av_base.specs.declared.formats.Media.{Media}
use Rattle.graph_plan.specs.declared.plan.Ending.{Ending}
use Rattle.av_faults.specs.declared.fault.Fault.{Fault}
use Rattle.av_faults.specs.declared.fault.Fault.TheVariants.{NoGraph, NoOutput, Limit}
use Rattle.av_faults.specs.declared.fault.LimitKind.TheVariants.{Text, Inputs, Outputs}
use Rattle.av_words.specs.declared.command_words.Command.{Command}
use Rattle.av_words.specs.declared.command_words.InputWord.{InputWord}
use Rattle.av_words.specs.declared.command_words.InputWord.TheVariants as input
use Rattle.av_words.specs.declared.command_words.OutputWord.{OutputWord}
use Rattle.av_words.specs.declared.word_roles.Role.{Role}
use Rattle.av_words.specs.declared.word_roles.Role.TheVariants.{Report, Value, File}
use Rattle.av_words.specs.declared.word_roles.Valued.{Valued}
use Rattle.av_words.specs.declared.word_roles.Valued.TheVariants.{Workers, Slices, Order, Input, Generator, Graph}
use Rattle.av_words.specs.Bounds.{most_inputs, most_outputs, greatest_text}
use Rattle.av_words.specs.WordRoles.{Said, said}
use Rattle.av_words.specs.WordValues.{media_of, ending_of, IsCount, SaysOrder}
use Rattle.av_words.specs.WordFaults.{is_input, is_output, IsAt, Has, Lacks, IsLast, map_after, IsBadNumber, HasBadEnding, IsFirstFault}
use Rattle.av_words.specs.WordChecks.{HasLabel}
use Rattle.av_words.specs.CommandWords.{IsFaultless, SaysInput, output_at, outputs_after, IsLabelOf, SaysOutput, IsSet, SaysCommand, IsCommand, IsWordFault}
use Rattle.av_words.proofs.Decisions.{so, decide_lt, decide_count, decide_order, decide_made, decide_label}
use Rattle.av_words.proofs.FaultDecisions.{last_in, first_of_words}
use Rattle.av_words.proofs.WordCheckLemmas.{said_as, first_found}
use Rattle.av_words.proofs.CommandPartLemmas.{takes_value, no_bad_number, no_bad_ending, label_kept, zip_append}
use Rattle.av_words.proofs.WholeLineLemmas.{AreClean, line_first, is_faultless, no_long_text}

-- ---- inputs

-- what words mean by themselves can be said of each
record IsFine (role : Role) (word : List ℕ) : Type 0 where
  number : IsBadNumber role word → ⊥
  ending : HasBadEnding role word → ⊥
  label : (map : Option (List ℕ)) → HasLabel map → HasLabel (map_after role word map)

abbrev AreFine : List Said → Type 0
AreFine line = (n : ℕ) (role : Role) (word : List ℕ) → IsAt line n role word → IsFine role word

are_fine : (line : List Said) → IsFaultless line → AreFine line
are_fine line faultless n role word here = record {
  number = no_bad_number line faultless n role word here;
  ending = no_bad_ending line faultless n role word here;
  label = λ map labelled. label_kept line faultless n role word map here labelled;
}

file_input : (word : List ℕ) (media : Option Media) → media_of word ≡ media → (media_of word ≡ None → ⊥) → (inputs : List InputWord) × AllZip SaysInput (said_as (Value Input) word ∷ []) inputs
file_input word None is ends = absurd (ends is)
file_input word (Some media) is ends = (input.File word media ∷ [], ((refl, is), tt))

input_of : (role : Role) (word : List ℕ) → IsFine role word → (inputs : List InputWord) × AllZip SaysInput (filter is_input (said_as role word ∷ [])) inputs
input_of (Value Input) word fine = file_input word (media_of word) refl fine.ending
input_of (Value Generator) word fine = let made = so (decide_made word) fine.number in (made.0 ∷ [], (made.1, tt))
input_of other word fine = ([], tt)

inputs_of : (line : List Said) → AreFine line → (inputs : List InputWord) × AllZip SaysInput (filter is_input line) inputs
inputs_of [] fine = ([], tt)
inputs_of (x ∷ xs) fine =
    let first = input_of x.role x.word (fine 0 x.role x.word refl) in
    let rest = inputs_of xs (λ n. fine (suc n)) in
    let all = zip_append SaysInput (filter is_input (x ∷ [])) (filter is_input xs) first.0 rest.0 first.1 rest.1 in
    (first.0 ++ rest.0, subst (λ (l : List Said). AllZip SaysInput l (first.0 ++ rest.0)) (sym (filter-append is_input (x ∷ []) xs)) all)

-- ---- outputs

label_of : (map : Option (List ℕ)) → HasLabel map → (label : Option (List ℕ)) × IsLabelOf map label
label_of None labelled = (None, refl)
label_of (Some value) labelled = let label = so (decide_label value) (λ none. labelled (λ l is. none (l, is))) in (Some label.0, label.1)

file_output : (map : Option (List ℕ)) (word : List ℕ) (ending : Option Ending) → HasLabel map → ending_of word ≡ ending → (ending_of word ≡ None → ⊥)
    → (outputs : List OutputWord) × AllZip SaysOutput (output_at map File word) outputs
file_output map word None labelled is ends = absurd (ends is)
file_output map word (Some ending) labelled is ends =
    let label = label_of map labelled in
    ((record { name = word; file = record { label = label.0; ending = ending } }) ∷ [], (record { name = refl; label = label.1; ending = is }, tt))

output_of : (map : Option (List ℕ)) (role : Role) (word : List ℕ) → HasLabel map → IsFine role word → (outputs : List OutputWord) × AllZip SaysOutput (output_at map role word) outputs
output_of map File word labelled fine = file_output map word (ending_of word) labelled refl fine.ending
output_of map other word labelled fine = ([], tt)

outputs_of : (map : Option (List ℕ)) (line : List Said) → HasLabel map → AreFine line → (outputs : List OutputWord) × AllZip SaysOutput (outputs_after map line) outputs
outputs_of map [] labelled fine = ([], tt)
outputs_of map (x ∷ xs) labelled fine =
    let here = fine 0 x.role x.word refl in
    let next = map_after x.role x.word map in
    let first = output_of map x.role x.word labelled here in
    let rest = outputs_of next xs (here.label map labelled) (λ n. fine (suc n)) in
    (first.0 ++ rest.0, zip_append SaysOutput (output_at map x.role x.word) (outputs_after next xs) first.0 rest.0 first.1 rest.1)

-- ---- settings

set_of : {X : Type 0} (line : List Said) (option : Valued) (Says : List ℕ → X → Type 0) (unset : X) → ((n : ℕ) (value : List ℕ) → IsAt line n (Value option) value → (x : X) × Says value x)
    → (x : X) × IsSet line option Says unset x
set_of line option Says unset each = elim (last_in line (Value option)) [
  | inl last ↦ (let x = each last.0 last.1 last.2.here in (x.0, inr (last.0, last.1, last.2, x.1)))
  | inr lacks ↦ (unset, inl (lacks, refl))
]

report_of : (line : List Said) → (report : Bool) × (IsTrue report ↔ ((word : List ℕ) × Has line Report word))
report_of line = elim (last_in line Report) [
  | inl last ↦ (true, (λ _. (last.1, (last.0, last.2.here)), λ _. refl))
  | inr lacks ↦ (false, (λ is. absurd (false≢true is), λ has. absurd (lacks has.0 has.1)))
]

-- ---- commands

there_is_a_command : (line : List Said) → IsFaultless line → (at : ℕ) (text : List ℕ) → IsLast line (Value Graph) at text → (command : Command) × SaysCommand line command
there_is_a_command line faultless at text last =
    let fine = are_fine line faultless in
    let inputs = inputs_of line fine in
    let outputs = outputs_of None line tt fine in
    let workers = set_of line Workers (IsCount 0) 0 (λ n value here. so (decide_count 0 value) (takes_value line faultless n Workers value here)) in
    let slices = set_of line Slices (IsCount 1) 1 (λ n value here. so (decide_count 1 value) (takes_value line faultless n Slices value here)) in
    let order = set_of line Order SaysOrder [] (λ n value here. so (decide_order value) (takes_value line faultless n Order value here)) in
    let report = report_of line in (
      record { inputs = inputs.0; text = text; outputs = outputs.0; workers = workers.0; slices = slices.0; order = order.0; report = report.0 },
      record {
        faultless = faultless;
        inputs = inputs.1;
        text = (at, last);
        outputs = outputs.1;
        workers = workers.1;
        slices = slices.1;
        order = order.1;
        report = report.1;
      },
    )

-- a line without a fault at a word
clean_line : (line : List Said) → AreClean line → ((command : Command) × SaysCommand line command) ⊎ ((fault : Fault) × IsFirstFault line fault)
clean_line line clean = elim (last_in line (Value Graph)) [
  | inr lacks ↦ inr (NoGraph, line_first line NoGraph refl lacks clean (λ less. absurd (omega arith)) (λ less. absurd (omega arith)) (λ less. absurd (omega arith)) (λ less. absurd (omega arith)) (λ less. absurd (omega arith)))
  | inl text ↦ (
      let graph : Lacks line (Value Graph) → ⊥ = λ lacks. lacks text.1 (text.0, text.2.here) in
      elim (last_in line File) [
        | inr lacks ↦ inr (NoOutput, line_first line NoOutput refl lacks clean (λ _. graph) (λ less. absurd (omega arith)) (λ less. absurd (omega arith)) (λ less. absurd (omega arith)) (λ less. absurd (omega arith)))
        | inl file ↦ (
            let output : Lacks line File → ⊥ = λ lacks. lacks file.1 (file.0, file.2.here) in
            elim (decide_lt most_inputs (length (filter is_input line))) [
              | inl past ↦ inr (Limit Inputs 0 most_inputs, line_first line (Limit Inputs 0 most_inputs) refl (refl, refl, past) clean (λ _. graph) (λ _. output) (λ less. absurd (omega arith)) (λ less. absurd (omega arith)) (λ less. absurd (omega arith)))
              | inr few ↦ elim (decide_lt most_outputs (length (filter is_output line))) [
                | inl past ↦ inr (Limit Outputs 0 most_outputs, line_first line (Limit Outputs 0 most_outputs) refl (refl, refl, past) clean (λ _. graph) (λ _. output) (λ _. few) (λ less. absurd (omega arith)) (λ less. absurd (omega arith)))
                | inr fewer ↦ elim (decide_lt greatest_text (length text.1)) [
                  | inl past ↦ inr (
                    Limit Text 0 greatest_text,
                    line_first line (Limit Text 0 greatest_text) refl (refl, refl, (text.0, text.1, text.2, past)) clean (λ _. graph) (λ _. output) (λ _. few) (λ _. fewer) (λ less. absurd (omega arith)),
                  )
                  | inr short ↦ (
                      let faultless = is_faultless line clean graph output few fewer (no_long_text line text.0 text.1 text.2 (omega arith)) in
                      inl (there_is_a_command line faultless text.0 text.1 text.2)
                      )
                ]
              ]
            ]
            )
      ]
      )
]

pub one_of_both : (words : List (List ℕ)) → ((command : Command) × IsCommand words command) ⊎ ((fault : Fault) × IsWordFault words fault)
one_of_both words = elim (first_of_words (said words)) [
  | inl found ↦ inr (found.fault, first_found (said words) found.at found.fault found.clean found.first)
  | inr clean ↦ clean_line (said words) clean
]
