-- What crates above need of commands and of faults of words.
use Rattle.std.proofs.Common.{◌≡◌, ◌<◌, ◌≤◌, ◌⊎◌, ◌++◌, ℕ, List, [], ◌∷◌, Option, None, filter, length, suc, refl, sym, ◌∙◌, ap, arith, inl, inr}
use Rattle.std.specs.List.{AllZip}
use Rattle.std.proofs.lemmas.Bool.{cases_order}
use Rattle.av_words.specs.declared.command_words.Command.{Command}
use Rattle.av_words.specs.declared.word_roles.Role.{Role}
use Rattle.av_words.specs.declared.word_roles.Role.TheVariants.{Quiet, Report, Names, Value, File, Unknown}
use Rattle.av_faults.specs.declared.fault.Fault.{Fault}
use Rattle.av_faults.specs.declared.fault.Fault.TheVariants.{UnknownWord, MissingValue, BadNumber, BadEnding, SameName, NoGraph, NoOutput, Limit}
use Rattle.av_faults.specs.declared.fault.LimitKind.TheVariants.{Text, Inputs, Outputs}
use Rattle.av_faults.specs.declared.fault.Stop.TheVariants as stop
use Rattle.av_faults.specs.Faults.{stop_status}
use Rattle.av_words.specs.Bounds.{most_inputs, most_outputs, greatest_text}
use Rattle.av_words.specs.WordRoles.{Said, said}
use Rattle.av_words.specs.WordFaults.{is_input, is_output, map_after, HasFault}
use Rattle.av_words.specs.CommandWords.{SaysInput, SaysOutput, output_at, outputs_after, IsCommand, IsWordFault}

-- ---- commands keep to the limits

zip_length : {X Y : Type 0} (R : X → Y → Type 0) (xs : List X) (ys : List Y) → AllZip R xs ys → length xs ≡ length ys
zip_length R [] [] zip = refl
zip_length R [] (y ∷ ys) zip = absurd zip
zip_length R (x ∷ xs) [] zip = absurd zip
zip_length R (x ∷ xs) (y ∷ ys) zip = ap suc (zip_length R xs ys zip.1)

-- one output more, if the word is one
output_long : (waiting : Option (List ℕ)) (role : Role) (word : List ℕ) (line : List Said) → ((map : Option (List ℕ)) → length (outputs_after map line) ≡ length (filter is_output line))
    → length (output_at waiting role word ++ outputs_after (map_after role word waiting) line) ≡ length (filter is_output ((record { role = role; word = word }) ∷ line))
output_long waiting Quiet word line more = more (map_after Quiet word waiting)
output_long waiting Report word line more = more (map_after Report word waiting)
output_long waiting (Names option) word line more = more (map_after (Names option) word waiting)
output_long waiting (Value option) word line more = more (map_after (Value option) word waiting)
output_long waiting File word line more = ap suc (more (map_after File word waiting))
output_long waiting Unknown word line more = more (map_after Unknown word waiting)

outputs_long : (waiting : Option (List ℕ)) (line : List Said) → length (outputs_after waiting line) ≡ length (filter is_output line)
outputs_long waiting [] = refl
outputs_long waiting (item ∷ line) = output_long waiting item.role item.word line (λ map. outputs_long map line)

not_more : (n m : ℕ) → ¬ (m < n) → n ≤ m
not_more n m none = elim (cases_order n m) [
  | inl e ↦ omega arith
  | inr apart ↦ elim apart [ inl less ↦ omega arith | inr more ↦ absurd (none more) ]
]

pub few_inputs : (words : List (List ℕ)) (command : Command) → IsCommand words command → length command.inputs ≤ most_inputs
few_inputs words command is =
    let long = zip_length SaysInput (filter is_input (said words)) command.inputs is.inputs in
    not_more (length command.inputs) most_inputs (λ more. is.faultless (Limit Inputs 0 most_inputs) (refl, refl, omega arith))

pub few_outputs : (words : List (List ℕ)) (command : Command) → IsCommand words command → length command.outputs ≤ most_outputs
few_outputs words command is =
    let long = zip_length SaysOutput (outputs_after None (said words)) command.outputs is.outputs in
    let same = outputs_long None (said words) in
    not_more (length command.outputs) most_outputs (λ more. is.faultless (Limit Outputs 0 most_outputs) (refl, refl, omega arith))

pub short_text : (words : List (List ℕ)) (command : Command) → IsCommand words command → length command.text ≤ greatest_text
short_text words command is = not_more (length command.text) greatest_text (λ more. is.faultless (Limit Text 0 greatest_text) (refl, refl, (is.text.0, command.text, is.text.1, more)))

-- ---- the statuses of faults of words

status_of : (line : List Said) (fault : Fault) → HasFault line fault → (stop_status (stop.Fault fault) ≡ 2) ⊎ (stop_status (stop.Fault fault) ≡ 10)
status_of line (UnknownWord n) h = inl refl
status_of line (MissingValue n) h = inl refl
status_of line (BadNumber n) h = inl refl
status_of line (BadEnding n) h = inl refl
status_of line (SameName n) h = inl refl
status_of line NoGraph h = inl refl
status_of line NoOutput h = inl refl
status_of line (Limit kind which allowed) h = inr refl
status_of line other h = absurd h

pub word_status : (words : List (List ℕ)) (fault : Fault) → IsWordFault words fault → (stop_status (stop.Fault fault) ≡ 2) ⊎ (stop_status (stop.Fault fault) ≡ 10)
word_status words fault is = status_of (said words) fault is.has
