use Rattle.std.proofs.Common.{refl, subst, sym, arith}
use Rattle.av_faults.specs.declared.fault.Fault.TheVariants.{NoOutput, Limit}
use Rattle.av_faults.specs.declared.fault.LimitKind.TheVariants.{Text, Inputs, Outputs}
use Rattle.av_words.specs.declared.word_roles.Role.TheVariants.{File}
use Rattle.av_words.specs.WordRoles.{line_of}
use Rattle.av_words.specs.WordFaults.{IsFirstFault}
use Rattle.av_words.specs.Bounds.{most_inputs, most_outputs, greatest_text}
use Rattle.av_words.proofs.WholeLineLemmas.{line_first, is_faultless, no_long_text, none_last, some_last}
use Rattle.av_words.proofs.line_checks.text_of.Goals as goal

pub returns-then-is_none-clause-fault : goal.returns-then-is_none-clause-fault
returns-then-is_none-clause-fault c =
    let line = line_of c.args.items.now in
    let text = c.in-Some.ensures in
    let file = none_last line File c.last_of.result c.is_none.result c.is_none.ensures c.if-is_none.true c.last_of.ensures in
    line_first line NoOutput refl file c.requires (λ _ lacks. lacks _ (text.0, text.1.here)) (λ less. absurd (omega arith)) (λ less. absurd (omega arith)) (λ less. absurd (omega arith)) (λ less. absurd (omega arith))

pub returns-then-count_inputs-gt-INPUTS_MAX-clause-fault : goal.returns-then-count_inputs-gt-INPUTS_MAX-clause-fault
returns-then-count_inputs-gt-INPUTS_MAX-clause-fault c =
    let line = line_of c.args.items.now in
    let text = c.in-Some.ensures in
    let file = some_last line File c.last_of.result c.is_none.result c.is_none.ensures c.if-is_none.false c.last_of.ensures in
    let inputs = c.count_inputs.ensures in
    let past = c.if-count_inputs-gt-INPUTS_MAX.true in
    subst (IsFirstFault line) (sym c.limit.ensures) (line_first line (Limit Inputs 0 most_inputs) refl (refl, refl, omega arith) c.requires (λ _ lacks. lacks _ (text.0, text.1.here)) (λ _. file) (λ less. absurd (omega arith)) (λ less. absurd (omega arith)) (λ less. absurd (omega arith)))

pub returns-then-count_outputs-gt-OUTPUTS_MAX-clause-fault : goal.returns-then-count_outputs-gt-OUTPUTS_MAX-clause-fault
returns-then-count_outputs-gt-OUTPUTS_MAX-clause-fault c =
    let line = line_of c.args.items.now in
    let text = c.in-Some.ensures in
    let file = some_last line File c.last_of.result c.is_none.result c.is_none.ensures c.if-is_none.false c.last_of.ensures in
    let outputs = c.count_outputs.ensures in
    let past = c.if-count_outputs-gt-OUTPUTS_MAX.true in
    subst (IsFirstFault line) (sym c.limit-then-count_outputs-gt-OUTPUTS_MAX.ensures) (line_first line (Limit Outputs 0 most_outputs) refl (refl, refl, omega arith) c.requires (λ _ lacks. lacks _ (text.0, text.1.here)) (λ _. file) (λ _ more. (let within = c.if-count_inputs-gt-INPUTS_MAX.false in let count = c.count_inputs.ensures in omega arith)) (λ less. absurd (omega arith)) (λ less. absurd (omega arith)))

pub returns-then-text-gt-TEXT_MAX-clause-fault : goal.returns-then-text-gt-TEXT_MAX-clause-fault
returns-then-text-gt-TEXT_MAX-clause-fault c =
    let line = line_of c.args.items.now in
    let text = c.in-Some.ensures in
    let file = some_last line File c.last_of.result c.is_none.result c.is_none.ensures c.if-is_none.false c.last_of.ensures in
    subst (IsFirstFault line) (sym c.limit-then-text-gt-TEXT_MAX.ensures) (line_first line (Limit Text 0 greatest_text) refl (refl, refl, (text.0, c.in-Some.text.now, text.1, c.if-text-gt-TEXT_MAX.true)) c.requires (λ _ lacks. lacks _ (text.0, text.1.here)) (λ _. file) (λ _ more. (let within = c.if-count_inputs-gt-INPUTS_MAX.false in let count = c.count_inputs.ensures in omega arith)) (λ _ more. (let within = c.if-count_outputs-gt-OUTPUTS_MAX.false in let count = c.count_outputs.ensures in omega arith)) (λ less. absurd (omega arith)))

pub returns-clause-none : goal.returns-clause-none
returns-clause-none c =
    let line = line_of c.args.items.now in
    let text = c.in-Some.ensures in
    let file = some_last line File c.last_of.result c.is_none.result c.is_none.ensures c.if-is_none.false c.last_of.ensures in
    is_faultless line c.requires (λ lacks. lacks _ (text.0, text.1.here)) file (λ more. (let within = c.if-count_inputs-gt-INPUTS_MAX.false in let count = c.count_inputs.ensures in omega arith)) (λ more. (let within = c.if-count_outputs-gt-OUTPUTS_MAX.false in let count = c.count_outputs.ensures in omega arith)) (no_long_text line text.0 c.in-Some.text.now text.1 c.if-text-gt-TEXT_MAX.false)
