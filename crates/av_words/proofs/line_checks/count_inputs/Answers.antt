use Rattle.std.proofs.Common.{◌∙◌, ◌+◌, ℕ, sym, ap, arith}
use Rattle.av_words.specs.WordFaults.{is_input}
use Rattle.av_words.proofs.WordCheckLemmas.{no_item, counted_more}
use Rattle.av_words.proofs.line_checks.count_inputs.Goals as goal
use Rattle.av_words.proofs.line_checks.count_inputs.Goals.{then-names_input, else-names_input}

pub items-preserved : goal.items-preserved
items-preserved c =
    let more = counted_more is_input c.args.items.now c.items.item-index no_item c.items-test.true in
    let test = c.names_input.ensures in
    let few = c.items.invariant.few in
    elim c.if-names_input.branch [
      | then-names_input w ↦ record { counted = w.count-is ∙ ap (λ (n : ℕ). n + 1) c.items.invariant.counted ∙ sym (more.0 (sym test ∙ w.if-names_input.true)); few = (let is = w.count-is in omega arith) }
      | else-names_input w ↦ record { counted = w.count-is ∙ c.items.invariant.counted ∙ sym (more.1 (sym test ∙ w.if-names_input.false)); few = (let is = w.count-is in omega arith) }
    ]
