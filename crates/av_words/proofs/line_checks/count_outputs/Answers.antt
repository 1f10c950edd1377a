use Rattle.std.proofs.Common.{◌∙◌, ◌+◌, ℕ, sym, ap, arith}
use Rattle.av_words.specs.WordFaults.{is_output}
use Rattle.av_words.proofs.WordCheckLemmas.{no_item, counted_more}
use Rattle.av_words.proofs.line_checks.count_outputs.Goals as goal
use Rattle.av_words.proofs.line_checks.count_outputs.Goals.{then-names_output, else-names_output}

pub items-preserved : goal.items-preserved
items-preserved c =
    let more = counted_more is_output c.args.items.now c.items.item-index no_item c.items-test.true in
    let test = c.names_output.ensures in
    let few = c.items.invariant.few in
    elim c.if-names_output.branch [
      | then-names_output w ↦ record { counted = w.count-is ∙ ap (λ (n : ℕ). n + 1) c.items.invariant.counted ∙ sym (more.0 (sym test ∙ w.if-names_output.true)); few = (let is = w.count-is in omega arith) }
      | else-names_output w ↦ record { counted = w.count-is ∙ c.items.invariant.counted ∙ sym (more.1 (sym test ∙ w.if-names_output.false)); few = (let is = w.count-is in omega arith) }
    ]
