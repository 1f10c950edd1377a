use Rattle.std.proofs.Common.{refl, sym, ◌∙◌}
use Rattle.y4m_header.specs.Parts.{small_in}
use Rattle.y4m_header.proofs.ValueLemmas.{small_numbers_around, small_numbers_none, pair_off}
use Rattle.y4m_header.proofs.values.numbers.Goals as goal

pub returns-in_err-num : goal.returns-in_err-num
returns-in_err-num c = c.from_residual.ensures ∙ sym (small_numbers_none c.args.value.now c.in_err-num.ensures)

pub returns-in_err-num-2 : goal.returns-in_err-num-2
returns-in_err-num-2 c = c.from_residual-in_err-num-2.ensures ∙ rw (small_numbers_around c.in_ok-num.ensures, ← c.in_err-num-2.ensures) refl

pub returns-in_err-den : goal.returns-in_err-den
returns-in_err-den c =
    c.from_residual-in_err-den.ensures ∙ rw (small_numbers_around c.in_ok-num.ensures, ← c.in_err-den.ensures) (sym (pair_off (small_in c.in_ok-num.num.now)))

pub returns : goal.returns
returns c = rw (small_numbers_around c.in_ok-num.ensures, ← c.in_ok-num-2.ensures, ← c.in_ok-den.ensures) refl
