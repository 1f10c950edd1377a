use Rattle.std.proofs.Common.{inl, inr}
use Rattle.filt_expr.proofs.ColourLemmas.{no_word}
use Rattle.filt_expr.proofs.colour.read_colour.Goals as goal

pub returns-in_default-clause-none : goal.returns-in_default-clause-none
returns-in_default-clause-none c = λ none colour says. elim says [
  | inl word ↦ no_word c.in_default.not-black c.in_default.not-white word
  | inr form ↦ c.read_form.ensures.none none colour form.1
]
