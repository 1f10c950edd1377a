use Rattle.std.proofs.Common.{refl}
use Rattle.filt_expr.proofs.ColourLemmas.{no_split, no_second}
use Rattle.filt_expr.proofs.colour.read_form.Goals as goal

pub returns-in_default-split-clause-none : goal.returns-in_default-split-clause-none
returns-in_default-split-clause-none c = λ none colour form. no_split c.in-Some.ensures.some form.word (c.in_default-split.ensures.none refl) form.y form.behind form.first

pub returns-in_default-split-2-clause-none : goal.returns-in_default-split-2-clause-none
returns-in_default-split-2-clause-none c = λ none colour form.
    no_second c.in-Some.ensures.some form.word c.in-Some-split.ensures.some form.first (c.in_default-split-2.ensures.none refl) form.u form.v form.second
