use Rattle.std.proofs.Common.{lit<, ℕ, List, [], ◌∷◌, ◌++◌, refl, sym, ◌∙◌, ap, append_assoc}
use Rattle.av_text.proofs.PieceLemmas.{no_mark, split_mark, after_mark}
use Rattle.av_text.proofs.token.quoted.Goals as goal

pub returns-in-Some-clause-piece : goal.returns-in-Some-clause-piece
returns-in-Some-clause-piece c = λ specials. let h = split_mark 39 c.args.text.now c.in-Some.inner.now c.in-Some.behind.now (lit< tt) c.in-Some.ensures.cases in (39 ∷ (c.in-Some.inner.now ++ 39 ∷ []), (refl, h.1), ap (λ (xs : List ℕ). 39 ∷ xs) (h.0 ∙ sym (append_assoc c.in-Some.inner.now (39 ∷ []) c.in-Some.behind.now)))

pub returns-in-None-clause-broken : goal.returns-in-None-clause-broken
returns-in-None-clause-broken c = (c.args.text.now, refl, no_mark 39 c.args.text.now (lit< tt) c.in-None.ensures.cases)

pub returns-in-Some-clause-utf8 : goal.returns-in-Some-clause-utf8
returns-in-Some-clause-utf8 c =
    let h = split_mark 39 c.args.text.now c.in-Some.inner.now c.in-Some.behind.now (lit< tt) c.in-Some.ensures.cases in
    after_mark 39 c.args.text.now c.in-Some.inner.now c.in-Some.behind.now (lit< tt) c.utf8.text h.0
