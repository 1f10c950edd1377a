use Rattle.std.proofs.Common.{◌≡◌, ◌++◌, ◌∷◌, ℕ, List, [], drop, refl, sym, ◌∙◌, ap, codes, lit<, inl, inr, arith, append_assoc}
use Rattle.std.specs.List.{Contains}
use Rattle.std.proofs.lemmas.Str.{IsCharBoundary-start}
use Rattle.av_text.proofs.PieceLemmas.{no_mark, split_mark, after_mark}
use Rattle.graph_text.specs.Graphs.{flags_mark}
use Rattle.av_text.proofs.Places.{skip_same, later_rest, later_place}
use Rattle.graph_text.proofs.graph.find_body.Goals as goal
use Rattle.graph_text.proofs.graph.find_body.Goals.{In-Some}

pub skip_white-start-requires : goal.skip_white-start-requires
skip_white-start-requires c = IsCharBoundary-start c.args.text.now c.utf8.text

pub returns-in_default-clause-body : goal.returns-in_default-clause-body
returns-in_default-clause-body c = inr (λ rest s. c.in_default.ensures.cases rest (c.range_from.ensures.value ∙ skip_same c.skip_white-start.ensures.skips s), refl)

-- the text after white space begins with the mark of flags
flags : (c : goal.In-Some) → drop c.skip_white-start.result c.args.text.now ≡ flags_mark ++ c.in-Some.flags.now
flags c =
    let h = c.in-Some.ensures.cases in
    sym c.range_from.ensures.value ∙ (h.1.1 ∙ ap (λ (xs : List ℕ). flags_mark ++ xs) (sym h.2))

split : (c : goal.In-Some-split_once) → (c.in-Some.flags.now ≡ c.in-Some-split_once.field-0-0.now ++ 59 ∷ c.in-Some-split_once.body.now) × ¬ Contains c.in-Some-split_once.field-0-0.now 59
split c = split_mark 59 c.in-Some.flags.now c.in-Some-split_once.field-0-0.now c.in-Some-split_once.body.now (lit< tt) c.in-Some-split_once.ensures.cases

-- what is before the body
front : (c : goal.In-Some-split_once) → drop c.skip_white-start.result c.args.text.now ≡ (flags_mark ++ (c.in-Some-split_once.field-0-0.now ++ 59 ∷ [])) ++ c.in-Some-split_once.body.now
front c =
    let f = flags (goal.at.returns-in-Some-split_once-clause-body c).In-Some in
    f ∙ ap (λ (xs : List ℕ). flags_mark ++ xs) ((split c).0 ∙ sym (append_assoc c.in-Some-split_once.field-0-0.now (59 ∷ []) c.in-Some-split_once.body.now))

pub returns-in-Some-split_once-clause-body : goal.returns-in-Some-split_once-clause-body
returns-in-Some-split_once-clause-body c =
    let text = c.args.text.now in
    let body = c.in-Some-split_once.body.now in
    let before = c.in-Some-split_once.field-0-0.now in
    let whole : drop c.skip_white-start.result text ≡ flags_mark ++ (before ++ 59 ∷ body) = flags (goal.at.returns-in-Some-split_once-clause-body c).In-Some ∙ ap (λ (xs : List ℕ). flags_mark ++ xs) (split c).0 in
    rw (later_rest text c.skip_white-start.result (flags_mark ++ (before ++ 59 ∷ [])) body (front c)) (inl (before, rw whole at c.skip_white-start.ensures.skips, (split c).1))

pub returns-in-Some-split_once-clause-later : goal.returns-in-Some-split_once-clause-later
returns-in-Some-split_once-clause-later c =
    let text = c.args.text.now in
    let body = c.in-Some-split_once.body.now in
    let before = c.in-Some-split_once.field-0-0.now in
    let utf8 = after_mark 59 c.in-Some.flags.now before body (lit< tt)
    (after_mark 61 (drop c.skip_white-start.result text) (codes "sws_flags") c.in-Some.flags.now (lit< tt) (rw c.range_from.ensures.value at c.range_from.utf8) (flags (goal.at.returns-in-Some-split_once-clause-later c).In-Some)) (split c).0 in
    (omega arith, (later_place text c.skip_white-start.result (flags_mark ++ (before ++ 59 ∷ [])) body c.skip_white-start.ensures.later.1.0 utf8 (front c)).1)

pub returns-in-None-clause-fault : goal.returns-in-None-clause-fault
returns-in-None-clause-fault c =
    let whole = flags (goal.at.returns-in-None-clause-fault c).In-Some in
    rw c.fault.ensures ([], (c.in-Some.flags.now, rw whole at c.skip_white-start.ensures.skips, no_mark 59 c.in-Some.flags.now (lit< tt) c.in-None.ensures.cases, refl, refl), omega arith)
