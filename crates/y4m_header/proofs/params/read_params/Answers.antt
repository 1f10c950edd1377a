use Rattle.std.proofs.Common.{◌==◌, ◌+◌, length, drop, refl, sym, ◌∙◌, arith, rules, tests}
use Rattle.std.specs.List.{slice_split}
use Rattle.std.proofs.lemmas.Iterator.Splits.{YieldsList-from_slice_split}
use Rattle.std.proofs.lemmas.Iterator.Consumers.{YieldsList-turn, YieldsList-end}
use Rattle.std.proofs.lemmas.List.{at_drop_all, length_push}
use Rattle.y4m_header.specs.Params.{is_space}
use Rattle.y4m_header.specs.Walk.{outcome, with_gap}
use Rattle.y4m_header.proofs.WalkLemmas.{outcome_turn, outcome_more}
use Rattle.y4m_header.proofs.params.read_params.Goals as goal

pub returns-in_err-latest : goal.returns-in_err-latest
returns-in_err-latest c =
    let text = c.args.text.now in
    let pieces = slice_split is_space text in
    let n = length c.loop-piece.yielded in
    let t = YieldsList-turn (YieldsList-from_slice_split _ is_space text (cc) (cc) (cc) (λ x b q k. search (rules, tests))) c.loop-piece.yielded _ c.loop-piece.yielded_by _ _ c.in-Some.piece c.in-Some.is c.next.ensures.steps in
    c.from_residual.ensures
    ∙ (sym (c.in_err-latest.ensures.none refl (drop (n + 1) pieces)) ∙ outcome_turn c.loop-piece.latest c.loop-piece.gap pieces n c.in-Some.piece.now c.loop-piece.invariant t)

pub loop-piece-preserved : goal.loop-piece-preserved
loop-piece-preserved c =
    let text = c.args.text.now in
    let pieces = slice_split is_space text in
    let n = length c.loop-piece.yielded in
    let t = YieldsList-turn (YieldsList-from_slice_split _ is_space text (cc) (cc) (cc) (λ x b q k. search (rules, tests))) c.loop-piece.yielded _ c.loop-piece.yielded_by _ _ c.in-Some.piece c.in-Some.is c.next.ensures.steps in
    let e = outcome_turn c.loop-piece.latest c.loop-piece.gap pieces n c.in-Some.piece.now c.loop-piece.invariant t in
    outcome_more c.loop-piece.latest c.in_ok-latest.latest (length c.in-Some.piece.now == 0) c.is_empty-gap.result pieces n _ c.in-Some.piece.now e c.in_ok-latest.ensures.some
    c.is_empty-gap.ensures (length_push c.loop-piece.yielded c.in-Some.piece)

pub returns-then-gap : goal.returns-then-gap
returns-then-gap c =
    let text = c.args.text.now in
    let t = YieldsList-end (YieldsList-from_slice_split _ is_space text (cc) (cc) (cc) (λ x b q k. search (rules, tests))) c.loop-piece.yielded _ c.loop-piece.yielded_by _ _ c.in-None.is c.next.ensures.steps in
    let all = at_drop_all (λ rest. outcome c.loop-piece.latest (with_gap c.loop-piece.gap rest)) (slice_split is_space text) (length c.loop-piece.yielded) (omega (arith, t.1)) in
    rw c.if-gap.true at (sym all ∙ c.loop-piece.invariant)

pub returns : goal.returns
returns c =
    let text = c.args.text.now in
    let t = YieldsList-end (YieldsList-from_slice_split _ is_space text (cc) (cc) (cc) (λ x b q k. search (rules, tests))) c.loop-piece.yielded _ c.loop-piece.yielded_by _ _ c.in-None.is c.next.ensures.steps in
    let all = at_drop_all (λ rest. outcome c.loop-piece.latest (with_gap c.loop-piece.gap rest)) (slice_split is_space text) (length c.loop-piece.yielded) (omega (arith, t.1)) in
    rw c.if-gap.false at (sym all ∙ c.loop-piece.invariant)
