use Rattle.std.proofs.Common.{◌≡◌, ◌==◌, [], length, drop, refl, arith, rules, tests}
use Rattle.std.specs.List.{slice_split}
use Rattle.std.proofs.lemmas.Iterator.Splits.{YieldsList-from_slice_split}
use Rattle.std.proofs.lemmas.Iterator.Consumers.{YieldsList-turn, YieldsList-end}
use Rattle.std.proofs.lemmas.List.{drop_all, length_push}
use Rattle.y4m_header.specs.Params.{is_space}
use Rattle.y4m_header.proofs.FrontWalk.{walk_start, walk_turn, walk_next, walk_stops, walk_ends}
use Rattle.y4m_header.proofs.front.params_go_on.Goals as goal

pub loop-piece-init : goal.loop-piece-init
loop-piece-init c = rw c.unsaid-latest.ensures (walk_start c.args.text.now)

pub returns-in_default : goal.returns-in_default
returns-in_default c =
    let text = c.args.text.now in
    let n = length c.loop-piece.yielded in
    let t = YieldsList-turn (YieldsList-from_slice_split _ is_space text (cc) (cc) (cc) (λ x b q k. search (rules, tests))) c.loop-piece.yielded _ c.loop-piece.yielded_by _ _ c.in-Some.piece c.in-Some.is c.next.ensures.steps in
    walk_stops text (walk_turn (slice_split is_space text) n c.in-Some.piece.now c.loop-piece.invariant t) (c.in_default.ensures.none refl)

pub loop-piece-preserved : goal.loop-piece-preserved
loop-piece-preserved c =
    let text = c.args.text.now in
    let pieces = slice_split is_space text in
    let n = length c.loop-piece.yielded in
    let t = YieldsList-turn (YieldsList-from_slice_split _ is_space text (cc) (cc) (cc) (λ x b q k. search (rules, tests))) c.loop-piece.yielded _ c.loop-piece.yielded_by _ _ c.in-Some.piece c.in-Some.is c.next.ensures.steps in
    let turn = walk_turn pieces n c.in-Some.piece.now c.loop-piece.invariant t in
    rw (length_push c.loop-piece.yielded c.in-Some.piece) (walk_next c.in-Some-put.next (length c.loop-piece.last.now == 0) turn c.in-Some-put.ensures.some)

pub returns : goal.returns
returns c =
    let text = c.args.text.now in
    let pieces = slice_split is_space text in
    let t = YieldsList-end (YieldsList-from_slice_split _ is_space text (cc) (cc) (cc) (λ x b q k. search (rules, tests))) c.loop-piece.yielded _ c.loop-piece.yielded_by _ _ c.in-None.is c.next.ensures.steps in
    let none : drop (length c.loop-piece.yielded) pieces ≡ [] = drop_all (length c.loop-piece.yielded) pieces (omega (arith, t.1)) in
    walk_ends text c.piece_goes_on.result (rw none at c.loop-piece.invariant) c.piece_goes_on.ensures
