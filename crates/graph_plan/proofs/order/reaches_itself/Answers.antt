use Rattle.std.proofs.Common.{◌<◌, ◌∙◌, length, refl, sym, arith}
use Rattle.std.proofs.lemmas.Option.{slice_get_read}
use Rattle.graph_plan.proofs.ReachLemmas.{top_within, walking_more, walked_all, no_items}
use Rattle.graph_plan.proofs.order.reaches_itself.Goals as goal

pub bounds-takers-giver : goal.bounds-takers-giver
bounds-takers-giver c =
    let same = c.walk.auto.marks in
    let all = c.requires.rows.each in
    let first : c.args.filter < length c.walk.marks = (let low = c.requires.low in omega arith) in
    let within = top_within c.args.takers.now c.args.filter c.in-Some.giver c.walk.marks c.walk.stack.items c.pop.new.self.items c.walk.invariant.walking c.in-Some.ensures.items first in
    omega arith

pub mark_all-requires : goal.mark_all-requires
mark_all-requires c filter here =
    let takers = c.args.takers.now in
    let row = c.index-takers-giver.result in
    let same = c.walk.auto.marks in
    let all = c.requires.rows.each in
    let first : c.args.filter < length c.walk.marks = (let low = c.requires.low in omega arith) in
    let top = top_within takers c.args.filter c.in-Some.giver c.walk.marks c.walk.stack.items c.pop.new.self.items c.walk.invariant.walking c.in-Some.ensures.items first in
    let at = slice_get_read takers (length takers) c.in-Some.giver row refl (omega arith) c.index-takers-giver.is in
    let below = c.requires.rows.below c.in-Some.giver filter (row, at, rw c.as_slice.ensures.value at here) in
    omega arith

pub returns-then-marks-filter : goal.returns-then-marks-filter
returns-then-marks-filter c =
    let takers = c.args.takers.now in
    let row = c.index-takers-giver.result in
    let same = c.walk.auto.marks in
    let all = c.requires.rows.each in
    let first : c.args.filter < length c.walk.marks = (let low = c.requires.low in omega arith) in
    let top = top_within takers c.args.filter c.in-Some.giver c.walk.marks c.walk.stack.items c.pop.new.self.items c.walk.invariant.walking c.in-Some.ensures.items first in
    let at = slice_get_read takers (length takers) c.in-Some.giver row refl (omega arith) c.index-takers-giver.is in
    let walking = walking_more takers c.args.filter c.in-Some.giver row c.walk.marks c.mark_all.new.marks c.walk.stack.items c.pop.new.self.items c.mark_all.new.stack.items
    c.walk.invariant.walking c.in-Some.ensures.items at (rw c.as_slice.ensures.value at c.in_ok-mark_all.ensures.marked) in
    (λ is. walking.reached c.args.filter c.if-marks-filter.true, λ reached. refl)

pub walk-preserved : goal.walk-preserved
walk-preserved c =
    let takers = c.args.takers.now in
    let row = c.index-takers-giver.result in
    let same = c.walk.auto.marks in
    let all = c.requires.rows.each in
    let first : c.args.filter < length c.walk.marks = (let low = c.requires.low in omega arith) in
    let top = top_within takers c.args.filter c.in-Some.giver c.walk.marks c.walk.stack.items c.pop.new.self.items c.walk.invariant.walking c.in-Some.ensures.items first in
    let at = slice_get_read takers (length takers) c.in-Some.giver row refl (omega arith) c.index-takers-giver.is in record {
      walking = walking_more takers c.args.filter c.in-Some.giver row c.walk.marks c.mark_all.new.marks c.walk.stack.items c.pop.new.self.items c.mark_all.new.stack.items
          c.walk.invariant.walking c.in-Some.ensures.items at (rw c.as_slice.ensures.value at c.in_ok-mark_all.ensures.marked);
      bare = c.if-marks-filter.false;
    }

pub returns : goal.returns
returns c = (
  λ is. absurd (cc),
  λ reached. absurd (walked_all c.args.takers.now c.args.filter c.walk.marks c.walk.stack.items c.walk.invariant.walking (no_items c.walk.stack.items (sym c.walk.stack.ok.0 ∙ c.in_default.ensures.cases.0)) c.walk.invariant.bare reached),
)
