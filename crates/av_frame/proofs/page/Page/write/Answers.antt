use Rattle.std.proofs.Common.{◌≡◌, ◌∙◌, ◌≤◌, ◌+◌, List, ℕ, ap, length, arith}
use Rattle.std.proofs.lemmas.List.{with_items_is}
use Rattle.av_frame.proofs.PageLemmas.{length-filled, page_append, page_put}
use Rattle.av_frame.proofs.page.Page.write.Goals as goal

pub returns-then-len-at : goal.returns-then-len-at
returns-then-len-at c =
    let i = c.self.inside in
    let mid = c.reach.new.bytes in
    let written = c.self.invariant.0 in
    let items = i.bytes.ok.0 in
    let long = length-filled i.count i.bytes.items (omega arith) in
    let whole = ap (λ (z : List ℕ). length z) c.self.view_is in
    let inside : c.args.at + length c.args.bytes.now ≤ i.count = omega (arith, c.requires) in
    let here : length mid.items ≡ c.args.at = let ok = mid.ok.0 in omega arith in
    page_append i.count c.args.at i.bytes.items mid.items c.append.new.bytes.items c.args.bytes.now c.args.self.now c.self.view_is c.reach.ensures.same here inside c.append.ensures.items

pub returns : goal.returns
returns c =
    let i = c.self.inside in
    let mid = c.reach-2.new.bytes in
    let len = c.deref_mut.ensures.len in
    let long = ap (λ (z : List ℕ). length z) c.deref_mut.ensures.value in
    let reached = c.reach-2.ensures.reached in
    page_put i.count c.args.at i.bytes.items mid.items c.deref_mut.result.now c.write_at.new.all _ c.args.bytes.now c.args.self.now c.self.view_is (c.reach-2.ensures.same ∙ c.reach.ensures.same)
    c.deref_mut.ensures.value c.write_at.ensures (with_items_is mid c.write_at.new.all (c.write_at.auto.all ∙ len)) (omega arith)
