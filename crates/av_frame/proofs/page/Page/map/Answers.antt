use Rattle.std.proofs.Common.{◌∙◌, ◌+◌, ◌≤◌, ◌<◌, ℕ, List, ap, subst, length, arith}
use Rattle.std.specs.Simd.Lanes.{chunk, put_chunk}
use Rattle.std.proofs.lemmas.List.{with_items_is}
use Rattle.av_frame.specs.Rasters.{row_by}
use Rattle.av_frame.proofs.PageLemmas.{page_put, page_read, length-row_by}
use Rattle.av_frame.proofs.page.Page.map.Goals as goal

pub returns-clause-mapped : goal.returns-clause-mapped
returns-clause-mapped g c =
    let i = c.self.inside in
    let mid = c.reach.new.bytes in
    let value = g.M.RowMap.value c.args.map.now c.args.plane (chunk c.args.at c.args.count c.args.self.now) in
    let long = ap (λ (z : List ℕ). length z) c.deref_mut.ensures.value in
    let reached : c.args.at + c.args.count ≤ length mid.items = let reached = c.reach.ensures.reached in let len = c.deref_mut.ensures.len in omega arith in
    let read = page_read i.count c.args.at c.args.count i.bytes.items mid.items c.deref_mut.result.now c.args.self.now c.self.view_is c.reach.ensures.same c.deref_mut.ensures.value reached in
    page_put i.count c.args.at i.bytes.items mid.items c.deref_mut.result.now c.map_at.new.all _ (row_by c.args.count value) c.args.self.now c.self.view_is c.reach.ensures.same
    c.deref_mut.ensures.value
    (c.map_at.ensures.mapped ∙ ap (λ (z : List ℕ). put_chunk c.args.at c.deref_mut.result.now (row_by c.args.count (g.M.RowMap.value c.args.map.now c.args.plane z))) read)
    (with_items_is mid c.map_at.new.all (c.map_at.auto.all ∙ c.deref_mut.ensures.len))
    (let wide = length-row_by c.args.count value in omega arith)

pub returns-clause-small : goal.returns-clause-small
returns-clause-small g c =
    let i = c.self.inside in
    let mid = c.reach.new.bytes in
    let long = ap (λ (z : List ℕ). length z) c.deref_mut.ensures.value in
    let reached : c.args.at + c.args.count ≤ length mid.items = let reached = c.reach.ensures.reached in let len = c.deref_mut.ensures.len in omega arith in
    let read = page_read i.count c.args.at c.args.count i.bytes.items mid.items c.deref_mut.result.now c.args.self.now c.self.view_is c.reach.ensures.same c.deref_mut.ensures.value reached in
    λ k h. subst (λ (z : List ℕ). g.M.RowMap.value c.args.map.now c.args.plane z k < 256) read (c.map_at.ensures.small k h)
