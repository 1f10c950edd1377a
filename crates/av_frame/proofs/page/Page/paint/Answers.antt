use Rattle.std.proofs.Common.{◌∙◌, ℕ, List, ap, length, arith}
use Rattle.std.proofs.lemmas.List.{with_items_is}
use Rattle.av_frame.specs.Rasters.{row_by}
use Rattle.av_frame.proofs.PageLemmas.{page_put, length-row_by}
use Rattle.av_frame.proofs.page.Page.paint.Goals as goal

pub returns-clause-painted : goal.returns-clause-painted
returns-clause-painted g c =
    let i = c.self.inside in
    let mid = c.reach.new.bytes in
    let value = g.K.Kernel.value c.args.kernel.now c.args.sources.now c.args.plane c.args.row in
    let long = ap (λ (z : List ℕ). length z) c.deref_mut.ensures.value in
    page_put i.count c.args.at i.bytes.items mid.items c.deref_mut.result.now c.paint_at.new.all _ (row_by c.args.count value) c.args.self.now c.self.view_is c.reach.ensures.same
    c.deref_mut.ensures.value c.paint_at.ensures.painted (with_items_is mid c.paint_at.new.all (c.paint_at.auto.all ∙ c.deref_mut.ensures.len))
    (let reached = c.reach.ensures.reached in let wide = length-row_by c.args.count value in let len = c.deref_mut.ensures.len in omega arith)
