use Rattle.std.proofs.Common.{List, ℕ, ap, length, arith}
use Rattle.av_frame.proofs.PageLemmas.{length-filled}
use Rattle.av_frame.proofs.page.Page.read.Goals as goal

pub overflow_add-end : goal.overflow_add-end
overflow_add-end c =
    let i = c.self.inside in
    let written = c.self.invariant.0 in
    let items = i.bytes.ok.0 in
    let long = length-filled i.count i.bytes.items (omega arith) in
    let whole = ap (λ (z : List ℕ). length z) c.self.view_is in
    omega (arith, c.requires)
