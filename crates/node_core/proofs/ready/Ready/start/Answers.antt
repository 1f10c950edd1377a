use Rattle.std.proofs.Common.{◌≡◌, ap, sym, ◌∙◌}
use Rattle.node_core.specs.Filters.{frame_filters}
use Rattle.node_core.proofs.ReadyLemmas.{same_head}
use Rattle.node_core.proofs.ready.Ready.start.Goals as goal

pub returns : goal.returns
returns c = λ s out ins outs.
    let is = c.self.invariant in
    let from = ap (λ r. r.ins) c.self.view_is ∙ ins in
    let first : is.shape ≡ s = same_head is.ins from in
    let end : out ≡ frame_filters.making.shape c.self.inside.settings is.shape = same_head outs (ap (λ r. r.outs) (sym c.self.view_is) ∙ is.outs) in
    rw (← c.self.view_is, end, first) (c.in_ok-framewise.ensures s from)
