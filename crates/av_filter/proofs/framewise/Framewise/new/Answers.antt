use Rattle.av_filter.proofs.FramewiseLemmas.{same_only, placed_new}
use Rattle.av_filter.proofs.framewise.Framewise.new.Goals as goal

pub returns : goal.returns
returns g c = λ s is.
    let making = g.T.FrameRule.making in
    rw (same_only c.only.ensures is)
    (placed_new _ _ _ making.made making.shape c.in_ok-rule.rule (record { rule = c.args.settings; shape = c.only.result }) c.in_ok-rule.ensures c.in_ok-each.ensures)
