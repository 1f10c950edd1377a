use Rattle.std.proofs.Common.{◌≡◌, ◌∙◌, length, arith}
use Rattle.av_frame.proofs.PageLemmas.{part_long, part_written}
use Rattle.av_frame.proofs.page.paint_at.Goals as goal

pub returns-clause-painted : goal.returns-clause-painted
returns-clause-painted g c =
    let all = c.args.all.now in
    let whole = part_long c.args.at c.args.count all c.requires.inside in
    let long : length c.row.new.out ≡ c.args.count = c.row.auto.out ∙ whole in
    part_written c.args.at c.args.count all c.row.new.out (g.K.Kernel.value c.args.kernel.now c.args.sources.now c.args.plane c.args.row) long c.requires.inside (λ k h. c.row.ensures.out k (omega arith))
