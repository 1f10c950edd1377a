use Rattle.std.proofs.lemmas.Result.{IfOk-weaker}
use Rattle.graph_formats.specs.Demands.{IsTied}
use Rattle.graph_formats.proofs.ties.Ties.add.Goals as goal

pub returns : goal.returns
returns c =
    let first = rw c.links-first.ensures.first at c.in_ok-tie.ensures in
    let second = rw c.links-first.ensures.second at c.tie-2.ensures in
    IfOk-weaker c.tie-2.result (λ _. IsTied c.tie.new.self c.tie-2.new.self _ c.args.relation) _ (λ _ put. (c.tie.new.self, first, put)) second
