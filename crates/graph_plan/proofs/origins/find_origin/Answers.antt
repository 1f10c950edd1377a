use Rattle.std.proofs.Common.{◌∙◌, sym}
use Rattle.graph_plan.specs.Joining.{graph_of}
use Rattle.graph_plan.proofs.OriginLemmas.{origin_shared, origin_named}
use Rattle.graph_plan.proofs.origins.find_origin.Goals as goal

pub returns-in-Some-copied : goal.returns-in-Some-copied
returns-in-Some-copied c =
    origin_shared (graph_of c.args.parts.now) c.args.outs.now c.requires.outs c.args.taker c.in-Some.name.now c.in-Some.ensures c.in-Some-copied.giver (sym c.get.ensures.value ∙ (sym c.copied.ensures ∙ c.in-Some-copied.is))

pub returns-in-None-copied : goal.returns-in-None-copied
returns-in-None-copied c =
    origin_named (graph_of c.args.parts.now) c.args.outs.now c.requires.outs c.args.taker c.in-Some.name.now c.in-Some.ensures (sym c.get.ensures.value ∙ (sym c.copied.ensures ∙ c.in-None-copied.is)) c.named_file.result c.named_file.ensures
