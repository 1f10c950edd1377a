use Rattle.std.proofs.Common.{◌∙◌, [], refl, sym, inr}
use Rattle.std.proofs.lemmas.Result.{IfOk-weaker}
use Rattle.graph_plan.proofs.opens.push_left.Goals as goal

pub returns : goal.returns
returns c = IfOk-weaker c.push_open.result _ _
    (λ all pushed. (_, pushed, inr ((λ taker joined. absurd (let is = c.is_taken.ensures.1 (taker, joined) in let isnt = c.if-is_taken.false in cc)), (c.in-Some.media, [], sym c.kind_of.ensures ∙ c.in-Some.is, refl, tt))))
    c.push_open.ensures
