use Rattle.plan_formats.proofs.PathLemmas.{plans_ask}
use Rattle.plan_formats.proofs.choice.choose_formats.Goals as goal

pub choose-requires : goal.choose-requires
choose-requires c = rw (c.in_ok-asked.ensures.wishes, c.in_ok-asked.ensures.relations) (plans_ask.below c.args.links.now c.args.kinds.now c.args.inputs.now c.args.outputs.now)
