use Rattle.std.proofs.Common.{arith, take, get_or}
use Rattle.std.proofs.lemmas.List.{take_more, take_all}
use Rattle.std.proofs.lemmas.List.Elements.{Contains-get_or}
use Rattle.graph_formats.proofs.WalkLemmas.{unmarked_none, unmarked_more}
use Rattle.graph_formats.proofs.draft.unmark.Goals as goal

pub links-init : goal.links-init
links-init c = unmarked_none c.args.marks.now

pub bounds-marks-link : goal.bounds-marks-link
bounds-marks-link c = let low = c.requires (get_or c.args.links.now c.links.link-index 0) (Contains-get_or c.args.links.now c.links.link-index 0 (omega arith)) in rw c.links.auto.marks low

pub links-preserved : goal.links-preserved
links-preserved c = rw (take_more c.args.links.now c.links.link-index 0 (omega arith)) (unmarked_more (take c.links.link-index c.args.links.now) _ c.args.marks.now c.links.marks c.links.invariant)

pub returns : goal.returns
returns c = rw (take_all c.links.link-index c.args.links.now (omega arith)) at c.links.invariant
