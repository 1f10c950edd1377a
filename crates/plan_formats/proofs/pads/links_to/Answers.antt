use Rattle.plan_formats.specs.Wished.{is_target, links_where}
use Rattle.plan_formats.proofs.PadLemmas.{pad_more}
use Rattle.plan_formats.proofs.pads.links_to.Goals as goal

pub pads-preserved : goal.pads-preserved
pads-preserved c =
    let links = c.args.links.now in
    pad_more (λ pad. links_where (λ link. is_target c.args.filter pad link.to) links) (λ link. is_target c.args.filter c.pads.pad link.to) links c.pads.numbers.items c.links.numbers.items _ c.pads.pad c.args.pads c.links.number c.pads-test.true
    c.links-test.false c.pads.invariant c.links.invariant
