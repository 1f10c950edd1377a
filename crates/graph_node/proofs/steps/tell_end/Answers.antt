use Rattle.graph_node.specs.Ports.{offered}
use Rattle.graph_node.proofs.StepLemmas.{one_finished}
use Rattle.graph_node.proofs.steps.tell_end.Goals as goal

pub returns-clause-told : goal.returns-clause-told
returns-clause-told g c =
    let f = g.F.Filter in
    let old = c.args.filter.now in
    let new = c.finish.new.self in
    record {
      pads_are = c.finish.ensures.pads;
      closes_stay = c.finish.ensures.closes;
      others = c.finish.ensures.others;
      stands = λ whole h k.
          one_finished (f.pads old) whole (f.rest old) (f.rest new) (f.closes old) (f.closes new) (f.over old) (f.over new) h c.args.input (offered c.args.inlet.now) c.if-inlet.false c.finish.ensures.rest c.finish.ensures.closes c.finish.ensures.closed c.finish.ensures.over k;
    }
