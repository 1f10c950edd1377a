use Rattle.graph_plan.specs.Joining.{graph_of}
use Rattle.graph_plan.proofs.TableLemmas.{lowest_twice, never_twice, notes_on_output}
use Rattle.graph_plan.proofs.labels.index_pads.Goals as goal

pub returns-in-Some-clause-fault : goal.returns-in-Some-clause-fault
returns-in-Some-clause-fault c outputs few =
    (few, c.requires.pads, lowest_twice (graph_of c.args.parts.now) c.in_ok-outs.outs c.in_ok-ins.ins c.in_ok-outs.ensures c.in_ok-ins.ensures c.in-Some.filter c.in-Some.ensures)

pub returns-clause-ins : goal.returns-clause-ins
returns-clause-ins c = notes_on_output (graph_of c.args.parts.now) c.in_ok-outs.outs c.in_ok-ins.ins c.in_ok-outs.ensures c.in_ok-ins.ensures

pub returns-clause-fit : goal.returns-clause-fit
returns-clause-fit c =
    let none = c.in_default.ensures in record {
      counted = c.requires;
      labels = never_twice (graph_of c.args.parts.now) c.in_ok-outs.outs c.in_ok-ins.ins c.in_ok-outs.ensures c.in_ok-ins.ensures none.0 none.1;
    }
