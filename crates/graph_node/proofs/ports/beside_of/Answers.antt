use Rattle.link_ports.proofs.MoveLemmas.{looks_at, same_at, core_looked_in, core_or_rise, flies_or_rises}
use Rattle.graph_node.proofs.ports.beside_of.Goals as goal

pub returns-clause-cores : goal.returns-clause-cores
returns-clause-cores c = (
  core_looked_in c.args.into.now c.beside-flying.new.into c.beside-flying.ensures.into,
  core_or_rise c.args.out.now c.beside-flying.new.out _ c.beside-flying.ensures.out c.beside-flying.ensures.hands_over,
)

pub returns-clause-flies : goal.returns-clause-flies
returns-clause-flies c e = flies_or_rises c.beside-flying.result c.args.out.now c.beside-flying.new.out c.beside-flying.new.into c.args.into.now c.beside-flying.ensures.into c.beside-flying.ensures.out c.beside-flying.ensures.hands_over c.beside-flying.ensures.value.0 e

pub returns-clause-out : goal.returns-clause-out
returns-clause-out c = looks_at c.args.out.now c.beside-flying.new.out _ c.beside-flying.ensures.out c.beside-flying.ensures.hands_over

pub returns-clause-into : goal.returns-clause-into
returns-clause-into c = same_at c.args.into.now c.beside-flying.new.into c.beside-flying.ensures.into
