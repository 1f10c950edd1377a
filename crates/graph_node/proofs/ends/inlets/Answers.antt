use Rattle.std.specs.Prelude.{slice_get}
use Rattle.std.proofs.Common.{ℕ, Some, ◌≡◌, List, length, rules, ◌∙◌, ap, subst, arith, take}
use Rattle.std.proofs.lemmas.List.{length-map}
use Rattle.std.proofs.Math.Seq.{take-length}
use Rattle.av_base.specs.declared.shapes.Shape.{Shape}
use Rattle.graph_node.specs.Nodes.{AreInlets}
use Rattle.graph_node.specs.declared.inlet.Inlet.{Inlet}
use Rattle.graph_node.proofs.EndLemmas.{below, inlets_none, inlets_more, next_port, all_ports}
use Rattle.graph_node.proofs.ends.inlets.Goals as goal

pub loop-port-init : goal.loop-port-init
loop-port-init c = (inlets_none c.args.shapes.now c.new-ins.result.items c.new-ins.ensures.items, search rules)

pub shape_at-shape-requires : goal.shape_at-shape-requires
shape_at-shape-requires c =
    let all = next_port c.loop-port.yielded c.loop-port.port-iterator.rest.items c.next.new.self.rest.items c.args.ports.items c.in-Some.port c.loop-port.invariant.1 c.in-Some.ensures.steps.0 in
    let few = below c.args.shapes.now c.loop-port.yielded c.next.new.self.rest.items c.args.ports.items c.loop-port.ins.items c.in-Some.port c.loop-port.invariant.0 all c.requires.shapes in
    omega (arith, few, c.len.ensures, c.loop-port.ins.ok.0)

pub loop-port-preserved : goal.loop-port-preserved
loop-port-preserved c = (
  (let n : c.len.result ≡ length c.loop-port.ins.items = c.len.ensures ∙ c.loop-port.ins.ok.0 in
      let all = next_port c.loop-port.yielded c.loop-port.port-iterator.rest.items c.next.new.self.rest.items c.args.ports.items c.in-Some.port c.loop-port.invariant.1 c.in-Some.ensures.steps.0 in
      let few = below c.args.shapes.now c.loop-port.yielded c.next.new.self.rest.items c.args.ports.items c.loop-port.ins.items c.in-Some.port c.loop-port.invariant.0 all c.requires.shapes in
      let read = subst (λ (m : ℕ). slice_get c.args.shapes.now m ≡ Some c.shape_at-shape.result) n c.shape_at-shape.ensures in
      inlets_more c.args.shapes.now c.loop-port.yielded c.loop-port.ins.items c.push.new.self.items c.in-Some.port c.new.result c.shape_at-shape.result c.loop-port.invariant.0 c.new.ensures.port.0 c.new.ensures.port.1 read few c.new.ensures.offered c.new.ensures.«open» c.new.ensures.last c.in_ok-push.ensures.items),
  next_port c.loop-port.yielded c.loop-port.port-iterator.rest.items c.next.new.self.rest.items c.args.ports.items c.in-Some.port c.loop-port.invariant.1 c.in-Some.ensures.steps.0,
)

pub returns : goal.returns
returns c =
    let all = all_ports c.loop-port.yielded c.loop-port.port-iterator.rest.items c.args.ports.items c.loop-port.port-iterator.rest.len c.loop-port.invariant.1 c.in-None.ensures.steps.0 c.loop-port.port-iterator.rest.ok.0 in
    let many = ap length c.loop-port.invariant.0.ports_are in
    let long : length c.loop-port.ins.items ≡ length c.args.shapes.now = omega (arith, ap length all, many, length-map c.loop-port.ins.items (λ (z : Inlet). z.port), c.requires.shapes) in
    subst (λ (l : List _). AreInlets c.args.shapes.now l c.loop-port.ins.items) all
    (subst (λ (l : List Shape). AreInlets l c.loop-port.yielded c.loop-port.ins.items) (ap (λ n. take n c.args.shapes.now) long ∙ take-length c.args.shapes.now) c.loop-port.invariant.0)
