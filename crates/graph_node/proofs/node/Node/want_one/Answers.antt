use Rattle.std.proofs.Common.{refl, inl, sym, ◌∙◌, subst, length, ◌<◌, ℕ}
use Rattle.graph_node.proofs.NodeLemmas.{cores_in, rise_in, step_same, fit_in, told_none, drawn_all, infit_same}
use Rattle.graph_node.specs.Ports.{offered}
use Rattle.graph_node.specs.Laws.{InFit}
use Rattle.graph_node.specs.declared.inlet.Inlet.{Inlet}
use Rattle.graph_node.proofs.node.Node.want_one.Goals as goal

pub returns-then-needs-clause-step : goal.returns-then-needs-clause-step
returns-then-needs-clause-step g c =
    let a = c.args.self.now in
    step_same g.F.Filter.pads g.F.Filter.rest g.F.Filter.closes g.F.Filter.over g.F.Filter.accepts a c.args.input c.index_mut-inlet.result.now c.want.new.self c.requires.fit c.requires.port c.index_mut-inlet.ensures.value
    c.want.ensures.offered c.want.ensures.kept.2 c.want.ensures.id c.want.ensures.grows c.want.ensures.kept.0

pub returns-then-needs-clause-fit : goal.returns-then-needs-clause-fit
returns-then-needs-clause-fit g c =
    let a = c.args.self.now in
    fit_in g.F.Filter.pads g.F.Filter.rest g.F.Filter.closes g.F.Filter.over g.F.Filter.accepts a a.filter c.args.input c.index_mut-inlet.result.now c.want.new.self _ _ c.requires.fit c.requires.port c.index_mut-inlet.ensures.value
    (told_none g.F.Filter.pads g.F.Filter.rest g.F.Filter.closes g.F.Filter.over g.F.Filter.accepts a.filter c.args.input (offered c.index_mut-inlet.result.now) (offered c.index_mut-inlet.result.now) refl) (let old = subst (λ (x : Inlet). InFit g.F.Filter.closes g.F.Filter.accepts a.filter c.args.input x) (sym c.index_mut-inlet.ensures.value) (c.requires.fit.each c.args.input c.index_mut-inlet.result.now c.requires.port) in
    infit_same g.F.Filter.closes g.F.Filter.accepts a.filter c.args.input c.index_mut-inlet.result.now c.want.new.self c.want.ensures.finished c.want.ensures.kept.0 c.want.ensures.kept.1 old) (λ e. inl (sym c.want.ensures.kept.2 ∙ e))

pub returns-then-needs-clause-drawn : goal.returns-then-needs-clause-drawn
returns-then-needs-clause-drawn g c j h k =
    let a = c.args.self.now in
    let lt : c.args.input < length a.ins.items = subst (λ (m : ℕ). c.args.input < m) (sym c.requires.fit.ins_len) c.requires.port in
    drawn_all g.F.Filter.closes a c.args.input c.index_mut-inlet.result.now c.want.new.self lt c.index_mut-inlet.ensures.value c.want.ensures.offered c.want.ensures.arrived c.want.ensures.kept.0
    (λ e. c.want.ensures.kept.2 ∙ e) j k

pub returns-then-needs-clause-moved : goal.returns-then-needs-clause-moved
returns-then-needs-clause-moved g c e =
    let a = c.args.self.now in
    rise_in a a.filter c.args.input c.index_mut-inlet.result.now c.want.new.self c.requires.fit.ins_len c.requires.port c.index_mut-inlet.ensures.value (c.want.ensures.moved e)

pub returns-then-needs-clause-still : goal.returns-then-needs-clause-still
returns-then-needs-clause-still g c e = cores_in c.args.self.now c.args.self.now.filter c.args.input c.index_mut-inlet.result.now c.want.new.self c.index_mut-inlet.ensures.value (c.want.ensures.still e)
