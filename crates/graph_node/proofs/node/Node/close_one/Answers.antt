use Rattle.std.proofs.Common.{refl, inr, sym, subst, rules, length, ◌<◌, ℕ}
use Rattle.graph_node.proofs.NodeLemmas.{cores_in, rise_in, step_kept, fit_in, told_none, drawn_closed, infit_same}
use Rattle.graph_node.specs.Ports.{offered}
use Rattle.graph_node.specs.Laws.{InFit}
use Rattle.graph_node.specs.declared.inlet.Inlet.{Inlet}
use Rattle.graph_node.proofs.node.Node.close_one.Goals as goal

pub returns-then-closed-clause-step : goal.returns-then-closed-clause-step
returns-then-closed-clause-step g c =
    let a = c.args.self.now in
    step_kept g.F.Filter.pads g.F.Filter.rest g.F.Filter.closes g.F.Filter.over g.F.Filter.accepts a c.args.input c.index_mut-inlet.result.now c.close.new.self c.requires.fit c.requires.port c.index_mut-inlet.ensures.value
    c.close.ensures.begins (λ d. absurd (let z = c.close.ensures.closing in cc)) c.close.ensures.id c.close.ensures.grows c.close.ensures.kept.0

pub returns-then-closed-clause-fit : goal.returns-then-closed-clause-fit
returns-then-closed-clause-fit g c =
    let a = c.args.self.now in
    fit_in g.F.Filter.pads g.F.Filter.rest g.F.Filter.closes g.F.Filter.over g.F.Filter.accepts a a.filter c.args.input c.index_mut-inlet.result.now c.close.new.self _ _ c.requires.fit c.requires.port c.index_mut-inlet.ensures.value
    (told_none g.F.Filter.pads g.F.Filter.rest g.F.Filter.closes g.F.Filter.over g.F.Filter.accepts a.filter c.args.input (offered c.index_mut-inlet.result.now) (offered c.index_mut-inlet.result.now) refl) (let old = subst (λ (x : Inlet). InFit g.F.Filter.closes g.F.Filter.accepts a.filter c.args.input x) (sym c.index_mut-inlet.ensures.value) (c.requires.fit.each c.args.input c.index_mut-inlet.result.now c.requires.port) in
    infit_same g.F.Filter.closes g.F.Filter.accepts a.filter c.args.input c.index_mut-inlet.result.now c.close.new.self c.close.ensures.finished c.close.ensures.kept.0 c.close.ensures.kept.1 old) (λ e. inr (search rules))

pub returns-then-closed-clause-drawn : goal.returns-then-closed-clause-drawn
returns-then-closed-clause-drawn g c j h k =
    let a = c.args.self.now in
    let lt : c.args.input < length a.ins.items = subst (λ (m : ℕ). c.args.input < m) (sym c.requires.fit.ins_len) c.requires.port in
    drawn_closed g.F.Filter.closes a c.args.input c.close.new.self lt c.close.ensures.closing j k

pub returns-then-closed-clause-moved : goal.returns-then-closed-clause-moved
returns-then-closed-clause-moved g c e =
    let a = c.args.self.now in
    rise_in a a.filter c.args.input c.index_mut-inlet.result.now c.close.new.self c.requires.fit.ins_len c.requires.port c.index_mut-inlet.ensures.value (c.close.ensures.moved e)

pub returns-then-closed-clause-still : goal.returns-then-closed-clause-still
returns-then-closed-clause-still g c e = cores_in c.args.self.now c.args.self.now.filter c.args.input c.index_mut-inlet.result.now c.close.new.self c.index_mut-inlet.ensures.value (c.close.ensures.still e)
