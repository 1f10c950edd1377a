use Rattle.std.proofs.Common.{◌≡◌, false, refl, inl, sym, ◌∙◌, subst}
use Rattle.link_ports.specs.Moves.{FillDone}
use Rattle.graph_node.proofs.NodeLemmas.{cores_in, read_is, set_others, rise_in, step_kept, fit_in, told_none, infit_same}
use Rattle.graph_node.specs.Ports.{offered, closing}
use Rattle.graph_node.specs.Laws.{InFit}
use Rattle.graph_node.proofs.LoopLemmas.{ok_moved}
use Rattle.graph_node.specs.declared.inlet.Inlet.{Inlet}
use Rattle.graph_node.proofs.node.Node.fill_one.Goals as goal

pub returns-clause-step : goal.returns-clause-step
returns-clause-step g c =
    let a = c.args.self.now in
    step_kept g.F.Filter.pads g.F.Filter.rest g.F.Filter.closes g.F.Filter.over g.F.Filter.accepts a c.args.input c.index_mut.result.now c.fill.new.self c.requires.fit c.requires.port c.index_mut.ensures.value
    c.fill.ensures.begins (λ d. (let o : closing c.index_mut.result.now ≡ false = sym c.fill.ensures.kept.2 ∙ d in (o, c.fill.ensures.offered o))) c.fill.ensures.id c.fill.ensures.grows c.fill.ensures.kept.0

pub returns-clause-fit : goal.returns-clause-fit
returns-clause-fit g c =
    let a = c.args.self.now in
    fit_in g.F.Filter.pads g.F.Filter.rest g.F.Filter.closes g.F.Filter.over g.F.Filter.accepts a a.filter c.args.input c.index_mut.result.now c.fill.new.self _ _ c.requires.fit c.requires.port c.index_mut.ensures.value
    (told_none g.F.Filter.pads g.F.Filter.rest g.F.Filter.closes g.F.Filter.over g.F.Filter.accepts a.filter c.args.input (offered c.index_mut.result.now) (offered c.index_mut.result.now) refl) (let old = subst (λ (x : Inlet). InFit g.F.Filter.closes g.F.Filter.accepts a.filter c.args.input x) (sym c.index_mut.ensures.value) (c.requires.fit.each c.args.input c.index_mut.result.now c.requires.port) in
    infit_same g.F.Filter.closes g.F.Filter.accepts a.filter c.args.input c.index_mut.result.now c.fill.new.self c.fill.ensures.finished c.fill.ensures.kept.0 c.fill.ensures.kept.1 old) (λ e. inl (sym c.fill.ensures.kept.2 ∙ e))

pub returns-clause-moved : goal.returns-clause-moved
returns-clause-moved g c e =
    let a = c.args.self.now in
    rise_in a a.filter c.args.input c.index_mut.result.now c.fill.new.self c.requires.fit.ins_len c.requires.port c.index_mut.ensures.value (ok_moved _ _ e c.fill.ensures.moved)

pub returns-clause-still : goal.returns-clause-still
returns-clause-still g c e = cores_in c.args.self.now c.args.self.now.filter c.args.input c.index_mut.result.now c.fill.new.self c.index_mut.ensures.value (c.fill.ensures.still e).0

pub returns-clause-done : goal.returns-clause-done
returns-clause-done g c e r h = read_is (λ (x : Inlet). FillDone x.port) c.args.self.now.ins.items c.args.input c.index_mut.result.now r c.index_mut.ensures.value h (c.fill.ensures.still e).1

pub returns-clause-others : goal.returns-clause-others
returns-clause-others g c j n = set_others c.args.self.now.ins.items c.args.input j c.fill.new.self n
