use Rattle.std.proofs.Common.{inl, inr, refl, sym, ◌∙◌, ap, subst, length, ◌<◌, ℕ}
use Rattle.std.specs.Prelude.{option_map}
use Rattle.std.proofs.lemmas.Option.{slice_get_read, slice_get-map, same_Some}
use Rattle.link_ports.specs.Links.{HasArrived, on_the_way}
use Rattle.link_ports.specs.Moves.{Tied}
use Rattle.graph_node.specs.Ports.{inlet_id}
use Rattle.av_frame.specs.Streams.{Stream}
use Rattle.graph_node.specs.Laws.{InFit}
use Rattle.graph_node.specs.declared.inlet.Inlet.{Inlet}
use Rattle.graph_node.proofs.IdleLemmas.{idle_in}
use Rattle.graph_node.proofs.BesideLemmas.{other_set, here_set}
use Rattle.graph_node.proofs.NodeLemmas.{cores_in, step_same, fit_in, told_none, infit_same}
use Rattle.graph_node.proofs.node.Node.look_source.Goals as goal

pub beside_in-requires : goal.beside_in-requires
beside_in-requires g c =
    let a = c.args.self.now in
    let lt : c.args.input < length a.ins.items = subst (λ (m : ℕ). c.args.input < m) (sym c.requires.fit.ins_len) c.requires.port in
    same_Some c.args.out.now.link (inlet_id c.index_mut-into.result.now)
    (sym c.requires.link ∙ slice_get-map inlet_id a.ins.items c.args.input ∙ ap (option_map inlet_id) (slice_get_read a.ins.items (length a.ins.items) c.args.input c.index_mut-into.result.now refl lt c.index_mut-into.ensures.value))

pub returns-clause-step : goal.returns-clause-step
returns-clause-step g c =
    let a = c.args.self.now in
    step_same g.F.Filter.pads g.F.Filter.rest g.F.Filter.closes g.F.Filter.over g.F.Filter.accepts a c.args.input c.index_mut-into.result.now c.beside_in.new.into c.requires.fit c.requires.port c.index_mut-into.ensures.value
    c.beside_in.ensures.offered.0 c.beside_in.ensures.into.closing_is c.beside_in.ensures.into.id c.beside_in.ensures.into.grows c.beside_in.ensures.into.shape

pub returns-clause-fit : goal.returns-clause-fit
returns-clause-fit g c =
    let a = c.args.self.now in
    fit_in g.F.Filter.pads g.F.Filter.rest g.F.Filter.closes g.F.Filter.over g.F.Filter.accepts a a.filter c.args.input c.index_mut-into.result.now c.beside_in.new.into _ _ c.requires.fit c.requires.port c.index_mut-into.ensures.value
    (told_none g.F.Filter.pads g.F.Filter.rest g.F.Filter.closes g.F.Filter.over g.F.Filter.accepts a.filter c.args.input _ _ c.beside_in.ensures.offered.0)
    (let old = subst (λ (x : Inlet). InFit g.F.Filter.closes g.F.Filter.accepts a.filter c.args.input x) (sym c.index_mut-into.ensures.value) (c.requires.fit.each c.args.input c.index_mut-into.result.now c.requires.port) in
    infit_same g.F.Filter.closes g.F.Filter.accepts a.filter c.args.input c.index_mut-into.result.now c.beside_in.new.into (ap (λ (t : Stream). t.ended) c.beside_in.ensures.offered.0) c.beside_in.ensures.into.shape c.beside_in.ensures.offered.1 old)
    (λ e. inl (sym c.beside_in.ensures.into.closing_is ∙ e))

pub returns-clause-idle : goal.returns-clause-idle
returns-clause-idle g c k =
    let b = c.args.self.now in
    let lt : c.args.input < length b.ins.items = subst (λ (m : ℕ). c.args.input < m) (sym c.requires.fit.ins_len) c.requires.port in
    let made = c.beside_in.ensures in
    idle_in g.F.Filter.rest g.F.Filter.closes g.F.Filter.wants b c.args.input c.index_mut-into.result.now c.beside_in.new.into lt c.index_mut-into.ensures.value
    made.offered.0 made.into.arrived_is made.into.shape made.into.closing_is made.into.asked k

pub returns-clause-seen : goal.returns-clause-seen
returns-clause-seen g c = record { filter_is = refl; outs_are = refl; others = λ j r n e. other_set c.args.self.now.ins.items c.args.input j c.beside_in.new.into r n e }

pub returns-clause-beside : goal.returns-clause-beside
returns-clause-beside g c r f =
    let b = c.args.self.now in
    let lt : c.args.input < length b.ins.items = subst (λ (m : ℕ). c.args.input < m) (sym c.requires.fit.ins_len) c.requires.port in
    subst (λ (x : Inlet). Tied c.beside_in.new.out x.port) (sym (here_set b.ins.items c.args.input c.beside_in.new.into r lt f)) c.beside_in.ensures.beside

pub returns-clause-still : goal.returns-clause-still
returns-clause-still g c quiet r f =
    let b = c.args.self.now in
    let lt : c.args.input < length b.ins.items = subst (λ (m : ℕ). c.args.input < m) (sym c.requires.fit.ins_len) c.requires.port in
    subst (λ (x : Inlet). HasArrived c.beside_in.new.out x.port) (sym (here_set b.ins.items c.args.input c.beside_in.new.into r lt f)) (c.beside_in.ensures.arrived quiet)

pub returns-clause-cores : goal.returns-clause-cores
returns-clause-cores g c = cores_in c.args.self.now c.args.self.now.filter c.args.input c.index_mut-into.result.now c.beside_in.new.into c.index_mut-into.ensures.value c.beside_in.ensures.cores.0

pub returns-clause-flies : goal.returns-clause-flies
returns-clause-flies g c sure =
    let b = c.args.self.now in
    let lt : c.args.input < length b.ins.items = subst (λ (m : ℕ). c.args.input < m) (sym c.requires.fit.ins_len) c.requires.port in
    elim (c.beside_in.ensures.flies sure) [
      | inr l ↦ inl l
      | inl l ↦ inr (λ r f. subst (λ (x : Inlet). 0 < on_the_way c.beside_in.new.out x.port) (sym (here_set b.ins.items c.args.input c.beside_in.new.into r lt f)) l)
    ]
