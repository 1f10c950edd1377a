use Rattle.std.proofs.Common.{◌≡◌, ◌||◌, ◌&&◌, not, inl, inr, refl, sym, ◌∙◌, ap, subst, length, ◌<◌, ℕ}
use Rattle.std.proofs.lemmas.Option.{slice_get_read}
use Rattle.graph_node.specs.Ports.{inlet_id, outlet_id, is_done, is_wanted, closed}
use Rattle.av_frame.specs.Streams.{Stream}
use Rattle.graph_node.specs.Laws.{InFit}
use Rattle.graph_node.specs.declared.inlet.Inlet.{Inlet}
use Rattle.graph_node.proofs.IdleLemmas.{idle_out, idle_in}
use Rattle.link_ports.specs.Links.{HasArrived, on_the_way}
use Rattle.link_ports.specs.Moves.{Tied}
use Rattle.graph_node.specs.declared.outlet.Outlet.{Outlet}
use Rattle.graph_node.proofs.SaysLemmas.{link_ids, begins_at}
use Rattle.graph_node.proofs.NodeLemmas.{cores_in, cores_out, rise_out, step_same, fit_in, step_out, told_none, gave_none, infit_same}
use Rattle.graph_node.proofs.BesideLemmas.{set_get, beside_begins, other_set, here_set}
use Rattle.graph_node.proofs.node.Node.look.Goals as goal

pub beside_ports-requires : goal.beside_ports-requires
beside_ports-requires g c =
    let a = c.args.self.now in
    let b = c.args.taker.now in
    let lt : c.args.output < length a.outs.items = subst (λ (m : ℕ). c.args.output < m) (sym c.requires.fit.outs_len) c.requires.ports.0 in
    let lt2 : c.args.input < length b.ins.items = subst (λ (m : ℕ). c.args.input < m) (sym c.requires.taker_fit.ins_len) c.requires.ports.1 in
    link_ids outlet_id inlet_id a.outs.items b.ins.items c.args.output c.args.input c.index_mut-out.result.now c.index_mut-into.result.now lt c.index_mut-out.ensures.value lt2 c.index_mut-into.ensures.value c.requires.link

pub returns-clause-step : goal.returns-clause-step
returns-clause-step g c =
    let a = c.args.self.now in
    step_out g.F.Filter.pads g.F.Filter.rest g.F.Filter.closes g.F.Filter.over g.F.Filter.accepts a a.filter c.args.output c.index_mut-out.result.now c.beside_ports.new.out c.requires.fit c.requires.ports.0 c.index_mut-out.ensures.value
    (gave_none g.F.Filter.pads g.F.Filter.rest g.F.Filter.closes g.F.Filter.over g.F.Filter.accepts a.filter c.args.output _ _ c.beside_ports.ensures.given) c.beside_ports.ensures.id c.beside_ports.ensures.grows

pub returns-clause-taker_step : goal.returns-clause-taker_step
returns-clause-taker_step g c =
    let a = c.args.taker.now in
    step_same g.F.Filter.pads g.F.Filter.rest g.F.Filter.closes g.F.Filter.over g.F.Filter.accepts a c.args.input c.index_mut-into.result.now c.beside_ports.new.into c.requires.taker_fit c.requires.ports.1 c.index_mut-into.ensures.value
    c.beside_ports.ensures.offered.0 c.beside_ports.ensures.into.closing_is c.beside_ports.ensures.into.id c.beside_ports.ensures.into.grows c.beside_ports.ensures.into.shape

pub returns-clause-taker_fit : goal.returns-clause-taker_fit
returns-clause-taker_fit g c =
    let a = c.args.taker.now in
    fit_in g.F.Filter.pads g.F.Filter.rest g.F.Filter.closes g.F.Filter.over g.F.Filter.accepts a a.filter c.args.input c.index_mut-into.result.now c.beside_ports.new.into _ _ c.requires.taker_fit c.requires.ports.1 c.index_mut-into.ensures.value
    (told_none g.F.Filter.pads g.F.Filter.rest g.F.Filter.closes g.F.Filter.over g.F.Filter.accepts a.filter c.args.input _ _ c.beside_ports.ensures.offered.0)
    (let old = subst (λ (x : Inlet). InFit g.F.Filter.closes g.F.Filter.accepts a.filter c.args.input x) (sym c.index_mut-into.ensures.value) (c.requires.taker_fit.each c.args.input c.index_mut-into.result.now c.requires.ports.1) in
    infit_same g.F.Filter.closes g.F.Filter.accepts a.filter c.args.input c.index_mut-into.result.now c.beside_ports.new.into (ap (λ (t : Stream). t.ended) c.beside_ports.ensures.offered.0) c.beside_ports.ensures.into.shape c.beside_ports.ensures.offered.1 old)
    (λ e. inl (sym c.beside_ports.ensures.into.closing_is ∙ e))

pub returns-clause-begins : goal.returns-clause-begins
returns-clause-begins g c =
    let a = c.args.self.now in
    let b = c.args.taker.now in
    let lt : c.args.output < length a.outs.items = subst (λ (m : ℕ). c.args.output < m) (sym c.requires.fit.outs_len) c.requires.ports.0 in
    let lt2 : c.args.input < length b.ins.items = subst (λ (m : ℕ). c.args.input < m) (sym c.requires.taker_fit.ins_len) c.requires.ports.1 in
    begins_at a.outs.items c.args.output c.beside_ports.new.out b.ins.items c.args.input c.beside_ports.new.into lt lt2 (beside_begins c.beside_ports.new.out c.beside_ports.new.into c.beside_ports.ensures.beside.beside)

pub returns-clause-idle : goal.returns-clause-idle
returns-clause-idle g c f k =
    let a = c.args.self.now in
    let lt : c.args.output < length a.outs.items = subst (λ (m : ℕ). c.args.output < m) (sym c.requires.fit.outs_len) c.requires.ports.0 in
    let made = c.beside_ports.ensures in
    let old = c.index_mut-out.result.now in
    let y = c.beside_ports.new.out in
    let done : is_done y ≡ is_done old = ap (λ b. b || y.port.ended) made.out.1 ∙ ap (λ b. closed old || b) made.out.2 in
    let wanted : is_wanted y ≡ is_wanted old = ap (λ b. b && not (is_done y)) (f old y (slice_get_read a.outs.items (length a.outs.items) c.args.output old refl lt c.index_mut-out.ensures.value) (set_get a.outs.items c.args.output y lt)) ∙ ap (λ b. old.port.wanted && not b) done in
    idle_out g.F.Filter.rest g.F.Filter.closes g.F.Filter.wants a c.args.output old y lt c.index_mut-out.ensures.value made.out.0 done wanted k

pub returns-clause-taker_idle : goal.returns-clause-taker_idle
returns-clause-taker_idle g c k =
    let b = c.args.taker.now in
    let lt : c.args.input < length b.ins.items = subst (λ (m : ℕ). c.args.input < m) (sym c.requires.taker_fit.ins_len) c.requires.ports.1 in
    let made = c.beside_ports.ensures in
    idle_in g.F.Filter.rest g.F.Filter.closes g.F.Filter.wants b c.args.input c.index_mut-into.result.now c.beside_ports.new.into lt c.index_mut-into.ensures.value
    made.offered.0 made.into.arrived_is made.into.shape made.into.closing_is made.into.asked k

pub returns-clause-seen : goal.returns-clause-seen
returns-clause-seen g c = record { filter_is = refl; ins_are = refl; outputs_are = refl; others = λ j q n e. other_set c.args.self.now.outs.items c.args.output j c.beside_ports.new.out q n e }

pub returns-clause-taker_seen : goal.returns-clause-taker_seen
returns-clause-taker_seen g c = record { filter_is = refl; outs_are = refl; others = λ j r n e. other_set c.args.taker.now.ins.items c.args.input j c.beside_ports.new.into r n e }

pub returns-clause-beside : goal.returns-clause-beside
returns-clause-beside g c q r e f =
    let a = c.args.self.now in
    let b = c.args.taker.now in
    let lt : c.args.output < length a.outs.items = subst (λ (m : ℕ). c.args.output < m) (sym c.requires.fit.outs_len) c.requires.ports.0 in
    let lt2 : c.args.input < length b.ins.items = subst (λ (m : ℕ). c.args.input < m) (sym c.requires.taker_fit.ins_len) c.requires.ports.1 in
    subst (λ (x : Inlet). Tied q.port x.port) (sym (here_set b.ins.items c.args.input c.beside_ports.new.into r lt2 f))
    (subst (λ (x : Outlet). Tied x.port c.beside_ports.new.into.port) (sym (here_set a.outs.items c.args.output c.beside_ports.new.out q lt e)) c.beside_ports.ensures.beside)

pub returns-clause-still : goal.returns-clause-still
returns-clause-still g c quiet q r e f =
    let a = c.args.self.now in
    let b = c.args.taker.now in
    let lt : c.args.output < length a.outs.items = subst (λ (m : ℕ). c.args.output < m) (sym c.requires.fit.outs_len) c.requires.ports.0 in
    let lt2 : c.args.input < length b.ins.items = subst (λ (m : ℕ). c.args.input < m) (sym c.requires.taker_fit.ins_len) c.requires.ports.1 in
    subst (λ (x : Inlet). HasArrived q.port x.port) (sym (here_set b.ins.items c.args.input c.beside_ports.new.into r lt2 f))
    (subst (λ (x : Outlet). HasArrived x.port c.beside_ports.new.into.port) (sym (here_set a.outs.items c.args.output c.beside_ports.new.out q lt e)) (c.beside_ports.ensures.arrived quiet))

pub returns-clause-cores : goal.returns-clause-cores
returns-clause-cores g c = elim (c.beside_ports.ensures.cores.1) [
  | inl e ↦ inl (cores_out c.args.self.now c.args.self.now.filter c.args.output c.index_mut-out.result.now c.beside_ports.new.out c.index_mut-out.ensures.value e)
  | inr l ↦ inr (rise_out c.args.self.now c.args.self.now.filter c.args.output c.index_mut-out.result.now c.beside_ports.new.out c.requires.fit.outs_len c.requires.ports.0 c.index_mut-out.ensures.value l)
]

pub returns-clause-taker_cores : goal.returns-clause-taker_cores
returns-clause-taker_cores g c = cores_in c.args.taker.now c.args.taker.now.filter c.args.input c.index_mut-into.result.now c.beside_ports.new.into c.index_mut-into.ensures.value c.beside_ports.ensures.cores.0

pub returns-clause-flies : goal.returns-clause-flies
returns-clause-flies g c sure =
    let a = c.args.self.now in
    let b = c.args.taker.now in
    let lt : c.args.output < length a.outs.items = subst (λ (m : ℕ). c.args.output < m) (sym c.requires.fit.outs_len) c.requires.ports.0 in
    let lt2 : c.args.input < length b.ins.items = subst (λ (m : ℕ). c.args.input < m) (sym c.requires.taker_fit.ins_len) c.requires.ports.1 in
    elim (c.beside_ports.ensures.flies sure) [
      | inr l ↦ inl (rise_out a a.filter c.args.output c.index_mut-out.result.now c.beside_ports.new.out c.requires.fit.outs_len c.requires.ports.0 c.index_mut-out.ensures.value l)
      | inl l ↦ inr (λ q r e f.
          subst (λ (x : Inlet). 0 < on_the_way q.port x.port) (sym (here_set b.ins.items c.args.input c.beside_ports.new.into r lt2 f))
          (subst (λ (x : Outlet). 0 < on_the_way x.port c.beside_ports.new.into.port) (sym (here_set a.outs.items c.args.output c.beside_ports.new.out q lt e)) l))
    ]
