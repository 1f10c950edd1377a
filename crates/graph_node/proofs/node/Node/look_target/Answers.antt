use Rattle.std.proofs.Common.{◌≡◌, ◌||◌, ◌&&◌, not, inl, inr, refl, sym, ◌∙◌, ap, subst, length, ◌<◌, ℕ}
use Rattle.std.specs.Prelude.{option_map}
use Rattle.std.proofs.lemmas.Option.{slice_get_read, slice_get-map, same_Some}
use Rattle.link_ports.specs.Links.{HasArrived, on_the_way}
use Rattle.link_ports.specs.Moves.{Tied}
use Rattle.graph_node.specs.Ports.{closed, is_done, is_wanted, outlet_id}
use Rattle.graph_node.specs.declared.outlet.Outlet.{Outlet}
use Rattle.graph_node.proofs.IdleLemmas.{idle_out}
use Rattle.graph_node.proofs.BesideLemmas.{set_get, other_set, here_set}
use Rattle.graph_node.proofs.NodeLemmas.{cores_out, rise_out, step_out, gave_none}
use Rattle.graph_node.proofs.node.Node.look_target.Goals as goal

pub beside_out-requires : goal.beside_out-requires
beside_out-requires g c =
    let a = c.args.self.now in
    let lt : c.args.output < length a.outs.items = subst (λ (m : ℕ). c.args.output < m) (sym c.requires.fit.outs_len) c.requires.port in
    same_Some (outlet_id c.index_mut-out.result.now) c.args.into.now.link
    (sym (slice_get-map outlet_id a.outs.items c.args.output ∙ ap (option_map outlet_id) (slice_get_read a.outs.items (length a.outs.items) c.args.output c.index_mut-out.result.now refl lt c.index_mut-out.ensures.value)) ∙ c.requires.link)

pub returns-clause-step : goal.returns-clause-step
returns-clause-step g c =
    let a = c.args.self.now in
    step_out g.F.Filter.pads g.F.Filter.rest g.F.Filter.closes g.F.Filter.over g.F.Filter.accepts a a.filter c.args.output c.index_mut-out.result.now c.beside_out.new.out c.requires.fit c.requires.port c.index_mut-out.ensures.value
    (gave_none g.F.Filter.pads g.F.Filter.rest g.F.Filter.closes g.F.Filter.over g.F.Filter.accepts a.filter c.args.output _ _ c.beside_out.ensures.given) c.beside_out.ensures.id c.beside_out.ensures.grows

pub returns-clause-idle : goal.returns-clause-idle
returns-clause-idle g c f k =
    let a = c.args.self.now in
    let lt : c.args.output < length a.outs.items = subst (λ (m : ℕ). c.args.output < m) (sym c.requires.fit.outs_len) c.requires.port in
    let made = c.beside_out.ensures in
    let old = c.index_mut-out.result.now in
    let y = c.beside_out.new.out in
    let done : is_done y ≡ is_done old = ap (λ b. b || y.port.ended) made.out.1 ∙ ap (λ b. closed old || b) made.out.2 in
    let wanted : is_wanted y ≡ is_wanted old = ap (λ b. b && not (is_done y)) (f old y (slice_get_read a.outs.items (length a.outs.items) c.args.output old refl lt c.index_mut-out.ensures.value) (set_get a.outs.items c.args.output y lt)) ∙ ap (λ b. old.port.wanted && not b) done in
    idle_out g.F.Filter.rest g.F.Filter.closes g.F.Filter.wants a c.args.output old y lt c.index_mut-out.ensures.value made.out.0 done wanted k

pub returns-clause-seen : goal.returns-clause-seen
returns-clause-seen g c = record { filter_is = refl; ins_are = refl; outputs_are = refl; others = λ j q n e. other_set c.args.self.now.outs.items c.args.output j c.beside_out.new.out q n e }

pub returns-clause-beside : goal.returns-clause-beside
returns-clause-beside g c q e =
    let a = c.args.self.now in
    let lt : c.args.output < length a.outs.items = subst (λ (m : ℕ). c.args.output < m) (sym c.requires.fit.outs_len) c.requires.port in
    subst (λ (x : Outlet). Tied x.port c.beside_out.new.into) (sym (here_set a.outs.items c.args.output c.beside_out.new.out q lt e)) c.beside_out.ensures.beside

pub returns-clause-still : goal.returns-clause-still
returns-clause-still g c quiet q e =
    let a = c.args.self.now in
    let lt : c.args.output < length a.outs.items = subst (λ (m : ℕ). c.args.output < m) (sym c.requires.fit.outs_len) c.requires.port in
    subst (λ (x : Outlet). HasArrived x.port c.beside_out.new.into) (sym (here_set a.outs.items c.args.output c.beside_out.new.out q lt e)) (c.beside_out.ensures.arrived quiet)

pub returns-clause-cores : goal.returns-clause-cores
returns-clause-cores g c = elim (c.beside_out.ensures.cores.1) [
  | inl e ↦ inl (cores_out c.args.self.now c.args.self.now.filter c.args.output c.index_mut-out.result.now c.beside_out.new.out c.index_mut-out.ensures.value e)
  | inr l ↦ inr (rise_out c.args.self.now c.args.self.now.filter c.args.output c.index_mut-out.result.now c.beside_out.new.out c.requires.fit.outs_len c.requires.port c.index_mut-out.ensures.value l)
]

pub returns-clause-flies : goal.returns-clause-flies
returns-clause-flies g c sure =
    let a = c.args.self.now in
    let lt : c.args.output < length a.outs.items = subst (λ (m : ℕ). c.args.output < m) (sym c.requires.fit.outs_len) c.requires.port in
    elim (c.beside_out.ensures.flies sure) [
      | inr l ↦ inl (rise_out a a.filter c.args.output c.index_mut-out.result.now c.beside_out.new.out c.requires.fit.outs_len c.requires.port c.index_mut-out.ensures.value l)
      | inl l ↦ inr (λ q e. subst (λ (x : Outlet). 0 < on_the_way x.port c.beside_out.new.into) (sym (here_set a.outs.items c.args.output c.beside_out.new.out q lt e)) l)
    ]
