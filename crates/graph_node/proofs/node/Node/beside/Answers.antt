use Rattle.std.proofs.Common.{◌≡◌, ◌<◌, ◌⊎◌, inl, inr, Some, length, refl, sym, ◌∙◌, ap, subst, arith}
use Rattle.std.specs.Prelude.{slice_get}
use Rattle.std.proofs.lemmas.Option.{slice_get_read}
use Rattle.link_ports.specs.Links.{HasArrived, on_the_way}
use Rattle.link_ports.specs.Moves.{Tied}
use Rattle.graph_node.specs.Nodes.{IsSound, Step, SameCores, moves}
use Rattle.graph_node.specs.declared.node.Node.{Node}
use Rattle.graph_node.specs.declared.outlet.Outlet.{Outlet}
use Rattle.graph_node.specs.declared.inlet.Inlet.{Inlet}
use Rattle.graph_node.proofs.SaysLemmas.{there}
use Rattle.graph_node.proofs.MarkLemmas.{fit_mark, step_mark, idle_mark, moves_mark, cores_mark, same_wanted}
use Rattle.graph_node.proofs.node.Node.beside.Goals as goal

pub returns-clause-sound : goal.returns-clause-sound
returns-clause-sound g c =
    let n = c.look-flying.new.self in
    let m = c.keep_mark.new.self in
    subst (λ (z : Node _). IsSound g.F.Filter.pads g.F.Filter.rest g.F.Filter.closes g.F.Filter.wants g.F.Filter.accepts z) (sym c.keep_mark.ensures.same) record {
      fit = fit_mark g.F.Filter.pads g.F.Filter.rest g.F.Filter.closes g.F.Filter.wants g.F.Filter.over g.F.Filter.accepts n m.idle c.look-flying.ensures.fit;
      rests = λ e. (let t = c.keep_mark.ensures.taken e in
          idle_mark g.F.Filter.pads g.F.Filter.rest g.F.Filter.closes g.F.Filter.wants g.F.Filter.over g.F.Filter.accepts n m.idle
          (c.look-flying.ensures.idle (λ q p h k. t.1 p k ∙ c.wanted-wanted.ensures q h) (c.requires.sound.rests (sym c.look-flying.ensures.marks.0 ∙ t.0))));
    }

pub returns-clause-step : goal.returns-clause-step
returns-clause-step g c =
    subst (λ (z : Node _). Step g.F.Filter.pads g.F.Filter.rest g.F.Filter.closes g.F.Filter.over c.args.self.now z) (sym c.keep_mark.ensures.same)
    (step_mark g.F.Filter.pads g.F.Filter.rest g.F.Filter.closes g.F.Filter.wants g.F.Filter.over g.F.Filter.accepts c.args.self.now c.look-flying.new.self c.keep_mark.new.self.idle c.look-flying.ensures.step)

pub returns-clause-cores : goal.returns-clause-cores
returns-clause-cores g c =
    let a = c.args.self.now in
    subst (λ (z : Node _). SameCores a z ⊎ (moves a < moves z)) (sym c.keep_mark.ensures.same)
    (elim (c.look-flying.ensures.cores) [
      | inl s ↦ inl (cores_mark a c.look-flying.new.self c.keep_mark.new.self.idle s)
      | inr l ↦ inr (let k = moves_mark c.look-flying.new.self c.keep_mark.new.self.idle in omega (arith, l, k))
    ])

pub returns-clause-mark : goal.returns-clause-mark
returns-clause-mark g c few =
    let a = c.args.self.now in
    let n = c.look-flying.new.self in
    let same : moves c.keep_mark.new.self ≡ moves n = ap moves c.keep_mark.ensures.same ∙ moves_mark n c.keep_mark.new.self.idle in
    let o = c.args.output in
    let lt : o < length n.outs.items = (let p = c.requires.ports.0 in let f = c.look-flying.ensures.fit.outs_len in let g = c.look-flying.ensures.step.outputs_are in omega (arith, p, f, g)) in
    let lt0 : o < length a.outs.items = (let p = c.requires.ports.0 in let f = c.requires.sound.fit.outs_len in omega (arith, p, f)) in
    let x = there n.outs.items o lt in
    let y = there a.outs.items o lt0 in
    let at = slice_get_read n.outs.items (length n.outs.items) o x.0 refl lt (sym x.1) in
    let at0 = slice_get_read a.outs.items (length a.outs.items) o y.0 refl lt0 (sym y.1) in
    elim (c.look-flying.ensures.cores) [
      | inl s ↦ c.keep_mark.ensures.kept x.0 at (same_wanted a n s o y.0 x.0 at0 at ∙ sym (c.wanted-wanted.ensures y.0 at0)) ∙ c.look-flying.ensures.marks.0
      | inr l ↦ absurd (omega (arith, l, few, same))
    ]

pub returns-clause-taker_sound : goal.returns-clause-taker_sound
returns-clause-taker_sound g c = record {
  fit = c.look-flying.ensures.taker_fit;
  rests = λ e. c.look-flying.ensures.taker_idle (c.requires.taker_sound.rests (sym c.look-flying.ensures.marks.1 ∙ e));
}

pub returns-clause-taker_mark : goal.returns-clause-taker_mark
returns-clause-taker_mark g c = c.look-flying.ensures.marks.1

pub returns-clause-beside : goal.returns-clause-beside
returns-clause-beside g c =
    subst (λ (z : Node _). (q : Outlet) (r : Inlet) → slice_get z.outs.items c.args.output ≡ Some q → slice_get c.look-flying.new.taker.ins.items c.args.input ≡ Some r → Tied q.port r.port) (sym c.keep_mark.ensures.same) c.look-flying.ensures.beside

pub returns-clause-still : goal.returns-clause-still
returns-clause-still g c f =
    subst (λ (z : Node _). (q : Outlet) (r : Inlet) → slice_get z.outs.items c.args.output ≡ Some q → slice_get c.look-flying.new.taker.ins.items c.args.input ≡ Some r → HasArrived q.port r.port) (sym c.keep_mark.ensures.same) (c.look-flying.ensures.still f)

pub returns-clause-flies : goal.returns-clause-flies
returns-clause-flies g c f =
    let a = c.args.self.now in
    subst (λ (z : Node _). (moves a < moves z) ⊎ ((q : Outlet) (r : Inlet) → slice_get z.outs.items c.args.output ≡ Some q → slice_get c.look-flying.new.taker.ins.items c.args.input ≡ Some r → 0 < on_the_way q.port r.port)) (sym c.keep_mark.ensures.same)
    (elim (c.look-flying.ensures.flies f) [
      | inl l ↦ inl (let k = moves_mark c.look-flying.new.self c.keep_mark.new.self.idle in omega (arith, l, k))
      | inr h ↦ inr h
    ])
