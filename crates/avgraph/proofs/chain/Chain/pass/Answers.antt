use Rattle.std.proofs.Common.{◌≡◌, ◌≤ℤ◌, ℤ, pos, ◌+ℤ◌, Bool, false, rules, sym, ◌∙◌, ap, subst, w64, to_z, of_z}
use Rattle.std.proofs.lemmas.Int.{to_z-of_z}
use Rattle.av_base.specs.declared.shapes.Shape.{Shape}
use Rattle.node_core.specs.contracts.instance.InstanceFilter.TheImpl.{pads-value, rest-value, accepts-value}
use Rattle.avgraph.specs.Chains.{ChainValue, AllTake}
use Rattle.avgraph.proofs.ChainLemmas.{written_back}
use Rattle.avgraph.proofs.chain.Chain.pass.Goals as goal

pub invariant_of-self-2 : goal.invariant_of-self-2
invariant_of-self-2 g c = λ still.
    let v = c.self.inside in
    let frame = c.args.frame in
    let pts : to_z w64 (of_z w64 c.pts-pts.result) ≡ frame.pts = to_z-of_z w64 c.pts-pts.result (search rules) ∙ c.pts-pts.ensures in
    let next : to_z w64 (of_z w64 (to_z w64 (of_z w64 c.pts-pts.result) +ℤ pos 1)) ≡ frame.pts +ℤ pos 1 =
    to_z-of_z w64 (to_z w64 (of_z w64 c.pts-pts.result) +ℤ pos 1) (search rules) ∙ ap (λ (z : ℤ). z +ℤ pos 1) pts in
    let fresh : v.spent ≡ false = ap (λ (x : ChainValue). x.spent) c.self.view_is ∙ c.requires.fresh in
    let shape : v.shape ≡ frame.shape = ap (λ (x : ChainValue). x.shape) c.self.view_is ∙ sym c.requires.shape in
    let h : v.next ≤ℤ frame.pts = subst (λ (n : ℤ). n ≤ℤ frame.pts) (sym (ap (λ (x : ChainValue). x.next) c.self.view_is)) c.requires.next in
    let old : AllTake pads-value.it rest-value.it accepts-value.it v.next frame.shape v.readies.items v.instances.items v.end =
    subst (λ (s : Shape). AllTake pads-value.it rest-value.it accepts-value.it v.next s v.readies.items v.instances.items v.end) shape (c.self.invariant fresh) in
    let new = c.in_ok-passed.ensures.take v.next v.readies.items v.end h (rw c.deref_mut.ensures.value old) in
    rw (next, shape) (written_back pads-value.it rest-value.it accepts-value.it v.next (frame.pts +ℤ pos 1) frame.shape v.end v.readies.items v.instances.items c.pass.new.filters v.instances.len v.instances.ok.0 old new)

pub returns-clause-after : goal.returns-clause-after
returns-clause-after g c =
    let v = c.self.inside in
    let frame = c.args.frame in
    let pts : to_z w64 (of_z w64 c.pts-pts.result) ≡ frame.pts = to_z-of_z w64 c.pts-pts.result (search rules) ∙ c.pts-pts.ensures in
    let next : to_z w64 (of_z w64 (to_z w64 (of_z w64 c.pts-pts.result) +ℤ pos 1)) ≡ frame.pts +ℤ pos 1 =
    to_z-of_z w64 (to_z w64 (of_z w64 c.pts-pts.result) +ℤ pos 1) (search rules) ∙ ap (λ (z : ℤ). z +ℤ pos 1) pts in
    let fresh : v.spent ≡ false = ap (λ (x : ChainValue). x.spent) c.self.view_is ∙ c.requires.fresh in
    let value : ℤ → Bool → ChainValue = λ n b. record { readies = v.readies.items; shape = v.shape; end = v.end; next = n; spent = b } in
    rw (← c.self.view_is) (ap (λ (n : ℤ). value n false) next ∙ ap (value (frame.pts +ℤ pos 1)) (sym fresh))
