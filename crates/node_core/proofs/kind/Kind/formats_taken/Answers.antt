use Rattle.std.proofs.Common.{ap, ◌∙◌}
use Rattle.node_core.proofs.WishLemmas.{gathers_one, gathers_none}
use Rattle.node_core.proofs.kind.Kind.formats_taken.Goals as goal
use Rattle.node_core.proofs.kind.Kind.formats_taken.Goals.{then-takes, else-takes}

pub formats-preserved : goal.formats-preserved
formats-preserved c =
    let low = c.formats-test.true in
    elim c.if-takes.branch [
      | then-takes w ↦ (
          let bits = ap (λ s. s.bits) w.set-is ∙ w.with-set.ensures.bits in
          gathers_one c.args.self.now c.formats.set c.if-takes.set c.formats.format-index c.takes.result low c.takes.ensures c.formats.invariant w.if-takes.true bits
          )
      | else-takes w ↦ (
          let next = gathers_none c.args.self.now c.formats.set c.formats.format-index c.takes.result low c.takes.ensures c.formats.invariant w.if-takes.false in
          rw w.set-is next
          )
    ]
