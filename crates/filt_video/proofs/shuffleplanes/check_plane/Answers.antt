use Rattle.std.proofs.Common.{get_or, arith, refl, rules, sym, ◌∙◌}
use Rattle.std.proofs.lemmas.Int.{to_z-of_z}
use mir.Syntax.{w64}
use Rattle.filt_video.proofs.ShuffleLemmas.{no_plane, other_size, differ, same}
use Rattle.filt_video.proofs.shuffleplanes.check_plane.Goals as goal

pub returns-then-from-planes-clause-refused : goal.returns-then-from-planes-clause-refused
returns-then-from-planes-clause-refused c =
    no_plane c.args.shape c.args.order.maps c.args.plane _ c.planes-planes.result _ _
    (to_z-of_z w64 c.from.result (search rules) ∙ c.from.ensures)
    (to_z-of_z w64 c.from-then-from-planes.result (search rules) ∙ c.from-then-from-planes.ensures) refl c.planes-planes.ensures c.if-from-planes.true

pub returns-then-ne-clause-refused : goal.returns-then-ne-clause-refused
returns-then-ne-clause-refused c =
    let a = c.plane_size.ensures in
    let b = c.plane_size-2.ensures in
    let n = get_or c.args.order.maps c.args.plane 0 in
    rw (c.from-then-ne.ensures, c.from-then-ne-2.ensures)
    (other_size c.args.shape c.args.order.maps c.args.plane c.args.plane n refl refl (omega arith)
    (λ h. differ c.plane_size.result.0 c.plane_size-2.result.0 c.plane_size.result.1 c.plane_size-2.result.1 c.if-ne.ensures (a.columns ∙ (h.0 ∙ sym b.columns), a.rows ∙ (h.1 ∙ sym b.rows))))

pub returns-clause-sound : goal.returns-clause-sound
returns-clause-sound c =
    let e = same _ _ _ _ c.if-ne.ensures in
    let a = c.plane_size.ensures in
    let b = c.plane_size-2.ensures in
    (omega arith, (sym a.columns ∙ (e.0 ∙ b.columns), sym a.rows ∙ (e.1 ∙ b.rows)))
