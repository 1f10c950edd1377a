use Rattle.std.proofs.Common.{◌≡◌, ◌<◌, ℤ, pos, ◌≤ℤ◌, unsigned_abs, arith}
use Rattle.std.proofs.lemmas.Int.{ints, to_z-of_z}
use mir.Syntax.{w32}
use Rattle.av_frame.proofs.PictureLemmas.{IsPicture-set_sample}
use Rattle.av_frame.proofs.edit.Edit.set.Goals as goal

small_abs : (x z : ℤ) → x ≡ z → pos 0 ≤ℤ z → z ≤ℤ pos 255 → unsigned_abs x < 256
small_abs x z e low high = omega (arith, ints)

pub invariant_of-self : goal.invariant_of-self
invariant_of-self c =
    let i = c.self.inside in
    IsPicture-set_sample i.shape i.planes.items c.args.self.now c.args.plane c.args.row c.args.column _ c.index_mut.result.now c.set.new.self c.self.view_is c.self.invariant
    c.requires.plane c.index_mut.ensures.value c.set.ensures c.requires.row (small_abs _ c.args.value (to_z-of_z w32 c.args.value c.ranges.value) c.requires.low c.requires.high)
