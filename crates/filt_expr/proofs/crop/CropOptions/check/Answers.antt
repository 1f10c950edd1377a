use Rattle.std.proofs.Common.{rules, inl, inr, ap, Ok}
use Rattle.std.specs.Int.{w128}
use Rattle.std.proofs.lemmas.Int.{to_z-of_z}
use Rattle.filt_expr.proofs.CropLemmas.{same_settings}
use Rattle.filt_expr.proofs.crop.CropOptions.check.Goals as goal

pub returns-in_err-width : goal.returns-in_err-width
returns-in_err-width c =
    let bad = rw (to_z-of_z w128 c.args.size.0 (search rules), c.picture_size-in_width.ensures.width) at c.in_err-width.ensures.err in
    inl (bad.0, search rules)

pub returns-in_err-height : goal.returns-in_err-height
returns-in_err-height c =
    let wide = rw (to_z-of_z w128 c.args.size.0 (search rules), c.picture_size-in_width.ensures.width) at c.in_ok-width.ensures.ok in
    let bad = rw (to_z-of_z w128 c.args.size.1 (search rules), c.picture_size-in_width.ensures.height) at c.in_err-height.ensures.err in
    inr (wide.1, inl (bad.0, search rules))

pub returns-in_err-check_limits : goal.returns-in_err-check_limits
returns-in_err-check_limits c =
    let wide = rw (to_z-of_z w128 c.args.size.0 (search rules), c.picture_size-in_width.ensures.width) at c.in_ok-width.ensures.ok in
    let high = rw (to_z-of_z w128 c.args.size.1 (search rules), c.picture_size-in_width.ensures.height) at c.in_ok-height.ensures.ok in
    let past = rw (c.into.ensures, c.into-2.ensures) at c.in_err-check_limits.ensures.large in
    inr (wide.1, inr (high.1, (_, _, wide.0, high.0, inl (_, past, search rules))))

pub returns : goal.returns
returns c =
    let wide = rw (to_z-of_z w128 c.args.size.0 (search rules), c.picture_size-in_width.ensures.width) at c.in_ok-width.ensures.ok in
    let high = rw (to_z-of_z w128 c.args.size.1 (search rules), c.picture_size-in_width.ensures.height) at c.in_ok-height.ensures.ok in
    let small = rw (c.into.ensures, c.into-2.ensures) at c.in_ok-check_limits.ensures.small in
    let x = rw (to_z-of_z w128 c.args.place.0 (search rules), c.picture_size-in_width.ensures.width) at c.settled.ensures in
    let y = rw (to_z-of_z w128 c.args.place.1 (search rules), c.picture_size-in_width.ensures.height) at c.settled-2.ensures in
    let is = same_settings c.args.self.now c.args.shape _ _ _ _ _ c.grid-across.ensures.across c.grid-across.ensures.down x y in
    inr (wide.1, inr (high.1, (_, _, wide.0, high.0, inr (small, ap Ok is))))
