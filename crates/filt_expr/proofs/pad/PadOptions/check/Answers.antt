use Rattle.std.proofs.Common.{rules, inl, inr, ap, refl, Ok}
use Rattle.std.specs.Int.{w128}
use Rattle.std.proofs.lemmas.Int.{to_z-of_z}
use Rattle.filt_expr.proofs.GeometryLemmas.{step_down_is}
use Rattle.filt_expr.proofs.PadLemmas.{same_settings}
use Rattle.filt_expr.proofs.pad.PadOptions.check.Goals as goal

pub place-requires-2-clause-step : goal.place-requires-2-clause-step
place-requires-2-clause-step c = rw c.chroma_step-across.ensures.down (step_down_is c.args.shape)

pub returns-in_err-width : goal.returns-in_err-width
returns-in_err-width c =
    let wide = rw (to_z-of_z w128 c.args.size.0 (search rules), c.picture_size-in_width.ensures.width) at c.in_err-width.ensures.err in
    inl (wide.0, search rules)

pub returns-in_err-height : goal.returns-in_err-height
returns-in_err-height c =
    let wide = rw (to_z-of_z w128 c.args.size.0 (search rules), c.picture_size-in_width.ensures.width) at c.in_ok-width.ensures.ok in
    let high = rw (to_z-of_z w128 c.args.size.1 (search rules), c.picture_size-in_width.ensures.height) at c.in_err-height.ensures.err in
    inr (wide.1, inl (high.0, search rules))

pub returns-in_err-x : goal.returns-in_err-x
returns-in_err-x c =
    let wide = rw (to_z-of_z w128 c.args.size.0 (search rules), c.picture_size-in_width.ensures.width) at c.in_ok-width.ensures.ok in
    let high = rw (to_z-of_z w128 c.args.size.1 (search rules), c.picture_size-in_width.ensures.height) at c.in_ok-height.ensures.ok in
    let column = rw (to_z-of_z w128 c.args.size.0 (search rules), to_z-of_z w128 c.args.asked.0 (search rules), c.picture_size-in_width.ensures.width, c.chroma_step-across.ensures.across) at c.in_err-x.ensures.err in
    inr (wide.1, inr (high.1, inl (column.0, search rules)))

pub returns-in_err-y : goal.returns-in_err-y
returns-in_err-y c =
    let wide = rw (to_z-of_z w128 c.args.size.0 (search rules), c.picture_size-in_width.ensures.width) at c.in_ok-width.ensures.ok in
    let high = rw (to_z-of_z w128 c.args.size.1 (search rules), c.picture_size-in_width.ensures.height) at c.in_ok-height.ensures.ok in
    let column = rw (to_z-of_z w128 c.args.size.0 (search rules), to_z-of_z w128 c.args.asked.0 (search rules), c.picture_size-in_width.ensures.width, c.chroma_step-across.ensures.across) at c.in_ok-x.ensures.ok in
    let row = rw (to_z-of_z w128 c.args.size.1 (search rules), to_z-of_z w128 c.args.asked.1 (search rules), c.picture_size-in_width.ensures.height, c.chroma_step-across.ensures.down) at c.in_err-y.ensures.err in
    inr (wide.1, inr (high.1, inr (column.1, inl (row.0, search rules))))

pub returns-in_err-check_limits : goal.returns-in_err-check_limits
returns-in_err-check_limits c =
    let wide = rw (to_z-of_z w128 c.args.size.0 (search rules), c.picture_size-in_width.ensures.width) at c.in_ok-width.ensures.ok in
    let high = rw (to_z-of_z w128 c.args.size.1 (search rules), c.picture_size-in_width.ensures.height) at c.in_ok-height.ensures.ok in
    let column = rw (to_z-of_z w128 c.args.size.0 (search rules), to_z-of_z w128 c.args.asked.0 (search rules), c.picture_size-in_width.ensures.width, c.chroma_step-across.ensures.across) at c.in_ok-x.ensures.ok in
    let row = rw (to_z-of_z w128 c.args.size.1 (search rules), to_z-of_z w128 c.args.asked.1 (search rules), c.picture_size-in_width.ensures.height, c.chroma_step-across.ensures.down) at c.in_ok-y.ensures.ok in
    inr (wide.1, inr (high.1, inr (column.1, inr (row.1, (_, _, wide.0, high.0, inl (_, c.in_err-check_limits.ensures.large, search rules))))))

pub returns : goal.returns
returns c =
    let wide = rw (to_z-of_z w128 c.args.size.0 (search rules), c.picture_size-in_width.ensures.width) at c.in_ok-width.ensures.ok in
    let high = rw (to_z-of_z w128 c.args.size.1 (search rules), c.picture_size-in_width.ensures.height) at c.in_ok-height.ensures.ok in
    let column = rw (to_z-of_z w128 c.args.size.0 (search rules), to_z-of_z w128 c.args.asked.0 (search rules), c.picture_size-in_width.ensures.width, c.chroma_step-across.ensures.across) at c.in_ok-x.ensures.ok in
    let row = rw (to_z-of_z w128 c.args.size.1 (search rules), to_z-of_z w128 c.args.asked.1 (search rules), c.picture_size-in_width.ensures.height, c.chroma_step-across.ensures.down) at c.in_ok-y.ensures.ok in
    let is = same_settings c.args.self.now c.args.shape c.args.asked.0 c.args.asked.1 _ (rw wide.0 at column.0) (rw high.0 at row.0) refl in
    inr (wide.1, inr (high.1, inr (column.1, inr (row.1, (_, _, wide.0, high.0, inr (c.in_ok-check_limits.ensures.small, ap Ok is))))))
