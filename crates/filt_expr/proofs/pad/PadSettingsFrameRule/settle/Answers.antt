use Rattle.std.proofs.Common.{rules, inl, inr}
use Rattle.std.specs.Int.{w128}
use Rattle.std.proofs.lemmas.Int.{to_z-of_z}
use Rattle.filt_expr.specs.Pad.{pad_outcome}
use Rattle.filt_expr.proofs.pad.PadSettingsFrameRule.settle.Goals as goal

pub returns-in_err-width : goal.returns-in_err-width
unfolding pad_outcome
returns-in_err-width c = let none = c.in_err-width.ensures.err _ c.size_values.ensures in inl (none.1, search rules)

pub returns-in_err-height : goal.returns-in_err-height
unfolding pad_outcome
returns-in_err-height c =
    let w = to_z-of_z w128 c.in_ok-width.width (search rules) in
    let width = rw c.picture_size-in_width.ensures.width at (c.in_ok-width.ensures.ok _ c.size_values.ensures) in
    let none = rw w at (c.in_err-height.ensures.err _ c.size_values-2.ensures) in
    inr (_, width, inl (none.1, search rules))

pub returns : goal.returns
unfolding pad_outcome
returns c =
    let w = to_z-of_z w128 c.in_ok-width.width (search rules) in
    let h = to_z-of_z w128 c.in_ok-height.height (search rules) in
    let width = rw c.picture_size-in_width.ensures.width at (c.in_ok-width.ensures.ok _ c.size_values.ensures) in
    let height = rw (w, c.picture_size-in_width.ensures.height) at (c.in_ok-height.ensures.ok _ c.size_values-2.ensures) in
    inr (_, width, inr (_, height, rw (w, h) at c.place.ensures))
