use Rattle.std.proofs.Common.{rules, inl, inr}
use Rattle.std.specs.Int.{w128}
use Rattle.std.proofs.lemmas.Int.{to_z-of_z}
use Rattle.filt_expr.specs.Crop.{crop_outcome}
use Rattle.filt_expr.proofs.crop.CropSettingsFrameRule.settle.Goals as goal

pub returns-in_err-width : goal.returns-in_err-width
unfolding crop_outcome
returns-in_err-width c = let none = c.in_err-width.ensures.err _ c.size_values.ensures in inl (none.1, search rules)

pub returns-in_err-height : goal.returns-in_err-height
unfolding crop_outcome
returns-in_err-height c =
    let w = to_z-of_z w128 c.in_ok-width.width (search rules) in
    let width = rw c.grid-across.ensures.across at (c.in_ok-width.ensures.ok _ c.size_values.ensures) in
    let none = rw w at (c.in_err-height.ensures.err _ c.size_values-2.ensures) in
    inr (_, width, inl (none.1, search rules))

pub returns-in_err-x : goal.returns-in_err-x
unfolding crop_outcome
returns-in_err-x c =
    let w = to_z-of_z w128 c.in_ok-width.width (search rules) in
    let h = to_z-of_z w128 c.in_ok-height.height (search rules) in
    let width = rw c.grid-across.ensures.across at (c.in_ok-width.ensures.ok _ c.size_values.ensures) in
    let height = rw (w, c.grid-across.ensures.down) at (c.in_ok-height.ensures.ok _ c.size_values-2.ensures) in
    let none = rw (w, h) at (c.in_err-x.ensures.err _ c.size_values-values.ensures) in
    inr (_, width, inr (_, height, inl (none.1, search rules)))

pub returns-in_err-y : goal.returns-in_err-y
unfolding crop_outcome
returns-in_err-y c =
    let w = to_z-of_z w128 c.in_ok-width.width (search rules) in
    let h = to_z-of_z w128 c.in_ok-height.height (search rules) in
    let width = rw c.grid-across.ensures.across at (c.in_ok-width.ensures.ok _ c.size_values.ensures) in
    let height = rw (w, c.grid-across.ensures.down) at (c.in_ok-height.ensures.ok _ c.size_values-2.ensures) in
    let column = rw (w, h) at (c.in_ok-x.ensures.ok _ c.size_values-values.ensures) in
    let none = rw (w, h) at (c.in_err-y.ensures.err _ c.size_values-values.ensures) in
    inr (_, width, inr (_, height, inr (_, column, inl (none.1, search rules))))

pub returns : goal.returns
unfolding crop_outcome
returns c =
    let w = to_z-of_z w128 c.in_ok-width.width (search rules) in
    let h = to_z-of_z w128 c.in_ok-height.height (search rules) in
    let x = to_z-of_z w128 c.in_ok-x.x (search rules) in
    let y = to_z-of_z w128 c.in_ok-y.y (search rules) in
    let width = rw c.grid-across.ensures.across at (c.in_ok-width.ensures.ok _ c.size_values.ensures) in
    let height = rw (w, c.grid-across.ensures.down) at (c.in_ok-height.ensures.ok _ c.size_values-2.ensures) in
    let column = rw (w, h) at (c.in_ok-x.ensures.ok _ c.size_values-values.ensures) in
    let row = rw (w, h) at (c.in_ok-y.ensures.ok _ c.size_values-values.ensures) in
    inr (_, width, inr (_, height, inr (_, column, inr (_, row, rw (w, h, x, y) at c.check.ensures))))
