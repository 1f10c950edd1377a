use Rattle.std.proofs.Common.{rules, inl, inr}
use Rattle.std.specs.Int.{w128}
use Rattle.std.proofs.lemmas.Int.{to_z-of_z}
use Rattle.filt_expr.proofs.pad.PadOptions.place.Goals as goal

pub returns-in_err-x : goal.returns-in_err-x
returns-in_err-x c =
    let w = to_z-of_z w128 c.args.width (search rules) in
    let h = to_z-of_z w128 c.args.height (search rules) in
    let none = rw (w, h) at (c.in_err-x.ensures.err _ c.size_values-values.ensures) in
    inl (none.1, search rules)

pub returns-in_err-y : goal.returns-in_err-y
returns-in_err-y c =
    let w = to_z-of_z w128 c.args.width (search rules) in
    let h = to_z-of_z w128 c.args.height (search rules) in
    let none = rw (w, h) at (c.in_err-y.ensures.err _ c.size_values-values.ensures) in
    inr (_, rw (w, h) at (c.in_ok-x.ensures.ok _ c.size_values-values.ensures), inl (none.1, search rules))

pub returns : goal.returns
returns c =
    let w = to_z-of_z w128 c.args.width (search rules) in
    let h = to_z-of_z w128 c.args.height (search rules) in
    let x = to_z-of_z w128 c.in_ok-x.x (search rules) in
    let y = to_z-of_z w128 c.in_ok-y.y (search rules) in
    let column = rw (w, h) at (c.in_ok-x.ensures.ok _ c.size_values-values.ensures) in
    let row = rw (w, h) at (c.in_ok-y.ensures.ok _ c.size_values-values.ensures) in
    inr (_, column, inr (_, row, rw (w, h, x, y) at c.check.ensures))
