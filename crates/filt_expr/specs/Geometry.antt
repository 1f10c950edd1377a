-- Sizes and places in pictures, as expressions of filters give them (FFmpeg Filters Documentation, crop and pad).
use Rattle.std.specs.Prelude.{◌-◌, ◌^◌, ℕ, ℤ, pos, neg_ℤ, ◌-ℤ◌}
use Rattle.std.specs.Int.{int_rem_euclid, int_min, int_max}
use Rattle.av_base.specs.Shapes.{width_of, height_of}
use Rattle.av_base.specs.declared.shapes.Shape.{Shape}
use Rattle.av_base.specs.declared.shapes.Props.{Props}
use Rattle.av_base.specs.declared.shapes.Props.TheVariants as props
use Rattle.av_expr.specs.Fractions.{zero_fraction}
use Rattle.av_expr.specs.declared.vars.Var.{Var}
use Rattle.av_expr.specs.declared.vars.Var.TheVariants.{InW, InH, OutW, OutH, Hsub, Vsub}
use Rattle.av_expr.specs.declared.fraction.Fraction.{Fraction}
use Rattle.av_frame.specs.Grid.{step_across, step_down}
use Rattle.filt_expr.specs.Worth.{whole}

-- the greatest multiple of the step that isn't past the number
abbrev pub on_grid : ℕ → ℤ → ℤ
on_grid step z = z -ℤ int_rem_euclid z (pos step)

-- z, brought into low to high
abbrev pub within : ℤ → ℤ → ℤ → ℤ
within low high z = int_max low (int_min z high)

-- a number as a fault shows it: the nearest of 64 bits
abbrev pub shown : ℤ → ℤ
shown z = within (neg_ℤ (pos (2 ^ 63))) (pos (2 ^ 63 - 1)) z

-- the shape with another size
abbrev pub resized_props : ℕ → ℕ → Props → Props
resized_props w h (props.Video p) = props.Video (record p { width = w; height = h })
resized_props w h (props.Audio p) = props.Audio p

abbrev pub resized : ℕ → ℕ → Shape → Shape
resized w h s = record s { props = resized_props w h s.props }

-- the values of variables: the size of the input, that of the output as far as it is known, and the chroma steps
abbrev pub sizes : Shape → ℤ → ℤ → Var → Fraction
sizes s w h InW = whole (pos (width_of s.props))
sizes s w h InH = whole (pos (height_of s.props))
sizes s w h OutW = whole w
sizes s w h OutH = whole h
sizes s w h Hsub = whole (pos (step_across s))
sizes s w h Vsub = whole (pos (step_down s))
sizes s w h other = zero_fraction
