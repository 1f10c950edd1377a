-- Numbers as faults show them, and chroma steps.
use Rattle.std.proofs.Common.{◌≡◌, ◌<◌, ◌≤◌, ◌-◌, ◌^◌, ◌⊎◌, ℕ, ℤ, Bool, true, false, sym, ◌∙◌, ap, inl, inr, refl, arith}
use Rattle.std.specs.Prelude.{pos, negsuc, ◌%◌, ◌≤ℤ◌, if◌then◌else◌}
use Rattle.std.specs.Int.{saturate_signed, w128}
use Rattle.std.proofs.lemmas.Int.{ints}
use Rattle.std.proofs.Math.Nat.{mod-le, min-eq_left, min-eq_right}
use Rattle.std.proofs.lemmas.Bool.{lt-ltb, cases_order}
use Rattle.av_base.specs.Planes.{halves_columns, halves_rows}
use Rattle.av_base.specs.Shapes.{pixel_format_of}
use Rattle.av_base.specs.declared.shapes.Shape.{Shape}
use Rattle.av_frame.specs.Grid.{step_across, step_down}
use Rattle.filt_expr.specs.Geometry.{on_grid, shown}

shown_high : (k : ℕ) → 2 ^ 63 - 1 < k → shown (pos k) ≡ pos (2 ^ 63 - 1)
shown_high k past = rw (lt-ltb (2 ^ 63 - 1) k past) refl

-- a number is shown as it was before it was brought into 128 bits
pub shown_saturated : (z : ℤ) → pos 0 ≤ℤ z → shown (saturate_signed w128 z) ≡ shown z
shown_saturated (pos n) low = elim (cases_order n (2 ^ 127 - 1)) [
  | inl same ↦ (let fits : n ≤ 2 ^ 127 - 1 = omega (arith, same) in ap (λ (k : ℕ). shown (pos k)) (min-eq_left fits))
  | inr (inl below) ↦ (let fits : n ≤ 2 ^ 127 - 1 = omega (arith, below) in ap (λ (k : ℕ). shown (pos k)) (min-eq_left fits))
  | inr (inr past) ↦ (let fits : 2 ^ 127 - 1 ≤ n = omega (arith, past) in ap (λ (k : ℕ). shown (pos k)) (min-eq_right fits) ∙ (shown_high (2 ^ 127 - 1) (omega arith) ∙ sym (shown_high n (omega (arith, past)))))
]
shown_saturated (negsuc n) low = absurd (omega (arith, ints, low))

abbrev pick : Bool → ℕ
pick b = if b then 2 else 1

step_is : (b : Bool) → (pick b ≡ 1) ⊎ (pick b ≡ 2)
step_is true = inr refl
step_is false = inl refl

-- a chroma step is 1 or 2
pub step_across_is : (s : Shape) → (step_across s ≡ 1) ⊎ (step_across s ≡ 2)
step_across_is s = step_is (halves_columns (pixel_format_of s.format))

pub step_down_is : (s : Shape) → (step_down s ≡ 1) ⊎ (step_down s ≡ 2)
step_down_is s = step_is (halves_rows (pixel_format_of s.format))

-- ---- the grid

grid_low : (step m : ℕ) → (n : ℕ) × (on_grid step (pos m) ≡ pos n)
grid_low step m = let less = mod-le m step in (m - m % step, omega (arith, ints, less))

pub place_low : (step : ℕ) (mid : ℤ) → pos 0 ≤ℤ mid → (n : ℕ) × (on_grid step mid ≡ pos n)
place_low step (pos m) low = grid_low step m
place_low step (negsuc m) low = absurd (omega (arith, ints, low))

pub grid_stays : (step : ℕ) (z : ℤ) → pos 0 ≤ℤ z → pos 0 ≤ℤ on_grid step z
grid_stays step z low = let n = place_low step z low in rw n.1 (omega (arith, ints))
