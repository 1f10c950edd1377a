-- Sizes that pass a limit.
use Rattle.std.proofs.Common.{◌≡◌, ◌<◌, ◌≤◌, ◌-◌, ◌^◌, ℕ, ap, ◌∙◌, subst, sym, arith}
use Rattle.std.specs.Prelude.{min, Result, Ok, Err, IfErr}
use Rattle.av_base.specs.Planes.{picture_bytes_of}
use Rattle.av_base.specs.Shapes.{pixel_format_of}
use Rattle.av_base.specs.declared.shapes.Shape.{Shape}
use Rattle.av_frame.specs.declared.refusals.ConfigError.{ConfigError}
use Rattle.av_frame.specs.declared.refusals.ConfigError.TheVariants.{TooLarge}
use Rattle.av_filter.specs.Limits.{PassesLimit, TooWide, TooHigh, TooBig}

pub too_wide : (s : Shape) (w h : ℕ) (e : ConfigError) → 8192 < w → e ≡ TooLarge (min w (2 ^ 64 - 1)) 8192 → PassesLimit s w h e
too_wide s w h e past is = subst (PassesLimit s w h) (sym is) (TooWide past)

pub too_high : (s : Shape) (w h : ℕ) (e : ConfigError) → w ≤ 8192 → 8192 < h → e ≡ TooLarge (min h (2 ^ 64 - 1)) 8192 → PassesLimit s w h e
too_high s w h e fits past is = subst (PassesLimit s w h) (sym is) (TooHigh fits past)

pub too_big : (s : Shape) (w h n : ℕ) (r : Result (Unit {0}) ConfigError) → w ≤ 8192 → h ≤ 8192 → n < 2 ^ 64 → n ≡ picture_bytes_of (pixel_format_of s.format) w h
    → IfErr r (λ e. (2 ^ 26 < n) × (e ≡ TooLarge (min n (2 ^ 64 - 1)) (2 ^ 26))) → IfErr r (PassesLimit s w h)
too_big s w h n (Ok x) wide high fits is large = tt
too_big s w h n (Err e) wide high fits is large =
    subst (PassesLimit s w h) (sym (large.1 ∙ ap (λ (k : ℕ). TooLarge k (2 ^ 26)) (small ∙ is))) (TooBig wide high (subst (λ (k : ℕ). 2 ^ 26 < k) is large.0))
  where
    small : min n (2 ^ 64 - 1) ≡ n
    small = omega (arith, fits)
