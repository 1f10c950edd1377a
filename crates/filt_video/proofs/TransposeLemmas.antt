-- The steps of transpose, at the places where its code ends.
use Rattle.std.proofs.Common.{◌≡◌, Bool, Ok, Err, refl, ◌∙◌, ap, subst, inl, inr}
use Rattle.av_base.specs.Shapes.{width_of, height_of}
use Rattle.av_base.specs.declared.shapes.Shape.{Shape}
use Rattle.av_filter.specs.Limits.{IsSmall, PassesLimit}
use Rattle.av_frame.specs.declared.refusals.ConfigError.{ConfigError}
use Rattle.filt_video.specs.Transpose.{passes, transpose_settings, transposed_shape, transpose_outcome}
use Rattle.filt_video.specs.declared.transpose.TransposeOptions.{TransposeOptions}
use Rattle.filt_video.specs.declared.transpose.TransposeSettings.{TransposeSettings}

pub settings_are : (o : TransposeOptions) (s : Shape) (b : Bool) → b ≡ passes o.passthrough s → record { dir = o.dir; passes = b } ≡ transpose_settings o s
settings_are o s b e = ap (λ (z : Bool). record { dir = o.dir; passes = z }) e

pub large : (o : TransposeOptions) (s out : Shape) (t : TransposeSettings) (e : ConfigError) → t ≡ transpose_settings o s → out ≡ transposed_shape t s
    → PassesLimit out (width_of out.props) (height_of out.props) e → transpose_outcome o s (Err e)
unfolding transpose_outcome
large o s out t e is shape past =
    let same : out ≡ transposed_shape (transpose_settings o s) s = shape ∙ ap (λ (z : TransposeSettings). transposed_shape z s) is in
    inl (e, subst (λ (z : Shape). PassesLimit z (width_of z.props) (height_of z.props) e) same past, refl)

pub settled : (o : TransposeOptions) (s out : Shape) (t : TransposeSettings) → t ≡ transpose_settings o s → out ≡ transposed_shape t s
    → IsSmall out (width_of out.props) (height_of out.props) → transpose_outcome o s (Ok t)
unfolding transpose_outcome
settled o s out t is shape small =
    let same : out ≡ transposed_shape (transpose_settings o s) s = shape ∙ ap (λ (z : TransposeSettings). transposed_shape z s) is in
    inr (subst (λ (z : Shape). IsSmall z (width_of z.props) (height_of z.props)) same small, ap Ok is)
