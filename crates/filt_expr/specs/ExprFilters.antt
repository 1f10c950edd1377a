-- The filters of this crate, in the order of their names.
use Rattle.std.specs.Prelude.{refl}
use Rattle.av_filter.specs.RuleSets.{Catalogue, with_filter}
use Rattle.av_filter.specs.JoinedSets.{last_filter}
use Rattle.av_filter.specs.Wrappers.{Wrapper, wrapped_filters}
use Rattle.filt_expr.specs.Crop.{crop}
use Rattle.filt_expr.specs.Pad.{pad}
use Rattle.filt_expr.specs.Lutyuv.{lutyuv}
use Rattle.filt_expr.specs.declared.set.ExprOptions.{ExprOptions}
use Rattle.filt_expr.specs.declared.set.ExprSettings.{ExprSettings}

abbrev pub expr_list : Catalogue
expr_list =
    with_filter crop (
    with_filter lutyuv (
    last_filter pad))

abbrev pub in_options : Wrapper expr_list.Options ExprOptions
in_options = record { inside = λ o. o.options; wrap = λ o. record { options = o }; same = λ o. refl }

abbrev pub in_settings : Wrapper expr_list.Settings ExprSettings
in_settings = record { inside = λ t. t.rule; wrap = λ r. record { rule = r }; same = λ r. refl }

abbrev pub expr_filters : Catalogue
expr_filters = wrapped_filters expr_list in_options in_settings
