-- The laws of the filters of this crate, in the order of their names.
use Rattle.av_filter.specs.RuleSets.{CatalogueLaws, with_laws}
use Rattle.av_filter.specs.JoinedSets.{last_laws}
use Rattle.av_filter.specs.Wrappers.{wrapped_laws}
use Rattle.filt_expr.specs.CropLaws.{crop_laws}
use Rattle.filt_expr.specs.PadLaws.{pad_laws}
use Rattle.filt_expr.specs.LutyuvLaws.{lutyuv_laws}
use Rattle.filt_expr.specs.ExprFilters.{expr_list, in_options, in_settings, expr_filters}

pub expr_list_laws : CatalogueLaws expr_list
expr_list_laws =
    with_laws crop_laws (
    with_laws lutyuv_laws (
    last_laws pad_laws))

pub expr_filter_laws : CatalogueLaws expr_filters
expr_filter_laws = wrapped_laws {c = expr_list} in_options in_settings expr_list_laws
