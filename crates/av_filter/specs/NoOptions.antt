-- Filters without options.
use Rattle.std.specs.Prelude.{[]}
use Rattle.av_filter.specs.Meanings.{OptionRules, is_complete}
use Rattle.av_filter.specs.declared.options.NoOptions.{NoOptions}

abbrev pub no_rules : OptionRules NoOptions
no_rules = record { count = 0; names = []; takes = λ o text. ⊥; has = λ options o text. Unit {0}; completes = is_complete }
