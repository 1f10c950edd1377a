use Rattle.std.proofs.Common.{◌≡◌, take}
use Rattle.av_filter.specs.Options.{any_named}
use Rattle.av_filter.proofs.OptionLemmas.{AreRead}
use Rattle.av_filter.proofs.options.read_arguments.Given as goal

abbrev pub invariant-reading : goal.invariant-reading
invariant-reading g l = record {
  late : l.is_late ≡ any_named (take l.place l.args);
  read : AreRead g.O.Options.rules.count g.O.Options.rules.names g.O.Options.rules.takes (g.O.Options.rules.has l.options) l.args l.place;
}
