use Rattle.std.proofs.Common.{take}
use Rattle.graph_formats.specs.Listings.{AreWished}
use Rattle.graph_formats.proofs.slow_choice.are_wished.Given as goal

abbrev pub invariant-wishes : goal.invariant-wishes
invariant-wishes l = AreWished (take l.wish-index l.wishes) l.formats
