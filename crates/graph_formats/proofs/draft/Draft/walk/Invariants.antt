use Rattle.std.proofs.Common.{◌+◌, ◌-◌, not, length}
use Rattle.std.specs.List.{count_by}
use Rattle.graph_formats.proofs.PartLemmas.{Walking}
use Rattle.graph_formats.proofs.draft.Draft.walk.Given as goal

abbrev pub ghost-follow : goal.ghost-follow
ghost-follow g a = g.tour

abbrev pub invariant-links : goal.invariant-links
invariant-links g l = Walking g.tour l.self l.followed

abbrev pub decreases-links : goal.decreases-links
decreases-links g l = (length l.self.reached.items + count_by not l.self.given.items) - l.followed
