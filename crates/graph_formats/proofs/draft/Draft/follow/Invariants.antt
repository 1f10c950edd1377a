use Rattle.graph_formats.proofs.WalkLemmas.{Following, depth}
use Rattle.graph_formats.proofs.draft.Draft.follow.Given as goal

abbrev pub invariant-ties : goal.invariant-ties
invariant-ties g l = Following g.tour l.initial.self l.demands.ties l.link l.format l.next l.self

abbrev pub decreases-ties : goal.decreases-ties
decreases-ties g l = depth l.next
