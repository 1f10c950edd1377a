use Rattle.std.proofs.Common.{◌<◌, ◌≤◌, arith, ap, length, refl, Ok}
use Rattle.std.proofs.lemmas.Option.{slice_get_read}
use Rattle.av_base.proofs.Lists.{contained}
use Rattle.graph_formats.proofs.PartLemmas.{begun, not_begun, walking_more, walking_less, walking_all}
use Rattle.graph_formats.proofs.draft.Draft.walk.Goals as goal

pub returns-then-not-branch-clause-walk : goal.returns-then-not-branch-clause-walk
returns-then-not-branch-clause-walk g c = (not_begun g.tour c.args.root c.args.format c.args.self.now (record c.args.self.now { reached = c.clear.new.self }) c.give.new.self c.args.demands.now c.index-set.result.now c.requires.0 c.requires.1.0 c.requires.1.1.0 c.requires.1.1.1.0 c.requires.1.1.1.1
    refl refl c.clear.ensures.items c.index-set.ensures (rw c.if-not-branch.true at c.in_ok-give.ensures)).0

pub returns-then-not-branch-clause-fails : goal.returns-then-not-branch-clause-fails
returns-then-not-branch-clause-fails g c same = (not_begun g.tour c.args.root c.args.format c.args.self.now (record c.args.self.now { reached = c.clear.new.self }) c.give.new.self c.args.demands.now c.index-set.result.now c.requires.0 c.requires.1.0 c.requires.1.1.0 c.requires.1.1.1.0 c.requires.1.1.1.1
    refl refl c.clear.ensures.items c.index-set.ensures (rw c.if-not-branch.true at c.in_ok-give.ensures)).1

pub links-init : goal.links-init
links-init g c = begun g.tour c.args.root c.args.format c.args.self.now (record c.args.self.now { reached = c.clear.new.self }) c.give.new.self c.args.demands.now c.index-set.result.now c.requires.0 c.requires.1.0 c.requires.1.1.0 c.requires.1.1.1.0 c.requires.1.1.1.1
    refl refl c.clear.ensures.items c.index-set.ensures (rw c.if-not-branch.false at c.in_ok-give.ensures)

pub follow-requires : goal.follow-requires
follow-requires g c =
    let within : c.links.followed < length c.links.self.reached.items = omega (arith, c.links-test.true, c.len.ensures, c.links.self.reached.ok) in
    let at = slice_get_read c.links.self.reached.items (length c.links.self.reached.items) c.links.followed c.index-link.result.now refl within c.index-link.ensures in
    (c.links.invariant.walk, (c.requires.1.1.0, contained c.links.self.reached.items c.links.followed c.index-link.result.now at))

pub returns-then-not-branch-2-clause-walk : goal.returns-then-not-branch-2-clause-walk
returns-then-not-branch-2-clause-walk g c = c.in_ok-follow.ensures.walk

pub returns-then-not-branch-2-clause-fails : goal.returns-then-not-branch-2-clause-fails
returns-then-not-branch-2-clause-fails g c same = c.in_ok-follow.ensures.fails (ap Ok c.if-not-branch-2.true)

pub links-smaller : goal.links-smaller
links-smaller g c =
    let within : c.links.followed < length c.links.self.reached.items = omega (arith, c.links-test.true, c.len.ensures, c.links.self.reached.ok) in
    walking_less g.tour c.links.self c.follow.new.self c.links.followed c.links.invariant.walk c.in_ok-follow.ensures.walk within

pub links-preserved : goal.links-preserved
links-preserved g c =
    let within : c.links.followed < length c.links.self.reached.items = omega (arith, c.links-test.true, c.len.ensures, c.links.self.reached.ok) in
    let at = slice_get_read c.links.self.reached.items (length c.links.self.reached.items) c.links.followed c.index-link.result.now refl within c.index-link.ensures in
    walking_more g.tour c.links.self c.follow.new.self c.links.followed c.index-link.result.now c.links.invariant at c.in_ok-follow.ensures.walk c.in_ok-follow.ensures.extends
    (c.in_ok-follow.ensures.followed (ap Ok c.if-not-branch-2.false))

pub returns-clause-walk : goal.returns-clause-walk
returns-clause-walk g c = c.links.invariant.walk

pub returns-clause-walked : goal.returns-clause-walked
returns-clause-walked g c same =
    let all : length c.links.self.reached.items ≤ c.links.followed = omega (arith, c.links-test.false, c.len.ensures, c.links.self.reached.ok) in
    walking_all g.tour c.links.self c.links.followed c.links.invariant all
