use Rattle.std.proofs.Common.{arith, length, refl, None}
use Rattle.std.proofs.lemmas.List.{get_or_read}
use Rattle.std.proofs.lemmas.Option.{slice_get_read}
use Rattle.graph_formats.proofs.WalkLemmas.{link_low, set_at, following_start, tie_known, tie_less, apart_barren, other_low, refused_barren, follow_more, all_followed}
use Rattle.graph_formats.proofs.draft.Draft.follow.Goals as goal

pub index-format-requires : goal.index-format-requires
index-format-requires g c =
    let low = link_low g.tour c.args.self.now c.args.link c.requires.0 c.requires.1.1 in
    let each = c.requires.0.each_format in
    omega (arith, c.args.self.now.formats.ok)

pub index-next-requires : goal.index-next-requires
index-next-requires g c =
    let low = link_low g.tour c.args.self.now c.args.link c.requires.0 c.requires.1.1 in
    let each = c.requires.1.0.ties.each in
    omega (arith, c.args.demands.now.ties.heads.ok)

pub ties-init : goal.ties-init
ties-init g c =
    let low = link_low g.tour c.args.self.now c.args.link c.requires.0 c.requires.1.1 in
    let each = c.requires.0.each_format in
    let heads = c.requires.1.0.ties.each in
    let format = slice_get_read c.args.self.now.formats.items (length c.args.self.now.formats.items) c.args.link c.index-format.result.now refl (omega arith) c.index-format.ensures in
    let begin = get_or_read c.args.demands.now.ties.heads.items c.args.link c.index-next.result.now (omega arith) c.index-next.ensures None in
    following_start g.tour c.args.self.now c.args.demands.now.ties c.args.link c.index-format.result.now c.index-next.result.now c.requires.0 c.requires.1.0.ties c.requires.1.1 format begin

pub across-requires : goal.across-requires
across-requires g c = (tie_known g.tour c.args.self.now c.args.demands.now c.args.link c.index-format.result.now c.ties.next c.in-Some.place c.ties.self c.index-tie.result.now c.ties.invariant c.in-Some.is c.requires.1.0 c.index-tie.ensures).1

pub returns-in_default-across-clause-fails : goal.returns-in_default-across-clause-fails
returns-in_default-across-clause-fails g c same = apart_barren g.tour c.args.self.now c.args.demands.now c.args.link c.index-format.result.now c.ties.next c.in-Some.place c.ties.self c.index-tie.result.now c.ties.invariant c.in-Some.is c.requires.1.0 c.index-tie.ensures c.in_default-across.ensures

pub index-set-requires : goal.index-set-requires
index-set-requires g c =
    let low = other_low g.tour c.args.self.now c.args.demands.now c.args.link c.index-format.result.now c.ties.next c.in-Some.place c.ties.self c.index-tie.result.now c.ties.invariant c.in-Some.is c.requires.1.0 c.index-tie.ensures c.in-Some-across.other c.in-Some-across.wanted c.in-Some-across.ensures in
    let each = c.requires.1.0.sets.each in
    omega (arith, c.args.demands.now.sets.ok)

pub give-requires-clause-formats : goal.give-requires-clause-formats
give-requires-clause-formats g c =
    let low = other_low g.tour c.args.self.now c.args.demands.now c.args.link c.index-format.result.now c.ties.next c.in-Some.place c.ties.self c.index-tie.result.now c.ties.invariant c.in-Some.is c.requires.1.0 c.index-tie.ensures c.in-Some-across.other c.in-Some-across.wanted c.in-Some-across.ensures in
    let each = c.ties.invariant.walk.each_format in
    omega arith

pub give-requires-clause-marks : goal.give-requires-clause-marks
give-requires-clause-marks g c =
    let low = other_low g.tour c.args.self.now c.args.demands.now c.args.link c.index-format.result.now c.ties.next c.in-Some.place c.ties.self c.index-tie.result.now c.ties.invariant c.in-Some.is c.requires.1.0 c.index-tie.ensures c.in-Some-across.other c.in-Some-across.wanted c.in-Some-across.ensures in
    let each = c.ties.invariant.walk.each_mark in
    omega arith

pub returns-then-not-branch-clause-fails : goal.returns-then-not-branch-clause-fails
returns-then-not-branch-clause-fails g c same =
    let low = other_low g.tour c.args.self.now c.args.demands.now c.args.link c.index-format.result.now c.ties.next c.in-Some.place c.ties.self c.index-tie.result.now c.ties.invariant c.in-Some.is c.requires.1.0 c.index-tie.ensures c.in-Some-across.other c.in-Some-across.wanted c.in-Some-across.ensures in
    let set = set_at g.tour.asked c.args.demands.now c.in-Some-across.other c.index-set.result.now c.requires.1.0 low c.index-set.ensures in
    refused_barren g.tour c.args.self.now c.args.demands.now c.args.link c.index-format.result.now c.ties.next c.in-Some.place c.ties.self c.index-tie.result.now c.ties.invariant c.in-Some.is c.requires.1.0 c.index-tie.ensures c.in-Some-across.other c.in-Some-across.wanted c.in-Some-across.ensures c.index-set.result.now c.give.new.self set (rw c.if-not-branch.true at c.in_ok-give.ensures)

pub ties-smaller : goal.ties-smaller
ties-smaller g c = tie_less g.tour c.args.self.now c.args.demands.now c.args.link c.index-format.result.now c.ties.next c.in-Some.place c.ties.self c.index-tie.result.now c.ties.invariant c.in-Some.is c.requires.1.0 c.index-tie.ensures

pub ties-preserved : goal.ties-preserved
ties-preserved g c =
    let low = other_low g.tour c.args.self.now c.args.demands.now c.args.link c.index-format.result.now c.ties.next c.in-Some.place c.ties.self c.index-tie.result.now c.ties.invariant c.in-Some.is c.requires.1.0 c.index-tie.ensures c.in-Some-across.other c.in-Some-across.wanted c.in-Some-across.ensures in
    let set = set_at g.tour.asked c.args.demands.now c.in-Some-across.other c.index-set.result.now c.requires.1.0 low c.index-set.ensures in
    follow_more g.tour c.args.self.now c.args.demands.now c.args.link c.index-format.result.now c.ties.next c.in-Some.place c.ties.self c.index-tie.result.now c.ties.invariant c.in-Some.is c.requires.1.0 c.index-tie.ensures c.in-Some-across.other c.in-Some-across.wanted c.in-Some-across.ensures c.index-set.result.now c.give.new.self set (rw c.if-not-branch.false at c.in_ok-give.ensures)

pub returns-clause-followed : goal.returns-clause-followed
returns-clause-followed g c same = all_followed g.tour c.args.self.now c.args.demands.now.ties c.args.link c.index-format.result.now c.ties.self (rw c.in_default.is at c.ties.invariant)
