use Rattle.std.proofs.Common.{◌<◌, arith, length, take, get_or, refl}
use Rattle.std.proofs.lemmas.List.{take_more}
use Rattle.std.proofs.lemmas.List.Elements.{Contains-get_or}
use Rattle.std.proofs.lemmas.Option.{slice_get_read}
use Rattle.graph_formats.specs.declared.request.Wish.{Wish}
use Rattle.graph_formats.proofs.DemandLemmas.{no_wish, narrowed_none, narrowed_more}
use Rattle.graph_formats.proofs.demands.narrow.Goals as goal

pub wishes-init : goal.wishes-init
wishes-init c = narrowed_none c.args.links c.in_ok-sets.sets.items c.all.result (c.in_ok-sets.ensures.items_if_clones_equal (λ y is. is)) c.all.ensures.formats

pub index-requires : goal.index-requires
index-requires c =
    let wish : Wish = get_or c.args.wishes.now c.wishes.wish-index no_wish in
    let low : wish.link < c.args.links = c.requires wish (Contains-get_or c.args.wishes.now c.wishes.wish-index no_wish (omega arith)) in
    let each = c.wishes.invariant.each in
    omega (arith, c.wishes.sets.ok)

pub index_mut-requires : goal.index_mut-requires
index_mut-requires c =
    let wish : Wish = get_or c.args.wishes.now c.wishes.wish-index no_wish in
    let low : wish.link < c.args.links = c.requires wish (Contains-get_or c.args.wishes.now c.wishes.wish-index no_wish (omega arith)) in
    let each = c.wishes.invariant.each in
    omega (arith, c.wishes.sets.ok)

pub wishes-preserved : goal.wishes-preserved
wishes-preserved c =
    let wish : Wish = get_or c.args.wishes.now c.wishes.wish-index no_wish in
    let low : wish.link < c.args.links = c.requires wish (Contains-get_or c.args.wishes.now c.wishes.wish-index no_wish (omega arith)) in
    let each = c.wishes.invariant.each in
    rw (take_more c.args.wishes.now c.wishes.wish-index no_wish (omega arith))
    (narrowed_more c.args.links (take c.wishes.wish-index c.args.wishes.now) wish c.wishes.sets.items c.index.result.now c.both-set.result c.wishes.invariant
    (slice_get_read c.wishes.sets.items (length c.wishes.sets.items) wish.link c.index.result.now refl (omega arith) c.index.ensures) c.both-set.ensures.formats)
