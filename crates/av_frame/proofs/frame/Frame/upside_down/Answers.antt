use Rattle.std.proofs.Common.{sym, subst, rules, arith}
use Rattle.std.specs.Int.{w64}
use Rattle.std.proofs.lemmas.Int.{to_z-of_z}
use Rattle.std.proofs.lemmas.List.{with_items_is}
use Rattle.av_frame.specs.Frames.{IsPicture}
use Rattle.av_frame.proofs.PlanesLemmas.{turned_picture, turned_frame}
use Rattle.av_frame.proofs.frame.Frame.upside_down.Goals as goal

pub new-requires-clause-picture : goal.new-requires-clause-picture
new-requires-clause-picture c =
    let i = c.self.inside in
    let kept = with_items_is i.planes c.turn_planes.new.planes (let a = c.turn_planes.auto.planes in let b = c.deref_mut.ensures.len in omega arith) in
    subst (IsPicture i.shape) (sym kept) (turned_picture i.shape i.planes.items c.deref_mut.result.now c.turn_planes.new.planes c.deref_mut.ensures.value c.turn_planes.ensures c.self.invariant.picture)

pub returns : goal.returns
returns c =
    let i = c.self.inside in
    let kept = with_items_is i.planes c.turn_planes.new.planes (let a = c.turn_planes.auto.planes in let b = c.deref_mut.ensures.len in omega arith) in
    turned_frame i.shape i.planes.items c.deref_mut.result.now c.turn_planes.new.planes _ i.pts i.duration _ _ c.args.self c.new.result c.self.view_is c.deref_mut.ensures.value kept c.turn_planes.ensures
    (to_z-of_z w64 i.pts (search rules)) (to_z-of_z w64 i.duration (search rules)) c.new.ensures
