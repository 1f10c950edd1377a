use Rattle.std.proofs.Common.{sym, subst, rules, arith}
use Rattle.std.specs.Int.{w64}
use Rattle.std.proofs.lemmas.Int.{to_z-of_z}
use Rattle.std.proofs.lemmas.List.{with_items_is}
use Rattle.av_frame.specs.Frames.{IsPicture}
use Rattle.av_frame.proofs.PlanesLemmas.{windowed_picture, windowed_frame}
use Rattle.av_frame.proofs.frame.Frame.window.Goals as goal

pub new-requires-clause-picture : goal.new-requires-clause-picture
new-requires-clause-picture c =
    let i = c.self.inside in
    let kept = with_items_is i.planes c.window_planes.new.planes (let a = c.window_planes.auto.planes in let b = c.deref_mut.ensures.len in omega arith) in
    subst (IsPicture c.args.shape) (sym kept)
    (windowed_picture i.shape c.args.shape c.args.x c.args.y i.planes.items c.deref_mut.result.now c.window_planes.new.planes c.deref_mut.ensures.value c.window_planes.ensures c.requires.lawful c.requires.video c.self.invariant.picture)

pub returns : goal.returns
returns c =
    let i = c.self.inside in
    let kept = with_items_is i.planes c.window_planes.new.planes (let a = c.window_planes.auto.planes in let b = c.deref_mut.ensures.len in omega arith) in
    windowed_frame i.shape c.args.shape c.args.x c.args.y i.planes.items c.deref_mut.result.now c.window_planes.new.planes _ i.pts i.duration _ _ c.args.self c.new.result c.self.view_is c.deref_mut.ensures.value kept c.window_planes.ensures
    (to_z-of_z w64 i.pts (search rules)) (to_z-of_z w64 i.duration (search rules)) c.new.ensures
