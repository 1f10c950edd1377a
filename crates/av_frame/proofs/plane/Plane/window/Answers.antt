use Rattle.std.proofs.Common.{ap, sym, subst, arith, length}
use Rattle.av_frame.specs.declared.geometry.Geometry.{Geometry}
use Rattle.av_frame.specs.Geometries.{Fitted}
use Rattle.av_frame.specs.Rasters.{Raster}
use Rattle.av_frame.proofs.WindowLemmas.{window_Fitted, window_samples}
use Rattle.av_frame.proofs.plane.Plane.window.Goals as goal

pub invariant_of-self : goal.invariant_of-self
invariant_of-self c =
    let i = c.self.inside in
    let width = ap (λ (x : Raster). x.width) c.self.view_is in
    let height = ap (λ (x : Raster). x.height) c.self.view_is in
    subst (λ (g : Geometry). Fitted g (length i.page)) (sym c.window_of-self-inside.ensures)
    (window_Fitted i.geometry (length i.page) c.args.x c.args.y c.args.width c.args.height c.self.invariant c.requires.some (omega arith) (omega arith))

pub returns : goal.returns
returns c =
    let i = c.self.inside in
    window_samples i.geometry c.window_of-self-inside.result i.page c.args.x c.args.y c.args.width c.args.height c.args.self.now c.self.view_is c.window_of-self-inside.ensures c.self.invariant c.requires.some c.requires.columns c.requires.rows
