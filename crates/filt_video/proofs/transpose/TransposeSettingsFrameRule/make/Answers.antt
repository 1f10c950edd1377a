use Rattle.std.specs.Prelude.{◌≡◌, false}
use Rattle.filt_video.specs.TransposeLaws.{turned_pictured}
use Rattle.filt_video.proofs.transpose.TransposeSettingsFrameRule.make.Goals as goal

pub paint_frame-requires-clause-pictured : goal.paint_frame-requires-clause-pictured
paint_frame-requires-clause-pictured c κs =
    let off : c.args.self.now.passes ≡ false = (let is = c.if-self.false in cc) in
    rw (c.turned_shape-out_shape.ensures, c.shape.ensures.shape) (turned_pictured c.args.self.now c.args.frame.shape off c.requires)
