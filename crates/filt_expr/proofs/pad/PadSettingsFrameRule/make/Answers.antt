use Rattle.std.proofs.Common.{refl}
use Rattle.filt_expr.specs.PadLaws.{pad_pictured}
use Rattle.filt_expr.proofs.pad.PadSettingsFrameRule.make.Goals as goal

pub paint_area-requires-clause-pictured : goal.paint_area-requires-clause-pictured
paint_area-requires-clause-pictured c = rw (c.shape-out_shape.ensures, c.shape.ensures.shape) (pad_pictured c.args.self.now c.args.frame.shape c.requires)

pub paint_area-requires-clause-format : goal.paint_area-requires-clause-format
paint_area-requires-clause-format c = rw (c.shape-out_shape.ensures, c.shape.ensures.shape) refl

pub returns-clause-made : goal.returns-clause-made
returns-clause-made c = rw (c.shape-out_shape.ensures, c.shape.ensures.shape) at c.paint_area.ensures.made
