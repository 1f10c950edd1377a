use Rattle.filt_video.specs.OrderLaws.{order_pictured, order_fits}
use Rattle.filt_video.proofs.shuffleplanes.PlaneOrderFrameRule.make.Goals as goal

pub paint_frame-requires-clause-pictured : goal.paint_frame-requires-clause-pictured
paint_frame-requires-clause-pictured c κs = rw c.shape-shape.ensures.shape (order_pictured c.args.self.now c.args.frame.shape c.requires)

pub paint_frame-requires-clause-fits : goal.paint_frame-requires-clause-fits
paint_frame-requires-clause-fits c κs = rw c.shape-shape.ensures.shape (order_fits c.args.self.now c.args.frame c.requires)
