use Rattle.std.proofs.Common.{refl}
use Rattle.filt_expr.specs.CropLaws.{crop_part, crop_pictured}
use Rattle.filt_expr.specs.Sizes.{width_resized, height_resized}
use Rattle.filt_expr.proofs.crop.CropSettingsFrameRule.make.Goals as goal

pub window-requires-clause-lawful : goal.window-requires-clause-lawful
window-requires-clause-lawful c = rw (c.shape-shape.ensures, c.shape.ensures.shape) (crop_pictured c.args.self.now c.args.frame.shape c.requires).lawful

pub window-requires-clause-columns : goal.window-requires-clause-columns
window-requires-clause-columns c =
    let s = c.args.frame.shape in
    let t = c.args.self.now in
    rw (c.shape-shape.ensures, c.shape.ensures.shape, width_resized s.format s.props t.width t.height c.requires.picture.lawful c.requires.picture.video) (crop_part t s c.requires).width

pub window-requires-clause-rows : goal.window-requires-clause-rows
window-requires-clause-rows c =
    let s = c.args.frame.shape in
    let t = c.args.self.now in
    rw (c.shape-shape.ensures, c.shape.ensures.shape, height_resized s.format s.props t.width t.height c.requires.picture.lawful c.requires.picture.video) (crop_part t s c.requires).height

pub returns-clause-made : goal.returns-clause-made
returns-clause-made c = rw (c.window.ensures, c.shape-shape.ensures, c.shape.ensures.shape) refl
