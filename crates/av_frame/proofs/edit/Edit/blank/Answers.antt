use Rattle.av_frame.proofs.PictureLemmas.{IsPicture-blank}
use Rattle.av_frame.proofs.edit.Edit.blank.Goals as goal

pub invariant_of-result : goal.invariant_of-result
invariant_of-result c = IsPicture-blank c.args.shape c.in_ok-planes.planes.items c.requires.lawful c.requires.video c.in_ok-planes.ensures
