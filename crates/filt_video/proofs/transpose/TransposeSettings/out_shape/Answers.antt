use Rattle.filt_video.specs.TransposeLaws.{turned_picture}
use Rattle.filt_video.proofs.transpose.TransposeSettings.out_shape.Goals as goal

pub returns-else-self-clause-picture : goal.returns-else-self-clause-picture
returns-else-self-clause-picture c = rw c.turned_shape.ensures (turned_picture c.args.shape c.requires)
