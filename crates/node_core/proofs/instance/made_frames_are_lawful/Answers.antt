use Rattle.node_core.specs.FilterLaws.{frame_filter_laws}
use Rattle.node_core.proofs.instance.made_frames_are_lawful.Goals as goal

pub returns-clause-times : goal.returns-clause-times
returns-clause-times c = frame_filter_laws.making.keeps

pub returns-clause-shape : goal.returns-clause-shape
returns-clause-shape c = frame_filter_laws.making.shaped
