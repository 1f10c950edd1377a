use Rattle.graph_plan.specs.Graphs.SaysKind.{plain, video, first_video, audio, first_audio}
use Rattle.graph_plan.proofs.origins.read_kind.Goals as goal

pub returns-in-empty-clause-said : goal.returns-in-empty-clause-said
returns-in-empty-clause-said c = rw c.in-empty.is plain

pub returns-in-text-clause-said : goal.returns-in-text-clause-said
returns-in-text-clause-said c = rw c.in-text.is-text video

pub returns-in-text-3-clause-said : goal.returns-in-text-3-clause-said
returns-in-text-3-clause-said c = rw c.in-text.is-text-2 first_video

pub returns-in-text-2-clause-said : goal.returns-in-text-2-clause-said
returns-in-text-2-clause-said c = rw c.in-text-2.is-text-3 audio

pub returns-in-text-2-2-clause-said : goal.returns-in-text-2-2-clause-said
returns-in-text-2-2-clause-said c = rw c.in-text-2.is-text-4 first_audio
