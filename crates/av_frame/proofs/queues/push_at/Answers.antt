use Rattle.av_frame.proofs.QueueLemmas.{pushed, queue_other}
use Rattle.av_frame.proofs.queues.push_at.Goals as goal

pub returns-clause-pushed : goal.returns-clause-pushed
returns-clause-pushed c = pushed (λ q. q.items) c.args.queues.now.items c.index_mut-queue.result.now c.push_back.new.self c.args.place c.args.frame c.requires.place c.index_mut-queue.ensures.value c.in-Ok.ensures.items

pub returns-clause-others : goal.returns-clause-others
returns-clause-others c o h = queue_other (λ q. q.items) c.args.queues.now.items c.push_back.new.self c.args.place o h
