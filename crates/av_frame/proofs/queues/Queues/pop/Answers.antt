use Rattle.std.proofs.Common.{◌<◌, length}
use Rattle.std.proofs.lemmas.List.{length-map}
use Rattle.av_frame.proofs.QueueLemmas.{pop_some, pop_none, queue_other, pop_dry}
use Rattle.av_frame.proofs.queues.Queues.pop.Goals as goal

in_range : (c : goal.After-self-1) → c.args.output < length c.self.inside.queues.items
in_range c = rw length-map at (rw (← c.self.view_is) at c.requires)

pub returns-clause-some : goal.returns-clause-some
returns-clause-some c =
    rw (← c.self.view_is)
    (pop_some (λ q. q.items) c.self.inside.queues.items c.index_mut-queue.result.now c.pop_front.new.self c.args.output c.pop_front.result (in_range c) c.index_mut-queue.ensures.value c.pop_front.ensures.items)

pub returns-clause-unchanged : goal.returns-clause-unchanged
returns-clause-unchanged c =
    rw (← c.self.view_is)
    (pop_none (λ q. q.items) c.self.inside.queues.items c.index_mut-queue.result.now c.pop_front.new.self c.args.output c.pop_front.result (in_range c) c.index_mut-queue.ensures.value c.pop_front.ensures.items)

pub returns-clause-others : goal.returns-clause-others
returns-clause-others c o h =
    rw (← c.self.view_is)
    (queue_other (λ q. q.items) c.self.inside.queues.items c.pop_front.new.self c.args.output o h)

pub returns-clause-dry : goal.returns-clause-dry
returns-clause-dry c o = pop_dry c.args.self.now.lists _ c.args.output o c.pop_front.result (returns-clause-some c) (returns-clause-unchanged c) (returns-clause-others c)
