use Rattle.frame_sync.proofs.checked.push.Goals as goal

pub push-requires-clause-past : goal.push-requires-clause-past
push-requires-clause-past c = c.can_push.ensures.past c.if-not-can_push.false
