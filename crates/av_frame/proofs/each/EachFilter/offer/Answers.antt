use Rattle.av_frame.proofs.EachLemmas.{shaped_push}
use Rattle.av_frame.proofs.each.EachFilter.offer.Goals as goal

pub invariant_of-self-2 : goal.invariant_of-self-2
invariant_of-self-2 g c = (
  c.self.invariant.0,
  rw c.in_ok-push_back.ensures.items
      (shaped_push (g.P.PerFrame.shape c.self.inside.rule) c.self.inside.offered.items c.args.frame c.self.invariant.1 (rw (← c.self.view_is) at c.requires.accepts)),
)
