use Rattle.std.proofs.Common.{inl, inr, sym, ◌∙◌}
use Rattle.graph_node.proofs.StepLemmas.{drawn_is, blocked_same}
use Rattle.graph_node.proofs.steps.feed.Goals as goal

pub returns-clause-idle : goal.returns-clause-idle
returns-clause-idle g c = λ _.
    elim (c.in_ok-tell.ensures.idle) [
      | inl e ↦ absurd (cc)
      | inr b ↦
          let k = c.tell_end.ensures.kept in
          let p = k.0 ∙ c.draw.ensures.pending c.if-draw.false in
          inr (drawn_is c.tell_end.new.inlet (c.tell_end.ensures.same.closing_is ∙ c.draw.ensures.same.closing_is ∙ c.tell.ensures.same.closing_is ∙ c.requires.open)
          (blocked_same c.tell.new.inlet c.tell_end.new.inlet p (k.1 ∙ c.draw.ensures.last) (c.tell_end.ensures.same.shape ∙ c.draw.ensures.same.shape) b)
          (λ n. k.2 ∙ c.draw.ensures.none c.if-draw.false (sym k.0 ∙ n))
          c.tell_end.ensures.end)
    ]
