use Rattle.std.proofs.Common.{◌≡◌, ◌<◌, List, ◌∷◌, length, ◌∙◌, subst, rules}
use Rattle.av_frame.specs.Frames.{FrameValue}
use Rattle.av_filter.specs.Whole.{IsReady}
use Rattle.av_filter.proofs.WholeLemmas.{front_is, ready_rises, ready_next, offered_next}
use Rattle.av_filter.proofs.whole.offer_all.Goals as goal

pub offering-preserved : goal.offering-preserved
offering-preserved g c =
    let F = g.F.Filter in
    let i = c.args.input in
    let old = c.offering.filter in
    let new = c.offer.new.self in
    let xs = c.offering.left.items in
    let x = c.remove-frame.result in
    let ys = c.remove-frame.new.self.items in
    let some : 0 < length xs = search rules in
    let front : xs ≡ x ∷ ys = front_is xs ys x some c.remove-frame.ensures.value c.remove-frame.ensures.items in
    let ready = subst (λ (zs : List FrameValue). IsReady (F.accepts old i) zs) front c.offering.invariant.ready in
    record {
      pads = c.offer.ensures.pads ∙ c.offering.invariant.pads;
      accepts = λ j y n a. c.offer.ensures.others j y n (c.offering.invariant.accepts j y n a);
      ready = ready_next (F.accepts new i) x ys ready.1 c.in-Ok.ensures.accepts;
      rest = λ ins r o h.
          c.offering.invariant.rest ins r o h
          ∙ (rw front
          (offered_next (F.pads c.args.filter.now) (F.rest old) (F.rest new) i x ys ins o (ready_rises (F.accepts old i) (x ∷ ys) ready) r h
          (rw c.offering.invariant.pads at c.in-Ok.ensures.rest)));
    }
