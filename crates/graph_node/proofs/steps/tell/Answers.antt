use Rattle.std.proofs.Common.{◌≡◌, Option, Some, false, sym, refl, ◌∙◌, subst, rules}
use Rattle.av_frame.specs.Streams.{Stream}
use Rattle.av_frame.specs.StreamLemmas.{stream_eq}
use Rattle.graph_node.specs.Times.{IsPast}
use Rattle.graph_node.specs.Ports.{offered}
use Rattle.filter_history.specs.Histories.{Stands}
use Rattle.graph_node.specs.Laws.{with_in}
use Rattle.graph_node.proofs.InletLemmas.{told_pending}
use Rattle.graph_node.proofs.StepLemmas.{one_offered, told_is, told_last, not_finished}
use Rattle.graph_node.proofs.steps.tell.Goals as goal

pub invariant_of-inlet-in-Ok : goal.invariant_of-inlet-in-Ok
invariant_of-inlet-in-Ok g c =
    let x = c.args.inlet.now in
    let some : x.pending ≡ Some c.in-Some.frame = search rules in
    record {
      pending_is = told_pending x.port.taken c.take.new.self c.take.ensures.after;
      last_is = λ _. told_last x.port.taken x.pending c.take.new.self c.in-Some.frame c.last_of-last.result c.last_of-last.ensures some c.take.ensures.after x.pending_is;
      finished_is = λ e. absurd (let no : x.finished ≡ false = not_finished x.finished x.pending c.in-Some.frame (λ d. (x.finished_is d).2) some in cc);
      dropped_is = λ e. absurd (let no = c.requires.open in cc);
    }

pub returns-in-Ok-clause-told : goal.returns-in-Ok-clause-told
returns-in-Ok-clause-told g c =
    let f = g.F.Filter in
    let old = c.args.filter.now in
    let new = c.offer.new.self in
    let x = c.args.inlet.now in
    let some : x.pending ≡ Some c.in-Some.frame = search rules in
    record {
      pads_are = c.offer.ensures.pads;
      closes_stay = c.offer.ensures.closes;
      others = c.offer.ensures.others;
      stands = λ whole h k.
          subst (λ (z : Stream). Stands (f.pads old) whole (f.rest new) (f.closes new) (f.over new) (with_in h c.args.input z))
          (sym (stream_eq _ _ _ _ (told_is x.port.taken x.pending c.take.new.self c.in-Some.frame some c.take.ensures.after x.pending_is) refl))
          (one_offered (f.pads old) whole (f.rest old) (f.rest new) (f.closes old) (f.closes new) (f.over old) (f.over new) h c.args.input c.in-Some.frame (offered x)
          (not_finished x.finished x.pending c.in-Some.frame (λ d. (x.finished_is d).2) some) c.in-Ok.ensures.rest c.offer.ensures.closes c.offer.ensures.over k);
    }

pub returns-in-Ok-clause-fit : goal.returns-in-Ok-clause-fit
returns-in-Ok-clause-fit g c =
    let x = c.args.inlet.now in
    let some : x.pending ≡ Some c.in-Some.frame = search rules in
    record {
      ready = λ _ y s p. c.in-Ok.ensures.accepts y record {
        shape = s ∙ sym (c.can_tell.ensures.yes c.if-not-can_tell.false c.in-Some.frame some).0;
        later = subst (λ (l : Option _). IsPast l y.pts) c.last_of-last.ensures p;
      };
      ended = λ e. absurd (let no : x.finished ≡ false = not_finished x.finished x.pending c.in-Some.frame (λ d. (x.finished_is d).2) some in cc);
    }
