use Rattle.std.proofs.Common.{◌≡◌, ◌+◌, ◌≤◌, List, ◌∷◌, [], ◌++◌, length, ◌∙◌, ap, rules, arith}
use Rattle.std.proofs.lemmas.List.{length_push}
use Rattle.av_frame.specs.Frames.{FrameValue}
use Rattle.av_filter.proofs.WholeLemmas.{ready_on, rest_on}
use Rattle.av_filter.proofs.whole.filter_whole.Goals as goal

pub offering-preserved : goal.offering-preserved
offering-preserved g c =
    let F = g.F.Filter in
    let old = c.offering.filter in
    let new = c.offer_all.new.filter in
    let lists : List (List FrameValue) = c.offering.left.items in
    let less : List (List FrameValue) = c.pop.new.self.items in
    let xs = c.in-Some.frames in
    let parts : lists ≡ less ++ xs ∷ [] = c.in-Some.ensures.items in
    let at : c.len.result ≡ length less = search rules in
    let long : length lists ≡ length less + 1 = ap length parts ∙ length_push less xs in
    let short : length lists ≤ length c.args.inputs = c.offering.invariant.short in
    record {
      pads = c.offer_all.ensures.pads ∙ c.offering.invariant.pads;
      short = omega (arith, long, short);
      ready = ready_on (F.accepts old) (F.accepts new) lists less xs parts (rw at at c.offer_all.ensures.accepts) c.offering.invariant.ready;
      rest = λ o h.
          rest_on (F.pads c.args.filter.now) (F.accepts old) (F.rest old) (F.rest new) _ lists less xs o parts c.offering.invariant.ready (rw c.requires.outputs h)
          (rw (c.offering.invariant.pads, at) at c.in_ok-offer_all.ensures.rest)
          (c.offering.invariant.rest o h);
    }
