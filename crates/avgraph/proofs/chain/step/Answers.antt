use Rattle.std.proofs.Common.{◌∙◌, Ok}
use Rattle.av_frame.specs.declared.filter.Given.TheVariants as gives
use Rattle.avgraph.proofs.ChainLemmas.{still_open, takes_on, Answered}
use Rattle.avgraph.proofs.chain.step.Goals as goal

pub offer-requires-clause-open : goal.offer-requires-clause-open
offer-requires-clause-open g c = still_open c.args.frame c.requires.3 (g.met.F.Filter.laws c.args.filter.now) c.requires.2

pub returns-clause-takes : goal.returns-clause-takes
returns-clause-takes g c = λ low made h takes.
    let F = g.F.Filter in
    let old = c.args.filter.now in
    let offered = c.offer.new.self in
    let left = c.give.new.self in
    let answered : Answered c.args.frame (F.pads old) (F.rest old) (F.rest offered) (F.rest left) (Ok (gives.Frame c.in-Frame.made)) = record {
      offer = c.in-Ok.ensures.rest;
      give = rw (c.in-Frame.is, c.offer.ensures.pads) at c.in_ok-made.ensures.rest;
    } in
    takes_on c.in-Frame.made takes h (c.give.ensures.pads ∙ c.offer.ensures.pads) answered (λ z f. c.give.ensures.accepts 0 z (c.in-Ok.ensures.accepts z f))
