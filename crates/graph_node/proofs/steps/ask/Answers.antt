use Rattle.std.proofs.Common.{ap, Ok}
use Rattle.av_frame.specs.Answers.{frames_of}
use Rattle.av_frame.specs.declared.filter.Given.{Given}
use Rattle.graph_node.specs.Ports.{given}
use Rattle.graph_node.proofs.StepLemmas.{one_given_as}
use Rattle.graph_node.proofs.steps.ask.Goals as goal

pub returns-in_err-put-in-Ok-Frame-clause-gave : goal.returns-in_err-put-in-Ok-Frame-clause-gave
returns-in_err-put-in-Ok-Frame-clause-gave g c =
    let f = g.F.Filter in
    let old = c.args.filter.now in
    let new = c.give.new.self in
    record {
      pads_are = c.give.ensures.pads;
      closes_stay = c.give.ensures.closes;
      accepts_stay = c.give.ensures.accepts;
      stands = λ whole h k.
          one_given_as (f.pads old) whole (f.rest old) (f.rest new) (f.closes old) (f.closes new) (f.over old) (f.over new) h c.args.output c.in-Ok-Frame.frame (frames_of (Ok c.in-Ok-Frame.field-0)) (given c.args.outlet.now) (given c.put.new.self)
          (ap (λ (r : Given). frames_of (Ok r)) c.in-Ok-Frame.field-0-is) c.put.ensures.given c.requires.port
          (λ e ins. (g.met.F.Filter.laws old).over_is c.args.output c.requires.port e ins) c.in-Ok-Frame.ensures.rest c.give.ensures.closes c.give.ensures.over k;
    }

pub returns-in_ok-put-in-Ok-Frame-clause-gave : goal.returns-in_ok-put-in-Ok-Frame-clause-gave
returns-in_ok-put-in-Ok-Frame-clause-gave g c =
    let f = g.F.Filter in
    let old = c.args.filter.now in
    let new = c.give.new.self in
    record {
      pads_are = c.give.ensures.pads;
      closes_stay = c.give.ensures.closes;
      accepts_stay = c.give.ensures.accepts;
      stands = λ whole h k.
          one_given_as (f.pads old) whole (f.rest old) (f.rest new) (f.closes old) (f.closes new) (f.over old) (f.over new) h c.args.output c.in-Ok-Frame.frame (frames_of (Ok c.in-Ok-Frame.field-0)) (given c.args.outlet.now) (given c.put.new.self)
          (ap (λ (r : Given). frames_of (Ok r)) c.in-Ok-Frame.field-0-is) c.put.ensures.given c.requires.port
          (λ e ins. (g.met.F.Filter.laws old).over_is c.args.output c.requires.port e ins) c.in-Ok-Frame.ensures.rest c.give.ensures.closes c.give.ensures.over k;
    }
