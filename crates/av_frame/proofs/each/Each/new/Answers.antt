use Rattle.std.proofs.Common.{◌<◌, refl, arith}
use Rattle.av_frame.specs.EachLaws.{each_rule_laws}
use Rattle.av_frame.proofs.EachLemmas.{starts, lawful_map}
use Rattle.av_frame.proofs.each.Each.new.Goals as goal

pub returns : goal.returns
returns g c =
    let P = g.P.PerFrame in
    let rule = c.args.rule in
    record {
      pads_are = rw c.requires refl;
      rest_is = λ ins o h. rw c.new-2.ensures.items (starts c.in_ok-waiting.waiting.lists c.args.outputs (P.made rule o) (ins 0) o c.in_ok-waiting.ensures h);
      accepts_first = λ i x h e. e;
      begins = (each_rule_laws c.args.outputs (P.made rule)).begins;
      lawful = λ ins r o h.
          let below : o < P.outputs rule = rw c.requires h in
          lawful_map (P.made rule o) (P.shape rule) (P.out_shape rule o)
          (λ x. g.met.P.PerFrame.keeps rule o x below) (λ x e. g.met.P.PerFrame.shaped rule o x below e)
          (ins 0).frames (r 0 (omega arith));
    }
