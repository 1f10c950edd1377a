use Rattle.std.proofs.Common.{◌≡◌, ◌-◌, ◌++◌, ◌∙◌, ℕ, refl, sym, ap, arith, map, append-nil}
use Rattle.std.specs.List.{range_with_len}
use Rattle.filt_fan.proofs.SplitLemmas.{share_more}
use Rattle.filt_fan.proofs.fan.share_all.Goals as goal

pub loop-init : goal.loop-init
loop-init c = (let p = c.requires in record { frame = refl; some = omega arith; few = omega (arith, p); shares = sym (append-nil c.args.others.now.items) })

pub loop-preserved : goal.loop-preserved
loop-preserved c =
    let i = c.loop.invariant in
    let t = c.loop-test.true in
    record {
      frame = c.share.ensures.same ∙ i.frame;
      some = omega (arith, i.some);
      few = omega (arith, t);
      shares = share_more c.args.others.now.items c.loop.others.items c.push.new.self.items c.args.frame.now c.in_ok-share.share c.loop.counter i.some i.shares (c.in_ok-share.ensures.shared ∙ i.frame) c.in_ok-push.ensures.items;
    }

pub returns-clause-shares : goal.returns-clause-shares
returns-clause-shares c =
    let i = c.loop.invariant in
    let f = c.loop-test.false in
    let n : c.loop.counter - 1 ≡ c.args.outputs - 1 = (let l = i.few in omega (arith, f, l)) in
    i.shares ∙ ap (λ (k : ℕ). c.args.others.now.items ++ map (λ (_ : ℕ). c.args.frame.now) (range_with_len 1 k)) n
