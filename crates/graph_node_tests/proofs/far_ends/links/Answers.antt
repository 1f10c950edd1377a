use Rattle.std.proofs.Common.{◌≡◌, ◌+◌, ◌++◌, ℕ, List, [], ◌∷◌, All, length, ap, sym, subst, arith, length-append}
use Rattle.std.proofs.lemmas.List.Elements.{All-push}
use Rattle.av_frame.specs.Frames.{FrameValue}
use Rattle.link_ports.specs.Ends.{Sender, Receiver, fresh_sender, fresh_receiver}
use Rattle.graph_node_tests.proofs.far_ends.links.Goals as goal

longer : {X : Type 0} (xs ys : List X) (x : X) (n : ℕ) → ys ≡ xs ++ x ∷ [] → length xs ≡ n → length ys ≡ n + 1
longer xs ys x n e l = omega (arith, ap length e, length-append xs (x ∷ []), l)

all_longer : {X : Type 0} (P : X → Type 0) (xs ys : List X) (x : X) → ys ≡ xs ++ x ∷ [] → All P xs → P x → All P ys
all_longer P xs ys x e all p = subst (All P) (sym e) (All-push P xs x all p)

pub loop-preserved : goal.loop-preserved
loop-preserved c =
    let i = c.loop.invariant in
    let pushed = c.in_ok-push.ensures.items in
    let pushed_in = c.in_ok-push-2.ensures.items in
    let ends = c.in_ok-out.ensures in
    record {
      few = omega (arith, c.loop-test.true);
      outs = longer _ _ _ _ pushed i.outs;
      ins = longer _ _ _ _ pushed_in i.ins;
      fresh_outs = all_longer (λ (s : Sender FrameValue). s ≡ fresh_sender s.link) _ _ _ pushed i.fresh_outs ends.sender;
      fresh_ins = all_longer (λ (r : Receiver FrameValue). r ≡ fresh_receiver r.link) _ _ _ pushed_in i.fresh_ins ends.receiver;
    }
