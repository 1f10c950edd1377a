-- What arrives at a closed end is dropped.
use Rattle.std.proofs.Common.{◌≡◌, List, [], ◌++◌, sym, ◌∙◌, ap, append-nil, arith}
use Rattle.link_ports.specs.Ends.{Receiver, received}
use Rattle.link_ports.specs.Moves.{KeepsIn, Drops, receiver_core}
use Rattle.graph_node.specs.Ports.{Arrives}

module _ {T : Type 0} where
  pub arrives_dropped : (a b d : Receiver T) → KeepsIn a b → Drops b d → a.queued ≡ [] → Arrives a d
  arrives_dropped a b d k x q = record {
    link = x.link ∙ k.link;
    taken = (b.queued, ap (λ (l : List T). l ++ b.queued) (sym k.taken) ∙ sym x.taken);
    same = λ e. x.taken ∙ ap (λ (l : List T). b.taken ++ l) ((k.after_end e).1 ∙ q) ∙ append-nil b.taken ∙ k.taken;
    closing = x.closing ∙ k.closing;
    after_end = λ e. x.end_received ∙ (k.after_end e).0;
    grows = omega (arith, k.grows, x.grows);
  }

  -- nothing was taken
  pub arrives_none : (a b : Receiver T) → KeepsIn a b → Arrives a b
  arrives_none a b k = record {
    link = k.link;
    taken = ([], append-nil a.taken ∙ sym k.taken);
    same = λ e. k.taken;
    closing = k.closing;
    after_end = λ e. (k.after_end e).0;
    grows = k.grows;
  }

  pub queue_of_core : (a b : Receiver T) → receiver_core b ≡ receiver_core a → b.queued ≡ a.queued
  unfolding receiver_core
  queue_of_core a b e = ap (λ (r : Receiver T). r.queued) e

  drop_none : (b : Receiver T) → b.queued ≡ [] → (let r : Receiver T = record b { taken = received b; queued = [] } in r) ≡ b
  drop_none b e =
      ap (λ (q : List T). let r : Receiver T = record b { taken = b.taken ++ q; queued = [] } in r) e
      ∙ ap (λ (t : List T). let r : Receiver T = record b { taken = t; queued = [] } in r) (append-nil b.taken)
      ∙ ap (λ (q : List T). let r : Receiver T = record b { taken = b.taken; queued = q } in r) (sym e)

  pub core_dropped : (a b d : Receiver T) → receiver_core b ≡ receiver_core a → a.queued ≡ [] → d ≡ record b { taken = received b; queued = [] } → receiver_core d ≡ receiver_core a
  core_dropped a b d e q f = ap receiver_core (f ∙ drop_none b (queue_of_core a b e ∙ q)) ∙ e
