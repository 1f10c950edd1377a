use Rattle.std.proofs.Common.{◌≡◌, ℕ, ◌+◌, ◌<◌, ◌≤◌, ◌++◌, ◌∷◌, [], true, length, map, take, nat_lt, Some, vec_len}
use Rattle.std.specs.Prelude.{slice_get}
use Rattle.std.specs.List.{list_all}
use Rattle.std.specs.VecDeque.{deque_len, deque_capacity}
use Rattle.av_frame.specs.Frames.{FrameValue}
use Rattle.av_frame.specs.Rules.{queue}
use Rattle.av_frame.proofs.queues.push_each.Given as goal

abbrev pub invariant-loop-frame : goal.invariant-loop-frame
invariant-loop-frame l = record {
  outputs : length l.queues.items ≡ length l.fn.queues.items;
  short : length l.others.items ≤ length l.fn.others.items;
  front : l.others.items ≡ take (length l.others.items) l.fn.others.items;
  room : list_all (λ q. nat_lt (deque_len q) (deque_capacity q)) (take (length l.others.items + 1) l.queues.items) ≡ true;
  below : (o : ℕ) → o < length l.others.items + 1 → queue (map (λ q. q.items) l.queues.items) o ≡ queue (map (λ q. q.items) l.fn.queues.items) o;
  pushed : (o : ℕ) (x : FrameValue) → length l.others.items + 1 ≤ o → slice_get (l.first ∷ l.fn.others.items) o ≡ Some x → queue (map (λ q. q.items) l.queues.items) o ≡ queue (map (λ q. q.items) l.fn.queues.items) o ++ x ∷ [];
}

abbrev pub decreases-loop-frame : goal.decreases-loop-frame
decreases-loop-frame l = vec_len l.others
