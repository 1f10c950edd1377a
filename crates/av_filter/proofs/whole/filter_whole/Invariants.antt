use Rattle.std.proofs.Common.{◌≡◌, ℕ, ◌<◌, ◌≤◌, true, length, vec_len}
use Rattle.av_frame.specs.Streams.{ended_stream}
use Rattle.av_frame.specs.Rules.{queue}
use Rattle.av_filter.specs.Whole.{AreReady, all_ended, no_frames}
use Rattle.av_filter.proofs.whole.filter_whole.Given as goal

abbrev pub invariant-offering : goal.invariant-offering
invariant-offering g l = record {
  pads : g.F.Filter.pads l.filter ≡ g.F.Filter.pads l.fn.filter;
  short : length l.left.items ≤ length l.fn.inputs;
  ready : AreReady (g.F.Filter.accepts l.filter) l.left.items;
  rest : (o : ℕ) → o < l.outputs → g.F.Filter.rest l.fn.filter (all_ended l.fn.inputs) o ≡ g.F.Filter.rest l.filter (all_ended l.left.items) o;
}

abbrev pub decreases-offering : goal.decreases-offering
decreases-offering g l = vec_len l.left

abbrev pub invariant-loop-output : goal.invariant-loop-output
invariant-loop-output g l = record {
  pads : g.F.Filter.pads l.filter ≡ g.F.Filter.pads l.fn.filter;
  closed : (i : ℕ) → i < (g.F.Filter.pads l.fn.filter).inputs → g.F.Filter.closes l.filter i ≡ true;
  count : length l.given.items ≡ l.output;
  done : (o : ℕ) → o < l.output → g.F.Filter.rest l.fn.filter (all_ended l.fn.inputs) o ≡ ended_stream (queue l.given.items o);
  later : (o : ℕ) → l.output ≤ o → o < l.outputs → g.F.Filter.rest l.fn.filter (all_ended l.fn.inputs) o ≡ g.F.Filter.rest l.filter no_frames o;
}
