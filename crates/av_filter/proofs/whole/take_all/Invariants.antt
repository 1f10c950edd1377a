use Rattle.std.proofs.Common.{◌≡◌, ◌≢◌, ℕ, ◌<◌, true, length}
use Rattle.av_frame.specs.Streams.{after}
use Rattle.av_filter.specs.Whole.{no_frames}
use Rattle.av_filter.proofs.whole.take_all.Given as goal

abbrev pub invariant-giving : goal.invariant-giving
invariant-giving g l = record {
  pads : g.F.Filter.pads l.filter ≡ g.F.Filter.pads l.fn.filter;
  closed : (i : ℕ) → i < (g.F.Filter.pads l.fn.filter).inputs → g.F.Filter.closes l.filter i ≡ true;
  taken : g.F.Filter.rest l.fn.filter no_frames l.output ≡ after l.all.items (g.F.Filter.rest l.filter no_frames l.output);
  others : (o : ℕ) → o < (g.F.Filter.pads l.fn.filter).outputs → o ≢ l.output → g.F.Filter.rest l.filter no_frames o ≡ g.F.Filter.rest l.fn.filter no_frames o;
}

abbrev pub decreases-giving : goal.decreases-giving
decreases-giving g l = length (g.F.Filter.rest l.filter no_frames l.output).frames
