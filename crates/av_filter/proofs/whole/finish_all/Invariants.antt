use Rattle.std.proofs.Common.{◌≡◌, ℕ, ◌<◌, true}
use Rattle.av_filter.specs.Whole.{no_frames}
use Rattle.av_filter.proofs.whole.finish_all.Given as goal

abbrev pub invariant-loop-input : goal.invariant-loop-input
invariant-loop-input g l = record {
  pads : g.F.Filter.pads l.filter ≡ g.F.Filter.pads l.fn.filter;
  closed : (i : ℕ) → i < l.input → g.F.Filter.closes l.filter i ≡ true;
  rest : (o : ℕ) → o < (g.F.Filter.pads l.fn.filter).outputs → g.F.Filter.rest l.filter no_frames o ≡ g.F.Filter.rest l.fn.filter no_frames o;
}
