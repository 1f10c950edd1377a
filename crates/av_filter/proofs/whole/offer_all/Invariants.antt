use Rattle.std.proofs.Common.{◌≡◌, ◌≢◌, ℕ, ◌<◌, vec_len}
use Rattle.av_frame.specs.Frames.{FrameValue}
use Rattle.av_frame.specs.Streams.{Streams, at_pad, ended_stream, AllRise}
use Rattle.av_filter.specs.Whole.{IsReady}
use Rattle.av_filter.proofs.whole.offer_all.Given as goal

abbrev pub invariant-offering : goal.invariant-offering
invariant-offering g l = record {
  pads : g.F.Filter.pads l.filter ≡ g.F.Filter.pads l.fn.filter;
  accepts : (j : ℕ) (y : FrameValue) → j ≢ l.input → g.F.Filter.accepts l.fn.filter j y → g.F.Filter.accepts l.filter j y;
  ready : IsReady (g.F.Filter.accepts l.filter l.input) l.left.items;
  rest : (ins : Streams) → AllRise (g.F.Filter.pads l.fn.filter).inputs ins → (o : ℕ) → o < (g.F.Filter.pads l.fn.filter).outputs
      → g.F.Filter.rest l.fn.filter (at_pad ins l.input (ended_stream l.fn.frames)) o ≡ g.F.Filter.rest l.filter (at_pad ins l.input (ended_stream l.left.items)) o;
}

abbrev pub decreases-offering : goal.decreases-offering
decreases-offering g l = vec_len l.left
