use Rattle.std.proofs.Common.{◌≡◌, List, take}
use Rattle.av_base.specs.Shapes.{IsPictureShape}
use Rattle.avgraph.specs.Chains.{Step, AreReady}
use Rattle.avgraph.specs.Jobs.{AreOfPath}
use Rattle.avgraph.proofs.ready.make_all_ready.Given as goal

abbrev pub invariant-loop-filter : goal.invariant-loop-filter
invariant-loop-filter l = record {
  picture : IsPictureShape l.end;
  format : l.end.format ≡ l.fn.shape.format;
  ready : (path : List Step) → AreOfPath l.kinds l.order path → AreReady (take l.filter-index path) l.fn.shape l.readies.items l.end;
}
