use Rattle.std.proofs.Common.{◌≡◌, map, take}
use Rattle.node_core.specs.Shaping.{pads_of}
use Rattle.avgraph.proofs.request.list_pads.Given as goal

abbrev pub invariant-loop-kind : goal.invariant-loop-kind
invariant-loop-kind l = l.pads.items ≡ map pads_of (take l.kind-index l.kinds)
