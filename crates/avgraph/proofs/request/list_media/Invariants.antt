use Rattle.std.proofs.Common.{◌≡◌, map, take}
use Rattle.avgraph.specs.Requests.{given_by}
use Rattle.avgraph.proofs.request.list_media.Given as goal

abbrev pub invariant-loop-input : goal.invariant-loop-input
invariant-loop-input l = l.media.items ≡ map given_by (take l.input-index l.inputs)
