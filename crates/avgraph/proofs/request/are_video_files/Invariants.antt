use Rattle.std.proofs.Common.{take}
use Rattle.std.specs.List.{AllByRecursion}
use Rattle.avgraph.specs.Requests.{IsVideoFile}
use Rattle.avgraph.proofs.request.are_video_files.Given as goal

abbrev pub invariant-loop-input : goal.invariant-loop-input
invariant-loop-input l = AllByRecursion IsVideoFile (take l.input-index l.inputs)
