use Rattle.std.proofs.Common.{◌≡◌, map, take}
use Rattle.av_words.specs.declared.command_words.OutputWord.{OutputWord}
use Rattle.avgraph.proofs.request.list_files.Given as goal

abbrev pub invariant-loop-output : goal.invariant-loop-output
invariant-loop-output l = l.files.items ≡ map (λ (o : OutputWord). o.file) (take l.output-index l.outputs)
