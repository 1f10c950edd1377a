use Rattle.std.proofs.Common.{◌≡◌, take}
use Rattle.std.specs.List.{AllByRecursion}
use Rattle.av_words.specs.declared.command_words.OutputWord.{OutputWord}
use Rattle.graph_plan.specs.declared.plan.Ending.TheVariants.{Y4m}
use Rattle.avgraph.proofs.request.are_y4m_files.Given as goal

abbrev pub invariant-loop-output : goal.invariant-loop-output
invariant-loop-output l = AllByRecursion (λ (o : OutputWord). o.file.ending ≡ Y4m) (take l.output-index l.outputs)
