use Rattle.std.proofs.Common.{◌-◌, length}
use Rattle.av_text.proofs.ArgLemmas.{Listed}
use Rattle.av_text.proofs.arguments.split_args.Given as goal

abbrev pub invariant-loop-place : goal.invariant-loop-place
invariant-loop-place l = Listed l.args l.list.items l.place

abbrev pub decreases-loop-place : goal.decreases-loop-place
decreases-loop-place l = length l.args - l.place
