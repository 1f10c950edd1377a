use Rattle.std.proofs.Common.{◌≡◌, true, take}
use Rattle.std.specs.List.{AllByRecursion}
use Rattle.av_text.specs.Classes.{has}
use Rattle.av_text.proofs.classes.run_len.Given as goal

abbrev pub invariant-loop-i : goal.invariant-loop-i
invariant-loop-i l = AllByRecursion (λ c. has l.class c ≡ true) (take l.i l.text)
