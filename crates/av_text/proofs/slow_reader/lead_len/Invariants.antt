use Rattle.std.proofs.Common.{◌≡◌, ◌≤◌, ◌-◌, ℕ, true, length, take}
use Rattle.std.specs.List.{AllByRecursion}
use Rattle.av_text.specs.Classes.{is_white}
use Rattle.av_text.proofs.slow_reader.lead_len.Given as goal

abbrev pub invariant-loop-lead : goal.invariant-loop-lead
invariant-loop-lead l = (l.lead ≤ length l.text) × AllByRecursion (λ (c : ℕ). is_white c ≡ true) (take l.lead l.text)

abbrev pub decreases-loop-lead : goal.decreases-loop-lead
decreases-loop-lead l = length l.text - l.lead
