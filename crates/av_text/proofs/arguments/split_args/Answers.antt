use Rattle.std.proofs.Common.{rules, ◌≡◌, ◌+◌, ◌∷◌, ◌++◌, ℕ, List, [], length, refl, arith}
use Rattle.std.proofs.lemmas.Result.{err_from_is_err_and}
use Rattle.av_text.specs.Arguments.{IsArgsFault}
use Rattle.av_text.proofs.ArgLemmas.{listed_none, listed_more, listed_all, listed_fault, same_fault, one_list, args_or_fault}
use Rattle.av_text.proofs.arguments.split_args.Goals as goal
use Rattle.av_base.specs.Failures.{IfFault}
use Rattle.av_base.proofs.FailureLemmas.{fault_passed, error_gives, error_refuses}

pub loop-place-init : goal.loop-place-init
loop-place-init c = rw c.new-list.ensures.items (listed_none c.args.args.now c.utf8.args)

pub loop-place-preserved : goal.loop-place-preserved
loop-place-preserved c =
    let pushed : c.push.new.self.items ≡ c.loop-place.list.items ++ c.in_ok-arg.arg ∷ [] = search rules in
    rw pushed (listed_more c.in_ok-arg.arg c.in_ok-arg.end c.utf8.args c.loop-place.invariant (omega arith) c.in_ok-arg.ensures.arg (c.in_ok-arg.ensures.end.1.0))

-- the fault that was found
fault : (c : goal.After-drop-list) → IfFault c.from_residual.result (λ f. (bad : List ℕ) × IsArgsFault c.args.args.now f.kind bad × (f.at + length bad ≡ length c.args.args.now))
fault c =
    let p = err_from_is_err_and c.from_residual.result c.from_residual.ensures.1 in
    fault_passed c.next_arg.result c.from_residual.result c.in_err-arg.field-0.0 p.0 (c.in_err-arg.was) p.1 p.2
    _ _ (λ f h. (h.0, listed_fault f.kind h.0 c.loop-place.invariant h.1, h.2)) c.next_arg.ensures.fault

pub returns-in_err-arg-clause-reads : goal.returns-in_err-arg-clause-reads
returns-in_err-arg-clause-reads c = λ list are.
    let p = err_from_is_err_and c.from_residual.result c.from_residual.ensures.1 in
    let q = c.from_residual.result in
    error_gives q p.0 _ p.1 (fault_passed q q p.0 p.0 p.1 p.1 refl _ _ (λ f h. args_or_fault c.args.args.now list h.1.0 f.kind h.0 are h.1.1) (fault c))

pub returns-in_err-arg-clause-fault : goal.returns-in_err-arg-clause-fault
returns-in_err-arg-clause-fault c = fault c

pub returns-in_err-arg-clause-faulty : goal.returns-in_err-arg-clause-faulty
returns-in_err-arg-clause-faulty c = λ kind bad g.
    let p = err_from_is_err_and c.from_residual.result c.from_residual.ensures.1 in
    let q = c.from_residual.result in
    error_refuses q p.0 _ p.1 (fault_passed q q p.0 p.0 p.1 p.1 refl _ _ (λ f h. same_fault c.args.args.now kind bad f h g) (fault c))

pub returns-clause-args : goal.returns-clause-args
returns-clause-args c = rw c.new.ensures (listed_all c.loop-place.invariant (omega arith))

pub returns-clause-reads : goal.returns-clause-reads
returns-clause-reads c = λ list are. one_list c.args.args.now c.new.result list (returns-clause-args c) are

pub returns-clause-faulty : goal.returns-clause-faulty
returns-clause-faulty c = λ kind bad g. args_or_fault c.args.args.now c.new.result g.0 kind bad (returns-clause-args c) g.1
