use Rattle.std.proofs.Common.{◌≡◌, ◌≤◌, ◌-◌, suc, length, rules, arith}
use Rattle.std.proofs.lemmas.Result.{err_from_is_err_and, IfOk-weaker}
use Rattle.av_expr.specs.Grammar.{IsUnary, NoUnary, NoProduct, NoSum, IsOpen, NoAtom}
use Rattle.av_expr.specs.Reading.{FailsAt}
use Rattle.av_expr.proofs.ReadLemmas.{chained_more, chained_all, chained_fault, unary_atom, no_unary_atom, unary_plus, unary_minus, unary_group, no_unary_plus, no_unary_minus, no_group_inside, no_group_end, too_deep}
use Rattle.av_expr.proofs.reader.+grammar.Goals as goal
use Rattle.av_base.proofs.FailureLemmas.{fault_passed, fault_weaker, both_ok}

pub read_product-returns-in_err-end-2-clause-fault : goal.read_product-returns-in_err-end-2-clause-fault
read_product-returns-in_err-end-2-clause-fault t c =
    let text = c.args.text.now in
    let p = err_from_is_err_and c.from_residual-in_err-end-2.result c.from_residual-in_err-end-2.ensures.1 in
    fault_passed c.read_unary-in-Some.result c.from_residual-in_err-end-2.result c.in_err-end-2.field-0.0 p.0 c.in_err-end-2.was p.1 p.2
    (FailsAt (NoUnary c.args.allowed c.args.levels) text c.skip_white-operand.result) (FailsAt (NoProduct (IsUnary c.args.allowed c.args.levels) (NoUnary c.args.allowed c.args.levels)) text c.args.place)
    (chained_fault c.skip_white-operand.result c.in-Some.operator c.operands.invariant c.in-Some.ensures c.skip_white-operand.ensures.skips)
    c.read_unary-in-Some.ensures.fault

pub read_product-operands-preserved : goal.read_product-operands-preserved
read_product-operands-preserved t c =
    chained_more c.in-Some.operator c.operands.invariant c.in-Some.ensures c.skip_white-operand.ensures.skips c.skip_white-operand.ensures.later c.in_ok-end-2.ensures.read c.in_ok-push.ensures.items

pub read_product-returns-clause-read : goal.read_product-returns-clause-read
read_product-returns-clause-read t c = chained_all c.operands.invariant c.in_default.ensures

pub read_sum-returns-in_err-end-2-clause-fault : goal.read_sum-returns-in_err-end-2-clause-fault
read_sum-returns-in_err-end-2-clause-fault t c =
    let text = c.args.text.now in
    let P = IsUnary c.args.allowed c.args.levels in
    let F = NoUnary c.args.allowed c.args.levels in
    let p = err_from_is_err_and c.from_residual-in_err-end-2.result c.from_residual-in_err-end-2.ensures.1 in
    fault_passed c.read_product-in-Some.result c.from_residual-in_err-end-2.result c.in_err-end-2.field-0.0 p.0 c.in_err-end-2.was p.1 p.2
    (FailsAt (NoProduct P F) text c.skip_white-operand.result) (FailsAt (NoSum P F) text c.args.place)
    (chained_fault c.skip_white-operand.result c.in-Some.operator c.operands.invariant c.in-Some.ensures c.skip_white-operand.ensures.skips)
    c.read_product-in-Some.ensures.fault

pub read_sum-operands-preserved : goal.read_sum-operands-preserved
read_sum-operands-preserved t c =
    chained_more c.in-Some.operator c.operands.invariant c.in-Some.ensures c.skip_white-operand.ensures.skips c.skip_white-operand.ensures.later c.in_ok-end-2.ensures.read c.in_ok-push.ensures.items

pub read_sum-returns-clause-read : goal.read_sum-returns-clause-read
read_sum-returns-clause-read t c = chained_all c.operands.invariant c.in_default.ensures

pub read_unary-returns-in_default-clause-read : goal.read_unary-returns-in_default-clause-read
read_unary-returns-in_default-clause-read t c = IfOk-weaker c.read_atom.result _ _ (λ end h. unary_atom c.args.allowed c.args.levels h) c.read_atom.ensures.read

pub read_unary-returns-in_default-clause-fault : goal.read_unary-returns-in_default-clause-fault
read_unary-returns-in_default-clause-fault t c =
    fault_weaker c.read_atom.result (FailsAt (NoAtom c.args.allowed) c.args.text.now c.args.place) (FailsAt (NoUnary c.args.allowed c.args.levels) c.args.text.now c.args.place)
    (no_unary_atom c.args.allowed c.args.levels c.args.text.now c.args.place) c.read_atom.ensures.fault

pub read_unary-returns-then-levels-eq0-clause-fault : goal.read_unary-returns-then-levels-eq0-clause-fault
read_unary-returns-then-levels-eq0-clause-fault t c =
    let within : c.args.place ≤ length c.args.text.now = search rules in
    rw c.fault.ensures (too_deep c.args.allowed c.args.levels c.if-levels-eq0.true c.args.text.now c.args.place c.in-Some.opening within c.in-Some.ensures)

pub read_unary-returns-in-Plus-clause-read : goal.read_unary-returns-in-Plus-clause-read
read_unary-returns-in-Plus-clause-read t c =
    let less : c.args.levels ≡ suc (c.args.levels - 1) = let some = c.if-levels-eq0.false in omega arith in
    let at = rw c.in-Plus.is at c.in-Some.ensures in
    IfOk-weaker c.read_unary.result _ _ (λ end h. unary_plus c.args.allowed c.args.levels (c.args.levels - 1) less at c.skip_white-inside.ensures.skips c.skip_white-inside.ensures.later h) c.read_unary.ensures.read

pub read_unary-returns-in-Plus-clause-fault : goal.read_unary-returns-in-Plus-clause-fault
read_unary-returns-in-Plus-clause-fault t c =
    let text = c.args.text.now in
    let less : c.args.levels ≡ suc (c.args.levels - 1) = let some = c.if-levels-eq0.false in omega arith in
    let at = rw c.in-Plus.is at c.in-Some.ensures in
    fault_weaker c.read_unary.result (FailsAt (NoUnary c.args.allowed (c.args.levels - 1)) text c.skip_white-inside.result) (FailsAt (NoUnary c.args.allowed c.args.levels) text c.args.place)
    (no_unary_plus c.args.allowed c.args.levels (c.args.levels - 1) less text c.args.place c.skip_white-inside.result at c.skip_white-inside.ensures.skips) c.read_unary.ensures.fault

pub read_unary-returns-in_ok-push-in-Minus-clause-read : goal.read_unary-returns-in_ok-push-in-Minus-clause-read
read_unary-returns-in_ok-push-in-Minus-clause-read t c =
    let less : c.args.levels ≡ suc (c.args.levels - 1) = let some = c.if-levels-eq0.false in omega arith in
    let at = rw c.in-Minus.is at c.in-Some.ensures in
    unary_minus c.args.allowed c.args.levels (c.args.levels - 1) less at c.skip_white-inside.ensures.skips c.skip_white-inside.ensures.later c.in_ok-end-in-Minus.ensures.read c.in_ok-push-in-Minus.ensures.items

pub read_unary-returns-in_err-end-in-Minus-clause-fault : goal.read_unary-returns-in_err-end-in-Minus-clause-fault
read_unary-returns-in_err-end-in-Minus-clause-fault t c =
    let text = c.args.text.now in
    let less : c.args.levels ≡ suc (c.args.levels - 1) = let some = c.if-levels-eq0.false in omega arith in
    let at = rw c.in-Minus.is at c.in-Some.ensures in
    let p = err_from_is_err_and c.from_residual.result c.from_residual.ensures.1 in
    fault_passed c.read_unary-in-Minus.result c.from_residual.result c.in_err-end-in-Minus.field-0.0 p.0 c.in_err-end-in-Minus.was p.1 p.2
    (FailsAt (NoUnary c.args.allowed (c.args.levels - 1)) text c.skip_white-inside.result) (FailsAt (NoUnary c.args.allowed c.args.levels) text c.args.place)
    (no_unary_minus c.args.allowed c.args.levels (c.args.levels - 1) less text c.args.place c.skip_white-inside.result at c.skip_white-inside.ensures.skips) c.read_unary-in-Minus.ensures.fault

pub read_unary-returns-in_ok-end-in-Group-clause-read : goal.read_unary-returns-in_ok-end-in-Group-clause-read
read_unary-returns-in_ok-end-in-Group-clause-read t c =
    let less : c.args.levels ≡ suc (c.args.levels - 1) = let some = c.if-levels-eq0.false in omega arith in
    let at = rw c.in-Group.is at c.in-Some.ensures in
    both_ok c.close.result c.close.ensures.mark c.close.ensures.later
    (λ next closes last. unary_group c.args.allowed c.args.levels (c.args.levels - 1) less at c.skip_white-inside.ensures.skips c.skip_white-inside.ensures.later c.in_ok-end-in-Group.ensures.read closes last)

pub read_unary-returns-in_ok-end-in-Group-clause-fault : goal.read_unary-returns-in_ok-end-in-Group-clause-fault
read_unary-returns-in_ok-end-in-Group-clause-fault t c =
    let text = c.args.text.now in
    let less : c.args.levels ≡ suc (c.args.levels - 1) = let some = c.if-levels-eq0.false in omega arith in
    let at = rw c.in-Group.is at c.in-Some.ensures in
    fault_weaker c.close.result (FailsAt IsOpen text c.in_ok-end-in-Group.end) (FailsAt (NoUnary c.args.allowed c.args.levels) text c.args.place)
    (no_group_end c.args.allowed c.args.levels (c.args.levels - 1) less text c.args.place c.skip_white-inside.result c.in_ok-end-in-Group.end at c.skip_white-inside.ensures.skips c.in_ok-end-in-Group.ensures.read) c.close.ensures.fault

pub read_unary-returns-in_err-end-in-Group-clause-fault : goal.read_unary-returns-in_err-end-in-Group-clause-fault
read_unary-returns-in_err-end-in-Group-clause-fault t c =
    let text = c.args.text.now in
    let P = IsUnary c.args.allowed (c.args.levels - 1) in
    let F = NoUnary c.args.allowed (c.args.levels - 1) in
    let less : c.args.levels ≡ suc (c.args.levels - 1) = let some = c.if-levels-eq0.false in omega arith in
    let at = rw c.in-Group.is at c.in-Some.ensures in
    let p = err_from_is_err_and c.from_residual-in_err-end-in-Group.result c.from_residual-in_err-end-in-Group.ensures.1 in
    fault_passed c.read_sum.result c.from_residual-in_err-end-in-Group.result c.in_err-end-in-Group.field-0.0 p.0 c.in_err-end-in-Group.was p.1 p.2
    (FailsAt (NoSum P F) text c.skip_white-inside.result) (FailsAt (NoUnary c.args.allowed c.args.levels) text c.args.place)
    (no_group_inside c.args.allowed c.args.levels (c.args.levels - 1) less text c.args.place c.skip_white-inside.result at c.skip_white-inside.ensures.skips) c.read_sum.ensures.fault
