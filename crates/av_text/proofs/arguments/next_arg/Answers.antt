use Rattle.std.proofs.Common.{◌≡◌, ◌-◌, length, refl, ◌∙◌, arith, inl, inr}
use Rattle.std.proofs.lemmas.Result.{err_from_is_err_and}
use Rattle.av_text.proofs.TokenLemmas.{place_boundary}
use Rattle.av_text.proofs.ArgLemmas.{named_place}
use Rattle.av_text.proofs.arguments.next_arg.Goals as goal
use Rattle.av_base.proofs.FailureLemmas.{fault_passed}

pub next_token-requires-clause-start : goal.next_token-requires-clause-start
next_token-requires-clause-start c =
    let named = rw c.range_from.ensures.value at c.in-Some.ensures.named in
    place_boundary c.args.args.now c.in-Some.behind.now (length c.args.args.now - length c.in-Some.behind.now) c.in-Some.ensures.utf8 (omega arith) (named_place c.args.args.now c.args.place named)

pub returns-in_err-value-in-Some-clause-fault : goal.returns-in_err-value-in-Some-clause-fault
returns-in_err-value-in-Some-clause-fault c =
    let p = err_from_is_err_and c.from_residual.result c.from_residual.ensures.1 in
    let named = rw c.range_from.ensures.value at c.in-Some.ensures.named in
    fault_passed c.next_token.result c.from_residual.result c.in_err-value-in-Some.field-0.0 p.0 (c.in_err-value-in-Some.was) p.1 p.2
    _ _ (λ f h. (h.0, inl (c.in-Some.name.now, c.in-Some.behind.now, named, rw (named_place c.args.args.now c.args.place named) at h.1), h.2)) c.next_token.ensures.fault

pub returns-in_err-value-in-None-clause-fault : goal.returns-in_err-value-in-None-clause-fault
returns-in_err-value-in-None-clause-fault c =
    let p = err_from_is_err_and c.from_residual-in_err-value-in-None.result c.from_residual-in_err-value-in-None.ensures.1 in
    let unnamed = rw c.range_from.ensures.value at (c.in-None.ensures.none refl) in
    fault_passed c.next_token-in-None.result c.from_residual-in_err-value-in-None.result c.in_err-value-in-None.field-0.0 p.0 (c.in_err-value-in-None.was) p.1 p.2
    _ _ (λ f h. (h.0, inr (unnamed, h.1), h.2)) c.next_token-in-None.ensures.fault

pub returns-in_ok-from_str-in-Some-clause-arg : goal.returns-in_ok-from_str-in-Some-clause-arg
returns-in_ok-from_str-in-Some-clause-arg c =
    let named = rw c.range_from.ensures.value at c.in-Some.ensures.named in
    let same : c.new-name.result ≡ c.in-Some.name.now = c.new-name.ensures ∙ c.in_ok-from_str-in-Some.ensures.ok in
    (c.in-Some.behind.now, rw same named, rw (named_place c.args.args.now c.args.place named) at c.in_ok-value-in-Some.ensures.token)

pub returns-in_ok-value-in-None-clause-arg : goal.returns-in_ok-value-in-None-clause-arg
returns-in_ok-value-in-None-clause-arg c = (rw c.range_from.ensures.value at (c.in-None.ensures.none refl), c.in_ok-value-in-None.ensures.token)
