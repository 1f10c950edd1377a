use Rattle.std.proofs.Common.{rules, true, ◌≡◌, ◌==◌, ◌+◌, ℕ, List, drop, length, refl, ap, subst, lit<, inr, arith}
use Rattle.std.specs.Prelude.{slice_index}
use Rattle.std.proofs.lemmas.List.{length-drop}
use Rattle.av_text.specs.Arguments.{IsArgsFault}
use Rattle.av_text.proofs.Places.{begins_at}
use Rattle.graph_text.proofs.arguments.read_arguments.Goals as goal
use Rattle.av_base.proofs.FailureLemmas.{fault_found}

pub split_args-requires : goal.split_args-requires
split_args-requires c =
    let short = c.in_ok-token.ensures.short in
    let same = ap length c.as_str.ensures in omega arith

pub returns-in-Ok-clause-args : goal.returns-in-Ok-clause-args
returns-in-Ok-clause-args c =
    let text = c.args.text.now in
    let place = c.skip_white-place.result in
    let test : true ≡ (slice_index (drop place text) 0 == 61) = search rules in
    let mark = begins_at 61 text place (lit< tt) test in
    inr (drop (place + 1) text, drop c.skip_white-start.result text, c.in_ok-token.token, rw mark at c.skip_white-place.ensures.skips, c.skip_white-start.ensures.skips, c.in_ok-token.ensures.token, rw c.as_str.ensures at c.in-Ok.ensures.args)

-- the fault of the value
inner : (c : goal.After-drop-token-inside-in-Err-Fault) → (bad : List ℕ) × IsArgsFault c.in_ok-token.token c.in-Err-Fault.inner.kind bad
inner c =
    let found = fault_found c.split_args.result c.in-Err-Fault.field-0 c.in-Err-Fault.inner _ c.in-Err-Fault.is c.in-Err-Fault.field-0-is c.split_args.ensures.fault in
    let P : List ℕ → Type 0 = λ token. IsArgsFault token c.in-Err-Fault.inner.kind found.0 in
    (found.0, subst P c.as_str.ensures found.1)

pub returns-in-Err-Fault-clause-fault : goal.returns-in-Err-Fault-clause-fault
returns-in-Err-Fault-clause-fault c =
    let text = c.args.text.now in
    let place = c.skip_white-place.result in
    let test : true ≡ (slice_index (drop place text) 0 == 61) = search rules in
    let mark = begins_at 61 text place (lit< tt) test in
    let found = inner c in
    let within = c.skip_white-start.ensures.later.1.0 in
    rw c.fault.ensures (
      drop c.skip_white-start.result text,
      (
        drop (place + 1) text,
        drop c.skip_white-start.result text,
        rw mark at c.skip_white-place.ensures.skips,
        c.skip_white-start.ensures.skips,
        inr (c.in_ok-token.token, drop c.in_ok-token.end text, found.0, c.in_ok-token.ensures.token, found.1, refl),
      ),
      omega (arith, length-drop c.skip_white-start.result text),
    )
