use Rattle.std.proofs.Common.{drop, inl, inr}
use Rattle.std.proofs.lemmas.Result.{err_from_is_err_and}
use Rattle.graph_text.specs.Grammar.{NoFilter, NoInstance, NoArguments, NoLabels}
use Rattle.graph_text.specs.Reading.{FailsAt}
use Rattle.graph_text.proofs.filter.read_filter.Goals as goal
use Rattle.av_base.proofs.FailureLemmas.{fault_passed}

pub returns-in_err-instance-clause-fault : goal.returns-in_err-instance-clause-fault
returns-in_err-instance-clause-fault c =
    let text = c.args.text.now in
    let p = err_from_is_err_and c.from_residual-in_err-instance.result c.from_residual-in_err-instance.ensures.1 in
    fault_passed c.read_instance.result c.from_residual-in_err-instance.result c.in_err-instance.field-0.0 p.0 (c.in_err-instance.was) p.1 p.2
    (FailsAt NoInstance text c.in_ok-name.end) (FailsAt NoFilter text c.args.place)
    (λ f h. (h.0, inr (c.in_ok-ins.ins, drop c.in_ok-ins.named text, c.in_ok-ins.ensures.labels, inr (c.in_ok-name.name, drop c.in_ok-name.end text, c.in_ok-name.ensures.name, inl h.1)), h.2))
    c.read_instance.ensures.fault

pub returns-in_err-args-clause-fault : goal.returns-in_err-args-clause-fault
returns-in_err-args-clause-fault c =
    let text = c.args.text.now in
    let p = err_from_is_err_and c.from_residual-in_err-args.result c.from_residual-in_err-args.ensures.1 in
    fault_passed c.read_arguments.result c.from_residual-in_err-args.result c.in_err-args.field-0.0 p.0 (c.in_err-args.was) p.1 p.2
    (FailsAt NoArguments text c.in_ok-instance.end) (FailsAt NoFilter text c.args.place)
    (λ f h. (
      h.0,
      inr (
        c.in_ok-ins.ins,
        drop c.in_ok-ins.named text,
        c.in_ok-ins.ensures.labels,
        inr (
          c.in_ok-name.name,
          drop c.in_ok-name.end text,
          c.in_ok-name.ensures.name,
          inr (c.in_ok-instance.instance, drop c.in_ok-instance.end text, c.in_ok-instance.ensures.instance, inl h.1),
        ),
      ),
      h.2,
    ))
    c.read_arguments.ensures.fault

pub returns-in_err-outs-clause-fault : goal.returns-in_err-outs-clause-fault
returns-in_err-outs-clause-fault c =
    let text = c.args.text.now in
    let p = err_from_is_err_and c.from_residual-in_err-outs.result c.from_residual-in_err-outs.ensures.1 in
    fault_passed c.read_labels-2.result c.from_residual-in_err-outs.result c.in_err-outs.field-0.0 p.0 (c.in_err-outs.was) p.1 p.2
    (FailsAt NoLabels text c.in_ok-args.end) (FailsAt NoFilter text c.args.place)
    (λ f h. (
      h.0,
      inr (
        c.in_ok-ins.ins,
        drop c.in_ok-ins.named text,
        c.in_ok-ins.ensures.labels,
        inr (
          c.in_ok-name.name,
          drop c.in_ok-name.end text,
          c.in_ok-name.ensures.name,
          inr (c.in_ok-instance.instance, drop c.in_ok-instance.end text, c.in_ok-instance.ensures.instance, inr (c.in_ok-args.args, drop c.in_ok-args.end text, c.in_ok-args.ensures.args, h.1)),
        ),
      ),
      h.2,
    ))
    c.read_labels-2.ensures.fault
