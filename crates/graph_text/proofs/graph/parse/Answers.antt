use Rattle.std.proofs.Common.{◌≡◌, [], Some, drop, inl, inr, arith}
use Rattle.std.proofs.lemmas.Result.{err_from_is_err_and}
use Rattle.std.proofs.lemmas.List.{length-drop}
use Rattle.av_text.specs.declared.fault.TextFault.{TextFault}
use Rattle.av_text.specs.declared.fault.TextKind.TheVariants.{Stray}
use Rattle.graph_text.specs.Grammar.{NoFilter}
use Rattle.graph_text.specs.Graphs.{NoBody, IsStray, IsGraph}
use Rattle.graph_text.specs.Reading.{FailsAt, IsNext}
use Rattle.graph_text.proofs.GraphLemmas.{GraphFaultAt, called_more, called_all, called_fault, called_stray, next_boundary, refused_reads, refused_faulty, one_graph, graph_or_fault}
use Rattle.graph_text.proofs.ArgCountLemmas.{few_args}
use Rattle.graph_text.proofs.graph.parse.Goals as goal
use Rattle.av_base.specs.Failures.{IfFault}
use Rattle.av_base.proofs.FailureLemmas.{fault_passed}

pub calls-preserved : goal.calls-preserved
calls-preserved c =
    let next : IsNext (drop c.in_ok-call.end c.args.text.now) c.calls.chain (Some c.in-Some.next) = rw c.in-Some.is at c.in_ok-next.ensures.next in
    rw c.in_ok-push.ensures.items (called_more c.in_ok-call.call c.in_ok-call.end c.in-Some.next c.calls.invariant c.in_ok-call.ensures.call c.in_ok-call.ensures.later.0
    (next_boundary c.args.text.now c.in_ok-call.end c.calls.chain c.in-Some.next c.utf8.text next) next)

-- ---- no body

no_body : (c : goal.After-drop-calls) → IfFault c.from_residual.result (GraphFaultAt c.args.text.now)
no_body c =
    let text = c.args.text.now in
    let p = err_from_is_err_and c.from_residual.result c.from_residual.ensures.1 in
    fault_passed c.find_body.result c.from_residual.result c.in_err-place.field-0.0 p.0 (c.in_err-place.was) p.1 p.2 (FailsAt NoBody text 0) (GraphFaultAt text) (λ f h. (h.0, inl h.1, h.2)) c.find_body.ensures.fault

pub returns-in_err-place-clause-reads : goal.returns-in_err-place-clause-reads
returns-in_err-place-clause-reads c =
    let p = err_from_is_err_and c.from_residual.result c.from_residual.ensures.1 in
    refused_reads c.args.text.now c.from_residual.result p.0 p.1 (no_body c)

pub returns-in_err-place-clause-faulty : goal.returns-in_err-place-clause-faulty
returns-in_err-place-clause-faulty c =
    let p = err_from_is_err_and c.from_residual.result c.from_residual.ensures.1 in
    refused_faulty c.args.text.now c.from_residual.result p.0 p.1 (no_body c)

-- ---- no filter

no_call : (c : goal.After-drop-calls-in_err-call) → IfFault c.from_residual-in_err-call.result (GraphFaultAt c.args.text.now)
no_call c =
    let text = c.args.text.now in
    let p = err_from_is_err_and c.from_residual-in_err-call.result c.from_residual-in_err-call.ensures.1 in
    fault_passed c.read_filter.result c.from_residual-in_err-call.result c.in_err-call.field-0.0 p.0 (c.in_err-call.was) p.1 p.2
    (FailsAt NoFilter text c.calls.place) (GraphFaultAt text)
    (λ f h. (h.0, inr (drop c.in_ok-place.place text, c.calls.calls.items, c.in_ok-place.ensures.body, called_fault f.kind h.0 c.calls.invariant h.1), h.2)) c.read_filter.ensures.fault

pub returns-in_err-call-clause-fault : goal.returns-in_err-call-clause-fault
returns-in_err-call-clause-fault c = no_call c

pub returns-in_err-call-clause-reads : goal.returns-in_err-call-clause-reads
returns-in_err-call-clause-reads c =
    let p = err_from_is_err_and c.from_residual-in_err-call.result c.from_residual-in_err-call.ensures.1 in
    refused_reads c.args.text.now c.from_residual-in_err-call.result p.0 p.1 (no_call c)

pub returns-in_err-call-clause-faulty : goal.returns-in_err-call-clause-faulty
returns-in_err-call-clause-faulty c =
    let p = err_from_is_err_and c.from_residual-in_err-call.result c.from_residual-in_err-call.ensures.1 in
    refused_faulty c.args.text.now c.from_residual-in_err-call.result p.0 p.1 (no_call c)

-- ---- something else after a filter

strays : (c : goal.After-drop-calls-in_err-next) → IfFault c.from_residual-in_err-next.result (GraphFaultAt c.args.text.now)
strays c =
    let text = c.args.text.now in
    let end = c.in_ok-call.end in
    let p = err_from_is_err_and c.from_residual-in_err-next.result c.from_residual-in_err-next.ensures.1 in
    fault_passed c.chain_after.result c.from_residual-in_err-next.result c.in_err-next.field-0.0 p.0 (c.in_err-next.was) p.1 p.2
    (λ (f : TextFault). IsStray (drop end text) × (f.kind ≡ Stray) × (f.at ≡ end)) (GraphFaultAt text)
    (λ f h. (
      drop end text,
      inr (
        drop c.in_ok-place.place text,
        c.calls.calls.items,
        c.in_ok-place.ensures.body,
        rw h.1 (called_stray c.in_ok-call.call end c.calls.invariant c.in_ok-call.ensures.call h.0),
      ),
      (let at = h.2 in let within = c.in_ok-call.ensures.later.1.0 in omega (arith, length-drop end text)),
    ))
    c.chain_after.ensures.stray

pub returns-in_err-next-clause-fault : goal.returns-in_err-next-clause-fault
returns-in_err-next-clause-fault c = strays c

pub returns-in_err-next-clause-reads : goal.returns-in_err-next-clause-reads
returns-in_err-next-clause-reads c =
    let p = err_from_is_err_and c.from_residual-in_err-next.result c.from_residual-in_err-next.ensures.1 in
    refused_reads c.args.text.now c.from_residual-in_err-next.result p.0 p.1 (strays c)

pub returns-in_err-next-clause-faulty : goal.returns-in_err-next-clause-faulty
returns-in_err-next-clause-faulty c =
    let p = err_from_is_err_and c.from_residual-in_err-next.result c.from_residual-in_err-next.ensures.1 in
    refused_faulty c.args.text.now c.from_residual-in_err-next.result p.0 p.1 (strays c)

-- ---- all was read

graph : (c : goal.After-new-calls-2) → IsGraph c.args.text.now c.new-calls-2.result
graph c =
    let over : drop c.in_ok-call.end c.args.text.now ≡ [] = rw c.in-None.is at c.in_ok-next.ensures.next in
    rw (c.new-calls-2.ensures, c.in_ok-push.ensures.items) (drop c.in_ok-place.place c.args.text.now, c.in_ok-place.ensures.body, called_all c.in_ok-call.call c.in_ok-call.end c.calls.invariant c.in_ok-call.ensures.call over)

pub returns-clause-reads : goal.returns-clause-reads
returns-clause-reads c = λ calls are. one_graph c.args.text.now c.new-calls-2.result calls (graph c) are

pub returns-clause-faulty : goal.returns-clause-faulty
returns-clause-faulty c = λ kind bad g. graph_or_fault c.args.text.now bad c.new-calls-2.result kind (graph c) g

pub returns-clause-few : goal.returns-clause-few
returns-clause-few c = few_args c.args.text.now c.new-calls-2.result (graph c) c.requires
