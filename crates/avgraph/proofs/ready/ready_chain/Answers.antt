use Rattle.std.proofs.Common.{ap, subst, sym}
use Rattle.avgraph.specs.Chains.{ChainValue}
use Rattle.y4m_header.specs.HeaderTexts.{IsWritable}
use Rattle.avgraph.proofs.FormatLemmas.{flow_known, formats_taking}
use Rattle.avgraph.proofs.ReadyLemmas.{lacks_stop, unready_stop, rate_stop, path_writable}
use Rattle.avgraph.proofs.ready.ready_chain.Goals as goal

pub returns-in-Err-clause-stop : goal.returns-in-Err-clause-stop
returns-in-Err-clause-stop c = λ flow is. lacks_stop flow c.args.shape c.in-Err.stop (c.in-Err.ensures.stop flow is)

pub make_all_ready-requires-clause-taking : goal.make_all_ready-requires-clause-taking
make_all_ready-requires-clause-taking c =
    let flow = c.requires.flow.0 in
    let is = c.requires.flow.1 in
    (flow.path, rw (c.as_slice.ensures.value, c.as_slice-2.ensures) is.path, (formats_taking flow c.args.shape.format c.in-Ok.formats (flow_known is) (c.in-Ok.ensures.formats flow is)).0)

pub returns-in-Err-make_all_ready-clause-stop : goal.returns-in-Err-make_all_ready-clause-stop
returns-in-Err-make_all_ready-clause-stop c = λ flow is.
    unready_stop flow c.args.shape c.in-Err-make_all_ready.stop (c.in-Ok.formats, c.in-Ok.ensures.formats flow is)
    (c.in-Err-make_all_ready.ensures.stop flow.path (rw (c.as_slice.ensures.value, c.as_slice-2.ensures) is.path))

pub returns-then-not-has_rate-clause-stop : goal.returns-then-not-has_rate-clause-stop
returns-then-not-has_rate-clause-stop c = λ flow is.
    rate_stop flow c.args.shape (c.in-Ok.formats, c.in-Ok.ensures.formats flow is) (record { readies = c.in-Ok-make_all_ready.readied.readies.items; end = c.in-Ok-make_all_ready.readied.end })
    (c.in-Ok-make_all_ready.ensures.ready flow.path (rw (c.as_slice.ensures.value, c.as_slice-2.ensures) is.path)) (c.has_rate.ensures.unknown c.if-not-has_rate.true)

pub returns-clause-writable : goal.returns-clause-writable
returns-clause-writable c =
    let flow = c.requires.flow.0 in
    let is = c.requires.flow.1 in
    let held = (formats_taking flow c.args.shape.format c.in-Ok.formats (flow_known is) (c.in-Ok.ensures.formats flow is)).1 in
    let readied = c.in-Ok-make_all_ready.readied in
    subst IsWritable (sym (ap (λ (v : ChainValue). v.end) c.in_ok-chain.ensures))
    (path_writable flow.path c.args.shape readied.end readied.readies.items (c.in-Ok-make_all_ready.ensures.ready flow.path (rw (c.as_slice.ensures.value, c.as_slice-2.ensures) is.path)) c.requires.picture held
    (c.has_rate.ensures.known c.if-not-has_rate.false))
