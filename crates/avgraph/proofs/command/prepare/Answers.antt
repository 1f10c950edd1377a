use Rattle.std.proofs.Common.{◌∙◌, List, ℕ, Err, sym, subst}
use Rattle.av_host.specs.World.{Faults}
use Rattle.y4m_io.specs.Reading.{Reading}
use Rattle.avgraph.specs.Bounds.{greatest_input}
use Rattle.avgraph.specs.Chains.{ChainValue}
use Rattle.avgraph.specs.Commands.{OpensFile, OpensWell}
use Rattle.avgraph.specs.Stops.{CountsStop}
use Rattle.y4m_header.proofs.LawLemmas.{meaning_pictured}
use Rattle.avgraph.proofs.CommandLemmas.{open_refused, shape_refused, prepared}
use Rattle.avgraph.proofs.ReadyLemmas.{shape_counts}
use Rattle.avgraph.proofs.command.prepare.Goals as goal

pub ready_chain-requires-clause-picture : goal.ready_chain-requires-clause-picture
ready_chain-requires-clause-picture g c = meaning_pictured c.in-Ok.ensures.opens.line c.in-Ok.opened.1 c.in-Ok.ensures.opens.means

pub ready_chain-requires-clause-flow : goal.ready_chain-requires-clause-flow
ready_chain-requires-clause-flow g c = (c.requires.0.flow, c.requires.1.flow)

pub returns-in-Err-clause-prepares : goal.returns-in-Err-clause-prepares
returns-in-Err-clause-prepares g c = λ request is.
    let a = g.H.Host.world c.args.host.now in
    let b = g.H.Host.world c.open.new.host in
    open_refused greatest_input request.flow a b request.input c.in-Err.stop (subst (λ (n : List ℕ). OpensFile greatest_input a b n (Err c.in-Err.stop)) (c.as_str.ensures ∙ is.input) c.in-Err.ensures.opens)

pub returns-in-Ok-ready_chain-clause-prepares : goal.returns-in-Ok-ready_chain-clause-prepares
returns-in-Ok-ready_chain-clause-prepares g c = λ request is.
    let a = g.H.Host.world c.args.host.now in
    let b = g.H.Host.world c.open.new.host in
    let ready = c.in-Ok-ready_chain.ensures in
    let opens = subst (λ (n : List ℕ). OpensWell greatest_input a b n c.in-Ok.opened.0 c.in-Ok.opened.1) (c.as_str.ensures ∙ is.input) c.in-Ok.ensures.opens in
    prepared greatest_input request.flow a b request.input c.in-Ok.opened.0 c.in-Ok.opened.1 c.in-Ok-ready_chain.chain opens (ready.formats request.flow is.flow) (ready.ready request.flow is.flow) ready.writable

pub returns-in-Err-ready_chain-clause-prepares : goal.returns-in-Err-ready_chain-clause-prepares
returns-in-Err-ready_chain-clause-prepares g c = λ request is.
    let a = g.H.Host.world c.args.host.now in
    let b = g.H.Host.world c.open.new.host in
    let opens = subst (λ (n : List ℕ). OpensWell greatest_input a b n c.in-Ok.opened.0 c.in-Ok.opened.1) (c.as_str.ensures ∙ is.input) c.in-Ok.ensures.opens in
    shape_refused greatest_input request.flow a b request.input c.in-Ok.opened.0 c.in-Ok.opened.1 c.in-Err-ready_chain.stop opens (c.in-Err-ready_chain.ensures.stop request.flow is.flow)

pub returns-in-Err-ready_chain-clause-faults : goal.returns-in-Err-ready_chain-clause-faults
returns-in-Err-ready_chain-clause-faults g c =
    subst (λ (f : Faults). CountsStop {T = Reading × ChainValue} (Err c.in-Err-ready_chain.stop) (g.H.Host.world c.args.host.now).faults f) (sym c.in-Ok.ensures.faults)
    (shape_counts (Reading × ChainValue) c.requires.0.flow c.in-Ok.opened.1 c.in-Err-ready_chain.stop (g.H.Host.world c.args.host.now).faults (c.in-Err-ready_chain.ensures.stop c.requires.0.flow c.requires.1.flow))
