use Rattle.std.proofs.Common.{ap, sym, subst, arith}
use Rattle.av_host.specs.Calls.{Opens}
use Rattle.y4m_io.specs.Reading.{Reading}
use Rattle.avgraph.specs.Bounds.{greatest_input}
use Rattle.avgraph.proofs.CommandLemmas.{opening_refused, heading_refused}
use Rattle.avgraph.proofs.command.open.Goals as goal

pub returns-in-Err-clause-opens : goal.returns-in-Err-clause-opens
returns-in-Err-clause-opens g c =
    rw c.stopped_opening.ensures
    (opening_refused greatest_input (g.H.Host.world c.args.host.now) (g.H.Host.world c.open_input.new.self) c.args.name.now c.in-Err.error c.in-Err.ensures.refused)

pub returns-in-Err-header-clause-opens : goal.returns-in-Err-header-clause-opens
returns-in-Err-header-clause-opens g c =
    let a = g.H.Host.world c.args.host.now in
    let b = g.H.Host.world c.open_input.new.self in
    let made = c.in-Ok-new.ensures in
    rw c.stopped_heading.ensures
    (heading_refused greatest_input a b (g.H.Host.world c.header.new.host) c.args.name.now c.in-Ok-new.reader c.header.new.self c.in-Err-header.error (omega arith)
    (subst (λ (r : Reading). Opens a b c.args.name.now r.id) (sym made) c.in-Ok.ensures.opened) (ap (λ (r : Reading). r.room) made) c.in-Err-header.ensures.heads)
