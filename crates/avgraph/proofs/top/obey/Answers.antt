use Rattle.std.proofs.Common.{map}
use Rattle.std.specs.Prelude.{string_bytes}
use Rattle.avgraph.specs.Bounds.{greatest_input}
use Rattle.avgraph.proofs.HeadlineLemmas.{obeys_asked, obeys_done, obeys_stopped}
use Rattle.avgraph.proofs.top.obey.Goals as goal

pub returns-in-Err : goal.returns-in-Err
returns-in-Err g c = obeys_asked greatest_input (map string_bytes c.args.words.now) (g.H.Host.world c.args.host.now) c.in-Err.stop c.in-Err.ensures

pub returns-in-Ok-run_job : goal.returns-in-Ok-run_job
returns-in-Ok-run_job g c =
    let asked = c.in-Ok.ensures in
    let done = c.in-Ok-run_job.ensures in
    obeys_done greatest_input (map string_bytes c.args.words.now) (g.H.Host.world c.args.host.now) (g.H.Host.world c.run_job.new.host) asked.0 c.in-Ok-run_job.counts c.in-Ok.job.report asked.1 (done.commands asked.0 asked.2) asked.2.report done.faults

pub returns : goal.returns
returns g c =
    let asked = c.in-Ok.ensures in
    let stopped = c.in-Err-run_job.ensures in
    obeys_stopped greatest_input (map string_bytes c.args.words.now) (g.H.Host.world c.args.host.now) (g.H.Host.world c.run_job.new.host) asked.0 c.in-Err-run_job.stop asked.1 (stopped.commands asked.0 asked.2) stopped.faults
