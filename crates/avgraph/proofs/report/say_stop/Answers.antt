use Rattle.std.proofs.Common.{◌≡◌, ◌∙◌}
use Rattle.av_faults.specs.Faults.{stop_line}
use Rattle.avgraph.proofs.HeadlineLemmas.{prints_of}
use Rattle.avgraph.proofs.report.say_stop.Goals as goal

pub returns : goal.returns
returns g c =
    let said : c.as_bytes.result.now ≡ stop_line c.args.stop = c.as_bytes.ensures.value ∙ c.as_str.ensures.value ∙ c.line-text.ensures in
    rw said at (prints_of c.say_all.result c.say_all.ensures.said c.say_all.ensures.refused c.say_all.ensures.faults)
