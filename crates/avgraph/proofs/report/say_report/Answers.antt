use Rattle.std.proofs.Common.{◌≡◌, ◌≤◌, ◌+◌, ◌∙◌, refl, ap, length, arith}
use Rattle.avgraph.specs.Headline.{counts_text}
use Rattle.avgraph.proofs.HeadlineLemmas.{prints_of}
use Rattle.avgraph.proofs.report.say_report.Goals as goal

pub push_str-requires : goal.push_str-requires
push_str-requires g c =
    let same = ap length c.as_str.ensures.value in
    let first : length c.input_line-text.result.bytes ≤ 52 = c.input_line-text.ensures.short in
    let second : length c.output_line.result.bytes ≤ 80 = c.output_line.ensures.short in
    let fits : length c.input_line-text.result.bytes + length c.as_str.result.now ≤ 160 = omega arith in
    (omega arith, fits)

pub returns : goal.returns
returns g c =
    let both : c.push_str.new.self.bytes ≡ counts_text c.args.counts = rw (c.push_str.ensures.bytes, c.as_str.ensures.value, c.input_line-text.ensures.text, c.output_line.ensures.text) refl in
    let said : c.as_bytes.result.now ≡ counts_text c.args.counts = c.as_bytes.ensures.value ∙ (c.as_str-2.ensures.value ∙ both) in
    rw said at (prints_of c.say_all.result c.say_all.ensures.said c.say_all.ensures.refused c.say_all.ensures.faults)
