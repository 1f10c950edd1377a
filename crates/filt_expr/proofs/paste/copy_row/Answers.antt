use Rattle.std.proofs.Common.{◌≡◌, ◌-◌, ◌+◌, ◌∙◌, sym, ap, ℕ, length, take, drop, rules, arith}
use Rattle.std.proofs.lemmas.List.{length-take, length-drop}
use Rattle.av_frame.specs.Pictures.{sample}
use Rattle.av_frame.specs.Sources.{source_at}
use Rattle.filt_expr.proofs.PasteLemmas.{pasted}
use Rattle.filt_expr.proofs.paste.copy_row.Goals as goal

pub returns-clause-out : goal.returns-clause-out
returns-clause-out c = λ k less.
    let b = c.min-begin.result in
    let e = c.min-end.result in
    let begin = c.min-begin.ensures in
    let end = c.min-end.ensures in
    let n : length (take (e - b) (drop b c.args.out.now)) ≡ e - b = length-take (e - b) (drop b c.args.out.now) ∙ (let d = length-drop b c.args.out.now in omega (arith, d, begin, end)) in
    let long : length c.read_part.new.out ≡ e - b = search rules in
    let columns = sym c.size_of-columns.ensures.columns in
    rw columns
    (pasted c.args.out.now c.read_part.new.out b e c.args.left c.size_of-columns.result.0 k (λ (i : ℕ). sample (source_at c.args.sources.now 0) c.args.plane c.args.row i) begin end long
    (λ i h. c.read_part.ensures.out i (omega (arith, n, h)) ∙ ap (λ (j : ℕ). sample (source_at c.args.sources.now 0) c.args.plane c.args.row j) (let zero_first : 0 + i ≡ i = omega arith in zero_first)) less)
