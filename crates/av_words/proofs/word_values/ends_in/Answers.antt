use Rattle.std.proofs.Common.{◌-◌, ◌∙◌, drop, take, length, arith}
use Rattle.std.proofs.lemmas.List.{take_all}
use Rattle.std.proofs.Math.ListN.{length-drop}
use Rattle.av_words.proofs.WordValueLemmas.{ends_tested}
use Rattle.av_words.proofs.word_values.ends_in.Goals as goal

pub returns : goal.returns
returns c =
    let h = c.eq_ignore_ascii_case.ensures.test in
    let bytes = c.as_bytes-bytes.result.now in
    let n = c.saturating_sub.result in
    let whole = take_all (length bytes - n) (drop n bytes) (omega (arith, length-drop n bytes)) in
    let name = c.as_bytes-bytes.ensures.value in
    let front = c.saturating_sub.ensures in
    ends_tested c.eq_ignore_ascii_case.result c.args.name.now c.args.ending.now (take (length bytes - n) (drop n bytes)) (rw c.as_bytes.ensures.value at h) (whole ∙ (cc))
