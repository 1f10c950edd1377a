use Rattle.std.proofs.Common.{◌≡◌, ◌∙◌, ◌+◌, ◌-◌, ℕ, ap, length, take, drop, arith}
use Rattle.std.specs.Simd.Lanes.{chunk}
use Rattle.av_frame.proofs.PageLemmas.{part_long, part_written, part_small}
use Rattle.av_frame.proofs.page.map_at.Goals as goal

pub returns-clause-mapped : goal.returns-clause-mapped
returns-clause-mapped g c =
    let all = c.args.all.now in
    let whole = part_long c.args.at c.args.count all c.requires.inside in
    let long : length c.map_row.new.row ≡ c.args.count = c.map_row.auto.row ∙ whole in
    let e : (c.args.at + c.args.count) - c.args.at ≡ c.args.count = omega arith in
    part_written c.args.at c.args.count all c.map_row.new.row (g.M.RowMap.value c.args.map.now c.args.plane (chunk c.args.at c.args.count all)) long c.requires.inside
    (λ k h. c.map_row.ensures k (omega arith) ∙ ap (λ (m : ℕ). g.M.RowMap.value c.args.map.now c.args.plane (take m (drop c.args.at all)) k) e)

pub returns-clause-small : goal.returns-clause-small
returns-clause-small g c =
    let all = c.args.all.now in
    let value = g.M.RowMap.value c.args.map.now c.args.plane (chunk c.args.at c.args.count all) in
    let whole = part_long c.args.at c.args.count all c.requires.inside in
    let long : length c.map_row.new.row ≡ c.args.count = c.map_row.auto.row ∙ whole in
    let e : (c.args.at + c.args.count) - c.args.at ≡ c.args.count = omega arith in
    part_small c.args.at c.args.count all _ value
    (part_written c.args.at c.args.count all c.map_row.new.row value long c.requires.inside
    (λ k h. c.map_row.ensures k (omega arith) ∙ ap (λ (m : ℕ). g.M.RowMap.value c.args.map.now c.args.plane (take m (drop c.args.at all)) k) e))
    c.requires.inside c.are_bytes.ensures
