use Rattle.std.proofs.Common.{rules, ◌∙◌, w64}
use Rattle.std.proofs.lemmas.Int.{to_z-of_z}
use Rattle.av_filter.proofs.MapFrameLemmas.{mapped}
use Rattle.av_filter.proofs.mapping.map_frame.Goals as goal

pub returns-clause-made : goal.returns-clause-made
returns-clause-made g c =
    mapped (g.M.RowMap.value c.args.map.now) c.args.frame c.seal.result c.in-Ok.edit c.map_rows.new.edit _ _ c.seal.ensures c.map_rows.ensures c.in-Ok.ensures.edit
    (to_z-of_z w64 c.pts-pts.result (search rules) ∙ c.pts-pts.ensures)
    (to_z-of_z w64 c.duration-duration.result (search rules) ∙ c.duration-duration.ensures)
