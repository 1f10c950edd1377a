use Rattle.std.proofs.Common.{◌∙◌, sym, rules}
use Rattle.av_frame.specs.Sources.{source_at}
use Rattle.filt_expr.proofs.PadLemmas.{row_inside, row_outside}
use Rattle.filt_expr.proofs.pad.PadSettingsKernel.row.Goals as goal

pub returns-then-is_among-clause-out : goal.returns-then-is_among-clause-out
returns-then-is_among-clause-out c = λ k less.
    let at = c.start_in-left.ensures in
    row_inside (source_at c.args.sources.now 0) c.args.plane c.args.row k c.args.self.now.x c.args.self.now.y c.args.self.now.color c.start_in-left.result.1 c.start_in-left.result.0 c.size_of-columns.result.1 _ _
    at.row at.column c.size_of-columns.ensures.rows (sym c.is_among.ensures ∙ c.if-is_among.true) (c.copy_row.ensures.out k (search rules)) (λ out. c.fill_around.ensures k less (rw c.size_of-columns.ensures.columns out) ∙ c.sample-value.ensures)

pub returns-else-is_among-clause-out : goal.returns-else-is_among-clause-out
returns-else-is_among-clause-out c = λ k less.
    let at = c.start_in-left.ensures in
    row_outside (source_at c.args.sources.now 0) c.args.plane c.args.row k c.args.self.now.x c.args.self.now.y c.args.self.now.color c.start_in-left.result.1 c.size_of-columns.result.1 _
    at.row c.size_of-columns.ensures.rows (sym c.is_among.ensures ∙ c.if-is_among.false) (c.fill.ensures k less ∙ c.sample-value.ensures)
