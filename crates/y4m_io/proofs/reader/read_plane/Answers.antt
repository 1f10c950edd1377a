use Rattle.std.proofs.Common.{◌≡◌, ◌*◌, length, ◌∙◌, ap, arith}
use Rattle.std.proofs.lemmas.Result.{err_from_is_err_and}
use Rattle.std.proofs.lemmas.List.{length-take-le}
use Rattle.av_base.specs.declared.shapes.Shape.{Shape}
use Rattle.av_base.specs.Shapes.{columns_of, rows_of}
use Rattle.y4m_io.proofs.ReadLemmas.{ReadsSome-append, ReadsRows-more, ReadsRows-short, piece_fits}
use Rattle.y4m_io.proofs.reader.read_plane.Goals as goal

pub returns-in_err-fill-clause-refused : goal.returns-in_err-fill-clause-refused
returns-in_err-fill-clause-refused g c =
    let p = err_from_is_err_and c.from_residual.result c.from_residual.ensures.1 in
    rw p.1 (ReadsSome-append (_, c.loop-row.invariant.rows.reads) c.in_err-fill.ensures.refused)

pub returns-then-branch-size-clause-read : goal.returns-then-branch-size-clause-read
returns-then-branch-size-clause-read g c =
    let now = c.in_ok-fill.ensures in
    let columns : c.plane_size-columns.result.0 ≡ columns_of c.args.edit.now.shape c.args.plane = c.plane_size-columns.ensures.columns ∙ ap (λ (s : Shape). columns_of s c.args.plane) c.shape.ensures.shape in
    let rows : c.plane_size-columns.result.1 ≡ rows_of c.args.edit.now.shape c.args.plane = c.plane_size-columns.ensures.rows ∙ ap (λ (s : Shape). rows_of s c.args.plane) c.shape.ensures.shape in
    let wide : c.min-count.result * c.plane_size-columns.result.0 ≡ c.min-count.result * columns_of c.args.edit.now.shape c.args.plane = ap (λ n. c.min-count.result * n) columns in
    let count = c.min-count.ensures in
    let within = c.loop-row.invariant.rows.within in
    let short = c.if-branch-size.true in
    let size : length c.fill.new.buf ≡ c.min-count.result * c.plane_size-columns.result.0 =
    c.fill.auto.buf ∙ length-take-le (c.min-count.result * c.plane_size-columns.result.0) c.loop-row.buffer
    (let all = c.requires.long in let same = c.loop-row.auto.buffer in let fits = piece_fits c.min-count.result c.plane_size-columns.result.0 (omega arith) in omega arith) in
    ReadsRows-short c.loop-row.invariant.rows c.min-count.result c.in_ok-fill.field-0 c.fill.new.buf (omega arith) (omega arith) now.fits now.read (now.end (omega arith))

pub loop-row-preserved : goal.loop-row-preserved
loop-row-preserved g c =
    let now = c.in_ok-fill.ensures in
    let columns : c.plane_size-columns.result.0 ≡ columns_of c.args.edit.now.shape c.args.plane = c.plane_size-columns.ensures.columns ∙ ap (λ (s : Shape). columns_of s c.args.plane) c.shape.ensures.shape in
    let rows : c.plane_size-columns.result.1 ≡ rows_of c.args.edit.now.shape c.args.plane = c.plane_size-columns.ensures.rows ∙ ap (λ (s : Shape). rows_of s c.args.plane) c.shape.ensures.shape in
    let wide : c.min-count.result * c.plane_size-columns.result.0 ≡ c.min-count.result * columns_of c.args.edit.now.shape c.args.plane = ap (λ n. c.min-count.result * n) columns in
    let count = c.min-count.ensures in
    let within = c.loop-row.invariant.rows.within in
    let size : length c.fill.new.buf ≡ c.min-count.result * c.plane_size-columns.result.0 =
    c.fill.auto.buf ∙ length-take-le (c.min-count.result * c.plane_size-columns.result.0) c.loop-row.buffer
    (let all = c.requires.long in let same = c.loop-row.auto.buffer in let fits = piece_fits c.min-count.result c.plane_size-columns.result.0 (omega arith) in omega arith) in
    record {
      rows = ReadsRows-more c.loop-row.invariant.rows c.min-count.result c.in_ok-fill.field-0 c.fill.new.buf (omega arith) (omega arith) (let all = c.if-branch-size.false in omega arith) now.read c.put_rows.ensures.others c.put_rows.ensures.rows c.put_rows.ensures.picture;
      faults = now.faults ∙ c.loop-row.invariant.faults;
    }
