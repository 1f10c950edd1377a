use Rattle.std.proofs.Common.{◌≡◌, ◌∙◌, ap, arith}
use Rattle.std.proofs.lemmas.Result.{err_from_is_err_and}
use Rattle.av_host.proofs.Runs.{Reads-append}
use Rattle.av_base.specs.Shapes.{bytes_of}
use Rattle.y4m_io.proofs.ReadLemmas.{ReadsSome-append, ends_last, refused_last, found_no_mark, found_mark_part, found_mark_past, found_short}
use Rattle.y4m_io.proofs.reader.read_frame.Goals as goal

pub returns-in-Bad-clause-found : goal.returns-in-Bad-clause-found
returns-in-Bad-clause-found g c = found_no_mark c.args.edit.now.shape (rw c.in-Bad.is at c.in_ok-size.ensures.mark)

pub returns-in-Short-clause-found : goal.returns-in-Short-clause-found
returns-in-Short-clause-found g c = found_mark_part c.args.edit.now.shape (rw c.in-Short.is at c.in_ok-size.ensures.mark)

pub returns-in-Past-clause-found : goal.returns-in-Past-clause-found
returns-in-Past-clause-found g c = found_mark_past c.args.edit.now.shape (rw c.in-Past.is at c.in_ok-size.ensures.mark)

pub returns-then-picture_bytes-left-clause-found : goal.returns-then-picture_bytes-left-clause-found
returns-then-picture_bytes-left-clause-found g c =
    let begun = rw c.in-Whole.is at c.in_ok-size.ensures.mark in
    let size : c.picture_bytes.result ≡ bytes_of c.args.edit.now.shape = c.picture_bytes.ensures ∙ ap bytes_of c.shape.ensures.shape in
    let low = begun.4 in
    ends_last (g.H.Host.world c.read_last.new.host) c.args.edit.now c.read_last.result begun.0 begun.2 begun.3 begun.4 begun.1 (let small = c.if-picture_bytes-left.true in omega arith) c.read_last.ensures.found

pub returns-then-picture_bytes-left-clause-refused : goal.returns-then-picture_bytes-left-clause-refused
returns-then-picture_bytes-left-clause-refused g c =
    let begun = rw c.in-Whole.is at c.in_ok-size.ensures.mark in
    refused_last {line = begun.0} (g.H.Host.world c.read_last.new.host) c.read_last.result begun.1 c.read_last.ensures.refused

pub returns-in_err-read_picture-clause-refused : goal.returns-in_err-read_picture-clause-refused
returns-in_err-read_picture-clause-refused g c =
    let p = err_from_is_err_and c.from_residual-in_err-read_picture.result c.from_residual-in_err-read_picture.ensures.1 in
    let begun = rw c.in-Whole.is at c.in_ok-size.ensures.mark in
    rw p.1 (ReadsSome-append (begun.0, begun.1) c.in_err-read_picture.ensures.refused)

pub returns-in-Whole-2-clause-found : goal.returns-in-Whole-2-clause-found
returns-in-Whole-2-clause-found g c =
    let begun = rw c.in-Whole.is at c.in_ok-size.ensures.mark in
    let picture = rw c.in-Whole-2.is at c.in_ok-read_picture.ensures.read in
    let size : c.picture_bytes.result ≡ bytes_of c.args.edit.now.shape = c.picture_bytes.ensures ∙ ap bytes_of c.shape.ensures.shape in
    record {
      line = begun.0;
      is_mark = begun.2;
      long = begun.3;
      reads = Reads-append begun.1 picture.reads;
      shape = picture.shape;
      within = let low = begun.4 in let all = c.if-picture_bytes-left.false in omega arith;
    }

pub returns-in-Short-2-clause-found : goal.returns-in-Short-2-clause-found
returns-in-Short-2-clause-found g c =
    let begun = rw c.in-Whole.is at c.in_ok-size.ensures.mark in
    let rest = rw c.in-Short-2.is at c.in_ok-read_picture.ensures.read in
    let size : c.picture_bytes.result ≡ bytes_of c.args.edit.now.shape = c.picture_bytes.ensures ∙ ap bytes_of c.shape.ensures.shape in
    found_short c.args.edit.now.shape begun.0 begun.2 begun.3 begun.1 rest (let low = begun.4 in let all = c.if-picture_bytes-left.false in omega arith)
