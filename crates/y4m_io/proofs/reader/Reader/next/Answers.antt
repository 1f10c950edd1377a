use Rattle.std.proofs.Common.{◌<◌, ◌+◌, ◌∙◌, ap, subst, arith}
use Rattle.av_base.specs.declared.shapes.Shape.{Shape}
use Rattle.av_base.specs.Shapes.{bytes_of}
use Rattle.y4m_io.specs.Sizes.{longest_mark}
use Rattle.av_frame.specs.Frames.{EditValue}
use Rattle.y4m_io.specs.FrameTexts.{IsTruncated, IsPastLimit}
use Rattle.y4m_io.specs.Reading.{Reading}
use Rattle.y4m_io.proofs.ReadLemmas.{gives_frame, refused, same_shape}
use Rattle.y4m_io.proofs.reader.Reader.next.Goals as goal

pub returns-in-Ok-Frame-clause-gives : goal.returns-in-Ok-Frame-clause-gives
returns-in-Ok-Frame-clause-gives g c = λ shape headed.
    let found = rw c.in-Ok-Frame.field-0-is at c.in-Ok-Frame.ensures.found in
    let blank = ap (λ (e : EditValue). e.shape) c.in-Ok.ensures in
    gives_frame c.args.self.now c.in-Ok.edit c.read_frame.new.edit c.self.view_is c.in-Headed.is headed found blank c.shape.ensures.shape c.shape.ensures.picture c.picture_bytes.ensures c.self.invariant.1 c.seal.ensures

pub returns-in-Ok-Short-clause-gives : goal.returns-in-Ok-Short-clause-gives
returns-in-Ok-Short-clause-gives g c = λ shape headed.
    let found = rw c.in-Ok-Short.field-0-is at c.in-Ok-Short.ensures.found in
    let room = ap (λ (r : Reading). r.room) c.self.view_is in
    let some = found.0 in
    ((ap (λ (r : Reading). r.frames) c.self.view_is, omega arith), refused IsTruncated c.args.self.now c.in-Ok.edit.shape c.self.view_is c.in-Headed.is headed (ap (λ (e : EditValue). e.shape) c.in-Ok.ensures) (found.1, found.2))

pub returns-in-Ok-Past-clause-gives : goal.returns-in-Ok-Past-clause-gives
returns-in-Ok-Past-clause-gives g c = λ shape headed.
    let found = rw c.in-Ok-Past.field-0-is at c.in-Ok-Past.ensures.found in
    let room = ap (λ (r : Reading). r.room) c.self.view_is in
    let blank = ap (λ (e : EditValue). e.shape) c.in-Ok.ensures in
    let same = blank ∙ same_shape c.args.self.now c.self.view_is c.in-Headed.is headed in
    let low = found.0 in
    (subst (λ (s : Shape). c.args.self.now.room < longest_mark + bytes_of s) same (omega arith), refused IsPastLimit c.args.self.now c.in-Ok.edit.shape c.self.view_is c.in-Headed.is headed blank (found.1, found.2))
