use Rattle.std.proofs.Common.{◌≡◌, List, ℕ, refl, ◌∙◌, ap, sym, subst, arith, take}
use Rattle.std.proofs.lemmas.List.{length-take-le}
use Rattle.y4m_header.specs.Said.{StandsAlways}
use Rattle.y4m_io.specs.Heads.IsHeadFault.{Line, Other, Endless, Always, Past}
use Rattle.y4m_io.proofs.LineLemmas.{front_within}
use Rattle.y4m_io.proofs.HeadLemmas.{line_read, begins_magic, begins_other, heads_fault}
use Rattle.y4m_io.proofs.reader.Reader.header.Goals as goal

pub returns-in-Ok-Unended-clause-heads : goal.returns-in-Ok-Unended-clause-heads
returns-in-Ok-Unended-clause-heads g c =
    let line = rw c.in-Ok-Unended.field-0-is at c.in-Ok-Unended.ensures.line in
    let size = c.in-Ok-Unended.size in
    let text = take size c.read_line.new.buffer in
    let same : take size c.deref.result.now ≡ text = ap (take size) c.deref.ensures.value ∙ front_within size c.self.inside.buffer.len c.read_line.new.buffer _ (omega arith) line.1 in
    let value = rw same at c.starts_with.ensures.value in
    rw (← c.self.view_is) (record {
      reads = line.0;
      after_is = refl;
      cause = λ left told. let found = line.2 left told in let more = begins_magic text left found.2 c.starts_with.result value c.if-starts_with.true found.3 in Endless found.0 more.0 more.1;
    })

pub returns-in-Ok-Unended-2-clause-heads : goal.returns-in-Ok-Unended-2-clause-heads
returns-in-Ok-Unended-2-clause-heads g c =
    let line = rw c.in-Ok-Unended.field-0-is at c.in-Ok-Unended.ensures.line in
    let size = c.in-Ok-Unended.size in
    let text = take size c.read_line.new.buffer in
    let same : take size c.deref.result.now ≡ text = ap (take size) c.deref.ensures.value ∙ front_within size c.self.inside.buffer.len c.read_line.new.buffer _ (omega arith) line.1 in
    let value = rw same at c.starts_with.ensures.value in
    rw (← c.self.view_is) (record {
      reads = line.0;
      after_is = refl;
      cause = λ left told. let found = line.2 left told in Other found.0 (begins_other text left found.2 c.starts_with.result value c.if-starts_with.false found.3 found.1);
    })

pub returns-in-Some-clause-heads : goal.returns-in-Some-clause-heads
returns-in-Some-clause-heads g c =
    let line = rw c.in-Ok-Cut.field-0-is at c.in-Ok-Cut.ensures.line in
    let size = c.in-Ok-Cut.size in
    let text = take size c.read_line.new.buffer in
    let same : take size c.deref-in-Ok-Cut.result.now ≡ text = ap (take size) c.deref-in-Ok-Cut.ensures.value ∙ front_within size c.self.inside.buffer.len c.read_line.new.buffer _ (omega arith) line.1 in
    let always = c.in-Some.ensures.some in
    heads_fault c.in-Some.fault c.line_error.result c.self.view_is c.line_error.ensures (record {
      reads = line.0;
      after_is = refl;
      cause = λ left told. let found = line.3 left told in Always c.in-Some.fault found.0 (subst (λ (xs : List ℕ). StandsAlways xs c.in-Some.fault) (same ∙ sym found.1) always);
    })

pub returns-in-None-clause-heads : goal.returns-in-None-clause-heads
returns-in-None-clause-heads g c =
    let line = rw c.in-Ok-Cut.field-0-is at c.in-Ok-Cut.ensures.line in
    let size = c.in-Ok-Cut.size in
    let text = take size c.read_line.new.buffer in
    let same : take size c.deref-in-Ok-Cut.result.now ≡ text = ap (take size) c.deref-in-Ok-Cut.ensures.value ∙ front_within size c.self.inside.buffer.len c.read_line.new.buffer _ (omega arith) line.1 in
    let none = c.in-None.ensures.none refl in
    let low = line.2 in
    rw (← c.self.view_is) ((
      low,
      record {
        reads = line.0;
        after_is = refl;
        cause = λ left told. let found = line.3 left told in Past found.0 (λ e always. none e (subst (λ (xs : List ℕ). StandsAlways xs e) (found.1 ∙ sym same) always));
      },
    )
    )

pub returns-in-Err-read_header-clause-heads : goal.returns-in-Err-read_header-clause-heads
returns-in-Err-read_header-clause-heads g c =
    let line = rw c.in-Ok-Whole.field-0-is at c.in-Ok-Whole.ensures.line in
    let size = c.in-Ok-Whole.size in
    let text = take size c.read_line.new.buffer in
    let same : take size c.deref-2.result.now ≡ text = ap (take size) c.deref-2.ensures.value ∙ front_within size c.self.inside.buffer.len c.read_line.new.buffer _ (omega arith) line.2 in
    let means = rw same at c.in-Err-read_header.ensures.means in
    let long = length-take-le size c.read_line.new.buffer line.2 in
    heads_fault c.in-Err-read_header.fault c.line_error-in-Err-read_header.result c.self.view_is c.line_error-in-Err-read_header.ensures (record {
      reads = (_, line.0);
      after_is = refl;
      cause = λ left told. Line text c.in-Err-read_header.fault (line_read line.0 line.1 (let e = line.3 in omega arith) (let e = line.4 in omega arith) left told) means;
    })
