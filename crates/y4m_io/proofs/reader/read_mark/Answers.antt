use Rattle.std.proofs.Common.{◌≡◌, ◌≢◌, ◌≤◌, ◌+◌, ℕ, Ok, take, drop, length, get_or, ◌++◌, ◌∙◌, ap, subst, arith, length-take}
use Rattle.std.proofs.lemmas.Result.{err_from_is_err_and}
use Rattle.std.proofs.lemmas.List.{length-take-le, take-append-le}
use Rattle.av_host.specs.Calls.{Reads}
use Rattle.av_host.proofs.Runs.{Reads-append, Reads-stays}
use Rattle.y4m_io.proofs.ReadLemmas.{all_read}
use Rattle.y4m_io.proofs.MarkLemmas.{long_no_mark, front_whole, front_more}
use Rattle.y4m_io.proofs.MarkReads.{mark_other, mark_short, mark_begun, mark_ended, mark_none, mark_past}
use Rattle.y4m_io.proofs.reader.read_mark.Goals.{else-size-eq6-via-then-size-eq6+else-buffer-eq10, else-size-eq6-via-else-size-eq6}
use Rattle.y4m_io.proofs.reader.read_mark.Goals as goal

pub returns-then-not-is_front-clause-mark : goal.returns-then-not-is_front-clause-mark
returns-then-not-is_front-clause-mark g c =
    let now = c.in_ok-size.ensures in
    let long = c.fill.auto.buf in
    mark_other c.args.room c.in_ok-size.size c.fill.new.buf (drop c.min-first.result c.args.buffer.now) now.read now.fits (omega (arith, length-take {A = ℕ}))
    (c.is_front.ensures.no c.if-not-is_front.true)

pub returns-then-size-eq0-clause-mark : goal.returns-then-size-eq0-clause-mark
returns-then-size-eq0-clause-mark g c =
    let now = c.in_ok-size.ensures in
    let long = c.fill.auto.buf in
    let none = c.if-size-eq0.true in
    let reads = subst (λ (m : ℕ). Reads (g.H.Host.world c.args.host.now) (g.H.Host.world c.fill.new.host) c.args.id (take m c.fill.new.buf)) none now.read in
    (reads, all_read reads (now.end (omega (arith, length-take {A = ℕ}))))

pub returns-else-size-eq0-clause-mark : goal.returns-else-size-eq0-clause-mark
returns-else-size-eq0-clause-mark g c =
    let now = c.in_ok-size.ensures in
    let long = c.fill.auto.buf in
    let some = c.if-size-eq0.false in
    mark_short c.args.room c.in_ok-size.size c.fill.new.buf (drop c.min-first.result c.args.buffer.now) now.read now.fits (omega (arith, length-take {A = ℕ})) (omega arith) (omega arith)
    (now.end (omega (arith, length-take {A = ℕ}))) (c.is_front.ensures.yes c.if-not-is_front.false)

pub loop-n-init : goal.loop-n-init
loop-n-init g c =
    let now = c.in_ok-size.ensures in
    let long = c.fill.auto.buf in
    let size : c.in_ok-size.size ≡ c.min-first.result = omega (arith, length-take {A = ℕ}) in
    let front = rw size at c.is_front.ensures.yes c.if-not-is_front.false in
    let fits : c.min-first.result ≤ length c.fill.new.buf = omega (arith, length-take {A = ℕ}) in
    let text : take c.min-first.result (c.fill.new.buf ++ drop c.min-first.result c.args.buffer.now) ≡ take c.min-first.result c.fill.new.buf =
    take-append-le c.min-first.result c.fill.new.buf (drop c.min-first.result c.args.buffer.now) fits in
    let all : length (take c.min-first.result (c.fill.new.buf ++ drop c.min-first.result c.args.buffer.now)) ≡ c.min-first.result = ap length text ∙ length-take-le c.min-first.result c.fill.new.buf fits in
    let other : c.min-first.result ≡ 6 → get_or (c.fill.new.buf ++ drop c.min-first.result c.args.buffer.now) 5 0 ≢ 10 =
    (λ six. elim c.else-size-eq6.branch [
      | else-size-eq6-via-then-size-eq6+else-buffer-eq10 w ↦ w.if-buffer-eq10.false
      | else-size-eq6-via-else-size-eq6 w ↦ absurd (let not = w.if-size-eq6.false in omega arith)
    ]) in
    record {
      reads = rw (text, ← size) now.read;
      front = mark_begun c.min-first.result (c.fill.new.buf ++ drop c.min-first.result c.args.buffer.now) all (omega arith) other front;
      faults = now.faults;
    }

pub returns-in_err-read_byte-clause-refused : goal.returns-in_err-read_byte-clause-refused
returns-in_err-read_byte-clause-refused g c =
    let p = err_from_is_err_and c.from_residual-in_err-read_byte.result c.from_residual-in_err-read_byte.ensures.1 in
    rw p.1 (_, Reads-stays c.loop-n.invariant.reads c.in_err-read_byte.ensures.refused)

pub returns-in-None-clause-mark : goal.returns-in-None-clause-mark
returns-in-None-clause-mark g c =
    let now = c.in_ok-read_byte.ensures in
    let inv = c.loop-n.invariant in
    let read = rw c.in-None.is at now.read in
    mark_ended c.args.room c.loop-n.n c.loop-n.buffer inv.reads read (now.end (ap Ok c.in-None.is)) inv.front (omega arith) (omega arith) (omega arith) (omega arith)

pub returns-in-Some-eq10-clause-mark : goal.returns-in-Some-eq10-clause-mark
returns-in-Some-eq10-clause-mark g c =
    let now = c.in_ok-read_byte.ensures in
    let inv = c.loop-n.invariant in
    let read = rw c.in-Some-eq10.is at now.read in
    let kept = rw c.in-Some-eq10.is at now.kept in
    let long = length-take-le c.loop-n.n c.loop-n.buffer (omega arith) in (
      take (c.loop-n.n + 1) c.read_byte.new.buffer,
      rw kept (Reads-append inv.reads read),
      front_whole (take c.loop-n.n c.loop-n.buffer) (take (c.loop-n.n + 1) c.read_byte.new.buffer) c.in-Some-eq10.field-0 kept c.in-Some-eq10.field-0-test inv.front (omega arith) (omega arith),
      length-take-le (c.loop-n.n + 1) c.read_byte.new.buffer (omega arith),
      omega arith,
    )

pub loop-n-preserved : goal.loop-n-preserved
loop-n-preserved g c =
    let now = c.in_ok-read_byte.ensures in
    let inv = c.loop-n.invariant in
    let read = rw c.in-Some.is at now.read in
    let kept = rw c.in-Some.is at now.kept in
    let long = length-take-le c.loop-n.n c.loop-n.buffer (omega arith) in
    record {
      reads = rw kept (Reads-append inv.reads read);
      front = front_more (take c.loop-n.n c.loop-n.buffer) (take (c.loop-n.n + 1) c.read_byte.new.buffer) c.in-Some.field-0 kept inv.front (omega arith) c.in-Some.field-0-test.1;
      faults = now.faults ∙ inv.faults;
    }

pub returns-then-most-eq-MARK_MAX-clause-mark : goal.returns-then-most-eq-MARK_MAX-clause-mark
returns-then-most-eq-MARK_MAX-clause-mark g c =
    let inv = c.loop-n.invariant in
    let long = length-take-le c.loop-n.n c.loop-n.buffer (omega arith) in
    record { front = take c.loop-n.n c.loop-n.buffer; reads = inv.reads; within = omega arith; no_mark = long_no_mark (take c.loop-n.n c.loop-n.buffer) inv.front.no_feed (omega arith) }

pub returns-in_err-read_byte-2-clause-refused : goal.returns-in_err-read_byte-2-clause-refused
returns-in_err-read_byte-2-clause-refused g c =
    let p = err_from_is_err_and c.from_residual-in_err-read_byte-2.result c.from_residual-in_err-read_byte-2.ensures.1 in
    rw p.1 (_, Reads-stays c.loop-n.invariant.reads c.in_err-read_byte-2.ensures.refused)

pub returns-then-most-eq0-clause-mark : goal.returns-then-most-eq0-clause-mark
returns-then-most-eq0-clause-mark g c =
    let now = c.in_ok-read_byte-2.ensures in
    let read = rw c.in-None-2.is at now.read in
    mark_none c.loop-n.n c.loop-n.buffer (omega arith) c.loop-n.invariant.reads read (now.end (ap Ok c.in-None-2.is))

pub returns-else-most-eq0-clause-mark : goal.returns-else-most-eq0-clause-mark
returns-else-most-eq0-clause-mark g c =
    let now = c.in_ok-read_byte-2.ensures in
    let inv = c.loop-n.invariant in
    let read = rw c.in-None-2.is at now.read in
    mark_ended c.args.room c.loop-n.n c.loop-n.buffer inv.reads read (now.end (ap Ok c.in-None-2.is)) inv.front (omega arith) (omega arith) (omega arith) (omega arith)

pub returns-in-Some-2-clause-mark : goal.returns-in-Some-2-clause-mark
returns-in-Some-2-clause-mark g c =
    let now = c.in_ok-read_byte-2.ensures in
    let inv = c.loop-n.invariant in
    let read = rw c.in-Some-2.is at now.read in
    mark_past c.args.room c.loop-n.n c.loop-n.buffer inv.reads read inv.front (omega arith) (omega arith) (omega arith)
