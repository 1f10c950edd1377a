use Rattle.std.proofs.Common.{◌≡◌, ℕ, List, [], ◌∷◌, ◌++◌, take, Ok, ◌∙◌, ap, sym, subst, arith, length-take}
use Rattle.std.proofs.lemmas.List.{length-take-le}
use Rattle.av_host.specs.Calls.{Reads}
use Rattle.av_host.proofs.Runs.{Reads-append}
use Rattle.y4m_io.proofs.LineLemmas.{no_feed_more}
use Rattle.y4m_io.proofs.HeadLemmas.{line_ended, line_long, line_cut}
use Rattle.y4m_io.proofs.reader.read_line.Goals as goal

pub returns-in-None-clause-line : goal.returns-in-None-clause-line
returns-in-None-clause-line g c =
    let now = c.in_ok-read_byte.ensures in
    let inv = c.loop-n.invariant in
    let read = rw c.in-None.is at now.read in
    let found = line_ended c.args.room inv.0 read (now.end (ap Ok c.in-None.is)) now.front inv.1 (omega (arith, length-take {A = ℕ})) in
    (found.0, omega arith, found.1)

pub returns-in-Some-eq10-clause-line : goal.returns-in-Some-eq10-clause-line
returns-in-Some-eq10-clause-line g c =
    let now = c.in_ok-read_byte.ensures in
    let inv = c.loop-n.invariant in
    let read = rw c.in-Some-eq10.is at now.read in
    let text : take c.loop-n.n c.loop-n.buffer ++ c.in-Some-eq10.field-0 ∷ [] ≡ take c.loop-n.n c.read_byte.new.buffer ++ 10 ∷ [] =
    ap (λ (xs : List ℕ). xs ++ c.in-Some-eq10.field-0 ∷ []) (sym now.front) ∙ ap (λ (b : ℕ). take c.loop-n.n c.read_byte.new.buffer ++ b ∷ []) c.in-Some-eq10.field-0-test in (
      subst (λ (xs : List ℕ). Reads (g.H.Host.world c.args.host.now) (g.H.Host.world c.read_byte.new.host) c.args.id xs) text (Reads-append inv.0 read),
      rw now.front inv.1,
      omega arith,
      omega arith,
      omega arith,
    )

pub loop-n-preserved : goal.loop-n-preserved
loop-n-preserved g c =
    let now = c.in_ok-read_byte.ensures in
    let inv = c.loop-n.invariant in
    let read = rw c.in-Some.is at now.read in
    let kept = rw c.in-Some.is at now.kept in
    (rw kept (Reads-append inv.0 read), no_feed_more _ _ kept inv.1 c.in-Some.field-0-test.1, now.faults ∙ inv.2)

pub returns-then-most-eq-LINE_MAX-clause-line : goal.returns-then-most-eq-LINE_MAX-clause-line
returns-then-most-eq-LINE_MAX-clause-line g c =
    let same : c.loop-n.n ≡ c.min-most.result = omega arith in
    let inv = rw same at c.loop-n.invariant in
    let long = length-take-le c.min-most.result c.loop-n.buffer (omega arith) in
    let found = line_long {room = c.args.room} inv.0 (omega arith) (omega arith) inv.1 in
    (found.0, omega arith, found.1)

pub returns-in-None-2-clause-line : goal.returns-in-None-2-clause-line
returns-in-None-2-clause-line g c =
    let now = c.in_ok-read_byte-2.ensures in
    let same : c.loop-n.n ≡ c.min-most.result = omega arith in
    let inv = rw same at c.loop-n.invariant in
    let read = rw c.in-None-2.is at now.read in
    let found = line_ended c.args.room inv.0 read (now.end (ap Ok c.in-None-2.is)) now.front inv.1 (omega (arith, length-take {A = ℕ})) in
    (found.0, omega arith, found.1)

pub returns-in-Some-2-clause-line : goal.returns-in-Some-2-clause-line
returns-in-Some-2-clause-line g c =
    let now = c.in_ok-read_byte-2.ensures in
    let same : c.loop-n.n ≡ c.min-most.result = omega arith in
    let inv = rw same at c.loop-n.invariant in
    let read = rw c.in-Some-2.is at now.read in
    let full = length-take-le c.min-most.result c.loop-n.buffer (omega arith) in
    let found = line_cut {room = c.args.room} inv.0 read now.front (omega arith) (omega arith) inv.1 in
    (found.0, omega arith, found.1, found.2)
