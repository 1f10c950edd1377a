use Rattle.std.proofs.Common.{◌≡◌, ◌<◌, ℕ, List, ◌++◌, take, length, length-take, arith, ap, subst, ◌∙◌}
use Rattle.std.proofs.lemmas.Result.{err_from_is_err_and}
use Rattle.std.proofs.lemmas.List.{append-nil, length-take-le}
use Rattle.av_host.specs.Calls.{Reads}
use Rattle.av_host.proofs.Runs.{Reads-append}
use Rattle.y4m_io.proofs.ReadLemmas.{ReadsSome-append, ended_after}
use Rattle.y4m_io.proofs.reader.read_last.Goals as goal

pub returns-in_err-fill-clause-refused : goal.returns-in_err-fill-clause-refused
returns-in_err-fill-clause-refused g c =
    let p = err_from_is_err_and c.from_residual-in_err-fill.result c.from_residual-in_err-fill.ensures.1 in
    rw p.1 (ReadsSome-append (_, c.in_ok-skip.ensures.read.2) c.in_err-fill.ensures.refused)

pub returns-then-branch-eq0-clause-found : goal.returns-then-branch-eq0-clause-found
returns-then-branch-eq0-clause-found g c =
    let read = c.in_ok-skip.ensures.read in
    let now = c.in_ok-fill.ensures in
    let none : c.in_ok-fill.field-0 ≡ 0 = c.if-branch-eq0.true in
    let one : c.in_ok-fill.field-0 < length c.fill.new.buf = let size = c.fill.auto.buf in let whole = c.skip.auto.buffer in let all = c.requires.long in omega (arith, length-take {A = ℕ}) in
    let same : read.0 ++ take c.in_ok-fill.field-0 c.fill.new.buf ≡ read.0 = ap (λ n. read.0 ++ take n c.fill.new.buf) none ∙ append-nil read.0 in (
      read.0,
      subst (λ (xs : List ℕ). Reads (g.H.Host.world c.args.host.now) (g.H.Host.world c.fill.new.host) c.args.id xs) same (Reads-append read.2 now.read),
      let long = read.1 in let within = c.in_ok-skip.ensures.within in omega arith,
      ended_after (g.H.Host.world c.fill.new.host) read.2 (now.end one),
    )

pub returns-clause-found : goal.returns-clause-found
returns-clause-found g c =
    let read = c.in_ok-skip.ensures.read in
    let now = c.in_ok-fill.ensures in (
      read.0,
      take c.in_ok-fill.field-0 c.fill.new.buf,
      Reads-append read.2 now.read,
      let long = read.1 in let within = c.in_ok-skip.ensures.within in let all = c.if-branch-room.false in omega arith,
      let long = length-take-le c.in_ok-fill.field-0 c.fill.new.buf now.fits in let some = c.if-branch-eq0.false in omega arith,
    )
