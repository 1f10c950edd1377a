use Rattle.std.proofs.Common.{◌-◌, take, drop, length, sym, arith}
use Rattle.std.specs.List.{slice_split}
use Rattle.y4m_header.specs.Params.{params_in, is_space}
use Rattle.y4m_header.proofs.SaidLemmas.{good_range, ordered_here}
use Rattle.y4m_header.proofs.read.ordered.Goals as goal

pub is_sized-requires-clause-wide : goal.is_sized-requires-clause-wide
is_sized-requires-clause-wide c =
    let rest = c.args.rest.now in
    (good_range (params_in (slice_split is_space (take (length rest - 1) (drop 1 rest)))) c.in_ok-latest.latest c.in_ok-latest.ensures).width

pub is_sized-requires-clause-high : goal.is_sized-requires-clause-high
is_sized-requires-clause-high c =
    let rest = c.args.rest.now in
    (good_range (params_in (slice_split is_space (take (length rest - 1) (drop 1 rest)))) c.in_ok-latest.latest c.in_ok-latest.ensures).height

pub returns-clause-some : goal.returns-clause-some
returns-clause-some c =
    ordered_here c.args.rest.now c.in_ok-latest.latest c.in-32.len_at_least (omega arith) c.in_ok-latest.ensures (sym c.if-not-is_sized.ensures)
