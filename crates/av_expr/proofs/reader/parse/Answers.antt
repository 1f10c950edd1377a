use Rattle.std.proofs.Common.{rules, Ok}
use Rattle.std.proofs.lemmas.Result.{err_from_is_err_and}
use Rattle.av_expr.proofs.ParseLemmas.{HasFault, parse_gives, parse_refuses, read_kept, read_tree}
use Rattle.av_expr.proofs.reader.parse.Goals as goal
use Rattle.av_base.specs.Failures.{IfFault}

pub new-requires : goal.new-requires
new-requires c = read_kept c.in_ok-read_text.ensures.tree c.new-nodes.ensures.items

pub returns-clause-tree : goal.returns-clause-tree
returns-clause-tree c = read_tree c.in_ok-read_text.ensures.tree c.new-nodes.ensures.items c.new.result c.new.ensures

pub returns-clause-reads : goal.returns-clause-reads
returns-clause-reads c =
    parse_gives c.args.allowed c.args.text.now (Ok c.new.result) (read_tree c.in_ok-read_text.ensures.tree c.new-nodes.ensures.items c.new.result c.new.ensures) tt

pub returns-clause-faulty : goal.returns-clause-faulty
returns-clause-faulty c =
    parse_refuses c.args.allowed c.args.text.now (Ok c.new.result) (read_tree c.in_ok-read_text.ensures.tree c.new-nodes.ensures.items c.new.result c.new.ensures) tt

pub returns-in_err-read_text-clause-reads : goal.returns-in_err-read_text-clause-reads
returns-in_err-read_text-clause-reads c =
    let p = err_from_is_err_and c.from_residual.result c.from_residual.ensures.1 in
    let fault : IfFault c.from_residual.result (HasFault c.args.allowed c.args.text.now) = search rules in
    parse_gives c.args.allowed c.args.text.now c.from_residual.result (rw p.1 tt) fault

pub returns-in_err-read_text-clause-faulty : goal.returns-in_err-read_text-clause-faulty
returns-in_err-read_text-clause-faulty c =
    let p = err_from_is_err_and c.from_residual.result c.from_residual.ensures.1 in
    let fault : IfFault c.from_residual.result (HasFault c.args.allowed c.args.text.now) = search rules in
    parse_refuses c.args.allowed c.args.text.now c.from_residual.result (rw p.1 tt) fault
