use Rattle.std.proofs.Common.{rules, inr}
use Rattle.node_core.proofs.KindLemmas.{named, refused, unbuilt, unknown}
use Rattle.node_core.proofs.kind.Kind.read.Goals as goal

pub returns-in_err-options-clause-refused : goal.returns-in_err-options-clause-refused
returns-in_err-options-clause-refused c =
    let fault = refused c.args.call.now c.as_str-name.result.now c.is_name.result _ c.as_str-name.ensures c.is_name.ensures c.if-is_name.true c.in_err-options.ensures.refused in
    search rules

pub returns-then-is_name-clause-kind : goal.returns-then-is_name-clause-kind
returns-then-is_name-clause-kind c =
    named c.args.call.now c.as_str-name.result.now c.is_name.result _ c.as_str-name.ensures c.is_name.ensures c.if-is_name.true c.in_ok-options.ensures.read

pub returns-in-Some-clause-refused : goal.returns-in-Some-clause-refused
returns-in-Some-clause-refused c =
    inr (unbuilt c.args.call.now c.as_str-name.result.now c.is_name.result c.later_in.result c.in-Some.field-0 c.as_str-name.ensures c.is_name.ensures c.if-is_name.false c.later_in.ensures c.in-Some.is)

pub returns-in-None-clause-refused : goal.returns-in-None-clause-refused
returns-in-None-clause-refused c =
    inr (unknown c.args.call.now c.as_str-name.result.now c.is_name.result c.later_in.result c.as_str-name.ensures c.is_name.ensures c.if-is_name.false c.later_in.ensures c.in-None.is)
