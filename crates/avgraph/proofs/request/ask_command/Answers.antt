use Rattle.std.proofs.Common.{List, ℕ, ap, subst, length, arith, inr}
use Rattle.graph_text.specs.Graphs.{IsGraph}
use Rattle.graph_text.specs.declared.graph.GraphText.{GraphText}
use Rattle.avgraph.specs.Requests.{AsksCalls, AsksCommand}
use Rattle.avgraph.proofs.RequestLemmas.{asked_next, text_stops}
use Rattle.avgraph.proofs.request.ask_command.Goals as goal

pub parse-requires : goal.parse-requires
parse-requires c = let small = c.requires.text in let same = ap length c.as_str.ensures in omega arith

pub returns-in-Err : goal.returns-in-Err
returns-in-Err c =
    rw c.stopped_text.ensures
    (text_stops GraphText c.args.command.now (c.runs_today.ensures.today c.if-not-runs_today.false) c.in-Err.error (rw c.as_str.ensures at c.in-Err.ensures.fault))

pub returns : goal.returns
returns c =
    let today = c.runs_today.ensures.today c.if-not-runs_today.false in
    let graph = subst (λ (text : List ℕ). IsGraph text c.in-Ok.graph.calls) c.as_str.ensures c.in-Ok.ensures.graph in
    asked_next (AsksCalls c.args.command.now c.in-Ok.graph.calls) (AsksCommand c.args.command.now) (λ r h. inr (today, inr (c.in-Ok.graph.calls, graph, h))) c.ask_calls.result c.ask_calls.ensures
