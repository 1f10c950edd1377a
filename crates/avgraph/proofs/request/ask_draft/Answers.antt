use Rattle.std.proofs.Common.{List, ap, ◌∙◌, length, map, subst, inl, inr, refl}
use Rattle.std.proofs.lemmas.List.{length-map}
use Rattle.av_words.specs.declared.command_words.OutputWord.{OutputWord}
use Rattle.graph_plan.specs.declared.plan.OutputFile.{OutputFile}
use Rattle.graph_plan.specs.declared.plan.Plan.{Plan}
use Rattle.graph_plan.specs.Bindings.{IsBound, IsBindFault}
use Rattle.avgraph.specs.Requests.{AsksPlan, AsksDraft}
use Rattle.avgraph.specs.Requests.{files_of, graph_of}
use Rattle.avgraph.proofs.RequestLemmas.{asked_next, plan_stops, plan_path, plan_steps}
use Rattle.graph_plan.proofs.FewLinks.{few_links}
use Rattle.avgraph.proofs.request.ask_draft.Goals as goal

pub returns-in-Err : goal.returns-in-Err
returns-in-Err c =
    let files = c.in_ok-files.ensures ∙ ap (map (λ (o : OutputWord). o.file)) c.as_slice.ensures in
    rw c.stopped_plan.ensures
    (plan_stops Plan (IsBindFault c.args.draft.opens c.in_ok-files.files) (AsksDraft c.args.command.now c.args.calls.now c.args.draft)
    (λ f h. inl (f, subst (λ (fs : List OutputFile). IsBindFault c.args.draft.opens fs f) files h, refl)) c.in-Err.error c.in-Err.ensures.fault)

pub ask_plan-requires-clause-path : goal.ask_plan-requires-clause-path
ask_plan-requires-clause-path c =
    let files = c.in_ok-files.ensures ∙ ap (map (λ (o : OutputWord). o.file)) c.as_slice.ensures in
    plan_path c.args.command.now c.args.calls.now c.args.kinds.items c.requires.calls c.requires.kinds c.requires.few c.args.draft c.in-Ok.plan c.requires.linked (subst (λ (fs : List OutputFile). IsBound c.args.draft fs c.in-Ok.plan) files c.in-Ok.ensures.bound)

pub ask_plan-requires-clause-steps : goal.ask_plan-requires-clause-steps
ask_plan-requires-clause-steps c =
    let files = c.in_ok-files.ensures ∙ ap (map (λ (o : OutputWord). o.file)) c.as_slice.ensures in
    plan_steps c.args.command.now c.args.calls.now c.args.kinds.items c.requires.calls c.requires.kinds c.requires.few c.args.draft c.in-Ok.plan c.requires.linked (subst (λ (fs : List OutputFile). IsBound c.args.draft fs c.in-Ok.plan) files c.in-Ok.ensures.bound)

pub returns : goal.returns
returns c =
    let files = c.in_ok-files.ensures ∙ ap (map (λ (o : OutputWord). o.file)) c.as_slice.ensures in
    asked_next (AsksPlan c.args.command.now c.args.calls.now c.in-Ok.plan) (AsksDraft c.args.command.now c.args.calls.now c.args.draft)
    (λ r h. inr (c.in-Ok.plan, subst (λ (fs : List OutputFile). IsBound c.args.draft fs c.in-Ok.plan) files c.in-Ok.ensures.bound, h)) c.ask_plan.result c.ask_plan.ensures

pub ask_plan-requires-clause-links : goal.ask_plan-requires-clause-links
ask_plan-requires-clause-links c =
    let files = c.in_ok-files.ensures ∙ ap (map (λ (o : OutputWord). o.file)) c.as_slice.ensures in
    few_links (graph_of c.args.command.now c.args.calls.now c.args.kinds.items) c.args.draft (files_of c.args.command.now) c.in-Ok.plan (length c.args.command.now.outputs) (length-map c.args.command.now.outputs (λ (o : OutputWord). o.file))
    c.requires.linked (subst (λ (fs : List OutputFile). IsBound c.args.draft fs c.in-Ok.plan) files c.in-Ok.ensures.bound)
