use Rattle.std.proofs.Common.{List, ℕ, rules, refl, ◌∙◌, inl, inr, arith}
use Rattle.graph_plan.specs.declared.plan.Edge.{Edge}
use Rattle.avgraph.specs.Requests.{Request}
use Rattle.avgraph.proofs.RequestLemmas.{of_path, zip_length}
use Rattle.avgraph.proofs.request.ask_plan.Goals as goal

pub returns-in_default : goal.returns-in_default
returns-in_default c = inr (inl ((λ names are. c.in_default.ensures.none (search rules) names are), refl))

pub returns : goal.returns
returns c =
    let names : List ℕ × List ℕ = (c.in-Some.input.now, c.in-Some.output.now) in
    let steps = c.requires.steps in
    let is_path = c.requires.path names c.in-Some.ensures.names in
    let calls = c.args.calls.now in
    let links = c.args.plan.links in
    let request : Request = record { input = c.in-Some.input.now; flow = record { calls = calls; links = links; path = steps.0 }; output = c.in-Some.output.now; report = c.args.command.now.report } in (
      request,
      inr (names, c.in-Some.ensures.names, (request, record { input = refl; calls_are = refl; links_are = refl; is_path = is_path; steps = steps.1; output = refl; report = refl }, refl)),
      record {
        input = c.new.ensures ∙ c.in_ok-from_str.ensures.ok;
        flow = record {
          are_kinds = c.requires.kinds;
          few_kinds = let same = zip_length calls c.args.kinds.items c.requires.kinds in let few = c.requires.calls in omega arith;
          path = of_path calls c.args.kinds.items c.args.plan.order steps.0 c.requires.kinds steps.1;
          steps = steps.1;
          links_are = refl;
          few_links = let few = c.requires.links in omega arith;
          have_path = λ (link : Edge) has. (is_path link).1 has;
        };
        output = c.new-2.ensures ∙ c.in_ok-from_str-2.ensures.ok;
        report = refl;
      },
    )
