use Rattle.std.proofs.Common.{rules, ◌++◌, List, Ok, refl, ◌∙◌, ap}
use Rattle.graph_plan.specs.declared.plan.Edge.{Edge}
use Rattle.graph_plan.specs.Bindings.{IsBound}
use Rattle.graph_plan.proofs.BindLemmas.{binds, refuses, all_find, place_within, linked}
use Rattle.graph_plan.proofs.plan.DraftPlan.bind.Goals as goal

-- ---- what has a fault

pub returns-in_err-taken-clause-binds : goal.returns-in_err-taken-clause-binds
returns-in_err-taken-clause-binds c = binds c.args.self c.args.outputs.now c.from_residual.result (search rules) (search rules)

pub returns-in_err-taken-clause-faulty : goal.returns-in_err-taken-clause-faulty
returns-in_err-taken-clause-faulty c = refuses c.args.self c.args.outputs.now c.from_residual.result (search rules) (search rules)

pub returns-in_err-check_taken-clause-binds : goal.returns-in_err-check_taken-clause-binds
returns-in_err-check_taken-clause-binds c = binds c.args.self c.args.outputs.now c.from_residual-in_err-check_taken.result (search rules) (search rules)

pub returns-in_err-check_taken-clause-faulty : goal.returns-in_err-check_taken-clause-faulty
returns-in_err-check_taken-clause-faulty c = refuses c.args.self c.args.outputs.now c.from_residual-in_err-check_taken.result (search rules) (search rules)

-- ---- what binds

pub push_outputs-requires-clause-within : goal.push_outputs-requires-clause-within
push_outputs-requires-clause-within c = rw c.as_slice.ensures.value (place_within c.in_ok-taken.ensures.found)

bound : (c : goal.After-drop-opens-inside-2) → IsBound c.args.self c.args.outputs.now (record { links = c.new-links.result; order = c.args.self.order })
bound c =
    let found = rw (c.as_slice-pads.ensures, c.as_slice-files.ensures) at c.in_ok-taken.ensures.found in
    let each = rw c.as_slice-files.ensures at c.in_ok-taken.ensures.each in
    let links = rw (c.as_slice.ensures.value, c.as_slice-pads.ensures) at c.in_ok-links.ensures in
    record {
      all_find = all_find found each;
      all_mapped = rw (c.as_slice-pads.ensures, c.as_slice-files.ensures) at c.in_ok-check_taken.ensures.mapped;
      all_fit = rw (c.as_slice-pads.ensures, c.as_slice-files.ensures) at c.in_ok-check_taken.ensures.fit;
      outputs = links.0;
      are_outputs = linked found each links.2 links.3;
      links = c.new-links.ensures ∙ (links.1 ∙ ap (λ (z : List Edge). z ++ links.0) c.into_vec.ensures);
      order = refl;
    }

pub returns-clause-bound : goal.returns-clause-bound
returns-clause-bound c = bound c

pub returns-clause-binds : goal.returns-clause-binds
returns-clause-binds c = binds c.args.self c.args.outputs.now (Ok (record { links = c.new-links.result; order = c.args.self.order })) (bound c) tt

pub returns-clause-faulty : goal.returns-clause-faulty
returns-clause-faulty c = refuses c.args.self c.args.outputs.now (Ok (record { links = c.new-links.result; order = c.args.self.order })) (bound c) tt
