-- Words ask for exactly one thing, or are stopped by exactly one.
use Rattle.std.proofs.Common.{◌≡◌, ◌<◌, ◌≤◌, ◌+◌, ◌-◌, ◌⊎◌, ◌++◌, ℕ, List, [], ◌∷◌, filter, Result, Ok, Err, length, map, get_or, take, zero, suc, refl, sym, ◌∙◌, ap, subst, arith, inl, inr, Contains, All}
use Rattle.std.specs.List.{AllZip, AllByRecursion}
use Rattle.std.proofs.lemmas.List.{take_more, length-map}
use Rattle.std.proofs.lemmas.List.Elements.{All-nil, All-cons}
use Rattle.std.proofs.lemmas.Bool.{cases_order}
use Rattle.std.proofs.lemmas.Option.{same_Some, slice_get_cases}
use Rattle.av_base.specs.declared.formats.Media.{Media}
use Rattle.av_base.specs.declared.formats.Media.TheVariants.{Video, Audio}
use Rattle.av_filter.specs.Outcomes.{IsOne, HasOne, AreAlike, AfterStep, after_value, after_check, after_step, alike_one}
use Rattle.av_frame.specs.declared.refusals.OptionError.{OptionError}
use Rattle.av_frame.specs.declared.refusals.OptionError.TheVariants as option
use Rattle.av_text.specs.declared.fault.TextKind.{TextKind}
use Rattle.graph_text.specs.Graphs.{IsGraph, IsGraphFault}
use Rattle.graph_text.specs.declared.graph.FilterCall.{FilterCall}
use Rattle.graph_text.proofs.GraphLemmas.{one_graph, one_graph_fault, graph_or_fault}
use Rattle.graph_text.proofs.TotalLemmas.{graph_or_none}
use Rattle.graph_plan.specs.declared.plan.DraftPlan.{DraftPlan}
use Rattle.graph_plan.specs.declared.plan.Edge.{Edge}
use Rattle.graph_plan.specs.declared.plan.Ending.{Ending}
use Rattle.graph_plan.specs.declared.plan.Ending.TheVariants.{Y4m, Wav, Frames}
use Rattle.graph_plan.specs.declared.plan.Pads.{Pads}
use Rattle.graph_plan.specs.declared.plan.Plan.{Plan}
use Rattle.graph_plan.specs.Bindings.{IsBound, IsBindFault}
use Rattle.graph_plan.specs.Graphs.{Graph}
use Rattle.graph_plan.specs.Paths.{AreSingle, IsPath}
use Rattle.graph_plan.specs.Refusals.{IsSmall, IsLinked, IsLinkFault}
use Rattle.graph_plan.proofs.BoundLemmas.{outputs_bind_in_one_way}
use Rattle.graph_plan.proofs.LawfulLemmas.{plans_are_lawful}
use Rattle.graph_plan.proofs.OneOfBoth.{graphs_link_in_one_way}
use Rattle.graph_plan.proofs.PathLemmas.{plans_are_paths}
use Rattle.node_core.specs.declared.kind.Kind.{Kind}
use Rattle.node_core.specs.Kinds.{IsKind, IsKindFault, Means}
use Rattle.node_core.specs.Shaping.{pads_of}
use Rattle.node_core.proofs.LawLemmas.{one_meaning}
use Rattle.av_words.specs.declared.command_words.Command.{Command}
use Rattle.av_words.specs.declared.command_words.InputWord.{InputWord}
use Rattle.av_words.specs.declared.command_words.InputWord.TheVariants as input
use Rattle.av_words.specs.declared.command_words.OutputWord.{OutputWord}
use Rattle.av_words.specs.CommandWords.{IsCommand, IsWordFault}
use Rattle.av_words.proofs.CommandFacts.{few_inputs, few_outputs, short_text, word_status}
use Rattle.av_faults.specs.Faults.{stop_status}
use Rattle.av_words.proofs.WordLawLemmas.{words_say_one_thing}
use Rattle.av_faults.specs.declared.fault.Fault.{Fault}
use Rattle.av_faults.specs.declared.fault.Fault.TheVariants.{NotYet, TextFault, Limit, OpenFault, ReadFault, WriteFault}
use Rattle.av_faults.specs.declared.fault.LimitKind.TheVariants.{Filters}
use Rattle.av_faults.specs.declared.fault.Stop.{Stop}
use Rattle.av_faults.specs.declared.fault.Stop.TheVariants as stop
use Rattle.av_host.specs.World.{Faults}
use Rattle.graph_plan.specs.declared.plan.PlanFault.{PlanFault}
use Rattle.graph_plan.specs.declared.plan.PlanFault.TheVariants as plan
use Rattle.plan_formats.specs.PathFormats.{HavePath}
use Rattle.avgraph.proofs.FormatLemmas.{IsKnownFlow, kind_at}
use Rattle.avgraph.specs.Bounds.{most_filters}
use Rattle.avgraph.specs.Chains.{Step, Flow}
use Rattle.avgraph.specs.Jobs.{AreOfPath, Asked, IsSmallCommand}
use Rattle.avgraph.specs.declared.request.Job.{Job}
use Rattle.av_base.specs.Failures.{IfFault}
use Rattle.av_base.specs.declared.failure.Failure.{Failure}
use Rattle.av_base.specs.declared.failure.Failure.TheVariants as failure
use Rattle.av_text.specs.declared.fault.TextFault.{TextFault as FaultOfText}
use Rattle.avgraph.specs.Stops.{option_stop, plan_stop, plan_error_stop, text_stop, CountsStop}
use Rattle.avgraph.specs.Requests.{IsVideoFile, RunsToday, AreNames, HasTextFault, IsRefusedCall, graph_of, given_by, files_of, Request, AreSteps, IsRequest, refuse, refuse_plan, AsksPlan, AsksDraft, AsksKinds, AsksCalls, AsksCommand, Asks}

-- ---- what can run today

abbrev Decided : Type 0 → Type 0
Decided P = P ⊎ ¬ P

decide_zero : (n m : ℕ) → Decided (n ≡ m)
decide_zero n m = elim (cases_order n m) [
  | inl e ↦ inl e
  | inr apart ↦ elim apart [ inl less ↦ inr (λ e. absurd (omega arith)) | inr more ↦ inr (λ e. absurd (omega arith)) ]
]

decide_most : (n m : ℕ) → Decided (n ≤ m)
decide_most n m = elim (cases_order n m) [
  | inl e ↦ inl (omega arith)
  | inr apart ↦ elim apart [ inl less ↦ inl (omega arith) | inr more ↦ inr (λ e. absurd (omega arith)) ]
]

decide_all : {X : Type 0} (P : X → Type 0) → ((x : X) → Decided (P x)) → (xs : List X) → Decided (AllByRecursion P xs)
decide_all P each [] = inl tt
decide_all P each (x ∷ xs) = elim (each x) [
  | inr none ↦ inr (λ h. none h.0)
  | inl here ↦ elim (decide_all P each xs) [ inl more ↦ inl (here, more) | inr none ↦ inr (λ h. none h.1) ]
]

decide_input : (word : InputWord) → Decided (IsVideoFile word)
decide_input (input.File name Video) = inl refl
decide_input (input.File name Audio) = inr (λ h. absurd cc)
decide_input (input.Made seed width height frames) = inr (λ h. h)

decide_ending : (e : Ending) → Decided (e ≡ Y4m)
decide_ending Y4m = inl refl
decide_ending Wav = inr (λ h. absurd cc)
decide_ending Frames = inr (λ h. absurd cc)

decide_empty : {X : Type 0} (xs : List X) → Decided (xs ≡ [])
decide_empty [] = inl refl
decide_empty (x ∷ xs) = inr (λ h. absurd cc)

pub today_or_not : (command : Command) → Decided (RunsToday command)
today_or_not command = elim (decide_all IsVideoFile decide_input command.inputs) [
  | inr none ↦ inr (λ h. none h.inputs)
  | inl inputs ↦ elim (decide_all (λ (o : OutputWord). o.file.ending ≡ Y4m) (λ o. decide_ending o.file.ending) command.outputs) [
    | inr none ↦ inr (λ h. none h.outputs)
    | inl outputs ↦ elim (decide_zero command.workers 0) [
      | inr none ↦ inr (λ h. none h.workers)
      | inl workers ↦ elim (decide_zero command.slices 1) [
        | inr none ↦ inr (λ h. none h.slices)
        | inl slices ↦ elim (decide_empty command.order) [
          | inr none ↦ inr (λ h. none h.order)
          | inl order ↦ inl (record { inputs = inputs; outputs = outputs; workers = workers; slices = slices; order = order })
        ]
      ]
    ]
  ]
]

-- ---- names

names_at : (command : Command) (ins : List InputWord) (outs : List OutputWord) → AllByRecursion IsVideoFile ins → command.inputs ≡ ins → command.outputs ≡ outs
    → ((names : List ℕ × List ℕ) → ¬ AreNames command names) ⊎ ((names : List ℕ × List ℕ) × AreNames command names)
names_at command [] outs all a b = inl (λ names h. absurd (let e = ap length (sym a ∙ h.inputs) in omega arith))
names_at command (i ∷ j ∷ ins) outs all a b = inl (λ names h. absurd (let e = ap length (sym a ∙ h.inputs) in omega arith))
names_at command (i ∷ []) [] all a b = inl (λ names h. absurd (let e = ap length (sym b ∙ h.outputs) in omega arith))
names_at command (i ∷ []) (o ∷ p ∷ outs) all a b = inl (λ names h. absurd (let e = ap length (sym b ∙ h.outputs) in omega arith))
names_at command (input.Made seed width height frames ∷ []) (o ∷ []) all a b = absurd all.0
names_at command (input.File name kind ∷ []) (o ∷ []) all a b =
    inr ((name, o.name), record { inputs = a ∙ ap (λ (k : Media). input.File name k ∷ []) all.0; output = o.file; outputs = b })

pub names_or_not : (command : Command) → RunsToday command → ((names : List ℕ × List ℕ) → ¬ AreNames command names) ⊎ ((names : List ℕ × List ℕ) × AreNames command names)
names_or_not command today = names_at command command.inputs command.outputs today.inputs refl refl

file_name : {n m : List ℕ} {k l : Media} → ◌≡◌ {A = List InputWord} (input.File n k ∷ []) (input.File m l ∷ []) → n ≡ m
file_name e = cc

names_one : (command : Command) → IsOne (AreNames command)
names_one command a b p q =
    let ins : a.0 ≡ b.0 = file_name (sym p.inputs ∙ q.inputs) in
    let none : OutputWord = record { name = []; file = p.output } in
    let outs : a.1 ≡ b.1 = ap (λ (os : List OutputWord). (get_or os 0 none).name) (sym p.outputs ∙ q.outputs) in
    ap (λ (x : List ℕ). (x, a.1)) ins ∙ ap (λ (y : List ℕ). (b.0, y)) outs

-- ---- steps

contains_later : (f g : ℕ) (fs : List ℕ) → Contains fs f → Contains (g ∷ fs) f
contains_later f g fs h = let n = h.1 in (suc h.0, omega arith, h.2)

pub steps_some : (calls : List FilterCall) (order : List ℕ) → ((f : ℕ) → Contains order f → f < length calls) → (path : List Step) × AreSteps calls order path
steps_some calls [] below = ([], tt)
steps_some calls (f ∷ fs) below =
    let more = steps_some calls fs (λ g h. below g (contains_later g f fs h)) in
    elim (slice_get_cases calls f).1 [
      | inl here ↦ ((record { number = f; call = here.0 }) ∷ more.0, ((refl, here.2), more.1))
      | inr past ↦ absurd (let less = below f (0, omega arith, refl) in let long = past.0 in omega arith)
    ]

pub steps_one : (calls : List FilterCall) (order : List ℕ) (a b : List Step) → AreSteps calls order a → AreSteps calls order b → a ≡ b
steps_one calls [] [] [] p q = refl
steps_one calls [] [] (y ∷ ys) p q = absurd q
steps_one calls [] (x ∷ xs) b p q = absurd p
steps_one calls (f ∷ fs) [] b p q = absurd p
steps_one calls (f ∷ fs) (x ∷ xs) [] p q = absurd q
steps_one calls (f ∷ fs) (x ∷ xs) (y ∷ ys) p q =
    let number : x.number ≡ y.number = p.0.0 ∙ sym q.0.0 in
    let call : x.call ≡ y.call = same_Some x.call y.call (sym p.0.1 ∙ q.0.1) in
    let step : x ≡ y = ap (λ (n : ℕ). let s : Step = record { number = n; call = x.call } in s) number ∙ ap (λ (c : FilterCall). let s : Step = record { number = y.number; call = c } in s) call in
    ap (λ (s : Step). s ∷ xs) step ∙ ap (λ (ss : List Step). y ∷ ss) (steps_one calls fs xs ys p.1 q.1)

-- ---- calls

-- calls that all mean filters aren't rejected
kinds_or_refused : (n : ℕ) (calls : List FilterCall) (kinds : List Kind) (stops : Stop) → AllZip IsKind calls kinds → IsRefusedCall n calls stops → ⊥
kinds_or_refused n [] kinds stops zip h = h
kinds_or_refused n (c ∷ cs) [] stops zip h = zip
kinds_or_refused n (c ∷ cs) (k ∷ ks) stops zip (inl h) = one_meaning.not_both c k h.0 zip.0 h.1
kinds_or_refused n (c ∷ cs) (k ∷ ks) stops zip (inr h) = kinds_or_refused (n + 1) cs ks stops zip.1 h.2

one_refused_call : (n : ℕ) (calls : List FilterCall) → IsOne (IsRefusedCall n calls)
one_refused_call n [] s t p q = absurd p
one_refused_call n (c ∷ cs) s t (inl p) (inl q) = p.2 ∙ (ap (option_stop n) (one_meaning.one_fault c p.0 q.0 p.1 q.1) ∙ sym q.2)
one_refused_call n (c ∷ cs) s t (inl p) (inr q) = absurd (one_meaning.not_both c q.0 p.0 q.1 p.1)
one_refused_call n (c ∷ cs) s t (inr p) (inl q) = absurd (one_meaning.not_both c p.0 q.0 p.1 q.1)
one_refused_call n (c ∷ cs) s t (inr p) (inr q) = one_refused_call (n + 1) cs s t p.2 q.2

kinds_or_some : (n : ℕ) (calls : List FilterCall) → ((kinds : List Kind) × AllZip IsKind calls kinds) ⊎ ((stops : Stop) × IsRefusedCall n calls stops)
kinds_or_some n [] = inl ([], tt)
kinds_or_some n (c ∷ cs) = first (kinds_or_some (n + 1) cs) (one_meaning.some c).0 (one_meaning.some c).1
  where
    first : ((kinds : List Kind) × AllZip IsKind cs kinds) ⊎ ((stops : Stop) × IsRefusedCall (n + 1) cs stops) → (r : Result Kind OptionError) → Means c r
        → ((kinds : List Kind) × AllZip IsKind (c ∷ cs) kinds) ⊎ ((stops : Stop) × IsRefusedCall n (c ∷ cs) stops)
    first others (Err e) m = inr (option_stop n e, inl (e, m, refl))
    first others (Ok kind) m = elim others [
      | inl more ↦ inl (kind ∷ more.0, (m, more.1))
      | inr stops ↦ inr (stops.0, inr (kind, m, stops.1))
    ]

-- filters have the same pads, whichever reading of the calls they are
pads_same : (calls : List FilterCall) (a b : List Kind) → AllZip IsKind calls a → AllZip IsKind calls b → map pads_of a ≡ map pads_of b
pads_same [] [] [] p q = refl
pads_same [] [] (y ∷ ys) p q = absurd q
pads_same [] (x ∷ xs) b p q = absurd p
pads_same (c ∷ cs) [] b p q = absurd p
pads_same (c ∷ cs) (x ∷ xs) [] p q = absurd q
pads_same (c ∷ cs) (x ∷ xs) (y ∷ ys) p q = ap (λ (ps : List Pads). pads_of x ∷ ps) (pads_same cs xs ys p.1 q.1)

pub zip_length : (calls : List FilterCall) (kinds : List Kind) → AllZip IsKind calls kinds → length calls ≡ length kinds
zip_length [] [] zip = refl
zip_length [] (k ∷ ks) zip = absurd zip
zip_length (c ∷ cs) [] zip = absurd zip
zip_length (c ∷ cs) (k ∷ ks) zip = ap suc (zip_length cs ks zip.1)

-- ---- reading calls

-- one call more
kinds_push : (calls : List FilterCall) (kinds : List Kind) (call : FilterCall) (kind : Kind) → AllZip IsKind calls kinds → IsKind call kind → AllZip IsKind (calls ++ call ∷ []) (kinds ++ kind ∷ [])
kinds_push [] [] call kind zip h = (h, tt)
kinds_push [] (f ∷ fs) call kind zip h = absurd zip
kinds_push (c ∷ cs) [] call kind zip h = absurd zip
kinds_push (c ∷ cs) (f ∷ fs) call kind zip h = (zip.0, kinds_push cs fs call kind zip.1 h)

pub kinds_more : (calls : List FilterCall) (kinds : List Kind) (i : ℕ) (call : FilterCall) (kind : Kind) → i < length calls → call ≡ get_or calls i call → AllZip IsKind (take i calls) kinds → IsKind call kind
    → AllZip IsKind (take (i + 1) calls) (kinds ++ kind ∷ [])
kinds_more calls kinds i call kind within is zip h =
    let e : take (i + 1) calls ≡ take i calls ++ call ∷ [] = take_more calls i call within ∙ ap (λ (c : FilterCall). take i calls ++ c ∷ []) (sym is) in
    rw e (kinds_push (take i calls) kinds call kind zip h)

-- a call is rejected, and none before it
refused_from : (n : ℕ) (calls : List FilterCall) (kinds : List Kind) (i : ℕ) (call : FilterCall) (e : OptionError) → i < length calls → call ≡ get_or calls i call → AllZip IsKind (take i calls) kinds → IsKindFault call e
    → IsRefusedCall n calls (option_stop (n + i) e)
refused_from n [] kinds i call e within is zip h = absurd (omega arith)
refused_from n (c ∷ cs) kinds zero call e within is zip h =
    inl (e, subst (λ (x : FilterCall). IsKindFault x e) is h, ap (λ (m : ℕ). option_stop m e) (let k : n + 0 ≡ n = omega arith in k))
refused_from n (c ∷ cs) [] (suc i) call e within is zip h = absurd zip
refused_from n (c ∷ cs) (k ∷ ks) (suc i) call e within is zip h =
    inr (k, zip.0, subst (λ (m : ℕ). IsRefusedCall (n + 1) cs (option_stop m e)) (let s : (n + 1) + i ≡ n + suc i = omega arith in s) (refused_from (n + 1) cs ks i call e (omega arith) is zip.1 h))

pub call_refused : (calls : List FilterCall) (kinds : List Kind) (i : ℕ) (call : FilterCall) (e : OptionError) → i < length calls → call ≡ get_or calls i call → AllZip IsKind (take i calls) kinds → (e ≡ option.NoMemory) ⊎ IsKindFault call e
    → (option_stop i e ≡ stop.NoMemory) ⊎ IsRefusedCall 0 calls (option_stop i e)
call_refused calls kinds i call e within is zip (inl h) = inl (ap (option_stop i) h)
call_refused calls kinds i call e within is zip (inr h) =
    inr (subst (λ (m : ℕ). IsRefusedCall 0 calls (option_stop m e)) (let z : 0 + i ≡ i = omega arith in z) (refused_from 0 calls kinds i call e within is zip h))

-- ---- graphs

all_pads : (P : Pads → Type 0) → ((kind : Kind) → P (pads_of kind)) → (kinds : List Kind) → All P (map pads_of kinds)
all_pads P each [] = All-nil P
all_pads P each (k ∷ ks) = All-cons P (pads_of k) (map pads_of ks) (each k) (all_pads P each ks)

all_single : (kinds : List Kind) → AreSingle (map pads_of kinds)
all_single kinds = all_pads (λ (p : Pads). (length p.ins ≡ 1) × (length p.outs ≡ 1)) (λ kind. (refl, refl)) kinds

all_few : (kinds : List Kind) → All (λ (p : Pads). length p.outs < 4294967296) (map pads_of kinds)
all_few kinds = all_pads (λ (p : Pads). length p.outs < 4294967296) (λ kind. omega arith) kinds

-- ---- commands

-- a command is within the limits
pub small_command : (words : List (List ℕ)) (command : Command) → IsCommand words command → IsSmallCommand command
small_command words command is = record {
  inputs = let few = few_inputs words command is in omega arith;
  outputs = let few = few_outputs words command is in omega arith;
  text = let short = short_text words command is in omega arith;
}

module _ (command : Command) (calls : List FilterCall) (kinds : List Kind) (few : length calls ≤ most_filters) (zip : AllZip IsKind calls kinds) (files : IsSmallCommand command) where
  pub is_small : IsSmall (graph_of command calls kinds)
  is_small = record {
    each = length-map kinds pads_of ∙ sym (zip_length calls kinds zip);
    calls = omega arith;
    outs = all_few kinds;
    files = let n = length-map command.inputs given_by in let less = files.inputs in omega arith;
  }

  -- the plan of one input and one output is a path
  pub plan_path : (draft : DraftPlan) (plan : Plan) → IsLinked (graph_of command calls kinds) (length command.outputs) draft → IsBound draft (files_of command) plan → (names : List ℕ × List ℕ) → AreNames command names → IsPath plan
  plan_path draft plan linked bound names are =
      let outputs : length command.outputs ≡ 1 = ap length are.outputs in
      plans_are_paths (graph_of command calls kinds) draft (files_of command) plan is_small (all_single kinds) (length-map command.inputs given_by ∙ ap length are.inputs)
      (length-map command.outputs (λ (o : OutputWord). o.file) ∙ outputs) (subst (λ (n : ℕ). IsLinked (graph_of command calls kinds) n draft) outputs linked) bound

  -- the filters in a plan's order are those of the calls
  pub plan_steps : (draft : DraftPlan) (plan : Plan) → IsLinked (graph_of command calls kinds) (length command.outputs) draft → IsBound draft (files_of command) plan → (path : List Step) × AreSteps calls plan.order path
  plan_steps draft plan linked bound = steps_some calls plan.order (plans_are_lawful.lawful (graph_of command calls kinds) (length command.outputs) draft (files_of command) plan is_small linked bound).below

-- ---- each step

same_flow : (a b : Flow) → a.calls ≡ b.calls → a.links ≡ b.links → a.path ≡ b.path → a ≡ b
same_flow a b p q r =
    ap (λ x. let f : Flow = record { calls = x; links = a.links; path = a.path } in f) p
    ∙ (ap (λ x. let f : Flow = record { calls = b.calls; links = x; path = a.path } in f) q ∙ ap (λ x. let f : Flow = record { calls = b.calls; links = b.links; path = x } in f) r)

plan_gives : (command : Command) (calls : List FilterCall) (plan : Plan) → RunsToday command → ((names : List ℕ × List ℕ) → AreNames command names → IsPath plan) → (path : List Step) × AreSteps calls plan.order path
    → HasOne (AsksPlan command calls plan)
plan_gives command calls plan today is_path steps =
    after_value ((names : List ℕ × List ℕ) → ¬ AreNames command names) (refuse NotYet) (AreNames command) (λ names r. (request : Request) × IsRequest command calls plan names request × (r ≡ Ok request))
    (names_or_not command today) (names_one command) (λ names are none. none names are) one
  where
    same_request : (names : List ℕ × List ℕ) (a b : Request) → IsRequest command calls plan names a → IsRequest command calls plan names b → a ≡ b
    same_request names a b p q =
        let path = steps_one calls plan.order a.flow.path b.flow.path p.steps q.steps in
        ap (λ x. let r : Request = record { input = x; flow = a.flow; output = a.output; report = a.report } in r) (p.input ∙ sym q.input)
        ∙ (ap (λ x. let r : Request = record { input = b.input; flow = x; output = a.output; report = a.report } in r) (same_flow a.flow b.flow (p.calls_are ∙ sym q.calls_are) (p.links_are ∙ sym q.links_are) path)
        ∙ (ap (λ x. let r : Request = record { input = b.input; flow = b.flow; output = x; report = a.report } in r) (p.output ∙ sym q.output)
        ∙ ap (λ x. let r : Request = record { input = b.input; flow = b.flow; output = b.output; report = x } in r) (p.report ∙ sym q.report)))

    one : (names : List ℕ × List ℕ) → AreNames command names → HasOne (λ (r : Result Request Stop). (request : Request) × IsRequest command calls plan names request × (r ≡ Ok request))
    one names are =
        let request : Request = record { input = names.0; flow = record { calls = calls; links = plan.links; path = steps.0 }; output = names.1; report = command.report } in
        record {
          some = (Ok request, (request, record { input = refl; calls_are = refl; links_are = refl; is_path = is_path names are; steps = steps.1; output = refl; report = refl }, refl));
          one = λ a b p q. p.2 ∙ (ap (λ (r : Request). Ok r) (same_request names p.0 q.0 p.1 q.1) ∙ sym q.2);
        }

module _ (command : Command) (calls : List FilterCall) (today : RunsToday command) (files : IsSmallCommand command) (few : length calls ≤ most_filters) where
  draft_gives : (kinds : List Kind) (draft : DraftPlan) → AllZip IsKind calls kinds → IsLinked (graph_of command calls kinds) (length command.outputs) draft → HasOne (AsksDraft command calls draft)
  draft_gives kinds draft zip linked =
      let bind = outputs_bind_in_one_way in
      let outputs = files_of command in
      after_step (IsBindFault draft.opens outputs) refuse_plan (IsBound draft outputs) (AsksPlan command calls) (bind.one_of_both draft outputs) (bind.one_fault draft.opens outputs) (λ plan fault bound is. bind.not_both draft outputs plan fault bound is)
      (alike_one (IsBound draft outputs) (AsksPlan command calls) (bind.one_plan draft outputs))
      (λ plan bound. plan_gives command calls plan today (plan_path command calls kinds few zip files draft plan linked bound) (plan_steps command calls kinds few zip files draft plan linked bound))

  kinds_give : (kinds : List Kind) → AllZip IsKind calls kinds → HasOne (AsksKinds command calls kinds)
  kinds_give kinds zip =
      let law = graphs_link_in_one_way in
      let graph = graph_of command calls kinds in
      let count = length command.outputs in
      let small = is_small command calls kinds few zip files in
      after_step (IsLinkFault graph count) refuse_plan (IsLinked graph count) (AsksDraft command calls) (law.one_of_both graph count small) (law.one_fault graph count) (λ draft fault linked is. law.not_both graph count draft fault small linked is)
      (alike_one (IsLinked graph count) (AsksDraft command calls) (law.one_draft graph count)) (λ draft linked. draft_gives kinds draft zip linked)

  kinds_alike : AreAlike (AllZip IsKind calls) (AsksKinds command calls)
  kinds_alike a b r p q h =
      subst (λ (pads : List Pads). by_pads pads r) (pads_same calls a b p q) h
    where
      by_pads : List Pads → Result Request Stop → Type 0
      by_pads pads =
          let graph : Graph = record { calls = calls; pads = pads; files = map given_by command.inputs } in
          AfterStep (IsLinkFault graph (length command.outputs)) refuse_plan (IsLinked graph (length command.outputs)) (AsksDraft command calls)

calls_give : (command : Command) (calls : List FilterCall) → RunsToday command → IsSmallCommand command → HasOne (AsksCalls command calls)
calls_give command calls today files =
    after_check (length calls ≤ most_filters) (refuse (Limit Filters 0 most_filters)) (AfterStep (IsRefusedCall 0 calls) Err (AllZip IsKind calls) (AsksKinds command calls)) (decide_most (length calls) most_filters)
    (λ few. after_step (IsRefusedCall 0 calls) Err (AllZip IsKind calls) (AsksKinds command calls) (kinds_or_some 0 calls) (one_refused_call 0 calls) (λ kinds stops zip refused. kinds_or_refused 0 calls kinds stops zip refused)
    (kinds_alike command calls today files few) (kinds_give command calls today files few))

-- the faults of texts
text_fault_one : (text : List ℕ) → IsOne (HasTextFault text)
text_fault_one text f g p q =
    let same = one_graph_fault text p.bad q.bad p.kind q.kind p.is_fault q.is_fault in
    p.fault_is ∙ (ap (λ (n : List ℕ). TextFault (length text - length n) p.kind) same.1 ∙ (ap (λ (k : TextKind). TextFault (length text - length q.bad) k) same.0 ∙ sym q.fault_is))

graph_or_text_fault : (text : List ℕ) → ((calls : List FilterCall) × IsGraph text calls) ⊎ ((fault : Fault) × HasTextFault text fault)
graph_or_text_fault text = elim (graph_or_none text) [
  | inl h ↦ inl h
  | inr h ↦ inr (TextFault (length text - length h.1) h.0, record { kind = h.0; bad = h.1; is_fault = h.2; fault_is = refl })
]

command_gives : (command : Command) → IsSmallCommand command → HasOne (AsksCommand command)
command_gives command files =
    after_check (RunsToday command) (refuse NotYet) (AfterStep (HasTextFault command.text) refuse (IsGraph command.text) (AsksCalls command)) (today_or_not command)
    (λ today. after_step (HasTextFault command.text) refuse (IsGraph command.text) (AsksCalls command) (graph_or_text_fault command.text) (text_fault_one command.text)
    (λ calls fault graph is. graph_or_fault command.text is.bad calls is.kind graph is.is_fault) (alike_one (IsGraph command.text) (AsksCalls command) (one_graph command.text)) (λ calls graph. calls_give command calls today files))

pub asks_one : (words : List (List ℕ)) → HasOne (Asks words)
asks_one words =
    let law = words_say_one_thing in
    after_step (IsWordFault words) refuse (IsCommand words) AsksCommand (law.one_of_both words) (law.one_fault words) (λ command fault is has. law.not_both words command fault is has)
    (alike_one (IsCommand words) AsksCommand (law.one_command words)) (λ command is. command_gives command (small_command words command is))

-- ---- what stops words

-- it holds of all that may stop words
record HoldsOfAll (P : Stop → Type 0) : Type 0 where
  word : (f : Fault) → (stop_status (stop.Fault f) ≡ 2) ⊎ (stop_status (stop.Fault f) ≡ 10) → P (stop.Fault f)
  later : P (stop.Fault NotYet)
  text : (at : ℕ) (kind : TextKind) → P (stop.Fault (TextFault at kind))
  filters : P (stop.Fault (Limit Filters 0 most_filters))
  option : (n : ℕ) (e : OptionError) → P (option_stop n e)
  plan : (f : PlanFault) → P (plan_stop f)

same_stop : {a b : Stop} → ◌≡◌ {A = Result Request Stop} (Err a) (Err b) → a ≡ b
same_stop e = cc

module _ (P : Stop → Type 0) (holds : HoldsOfAll P) where
  by_same : (stops other : Stop) → ◌≡◌ {A = Result Request Stop} (Err stops) (Err other) → P other → P stops
  by_same stops other e h = subst P (sym (same_stop e)) h

  call_refusal : (n : ℕ) (calls : List FilterCall) (stops : Stop) → IsRefusedCall n calls stops → P stops
  call_refusal n [] stops h = absurd h
  call_refusal n (c ∷ cs) stops (inl h) = subst P (sym h.2) (holds.option n h.0)
  call_refusal n (c ∷ cs) stops (inr h) = call_refusal (n + 1) cs stops h.2

  plan_asks : (command : Command) (calls : List FilterCall) (plan : Plan) (stops : Stop) → AsksPlan command calls plan (Err stops) → P stops
  plan_asks command calls plan stops (inl h) = by_same stops (stop.Fault NotYet) h.1 holds.later
  plan_asks command calls plan stops (inr h) = absurd (let e = h.2.2 in cc)

  draft_asks : (command : Command) (calls : List FilterCall) (draft : DraftPlan) (stops : Stop) → AsksDraft command calls draft (Err stops) → P stops
  draft_asks command calls draft stops (inl h) = by_same stops (plan_stop h.0) h.2 (holds.plan h.0)
  draft_asks command calls draft stops (inr h) = plan_asks command calls h.0 stops h.2

  kinds_ask : (command : Command) (calls : List FilterCall) (kinds : List Kind) (stops : Stop) → AsksKinds command calls kinds (Err stops) → P stops
  kinds_ask command calls kinds stops (inl h) = by_same stops (plan_stop h.0) h.2 (holds.plan h.0)
  kinds_ask command calls kinds stops (inr h) = draft_asks command calls h.0 stops h.2

  calls_ask : (command : Command) (calls : List FilterCall) (stops : Stop) → AsksCalls command calls (Err stops) → P stops
  calls_ask command calls stops (inl h) = by_same stops (stop.Fault (Limit Filters 0 most_filters)) h.1 holds.filters
  calls_ask command calls stops (inr h) = after h.1
    where
      after : AfterStep (IsRefusedCall 0 calls) Err (AllZip IsKind calls) (AsksKinds command calls) (Err stops) → P stops
      after (inl k) = by_same stops k.0 k.2 (call_refusal 0 calls k.0 k.1)
      after (inr k) = kinds_ask command calls k.0 stops k.2

  command_asks : (command : Command) (stops : Stop) → AsksCommand command (Err stops) → P stops
  command_asks command stops (inl h) = by_same stops (stop.Fault NotYet) h.1 holds.later
  command_asks command stops (inr h) = after h.1
    where
      after : AfterStep (HasTextFault command.text) refuse (IsGraph command.text) (AsksCalls command) (Err stops) → P stops
      after (inl k) = by_same stops (stop.Fault k.0) k.2 (subst (λ (f : Fault). P (stop.Fault f)) (sym k.1.fault_is) (holds.text (length command.text - length k.1.bad) k.1.kind))
      after (inr k) = calls_ask command k.0 stops k.2

  asks_all : (words : List (List ℕ)) (stops : Stop) → Asks words (Err stops) → P stops
  asks_all words stops (inl h) = by_same stops (stop.Fault h.0) h.2 (holds.word h.0 (word_status words h.0 h.1))
  asks_all words stops (inr h) = command_asks h.0 stops h.2

-- ---- it is no fault of the host

-- no count rises with this
abbrev NoRise : Type 0 → Faults → Stop → Type 0
NoRise T faults stops = CountsStop {T = T} (Err stops) faults faults

not_word : {A : Type 0} (n : ℕ) → 10 < n → (n ≡ 2) ⊎ (n ≡ 10) → A
not_word n more (inl e) = absurd (omega arith)
not_word n more (inr e) = absurd (omega arith)

word_counts : (T : Type 0) (faults : Faults) (f : Fault) → (stop_status (stop.Fault f) ≡ 2) ⊎ (stop_status (stop.Fault f) ≡ 10) → NoRise T faults (stop.Fault f)
word_counts T faults OpenFault h = not_word 11 (omega arith) h
word_counts T faults ReadFault h = not_word 12 (omega arith) h
word_counts T faults WriteFault h = not_word 13 (omega arith) h
word_counts T faults other h = refl

option_counts : (T : Type 0) (faults : Faults) (n : ℕ) (e : OptionError) → NoRise T faults (option_stop n e)
option_counts T faults n option.UnknownFilter = refl
option_counts T faults n (option.UnknownOption k) = refl
option_counts T faults n (option.TooManyValues k) = refl
option_counts T faults n (option.BadValue k) = refl
option_counts T faults n option.MissingOption = refl
option_counts T faults n option.NotYet = refl
option_counts T faults n option.NoMemory = refl

plan_counts : (T : Type 0) (faults : Faults) (f : PlanFault) → NoRise T faults (plan_stop f)
plan_counts T faults plan.TooManyLinks = refl
plan_counts T faults (plan.PadCount filter) = refl
plan_counts T faults (plan.LabelTwice filter) = refl
plan_counts T faults (plan.UnknownInput filter) = refl
plan_counts T faults (plan.MediaMismatch filter) = refl
plan_counts T faults (plan.Cycle filter) = refl
plan_counts T faults (plan.OpenPad filter pad) = refl
plan_counts T faults (plan.NoSuchOutput output) = refl
plan_counts T faults (plan.Unmapped filter pad) = refl
plan_counts T faults (plan.WrongKind output) = refl

pub asks_counts : (T : Type 0) (faults : Faults) (words : List (List ℕ)) (stops : Stop) → Asks words (Err stops) → CountsStop {T = T} (Err stops) faults faults
asks_counts T faults words stops asks =
    asks_all (NoRise T faults) (record { word = word_counts T faults; later = refl; text = λ at kind. refl; filters = refl; option = option_counts T faults; plan = plan_counts T faults }) words stops asks

-- ---- it has none of the statuses of files

abbrev NoFile : Stop → Type 0
NoFile stops = (stop_status stops ≤ 5) ⊎ (10 ≤ stop_status stops)

word_no_file : (n : ℕ) → (n ≡ 2) ⊎ (n ≡ 10) → (n ≤ 5) ⊎ (10 ≤ n)
word_no_file n (inl e) = inl (omega arith)
word_no_file n (inr e) = inr (omega arith)

option_no_file : (n : ℕ) (e : OptionError) → NoFile (option_stop n e)
option_no_file n option.UnknownFilter = inl (omega arith)
option_no_file n (option.UnknownOption k) = inl (omega arith)
option_no_file n (option.TooManyValues k) = inl (omega arith)
option_no_file n (option.BadValue k) = inl (omega arith)
option_no_file n option.MissingOption = inl (omega arith)
option_no_file n option.NotYet = inr (omega arith)
option_no_file n option.NoMemory = inr (omega arith)

plan_no_file : (f : PlanFault) → NoFile (plan_stop f)
plan_no_file plan.TooManyLinks = inr (omega arith)
plan_no_file (plan.PadCount filter) = inl (omega arith)
plan_no_file (plan.LabelTwice filter) = inl (omega arith)
plan_no_file (plan.UnknownInput filter) = inl (omega arith)
plan_no_file (plan.MediaMismatch filter) = inl (omega arith)
plan_no_file (plan.Cycle filter) = inl (omega arith)
plan_no_file (plan.OpenPad filter pad) = inl (omega arith)
plan_no_file (plan.NoSuchOutput output) = inl (omega arith)
plan_no_file (plan.Unmapped filter pad) = inl (omega arith)
plan_no_file (plan.WrongKind output) = inl (omega arith)

pub asks_no_file : (words : List (List ℕ)) (stops : Stop) → Asks words (Err stops) → (stop_status stops ≤ 5) ⊎ (10 ≤ stop_status stops)
asks_no_file words stops asks =
    asks_all NoFile (record { word = λ f h. word_no_file (stop_status (stop.Fault f)) h; later = inr (omega arith); text = λ at kind. inl (omega arith); filters = inr (omega arith); option = option_no_file; plan = plan_no_file }) words stops asks

-- ---- the filters of a request are known

request_is : {a b : Request} → ◌≡◌ {A = Result Request Stop} (Ok a) (Ok b) → a ≡ b
request_is e = cc

flow_known : (command : Command) (calls : List FilterCall) (kinds : List Kind) (plan : Plan) (names : List ℕ × List ℕ) (request : Request) → AllZip IsKind calls kinds → IsRequest command calls plan names request → IsKnownFlow request.flow
flow_known command calls kinds plan names request zip is = record {
  kinds = kinds;
  are_kinds = subst (λ (cs : List FilterCall). AllZip IsKind cs kinds) (sym is.calls_are) zip;
  order = plan.order;
  have_path = subst (λ (ls : List Edge). HavePath ls plan.order) (sym is.links_are) (λ link has. (is.is_path link).1 has);
  steps = subst (λ (cs : List FilterCall). AreSteps cs plan.order request.flow.path) (sym is.calls_are) is.steps;
}

plan_known : (command : Command) (calls : List FilterCall) (kinds : List Kind) (plan : Plan) (request : Request) → AllZip IsKind calls kinds → AsksPlan command calls plan (Ok request) → IsKnownFlow request.flow
plan_known command calls kinds plan request zip (inl h) = absurd (let e = h.1 in cc)
plan_known command calls kinds plan request zip (inr h) = subst (λ (r : Request). IsKnownFlow r.flow) (sym (request_is h.2.2)) (flow_known command calls kinds plan h.0 h.2.0 zip h.2.1)

draft_known : (command : Command) (calls : List FilterCall) (kinds : List Kind) (draft : DraftPlan) (request : Request) → AllZip IsKind calls kinds → AsksDraft command calls draft (Ok request) → IsKnownFlow request.flow
draft_known command calls kinds draft request zip (inl h) = absurd (let e = h.2 in cc)
draft_known command calls kinds draft request zip (inr h) = plan_known command calls kinds h.0 request zip h.2

kinds_known : (command : Command) (calls : List FilterCall) (kinds : List Kind) (request : Request) → AllZip IsKind calls kinds → AsksKinds command calls kinds (Ok request) → IsKnownFlow request.flow
kinds_known command calls kinds request zip (inl h) = absurd (let e = h.2 in cc)
kinds_known command calls kinds request zip (inr h) = draft_known command calls kinds h.0 request zip h.2

calls_known : (command : Command) (calls : List FilterCall) (request : Request) → AsksCalls command calls (Ok request) → IsKnownFlow request.flow
calls_known command calls request (inl h) = absurd (let e = h.1 in cc)
calls_known command calls request (inr h) = after h.1
  where
    after : AfterStep (IsRefusedCall 0 calls) Err (AllZip IsKind calls) (AsksKinds command calls) (Ok request) → IsKnownFlow request.flow
    after (inl k) = absurd (let e = k.2 in cc)
    after (inr k) = kinds_known command calls k.0 request k.1 k.2

command_known : (command : Command) (request : Request) → AsksCommand command (Ok request) → IsKnownFlow request.flow
command_known command request (inl h) = absurd (let e = h.1 in cc)
command_known command request (inr h) = after h.1
  where
    after : AfterStep (HasTextFault command.text) refuse (IsGraph command.text) (AsksCalls command) (Ok request) → IsKnownFlow request.flow
    after (inl k) = absurd (let e = k.2 in cc)
    after (inr k) = calls_known command k.0 request k.2

pub request_known : (words : List (List ℕ)) (request : Request) → Asks words (Ok request) → IsKnownFlow request.flow
request_known words request (inl h) = absurd (let e = h.2 in cc)
request_known words request (inr h) = command_known h.0 request h.2

-- ---- what the code keeps of a request

pub of_path : (calls : List FilterCall) (kinds : List Kind) (order : List ℕ) (path : List Step) → AllZip IsKind calls kinds → AreSteps calls order path → AreOfPath kinds order path
of_path calls kinds [] [] zip are = tt
of_path calls kinds [] (s ∷ ss) zip are = absurd are
of_path calls kinds (f ∷ fs) [] zip are = absurd are
of_path calls kinds (f ∷ fs) (s ∷ ss) zip are = ((are.0.0, kind_at calls kinds f s.call zip are.0.1), of_path calls kinds fs ss zip are.1)

-- what the later steps come to is what all come to
pub asked_next : (P Q : Result Request Stop → Type 0) → ((r : Result Request Stop) → P r → Q r) → (result : Result Job Stop) → Asked P result → Asked Q result
asked_next P Q f (Ok job) a = (a.0, f (Ok a.0) a.1, a.2)
asked_next P Q f (Err stops) (inl e) = inl e
asked_next P Q f (Err stops) (inr h) = inr (f (Err stops) h)

-- a call that found a fault of the graph, or was out of memory
pub plan_stops : (X : Type 0) (P : PlanFault → Type 0) (Q : Result Request Stop → Type 0) → ((f : PlanFault) → P f → Q (Err (plan_stop f))) → (e : Failure PlanFault) → IfFault {X = X} (Err e) P
    → (plan_error_stop e ≡ stop.NoMemory) ⊎ Q (Err (plan_error_stop e))
plan_stops X P Q f (failure.Fault fault) h = inr (f fault h)
plan_stops X P Q f failure.NoMemory h = inl refl

-- or of the text
pub text_stops : (X : Type 0) (command : Command) → RunsToday command → (e : Failure FaultOfText) → IfFault {X = X} (Err e) (λ f. (bad : List ℕ) × IsGraphFault command.text f.kind bad × (f.at + length bad ≡ length command.text))
    → (text_stop e ≡ stop.NoMemory) ⊎ AsksCommand command (Err (text_stop e))
text_stops X command today (failure.Fault f) h =
    let place : f.at ≡ length command.text - length h.0 = let e = h.2 in omega arith in
    inr (inr (today, inl (TextFault f.at f.kind, record { kind = f.kind; bad = h.0; is_fault = h.1; fault_is = ap (λ (n : ℕ). TextFault n f.kind) place }, refl)))
text_stops X command today failure.NoMemory h = inl refl

-- graphs of the same pads and files
pub graph_is : (calls : List FilterCall) (a b : List Pads) (m n : List Media) → a ≡ b → m ≡ n → ◌≡◌ {A = Graph} (record { calls = calls; pads = a; files = m }) (record { calls = calls; pads = b; files = n })
graph_is calls a b m n p q = ap (λ (x : List Pads). let g : Graph = record { calls = calls; pads = x; files = m } in g) p ∙ ap (λ (x : List Media). let g : Graph = record { calls = calls; pads = b; files = x } in g) q
