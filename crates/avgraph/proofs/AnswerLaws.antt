-- Words come to one thing, and a file comes to one thing for what they ask. Out of memory is none of these.
use Rattle.std.proofs.Common.{◌≡◌, ◌+◌, ℕ, List, [], ◌∷◌, Result, Err, refl, sym, subst, inl, inr, arith}
use Rattle.std.specs.List.{AllZip}
use Rattle.av_filter.specs.Outcomes.{AfterStep}
use Rattle.av_frame.specs.declared.refusals.OptionError.{OptionError}
use Rattle.av_frame.specs.declared.refusals.OptionError.TheVariants as option
use Rattle.graph_text.specs.Graphs.{IsGraph}
use Rattle.graph_text.specs.declared.graph.FilterCall.{FilterCall}
use Rattle.graph_plan.specs.declared.plan.DraftPlan.{DraftPlan}
use Rattle.graph_plan.specs.declared.plan.Plan.{Plan}
use Rattle.node_core.specs.declared.kind.Kind.{Kind}
use Rattle.node_core.specs.Kinds.{IsKind, IsKindFault}
use Rattle.node_core.proofs.LawLemmas.{one_meaning}
use Rattle.av_words.specs.declared.command_words.Command.{Command}
use Rattle.av_faults.specs.declared.fault.Stop.{Stop}
use Rattle.av_faults.specs.declared.fault.Stop.TheVariants as stop
use Rattle.avgraph.specs.Headline.{CommandsHaveOneAnswer}
use Rattle.avgraph.specs.Requests.{Request, HasTextFault, IsRefusedCall, refuse, AsksPlan, AsksDraft, AsksKinds, AsksCalls, AsksCommand, Asks}
use Rattle.avgraph.specs.Stops.{option_stop}
use Rattle.avgraph.proofs.FileLemmas.{file_gives}
use Rattle.avgraph.proofs.StatusLemmas.{file_status}
use Rattle.avgraph.proofs.RequestLemmas.{asks_one, request_known}

-- ---- words

option_memory : (n : ℕ) (e : OptionError) → stop.NoMemory ≡ option_stop n e → e ≡ option.NoMemory
option_memory n option.UnknownFilter h = absurd cc
option_memory n (option.UnknownOption k) h = absurd cc
option_memory n (option.TooManyValues k) h = absurd cc
option_memory n (option.BadValue k) h = absurd cc
option_memory n option.MissingOption h = absurd cc
option_memory n option.NotYet h = absurd cc
option_memory n option.NoMemory h = refl

call_memory : (n : ℕ) (calls : List FilterCall) → ¬ IsRefusedCall n calls stop.NoMemory
call_memory n [] h = h
call_memory n (c ∷ cs) (inl h) = one_meaning.no_memory c (subst (IsKindFault c) (option_memory n h.0 h.2) h.1)
call_memory n (c ∷ cs) (inr h) = call_memory (n + 1) cs h.2

asked_stop : {a b : Stop} → ◌≡◌ {A = Result Request Stop} (Err a) (Err b) → a ≡ b
asked_stop e = cc

plan_memory : (command : Command) (calls : List FilterCall) (plan : Plan) → ¬ AsksPlan command calls plan (Err stop.NoMemory)
plan_memory command calls plan (inl h) = absurd (let e = h.1 in cc)
plan_memory command calls plan (inr h) = absurd (let e = h.2.2 in cc)

draft_memory : (command : Command) (calls : List FilterCall) (draft : DraftPlan) → ¬ AsksDraft command calls draft (Err stop.NoMemory)
draft_memory command calls draft (inl h) = absurd (let e = h.2 in cc)
draft_memory command calls draft (inr h) = plan_memory command calls h.0 h.2

kinds_memory : (command : Command) (calls : List FilterCall) (kinds : List Kind) → ¬ AsksKinds command calls kinds (Err stop.NoMemory)
kinds_memory command calls kinds (inl h) = absurd (let e = h.2 in cc)
kinds_memory command calls kinds (inr h) = draft_memory command calls h.0 h.2

calls_memory : (command : Command) (calls : List FilterCall) → ¬ AsksCalls command calls (Err stop.NoMemory)
calls_memory command calls (inl h) = absurd (let e = h.1 in cc)
calls_memory command calls (inr h) = after h.1
  where
    after : ¬ AfterStep (IsRefusedCall 0 calls) Err (AllZip IsKind calls) (AsksKinds command calls) (Err stop.NoMemory)
    after (inl k) = call_memory 0 calls (subst (IsRefusedCall 0 calls) (sym (asked_stop k.2)) k.1)
    after (inr k) = kinds_memory command calls k.0 k.2

command_memory : (command : Command) → ¬ AsksCommand command (Err stop.NoMemory)
command_memory command (inl h) = absurd (let e = h.1 in cc)
command_memory command (inr h) = after h.1
  where
    after : ¬ AfterStep (HasTextFault command.text) refuse (IsGraph command.text) (AsksCalls command) (Err stop.NoMemory)
    after (inl k) = absurd (let e = k.2 in cc)
    after (inr k) = calls_memory command k.0 k.2

words_memory : (words : List (List ℕ)) → ¬ Asks words (Err stop.NoMemory)
words_memory words (inl h) = absurd (let e = h.2 in cc)
words_memory words (inr h) = command_memory h.0 h.2

pub commands_have_one_answer : CommandsHaveOneAnswer
commands_have_one_answer = record {
  words = asks_one;
  words_memory = words_memory;
  files = λ words request limit bytes is. file_gives limit request.flow bytes (request_known words request is);
  files_memory = λ limit flow bytes gives. let high = (file_status limit flow bytes stop.NoMemory gives).1 in omega arith;
}
