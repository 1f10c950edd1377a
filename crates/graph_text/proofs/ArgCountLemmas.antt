-- A filter has no more arguments than its text has bytes.
use Rattle.std.proofs.Common.{◌≡◌, ◌<◌, ◌≤◌, ◌+◌, ◌⊎◌, ◌^◌, ℕ, Bool, List, [], ◌∷◌, ◌++◌, Option, Some, None, length, ap, arith, length-append, inl, inr}
use Rattle.std.specs.List.{AllByRecursion, flat_map}
use Rattle.av_base.specs.declared.containers.Text.{Text}
use Rattle.av_text.specs.Classes.{IsRun}
use Rattle.av_text.specs.Parts.{Skips}
use Rattle.av_text.specs.Tokens.{source, IsToken}
use Rattle.av_text.specs.Arguments.{BeginsNamed, BeginsArg, AreArgs}
use Rattle.av_text.specs.declared.arguments.Arg.{Arg}
use Rattle.av_text.proofs.ReadingLemmas.{token_short}
use Rattle.graph_text.specs.Grammar.{IsLabel, AreLabels, IsInstance, AreArguments, IsFilter}
use Rattle.graph_text.specs.Graphs.{flags_mark, IsBody, AreCalls, IsGraph}
use Rattle.graph_text.specs.declared.graph.FilterCall.{FilterCall}

-- ---- rests are no longer than texts

run_short : (p : ℕ → Bool) {text front rest : List ℕ} → IsRun p text front rest → length rest ≤ length text
run_short p {text} {front} {rest} r = omega (arith, ap length r.text_is, length-append front rest)

skips_short : (text rest : List ℕ) → Skips text rest → length rest ≤ length text
skips_short text rest s = run_short _ s.1

token_rest : (specials text value rest : List ℕ) → IsToken specials text value rest → length rest ≤ length text
token_rest specials text value rest t =
    let r = t.is_row in
    omega (arith, ap length r.begins.text_is, length-append r.lead (flat_map source t.row ++ rest), length-append (flat_map source t.row) rest)

named_short : {text name later : List ℕ} → BeginsNamed text name later → length later ≤ length text
named_short n =
    let a = run_short _ n.lead_is in
    let b = run_short _ n.name_is in
    let c = run_short _ n.gap_is in
    omega arith

begins_short : (text : List ℕ) (name : Option (List ℕ)) (value rest : List ℕ) → BeginsArg text name value rest → length rest ≤ length text
begins_short text (Some name) value rest b = let n = named_short b.1 in let t = token_rest (58 ∷ []) b.0 value rest b.2 in omega arith
begins_short text None value rest b = token_rest (58 ∷ []) text value rest b.1

args_short : (text : List ℕ) (args : List Arg) → AreArgs text args → length args ≤ length text
args_short text [] a = omega arith
args_short text (arg ∷ args) a = by_end (λ more. args_short more args) a.3
  where
    by_end : ((more : List ℕ) → AreArgs more args → length args ≤ length more) → ((a.1 ≡ []) × (args ≡ [])) ⊎ ((more : List ℕ) × (a.1 ≡ 58 ∷ more) × AreArgs more args) → length (arg ∷ args) ≤ length text
    by_end others (inl e) = let some = a.0 in omega (arith, ap length e.1)
    by_end others (inr m) =
        let rest = others m.0 m.2 in
        let first = begins_short text arg.name arg.value a.1 a.2 in
        omega (arith, ap length m.1)

-- ---- filters

label_short : {text name rest : List ℕ} → IsLabel text name rest → length rest ≤ length text
label_short l =
    let a = skips_short _ _ l.before in
    let b = run_short _ l.is_name in
    let c = skips_short _ _ l.closes in
    omega (arith, ap length l.opens)

labels_short : (text : List ℕ) (names : List Text) (rest : List ℕ) → AreLabels text names rest → length rest ≤ length text
labels_short text [] rest a = skips_short text rest a.0
labels_short text (name ∷ names) rest a =
    let first = skips_short text a.0 a.2 in
    let label = label_short a.3 in
    let others = labels_short a.1 names rest a.4 in
    omega arith

instance_short : (text : List ℕ) (name : Option Text) (rest : List ℕ) → IsInstance text name rest → length rest ≤ length text
instance_short text None rest i = skips_short text rest i.0
instance_short text (Some name) rest i =
    let a = skips_short text (64 ∷ i.0) i.2 in
    let b = skips_short i.0 i.1 i.3 in
    let c = run_short _ i.4.0 in
    omega arith

arguments_short : (text : List ℕ) (args : List Arg) (rest : List ℕ) → AreArguments text args rest → (length rest ≤ length text) × (length args ≤ length text)
arguments_short text args rest (inl a) = (skips_short text rest a.0, omega (arith, ap length a.2))
arguments_short text args rest (inr a) =
    let first = skips_short text (61 ∷ a.0) a.3 in
    let start = skips_short a.0 a.1 a.4 in
    let later = token_rest _ a.1 a.2 rest a.5 in
    let token = token_short a.5 in
    let count = args_short a.2 args a.6 in
    (omega arith, omega arith)

filter_short : (total chain : ℕ) (text : List ℕ) (call : FilterCall) (rest : List ℕ) → IsFilter total chain text call rest → (length rest ≤ length text) × (length call.args ≤ length text)
filter_short total chain text call rest f =
    let a = labels_short text call.ins f.named f.ins in
    let b = run_short _ f.name.0 in
    let c = instance_short f.unnamed call.instance f.called f.instance in
    let d = arguments_short f.called call.args f.labelled f.args in
    let e = labels_short f.labelled call.outs rest f.outs in
    (omega (arith, d.0), omega (arith, d.1))

calls_few : (total chain : ℕ) (text : List ℕ) (calls : List FilterCall) → AreCalls total chain text calls → length text < 2 ^ 32 → AllByRecursion (λ call. length call.args < 2 ^ 32) calls
calls_few total chain text [] a short = absurd a
calls_few total chain text (call ∷ calls) a short =
    let first = filter_short total chain text call a.0 a.1 in
    (omega (arith, first.1), later (λ c more. calls_few total c more calls) (omega (arith, first.0)) a.2)
  where
    later : ((c : ℕ) (more : List ℕ) → AreCalls total c more calls → length more < 2 ^ 32 → AllByRecursion (λ (x : FilterCall). length x.args < 2 ^ 32) calls) → length a.0 < 2 ^ 32
        → ((a.0 ≡ []) × (calls ≡ [])) ⊎ (((more : List ℕ) × (a.0 ≡ 44 ∷ more) × AreCalls total chain more calls) ⊎ ((more : List ℕ) × (a.0 ≡ 59 ∷ more) × AreCalls total (chain + 1) more calls))
        → AllByRecursion (λ (c : FilterCall). length c.args < 2 ^ 32) calls
    later others less (inl e) = rw e.1 tt
    later others less (inr (inl m)) = others chain m.0 m.2 (omega (arith, ap length m.1))
    later others less (inr (inr m)) = others (chain + 1) m.0 m.2 (omega (arith, ap length m.1))

body_short : (text body : List ℕ) → IsBody text body → length body ≤ length text
body_short text body (inl b) =
    let s = skips_short text (flags_mark ++ (b.0 ++ 59 ∷ body)) b.1 in
    omega (arith, length-append flags_mark (b.0 ++ 59 ∷ body), length-append b.0 (59 ∷ body))
body_short text body (inr b) = omega (arith, ap length b.1)

pub few_args : (text : List ℕ) (calls : List FilterCall) → IsGraph text calls → length text < 2 ^ 32 → AllByRecursion (λ call. length call.args < 2 ^ 32) calls
few_args text calls g short = let b = body_short text g.0 g.1 in calls_few (length text) 0 g.0 calls g.2 (omega arith)
