use Rattle.std.proofs.Common.{◌≡◌, ℕ, ◌++◌, List, Some, refl, ap, ◌∙◌, arith, get_or, take}
use Rattle.std.proofs.lemmas.List.{get_or_default}
use Rattle.std.proofs.lemmas.Result.{err_from_is_err_and}
use Rattle.av_host.specs.Calls.{appended}
use Rattle.av_host.specs.Named.{live_name}
use Rattle.av_host.specs.Memory.{name_of, bytes_of}
use Rattle.av_host.proofs.NamedLemmas.{some_of, live_name_within}
use Rattle.av_host.proofs.MemoryLemmas.{alters, unaltered}
use Rattle.av_host.proofs.memory_calls.MemoryHostHost.write.Goals as goal

pub index_mut-made-requires : goal.index_mut-made-requires
index_mut-made-requires c =
    let xs = c.args.self.now.made.items in
    let live : (n : List ℕ) × (live_name name_of xs c.args.id ≡ Some n) = some_of _ c.requires in
    let within = live_name_within name_of xs c.args.id live.0 live.1 in
    omega (arith, within, c.args.self.now.made.ok.0)

pub returns-clause-written : goal.returns-clause-written
returns-clause-written c =
    let xs = c.args.self.now.made.items in
    let i = c.args.id in
    let piece = take c.min-taken.result c.args.piece.now in
    let x = c.append_to.new.made in
    let now = c.in_ok-append_to.ensures in
    let live : (n : List ℕ) × (live_name name_of xs i ≡ Some n) = some_of _ c.requires in
    let was : c.index_mut-made.result.now ≡ get_or xs i x = c.index_mut-made.ensures.value ∙ get_or_default xs i _ x (live_name_within name_of xs i live.0 live.1) in
    record {
      held = refl;
      inputs = refl;
      said = refl;
      outputs = alters xs i x live.0 (appended piece) live.1 (now.name ∙ ap name_of was)
          (now.ok ∙ ap (λ o. bytes_of o ++ piece) was);
    }

pub returns-in_err-append_to-clause-refused : goal.returns-in_err-append_to-clause-refused
returns-in_err-append_to-clause-refused c =
    let xs = c.args.self.now.made.items in
    let i = c.args.id in
    let x = c.append_to.new.made in
    let now = c.in_err-append_to.ensures in
    let live : (n : List ℕ) × (live_name name_of xs i ≡ Some n) = some_of _ c.requires in
    let was : c.index_mut-made.result.now ≡ get_or xs i x = c.index_mut-made.ensures.value ∙ get_or_default xs i _ x (live_name_within name_of xs i live.0 live.1) in
    let p = err_from_is_err_and c.from_residual.result c.from_residual.ensures.1 in
    rw p.1 record {
      held = refl;
      inputs = refl;
      said = refl;
      outputs = unaltered xs i x (now.name ∙ ap name_of was) (now.err ∙ ap bytes_of was);
    }
