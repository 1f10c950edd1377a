use Rattle.std.proofs.Common.{◌≡◌, ℕ, List, Some, length, option_map, refl, ap, ◌∙◌, arith, get_or}
use Rattle.std.proofs.lemmas.List.{get_or_default}
use Rattle.av_host.specs.Calls.{patched}
use Rattle.av_host.specs.Named.{live_name}
use Rattle.av_host.specs.Memory.{name_of, bytes_of}
use Rattle.av_host.proofs.NamedLemmas.{some_of, live_name_within}
use Rattle.av_host.proofs.MemoryLemmas.{alters, live_last}
use Rattle.av_host.proofs.memory_calls.MemoryHostHost.patch.Goals as goal

pub index_mut-made-requires : goal.index_mut-made-requires
index_mut-made-requires c =
    let xs = c.args.self.now.made.items in
    let live : (n : List ℕ) × (live_name name_of xs c.args.id ≡ Some n) = some_of _ c.requires.id in
    let within = live_name_within name_of xs c.args.id live.0 live.1 in
    omega (arith, within, c.args.self.now.made.ok.0)

pub patch_made-requires : goal.patch_made-requires
patch_made-requires c =
    let xs = c.args.self.now.made.items in
    let i = c.args.id in
    let x = c.index_mut-made.result.now in
    let live : (n : List ℕ) × (live_name name_of xs i ≡ Some n) = some_of _ c.requires.id in
    let fits = c.requires.written live.0 (bytes_of (get_or xs i x)) live.1 (ap (λ o. Some (option_map bytes_of o)) (live_last xs i live.0 x live.1)) in
    let same : length (bytes_of x) ≡ length (bytes_of (get_or xs i x)) = ap (λ o. length (bytes_of o)) c.index_mut-made.ensures.value in
    omega (arith, fits, same)

pub returns-clause-patched : goal.returns-clause-patched
returns-clause-patched c =
    let xs = c.args.self.now.made.items in
    let i = c.args.id in
    let x = c.patch_made.new.made in
    let now = c.patch_made.ensures in
    let live : (n : List ℕ) × (live_name name_of xs i ≡ Some n) = some_of _ c.requires.id in
    let was : c.index_mut-made.result.now ≡ get_or xs i x = c.index_mut-made.ensures.value ∙ get_or_default xs i _ x (live_name_within name_of xs i live.0 live.1) in
    record {
      held = refl;
      inputs = refl;
      said = refl;
      outputs = alters xs i x live.0 (patched c.args.at c.args.piece.now) live.1 (now.name ∙ ap name_of was)
          (now.bytes ∙ ap (λ o. patched c.args.at c.args.piece.now (bytes_of o)) was);
    }
