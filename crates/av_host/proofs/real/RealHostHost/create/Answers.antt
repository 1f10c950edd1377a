use Rattle.std.proofs.Common.{◌≡◌, length, string_bytes, refl, ◌∙◌}
use Rattle.av_host.proofs.SilentLemmas.{silent_adds}
use Rattle.av_host.proofs.real.RealHostHost.create.Goals as goal

pub returns-clause-created : goal.returns-clause-created
returns-clause-created g c =
    let xs = c.args.self.now.outputs.items in
    let size : c.len-id.result ≡ length xs = c.len-id.ensures ∙ c.args.self.now.outputs.ok.0 in
    rw size record {
      held = refl;
      inputs = refl;
      said = refl;
      outputs = silent_adds (λ o. string_bytes o.name) xs c.reserve.new.self.items c.push.new.self.items _ c.args.name.now c.reserve.ensures.items c.in-Ok.ensures.items c.in_ok-text.ensures.ok;
    }
