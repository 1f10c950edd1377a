use Rattle.std.proofs.Common.{string_bytes, refl}
use Rattle.std.proofs.lemmas.Result.{err_from_is_err_and}
use Rattle.av_host.proofs.SilentLemmas.{within_of, silent_altered, silent_kept}
use Rattle.av_host.proofs.real.RealHostHost.write.Goals as goal

pub write_output-taken-requires : goal.write_output-taken-requires
write_output-taken-requires g c = within_of (λ o. string_bytes o.name) c.args.self.now.outputs.items c.args.id c.requires

pub returns-clause-written : goal.returns-clause-written
returns-clause-written g c =
    record { held = refl; inputs = refl; said = refl; outputs = silent_altered (λ o. string_bytes o.name) _ _ c.args.id _ _ c.requires c.write_output-taken.ensures.written (λ x y h. h.0) }

pub returns-in_err-moved-clause-refused : goal.returns-in_err-moved-clause-refused
returns-in_err-moved-clause-refused g c =
    let p = err_from_is_err_and c.from_residual.result c.from_residual.ensures.1 in
    rw p.1 record { held = refl; inputs = refl; said = refl; outputs = silent_kept (λ o. string_bytes o.name) _ _ c.args.id _ c.requires c.write_output-taken.ensures.written (λ x y h. h.0) }
