use Rattle.std.proofs.Common.{◌≡◌, string_bytes, refl, ap, ◌∙◌}
use Rattle.std.proofs.lemmas.Option.{get_or_from_slice_get}
use Rattle.av_host.proofs.real_files.write_output.Goals as goal

pub returns-clause-written : goal.returns-clause-written
returns-clause-written g c = (
  _,
  refl,
  λ x e.
      let was : c.index_mut.result.now ≡ x = c.index_mut.ensures.value ∙ get_or_from_slice_get c.args.outputs.now.items c.args.id x c.index_mut.result.now e in
      (ap (λ o. string_bytes o.name) was, rw (← was) c.write.ensures.bytes),
)
