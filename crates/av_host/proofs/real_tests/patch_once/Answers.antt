use Rattle.std.proofs.Common.{ap, ◌∙◌}
use Rattle.av_host.specs.World.{Outputs}
use Rattle.av_host.proofs.real_tests.patch_once.Goals as goal

pub returns-in-Ok : goal.returns-in-Ok
returns-in-Ok g c = ap (λ names. names c.args.id) c.in-Ok.ensures.patched.outputs.name ∙ c.requires

pub returns-in-Err : goal.returns-in-Err
returns-in-Err g c = ap (λ (outputs : Outputs). outputs.name c.args.id) c.in-Err.ensures.refused.outputs ∙ c.requires
