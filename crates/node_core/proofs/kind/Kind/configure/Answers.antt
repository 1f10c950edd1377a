use Rattle.std.proofs.Common.{rules}
use Rattle.node_core.proofs.kind.Kind.configure.Goals as goal

pub new-requires : goal.new-requires
new-requires c =
    let only = c.requires in
    let ok = c.in_ok-settings.ensures.ok only.0 only.1.input in
    record {
      shape = only.0;
      settled = record { options = c.args.self.now.options; picture = only.1.picture; takes = only.2; settles = ok.0 };
      ins = search rules;
      outs = ok.1;
    }
