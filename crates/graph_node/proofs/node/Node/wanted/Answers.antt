use Rattle.std.proofs.Common.{◌∙◌, ap}
use Rattle.std.proofs.lemmas.Option.{get_or_from_slice_get}
use Rattle.graph_node.specs.declared.outlet.Outlet.{Outlet}
use Rattle.graph_node.proofs.node.Node.wanted.Goals as goal

pub returns : goal.returns
returns g c q h = c.wants.ensures ∙ ap (λ (x : Outlet). x.port.wanted) (c.index.ensures ∙ get_or_from_slice_get c.args.self.now.outs.items c.args.output q c.index.result.now h)
