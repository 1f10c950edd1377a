-- Filters that are configured.
use Rattle.std.proofs.Common.{◌≡◌, List, [], ◌∷◌}
use Rattle.av_base.specs.declared.shapes.Shape.{Shape}

pub same_head : {ss : List Shape} {s t : Shape} → ss ≡ s ∷ [] → ss ≡ t ∷ [] → s ≡ t
same_head e f = cc
