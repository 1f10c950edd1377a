use Rattle.std.proofs.Common.{◌≡◌, List, [], ◌∷◌, map, ap, sym, refl, ◌∙◌}
use Rattle.av_frame.specs.Frames.{FrameValue}
use Rattle.link_ports.specs.Ends.{Sender, Receiver}
use Rattle.graph_node.specs.declared.inlet.Inlet.{Inlet}
use Rattle.graph_node.specs.declared.outlet.Outlet.{Outlet}
use Rattle.graph_node_tests.proofs.look_tests.new_single.Goals as goal

twice : {X Y Z : Type 0} (f : X → Y) (g : Y → Z) (xs : List X) → map g (map f xs) ≡ map (λ x. g (f x)) xs
twice f g [] = refl
twice f g (x ∷ xs) = ap (λ l. g (f x) ∷ l) (twice f g xs)

pub returns-clause-input : goal.returns-clause-input
returns-clause-input c =
    let ports = c.in_ok-node.ensures.new.ins_are.ports_are ∙ c.in_ok-one.ensures in
    sym (twice (λ (x : Inlet). x.port) (λ (r : Receiver FrameValue). r.link) c.in_ok-node.node.ins.items)
    ∙ ap (map (λ (r : Receiver FrameValue). r.link)) ports ∙ ap (λ l. l ∷ []) (sym c.in_ok-source.ensures.one_link)

pub returns-clause-output : goal.returns-clause-output
returns-clause-output c =
    let ports = c.in_ok-node.ensures.new.outs_are.ports_are ∙ c.in_ok-one-2.ensures in
    sym (twice (λ (x : Outlet). x.port) (λ (s : Sender FrameValue). s.link) c.in_ok-node.node.outs.items)
    ∙ ap (map (λ (s : Sender FrameValue). s.link)) ports ∙ ap (λ l. l ∷ []) c.in_ok-output.ensures.one_link
