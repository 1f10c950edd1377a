use Rattle.av_frame.proofs.WindowLemmas.{upside_down_samples}
use Rattle.av_frame.proofs.plane.Plane.upside_down.Goals as goal

pub returns : goal.returns
returns c =
    let i = c.self.inside in
    upside_down_samples i.geometry c.upside_down_of-self-inside.result i.page c.args.self.now c.self.view_is c.upside_down_of-self-inside.ensures c.self.invariant
