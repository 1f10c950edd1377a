use Rattle.y4m_header.proofs.FrontValues.{side_goes, side_stops}
use Rattle.y4m_header.proofs.front.side_goes_on.Goals as goal

pub returns-in-Some : goal.returns-in-Some
returns-in-Some c = side_goes c.args.value.now c.in-Some.side c.in-Some.ensures

pub returns-in-None : goal.returns-in-None
returns-in-None c = side_stops c.args.value.now c.in-None.ensures
