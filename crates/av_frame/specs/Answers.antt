-- What `give` returned.
use Rattle.std.specs.Prelude.{Result, Ok, Err, List, [], ◌∷◌}
use Rattle.av_base.specs.declared.NoMemory.{NoMemory}
use Rattle.av_frame.specs.Frames.{FrameValue}
use Rattle.av_frame.specs.declared.filter.Given.{Given}
use Rattle.av_frame.specs.declared.filter.Given.TheVariants.{Frame, Nothing, End}

-- the frame that was given, if one was
abbrev pub frames_of : Result Given NoMemory → List FrameValue
frames_of (Ok (Frame x)) = x ∷ []
frames_of (Ok Nothing) = []
frames_of (Ok End) = []
frames_of (Err e) = []

-- where a frame was given, P holds of it
abbrev pub IfGave : Result Given NoMemory → (FrameValue → Type 0) → Type 0
IfGave (Ok (Frame x)) P = P x
IfGave (Ok Nothing) P = Unit {0}
IfGave (Ok End) P = Unit {0}
IfGave (Err e) P = Unit {0}

-- if the result is Nothing, P holds
abbrev pub OnNothing : Result Given NoMemory → Type 0 → Type 0
OnNothing (Ok (Frame x)) P = Unit {0}
OnNothing (Ok Nothing) P = P
OnNothing (Ok End) P = Unit {0}
OnNothing (Err e) P = Unit {0}

-- if the result is End, P holds
abbrev pub OnEnd : Result Given NoMemory → Type 0 → Type 0
OnEnd (Ok (Frame x)) P = Unit {0}
OnEnd (Ok Nothing) P = Unit {0}
OnEnd (Ok End) P = P
OnEnd (Err e) P = Unit {0}
