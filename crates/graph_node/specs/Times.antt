-- The times of frames in a row. This project's own.
use Rattle.std.specs.Prelude.{ℤ, ◌<ℤ◌, List, [], ◌∷◌, Option, Some, None}
use Rattle.av_frame.specs.Frames.{FrameValue}

-- the pts of the last frame of x and those after it
abbrev pub last_from : FrameValue → List FrameValue → ℤ
last_from x [] = x.pts
last_from x (y ∷ ys) = last_from y ys

abbrev pub last_pts : List FrameValue → Option ℤ
last_pts [] = None
last_pts (x ∷ xs) = Some (last_from x xs)

-- t is later than the last time, if there is one
abbrev pub IsPast : Option ℤ → ℤ → Type 0
IsPast None t = Unit {0}
IsPast (Some l) t = l <ℤ t
