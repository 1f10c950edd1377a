-- Whole streams, offered to a filter frame by frame.
use Rattle.std.specs.Prelude.{ℕ, ◌<◌, List, [], ◌∷◌, length}
use Rattle.av_frame.specs.Frames.{FrameValue}
use Rattle.av_frame.specs.Streams.{Streams, ended_stream, FollowsOn}
use Rattle.av_frame.specs.Rules.{queue}

-- each frame has the shape of the one before it and a later time, from after x on
abbrev pub FollowFrom : FrameValue → List FrameValue → Type 0
FollowFrom x [] = Unit {0}
FollowFrom x (y ∷ ys) = FollowsOn x y × FollowFrom y ys

-- the first frame is accepted, and each later one has its shape and a later time
abbrev pub IsReady : (FrameValue → Type 0) → List FrameValue → Type 0
IsReady accepts [] = Unit {0}
IsReady accepts (x ∷ xs) = accepts x × FollowFrom x xs

-- on each input its list may be offered
abbrev pub AreReady : (ℕ → FrameValue → Type 0) → List (List FrameValue) → Type 0
AreReady accepts lists = (i : ℕ) → i < length lists → IsReady (accepts i) (queue lists i)

-- the streams of these lists, all ended
abbrev pub all_ended : List (List FrameValue) → Streams
all_ended lists = λ i. ended_stream (queue lists i)

-- no frame on any input, and none to come
abbrev pub no_frames : Streams
no_frames = λ _. ended_stream []
