-- Streams of frames, one for each input or output, and what it is that one begins another.
use Rattle.std.specs.Prelude.{◌≡◌, ℕ, ◌<◌, ◌<ℤ◌, ◌==◌, if◌then◌else◌, Bool, true, false, List, [], ◌∷◌, ◌++◌}
use Rattle.av_base.specs.declared.shapes.Shape.{Shape}
use Rattle.av_frame.specs.Frames.{FrameValue}

-- the frames so far, and whether these are all
pub record Stream : Type 0 where
  pub frames : List FrameValue
  pub ended : Bool

abbrev pub open_stream : List FrameValue → Stream
open_stream xs = record { frames = xs; ended = false }

abbrev pub ended_stream : List FrameValue → Stream
ended_stream xs = record { frames = xs; ended = true }

-- ys is xs with more after it
pub record IsPrefix (xs ys : List FrameValue) : Type 0 where
  pub rest : List FrameValue
  pub whole : ys ≡ xs ++ rest

-- where s is open, its frames are a prefix of those of t; where s is ended, t equals s
pub record Begins (s t : Stream) : Type 0 where
  pub front : IsPrefix s.frames t.frames
  pub same : s.ended ≡ true → t ≡ s

-- ---- a stream for each pad, by its number

abbrev pub Streams : Type 0
Streams = ℕ → Stream

-- the streams, with s at pad i
abbrev pub at_pad : Streams → ℕ → Stream → Streams
at_pad all i s = λ j. (if j == i then s else all j)

-- on each of the first n pads the stream of s begins that of t
abbrev pub AllBegin : ℕ → Streams → Streams → Type 0
AllBegin n s t = (i : ℕ) → i < n → Begins (s i) (t i)

-- ---- what comes and what ends

-- the frames xs, and after them the stream s
abbrev pub after : List FrameValue → Stream → Stream
after xs s = record { frames = xs ++ s.frames; ended = s.ended }

-- the same streams, where x comes first on input i
abbrev pub coming : ℕ → FrameValue → Streams → Streams
coming i x ins = at_pad ins i (after (x ∷ []) (ins i))

-- the same streams, where nothing comes on input i any more
abbrev pub ending : ℕ → Streams → Streams
ending i ins = at_pad ins i (ended_stream [])

-- nothing comes for now, on any input
abbrev pub nothing_more : Streams
nothing_more = λ _. open_stream []

-- ---- times and shapes

-- the times rise strictly, from after x on
abbrev pub RisesFrom : FrameValue → List FrameValue → Type 0
RisesFrom x [] = Unit {0}
RisesFrom x (y ∷ ys) = (x.pts <ℤ y.pts) × RisesFrom y ys

-- the times rise strictly
abbrev pub Rises : List FrameValue → Type 0
Rises [] = Unit {0}
Rises (x ∷ xs) = RisesFrom x xs

abbrev pub AllRise : ℕ → Streams → Type 0
AllRise n ins = (i : ℕ) → i < n → Rises (ins i).frames

-- y has the shape of x and a later time
pub record FollowsOn (x y : FrameValue) : Type 0 where
  pub shape : y.shape ≡ x.shape
  pub later : x.pts <ℤ y.pts

-- each frame has this shape
abbrev pub AllShaped : Shape → List FrameValue → Type 0
AllShaped shape [] = Unit {0}
AllShaped shape (x ∷ xs) = (x.shape ≡ shape) × AllShaped shape xs

-- what a link may carry: frames of its shape, at rising times
pub record Lawful (shape : Shape) (xs : List FrameValue) : Type 0 where
  pub shaped : AllShaped shape xs
  pub rises : Rises xs

-- each of the first n streams is lawful, by the shape of its pad
abbrev pub AllLawful : ℕ → (ℕ → Shape) → Streams → Type 0
AllLawful n shapes ins = (i : ℕ) → i < n → Lawful (shapes i) (ins i).frames
