-- A reader of a file, and what its calls give.
use Rattle.std.specs.Prelude.{◌≡◌, ◌+◌, ◌-◌, ◌<◌, ◌≤◌, ◌++◌, ℕ, List, [], ◌∷◌, length, Option, Some, None, Result, Ok, Err, Contains}
use Rattle.std.specs.Option.{ForSome}
use Rattle.av_base.specs.declared.shapes.Shape.{Shape}
use Rattle.av_host.specs.World.{World, Faults}
use Rattle.av_host.specs.Calls.{Reads, RaisesReads}
use Rattle.av_frame.specs.declared.faults.HeadError.{HeadError}
use Rattle.av_frame.specs.declared.faults.HeadError.TheVariants as head
use Rattle.av_frame.specs.declared.faults.NextError.{NextError}
use Rattle.av_frame.specs.declared.faults.NextError.TheVariants as next
use Rattle.av_frame.specs.Frames.{FrameValue}
use Rattle.av_base.specs.Shapes.{IsPictured, bytes_of}
use Rattle.y4m_io.specs.Sizes.{longest_mark}
use Rattle.av_host.specs.HostRuns.{ReadsSome}
use Rattle.y4m_header.specs.Said.{HeaderMeans}
use Rattle.y4m_header.specs.HeaderLaws.{longest_line}
use Rattle.y4m_io.specs.Heads.{IsHeadFault}
use Rattle.y4m_io.specs.FrameTexts.{picture_text, IsMark, IsFrameAt, IsBadFrame, IsTruncated, IsPastLimit}
use Rattle.y4m_io.specs.declared.y4m_state.Stage.{Stage}
use Rattle.y4m_io.specs.declared.y4m_state.Stage.TheVariants.{Fresh, Headed, Spent}

-- A reader means what is left of its input. `room` is how many of these bytes are within the limit, and `frames` how
-- many frames it has given.
pub record Reading : Type 0 where
  pub id : ℕ
  pub room : ℕ
  pub frames : ℕ
  pub stage : Stage

-- a reader that has read its header knows a shape that it can read
abbrev pub IsSound : Stage → Type 0
IsSound Fresh = Unit {0}
IsSound (Headed shape) = IsPictured shape
IsSound Spent = Unit {0}

-- the reader has read its header, and no call has failed
abbrev pub IsHeaded : Stage → Type 0
IsHeaded (Headed shape) = Unit {0}
IsHeaded other = ⊥

-- ---- the header

-- The header line was read, within the limit.
pub record GivesHeader (old new : World) (reader after : Reading) (shape : Shape) : Type 0 where
  pub line : List ℕ
  pub reads : Reads old new reader.id (line ++ 10 ∷ [])
  pub no_feed : ¬ Contains line 10
  pub short : length line < longest_line
  pub within : length line < reader.room
  pub means : HeaderMeans line (Ok shape)
  pub after_is : after ≡ record reader { room = reader.room - (length line + 1); stage = Headed shape }

-- The reader is spent, and `Cause` holds for what was left, if the host knows that.
pub record Refuses (old new : World) (reader after : Reading) (Cause : List ℕ → Type 0) : Type 0 where
  pub reads : ReadsSome old new reader.id
  pub after_is : after ≡ record reader { stage = Spent }
  pub cause : ForSome (old.inputs.left reader.id) Cause

-- A header that is refused for a fault of the file has this fault. A header is too long only for a limit that is less than a
-- line may have, whether the host tells its inputs or not.
abbrev pub Heads : World → World → Reading → Reading → Result Shape HeadError → Type 0
Heads old new reader after (Ok shape) = GivesHeader old new reader after shape
Heads old new reader after (Err head.Host) = Refuses old new reader after (λ left. Unit {0})
Heads old new reader after (Err head.NoMemory) = (new ≡ old) × (after ≡ reader)
Heads old new reader after (Err head.NotMedia) = Refuses old new reader after (λ left. IsHeadFault reader.room left head.NotMedia)
Heads old new reader after (Err head.BadHeader) = Refuses old new reader after (λ left. IsHeadFault reader.room left head.BadHeader)
Heads old new reader after (Err head.BadColour) = Refuses old new reader after (λ left. IsHeadFault reader.room left head.BadColour)
Heads old new reader after (Err head.TooLong) = (reader.room < longest_line) × Refuses old new reader after (λ left. IsHeadFault reader.room left head.TooLong)

-- the count of reads rises exactly with `Host`
abbrev pub CountsHead : Result Shape HeadError → Faults → Faults → Type 0
CountsHead (Err head.Host) old new = RaisesReads old new
CountsHead other old new = new ≡ old

-- ---- frames

-- The next frame was read, within the limit.
pub record GivesFrame (shape : Shape) (old new : World) (reader after : Reading) (f : FrameValue) : Type 0 where
  pub mark : List ℕ
  pub is_mark : IsMark mark
  pub reads : Reads old new reader.id (mark ++ picture_text f.planes)
  pub frame : IsFrameAt shape reader.frames f
  pub within : length (mark ++ picture_text f.planes) ≤ reader.room
  pub after_is : after ≡ record reader { room = reader.room - length (mark ++ picture_text f.planes); frames = reader.frames + 1 }

-- Nothing is left.
pub record GivesEnd (old new : World) (reader after : Reading) : Type 0 where
  pub reads : Reads old new reader.id []
  pub after_is : after ≡ reader
  pub ended : ForSome (old.inputs.left reader.id) (λ left. left ≡ [])

-- What is known of a damage even if the host tells nothing of its inputs: after how many frames it is, and how much room
-- the limit leaves there.
abbrev pub IsPlaced : Shape → ℕ → ℕ → NextError → Type 0
IsPlaced shape room count (next.BadFrame k) = (k ≡ count) × (0 < room)
IsPlaced shape room count (next.Truncated k) = (k ≡ count) × (0 < room)
IsPlaced shape room count next.TooLong = room < longest_mark + bytes_of shape
IsPlaced shape room count next.Host = ⊥
IsPlaced shape room count next.NoMemory = ⊥

abbrev pub Gives : Shape → World → World → Reading → Reading → Result (Option FrameValue) NextError → Type 0
Gives shape old new reader after (Ok (Some f)) = GivesFrame shape old new reader after f
Gives shape old new reader after (Ok None) = GivesEnd old new reader after
Gives shape old new reader after (Err (next.BadFrame k)) = IsPlaced shape reader.room reader.frames (next.BadFrame k) × Refuses old new reader after (IsBadFrame shape reader.room)
Gives shape old new reader after (Err (next.Truncated k)) = IsPlaced shape reader.room reader.frames (next.Truncated k) × Refuses old new reader after (IsTruncated shape reader.room)
Gives shape old new reader after (Err next.TooLong) = IsPlaced shape reader.room reader.frames next.TooLong × Refuses old new reader after (IsPastLimit shape reader.room)
Gives shape old new reader after (Err next.Host) = Refuses old new reader after (λ left. Unit {0})
Gives shape old new reader after (Err next.NoMemory) = (new ≡ old) × (after ≡ reader)

-- the count of reads rises exactly with `Host`
abbrev pub CountsNext : {T : Type 0} → Result T NextError → Faults → Faults → Type 0
CountsNext (Err next.Host) old new = RaisesReads old new
CountsNext other old new = new ≡ old
