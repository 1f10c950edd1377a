-- What the parts of a reader's and a writer's calls do.
use Rattle.std.specs.Prelude.{◌≡◌, ◌⊎◌, ◌+◌, ◌*◌, ◌<◌, ◌≤◌, ℕ, List, [], ◌∷◌, ◌++◌, take, length, Some, Contains, slice_set}
use Rattle.std.specs.List.{concat}
use Rattle.std.specs.Option.{ForSome}
use Rattle.av_base.specs.Shapes.{bytes_of, columns_of, rows_of}
use Rattle.av_host.specs.World.{World}
use Rattle.av_host.specs.Calls.{Reads}
use Rattle.av_frame.specs.Frames.{EditValue, plane_at}
use Rattle.av_host.specs.HostRuns.{ReadsSome}
use Rattle.y4m_header.specs.HeaderLaws.{longest_line}
use Rattle.y4m_io.specs.Sizes.{longest_mark}
use Rattle.y4m_io.specs.FrameTexts.{mark_word, picture_text, IsMark, IsBadFrame, IsTruncated, IsPastLimit}
use Rattle.y4m_io.specs.Heads.{IsUnended, IsCut}
use Rattle.y4m_io.specs.declared.reader.Line.{Line}
use Rattle.y4m_io.specs.declared.reader.Line.TheVariants.{Whole, Unended, Cut}
use Rattle.y4m_io.specs.declared.reader.Mark.{Mark}
use Rattle.y4m_io.specs.declared.reader.Mark.TheVariants as mark
use Rattle.y4m_io.specs.declared.reader.Found.{Found}
use Rattle.y4m_io.specs.declared.reader.Found.TheVariants as found
use Rattle.y4m_io.specs.declared.reader.Ending.{Ending}
use Rattle.y4m_io.specs.declared.reader.Ending.TheVariants as ending

-- what the reading of a line found, and left at the front of a buffer
abbrev pub GivesLine : World → World → ℕ → ℕ → List ℕ → Line → Type 0
GivesLine old new id room buffer (Whole n) =
    Reads old new id (take n buffer ++ 10 ∷ []) × (¬ Contains (take n buffer) 10) × (n ≤ length buffer) × (n < longest_line) × (n < room)
GivesLine old new id room buffer (Unended n) =
    ReadsSome old new id × (n ≤ length buffer) × ForSome (old.inputs.left id) (λ left. IsUnended room left × ((longest_line ≤ length (take n buffer)) ⊎ (left ≡ take n buffer)) × (rest : List ℕ) × (left ≡ take n buffer ++ rest))
GivesLine old new id room buffer (Cut n) =
    ReadsSome old new id × (n ≤ length buffer) × (room < longest_line) × ForSome (old.inputs.left id) (λ left. IsCut room left × (take room left ≡ take n buffer))

-- Only the plane changed, and all its rows were read.
pub record ReadsWholePlane (old new : World) (id plane : ℕ) (before after : EditValue) : Type 0 where
  pub reads : Reads old new id (concat (plane_at after.planes plane).rows)
  pub edit : after ≡ record before { planes = slice_set before.planes plane (plane_at after.planes plane) }

-- Fewer bytes than were wanted were read, and the input has ended.
pub record ReadsShort (old new : World) (id wanted : ℕ) : Type 0 where
  pub got : List ℕ
  pub reads : Reads old new id got
  pub short : length got < wanted
  pub ended : ForSome (old.inputs.left id) (λ _. new.inputs.left id ≡ Some [])

abbrev pub ReadsPlane : World → World → ℕ → ℕ → EditValue → EditValue → Ending → Type 0
ReadsPlane old new id plane before after ending.Whole = ReadsWholePlane old new id plane before after
ReadsPlane old new id plane before after ending.Short = ReadsShort old new id (columns_of before.shape plane * rows_of before.shape plane)

-- All planes were read, and the shape stayed.
pub record ReadsWholePicture (old new : World) (id : ℕ) (before after : EditValue) : Type 0 where
  pub reads : Reads old new id (picture_text after.planes)
  pub shape : after.shape ≡ before.shape

abbrev pub ReadsPicture : World → World → ℕ → EditValue → EditValue → Ending → Type 0
ReadsPicture old new id before after ending.Whole = ReadsWholePicture old new id before after
ReadsPicture old new id before after ending.Short = ReadsShort old new id (bytes_of before.shape)

-- the text begins with the line of a frame
pub record BeginsMark (text : List ℕ) : Type 0 where
  pub mark : List ℕ
  pub rest : List ℕ
  pub is_mark : IsMark mark
  pub text_is : text ≡ mark ++ rest

-- more text can follow so that it begins with the line of a frame
abbrev pub CanBeginMark : List ℕ → Type 0
CanBeginMark text = (more : List ℕ) × BeginsMark (text ++ more)

-- the beginning of a frame's line, and not all of it
pub record IsMarkPart (front : List ℕ) : Type 0 where
  pub more : List ℕ
  pub some : 0 < length more
  pub is_mark : IsMark (front ++ more)

-- the first bytes of a frame's line that has parameters
abbrev pub spaced_mark : List ℕ
spaced_mark = mark_word ++ 32 ∷ []

-- the text is a beginning of another
abbrev pub Begins : List ℕ → List ℕ → Type 0
Begins front whole = (more : List ℕ) × (whole ≡ front ++ more)

-- the bytes before the line feed of a frame's line: fewer than six, or with parameters
pub record IsMarkFront (front : List ℕ) : Type 0 where
  pub no_feed : ¬ Contains front 10
  pub cases : (IsMarkPart front × (length front < 6)) ⊎ ((text : List ℕ) × (front ≡ mark_word ++ 32 ∷ text))

-- the input has ended
abbrev pub HasEnded : World → World → ℕ → Type 0
HasEnded old new id = ForSome (old.inputs.left id) (λ _. new.inputs.left id ≡ Some [])

-- A line was read that no frame begins with, whatever follows.
pub record ReadsNoMark (old new : World) (id room : ℕ) : Type 0 where
  pub front : List ℕ
  pub reads : Reads old new id front
  pub within : length front ≤ room
  pub no_mark : ¬ CanBeginMark front

-- The input ended within a frame's line.
pub record ReadsMarkPart (old new : World) (id room : ℕ) : Type 0 where
  pub front : List ℕ
  pub reads : Reads old new id front
  pub some : 0 < length front
  pub within : length front ≤ room
  pub is_part : IsMarkPart front
  pub ended : HasEnded old new id

-- The limit comes within a frame's line, and more bytes follow.
pub record ReadsMarkPast (old new : World) (id room : ℕ) : Type 0 where
  pub front : List ℕ
  pub piece : List ℕ
  pub reads : Reads old new id (front ++ piece)
  pub some : 0 < length piece
  pub all : length front ≡ room
  pub is_part : IsMarkPart front

-- what the reading of a frame's line found
abbrev pub GivesMark : World → World → ℕ → ℕ → Mark → Type 0
GivesMark old new id room (mark.Whole n) = (line : List ℕ) × Reads old new id line × IsMark line × (length line ≡ n) × (n ≤ room)
GivesMark old new id room mark.Bad = ReadsNoMark old new id room
GivesMark old new id room mark.End = Reads old new id [] × ForSome (old.inputs.left id) (λ left. left ≡ [])
GivesMark old new id room mark.Short = ReadsMarkPart old new id room
GivesMark old new id room mark.Past = ReadsMarkPast old new id room

-- the input ended within `room` bytes, or goes on after these
abbrev pub EndsWithin : World → World → ℕ → ℕ → Found → Type 0
EndsWithin old new id room found.Short = (got : List ℕ) × Reads old new id got × (length got ≤ room) × HasEnded old new id
EndsWithin old new id room found.Past = (got : List ℕ) × (piece : List ℕ) × Reads old new id (got ++ piece) × (length got ≡ room) × (0 < length piece)
EndsWithin old new id room other = ⊥

-- A frame was read, whose line has n bytes.
pub record ReadsFrame (old new : World) (id room : ℕ) (before after : EditValue) (n : ℕ) : Type 0 where
  pub line : List ℕ
  pub is_mark : IsMark line
  pub long : length line ≡ n
  pub reads : Reads old new id (line ++ picture_text after.planes)
  pub shape : after.shape ≡ before.shape
  pub within : n + bytes_of before.shape ≤ room

-- what was found at the place of a frame, of an input of which `room` bytes are within the limit
abbrev pub Finds : World → World → ℕ → ℕ → EditValue → EditValue → Found → Type 0
Finds old new id room before after (found.Frame n) = ReadsFrame old new id room before after n
Finds old new id room before after found.End = Reads old new id [] × ForSome (old.inputs.left id) (λ left. left ≡ [])
Finds old new id room before after found.Bad = (0 < room) × ReadsSome old new id × ForSome (old.inputs.left id) (IsBadFrame before.shape room)
Finds old new id room before after found.Short = (0 < room) × ReadsSome old new id × ForSome (old.inputs.left id) (IsTruncated before.shape room)
Finds old new id room before after found.Past = (room < longest_mark + bytes_of before.shape) × ReadsSome old new id × ForSome (old.inputs.left id) (IsPastLimit before.shape room)
