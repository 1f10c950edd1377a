-- The header of a file, of which only the bytes within a limit count.
use Rattle.std.specs.Prelude.{◌≡◌, ◌≢◌, ◌⊎◌, ◌<◌, ◌≤◌, ◌++◌, ℕ, min, List, ◌∷◌, take, length, Result, Ok, Err, Contains}
use Rattle.av_base.specs.declared.shapes.Shape.{Shape}
use Rattle.av_frame.specs.declared.faults.HeadError.{HeadError}
use Rattle.av_frame.specs.declared.faults.HeadError.TheVariants as head
use Rattle.y4m_header.specs.Said.{magic, HeaderMeans, StandsAlways}
use Rattle.y4m_header.specs.HeaderLaws.{longest_line}
use Rattle.y4m_header.specs.declared.fault.HeaderFault.{HeaderFault}
use Rattle.y4m_header.specs.declared.fault.HeaderFault.TheVariants.{NotMedia, BadHeader, BadColour}

-- the bytes begin with a whole line, which is within the limit and isn't longer than a header line may be
pub record HasLine (limit : ℕ) (bytes : List ℕ) (line : List ℕ) : Type 0 where
  pub rest : List ℕ
  pub bytes_are : bytes ≡ line ++ 10 ∷ rest
  pub no_feed : ¬ Contains line 10
  pub short : length line < longest_line
  pub within : length line < limit

-- the bytes begin with the header of pictures of a shape
pub record HasHead (limit : ℕ) (bytes : List ℕ) (shape : Shape) : Type 0 where
  pub line : List ℕ
  pub has_line : HasLine limit bytes line
  pub means : HeaderMeans line (Ok shape)

-- no line ends within the limit, nor within the bytes that a header line may have
abbrev pub HasNoLine : ℕ → List ℕ → Type 0
HasNoLine limit bytes = ¬ Contains (take (min limit longest_line) bytes) 10

-- the limit is less than a header line may have, and the bytes go on past it
pub record IsCut (limit : ℕ) (bytes : List ℕ) : Type 0 where
  pub no_line : HasNoLine limit bytes
  pub low : limit < longest_line
  pub past : limit < length bytes

-- the bytes end, or a header line must have ended by then
pub record IsUnended (limit : ℕ) (bytes : List ℕ) : Type 0 where
  pub no_line : HasNoLine limit bytes
  pub ends : (length bytes ≤ limit) ⊎ (longest_line ≤ limit)

abbrev pub head_error : HeaderFault → HeadError
head_error NotMedia = head.NotMedia
head_error BadHeader = head.BadHeader
head_error BadColour = head.BadColour

-- why a header is refused: the fault of its line; or there is no line, and it begins as a header does or not; or the
-- limit comes within it, and it has a fault whatever follows; or else it is too long for the limit
pub data IsHeadFault (limit : ℕ) (bytes : List ℕ) : HeadError → Type 0 where
  Line : (line : List ℕ) (e : HeaderFault) → HasLine limit bytes line → HeaderMeans line (Err e) → IsHeadFault limit bytes (head_error e)
  Other : IsUnended limit bytes → ((rest : List ℕ) → bytes ≢ magic ++ rest) → IsHeadFault limit bytes head.NotMedia
  Endless : IsUnended limit bytes → (rest : List ℕ) → bytes ≡ magic ++ rest → IsHeadFault limit bytes head.BadHeader
  Always : (e : HeaderFault) → IsCut limit bytes → StandsAlways (take limit bytes) e → IsHeadFault limit bytes (head_error e)
  Past : IsCut limit bytes → ((e : HeaderFault) → ¬ StandsAlways (take limit bytes) e) → IsHeadFault limit bytes head.TooLong

-- what a file's header comes to
abbrev pub HeadMeans : ℕ → List ℕ → Result Shape HeadError → Type 0
HeadMeans limit bytes (Ok shape) = HasHead limit bytes shape
HeadMeans limit bytes (Err e) = IsHeadFault limit bytes e
