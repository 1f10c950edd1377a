-- A header line has exactly one meaning, always, and a written one that of the shape for which it was written.
use Rattle.std.specs.Prelude.{◌≡◌, ◌≤◌, ℕ, List, [], ◌∷◌, ◌++◌, length, Result, Ok, Contains}
use Rattle.av_base.specs.declared.shapes.Shape.{Shape}
use Rattle.av_base.specs.Shapes.{IsPictured}
use Rattle.y4m_header.specs.Said.{HeaderMeans}
use Rattle.y4m_header.specs.HeaderTexts.{IsWritable, header_text, read_shape}
use Rattle.y4m_header.specs.declared.fault.HeaderFault.{HeaderFault}

-- how many bytes a header line has at most, with its line feed
abbrev pub longest_line : ℕ
longest_line = 1024

-- a written header line, without its line feed
pub record IsWrittenLine (s : Shape) (line : List ℕ) : Type 0 where
  pub text_is : header_text s ≡ line ++ 10 ∷ []
  pub no_feed : ¬ Contains line 10
  pub short : length (header_text s) ≤ longest_line
  pub means : HeaderMeans line (Ok (read_shape s))

pub record HeadersHaveOneMeaning : Type 0 where
  pub some : (text : List ℕ) → (r : Result Shape HeaderFault) × HeaderMeans text r
  pub one : (text : List ℕ) (r t : Result Shape HeaderFault) → HeaderMeans text r → HeaderMeans text t → t ≡ r
  pub pictured : (text : List ℕ) (s : Shape) → HeaderMeans text (Ok s) → IsPictured s
  pub written : (s : Shape) → IsWritable s → (line : List ℕ) × IsWrittenLine s line
