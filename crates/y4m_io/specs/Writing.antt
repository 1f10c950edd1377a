-- A writer of a file, and what its calls do.
use Rattle.std.specs.Prelude.{◌≡◌, ◌+◌, ◌-◌, ◌^◌, ℕ, min, List, length, Result, Ok, Err}
use Rattle.av_base.specs.declared.shapes.Shape.{Shape}
use Rattle.av_host.specs.World.{World, Faults}
use Rattle.av_host.specs.Calls.{Changes, appended, RaisesWrites}
use Rattle.av_frame.specs.declared.faults.WriteError.{WriteError}
use Rattle.av_frame.specs.declared.faults.WriteError.TheVariants.{Host, NoMemory}
use Rattle.av_host.specs.declared.host.HostError.{HostError}
use Rattle.av_host.specs.declared.host.HostError.TheVariants.{Failed}
use Rattle.av_host.specs.declared.host.HostError.TheVariants as host
use Rattle.av_host.specs.HostRuns.{WritesPart}
use Rattle.y4m_io.specs.declared.y4m_state.Progress.{Progress}
use Rattle.y4m_io.specs.declared.y4m_state.Progress.TheVariants.{Spent}

-- a writer: its output, the shape of its pictures, how far it is, and how many bytes it wrote
pub record Writing : Type 0 where
  pub id : ℕ
  pub shape : Shape
  pub progress : Progress
  pub bytes : ℕ

-- a count of bytes with more added to it, up to the greatest number of 64 bits
abbrev pub counted : ℕ → ℕ → ℕ
counted bytes more = min (bytes + more) (2 ^ 64 - 1)

-- The text was added to the output, and its bytes were counted. After a failure a beginning of the text was added, and the writer is spent.
abbrev pub Writes : World → World → Writing → Writing → List ℕ → Progress → Result (Unit {0}) WriteError → Type 0
Writes old new writer after text progress (Ok done) = Changes old new writer.id (appended text) × (after ≡ record writer { progress = progress; bytes = counted writer.bytes (length text) })
Writes old new writer after text progress (Err e) = WritesPart old new writer.id text × (after ≡ record writer { progress = Spent })

-- the count of writes rises exactly with `Host`
abbrev pub CountsWrite : Result (Unit {0}) WriteError → Faults → Faults → Type 0
CountsWrite (Err Host) old new = RaisesWrites old new
CountsWrite other old new = new ≡ old

-- what a writer returns if the host failed
abbrev pub write_error_of : HostError → WriteError
write_error_of Failed = Host
write_error_of host.NoMemory = NoMemory
