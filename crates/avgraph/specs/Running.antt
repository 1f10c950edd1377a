-- The run from an input to an output.
use Rattle.std.specs.Prelude.{◌≡◌, ◌≤◌, ◌+◌, ◌-◌, ℕ, List, [], ◌++◌, take, length, Result, Ok, Err}
use Rattle.std.specs.Option.{ForSome}
use Rattle.av_base.specs.declared.shapes.Shape.{Shape}
use Rattle.av_host.specs.World.{World}
use Rattle.av_host.specs.Calls.{Takes, Alters, appended}
use Rattle.av_frame.specs.declared.faults.NextError.{NextError}
use Rattle.av_frame.specs.declared.faults.WriteError.{WriteError}
use Rattle.av_frame.specs.declared.faults.WriteError.TheVariants as write
use Rattle.av_frame.specs.Frames.{FrameValue}
use Rattle.y4m_io.specs.FrameTexts.{frames_text, AreFramesThen}
use Rattle.y4m_io.specs.Files.{IsDamage}
use Rattle.node_core.specs.Shaping.{ReadyValue}
use Rattle.avgraph.specs.Chains.{through}
use Rattle.y4m_io.specs.Reading.{Reading, IsPlaced}
use Rattle.y4m_io.specs.Writing.{Writing}
use Rattle.av_faults.specs.declared.fault.Fault.TheVariants.{WriteFault}
use Rattle.avgraph.specs.declared.report.Counts.{Counts}
use Rattle.avgraph.specs.Stops.{IsHostStop, next_stop}
use Rattle.av_faults.specs.declared.fault.Stop.{Stop}
use Rattle.av_faults.specs.declared.fault.Stop.TheVariants as stop

-- `got` was read from the input, `put` was added to the output, and nothing else changed but, it may be, the counts.
pub record Moves (old new : World) (input output : ℕ) (got put : List ℕ) : Type 0 where
  pub held : new.held ≡ old.held
  pub inputs : Takes old.inputs new.inputs input got
  pub outputs : Alters old.outputs new.outputs output (appended put)
  pub said : new.said ≡ old.said

-- the text of the frames at the end of the filters
abbrev pub passed_text : List ReadyValue → List FrameValue → List ℕ
passed_text readies frames = frames_text (through readies frames)

-- `got` are whole frames, within the room that the limit leaves
pub record AreWhole (shape : Shape) (room : ℕ) (got : List ℕ) (frames : List FrameValue) : Type 0 where
  pub are_frames : AreFramesThen shape 0 got frames []
  pub within : length got ≤ room

-- Whole frames were read, and after them it may be a part of another. All of them were written.
pub record MovesWhole (shape : Shape) (readies : List ReadyValue) (room : ℕ) (old new : World) (input output : ℕ) : Type 0 where
  pub frames : List FrameValue
  pub got : List ℕ
  pub rest : List ℕ
  pub are_whole : AreWhole shape room got frames
  pub moves : Moves old new input output (got ++ rest) (passed_text readies frames)

-- Of the frames that were read a beginning of the text was written.
pub record MovesPart (shape : Shape) (readies : List ReadyValue) (room : ℕ) (old new : World) (input output : ℕ) : Type 0 where
  pub frames : List FrameValue
  pub got : List ℕ
  pub rest : List ℕ
  pub count : ℕ
  pub are_whole : AreWhole shape room got frames
  pub moves : Moves old new input output (got ++ rest) (take count (passed_text readies frames))

-- these frames are the first of what is left of the input, and what follows them is damaged
pub record IsDamagedAfter (shape : Shape) (room : ℕ) (frames : List FrameValue) (e : NextError) (left : List ℕ) : Type 0 where
  pub rest : List ℕ
  pub are_frames : AreFramesThen shape 0 left frames rest
  pub is_damage : IsDamage shape (room - (length left - length rest)) (length frames) rest e

-- All that was left of the input was the text of frames within the limit, and they were written and counted.
pub record MovesAll (shape : Shape) (readies : List ReadyValue) (room bytes : ℕ) (old new : World) (input output : ℕ) (counts : Counts) : Type 0 where
  pub frames : List FrameValue
  pub got : List ℕ
  pub are_whole : AreWhole shape room got frames
  pub moves : Moves old new input output got (passed_text readies frames)
  pub all : ForSome (old.inputs.left input) (λ left. left ≡ got)
  pub frames_counted : counts.frames ≡ length frames
  pub bytes_counted : counts.bytes ≡ bytes + length (passed_text readies frames)

-- what stops a run: the damage after whole frames, all of which were written; or a failed call, or out of memory
pub data Halts (limit : ℕ) (shape : Shape) (readies : List ReadyValue) (old new : World) (reader : Reading) (writer : Writing) (stops : Stop) : Type 0 where
  Damaged : (e : NextError) (m : MovesWhole shape readies reader.room old new reader.id writer.id) → IsPlaced shape (reader.room - length m.got) (length m.frames) e
      → ForSome (old.inputs.left reader.id) (IsDamagedAfter shape reader.room m.frames e) → stops ≡ next_stop limit e → ¬ IsHostStop stops → Halts limit shape readies old new reader writer stops
  Broken : IsHostStop stops → MovesPart shape readies reader.room old new reader.id writer.id → Halts limit shape readies old new reader writer stops

abbrev pub Runs : ℕ → Shape → List ReadyValue → World → World → Reading → Writing → Result Counts Stop → Type 0
Runs limit shape readies old new reader writer (Ok counts) = MovesAll shape readies reader.room writer.bytes old new reader.id writer.id counts
Runs limit shape readies old new reader writer (Err stops) = Halts limit shape readies old new reader writer stops

-- what stops the command if a text can't be written
abbrev pub stop_of_write : WriteError → Stop
stop_of_write write.Host = stop.Fault WriteFault
stop_of_write write.NoMemory = stop.NoMemory
