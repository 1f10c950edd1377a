-- What a request does to the files.
use Rattle.std.specs.Prelude.{◌≡◌, ◌≢◌, ◌⊎◌, ◌+◌, ◌-◌, ◌<◌, ◌++◌, ℕ, pos, List, [], ◌∷◌, true, false, take, drop, length, Option, Some, Result, Ok, Err, Contains}
use Rattle.std.specs.Option.{ForSome}
use Rattle.av_base.specs.declared.shapes.Shape.{Shape}
use Rattle.av_base.specs.declared.formats.Format.{Format}
use Rattle.av_host.specs.World.{World, Inputs}
use Rattle.av_host.specs.Calls.{Opens, Reads, Creates, Changes, appended}
use Rattle.av_host.specs.declared.host.HostError.{HostError}
use Rattle.av_host.specs.declared.host.HostError.TheVariants as host
use Rattle.av_frame.specs.declared.faults.HeadError.{HeadError}
use Rattle.av_frame.specs.declared.faults.NextError.{NextError}
use Rattle.av_frame.specs.Frames.{FrameValue}
use Rattle.y4m_header.specs.Said.{HeaderMeans}
use Rattle.y4m_header.specs.HeaderLaws.{longest_line}
use Rattle.y4m_header.specs.HeaderTexts.{IsWritable, header_text}
use Rattle.y4m_io.specs.Heads.{IsHeadFault}
use Rattle.y4m_io.specs.Files.{BeginsFile, HasDamage, open_text}
use Rattle.y4m_io.specs.Reading.{Reading}
use Rattle.y4m_io.specs.Writing.{Writing}
use Rattle.y4m_io.specs.declared.y4m_state.Stage.TheVariants as stage
use Rattle.y4m_io.specs.declared.y4m_state.Progress.TheVariants as progress
use Rattle.node_core.specs.Shaping.{ReadyValue}
use Rattle.av_faults.specs.Faults.{stop_status}
use Rattle.av_faults.specs.declared.fault.Fault.TheVariants.{OpenFault}
use Rattle.av_faults.specs.declared.fault.Stop.{Stop}
use Rattle.av_faults.specs.declared.fault.Stop.TheVariants as stop
use Rattle.avgraph.specs.Chains.{Step, Flow, ChainValue, AreReady, through}
use Rattle.avgraph.specs.Answers.{Answer, Readied, HasFormats, ShapeGives, FileGives}
use Rattle.avgraph.specs.Stops.{IsHostStop, head_stop}
use Rattle.avgraph.specs.Requests.{Request}
use Rattle.avgraph.specs.declared.report.Counts.{Counts}

-- some bytes that an input may hold: those that the host tells of it, or any if it tells none
abbrev pub MayHold : Option (List ℕ) → (List ℕ → Type 0) → Type 0
MayHold held P = (bytes : List ℕ) × ForSome held (λ all. all ≡ bytes) × P bytes

abbrev pub stop_of_opening : HostError → Stop
stop_of_opening host.Failed = stop.Fault OpenFault
stop_of_opening host.NoMemory = stop.NoMemory

-- The inputs that were open are open still, and as much is left of them.
pub record KeepsInputs (old new : Inputs) : Type 0 where
  pub is_open : (id : ℕ) → old.is_open id ≡ true → new.is_open id ≡ true
  pub left : (id : ℕ) → old.is_open id ≡ true → new.left id ≡ old.left id

-- The input may have been opened and read. No output was created.
pub record LeavesAll (old new : World) : Type 0 where
  pub held : new.held ≡ old.held
  pub inputs : KeepsInputs old.inputs new.inputs
  pub said : new.said ≡ old.said
  pub outputs : new.outputs ≡ old.outputs

-- The output holds these bytes, if its content is known, and what else the host holds by name is as before.
pub record Leaves (old new : World) (output : List ℕ) (bytes : List ℕ) : Type 0 where
  pub held : new.held ≡ old.held
  pub inputs : KeepsInputs old.inputs new.inputs
  pub said : new.said ≡ old.said
  pub content : ForSome (old.outputs.content output) (λ _. new.outputs.content output ≡ Some (Some bytes))
  pub other_outputs : (other : List ℕ) → other ≢ output → new.outputs.content other ≡ old.outputs.content other

-- ---- opening and creating

-- The input was opened, and its header read.
pub record OpensWell (limit : ℕ) (old new : World) (name : List ℕ) (reader : Reading) (shape : Shape) : Type 0 where
  pub opened : World
  pub line : List ℕ
  pub opens : Opens old opened name reader.id
  pub reads : Reads opened new reader.id (line ++ 10 ∷ [])
  pub no_feed : ¬ Contains line 10
  pub short : length line < longest_line
  pub within : length line < limit
  pub means : HeaderMeans line (Ok shape)
  pub reader_is : reader ≡ record { id = reader.id; room = limit - (length line + 1); frames = 0; stage = stage.Headed shape }

-- the header of some bytes stops the command with this
pub record IsHeadStop (limit : ℕ) (stops : Stop) (bytes : List ℕ) : Type 0 where
  pub error : HeadError
  pub is_fault : IsHeadFault limit bytes error
  pub stops_is : stops ≡ head_stop limit error

abbrev pub OpensFile : ℕ → World → World → List ℕ → Result (Reading × Shape) Stop → Type 0
OpensFile limit old new name (Ok both) = OpensWell limit old new name both.0 both.1
OpensFile limit old new name (Err stops) = LeavesAll old new × (IsHostStop stops ⊎ MayHold (old.held name) (IsHeadStop limit stops))

-- The output was created, and of its header this much was written.
pub record CreatesWith (old new : World) (name : List ℕ) (id : ℕ) (text : List ℕ) : Type 0 where
  pub created : World
  pub creates : Creates old created name id
  pub writes : Changes created new id (appended text)

-- Nothing was created, or a beginning of the header was written.
abbrev pub CreatesPart : World → World → List ℕ → Shape → Type 0
CreatesPart old new name shape = LeavesAll old new ⊎ ((id : ℕ) × (count : ℕ) × CreatesWith old new name id (take count (header_text shape)))

abbrev pub CreatesFile : World → World → List ℕ → Shape → Result Writing Stop → Type 0
CreatesFile old new name shape (Ok writer) =
    CreatesWith old new name writer.id (header_text shape) × (writer ≡ record { id = writer.id; shape = shape; progress = progress.Started; bytes = length (header_text shape) })
CreatesFile old new name shape (Err stops) = IsHostStop stops × CreatesPart old new name shape

-- ---- making ready

-- the chain runs the path's filters, ready for pictures of a shape, and no frame was passed yet
pub record IsChainFor (path : List Step) (shape : Shape) (chain : ChainValue) : Type 0 where
  pub shape_is : chain.shape ≡ shape
  pub ready : AreReady path shape chain.readies chain.end
  pub next : chain.next ≡ pos 0
  pub fresh : chain.spent ≡ false

-- what stops the making ready, whatever follows the header: its fault, which is no damage of frames, or out of memory
pub record IsShapeStop (flow : Flow) (shape : Shape) (stops : Stop) : Type 0 where
  pub gives : (limit : ℕ) (bytes : List ℕ) → ShapeGives limit flow bytes shape (Err stops)
  pub no_damage : stop_status stops ≢ 9
  pub no_host : ¬ IsHostStop stops

abbrev pub StopsShape : Flow → Shape → Stop → Type 0
StopsShape flow shape stops = (stops ≡ stop.NoMemory) ⊎ IsShapeStop flow shape stops

-- it is what stops a file that the input may be, before its frames are read
pub record StandsIn (limit : ℕ) (flow : Flow) (held : Option (List ℕ)) (stops : Stop) : Type 0 where
  pub may : MayHold held (λ bytes. FileGives limit flow bytes (Err stops))
  pub no_damage : stop_status stops ≢ 9

-- The input was opened, its header read, and the filters made ready for its pictures, of which the output can hold what they give.
pub record PreparesWell (limit : ℕ) (flow : Flow) (old new : World) (input : List ℕ) (reader : Reading) (chain : ChainValue) : Type 0 where
  pub opens : OpensWell limit old new input reader chain.shape
  pub formats : (fs : List Format) × HasFormats flow chain.shape.format fs
  pub is_chain : IsChainFor flow.path chain.shape chain
  pub writable : IsWritable chain.end

abbrev pub Prepares : ℕ → Flow → World → World → List ℕ → Result (Reading × ChainValue) Stop → Type 0
Prepares limit flow old new input (Ok both) = PreparesWell limit flow old new input both.0 both.1
Prepares limit flow old new input (Err stops) = LeavesAll old new × (IsHostStop stops ⊎ StandsIn limit flow (old.held input) stops)

-- ---- the whole request

-- an input that this run opened
pub record IsOpened (old new : Inputs) (id : ℕ) : Type 0 where
  pub is_new : old.is_open id ≡ false
  pub is_open : new.is_open id ≡ true

-- an input was opened, and of all inputs that were nothing is left
pub record AreReadToEnd (old new : Inputs) : Type 0 where
  pub some : (id : ℕ) × IsOpened old new id
  pub all : (id : ℕ) → IsOpened old new id → new.left id ≡ Some []

-- the counts of an answer
pub record AreCounts (counts : Counts) (answer : Answer) : Type 0 where
  pub read : counts.frames ≡ answer.read
  pub written : counts.frames ≡ answer.written
  pub bytes : counts.bytes ≡ length answer.out

-- an input was opened, and a header line read from it
pub record HeadIsRead (old new : Inputs) (bytes : Option (List ℕ)) : Type 0 where
  pub id : ℕ
  pub opened : IsOpened old new id
  pub line : List ℕ
  pub shape : Shape
  pub means : HeaderMeans line (Ok shape)
  pub count : ℕ
  pub read : length line < count
  pub left : ForSome bytes (λ all. new.left id ≡ Some (drop count all))

-- The whole answer was written, and the input read to its end.
pub record Finishes (limit : ℕ) (request : Request) (old new : World) (counts : Counts) (bytes : List ℕ) : Type 0 where
  pub answer : Answer
  pub gives : FileGives limit request.flow bytes (Ok answer)
  pub leaves : Leaves old new request.output answer.out
  pub to_end : ForSome (old.held request.input) (λ _. AreReadToEnd old.inputs new.inputs)
  pub head : HeadIsRead old.inputs new.inputs (old.held request.input)
  pub counts_are : AreCounts counts answer

-- a beginning of the open text of the frames that the filters give for leading frames of the input, within the limit
pub record IsBegun (limit : ℕ) (flow : Flow) (bytes put : List ℕ) : Type 0 where
  pub shape : Shape
  pub frames : List FrameValue
  pub rest : List ℕ
  pub readies : List ReadyValue
  pub end : Shape
  pub count : ℕ
  pub file : BeginsFile limit bytes shape frames rest
  pub ready : AreReady flow.path shape readies end
  pub put_is : put ≡ take count (open_text end (through readies frames))

-- The input was opened and its header read, and then the output was created, which holds a beginning of the answer.
pub record Breaks (limit : ℕ) (request : Request) (old new : World) (bytes : List ℕ) : Type 0 where
  pub put : List ℕ
  pub leaves : Leaves old new request.output put
  pub head : HeadIsRead old.inputs new.inputs (old.held request.input)
  pub begun : IsBegun limit request.flow bytes put

-- the text of what the filters give for all frames before the first damage
pub record IsGood (limit : ℕ) (flow : Flow) (bytes out : List ℕ) : Type 0 where
  pub shape : Shape
  pub frames : List FrameValue
  pub damage : NextError
  pub readied : Readied
  pub has_damage : HasDamage limit bytes shape frames damage
  pub ready : AreReady flow.path shape readied.readies readied.end
  pub out_is : out ≡ open_text readied.end (through readied.readies frames)

-- The frames before a damage were all written.
pub record Damages (limit : ℕ) (request : Request) (old new : World) (stops : Stop) (bytes : List ℕ) : Type 0 where
  pub out : List ℕ
  pub gives : FileGives limit request.flow bytes (Err stops)
  pub is_good : IsGood limit request.flow bytes out
  pub leaves : Leaves old new request.output out
  pub head : HeadIsRead old.inputs new.inputs (old.held request.input)

-- what stops a request: a failed call, or out of memory, at any time; what stops the file before its frames; or a damage
pub data Ends (limit : ℕ) (request : Request) (old new : World) (stops : Stop) : Type 0 where
  Refused : LeavesAll old new → IsHostStop stops ⊎ StandsIn limit request.flow (old.held request.input) stops → Ends limit request old new stops
  Interrupted : IsHostStop stops → MayHold (old.held request.input) (Breaks limit request old new) → Ends limit request old new stops
  Spoiled : MayHold (old.held request.input) (Damages limit request old new stops) → Ends limit request old new stops

abbrev pub Commands : ℕ → Request → World → World → Result Counts Stop → Type 0
Commands limit request old new (Ok counts) = MayHold (old.held request.input) (Finishes limit request old new counts)
Commands limit request old new (Err stops) = Ends limit request old new stops
