-- The command from its words to its status.
use Rattle.std.specs.Prelude.{◌≡◌, ◌≢◌, ◌⊎◌, ◌<◌, ◌-◌, ◌^◌, ◌++◌, ℕ, Bool, false, List, take, Some, Result, Ok, Err, IsTrue}
use Rattle.std.specs.Option.{ForSome}
use Rattle.av_host.specs.World.{World, Faults, Outputs}
use Rattle.av_host.specs.Calls.{Says, Rises}
use Rattle.av_host.specs.HostRuns.{SaysPart}
use Rattle.av_faults.specs.declared.fault.Stop.{Stop}
use Rattle.av_faults.specs.declared.fault.Stop.TheVariants as stop
use Rattle.av_faults.specs.Faults.{stop_status, stop_line}
use Rattle.av_faults.specs.Reports.{input_line, output_line}
use Rattle.av_filter.specs.Outcomes.{HasOne}
use Rattle.avgraph.specs.Requests.{Request, Asks}
use Rattle.avgraph.specs.Stops.{CountsStop}
use Rattle.avgraph.specs.Chains.{Flow}
use Rattle.avgraph.specs.Answers.{Answer, FileGives, report_text}
use Rattle.avgraph.specs.Commands.{MayHold, Commands, KeepsInputs, AreReadToEnd, HeadIsRead, IsBegun, IsGood}
use Rattle.avgraph.specs.declared.report.Counts.{Counts}
use Rattle.avgraph.specs.declared.report.Done.{Done}

-- ---- printing

-- A beginning of the text was printed, and all of it if no print failed. Nothing else was asked of the host.
pub record Prints (old new : World) (text : List ℕ) : Type 0 where
  pub part : SaysPart old new text
  pub whole : old.faults.sayings < 2 ^ 64 - 1 → new.faults.sayings ≡ old.faults.sayings → Says old new text
  pub openings : new.faults.openings ≡ old.faults.openings
  pub reads : new.faults.reads ≡ old.faults.reads
  pub writes : new.faults.writes ≡ old.faults.writes

-- the text of a report
abbrev pub counts_text : Counts → List ℕ
counts_text counts = input_line 0 counts.frames ++ output_line 0 counts.frames counts.bytes

-- the report of a command that was done is printed if it was asked for, and of any other the line of what stopped it
abbrev pub Reports : World → World → Result Done Stop → ℕ → Type 0
Reports old new (Ok done) status = (status ≡ 0) × ((IsTrue done.report → Prints old new (counts_text done.counts)) × (done.report ≡ false → new ≡ old))
Reports old new (Err stops) status = (status ≡ stop_status stops) × Prints old new (stop_line stops)

-- ---- up to the printing

-- the counts of a request that was done
abbrev pub counts_of : Result Done Stop → Result Counts Stop
counts_of (Ok done) = Ok done.counts
counts_of (Err stops) = Err stops

-- whether a report follows, if the request was done
abbrev pub WantsReport : Bool → Result Done Stop → Type 0
WantsReport report (Ok done) = done.report ≡ report
WantsReport report (Err stops) = Unit {0}

-- what the words do, up to the printing
pub data Obeys (limit : ℕ) (words : List (List ℕ)) (old new : World) (outcome : Result Done Stop) : Type 0 where
  -- they are stopped before any call of the host, or there is no memory to read them
  Stopped : (stops : Stop) → Asks words (Err stops) → outcome ≡ Err stops → new ≡ old → Obeys limit words old new outcome
  Starved : outcome ≡ Err stop.NoMemory → new ≡ old → Obeys limit words old new outcome
  -- what they ask for is done, or stopped
  Ran : (request : Request) → Asks words (Ok request) → Commands limit request old new (counts_of outcome) → WantsReport request.report outcome
      → CountsStop outcome old.faults new.faults → new.said ≡ old.said → Obeys limit words old new outcome

-- the files first, and then the printing
pub record Acts (limit : ℕ) (words : List (List ℕ)) (old new : World) (status : ℕ) : Type 0 where
  pub outcome : Result Done Stop
  pub between : World
  pub obeys : Obeys limit words old between outcome
  pub reports : Reports between new outcome status

-- ---- the clauses of the top call

-- What stops the words is returned and printed, and no other call of the host is made.
abbrev pub StopsAt : World → World → Stop → ℕ → Type 0
StopsAt old new stops status = (status ≡ stop_status stops) × Prints old new (stop_line stops)

-- The same, or out of memory.
abbrev pub Refuses : World → World → Stop → ℕ → Type 0
Refuses old new stops status = StopsAt old new stops status ⊎ StopsAt old new stop.NoMemory status

-- A beginning of the text was printed, and all of it if no print failed.
pub record SaysText (old new : World) (text : List ℕ) : Type 0 where
  pub part : ForSome old.said (λ said. (n : ℕ) × (new.said ≡ Some (said ++ take n text)))
  pub whole : old.faults.sayings < 2 ^ 64 - 1 → new.faults.sayings ≡ old.faults.sayings → ForSome old.said (λ said. new.said ≡ Some (said ++ text))

-- Nothing was printed, and no print failed.
pub record SaysNothing (old new : World) : Type 0 where
  pub said : new.said ≡ old.said
  pub sayings : new.faults.sayings ≡ old.faults.sayings

-- the output holds these bytes, if the host tells what it holds
abbrev pub Holds : Outputs → Outputs → List ℕ → List ℕ → Type 0
Holds old new output bytes = ForSome (old.content output) (λ _. new.content output ≡ Some (Some bytes))

-- The output holds the whole answer, nothing is left of the inputs that were opened, and the report was printed if it was asked for.
pub record IsDone (limit : ℕ) (request : Request) (old new : World) (bytes : List ℕ) : Type 0 where
  pub answer : Answer
  pub gives : FileGives limit request.flow bytes (Ok answer)
  pub holds : Holds old.outputs new.outputs request.output answer.out
  pub to_end : ForSome (old.held request.input) (λ _. AreReadToEnd old.inputs new.inputs)
  pub report : IsTrue request.report → SaysText old new (report_text answer)
  pub silent : request.report ≡ false → SaysNothing old new

-- What stops the file is returned and printed. After a damage the output holds what the filters give for all frames before it.
pub record IsNamed (limit : ℕ) (request : Request) (old new : World) (status : ℕ) (bytes : List ℕ) : Type 0 where
  pub stops : Stop
  pub gives : FileGives limit request.flow bytes (Err stops)
  pub status_is : status ≡ stop_status stops
  pub said : SaysText old new (stop_line stops)
  pub good : status ≡ 9 → (out : List ℕ) × IsGood limit request.flow bytes out × Holds old.outputs new.outputs request.output out

-- the status of a file that comes to this, or out of memory
abbrev pub HasStatus : {A : Type 0} → ℕ → Result A Stop → Type 0
HasStatus status (Ok answer) = (status ≡ 0) ⊎ (status ≡ 14)
HasStatus status (Err stops) = (status ≡ stop_status stops) ⊎ (status ≡ 14)

-- The status is that of what stops the words; if they ask for something, the file of the input comes to something, and the status is that of it. Out of
-- memory may take the place of each.
abbrev pub HasConclusion : ℕ → World → ℕ → Result Request Stop → Type 0
HasConclusion limit old status (Ok request) = ForSome (old.held request.input) (λ bytes. (given : Result Answer Stop) × FileGives limit request.flow bytes given × HasStatus status given)
HasConclusion limit old status (Err stops) = (status ≡ stop_status stops) ⊎ (status ≡ 14)

-- The words come to something, and the status is the one of that.
abbrev pub Concludes : ℕ → List (List ℕ) → World → ℕ → Type 0
Concludes limit words old status = (asked : Result Request Stop) × Asks words asked × HasConclusion limit old status asked

-- A status of 11, 12 or 13 comes exactly if its count rose, so that no run raises two of them.
pub record HasCause (old new : Faults) (status : ℕ) : Type 0 where
  pub opening : status ≡ 11 → Rises old.openings new.openings
  pub reading : status ≡ 12 → Rises old.reads new.reads
  pub writing : status ≡ 13 → Rises old.writes new.writes
  pub opening_forces : old.openings < new.openings → status ≡ 11
  pub reading_forces : old.reads < new.reads → status ≡ 12
  pub writing_forces : old.writes < new.writes → status ≡ 13

-- No call but sayings failed.
pub record IsQuiet (old new : Faults) : Type 0 where
  pub openings : (new.openings ≡ old.openings) × (new.openings < 2 ^ 64 - 1)
  pub reads : (new.reads ≡ old.reads) × (new.reads < 2 ^ 64 - 1)
  pub writes : (new.writes ≡ old.writes) × (new.writes < 2 ^ 64 - 1)

-- After the input's header was read the output was created, and it holds a beginning of the answer.
pub record IsCreated (limit : ℕ) (request : Request) (old new : World) (bytes : List ℕ) : Type 0 where
  pub head : HeadIsRead old.inputs new.inputs (old.held request.input)
  pub put : List ℕ
  pub begun : IsBegun limit request.flow bytes put
  pub holds : Holds old.outputs new.outputs request.output put
  pub others : (other : List ℕ) → other ≢ request.output → new.outputs.content other ≡ old.outputs.content other

-- Inputs that were open stay as they are, and no output changes but that of a request, once it can be created.
pub record Keeps (limit : ℕ) (words : List (List ℕ)) (old new : World) : Type 0 where
  pub held : new.held ≡ old.held
  pub inputs : KeepsInputs old.inputs new.inputs
  pub outputs : (new.outputs ≡ old.outputs) ⊎ ((request : Request) × Asks words (Ok request) × MayHold (old.held request.input) (IsCreated limit request old new))

-- the line of the stop that has this status
abbrev pub SaysStatus : World → World → ℕ → Type 0
SaysStatus old new status = (stops : Stop) × (status ≡ stop_status stops) × SaysText old new (stop_line stops)

-- ---- the law: words come to exactly one thing, and so does every file for what words ask; out of memory is none of these

pub record CommandsHaveOneAnswer : Type 0 where
  pub words : (words : List (List ℕ)) → HasOne (Asks words)
  pub words_memory : (words : List (List ℕ)) → ¬ Asks words (Err stop.NoMemory)
  pub files : (words : List (List ℕ)) (request : Request) (limit : ℕ) (bytes : List ℕ) → Asks words (Ok request) → HasOne (FileGives limit request.flow bytes)
  pub files_memory : (limit : ℕ) (flow : Flow) (bytes : List ℕ) → ¬ FileGives limit flow bytes (Err stop.NoMemory)
