-- From the files and the printing to the clauses of the top call.
use Rattle.std.proofs.Common.{◌≡◌, ◌≢◌, ◌<◌, ◌≤◌, ◌⊎◌, ℕ, Bool, true, false, IsTrue, List, [], ◌++◌, take, length, Result, Ok, Err, OnOk, OnErr, MatchResult, refl, ap, sym, ◌∙◌, subst, arith, inl, inr}
use Rattle.std.proofs.Math.Seq.{take-length}
use Rattle.av_host.specs.World.{World, Inputs, Outputs, Faults}
use Rattle.av_host.specs.Calls.{Says, Rises, RaisesSayings}
use Rattle.av_host.specs.declared.host.Failed.{Failed}
use Rattle.av_host.specs.HostRuns.{SaysPart}
use Rattle.av_faults.specs.declared.fault.Fault.TheVariants.{OpenFault, ReadFault, WriteFault}
use Rattle.av_faults.specs.declared.fault.Stop.{Stop}
use Rattle.av_faults.specs.declared.fault.Stop.TheVariants as stop
use Rattle.av_faults.specs.Faults.{stop_line, stop_status, IsOfWords, IsOfFile, IsOfLimit}
use Rattle.av_faults.specs.Reports.{input_line, output_line}
use Rattle.avgraph.specs.declared.report.Counts.{Counts}
use Rattle.avgraph.specs.declared.report.Done.{Done}
use Rattle.av_base.specs.declared.shapes.Shape.{Shape}
use Rattle.y4m_io.specs.Files.{whole_text}
use Rattle.avgraph.specs.Chains.{Flow, AreReady, through}
use Rattle.avgraph.specs.Answers.{Answer, Readied, report_text, FramesGive, RateGives, ReadyGives, ShapeGives, FileGives}
use Rattle.avgraph.specs.Requests.{Request, Asks}
use Rattle.avgraph.specs.Stops.{IsHostStop, CountsStop}
use Rattle.avgraph.specs.Commands.{MayHold, AreReadToEnd, AreCounts, HeadIsRead, Commands, KeepsInputs, Finishes, IsBegun, Ends, Refused, Interrupted, Spoiled}
use Rattle.avgraph.specs.Headline.{Prints, counts_text, Reports, counts_of, WantsReport, Obeys, Stopped, Starved, Ran, StopsAt, Refuses, SaysText, Holds, IsDone, IsNamed, HasStatus, HasConclusion, Concludes, HasCause, IsQuiet, IsCreated, Keeps, SaysStatus}
use Rattle.avgraph.proofs.RequestLemmas.{asks_one, asks_counts, asks_no_file, request_known}
use Rattle.avgraph.proofs.StatusLemmas.{file_status}
use Rattle.avgraph.proofs.FileLemmas.{file_gives}

-- ---- what is printed

pub prints_of : {old new : World} {line : List ℕ} (r : Result (Unit {0}) Failed) → OnOk r (Says old new line) → OnErr r (SaysPart old new line)
    → MatchResult r (λ _. new.faults ≡ old.faults) (λ _. RaisesSayings old.faults new.faults) → Prints old new line
prints_of {old} {new} {line} (Ok u) said part counts = record {
  part = (length line, rw (take-length line) said);
  whole = λ small same. said;
  openings = ap (λ (f : Faults). f.openings) counts;
  reads = ap (λ (f : Faults). f.reads) counts;
  writes = ap (λ (f : Faults). f.writes) counts;
}
prints_of {old} {new} {line} (Err e) said part counts = record {
  part = part;
  whole = λ small same. absurd (let rises = counts.sayings.risen small in omega arith);
  openings = counts.openings;
  reads = counts.reads;
  writes = counts.writes;
}

says_text : (old mid new : World) (text : List ℕ) → mid.said ≡ old.said → mid.faults.sayings ≡ old.faults.sayings → Prints mid new text → SaysText old new text
says_text old mid new text e k p = record {
  part = λ x h. let q = p.part in (q.0, q.1.said x (e ∙ h));
  whole = λ small same x h. (p.whole (omega arith) (omega arith)).said x (e ∙ h);
}

-- printing leaves the files
report_printed : (report : Bool) {mid new : World} {text : List ℕ} → (IsTrue report → Prints mid new text) → (report ≡ false → new ≡ mid) → (new.held ≡ mid.held) × (new.inputs ≡ mid.inputs) × (new.outputs ≡ mid.outputs)
report_printed true p e = let s = (p refl).part.1 in (s.held, s.inputs, s.outputs)
report_printed false p e = let s = e refl in (ap (λ (w : World). w.held) s, ap (λ (w : World). w.inputs) s, ap (λ (w : World). w.outputs) s)

printed : (outcome : Result Done Stop) (mid new : World) (status : ℕ) → Reports mid new outcome status → (new.held ≡ mid.held) × (new.inputs ≡ mid.inputs) × (new.outputs ≡ mid.outputs)
printed (Ok done) mid new status r = report_printed done.report r.1.0 r.1.1
printed (Err stops) mid new status r = let s = r.1.part.1 in (s.held, s.inputs, s.outputs)

-- the report of the counts is that of the answer
same_report : {counts : Counts} {answer : Answer} → AreCounts counts answer → counts_text counts ≡ report_text answer
same_report {counts} {answer} are =
    ap (λ (n : ℕ). input_line 0 n ++ output_line 0 counts.frames counts.bytes) are.read
    ∙ (ap (λ (n : ℕ). input_line 0 answer.read ++ output_line 0 n counts.bytes) are.written ∙ ap (λ (n : ℕ). input_line 0 answer.read ++ output_line 0 answer.written n) are.bytes)

-- ---- causes

later_rise : {a b c : ℕ} → Rises a b → c ≡ b → Rises a c
later_rise r e = record { later = let l = r.later in omega arith; risen = λ s. let t = r.risen s in omega arith }

-- the counts before the printing stay in it, but for that of prints
pub record KeepsCounts (mid new : Faults) : Type 0 where
  pub openings : new.openings ≡ mid.openings
  pub reads : new.reads ≡ mid.reads
  pub writes : new.writes ≡ mid.writes

prints_keep : {mid new : World} {text : List ℕ} → Prints mid new text → KeepsCounts mid.faults new.faults
prints_keep p = record { openings = p.openings; reads = p.reads; writes = p.writes }

same_keep : {mid new : World} → new ≡ mid → KeepsCounts mid.faults new.faults
same_keep e = record { openings = ap (λ (w : World). w.faults.openings) e; reads = ap (λ (w : World). w.faults.reads) e; writes = ap (λ (w : World). w.faults.writes) e }

report_keeps : (report : Bool) {mid new : World} {text : List ℕ} → (IsTrue report → Prints mid new text) → (report ≡ false → new ≡ mid) → KeepsCounts mid.faults new.faults
report_keeps true p e = prints_keep (p refl)
report_keeps false p e = same_keep (e refl)

keeps_counts : (outcome : Result Done Stop) (mid new : World) (status : ℕ) → Reports mid new outcome status → KeepsCounts mid.faults new.faults
keeps_counts (Ok done) mid new status r = report_keeps done.report r.1.0 r.1.1
keeps_counts (Err stops) mid new status r = prints_keep r.1

-- no count rose, and the status is none of these
no_rise : {old new : Faults} (status : ℕ) → new.openings ≡ old.openings → new.reads ≡ old.reads → new.writes ≡ old.writes
    → status ≢ 11 → status ≢ 12 → status ≢ 13 → HasCause old new status
no_rise status o r w a b c = record {
  opening = λ h. absurd (a h);
  reading = λ h. absurd (b h);
  writing = λ h. absurd (c h);
  opening_forces = λ h. absurd (omega arith);
  reading_forces = λ h. absurd (omega arith);
  writing_forces = λ h. absurd (omega arith);
}

still : {old mid new : Faults} (status : ℕ) → mid ≡ old → KeepsCounts mid new → status ≢ 11 → status ≢ 12 → status ≢ 13 → HasCause old new status
still status k p a b c =
    no_rise status (p.openings ∙ ap (λ (f : Faults). f.openings) k) (p.reads ∙ ap (λ (f : Faults). f.reads) k) (p.writes ∙ ap (λ (f : Faults). f.writes) k) a b c

cause : (outcome : Result Done Stop) (old mid new : World) (status : ℕ) → CountsStop outcome old.faults mid.faults → Reports mid new outcome status → HasCause old.faults new.faults status
cause (Ok done) old mid new status k r = let s : status ≡ 0 = r.0 in still status k (keeps_counts (Ok done) mid new status r) (λ h. omega arith) (λ h. omega arith) (λ h. omega arith)
cause (Err stop.NoMemory) old mid new status k r = let s : status ≡ 14 = r.0 in still status k (prints_keep r.1) (λ h. omega arith) (λ h. omega arith) (λ h. omega arith)
cause (Err (stop.Fault OpenFault)) old mid new status k r =
    let s : status ≡ 11 = r.0 in let p = r.1.reads in let q = r.1.writes in let x = k.reads in let y = k.writes in
    record {
      opening = λ h. later_rise k.openings r.1.openings;
      reading = λ h. absurd (omega arith);
      writing = λ h. absurd (omega arith);
      opening_forces = λ h. s;
      reading_forces = λ h. absurd (omega arith);
      writing_forces = λ h. absurd (omega arith);
    }
cause (Err (stop.Fault ReadFault)) old mid new status k r =
    let s : status ≡ 12 = r.0 in let p = r.1.openings in let q = r.1.writes in let x = k.openings in let y = k.writes in
    record {
      opening = λ h. absurd (omega arith);
      reading = λ h. later_rise k.reads r.1.reads;
      writing = λ h. absurd (omega arith);
      opening_forces = λ h. absurd (omega arith);
      reading_forces = λ h. s;
      writing_forces = λ h. absurd (omega arith);
    }
cause (Err (stop.Fault WriteFault)) old mid new status k r =
    let s : status ≡ 13 = r.0 in let p = r.1.openings in let q = r.1.reads in let x = k.openings in let y = k.reads in
    record {
      opening = λ h. absurd (omega arith);
      reading = λ h. absurd (omega arith);
      writing = λ h. later_rise k.writes r.1.writes;
      opening_forces = λ h. absurd (omega arith);
      reading_forces = λ h. absurd (omega arith);
      writing_forces = λ h. s;
    }
cause (Err (stop.Fault other)) old mid new status k r =
    let s : status ≡ stop_status (stop.Fault other) = r.0 in still status k (prints_keep r.1) (λ h. omega arith) (λ h. omega arith) (λ h. omega arith)

pub has_cause : (limit : ℕ) (words : List (List ℕ)) (outcome : Result Done Stop) (old mid new : World) (status : ℕ) → Obeys limit words old mid outcome → Reports mid new outcome status → HasCause old.faults new.faults status
has_cause limit words outcome old mid new status (Stopped stops asks e same) r =
    cause outcome old mid new status (subst (λ (o : Result Done Stop). CountsStop o old.faults mid.faults) (sym e) (subst (λ (w : World). CountsStop {T = Done} (Err stops) old.faults w.faults) (sym same) (asks_counts Done old.faults words stops asks))) r
has_cause limit words outcome old mid new status (Starved e same) r =
    cause outcome old mid new status (subst (λ (o : Result Done Stop). CountsStop o old.faults mid.faults) (sym e) (ap (λ (w : World). w.faults) same)) r
has_cause limit words outcome old mid new status (Ran request asks k wants counts said) r = cause outcome old mid new status counts r

-- ---- statuses

-- a stop isn't status 0
some_status : (stops : Stop) → stop_status stops ≢ 0
some_status (stop.Fault OpenFault) e = omega arith
some_status (stop.Fault fault) e = omega arith
some_status stop.NoMemory e = omega arith

-- the numbers of statuses of words, and of files
words_are : {n : ℕ} → IsOfWords n → (n < 6) ⊎ (n ≡ 15)
words_are (inl e) = inl (omega arith)
words_are (inr (inl e)) = inl (omega arith)
words_are (inr (inr (inl e))) = inl (omega arith)
words_are (inr (inr (inr (inl e)))) = inl (omega arith)
words_are (inr (inr (inr (inr e)))) = inr e

some_words : {n : ℕ} → IsOfWords n → 0 < n
some_words (inl e) = omega arith
some_words (inr (inl e)) = omega arith
some_words (inr (inr (inl e))) = omega arith
some_words (inr (inr (inr (inl e)))) = omega arith
some_words (inr (inr (inr (inr e)))) = omega arith

files_are : {n : ℕ} → IsOfFile n → (6 ≤ n) × (n ≤ 9)
files_are (inl e) = (omega arith, omega arith)
files_are (inr (inl e)) = (omega arith, omega arith)
files_are (inr (inr (inl e))) = (omega arith, omega arith)
files_are (inr (inr (inr e))) = (omega arith, omega arith)

-- the statuses of failed calls, and of out of memory
host_status : (stops : Stop) → IsHostStop stops → (11 ≤ stop_status stops) × (stop_status stops ≤ 14)
host_status (stop.Fault OpenFault) h = (omega arith, omega arith)
host_status (stop.Fault ReadFault) h = (omega arith, omega arith)
host_status (stop.Fault WriteFault) h = (omega arith, omega arith)
host_status stop.NoMemory h = (omega arith, omega arith)
host_status (stop.Fault other) h = absurd h

-- ---- what stops the words

-- what was reported of an outcome before which nothing was done
stopped_at : (outcome : Result Done Stop) (stops : Stop) (old mid new : World) (status : ℕ) → outcome ≡ Err stops → mid ≡ old → Reports mid new outcome status → StopsAt old new stops status
stopped_at outcome stops old mid new status e k r =
    subst (λ (w : World). Reports w new (Err stops) status) k (subst (λ (o : Result Done Stop). Reports mid new o status) e r)

answer_is : {a b : Answer} → ◌≡◌ {A = Result Answer Stop} (Ok a) (Ok b) → a ≡ b
answer_is e = cc

-- a whole answer is a beginning of itself
begun_whole : {limit : ℕ} {flow : Flow} {bytes : List ℕ} {answer : Answer} → FileGives limit flow bytes (Ok answer) → IsBegun limit flow bytes answer.out
begun_whole {limit} {flow} {bytes} {answer} (inl h) = absurd (let e = h.2 in cc)
begun_whole {limit} {flow} {bytes} {answer} (inr h) = by_shape h.0 h.2
  where
    by_frames : (s : Shape) (readied : Readied) → AreReady flow.path s readied.readies readied.end → FramesGive limit bytes s readied (Ok answer) → IsBegun limit flow bytes answer.out
    by_frames s readied ready (inl g) = absurd (let e = g.2 in cc)
    by_frames s readied ready (inr g) =
        let out : answer.out ≡ whole_text readied.end (through readied.readies g.0) = ap (λ (a : Answer). a.out) (answer_is g.2) in
        record {
          shape = s;
          frames = g.0;
          rest = [];
          readies = readied.readies;
          end = readied.end;
          count = length answer.out;
          ready = ready;
          file = g.1;
          put_is = sym (take-length answer.out) ∙ ap (take (length answer.out)) out;
        }

    by_rate : (s : Shape) (readied : Readied) → AreReady flow.path s readied.readies readied.end → RateGives limit bytes s readied (Ok answer) → IsBegun limit flow bytes answer.out
    by_rate s readied ready (inl g) = absurd (let e = g.1 in cc)
    by_rate s readied ready (inr g) = by_frames s readied ready g.1

    by_ready : (s : Shape) → ReadyGives limit flow bytes s (Ok answer) → IsBegun limit flow bytes answer.out
    by_ready s (inl g) = absurd (let e = g.2 in cc)
    by_ready s (inr g) = by_rate s g.0 g.1 g.2

    by_shape : (s : Shape) → ShapeGives limit flow bytes s (Ok answer) → IsBegun limit flow bytes answer.out
    by_shape s (inl g) = absurd (let e = g.2 in cc)
    by_shape s (inr g) = by_ready s g.2

-- what stops a request, but for failed calls and memory, stops the file
given_of : {limit : ℕ} {request : Request} {old mid : World} {stops : Stop} → Ends limit request old mid stops → ¬ IsHostStop stops → MayHold (old.held request.input) (λ bytes. FileGives limit request.flow bytes (Err stops))
given_of (Refused l (inl host)) none = absurd (none host)
given_of (Refused l (inr h)) none = h.may
given_of (Interrupted host b) none = absurd (none host)
given_of (Spoiled b) none = (b.0, b.1, b.2.gives)

-- its status is that of a file, of a failed call, or of out of memory
ends_status : {limit : ℕ} {request : Request} {old mid : World} {stops : Stop} → Ends limit request old mid stops → (6 ≤ stop_status stops) × (stop_status stops ≤ 14)
ends_status {stops = stops} (Refused l (inl host)) = let h = host_status stops host in (let low = h.0 in omega arith, h.1)
ends_status {limit} {request} {stops = stops} (Refused l (inr h)) = let f = file_status limit request.flow h.may.0 stops h.may.2 in (f.0, let high = f.1 in omega arith)
ends_status {stops = stops} (Interrupted host b) = let h = host_status stops host in (let low = h.0 in omega arith, h.1)
ends_status {limit} {request} {stops = stops} (Spoiled b) = let f = file_status limit request.flow b.0 stops b.2.gives in (f.0, let high = f.1 in omega arith)

-- two things that stop words are the same
same_stops : {a b : Stop} → ◌≡◌ {A = Result Request Stop} (Err a) (Err b) → a ≡ b
same_stops e = cc

module _ (limit : ℕ) (words : List (List ℕ)) (outcome : Result Done Stop) (old mid new : World) (status : ℕ) where
  pub refused : Obeys limit words old mid outcome → Reports mid new outcome status → (stops : Stop) → Asks words (Err stops) → Refuses old new stops status
  refused (Stopped other asks e same) r stops is =
      inl (subst (λ (s : Stop). StopsAt old new s status) (same_stops ((asks_one words).one (Err other) (Err stops) asks is)) (stopped_at outcome other old mid new status e same r))
  refused (Starved e same) r stops is = inr (stopped_at outcome stop.NoMemory old mid new status e same r)
  refused (Ran request asks k wants counts said) r stops is = absurd (let e = (asks_one words).one (Ok request) (Err stops) asks is in cc)

  pub stands : Obeys limit words old mid outcome → Reports mid new outcome status → IsOfWords status → (stops : Stop) × Asks words (Err stops) × StopsAt old new stops status
  stands (Stopped other asks e same) r s = (other, asks, stopped_at outcome other old mid new status e same r)
  stands (Starved e same) r s = absurd (let at = (stopped_at outcome stop.NoMemory old mid new status e same r).0 in elim (words_are s) [ inl less ↦ omega arith | inr is ↦ omega arith ])
  stands (Ran request asks k wants counts said) r s = absurd (by_outcome outcome k r)
    where
      by_outcome : (o : Result Done Stop) → Commands limit request old mid (counts_of o) → Reports mid new o status → ⊥
      by_outcome (Ok done) k r = let some = some_words s in let zero_is = r.0 in omega arith
      by_outcome (Err stops) k r = let at = ends_status k in let low = at.0 in let high = at.1 in let is = r.0 in elim (words_are s) [ inl less ↦ omega arith | inr e ↦ omega arith ]

  -- ---- what stops the file

  -- a status of a file is that of one which the input may be
  named : (request : Request) → Commands limit request old mid (counts_of outcome) → CountsStop outcome old.faults mid.faults → mid.said ≡ old.said → Reports mid new outcome status → 6 ≤ status → status ≤ 10
      → MayHold (old.held request.input) (IsNamed limit request old new status)
  named request k counts said r low high = by_outcome outcome k counts r
    where
      by_ends : (stops : Stop) → Ends limit request old mid stops → mid.faults.sayings ≡ old.faults.sayings → Reports mid new (Err stops) status → MayHold (old.held request.input) (IsNamed limit request old new status)
      by_ends stops (Refused l (inl host)) n r = absurd (let h = (host_status stops host).0 in let is = r.0 in omega arith)
      by_ends stops (Refused l (inr h)) n r = (
        h.may.0,
        h.may.1,
        record {
          stops = stops;
          gives = h.may.2;
          status_is = r.0;
          said = says_text old mid new (stop_line stops) said n r.1;
          good = λ nine. absurd (h.no_damage (sym r.0 ∙ nine));
        },
      )
      by_ends stops (Interrupted host b) n r = absurd (let h = (host_status stops host).0 in let is = r.0 in omega arith)
      by_ends stops (Spoiled b) n r =
          let files = printed (Err stops) mid new status r in (
            b.0,
            b.1,
            record {
              stops = stops;
              gives = b.2.gives;
              status_is = r.0;
              said = says_text old mid new (stop_line stops) said n r.1;
              good = λ nine. (b.2.out, b.2.is_good, subst (λ (u : Outputs). Holds old.outputs u request.output b.2.out) (sym files.2) b.2.leaves.content);
            },
          )

      sayings : (stops : Stop) → CountsStop {T = Done} (Err stops) old.faults mid.faults → mid.faults.sayings ≡ old.faults.sayings
      sayings (stop.Fault OpenFault) n = n.sayings
      sayings (stop.Fault ReadFault) n = n.sayings
      sayings (stop.Fault WriteFault) n = n.sayings
      sayings other n = ap (λ (f : Faults). f.sayings) n

      by_outcome : (o : Result Done Stop) → Commands limit request old mid (counts_of o) → CountsStop o old.faults mid.faults → Reports mid new o status → MayHold (old.held request.input) (IsNamed limit request old new status)
      by_outcome (Ok done) k n r = absurd (let is = r.0 in omega arith)
      by_outcome (Err stops) k n r = by_ends stops k (sayings stops n) r

  pub names : Obeys limit words old mid outcome → Reports mid new outcome status → IsOfFile status → (request : Request) × Asks words (Ok request) × MayHold (old.held request.input) (IsNamed limit request old new status)
  names (Stopped other asks e same) r s =
      absurd (let at = (stopped_at outcome other old mid new status e same r).0 in let file = files_are s in let low = file.0 in let high = file.1 in elim (asks_no_file words other asks) [ inl less ↦ omega arith | inr more ↦ omega arith ])
  names (Starved e same) r s = absurd (let at = (stopped_at outcome stop.NoMemory old mid new status e same r).0 in let high = (files_are s).1 in omega arith)
  names (Ran request asks k wants counts said) r s = let file = files_are s in (request, asks, named request k counts said r file.0 (let high = file.1 in omega arith))

  pub limits : Obeys limit words old mid outcome → Reports mid new outcome status → IsOfLimit status
      → ((stops : Stop) × Asks words (Err stops) × StopsAt old new stops status) ⊎ ((request : Request) × Asks words (Ok request) × MayHold (old.held request.input) (IsNamed limit request old new status))
  limits (Stopped other asks e same) r s = inl (other, asks, stopped_at outcome other old mid new status e same r)
  limits (Starved e same) r s = absurd (let at = (stopped_at outcome stop.NoMemory old mid new status e same r).0 in omega arith)
  limits (Ran request asks k wants counts said) r s = inr (request, asks, named request k counts said r (omega arith) (omega arith))

  -- ---- the result

  stopped_done : {A : Type 0} (stops : Stop) → outcome ≡ Err stops → Reports mid new outcome status → status ≡ 0 → A
  stopped_done stops e r s = absurd (some_status stops (sym (subst (λ (o : Result Done Stop). Reports mid new o status) e r).0 ∙ s))

  pub done : Obeys limit words old mid outcome → Reports mid new outcome status → status ≡ 0 → (request : Request) × Asks words (Ok request) × MayHold (old.held request.input) (IsDone limit request old new)
  done (Stopped other asks e same) r s = stopped_done other e r s
  done (Starved e same) r s = stopped_done stop.NoMemory e r s
  done (Ran request asks k wants counts said) r s = (request, asks, by_outcome outcome k wants counts r)
    where
      by_outcome : (o : Result Done Stop) → Commands limit request old mid (counts_of o) → WantsReport request.report o → CountsStop o old.faults mid.faults → Reports mid new o status → MayHold (old.held request.input) (IsDone limit request old new)
      by_outcome (Err stops) k w n r = absurd (some_status stops (sym r.0 ∙ s))
      by_outcome (Ok done) k w n r =
          let f = k.2 in
          let files = printed (Ok done) mid new status r in (
            k.0,
            k.1,
            record {
              answer = f.answer;
              gives = f.gives;
              holds = subst (λ (u : Outputs). Holds old.outputs u request.output f.answer.out) (sym files.2) f.leaves.content;
              to_end = λ x e. subst (λ (i : Inputs). AreReadToEnd old.inputs i) (sym files.1) (f.to_end x e);
              report = λ asked. subst (SaysText old new) (same_report f.counts_are) (says_text old mid new (counts_text done.counts) said (ap (λ (g : Faults). g.sayings) n) (r.1.0 (subst IsTrue (sym w) asked)));
              silent = λ none. let same = r.1.1 (w ∙ none) in record { said = ap (λ (u : World). u.said) same ∙ said; sayings = ap (λ (u : World). u.faults.sayings) same ∙ ap (λ (g : Faults). g.sayings) n };
            },
          )

  -- ---- what is concluded

  -- out of memory, whatever the words and the file are
  starved : status ≡ 14 → Concludes limit words old status
  starved s = let asked = (asks_one words).some in (asked.0, asked.1, by_asked asked.0 asked.1)
    where
      by_given : {A : Type 0} (given : Result A Stop) → HasStatus status given
      by_given (Ok a) = inr s
      by_given (Err stops) = inr s

      by_asked : (r : Result Request Stop) → Asks words r → HasConclusion limit old status r
      by_asked (Err stops) is = inr s
      by_asked (Ok request) is = λ bytes held. let given = (file_gives limit request.flow bytes (request_known words request is)).some in (given.0, given.1, by_given given.0)

  pub concludes : Obeys limit words old mid outcome → Reports mid new outcome status → IsQuiet old.faults new.faults → Concludes limit words old status
  concludes (Stopped other asks e same) r q = (Err other, asks, inl (stopped_at outcome other old mid new status e same r).0)
  concludes (Starved e same) r q = starved (stopped_at outcome stop.NoMemory old mid new status e same r).0
  concludes (Ran request asks k wants counts said) r q = by_outcome outcome k counts r
    where
      by_outcome : (o : Result Done Stop) → Commands limit request old mid (counts_of o) → CountsStop o old.faults mid.faults → Reports mid new o status → Concludes limit words old status
      by_outcome (Ok done) k n r = (Ok request, asks, λ x held. (Ok k.2.answer, subst (λ (b : List ℕ). FileGives limit request.flow b (Ok k.2.answer)) (sym (k.1 x held)) k.2.gives, inl r.0))
      by_outcome (Err (stop.Fault OpenFault)) k n r =
          absurd (let t = q.openings in let l = n.openings.later in let s = n.openings.risen in let p = r.1.openings in omega (arith, t.0, t.1, l, s, p))
      by_outcome (Err (stop.Fault ReadFault)) k n r =
          absurd (let t = q.reads in let l = n.reads.later in let s = n.reads.risen in let p = r.1.reads in omega (arith, t.0, t.1, l, s, p))
      by_outcome (Err (stop.Fault WriteFault)) k n r =
          absurd (let t = q.writes in let l = n.writes.later in let s = n.writes.risen in let p = r.1.writes in omega (arith, t.0, t.1, l, s, p))
      by_outcome (Err stop.NoMemory) k n r = starved r.0
      by_outcome (Err (stop.Fault fault)) k n r =
          let may = given_of k (λ h. h) in
          (Ok request, asks, λ x held. (Err (stop.Fault fault), subst (λ (b : List ℕ). FileGives limit request.flow b (Err (stop.Fault fault))) (sym (may.1 x held)) may.2, inl r.0))

  -- ---- what is kept

  abbrev Kept : World → Type 0
  Kept w = (w.held ≡ old.held) × KeepsInputs old.inputs w.inputs × ((w.outputs ≡ old.outputs) ⊎ ((request : Request) × Asks words (Ok request) × MayHold (old.held request.input) (IsCreated limit request old w)))

  kept_same : mid ≡ old → Kept mid
  kept_same same = (
    ap (λ (w : World). w.held) same,
    subst (λ (w : World). KeepsInputs old.inputs w.inputs) (sym same) (record { is_open = λ id h. h; left = λ id h. refl }),
    inl (ap (λ (w : World). w.outputs) same),
  )

  kept_stops : (request : Request) (stops : Stop) → Asks words (Ok request) → Ends limit request old mid stops → Kept mid
  kept_stops request stops asks (Refused l h) = (l.held, l.inputs, inl l.outputs)
  kept_stops request stops asks (Interrupted host b) =
      let leaves = b.2.leaves in
      (leaves.held, leaves.inputs, inr (request, asks, (b.0, b.1, record { head = b.2.head; put = b.2.put; begun = b.2.begun; holds = leaves.content; others = leaves.other_outputs })))
  kept_stops request stops asks (Spoiled b) =
      let leaves = b.2.leaves in
      let good = b.2.is_good in
      let begun : IsBegun limit request.flow b.0 b.2.out = record {
        shape = good.shape;
        frames = good.frames;
        rest = good.has_damage.rest;
        readies = good.readied.readies;
        end = good.readied.end;
        count = length b.2.out;
        file = good.has_damage.begins;
        ready = good.ready;
        put_is = sym (take-length b.2.out) ∙ ap (take (length b.2.out)) good.out_is;
      } in
      (leaves.held, leaves.inputs, inr (request, asks, (b.0, b.1, record { head = b.2.head; put = b.2.out; begun = begun; holds = leaves.content; others = leaves.other_outputs })))

  kept_done : (request : Request) {counts : Counts} → Asks words (Ok request) → MayHold (old.held request.input) (Finishes limit request old mid counts) → Kept mid
  kept_done request asks b =
      let leaves = b.2.leaves in
      (leaves.held, leaves.inputs, inr (request, asks, (b.0, b.1, record { head = b.2.head; put = b.2.answer.out; begun = begun_whole b.2.gives; holds = leaves.content; others = leaves.other_outputs })))

  kept_files : Obeys limit words old mid outcome → Kept mid
  kept_files (Stopped other asks e same) = kept_same same
  kept_files (Starved e same) = kept_same same
  kept_files (Ran request asks k wants counts said) = by_outcome outcome k
    where
      by_outcome : (o : Result Done Stop) → Commands limit request old mid (counts_of o) → Kept mid
      by_outcome (Ok done) k = kept_done request asks k
      by_outcome (Err stops) k = kept_stops request stops asks k

  pub keeps : Obeys limit words old mid outcome → Reports mid new outcome status → Keeps limit words old new
  keeps h r =
      let f = kept_files h in
      let files = printed outcome mid new status r in
      record {
        held = files.0 ∙ f.0;
        inputs = subst (λ (i : Inputs). KeepsInputs old.inputs i) (sym files.1) f.1;
        outputs = after files f.2;
      }
    where
      after : (new.held ≡ mid.held) × (new.inputs ≡ mid.inputs) × (new.outputs ≡ mid.outputs) → (mid.outputs ≡ old.outputs) ⊎ ((request : Request) × Asks words (Ok request) × MayHold (old.held request.input) (IsCreated limit request old mid))
          → (new.outputs ≡ old.outputs) ⊎ ((request : Request) × Asks words (Ok request) × MayHold (old.held request.input) (IsCreated limit request old new))
      after files (inl e) = inl (files.2 ∙ e)
      after files (inr c) =
          let made = c.2.2 in
          inr (
            c.0,
            c.1,
            (
              c.2.0,
              c.2.1,
              record {
                head = subst (λ (i : Inputs). HeadIsRead old.inputs i (old.held c.0.input)) (sym files.1) made.head;
                put = made.put;
                begun = made.begun;
                holds = subst (λ (u : Outputs). Holds old.outputs u c.0.output made.put) (sym files.2) made.holds;
                others = λ other ne. ap (λ (u : Outputs). u.content other) files.2 ∙ made.others other ne;
              },
            ),
          )

  -- ---- what was printed

  pub says_status : Obeys limit words old mid outcome → Reports mid new outcome status → status ≢ 0 → SaysStatus old new status
  says_status (Stopped other asks e same) r s = let at = stopped_at outcome other old mid new status e same r in (other, at.0, says_text old old new (stop_line other) refl refl at.1)
  says_status (Starved e same) r s = let at = stopped_at outcome stop.NoMemory old mid new status e same r in (stop.NoMemory, at.0, says_text old old new (stop_line stop.NoMemory) refl refl at.1)
  says_status (Ran request asks k wants counts said) r s = by_outcome outcome counts r
    where
      sayings : (stops : Stop) → CountsStop {T = Done} (Err stops) old.faults mid.faults → mid.faults.sayings ≡ old.faults.sayings
      sayings (stop.Fault OpenFault) n = n.sayings
      sayings (stop.Fault ReadFault) n = n.sayings
      sayings (stop.Fault WriteFault) n = n.sayings
      sayings other n = ap (λ (f : Faults). f.sayings) n

      by_outcome : (o : Result Done Stop) → CountsStop o old.faults mid.faults → Reports mid new o status → SaysStatus old new status
      by_outcome (Ok done) n r = absurd (s r.0)
      by_outcome (Err stops) n r = (stops, r.0, says_text old mid new (stop_line stops) said (sayings stops n) r.1)

-- ---- up to the printing

pub obeys_asked : (limit : ℕ) (words : List (List ℕ)) (old : World) (stops : Stop) → (stops ≡ stop.NoMemory) ⊎ Asks words (Err stops) → Obeys limit words old old (Err stops)
obeys_asked limit words old stops (inl e) = Starved (ap (λ (s : Stop). Err s) e) refl
obeys_asked limit words old stops (inr h) = Stopped stops h refl refl

-- a stop raises the same count whatever would have been returned
counts_as : (T U : Type 0) (stops : Stop) (old new : Faults) → CountsStop {T = T} (Err stops) old new → CountsStop {T = U} (Err stops) old new
counts_as T U (stop.Fault OpenFault) old new h = h
counts_as T U (stop.Fault ReadFault) old new h = h
counts_as T U (stop.Fault WriteFault) old new h = h
counts_as T U (stop.Fault other) old new h = h
counts_as T U stop.NoMemory old new h = h

said_by : (limit : ℕ) (request : Request) (old mid : World) (outcome : Result Counts Stop) → Commands limit request old mid outcome → mid.said ≡ old.said
said_by limit request old mid (Ok counts) k = k.2.leaves.said
said_by limit request old mid (Err stops) (Refused l h) = l.said
said_by limit request old mid (Err stops) (Interrupted host b) = b.2.leaves.said
said_by limit request old mid (Err stops) (Spoiled b) = b.2.leaves.said

pub obeys_done : (limit : ℕ) (words : List (List ℕ)) (old new : World) (request : Request) (counts : Counts) (report : Bool) → Asks words (Ok request) → Commands limit request old new (Ok counts) → report ≡ request.report → new.faults ≡ old.faults
    → Obeys limit words old new (Ok (record { counts = counts; report = report }))
obeys_done limit words old new request counts report asks k wants faults = Ran request asks k wants faults (said_by limit request old new (Ok counts) k)

pub obeys_stopped : (limit : ℕ) (words : List (List ℕ)) (old new : World) (request : Request) (stops : Stop) → Asks words (Ok request) → Commands limit request old new (Err stops) → CountsStop {T = Counts} (Err stops) old.faults new.faults
    → Obeys limit words old new (Err stops)
obeys_stopped limit words old new request stops asks k faults = Ran request asks k tt (counts_as Counts Done stops old.faults new.faults faults) (said_by limit request old new (Err stops) k)
