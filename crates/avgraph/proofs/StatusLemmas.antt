-- The statuses of what stops files.
use Rattle.std.proofs.Common.{◌≡◌, ◌≤◌, ℕ, List, Result, Err, subst, sym, inl, inr, arith}
use Rattle.av_base.specs.declared.shapes.Shape.{Shape}
use Rattle.av_frame.specs.declared.faults.HeadError.{HeadError}
use Rattle.av_frame.specs.declared.faults.NextError.{NextError}
use Rattle.av_frame.specs.declared.faults.NextError.TheVariants as next
use Rattle.y4m_header.specs.declared.fault.HeaderFault.{HeaderFault}
use Rattle.y4m_header.specs.declared.fault.HeaderFault.TheVariants as header
use Rattle.y4m_io.specs.Heads.{IsHeadFault, head_error}
use Rattle.y4m_io.specs.Files.{IsDamage}
use Rattle.av_faults.specs.Faults.{stop_status}
use Rattle.av_faults.specs.declared.fault.Stop.{Stop}
use Rattle.avgraph.specs.Chains.{Flow}
use Rattle.avgraph.specs.Stops.{head_stop, next_stop}
use Rattle.avgraph.specs.Answers.{Answer, Readied, FramesGive, RateGives, ReadyGives, ShapeGives, FileGives}
use Rattle.avgraph.proofs.ReadyLemmas.{unready_status}

-- the status is one of a file
abbrev pub IsFileStatus : ℕ → Type 0
IsFileStatus n = (6 ≤ n) × (n ≤ 10)

fault_status : (limit : ℕ) (e : HeaderFault) → IsFileStatus (stop_status (head_stop limit (head_error e)))
fault_status limit header.NotMedia = (omega arith, omega arith)
fault_status limit header.BadHeader = (omega arith, omega arith)
fault_status limit header.BadColour = (omega arith, omega arith)

head_status : (limit : ℕ) (bytes : List ℕ) (e : HeadError) → IsHeadFault limit bytes e → IsFileStatus (stop_status (head_stop limit e))
head_status limit bytes e (IsHeadFault.Line line f has means) = fault_status limit f
head_status limit bytes e (IsHeadFault.Other ends none) = (omega arith, omega arith)
head_status limit bytes e (IsHeadFault.Endless ends rest is) = (omega arith, omega arith)
head_status limit bytes e (IsHeadFault.Always f cut always) = fault_status limit f
head_status limit bytes e (IsHeadFault.Past cut none) = (omega arith, omega arith)

damage_status : (limit : ℕ) (shape : Shape) (room count : ℕ) (rest : List ℕ) (e : NextError) → IsDamage shape room count rest e → IsFileStatus (stop_status (next_stop limit e))
damage_status limit shape room count rest (next.BadFrame k) is = (omega arith, omega arith)
damage_status limit shape room count rest (next.Truncated k) is = (omega arith, omega arith)
damage_status limit shape room count rest next.TooLong is = (omega arith, omega arith)
damage_status limit shape room count rest next.Host is = absurd is
damage_status limit shape room count rest next.NoMemory is = absurd is

stop_is : {a b : Stop} → ◌≡◌ {A = Result Answer Stop} (Err a) (Err b) → a ≡ b
stop_is e = cc

-- what stops a file has a status of a file
pub file_status : (limit : ℕ) (flow : Flow) (bytes : List ℕ) (stops : Stop) → FileGives limit flow bytes (Err stops) → IsFileStatus (stop_status stops)
file_status limit flow bytes stops gives = by_file gives
  where
    of : {other : Stop} → ◌≡◌ {A = Result Answer Stop} (Err stops) (Err other) → IsFileStatus (stop_status other) → IsFileStatus (stop_status stops)
    of e h = subst (λ (s : Stop). IsFileStatus (stop_status s)) (sym (stop_is e)) h

    by_frames : (s : Shape) (readied : Readied) → FramesGive limit bytes s readied (Err stops) → IsFileStatus (stop_status stops)
    by_frames s readied (inl h) = of h.2 (damage_status limit s _ _ h.1.rest h.0.1 h.1.is_damage)
    by_frames s readied (inr h) = absurd (let e = h.2 in cc)

    by_rate : (s : Shape) (readied : Readied) → RateGives limit bytes s readied (Err stops) → IsFileStatus (stop_status stops)
    by_rate s readied (inl h) = of h.1 (omega arith, omega arith)
    by_rate s readied (inr h) = by_frames s readied h.1

    by_ready : (s : Shape) → ReadyGives limit flow bytes s (Err stops) → IsFileStatus (stop_status stops)
    by_ready s (inl h) = of h.2 (let e = unready_status flow.path s h.0 h.1 in (omega arith, omega arith))
    by_ready s (inr h) = by_rate s h.0 h.2

    by_shape : (s : Shape) → ShapeGives limit flow bytes s (Err stops) → IsFileStatus (stop_status stops)
    by_shape s (inl h) = of h.2 (omega arith, omega arith)
    by_shape s (inr h) = by_ready s h.2

    by_file : FileGives limit flow bytes (Err stops) → IsFileStatus (stop_status stops)
    by_file (inl h) = of h.2 (head_status limit bytes h.0 h.1)
    by_file (inr h) = by_shape h.0 h.2
