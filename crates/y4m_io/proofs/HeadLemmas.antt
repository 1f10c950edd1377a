-- The header line that is read.
use Rattle.std.proofs.Common.{◌≡◌, ◌≢◌, ◌<◌, ◌≤◌, ◌⊎◌, inl, inr, ℕ, min, eqb, Bool, true, false, List, [], ◌∷◌, ◌++◌, take, drop, length, Err, sym, ◌∙◌, ap, subst, arith, append_assoc, length-append}
use Rattle.std.specs.List.{Contains}
use Rattle.std.specs.Option.{ForSome}
use Rattle.std.proofs.lemmas.Bool.Decides.{Decides-eqb}
use Rattle.std.proofs.lemmas.Slice.Eq.{starts_is}
use Rattle.std.specs.Cmp.Lexicographic.{pointwise}
use Rattle.std.proofs.lemmas.List.{append-nil, take_at}
use Rattle.std.proofs.Math.Seq.{take-append_seam}
use Rattle.av_host.specs.World.{World, Faults}
use Rattle.av_host.specs.Calls.{Reads}
use Rattle.av_host.proofs.Runs.{Reads-append}
use Rattle.av_host.specs.HostRuns.{ReadsSome}
use Rattle.av_frame.specs.declared.faults.HeadError.{HeadError}
use Rattle.y4m_header.specs.Said.{magic}
use Rattle.y4m_header.specs.HeaderLaws.{longest_line}
use Rattle.y4m_header.specs.declared.fault.HeaderFault.{HeaderFault}
use Rattle.y4m_header.specs.declared.fault.HeaderFault.TheVariants.{NotMedia, BadHeader, BadColour}
use Rattle.y4m_io.specs.Heads.{HasLine, IsCut, IsUnended, head_error, IsHeadFault}
use Rattle.y4m_io.specs.Reading.{Reading, Refuses, Heads, CountsHead}
use Rattle.y4m_io.proofs.LineLemmas.{shorter_first, no_feed_front}

-- ---- what a reader finds

-- the input ends before a line feed
pub line_ended : {w0 w1 w2 : World} {id : ℕ} (room : ℕ) {front kept : List ℕ} → Reads w0 w1 id front → Reads w1 w2 id [] → ForSome (w1.inputs.left id) (λ left. left ≡ []) → kept ≡ front
    → ¬ Contains front 10 → length front ≤ room
    → ReadsSome w0 w2 id × ForSome (w0.inputs.left id) (λ left. IsUnended room left × ((longest_line ≤ length kept) ⊎ (left ≡ kept)) × (rest : List ℕ) × (left ≡ kept ++ rest))
line_ended {w0} {w1} {w2} {id} room {front} {kept} p q ended same none within = (
  (front ++ [], Reads-append p q),
  λ left told.
      let rest = drop (length front) left in
      let over : rest ≡ [] = ended rest (p.inputs.left left told) in
      let all : left ≡ front ++ [] = p.inputs.begins left told ∙ ap (λ xs. front ++ xs) over in
      let whole : left ≡ front = all ∙ append-nil front in (
        record {
          no_line = rw whole (no_feed_front (min room longest_line) front none);
          ends = inl (rw whole within);
        },
        inr (whole ∙ sym same),
        [],
        all ∙ ap (λ xs. xs ++ []) (sym same),
      ),
)

-- 1,024 bytes have no line feed
pub line_long : {w0 w1 : World} {id room : ℕ} {front : List ℕ} → Reads w0 w1 id front → length front ≡ 1024 → 1024 ≤ room → ¬ Contains front 10
    → ReadsSome w0 w1 id × ForSome (w0.inputs.left id) (λ left. IsUnended room left × ((longest_line ≤ length front) ⊎ (left ≡ front)) × (rest : List ℕ) × (left ≡ front ++ rest))
line_long {w0} {w1} {id} {room} {front} p long h none = (
  (front, p),
  λ left told.
      let rest = drop (length front) left in
      let all = p.inputs.begins left told in
      let same : min room longest_line ≡ length front = omega arith in
      let first : take (min room longest_line) left ≡ front = ap (take (min room longest_line)) all ∙ (ap (λ n. take n (front ++ rest)) same ∙ take-append_seam front rest) in (
        record { no_line = rw first none; ends = inr h },
        inl (omega arith),
        rest,
        all,
      ),
)

-- the limit comes before a line feed, and a byte follows it
pub line_cut : {w0 w1 w2 : World} {id room : ℕ} {front kept : List ℕ} {byte : ℕ} → Reads w0 w1 id front → Reads w1 w2 id (byte ∷ []) → kept ≡ front → length front ≡ room → room < 1024 → ¬ Contains front 10
    → ReadsSome w0 w2 id × (room < longest_line) × ForSome (w0.inputs.left id) (λ left. IsCut room left × (take room left ≡ kept))
line_cut {w0} {w1} {w2} {id} {room} {front} {kept} {byte} p q kept_is full small none = (
  (front ++ byte ∷ [], Reads-append p q),
  omega arith,
  λ left told.
      let rest = drop (length front) left in
      let all = p.inputs.begins left told in
      let more : rest ≡ byte ∷ [] ++ drop 1 rest = q.inputs.begins rest (p.inputs.left left told) in
      let same : min room longest_line ≡ length front = omega arith in
      let first : take (min room longest_line) left ≡ front = ap (take (min room longest_line)) all ∙ (ap (λ n. take n (front ++ rest)) same ∙ take-append_seam front rest) in (
        record { no_line = rw first none; low = small; past = omega (arith, ap length all, length-append front rest, ap length more) },
        ap (take room) all ∙ (take_at front rest room full ∙ sym kept_is),
      ),
)

-- ---- faults of a header

-- the line that was read
pub line_read : {a b : World} {id room : ℕ} {line : List ℕ} → Reads a b id (line ++ 10 ∷ []) → ¬ Contains line 10 → length line < longest_line → length line < room → ForSome (a.inputs.left id) (λ left. HasLine room left line)
line_read {a} {b} {id} {room} {line} reads none short within = λ left told.
    let rest = drop (length (line ++ 10 ∷ [])) left in
    record { rest = rest; bytes_are = reads.inputs.begins left told ∙ append_assoc line (10 ∷ []) rest; no_feed = none; short = short; within = within }

-- bytes that begin as a header does, or don't
pub begins_magic : (front left rest : List ℕ) (r : Bool) → r ≡ pointwise eqb magic (take 9 front) → r ≡ true → left ≡ front ++ rest → (more : List ℕ) × (left ≡ magic ++ more)
begins_magic front left rest r is same begins =
    let own = (starts_is Decides-eqb front magic r is).0 same in
    (drop 9 front ++ rest, begins ∙ (ap (λ (xs : List ℕ). xs ++ rest) own ∙ append_assoc magic (drop 9 front) rest))

pub begins_other : (front left rest : List ℕ) (r : Bool) → r ≡ pointwise eqb magic (take 9 front) → r ≡ false → left ≡ front ++ rest → (longest_line ≤ length front) ⊎ (left ≡ front) → (more : List ℕ) → left ≢ magic ++ more
begins_other front left rest r is other begins (inl long) more e =
    let t = shorter_first front magic rest more (sym begins ∙ e) (omega arith) in
    let magic_is = (starts_is Decides-eqb front magic r is).1 t.0 t.1 in
    cc
begins_other front left rest r is other begins (inr whole) more e =
    let magic_is = (starts_is Decides-eqb front magic r is).1 more (sym whole ∙ e) in
    cc

-- the fault of a line is returned
fault_returned : {old new : World} {reader after : Reading} (e : HeaderFault) → Refuses old new reader after (λ left. IsHeadFault reader.room left (head_error e)) → Heads old new reader after (Err (head_error e))
fault_returned NotMedia r = r
fault_returned BadHeader r = r
fault_returned BadColour r = r

pub heads_fault : {old new : World} {viewed reader after : Reading} (e : HeaderFault) (error : HeadError) → viewed ≡ reader → error ≡ head_error e → Refuses old new viewed after (λ left. IsHeadFault viewed.room left (head_error e))
    → Heads old new reader after (Err error)
heads_fault {old} {new} {viewed} {reader} {after} e error view is refuses =
    subst (λ (x : HeadError). Heads old new reader after (Err x)) (sym is) (subst (λ (r : Reading). Heads old new r after (Err (head_error e))) view (fault_returned {reader = viewed} e refuses))

pub counts_fault : (e : HeaderFault) (old new : Faults) → new ≡ old → CountsHead (Err (head_error e)) old new
counts_fault NotMedia old new same = same
counts_fault BadHeader old new same = same
counts_fault BadColour old new same = same
