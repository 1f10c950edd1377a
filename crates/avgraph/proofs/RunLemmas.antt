-- The loop that reads frames, passes them through the filters and writes them.
use Rattle.std.proofs.Common.{◌≡◌, ◌≤◌, ◌*◌, ◌^◌, ℕ, ◌+◌, ◌-◌, List, [], ◌∷◌, ◌++◌, take, drop, length, Err, refl, ◌∙◌, ap, sym, subst, arith, length-append}
use Rattle.std.specs.Option.{ForSome}
use Rattle.std.proofs.lemmas.List.{append-nil, take-append-le, length_push}
use Rattle.std.proofs.Math.Seq.{take-append-add, take-length}
use Rattle.av_base.specs.declared.shapes.Shape.{Shape}
use Rattle.av_host.specs.World.{World}
use Rattle.av_host.specs.Calls.{Reads, Changes, appended}
use Rattle.av_host.proofs.Runs.{Takes-nil, Takes-append, Alters-nil, Alters-append, Reads-nil}
use Rattle.av_frame.specs.Frames.{FrameValue}
use Rattle.std.proofs.Math.Nat.{min-eq_left}
use Rattle.y4m_io.specs.FrameTexts.{picture_text, frame_text, frames_text, IsFrameAt, AreFramesThen}
use Rattle.y4m_io.specs.Files.{IsDamage}
use Rattle.y4m_io.proofs.FrameListLemmas.{frames_text-push}
use Rattle.y4m_io.proofs.MarkLemmas.{length-mark}
use Rattle.y4m_io.proofs.FrameRuns.{AreFramesThen-append, AreFramesThen-rest}
use Rattle.avgraph.specs.Chains.{through, passed}
use Rattle.av_host.specs.HostRuns.{ReadsSome, WritesPart}
use Rattle.y4m_io.specs.Reading.{Reading, GivesFrame, GivesEnd, IsPlaced, Gives}
use Rattle.av_frame.specs.declared.faults.NextError.{NextError}
use Rattle.av_frame.specs.declared.faults.NextError.TheVariants as next
use Rattle.av_frame.specs.declared.faults.WriteError.{WriteError}
use Rattle.av_frame.specs.declared.faults.WriteError.TheVariants as write
use Rattle.y4m_io.specs.Writing.{Writing, counted}
use Rattle.y4m_io.specs.declared.y4m_state.Progress.{Progress}
use Rattle.y4m_io.specs.declared.y4m_state.Progress.TheVariants.{Started}
use Rattle.avgraph.specs.declared.report.Counts.{Counts}
use Rattle.avgraph.specs.Running.{Moves, AreWhole, MovesAll, MovesWhole, MovesPart, IsDamagedAfter, Damaged, Broken, Runs, passed_text, stop_of_write}
use Rattle.avgraph.specs.Stops.{IsHostStop, next_stop}
use Rattle.node_core.specs.Shaping.{ReadyValue}
use Rattle.av_faults.specs.declared.fault.Fault.TheVariants.{ReadFault}
use Rattle.av_faults.specs.declared.fault.Stop.{Stop}
use Rattle.av_faults.specs.declared.fault.Stop.TheVariants as stop
use Rattle.avgraph.proofs.ChainLemmas.{through-nil, through-push}

-- ---- texts of frames

passed_text-push : (readies : List ReadyValue) (xs : List FrameValue) (f : FrameValue) → passed_text readies (xs ++ f ∷ []) ≡ passed_text readies xs ++ frame_text (passed readies f).planes
passed_text-push readies xs f = ap frames_text (through-push readies xs f) ∙ frames_text-push (through readies xs) (passed readies f)

-- ---- the loop

pub Moves-nil : (w : World) (input output : ℕ) → Moves w w input output [] []
Moves-nil w input output = record { held = refl; inputs = Takes-nil w.inputs input; outputs = Alters-nil w.outputs output; said = refl }

pub Moves-reads : {a b c : World} {input output : ℕ} {got put xs : List ℕ} → Moves a b input output got put → Reads b c input xs → Moves a c input output (got ++ xs) put
Moves-reads p q = record {
  held = q.held ∙ p.held;
  inputs = Takes-append p.inputs q.inputs;
  outputs = rw q.outputs p.outputs;
  said = q.said ∙ p.said;
}

pub Moves-changes : {a b c : World} {input output : ℕ} {got put : List ℕ} (ys : List ℕ) → Moves a b input output got put → Changes b c output (appended ys) → Moves a c input output got (put ++ ys)
Moves-changes {put = put} ys p q = record {
  held = q.held ∙ p.held;
  inputs = rw q.inputs p.inputs;
  outputs = Alters-append put ys p.outputs q.outputs;
  said = q.said ∙ p.said;
}

-- How far the loop has come: which frames were read, and that they were written. The limit leaves `room` bytes of `total`, and of
-- `bytes` that were written `start` are the header.
pub record SoFar (shape : Shape) (readies : List ReadyValue) (total start : ℕ) (old new : World) (input output room frames bytes : ℕ) : Type 0 where
  pub got : List FrameValue
  pub text : List ℕ
  pub are_frames : AreFramesThen shape 0 text got []
  pub count : length got ≡ frames
  pub size : length text + room ≡ total
  pub six : 6 * frames + room ≤ total
  pub bytes_are : bytes ≡ start + length (passed_text readies got)
  pub small : length (passed_text readies got) ≤ 67_108_870 * frames
  pub moves : Moves old new input output text (passed_text readies got)

pub SoFar-none : (shape : Shape) (readies : List ReadyValue) (total start : ℕ) (w : World) (input output : ℕ) → SoFar shape readies total start w w input output total 0 start
SoFar-none shape readies total start w input output = record {
  got = [];
  text = [];
  are_frames = refl;
  count = refl;
  size = omega arith;
  six = omega arith;
  bytes_are = let e = ap (λ (xs : List FrameValue). length (frames_text xs)) (through-nil readies) in omega arith;
  small = let e = ap (λ (xs : List FrameValue). length (frames_text xs)) (through-nil readies) in omega arith;
  moves = subst (λ (z : List ℕ). Moves w w input output [] z) (sym (ap frames_text (through-nil readies))) (Moves-nil w input output);
}

-- what was read so far is whole
are_whole : {shape : Shape} {readies : List ReadyValue} {total start : ℕ} {a b : World} {input output room frames bytes : ℕ} (s : SoFar shape readies total start a b input output room frames bytes) → AreWhole shape total s.text s.got
are_whole s = record { are_frames = s.are_frames; within = let size = s.size in omega arith }

-- what was left when the loop began is damaged after these frames
pub SoFar-damage : {shape : Shape} {readies : List ReadyValue} {total start : ℕ} {a b : World} {input output room frames bytes : ℕ} (s : SoFar shape readies total start a b input output room frames bytes) (e : NextError)
    → ForSome (b.inputs.left input) (λ rest. IsDamage shape room frames rest e) → ForSome (a.inputs.left input) (IsDamagedAfter shape total s.got e)
SoFar-damage {shape} {readies} {total} {start} {a} {b} {input} {output} {room} {frames} {bytes} s e damage = λ x is.
    let rest = drop (length s.text) x in
    let begins = s.moves.inputs.begins x is in
    let long = ap length begins ∙ length-append s.text rest in
    let size = s.size in
    let left : room ≡ total - (length x - length rest) = omega arith in
    record {
      rest = rest;
      are_frames = subst (λ (z : List ℕ). AreFramesThen shape 0 z s.got rest) (sym begins) (AreFramesThen-rest shape 0 s.text s.got rest s.are_frames);
      is_damage = subst (λ (n : ℕ). IsDamage shape (total - (length x - length rest)) n rest e) (sym s.count)
          (subst (λ (n : ℕ). IsDamage shape n frames rest e) left (damage rest (s.moves.inputs.left x is)));
    }

-- the run was stopped by damage after whole frames were written
pub SoFar-damaged : {shape : Shape} {readies : List ReadyValue} {total start : ℕ} {a b c : World} {input output room frames bytes : ℕ} (s : SoFar shape readies total start a b input output room frames bytes) (e : NextError)
    → IsPlaced shape room frames e → ReadsSome b c input → ForSome (b.inputs.left input) (λ rest. IsDamage shape room frames rest e) → (m : MovesWhole shape readies total a c input output) × IsPlaced shape (total - length m.got) (length m.frames) e × ForSome (a.inputs.left input) (IsDamagedAfter shape total m.frames e)
SoFar-damaged {shape} {readies} {total} {start} {a} {b} {c} {input} {output} {room} {frames} {bytes} s e placed r damage = (
  record { frames = s.got; got = s.text; rest = r.0; are_whole = are_whole s; moves = Moves-reads s.moves r.1 },
  subst (λ (n : ℕ). IsPlaced shape n (length s.got) e) (let size = s.size in let left : room ≡ total - length s.text = omega arith in left) (subst (λ (n : ℕ). IsPlaced shape room n e) (sym s.count) placed),
  SoFar-damage s e damage,
)

-- the run was stopped after whole frames were written
pub SoFar-part : {shape : Shape} {readies : List ReadyValue} {total start : ℕ} {a b c : World} {input output room frames bytes : ℕ} → SoFar shape readies total start a b input output room frames bytes → ReadsSome b c input → MovesPart shape readies total a c input output
SoFar-part {readies = readies} s r = record {
  frames = s.got;
  got = s.text;
  rest = r.0;
  count = length (passed_text readies s.got);
  are_whole = are_whole s;
  moves = rw take-length (Moves-reads s.moves r.1);
}

module _ {shape : Shape} {readies : List ReadyValue} {total start : ℕ} {a b c : World} {reader after : Reading} {output bytes : ℕ} (s : SoFar shape readies total start a b reader.id output reader.room reader.frames bytes) where
  module _ {f : FrameValue} (g : GivesFrame shape b c reader after f) where
    -- the text with one more frame that is read
    abbrev text_more : List ℕ
    text_more = s.text ++ (g.mark ++ picture_text f.planes)

    long_more : length text_more ≡ length s.text + length (g.mark ++ picture_text f.planes)
    long_more = length-append s.text (g.mark ++ picture_text f.planes)

    are_more : AreFramesThen shape 0 text_more (s.got ++ f ∷ []) []
    are_more =
        AreFramesThen-append shape 0 s.text (g.mark ++ picture_text f.planes) s.got (f ∷ []) [] s.are_frames (
          g.mark,
          [],
          g.is_mark,
          subst (λ (n : ℕ). IsFrameAt shape n f) (let e = s.count in let h : reader.frames ≡ 0 + length s.got = omega arith in h) g.frame,
          ap (λ (z : List ℕ). g.mark ++ z) (sym (append-nil (picture_text f.planes))),
          refl,
        )

    moves_more : Moves a c reader.id output text_more (passed_text readies s.got)
    moves_more = Moves-reads s.moves g.reads

    -- what was read is within the limit
    whole_more : AreWhole shape total text_more (s.got ++ f ∷ [])
    whole_more = record { are_frames = are_more; within = let long = long_more in let size = s.size in let within = g.within in omega arith }

  pub SoFar-more : {d : World} {f : FrameValue} → GivesFrame shape b c reader after f → Changes c d output (appended (frame_text (passed readies f).planes)) → length (frame_text (passed readies f).planes) ≤ 67_108_870
      → SoFar shape readies total start a d reader.id output after.room after.frames (bytes + length (frame_text (passed readies f).planes))
  SoFar-more {d} {f} g q large = record {
    got = s.got ++ f ∷ [];
    text = text_more g;
    are_frames = are_more g;
    count = length_push s.got f ∙ (ap (λ (n : ℕ). n + 1) s.count ∙ sym (ap (λ (r : Reading). r.frames) g.after_is));
    size =
        let room = ap (λ (r : Reading). r.room) g.after_is in
        let long = long_more g in
        let size = s.size in
        let within = g.within in
        omega arith;
    six =
        let room = ap (λ (r : Reading). r.room) g.after_is in
        let frames = ap (λ (r : Reading). r.frames) g.after_is in
        let text = length-append g.mark (picture_text f.planes) in
        let mark = length-mark g.is_mark in
        let six = s.six in
        let within = g.within in
        omega arith;
    bytes_are = ap (λ (n : ℕ). n + length (frame_text (passed readies f).planes)) s.bytes_are ∙ grown start;
    small =
        let frames = ap (λ (r : Reading). r.frames) g.after_is in
        let more = longer in
        let small = s.small in
        omega arith;
    moves = rw passed_text-push (Moves-changes (frame_text (passed readies f).planes) (moves_more g) q);
  }
    where
      longer : length (passed_text readies (s.got ++ f ∷ [])) ≡ length (passed_text readies s.got) + length (frame_text (passed readies f).planes)
      longer = ap length (passed_text-push readies s.got f) ∙ length-append (passed_text readies s.got) (frame_text (passed readies f).planes)

      grown : (n : ℕ) → (n + length (passed_text readies s.got)) + length (frame_text (passed readies f).planes) ≡ n + length (passed_text readies (s.got ++ f ∷ []))
      grown n = let more = longer in omega arith

  -- all was read
  pub SoFar-done : (counts : Counts) → counts.frames ≡ reader.frames → counts.bytes ≡ bytes → GivesEnd b c reader after → MovesAll shape readies total start a c reader.id output counts
  SoFar-done counts frames_are bytes_now g = record {
    frames = s.got;
    got = s.text;
    are_whole = are_whole s;
    frames_counted = frames_are ∙ sym s.count;
    bytes_counted = bytes_now ∙ s.bytes_are;
    moves = rw append-nil at (Moves-reads s.moves g.reads);
    all = λ x e.
        s.moves.inputs.begins x e
        ∙ (ap (λ (z : List ℕ). s.text ++ z) (g.ended (drop (length s.text) x) (s.moves.inputs.left x e)) ∙ append-nil s.text);
  }

  -- the run was stopped after a frame was read
  pub SoFar-read : {f : FrameValue} → GivesFrame shape b c reader after f → MovesPart shape readies total a c reader.id output
  SoFar-read {f} g = record {
    frames = s.got ++ f ∷ [];
    got = text_more g;
    rest = [];
    count = length (passed_text readies s.got);
    are_whole = whole_more g;
    moves = rw (append-nil, passed_text-push, take-append-le (length (passed_text readies s.got)) (passed_text readies s.got) (frame_text (passed readies f).planes) (omega arith), take-length) (moves_more g);
  }

  -- the run was stopped within a frame's text
  pub SoFar-write_part : {d : World} {f : FrameValue} → GivesFrame shape b c reader after f → WritesPart c d output (frame_text (passed readies f).planes) → MovesPart shape readies total a d reader.id output
  SoFar-write_part {d} {f} g q = record {
    frames = s.got ++ f ∷ [];
    got = text_more g;
    rest = [];
    count = length (passed_text readies s.got) + q.0;
    are_whole = whole_more g;
    moves = rw (append-nil, passed_text-push, take-append-add (passed_text readies s.got) (frame_text (passed readies f).planes) q.0) (Moves-changes (take q.0 (frame_text (passed readies f).planes)) (moves_more g) q.1);
  }

-- ---- the calls of the loop

-- a count of so many frames' bytes fits in 64 bits
pub counts_exactly : (bytes start total size frames room text : ℕ) → total ≤ 2 ^ 40 → start ≤ 1024 → 6 * frames + room ≤ total → bytes ≡ start + text → text ≤ 67_108_870 * frames → size ≤ 67_108_870
    → counted bytes size ≡ bytes + size
counts_exactly bytes start total size frames room text a b c d e f = min-eq_left (omega arith)

-- a writer that wrote more is as before but for its count
same_writer : (a b : Writing) (n : ℕ) → a ≡ record b { bytes = n } → a.id ≡ b.id
same_writer a b n e = ap (λ (w : Writing). w.id) e

-- and so it is after the next frame
pub same_after : (before first after : Writing) (n : ℕ) → before ≡ record first { bytes = before.bytes } → after ≡ record before { progress = Started; bytes = n } → first.progress ≡ Started → after ≡ record first { bytes = after.bytes }
same_after before first after n same is started =
    let bytes = ap (λ (w : Writing). w.bytes) is in
    let step : after ≡ record first { progress = Started; bytes = n } = is ∙ ap (λ (w : Writing). record w { progress = Started; bytes = n }) same in
    let back : after ≡ record first { bytes = n } = step ∙ ap (λ (p : Progress). record first { progress = p; bytes = n }) (sym started) in
    back ∙ ap (λ (m : ℕ). record first { bytes = m }) (sym bytes)

module _ (shape : Shape) (readies : List ReadyValue) {a b : World} (reader first : Reading) (writer now : Writing) (same_now : now ≡ record writer { bytes = now.bytes })
    (s : SoFar shape readies first.room writer.bytes a b reader.id writer.id reader.room reader.frames now.bytes) where
  -- a frame was read, passed through the filters and written
  pub step : {c d : World} {after : Reading} {f out : FrameValue} → GivesFrame shape b c reader after f → out ≡ passed readies f → Changes c d now.id (appended (frame_text out.planes)) → length (frame_text out.planes) ≤ 67_108_870
      → SoFar shape readies first.room writer.bytes a d after.id writer.id after.room after.frames (now.bytes + length (frame_text out.planes))
  step {c} {d} {after} {f} {out} g e q large =
      let id = same_writer now writer now.bytes same_now in
      let changes : Changes c d writer.id (appended (frame_text (passed readies f).planes)) =
      subst (λ (n : ℕ). Changes c d n (appended (frame_text (passed readies f).planes))) id (subst (λ (x : FrameValue). Changes c d now.id (appended (frame_text x.planes))) e q) in
      let small : length (frame_text (passed readies f).planes) ≤ 67_108_870 = subst (λ (x : FrameValue). length (frame_text x.planes) ≤ 67_108_870) e large in
      subst (λ (x : FrameValue). SoFar shape readies first.room writer.bytes a d after.id writer.id after.room after.frames (now.bytes + length (frame_text x.planes))) (sym e)
      (subst (λ (n : ℕ). SoFar shape readies first.room writer.bytes a d n writer.id after.room after.frames (now.bytes + length (frame_text (passed readies f).planes))) (sym (ap (λ (r : Reading). r.id) g.after_is)) (SoFar-more s g changes small))

  damaged_run : (limit : ℕ) (c : World) (e : NextError) → reader.id ≡ first.id → IsPlaced shape reader.room reader.frames e → ReadsSome b c reader.id → ForSome (b.inputs.left reader.id) (λ rest. IsDamage shape reader.room reader.frames rest e) → ¬ IsHostStop (next_stop limit e)
      → Runs limit shape readies a c first writer (Err (next_stop limit e))
  damaged_run limit c e same placed r damage no_host =
      let halted = subst (λ (id : ℕ). (m : MovesWhole shape readies first.room a c id writer.id) × IsPlaced shape (first.room - length m.got) (length m.frames) e × ForSome (a.inputs.left id) (IsDamagedAfter shape first.room m.frames e)) same (SoFar-damaged s e placed r damage) in
      Damaged e halted.0 halted.1 halted.2 refl no_host

  part_run : (limit : ℕ) {c : World} (stops : Stop) → IsHostStop stops → reader.id ≡ first.id → ReadsSome b c reader.id → Runs limit shape readies a c first writer (Err stops)
  part_run limit {c} stops host same r = Broken host (subst (λ (id : ℕ). MovesPart shape readies first.room a c id writer.id) same (SoFar-part s r))

  -- the next frame couldn't be read
  pub next_refused : (limit : ℕ) (c : World) (after : Reading) (error : NextError) → reader.id ≡ first.id → Gives shape b c reader after (Err error) → Runs limit shape readies a c first writer (Err (next_stop limit error))
  next_refused limit c after (next.BadFrame k) same g = damaged_run limit c (next.BadFrame k) same g.0 g.1.reads (λ x e. (g.0.0, g.1.cause x e)) (λ h. h)
  next_refused limit c after (next.Truncated k) same g = damaged_run limit c (next.Truncated k) same g.0 g.1.reads (λ x e. (g.0.0, g.1.cause x e)) (λ h. h)
  next_refused limit c after next.TooLong same g = damaged_run limit c next.TooLong same g.0 g.1.reads (λ x e. g.1.cause x e) (λ h. h)
  next_refused limit c after next.Host same g = part_run limit (stop.Fault ReadFault) tt same g.reads
  next_refused limit c after next.NoMemory same g = part_run limit stop.NoMemory tt same ([], subst (λ (w : World). Reads b w reader.id []) (sym g.0) (Reads-nil b reader.id))

  -- there was no memory for the frame after a filter
  pub pass_refused : (limit : ℕ) {c : World} {after : Reading} {f : FrameValue} → reader.id ≡ first.id → GivesFrame shape b c reader after f → Runs limit shape readies a c first writer (Err stop.NoMemory)
  pass_refused limit {c} same g = Broken tt (subst (λ (id : ℕ). MovesPart shape readies first.room a c id writer.id) same (SoFar-read s g))

  -- the frame that came out was not written whole
  pub write_refused : (limit : ℕ) {c d : World} {after : Reading} {f out : FrameValue} (error : WriteError) → reader.id ≡ first.id → GivesFrame shape b c reader after f → out ≡ passed readies f
      → WritesPart c d now.id (frame_text out.planes) → Runs limit shape readies a d first writer (Err (stop_of_write error))
  write_refused limit {c} {d} {after} {f} {out} error same g e q =
      let id = same_writer now writer now.bytes same_now in
      let part : WritesPart c d writer.id (frame_text (passed readies f).planes) =
      subst (λ (n : ℕ). WritesPart c d n (frame_text (passed readies f).planes)) id (subst (λ (x : FrameValue). WritesPart c d now.id (frame_text x.planes)) e q) in
      by_error error (subst (λ (n : ℕ). MovesPart shape readies first.room a d n writer.id) same (SoFar-write_part s g part))
    where
      by_error : (x : WriteError) → MovesPart shape readies first.room a d first.id writer.id → Runs limit shape readies a d first writer (Err (stop_of_write x))
      by_error write.Host p = Broken tt p
      by_error write.NoMemory p = Broken tt p

  -- all was read and written
  pub finished : {c d : World} {after : Reading} (counts : Counts) → counts.frames ≡ after.frames → counts.bytes ≡ counted now.bytes (length {A = ℕ} []) → writer.bytes ≤ 1024 → first.room ≤ 2 ^ 40 → reader.id ≡ first.id → GivesEnd b c reader after → Changes c d now.id (appended [])
      → MovesAll shape readies first.room writer.bytes a d first.id writer.id counts
  finished {c} {d} {after} counts frames_are bytes_are short limited same g q =
      let id = same_writer now writer now.bytes same_now in
      let exact : counted now.bytes (length {A = ℕ} []) ≡ now.bytes + 0 = counts_exactly now.bytes writer.bytes first.room 0 reader.frames reader.room (length (passed_text readies s.got)) limited short s.six s.bytes_are s.small (omega arith) in
      let all = SoFar-done s counts (frames_are ∙ ap (λ (r : Reading). r.frames) g.after_is) (bytes_are ∙ (exact ∙ (let e : now.bytes + 0 ≡ now.bytes = omega arith in e))) g in
      let changes : Changes c d writer.id (appended []) = subst (λ (n : ℕ). Changes c d n (appended [])) id q in
      subst (λ (n : ℕ). MovesAll shape readies first.room writer.bytes a d n writer.id counts) same
      (record {
        frames = all.frames;
        got = all.got;
        are_whole = all.are_whole;
        frames_counted = all.frames_counted;
        bytes_counted = all.bytes_counted;
        moves = subst (λ (z : List ℕ). Moves a d reader.id writer.id all.got z) (append-nil (passed_text readies all.frames)) (Moves-changes [] all.moves changes);
        all = all.all;
      })
