-- The command: an input is opened, an output created, and the loop runs.
use Rattle.std.proofs.Common.{◌≡◌, ◌≢◌, true, false, ℕ, ◌+◌, ◌-◌, ◌≤◌, ◌⊎◌, List, [], ◌∷◌, ◌++◌, take, drop, length, None, Some, Ok, Err, Option, Result, Bool, refl, ◌∙◌, ap, sym, subst, arith, inl, inr, length-append, append_assoc}
use Rattle.std.specs.Option.{ForSome}
use Rattle.std.proofs.lemmas.List.{append-nil, drop_all}
use Rattle.std.proofs.lemmas.List.{drop-drop}
use Rattle.std.proofs.lemmas.Bool.{cases_order}
use Rattle.std.proofs.lemmas.Option.{same_Some}
use Rattle.std.proofs.Math.Seq.{take-append-add}
use Rattle.av_base.specs.declared.shapes.Shape.{Shape}
use Rattle.av_base.specs.declared.shapes.Props.{Props}
use Rattle.av_base.specs.declared.shapes.Props.TheVariants as props
use Rattle.av_base.specs.declared.formats.Format.{Format}
use Rattle.av_base.specs.declared.formats.Format.TheVariants as format
use Rattle.av_base.specs.Shapes.{IsPictured}
use Rattle.av_host.specs.World.{World, Inputs, Outputs}
use Rattle.av_host.specs.Calls.{Stays, AddsInput, Takes, Opens, Reads, Creates}
use Rattle.av_host.specs.declared.host.HostError.{HostError}
use Rattle.av_host.specs.declared.host.HostError.TheVariants as host
use Rattle.av_host.specs.HostRuns.{WritesPart}
use Rattle.av_host.proofs.Runs.{Changes-nil}
use Rattle.av_frame.specs.declared.faults.HeadError.{HeadError}
use Rattle.av_frame.specs.declared.faults.HeadError.TheVariants as head
use Rattle.av_frame.specs.declared.faults.NextError.{NextError}
use Rattle.av_frame.specs.declared.faults.WriteError.{WriteError}
use Rattle.av_frame.specs.declared.faults.WriteError.TheVariants as write
use Rattle.av_frame.specs.Frames.{FrameValue}
use Rattle.y4m_header.specs.HeaderTexts.{HasHeader, IsWritable, header_text}
use Rattle.y4m_header.specs.HeaderLaws.{longest_line}
use Rattle.y4m_io.specs.Heads.{HasHead, IsHeadFault}
use Rattle.y4m_io.specs.Files.{BeginsFile, IsDamage, HasDamage, open_text}
use Rattle.y4m_io.specs.Reading.{Reading, Heads, IsPlaced}
use Rattle.y4m_io.specs.Writing.{Writing}
use Rattle.y4m_io.proofs.FrameRuns.{AreFramesThen-rest}
use Rattle.av_faults.specs.Faults.{stop_status}
use Rattle.av_faults.specs.declared.fault.Stop.{Stop}
use Rattle.avgraph.specs.Chains.{Flow, ChainValue, AreReady, through}
use Rattle.avgraph.specs.Answers.{Answer, Readied, answer_of, HasFormats, HasRate, FramesGive, ShapeGives, FileGives}
use Rattle.avgraph.specs.Stops.{IsHostStop, head_stop, next_stop}
use Rattle.avgraph.specs.Requests.{Request}
use Rattle.avgraph.specs.declared.report.Counts.{Counts}
use Rattle.avgraph.specs.Running.{Moves, AreWhole, MovesAll, MovesWhole, MovesPart, IsDamagedAfter, Damaged, Broken, Runs, passed_text, stop_of_write}
use Rattle.avgraph.specs.Commands.{MayHold, IsOpened, AreReadToEnd, AreCounts, HeadIsRead, LeavesAll, Leaves, OpensWell, IsHeadStop, OpensFile, CreatesWith, CreatesPart, CreatesFile, KeepsInputs, IsChainFor, StopsShape, StandsIn, PreparesWell, Prepares, Finishes, Breaks, Damages, Refused, Interrupted, Spoiled, Commands, stop_of_opening}
use Rattle.y4m_io.proofs.Examples.{some_not_media, some_bad_header, some_bad_colour, some_damage, then_within}
use Rattle.y4m_io.proofs.FrameListLemmas.{rest_shorter}
use Rattle.avgraph.proofs.ChainLemmas.{through-nil, through-length}

-- ---- what an input may hold

pub may_hold : (held : Option (List ℕ)) (P : List ℕ → Type 0) (bytes : List ℕ) → P bytes → ((x : List ℕ) → held ≡ Some x → P x) → MayHold held P
may_hold None P bytes p told = (bytes, (λ x e. absurd cc), p)
may_hold (Some all) P bytes p told = (all, (λ x e. sym (same_Some all x e)), told all refl)

same_id : (a b : ℕ) → (a ≡ b) ⊎ (a ≢ b)
same_id a b = elim (cases_order a b) [
  | inl e ↦ inl e
  | inr apart ↦ elim apart [ inl less ↦ inr (λ e. absurd (omega arith)) | inr more ↦ inr (λ e. absurd (omega arith)) ]
]

-- ---- other inputs

KeepsInputs-same : {a b : Inputs} → b ≡ a → KeepsInputs a b
KeepsInputs-same e = record { is_open = λ id h. ap (λ (i : Inputs). i.is_open id) e ∙ h; left = λ id h. ap (λ (i : Inputs). i.left id) e }

KeepsInputs-append : {a b c : Inputs} → KeepsInputs a b → KeepsInputs b c → KeepsInputs a c
KeepsInputs-append p q = record { is_open = λ id h. q.is_open id (p.is_open id h); left = λ id h. q.left id (p.is_open id h) ∙ p.left id h }

-- an input that was not open
other_input : (a : Inputs) {id other : ℕ} → a.is_open id ≡ false → a.is_open other ≡ true → other ≢ id
other_input a {id} {other} closed open_is e = let h = ap a.is_open e in cc

KeepsInputs-adds : {a b : Inputs} {id : ℕ} {rest : Option (List ℕ)} → AddsInput a b id rest → KeepsInputs a b
KeepsInputs-adds {a} {b} {id} p = record {
  is_open = λ other h. p.is_open.elsewhere other (other_input a p.is_new h) ∙ h;
  left = λ other h. p.rest.elsewhere other (other_input a p.is_new h);
}

-- bytes of an input that was opened since are read
KeepsInputs-takes : {a b c : Inputs} {id : ℕ} {got : List ℕ} → a.is_open id ≡ false → KeepsInputs a b → Takes b c id got → KeepsInputs a c
KeepsInputs-takes {a} {b} {c} {id} closed p t = record {
  is_open = λ other h. ap (λ (f : ℕ → Bool). f other) t.is_open ∙ p.is_open other h;
  left = λ other h. t.elsewhere other (other_input a closed h) ∙ p.left other h;
}

-- ---- opening

LeavesAll-stays : {a b : World} → Stays a b → LeavesAll a b
LeavesAll-stays s = record { held = s.held; inputs = KeepsInputs-same s.inputs; said = s.said; outputs = s.outputs }

pub opening_refused : (limit : ℕ) (a b : World) (name : List ℕ) (error : HostError) → Stays a b → OpensFile limit a b name (Err (stop_of_opening error))
opening_refused limit a b name host.Failed s = (LeavesAll-stays s, inl tt)
opening_refused limit a b name host.NoMemory s = (LeavesAll-stays s, inl tt)

LeavesAll-opens : {a b : World} {name : List ℕ} {id : ℕ} → Opens a b name id → LeavesAll a b
LeavesAll-opens o = record { held = o.held; inputs = KeepsInputs-adds o.inputs; said = o.said; outputs = o.outputs }

LeavesAll-reads : {a b c : World} {name : List ℕ} {id : ℕ} {got : List ℕ} → Opens a b name id → Reads b c id got → LeavesAll a c
LeavesAll-reads {a} {b} {c} o r = record {
  held = r.held ∙ o.held;
  inputs = KeepsInputs-takes o.inputs.is_new (KeepsInputs-adds o.inputs) r.inputs;
  said = r.said ∙ o.said;
  outputs = r.outputs ∙ o.outputs;
}

-- the header has a fault, of which a file without a told content could be an example
head_refused : (limit : ℕ) (a b c : World) (name : List ℕ) (reader : Reading) (error : HeadError) → Opens a b name reader.id → reader.room ≡ limit → (got : List ℕ) → Reads b c reader.id got
    → ((x : List ℕ) × IsHeadFault limit x error) → ForSome (b.inputs.left reader.id) (λ left. IsHeadFault reader.room left error) → OpensFile limit a c name (Err (head_stop limit error))
head_refused limit a b c name reader error o e got r example cause = (
  LeavesAll-reads o r,
  inr (may_hold (a.held name) (IsHeadStop limit (head_stop limit error)) example.0 (record { error = error; is_fault = example.1; stops_is = refl })
      (λ x held. record { error = error; is_fault = subst (λ (n : ℕ). IsHeadFault n x error) e (cause x (o.inputs.rest.here ∙ held)); stops_is = refl })),
)

-- the header couldn't be read
pub heading_refused : (limit : ℕ) (a b c : World) (name : List ℕ) (reader after : Reading) (error : HeadError) → longest_line ≤ limit → Opens a b name reader.id → reader.room ≡ limit → Heads b c reader after (Err error)
    → OpensFile limit a c name (Err (head_stop limit error))
heading_refused limit a b c name reader after head.NotMedia long o e h = head_refused limit a b c name reader head.NotMedia o e h.reads.0 h.reads.1 (some_not_media limit long) h.cause
heading_refused limit a b c name reader after head.BadHeader long o e h = head_refused limit a b c name reader head.BadHeader o e h.reads.0 h.reads.1 (some_bad_header limit long) h.cause
heading_refused limit a b c name reader after head.BadColour long o e h = head_refused limit a b c name reader head.BadColour o e h.reads.0 h.reads.1 (some_bad_colour limit long) h.cause
heading_refused limit a b c name reader after head.TooLong long o e h = absurd (let low = h.0 in omega arith)
heading_refused limit a b c name reader after head.Host long o e h = (LeavesAll-reads o h.reads.1, inl tt)
heading_refused limit a b c name reader after head.NoMemory long o e h = (subst (λ (w : World). LeavesAll a w) (sym h.0) (LeavesAll-opens o), inl tt)

pub creating_refused : (a b : World) (name : List ℕ) (shape : Shape) (error : HostError) → Stays a b → CreatesFile a b name shape (Err (stop_of_opening error))
creating_refused a b name shape host.Failed s = (tt, inl (LeavesAll-stays s))
creating_refused a b name shape host.NoMemory s = (tt, inl (LeavesAll-stays s))

-- the output was created, and nothing was written
pub created_only : {a b : World} {name : List ℕ} {id : ℕ} (shape : Shape) → Creates a b name id → CreatesPart a b name shape
created_only {a} {b} {name} {id} shape k = inr (id, 0, record { created = b; creates = k; writes = Changes-nil b id })

-- the header was not written to its end
pub starting_refused : (a b c : World) (name : List ℕ) (shape : Shape) (id : ℕ) (error : WriteError) → Creates a b name id → WritesPart b c id (header_text shape) → CreatesFile a c name shape (Err (stop_of_write error))
starting_refused a b c name shape id write.Host k p = (tt, inr (id, p.0, record { created = b; creates = k; writes = p.1 }))
starting_refused a b c name shape id write.NoMemory k p = (tt, inr (id, p.0, record { created = b; creates = k; writes = p.1 }))

-- ---- the whole

-- of what can be written the rate is known
rate_known : (f : Format) (p : Props) → HasHeader f p → HasRate p
rate_known (format.Video f) (props.Video p) h = h.1
rate_known (format.Video f) (props.Audio p) h = h
rate_known (format.Audio f) (props.Video p) h = absurd h
rate_known (format.Audio f) (props.Audio p) h = h

-- printing aside, nothing of the outputs changed since the input was opened
module _ {limit : ℕ} {a b : World} {input : List ℕ} {reader : Reading} {shape : Shape} (o : OpensWell limit a b input reader shape) where
  -- the header line, with its line feed
  abbrev front : List ℕ
  front = o.line ++ 10 ∷ []

  -- the room that the limit leaves after it
  abbrev room : ℕ
  room = limit - (length o.line + 1)

  front_long : length front ≡ length o.line + 1
  front_long = length-append o.line (10 ∷ [])

  opened : LeavesAll a b
  opened = LeavesAll-reads o.opens o.reads

  -- if the input is known, it begins with the header line
  begins : (x : List ℕ) → a.held input ≡ Some x → x ≡ front ++ drop (length front) x
  begins x e = o.reads.inputs.begins x (o.opens.inputs.rest.here ∙ e)

  left : (x : List ℕ) → a.held input ≡ Some x → b.inputs.left reader.id ≡ Some (drop (length front) x)
  left x e = o.reads.inputs.left x (o.opens.inputs.rest.here ∙ e)

  -- bytes that begin with the line have the header
  abbrev head_of : (tail : List ℕ) → HasHead limit (front ++ tail) shape
  head_of tail = record {
    line = o.line;
    has_line = record { rest = tail; bytes_are = append_assoc o.line (10 ∷ []) tail; no_feed = o.no_feed; short = o.short; within = o.within };
    means = o.means;
  }

  has_head : (x : List ℕ) → a.held input ≡ Some x → HasHead limit x shape
  has_head x e = subst (λ (z : List ℕ). HasHead limit z shape) (sym (begins x e)) (head_of (drop (length front) x))

  -- after the line there are whole frames and a rest
  file_of : (got rest : List ℕ) (frames : List FrameValue) → AreWhole shape room got frames → BeginsFile limit (front ++ (got ++ rest)) shape frames rest
  file_of got rest frames are = record {
    has_head = head_of (got ++ rest);
    are_frames = AreFramesThen-rest shape 0 got frames rest are.are_frames;
    within =
        let long = length-append front (got ++ rest) in
        let more = length-append got rest in
        let first = front_long in
        let low = o.within in
        let within = are.within in
        omega arith;
  }

  -- an input of this beginning comes to what its shape comes to
  gives_shape : (flow : Flow) (stops : Stop) → stop_status stops ≢ 9 → ((bytes : List ℕ) → ShapeGives limit flow bytes shape (Err stops)) → StandsIn limit flow (a.held input) stops
  gives_shape flow stops no_damage given = record {
    may = may_hold (a.held input) (λ x. FileGives limit flow x (Err stops)) (front ++ []) (inr (shape, head_of [], given (front ++ []))) (λ x held. inr (shape, has_head x held, given x));
    no_damage = no_damage;
  }

  -- no output was created
  created_none : {c : World} → LeavesAll b c → LeavesAll a c
  created_none l = record { held = l.held ∙ opened.held; inputs = KeepsInputs-append opened.inputs l.inputs; said = l.said ∙ opened.said; outputs = l.outputs ∙ opened.outputs }

  module _ {c : World} {output : List ℕ} {id : ℕ} {text : List ℕ} (k : CreatesWith b c output id text) where
    named : c.outputs.name id ≡ Some output
    named = ap (λ (f : ℕ → Option (List ℕ)). f id) k.writes.outputs.name ∙ k.creates.outputs.here

    inputs_stay : c.inputs ≡ b.inputs
    inputs_stay = k.writes.inputs ∙ k.creates.inputs

    leaves_created : Leaves a c output text
    leaves_created = record {
      held = k.writes.held ∙ (k.creates.held ∙ opened.held);
      inputs = KeepsInputs-append opened.inputs (KeepsInputs-same inputs_stay);
      said = k.writes.said ∙ (k.creates.said ∙ opened.said);
      content = λ x e. k.writes.outputs.content output [] k.creates.outputs.here (k.creates.outputs.empty x (ap (λ (s : Outputs). s.content output) opened.outputs ∙ e));
      other_outputs = λ other ne.
          k.writes.outputs.contents other (λ e. ne (same_Some other output (sym e ∙ k.creates.outputs.here)))
          ∙ (k.creates.outputs.contents other ne ∙ ap (λ (s : Outputs). s.content other) opened.outputs);
    }

    -- what the loop put comes after the header
    leaves_moved : {d : World} {got put : List ℕ} → Moves c d reader.id id got put → Leaves a d output (text ++ put)
    leaves_moved m = record {
      held = m.held ∙ leaves_created.held;
      inputs = KeepsInputs-takes o.opens.inputs.is_new leaves_created.inputs m.inputs;
      said = m.said ∙ leaves_created.said;
      content = λ x e. m.outputs.content output text named (leaves_created.content x e);
      other_outputs = λ other ne.
          m.outputs.contents other (λ e. ne (same_Some other output (sym e ∙ named))) ∙ leaves_created.other_outputs other ne;
    }

    -- if the input is known, the rest after its header is left when the loop begins
    left_created : (x : List ℕ) → a.held input ≡ Some x → c.inputs.left reader.id ≡ Some (drop (length front) x)
    left_created x e = ap (λ (i : Inputs). i.left reader.id) inputs_stay ∙ left x e

    -- an input is open exactly if it was or is the new one
    open_created : IsOpened a.inputs c.inputs reader.id
    open_created = record { is_new = o.opens.inputs.is_new; is_open = ap (λ (i : Inputs). i.is_open reader.id) inputs_stay ∙ (ap (λ (f : ℕ → Bool). f reader.id) o.reads.inputs.is_open ∙ o.opens.inputs.is_open.here) }

    only_created : (other : ℕ) → other ≢ reader.id → c.inputs.is_open other ≡ a.inputs.is_open other
    only_created other ne = ap (λ (i : Inputs). i.is_open other) inputs_stay ∙ (ap (λ (f : ℕ → Bool). f other) o.reads.inputs.is_open ∙ o.opens.inputs.is_open.elsewhere other ne)

    -- the header was read when the output was created
    head_created : HeadIsRead a.inputs c.inputs (a.held input)
    head_created = record {
      id = reader.id;
      opened = open_created;
      line = o.line;
      shape = shape;
      means = o.means;
      count = length front;
      read = let long = front_long in omega arith;
      left = left_created;
    }

    head_moved : {d : World} {got put : List ℕ} → Moves c d reader.id id got put → HeadIsRead a.inputs d.inputs (a.held input)
    head_moved {d} {got} m = record {
      id = reader.id;
      opened = record { is_new = o.opens.inputs.is_new; is_open = ap (λ (f : ℕ → Bool). f reader.id) m.inputs.is_open ∙ open_created.is_open };
      line = o.line;
      shape = shape;
      means = o.means;
      count = length front + length got;
      read = let long = front_long in omega arith;
      left = λ x e. m.inputs.left (drop (length front) x) (left_created x e) ∙ ap Some (drop-drop (length got) (length front) x);
    }

    -- what follows the frames that the loop read, in an input that is known
    abbrev later : (got rest x : List ℕ) → List ℕ
    later got rest x = rest ++ drop (length (got ++ rest)) (drop (length front) x)

    whole_input : {d : World} {put : List ℕ} (got rest : List ℕ) → Moves c d reader.id id (got ++ rest) put → (x : List ℕ) → a.held input ≡ Some x → x ≡ front ++ (got ++ later got rest x)
    whole_input {d} got rest m x held =
        let tail = drop (length front) x in
        begins x held ∙ ap (λ (z : List ℕ). front ++ z) (m.inputs.begins tail (left_created x held) ∙ append_assoc got rest (drop (length (got ++ rest)) tail))

    -- frames that the loop read come after the header
    file_read : {d : World} {put : List ℕ} {frames : List FrameValue} (got rest : List ℕ) → AreWhole shape room got frames → Moves c d reader.id id (got ++ rest) put
        → (x : List ℕ) → a.held input ≡ Some x → BeginsFile limit x shape frames (later got rest x)
    file_read {d} {put} {frames} got rest are m x held =
        subst (λ (z : List ℕ). BeginsFile limit z shape frames (later got rest x)) (sym (whole_input got rest m x held)) (file_of got (later got rest x) frames are)

    module _ (request : Request) (input_is : request.input ≡ input) (output_is : request.output ≡ output) (readied : Readied) (formats : (fs : List Format) × HasFormats request.flow shape.format fs)
        (ready : AreReady request.flow.path shape readied.readies readied.end) where
      -- the output holds a beginning of the frames' text
      stopped : {d : World} (put got : List ℕ) (frames : List FrameValue) (count : ℕ) → Leaves a d output put → HeadIsRead a.inputs d.inputs (a.held input) → AreWhole shape room got frames
          → ((x : List ℕ) → a.held input ≡ Some x → (rest : List ℕ) × BeginsFile limit x shape frames rest) → put ≡ take count (open_text readied.end (through readied.readies frames)) → MayHold (a.held request.input) (Breaks limit request a d)
      stopped {d} put got frames count leaves head are file put_is =
          subst (λ (n : List ℕ). MayHold (a.held n) (Breaks limit request a d)) (sym input_is)
          (may_hold (a.held input) (Breaks limit request a d) (front ++ (got ++ [])) (breaks (front ++ (got ++ [])) [] (file_of got [] frames are)) (λ x held. let whole = file x held in breaks x whole.0 whole.1))
        where
          breaks : (x rest : List ℕ) → BeginsFile limit x shape frames rest → Breaks limit request a d x
          breaks x rest file = record {
            put = put;
            leaves = subst (λ (n : List ℕ). Leaves a d n put) (sym output_is) leaves;
            head = subst (λ (n : List ℕ). HeadIsRead a.inputs d.inputs (a.held n)) (sym input_is) head;
            begun = record { shape = shape; frames = frames; rest = rest; readies = readied.readies; end = readied.end; count = count; file = file; ready = ready; put_is = put_is };
          }

      -- a beginning of the header is in the output
      begun_header : (count : ℕ) → text ≡ take count (header_text readied.end) → MayHold (a.held request.input) (Breaks limit request a c)
      begun_header count e =
          stopped text [] [] count leaves_created head_created (record { are_frames = refl; within = omega arith })
          (λ x held. (drop (length front) x, subst (λ (z : List ℕ). BeginsFile limit z shape [] (drop (length front) x)) (sym (begins x held)) (file_of [] (drop (length front) x) [] (record { are_frames = refl; within = omega arith }))))
          (e ∙ ap (take count) (sym (ap (open_text readied.end) (through-nil readied.readies) ∙ append-nil (header_text readied.end))))

      module _ (whole : text ≡ header_text readied.end) (writable : IsWritable readied.end) where
        -- what a file comes to whose header, formats, filters and rate are in order
        given : (x : List ℕ) (r : Result Answer Stop) → HasHead limit x shape → FramesGive limit x shape readied r → FileGives limit request.flow x r
        given x r head frames = inr (shape, head, inr (formats.0, formats.1, inr (readied, ready, inr (rate_known readied.end.format readied.end.props writable.header, frames))))

        stopped_part : {d : World} → MovesPart shape readied.readies room c d reader.id id → MayHold (a.held request.input) (Breaks limit request a d)
        stopped_part {d} m =
            stopped (text ++ take m.count (passed_text readied.readies m.frames)) m.got m.frames (length (header_text readied.end) + m.count) (leaves_moved m.moves) (head_moved m.moves) m.are_whole
            (λ x held. (later m.got m.rest x, file_read m.got m.rest m.are_whole m.moves x held))
            (ap (λ (z : List ℕ). z ++ take m.count (passed_text readied.readies m.frames)) whole ∙ sym (take-append-add (header_text readied.end) (passed_text readied.readies m.frames) m.count))

        -- frames were read and written, and then there is damage
        module _ {d : World} (pictured : IsPictured shape) (e : NextError) (m : MovesWhole shape readied.readies room c d reader.id id) (placed : IsPlaced shape (room - length m.got) (length m.frames) e)
            (after : ForSome (c.inputs.left reader.id) (IsDamagedAfter shape room m.frames e)) where
          damages : (x : List ℕ) → HasDamage limit x shape m.frames e → Damages limit request a d (next_stop limit e) x
          damages x has = record {
            out = open_text readied.end (through readied.readies m.frames);
            gives = given x (Err (next_stop limit e)) has.begins.has_head (inl ((m.frames, e), has, refl));
            is_good = record { shape = shape; frames = m.frames; damage = e; readied = readied; has_damage = has; ready = ready; out_is = refl };
            leaves = subst (λ (n : List ℕ). Leaves a d n (open_text readied.end (through readied.readies m.frames))) (sym output_is)
                (subst (λ (z : List ℕ). Leaves a d output (z ++ passed_text readied.readies m.frames)) whole (leaves_moved m.moves));
            head = subst (λ (n : List ℕ). HeadIsRead a.inputs d.inputs (a.held n)) (sym input_is) (head_moved m.moves);
          }

          -- a file with this damage
          example : (x : List ℕ) × HasDamage limit x shape m.frames e
          example =
              let bad = some_damage shape pictured (room - length m.got) (length m.frames) e placed in
              let x = front ++ (m.got ++ bad.0) in
              let long = length-append front (m.got ++ bad.0) in
              let more = length-append m.got bad.0 in
              let first = front_long in
              let left : room - length m.got ≡ limit - (length x - length bad.0) = omega arith in
              (x, record { rest = bad.0; begins = file_of m.got bad.0 m.frames m.are_whole; is_damage = subst (λ (n : ℕ). IsDamage shape n (length m.frames) bad.0 e) left bad.1 })

          -- the damage of the input, if it is known
          told : (x : List ℕ) → a.held input ≡ Some x → HasDamage limit x shape m.frames e
          told x held =
              let tail = drop (length front) x in
              let is = after tail (left_created x held) in
              let got_long = m.are_whole.within in
              let low = o.within in
              let first = front_long in
              let begins_x = begins x held in
              let long = ap length begins_x ∙ length-append front tail in
              let rest_long : length is.rest ≤ length tail = rest_shorter shape 0 tail m.frames is.rest is.are_frames in
              let left : room - (length tail - length is.rest) ≡ limit - (length x - length is.rest) = omega arith in
              let same : length tail - length is.rest ≤ room = then_within shape room 0 m.got m.frames tail is.rest m.are_whole.are_frames is.are_frames m.are_whole.within (m.rest ++ drop (length (m.got ++ m.rest)) tail) (m.moves.inputs.begins tail (left_created x held) ∙ append_assoc m.got m.rest (drop (length (m.got ++ m.rest)) tail)) in
              subst (λ (z : List ℕ). HasDamage limit z shape m.frames e) (sym begins_x) (record {
                rest = is.rest;
                begins = record { has_head = head_of tail; are_frames = is.are_frames; within = let whole_long = length-append front tail in omega arith };
                is_damage = subst (λ (n : ℕ). IsDamage shape n (length m.frames) is.rest e) (let whole_long = length-append front tail in let goal : room - (length tail - length is.rest) ≡ limit - (length (front ++ tail) - length is.rest) = omega arith in goal) is.is_damage;
              })

          damaged : MayHold (a.held request.input) (Damages limit request a d (next_stop limit e))
          damaged =
              subst (λ (n : List ℕ). MayHold (a.held n) (Damages limit request a d (next_stop limit e))) (sym input_is)
              (may_hold (a.held input) (Damages limit request a d (next_stop limit e)) example.0 (damages example.0 example.1) (λ x held. damages x (told x held)))

        finishes : {d : World} {counts : Counts} → MovesAll shape readied.readies room (length (header_text readied.end)) c d reader.id id counts → MayHold (a.held request.input) (Finishes limit request a d counts)
        finishes {d} {counts} m =
            let bytes = front ++ (m.got ++ []) in
            subst (λ (n : List ℕ). MayHold (a.held n) (Finishes limit request a d counts)) (sym input_is) (bytes, told, finishes_with)
          where
            told : (x : List ℕ) → a.held input ≡ Some x → x ≡ front ++ (m.got ++ [])
            told x held = begins x held ∙ ap (λ (z : List ℕ). front ++ z) (m.all (drop (length front) x) (left_created x held) ∙ sym (append-nil m.got))

            still_open : (other : ℕ) → d.inputs.is_open other ≡ c.inputs.is_open other
            still_open other = ap (λ (f : ℕ → Bool). f other) m.moves.inputs.is_open

            nothing_left : (x : List ℕ) → a.held input ≡ Some x → d.inputs.left reader.id ≡ Some []
            nothing_left x held =
                let tail = drop (length front) x in
                m.moves.inputs.left tail (left_created x held)
                ∙ ap Some (drop_all (length m.got) tail (let n = ap length (m.all tail (left_created x held)) in omega arith))

            to_end : (x : List ℕ) → a.held input ≡ Some x → AreReadToEnd a.inputs d.inputs
            to_end x held = record {
              some = (reader.id, record { is_new = o.opens.inputs.is_new; is_open = still_open reader.id ∙ open_created.is_open });
              all = λ other opened. elim (same_id other reader.id) [
                | inl e ↦ ap d.inputs.left e ∙ nothing_left x held
                | inr ne ↦ absurd (let before = opened.is_new in let now = opened.is_open in let e = still_open other ∙ only_created other ne in cc)
              ];
            }

            counts_are : AreCounts counts (answer_of readied m.frames)
            counts_are = record {
              read = m.frames_counted;
              written = m.frames_counted ∙ sym (through-length readied.readies m.frames);
              bytes = m.bytes_counted ∙ sym (length-append (header_text readied.end) (passed_text readied.readies m.frames));
            }

            finishes_with : Finishes limit request a d counts (front ++ (m.got ++ []))
            finishes_with = record {
              answer = answer_of readied m.frames;
              gives = given (front ++ (m.got ++ [])) (Ok (answer_of readied m.frames)) (head_of (m.got ++ [])) (inr (m.frames, file_of m.got [] m.frames m.are_whole, refl));
              leaves = subst (λ (n : List ℕ). Leaves a d n (open_text readied.end (through readied.readies m.frames))) (sym output_is)
                  (subst (λ (z : List ℕ). Leaves a d output (z ++ passed_text readied.readies m.frames)) whole (leaves_moved m.moves));
              to_end = subst (λ (n : List ℕ). ForSome (a.held n) (λ _. AreReadToEnd a.inputs d.inputs)) (sym input_is) to_end;
              head = subst (λ (n : List ℕ). HeadIsRead a.inputs d.inputs (a.held n)) (sym input_is) (head_moved {got = m.got} m.moves);
              counts_are = counts_are;
            }

-- ---- making ready

-- a fault of the header is no damage, and no failed call
head_no_damage : (limit : ℕ) (error : HeadError) → stop_status (head_stop limit error) ≢ 9
head_no_damage limit head.NotMedia e = omega arith
head_no_damage limit head.BadHeader e = omega arith
head_no_damage limit head.BadColour e = omega arith
head_no_damage limit head.TooLong e = omega arith
head_no_damage limit head.Host e = omega arith
head_no_damage limit head.NoMemory e = omega arith

-- the input was not opened well
pub open_refused : (limit : ℕ) (flow : Flow) (a b : World) (input : List ℕ) (stops : Stop) → OpensFile limit a b input (Err stops) → Prepares limit flow a b input (Err stops)
open_refused limit flow a b input stops (l, inl host) = (l, inl host)
open_refused limit flow a b input stops (l, inr h) = (
  l,
  inr (record {
    may = (h.0, h.1, inl (h.2.error, h.2.is_fault, ap (λ (s : Stop). let r : Result Answer Stop = Err s in r) h.2.stops_is));
    no_damage = subst (λ (s : Stop). stop_status s ≢ 9) (sym h.2.stops_is) (head_no_damage limit h.2.error);
  }),
)

-- the filters could not be made ready
pub shape_refused : (limit : ℕ) (flow : Flow) (a b : World) (input : List ℕ) (reader : Reading) (shape : Shape) (stops : Stop) → OpensWell limit a b input reader shape → StopsShape flow shape stops
    → Prepares limit flow a b input (Err stops)
shape_refused limit flow a b input reader shape stops o (inl e) = (opened o, inl (subst IsHostStop (sym e) tt))
shape_refused limit flow a b input reader shape stops o (inr h) = (opened o, inr (gives_shape o flow stops h.no_damage (h.gives limit)))

-- all is ready
pub prepared : (limit : ℕ) (flow : Flow) (a b : World) (input : List ℕ) (reader : Reading) (shape : Shape) (chain : ChainValue) → OpensWell limit a b input reader shape
    → (fs : List Format) × HasFormats flow shape.format fs → IsChainFor flow.path shape chain → IsWritable chain.end → PreparesWell limit flow a b input reader chain
prepared limit flow a b input reader shape chain o formats is writable = record {
  opens = subst (λ (s : Shape). OpensWell limit a b input reader s) (sym is.shape_is) o;
  formats = subst (λ (s : Shape). (fs : List Format) × HasFormats flow s.format fs) (sym is.shape_is) formats;
  is_chain = record { shape_is = refl; ready = subst (λ (s : Shape). AreReady flow.path s chain.readies chain.end) (sym is.shape_is) is.ready; next = is.next; fresh = is.fresh };
  writable = writable;
}

-- ---- the request

-- the input was not opened well, or the filters not made ready
pub prepare_refused : (limit : ℕ) (request : Request) (a b : World) (stops : Stop) → Prepares limit request.flow a b request.input (Err stops) → Commands limit request a b (Err stops)
prepare_refused limit request a b stops h = Refused h.0 h.1

module _ (limit : ℕ) (request : Request) {a b : World} (reader : Reading) (chain : ChainValue) (p : PreparesWell limit request.flow a b request.input reader chain) where
  abbrev readied : Readied
  readied = record { readies = chain.readies; end = chain.end }

  -- the output was not created well
  pub create_refused : (c : World) (stops : Stop) → CreatesFile b c request.output chain.end (Err stops) → Commands limit request a c (Err stops)
  create_refused c stops (host, inl l) = Refused (created_none p.opens l) (inl host)
  create_refused c stops (host, inr k) = Interrupted host (begun_header p.opens k.2 request refl refl readied p.formats p.is_chain.ready k.1 refl)

  -- the loop ran
  module _ (c d : World) (writer : Writing) (k : CreatesWith b c request.output writer.id (header_text chain.end)) (bytes : writer.bytes ≡ length (header_text chain.end)) where
    room_is : reader.room ≡ limit - (length p.opens.line + 1)
    room_is = ap (λ (v : Reading). v.room) p.opens.reader_is

    part : MovesPart chain.shape chain.readies reader.room c d reader.id writer.id → MayHold (a.held request.input) (Breaks limit request a d)
    part m = stopped_part p.opens k request refl refl readied p.formats p.is_chain.ready refl p.writable (subst (λ (n : ℕ). MovesPart chain.shape chain.readies n c d reader.id writer.id) room_is m)

    halted : (pictured : IsPictured chain.shape) (n : ℕ) → n ≡ limit - (length p.opens.line + 1) → (e : NextError) (m : MovesWhole chain.shape chain.readies n c d reader.id writer.id) → IsPlaced chain.shape (n - length m.got) (length m.frames) e
        → ForSome (c.inputs.left reader.id) (IsDamagedAfter chain.shape n m.frames e) → MayHold (a.held request.input) (Damages limit request a d (next_stop limit e))
    halted pictured n is e m placed after =
        subst (λ (r : ℕ). (w : MovesWhole chain.shape chain.readies r c d reader.id writer.id) → IsPlaced chain.shape (r - length w.got) (length w.frames) e → ForSome (c.inputs.left reader.id) (IsDamagedAfter chain.shape r w.frames e)
        → MayHold (a.held request.input) (Damages limit request a d (next_stop limit e))) (sym is)
        (λ w at from. damaged p.opens k request refl refl readied p.formats p.is_chain.ready refl p.writable pictured e w at from) m placed after

    pub commands : IsPictured chain.shape → (result : Result Counts Stop) → Runs limit chain.shape chain.readies c d reader writer result → Commands limit request a d result
    commands pictured (Ok counts) r =
        finishes p.opens k request refl refl readied p.formats p.is_chain.ready refl p.writable
        (subst (λ (m : ℕ). MovesAll chain.shape chain.readies (limit - (length p.opens.line + 1)) m c d reader.id writer.id counts) bytes (subst (λ (n : ℕ). MovesAll chain.shape chain.readies n writer.bytes c d reader.id writer.id counts) room_is r))
    commands pictured (Err stops) (Damaged e m placed after is no_host) = Spoiled (subst (λ (s : Stop). MayHold (a.held request.input) (Damages limit request a d s)) (sym is) (halted pictured reader.room room_is e m placed after))
    commands pictured (Err stops) (Broken host m) = Interrupted host (part m)
