use Rattle.std.proofs.Common.{◌≡◌, ◌≤◌, length, ℤ, pos, ◌+ℤ◌, refl, ap, sym, ◌∙◌, arith}
use Rattle.std.proofs.lemmas.Int.{ints}
use Rattle.avgraph.specs.Chains.{ChainValue, passed}
use Rattle.y4m_io.specs.FrameTexts.{frame_text}
use Rattle.y4m_io.specs.Reading.{Reading}
use Rattle.y4m_io.specs.Writing.{Writing}
use Rattle.avgraph.proofs.RunLemmas.{SoFar-none, counts_exactly, same_after, step, next_refused, pass_refused, write_refused, finished}
use Rattle.avgraph.specs.Bounds.{greatest_input}
use Rattle.avgraph.proofs.run.pass_all.Goals as goal

pub loop-frame-init : goal.loop-frame-init
loop-frame-init g c =
    let w = g.H.Host.world c.args.host.now in
    let reader = c.args.reader.now in
    let writer = c.args.writer.now in
    let chain = c.args.chain.now in
    let now : chain.next ≡ pos reader.frames = c.requires.next ∙ ap pos (sym c.requires.first) in
    record {
      id = refl;
      stage = c.requires.headed;
      writer = refl;
      chain = ap (λ (n : ℤ). record chain { next = n }) now;
      faults = refl;
      so_far = rw c.requires.first (SoFar-none chain.shape chain.readies reader.room writer.bytes w reader.id writer.id);
    }

pub pass-requires-clause-shape : goal.pass-requires-clause-shape
pass-requires-clause-shape g c = λ κs lives.
    let i = c.loop-frame.invariant in
    let gives = (rw c.in-Ok-Some.field-0-is at c.in-Ok-Some.ensures.gives) c.args.chain.now.shape i.stage in
    gives.frame.shape_is ∙ sym (ap (λ (v : ChainValue). v.shape) i.chain)

pub pass-requires-clause-next : goal.pass-requires-clause-next
pass-requires-clause-next g c =
    let i = c.loop-frame.invariant in
    let gives = (rw c.in-Ok-Some.field-0-is at c.in-Ok-Some.ensures.gives) c.args.chain.now.shape i.stage in
    omega (arith, ints, ap (λ (v : ChainValue). v.next) i.chain, gives.frame.pts)

pub frame-requires-clause-shape : goal.frame-requires-clause-shape
frame-requires-clause-shape g c =
    let i = c.loop-frame.invariant in
    c.in-Ok.ensures.shape ∙ (ap (λ (v : ChainValue). v.end) i.chain ∙ (sym c.requires.end ∙ sym (ap (λ (v : Writing). v.shape) i.writer)))

pub loop-frame-preserved : goal.loop-frame-preserved
loop-frame-preserved g c =
    let i = c.loop-frame.invariant in
    let init = c.args.chain.now in
    let gives = (rw c.in-Ok-Some.field-0-is at c.in-Ok-Some.ensures.gives) init.shape i.stage in
    let writes = c.in-Ok-frame.ensures.writes in
    let frames = ap (λ (r : Reading). r.frames) gives.after_is in
    let pts = gives.frame.pts in
    record {
      id = ap (λ (r : Reading). r.id) gives.after_is ∙ i.id;
      stage = ap (λ (r : Reading). r.stage) gives.after_is ∙ i.stage;
      writer = same_after c.loop-frame.writer c.args.writer.now c.frame.new.self _ i.writer writes.1 c.requires.started;
      chain = c.in-Ok.ensures.after ∙ (ap (λ (v : ChainValue). record v { next = c.in-Ok-Some.frame.pts +ℤ pos 1 }) i.chain
          ∙ ap (λ (n : ℤ). record init { next = n }) (let e : c.in-Ok-Some.frame.pts +ℤ pos 1 ≡ pos c.next.new.self.frames = omega (arith, ints, pts, frames) in e));
      faults = c.in-Ok-frame.ensures.faults ∙ (c.in-Ok-Some.ensures.faults ∙ i.faults);
      so_far =
          let large : length (frame_text c.in-Ok.passed.planes) ≤ 67_108_870 = let size = c.in-Ok-frame.ensures.size in let small = c.in-Ok-frame.ensures.small in omega arith in
          let count = ap (λ (w : Writing). w.bytes) writes.1 ∙ counts_exactly _ _ _ _ _ _ _ c.requires.within c.requires.short i.so_far.six i.so_far.bytes_are i.so_far.small large in
          rw count (step init.shape init.readies c.loop-frame.reader c.args.reader.now c.args.writer.now c.loop-frame.writer i.writer i.so_far gives (c.in-Ok.ensures.passed ∙ ap (λ (v : ChainValue). passed v.readies c.in-Ok-Some.frame) i.chain) writes.0 large);
    }

pub returns-in-Err-clause-runs : goal.returns-in-Err-clause-runs
returns-in-Err-clause-runs g c =
    let i = c.loop-frame.invariant in
    let init = c.args.chain.now in
    rw c.stopped_reading.ensures (next_refused init.shape init.readies c.loop-frame.reader c.args.reader.now c.args.writer.now c.loop-frame.writer i.writer i.so_far greatest_input _ _ c.in-Err.error i.id (c.in-Err.ensures.gives init.shape i.stage))

pub returns-in-Err-pass-clause-runs : goal.returns-in-Err-pass-clause-runs
returns-in-Err-pass-clause-runs g c =
    let i = c.loop-frame.invariant in
    let init = c.args.chain.now in
    pass_refused init.shape init.readies c.loop-frame.reader c.args.reader.now c.args.writer.now c.loop-frame.writer i.writer i.so_far greatest_input i.id ((rw c.in-Ok-Some.field-0-is at c.in-Ok-Some.ensures.gives) init.shape i.stage)

pub returns-in-Err-frame-clause-runs : goal.returns-in-Err-frame-clause-runs
returns-in-Err-frame-clause-runs g c =
    let i = c.loop-frame.invariant in
    let init = c.args.chain.now in
    let gives = (rw c.in-Ok-Some.field-0-is at c.in-Ok-Some.ensures.gives) init.shape i.stage in
    rw c.stopped_writing.ensures
    (write_refused init.shape init.readies c.loop-frame.reader c.args.reader.now c.args.writer.now c.loop-frame.writer i.writer i.so_far greatest_input c.in-Err-frame.error i.id gives (c.in-Ok.ensures.passed ∙ ap (λ (v : ChainValue). passed v.readies c.in-Ok-Some.frame) i.chain) c.in-Err-frame.ensures.writes.0)

pub returns-in-Ok-finish-clause-runs : goal.returns-in-Ok-finish-clause-runs
returns-in-Ok-finish-clause-runs g c =
    let i = c.loop-frame.invariant in
    let init = c.args.chain.now in
    let gives = (rw c.in-Ok-None.field-0-is at c.in-Ok-None.ensures.gives) init.shape i.stage in
    finished init.shape init.readies c.loop-frame.reader c.args.reader.now c.args.writer.now c.loop-frame.writer i.writer i.so_far _ c.frames.ensures (c.bytes.ensures ∙ ap (λ (w : Writing). w.bytes) c.in-Ok-finish.ensures.writes.1)
    c.requires.short c.requires.within i.id gives c.in-Ok-finish.ensures.writes.0
