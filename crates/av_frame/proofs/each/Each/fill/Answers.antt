use Rattle.std.proofs.Common.{◌≡◌, ℕ, ◌<◌, ◌+◌, List, [], ◌∷◌, ◌++◌, length, Some, sym, ◌∙◌, ap}
use Rattle.std.specs.Prelude.{slice_get}
use Rattle.av_frame.specs.Frames.{FrameValue}
use Rattle.av_frame.specs.Streams.{after}
use Rattle.av_frame.specs.Rules.{later_row, queue, held, each_stream}
use Rattle.av_frame.proofs.EachLemmas.{length-later, row_at, made_first, not_dry}
use Rattle.av_frame.proofs.each.Each.fill.Goals as goal

pub push_row-requires-clause-outputs : goal.push_row-requires-clause-outputs
push_row-requires-clause-outputs g c =
    let P = g.P.PerFrame in
    let rule = c.self.inside.rule in
    let later : c.make.new.others.items ≡ later_row (P.made rule) (P.outputs rule) c.in-Some.frame = rw c.new-others.ensures.items at c.in-Ok.ensures.later in
    ap (λ (ys : List FrameValue). length ys + 1) later
    ∙ (length-later (P.made rule) (P.outputs rule) c.in-Some.frame (g.met.P.PerFrame.some rule)
    ∙ sym (ap length c.reserve.ensures.lists ∙ c.self.invariant.0))

pub returns-in-Ok-clause-rest : goal.returns-in-Ok-clause-rest
returns-in-Ok-clause-rest g c ins o h =
    let P = g.P.PerFrame in
    let rule = c.self.inside.rule in
    let x = c.in-Some.frame in
    let below : o < P.outputs rule = rw (← c.self.view_is) at h in
    let later : c.make.new.others.items ≡ later_row (P.made rule) (P.outputs rule) x = rw c.new-others.ensures.items at c.in-Ok.ensures.later in
    let made : slice_get (c.in-Ok.first ∷ c.make.new.others.items) o ≡ Some (P.made rule o x) = rw (c.in-Ok.ensures.first, later) (row_at (P.made rule) (P.outputs rule) x o below) in
    let pushed : queue c.push_row.new.self.lists o ≡ queue c.self.inside.waiting.lists o ++ P.made rule o x ∷ [] = rw c.reserve.ensures.lists at c.push_row.ensures.pushed o (P.made rule o x) made in
    rw (← c.self.view_is)
    (made_first (queue c.push_row.new.self.lists o) (queue c.self.inside.waiting.lists o) (P.made rule o) (P.made c.make.new.self o) c.pop_front.new.self.items x c.self.inside.finished (ins 0)
    (ap (λ (m : ℕ → FrameValue → FrameValue). m o) c.make.ensures.made) pushed
    ∙ ap (λ (zs : List FrameValue). after (queue c.self.inside.waiting.lists o) (each_stream (P.made rule o) (held zs c.self.inside.finished (ins 0)))) (sym c.in-Some.ensures.items))

pub returns-in-Ok-clause-some : goal.returns-in-Ok-clause-some
returns-in-Ok-clause-some g c dry =
    let P = g.P.PerFrame in
    let rule = c.self.inside.rule in
    let o = c.args.output in
    let x = c.in-Some.frame in
    let below : o < P.outputs rule = rw (← c.self.view_is) at c.requires.port in
    let later : c.make.new.others.items ≡ later_row (P.made rule) (P.outputs rule) x = rw c.new-others.ensures.items at c.in-Ok.ensures.later in
    let made : slice_get (c.in-Ok.first ∷ c.make.new.others.items) o ≡ Some (P.made rule o x) = rw (c.in-Ok.ensures.first, later) (row_at (P.made rule) (P.outputs rule) x o below) in
    absurd (not_dry _ _ (P.made rule o x) (c.push_row.ensures.pushed o (P.made rule o x) made) dry)
