use Rattle.std.proofs.Common.{◌≡◌, ◌+◌, ◌-◌, ◌<◌, [], ◌∷◌, ◌++◌, set, length, arith, subst, sym, ap, ◌∙◌}
use Rattle.plane_pool.specs.Owners.{Mine, IsDraft, DraftView, written_of}
use Rattle.plane_pool.proofs.Owned.{put_more, put_again, put_adds, put_sets}
use Rattle.plane_pool.proofs.draft.Draft.put.Goals as goal

pub invariant_of-self : goal.invariant_of-self
invariant_of-self c = let f = c.self.inside in let i = c.self.invariant in let from = ap (λ (d : DraftView). d.from) c.self.view_is in let count = ap (λ (d : DraftView). d.count) c.self.view_is in
    let range = c.requires.range in let end = c.if-at-self.true in let less : f.written < f.count = omega arith in (
      c.put.ensures.seat.0 ∙ i.0,
      i.1,
      i.2,
      subst (λ (m : Mine). IsDraft m f.words f.from f.count (f.written + 1)) (sym c.put.ensures.view) (put_more f.seat.me f.words f.from f.count f.written c.args.at c.args.word i.3 end less),
    )

pub invariant_of-self-else-at-self : goal.invariant_of-self-else-at-self
invariant_of-self-else-at-self c = let f = c.self.inside in let i = c.self.invariant in let from = ap (λ (d : DraftView). d.from) c.self.view_is in
    let long = ap (λ (d : DraftView). length d.written) c.self.view_is in let is = i.3.long in
    let range = c.requires.range in let next = c.requires.next in let not = c.if-at-self.false in let less : c.args.at - f.from < f.written = omega arith in (
      c.put.ensures.seat.0 ∙ i.0,
      i.1,
      i.2,
      subst (λ (m : Mine). IsDraft m f.words f.from f.count f.written) (sym c.put.ensures.view) (put_again f.seat.me f.words f.from f.count f.written c.args.at c.args.word i.3 less),
    )

pub returns-then-at-self-clause-added : goal.returns-then-at-self-clause-added
returns-then-at-self-clause-added c _ = let f = c.self.inside in let i = c.self.invariant in
    let w : written_of c.put.new.seat.me.0 ≡ written_of f.seat.me.0 ++ c.args.word ∷ [] =
    ap (λ (m : Mine). written_of m.0) c.put.ensures.view ∙ put_adds f.seat.me f.words f.from f.count f.written c.args.at c.args.word i.3 c.if-at-self.true in
    (λ j. record { table = c.put.ensures.seat.0 j; number = f.number; words = f.words; from = f.from; count = f.count; written = w j }) ∙ ap (λ (d : DraftView). record d { written = d.written ++ c.args.word ∷ [] }) c.self.view_is

pub returns-else-at-self-clause-replaced : goal.returns-else-at-self-clause-replaced
returns-else-at-self-clause-replaced c inside = let f = c.self.inside in let i = c.self.invariant in let from = ap (λ (d : DraftView). d.from) c.self.view_is in
    let long = ap (λ (d : DraftView). length d.written) c.self.view_is in let is = i.3.long in let range = c.requires.range in let less : c.args.at - f.from < f.written = omega arith in
    let w : written_of c.put.new.seat.me.0 ≡ set (written_of f.seat.me.0) (c.args.at - f.from) c.args.word =
    ap (λ (m : Mine). written_of m.0) c.put.ensures.view ∙ put_sets f.seat.me f.words f.from f.count f.written c.args.at c.args.word i.3 less in
    (λ j. record { table = c.put.ensures.seat.0 j; number = f.number; words = f.words; from = f.from; count = f.count; written = w j })
    ∙ ap (λ (d : DraftView). record d { written = set d.written (c.args.at - d.from) c.args.word }) c.self.view_is
