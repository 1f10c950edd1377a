use Rattle.std.proofs.Common.{◌≡◌, ◌+◌, ◌≤◌, ◌++◌, length, refl, arith, subst, sym, ap, ◌∙◌}
use Rattle.plane_pool.specs.Owners.{Mine, IsDraft, DraftView, written_of}
use Rattle.plane_pool.proofs.Rows.{row_more, row_adds}
use Rattle.plane_pool.proofs.draft.Draft.put_row.Goals as goal

pub invariant_of-self : goal.invariant_of-self
invariant_of-self c = let f = c.self.inside in let i = c.self.invariant in let row = c.args.row.now in let count = ap (λ (d : DraftView). d.count) c.self.view_is in
    let long = ap (λ (d : DraftView). length d.written) c.self.view_is in let is = i.3.long in let fits = c.requires in let less : f.written + length row ≤ f.count = omega arith in (
      c.put_row.ensures.seat.0 ∙ i.0,
      i.1,
      i.2,
      subst (λ (m : Mine). IsDraft m f.words f.from f.count (f.written + length row)) (sym c.put_row.ensures.view) (row_more f.seat.me f.words f.from f.count f.written (f.from + f.written) row i.3 refl less),
    )

pub returns : goal.returns
returns c = let f = c.self.inside in let i = c.self.invariant in let row = c.args.row.now in
    let w : written_of c.put_row.new.seat.me.0 ≡ written_of f.seat.me.0 ++ row =
    ap (λ (m : Mine). written_of m.0) c.put_row.ensures.view ∙ row_adds f.seat.me f.words f.from f.count f.written (f.from + f.written) row i.3 refl in
    (λ j. record { table = c.put_row.ensures.seat.0 j; number = f.number; words = f.words; from = f.from; count = f.count; written = w j }) ∙ ap (λ (d : DraftView). record d { written = d.written ++ row }) c.self.view_is
