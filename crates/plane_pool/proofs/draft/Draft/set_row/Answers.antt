use Rattle.std.proofs.Common.{◌≡◌, ◌-◌, length, arith, subst, sym, ap, ◌∙◌}
use Rattle.std.specs.Simd.Lanes.{put_chunk}
use Rattle.plane_pool.specs.Owners.{Mine, IsDraft, DraftView, written_of}
use Rattle.plane_pool.proofs.Rows.{row_again, row_sets}
use Rattle.plane_pool.proofs.draft.Draft.set_row.Goals as goal

pub invariant_of-self : goal.invariant_of-self
invariant_of-self c = let f = c.self.inside in let i = c.self.invariant in let row = c.args.row.now in let at = c.args.at in let from = ap (λ (d : DraftView). d.from) c.self.view_is in
    let long = ap (λ (d : DraftView). length d.written) c.self.view_is in let is = i.3.long in let low = c.requires.0 in let high = c.requires.1 in (
      c.put_row.ensures.seat.0 ∙ i.0,
      i.1,
      i.2,
      subst (λ (m : Mine). IsDraft m f.words f.from f.count f.written) (sym c.put_row.ensures.view) (row_again f.seat.me f.words f.from f.count f.written at row i.3 (omega arith) (omega arith)),
    )

pub returns : goal.returns
returns c = let f = c.self.inside in let i = c.self.invariant in let row = c.args.row.now in let at = c.args.at in let from = ap (λ (d : DraftView). d.from) c.self.view_is in
    let long = ap (λ (d : DraftView). length d.written) c.self.view_is in let is = i.3.long in let low = c.requires.0 in let high = c.requires.1 in
    let w : written_of c.put_row.new.seat.me.0 ≡ put_chunk (at - f.from) (written_of f.seat.me.0) row =
    ap (λ (m : Mine). written_of m.0) c.put_row.ensures.view ∙ row_sets f.seat.me f.words f.from f.count f.written at row i.3 (omega arith) (omega arith) in
    (λ j. record { table = c.put_row.ensures.seat.0 j; number = f.number; words = f.words; from = f.from; count = f.count; written = w j }) ∙ ap (λ (d : DraftView). record d { written = put_chunk (at - d.from) d.written row }) c.self.view_is
