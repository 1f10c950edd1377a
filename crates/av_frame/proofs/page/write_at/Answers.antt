use Rattle.std.proofs.Common.{◌≡◌, ℕ, ◌+◌, ◌-◌, List, length, ap, sym, ◌∙◌, arith}
use borrow.Rule.Slice.PartMut.{put_mid}
use Rattle.std.proofs.lemmas.Simd.{put_chunk_is}
use Rattle.av_frame.proofs.page.write_at.Goals as goal

pub returns : goal.returns
returns c =
    let all = c.args.all.now in
    let at = c.args.at in
    let bytes = c.args.bytes.now in
    let k = (at + length bytes) - at in
    let e : k ≡ length bytes = omega arith in
    ap (λ (z : List ℕ). put_mid at k all z) c.copy_from_slice.ensures.after ∙ (ap (λ (m : ℕ). put_mid at m all bytes) e ∙ sym (put_chunk_is at all bytes c.requires))
