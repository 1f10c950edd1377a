-- Rows that are copied out of bands of columns.
use Rattle.std.proofs.Common.{◌≡◌, ℕ, ◌+◌, ◌<◌, List, length, get_or, subst, arith}
use Rattle.std.proofs.lemmas.List.FromFn.{fill_by_all}
use Rattle.av_base.specs.Shapes.{planes_of, columns_of, rows_of}
use Rattle.av_frame.specs.Frames.{EditValue, with_row}
use Rattle.av_frame.proofs.PaintLemmas.{HasRows, HasRows-more}

-- a row whose samples are known one by one, and which is copied into a plane
pub row_copied : (old now next : EditValue) (p : ℕ) (f : ℕ → ℕ → ℕ) (row i : ℕ) (samples : List ℕ) → HasRows old now p f (row + i) → p < planes_of old.shape
    → row + i < rows_of old.shape p → length samples ≡ columns_of old.shape p → ((c : ℕ) → c < columns_of old.shape p → get_or samples c 0 ≡ f (row + i) c)
    → ((c : ℕ) → c < columns_of old.shape p → f (row + i) c < 256) → next ≡ record now { planes = with_row now.planes p (row + i) samples } → HasRows old next p f (row + (i + 1))
row_copied old now next p f row i samples has less low long each small put =
    subst (λ (r : ℕ). HasRows old next p f r) (let e : (row + i) + 1 ≡ row + (i + 1) = omega arith in e)
    (HasRows-more has less samples low (fill_by_all (f (row + i)) samples (columns_of old.shape p) 0 long each) small put)
