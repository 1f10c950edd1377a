use Rattle.std.proofs.Common.{◌≡◌, ℕ, map}
use Rattle.std.specs.List.{range_with_len}
use Rattle.av_base.specs.Shapes.{columns_of, rows_of}
use Rattle.av_frame.specs.Rasters.{blank_raster}
use Rattle.av_frame.proofs.edit.blank_all.Given as goal

abbrev pub invariant-loop-plane : goal.invariant-loop-plane
invariant-loop-plane l = l.planes.items ≡ map (λ (p : ℕ). blank_raster (columns_of l.shape p) (rows_of l.shape p)) (range_with_len 0 l.plane)
