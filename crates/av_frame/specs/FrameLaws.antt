-- Laws of planes that are given sample by sample.
use Rattle.std.proofs.Common.{◌≡◌, ◌<◌, ℕ, List, [], map, ap, ◌∙◌, arith}
use Rattle.std.specs.List.{range_with_len}
use Rattle.std.proofs.lemmas.List.FromFn.{fill_by_all, get_or-map-range_with_len, length-map-range_with_len}
use Rattle.av_base.specs.declared.shapes.Shape.{Shape}
use Rattle.av_base.specs.Shapes.{planes_of, columns_of, rows_of}
use Rattle.av_frame.specs.Rasters.{row_by, raster_by, blank_raster}
use Rattle.av_frame.specs.Frames.{planes_by}

same_by : {X : Type 0} (f g : ℕ → X) (n : ℕ) (d : X) → ((k : ℕ) → k < n → f k ≡ g k) → map f (range_with_len 0 n) ≡ map g (range_with_len 0 n)
same_by f g n d same =
    fill_by_all g (map f (range_with_len 0 n)) n d (length-map-range_with_len f 0 n) (λ k less. get_or-map-range_with_len f 0 n k k d less (omega arith) ∙ same k less)

-- functions that agree at each place of a shape give the same planes
pub planes_by_same : (shape : Shape) (f g : ℕ → ℕ → ℕ → ℕ) → ((p r c : ℕ) → p < planes_of shape → r < rows_of shape p → c < columns_of shape p → f p r c ≡ g p r c) → planes_by shape f ≡ planes_by shape g
planes_by_same shape f g same =
    same_by (λ p. raster_by (columns_of shape p) (rows_of shape p) (f p)) (λ p. raster_by (columns_of shape p) (rows_of shape p) (g p)) (planes_of shape) (blank_raster 0 0)
    (λ p less. ap (λ (rows : List (List ℕ)). record { width = columns_of shape p; height = rows_of shape p; rows = rows })
    (same_by (λ r. row_by (columns_of shape p) (f p r)) (λ r. row_by (columns_of shape p) (g p r)) (rows_of shape p) []
    (λ r low. same_by (f p r) (g p r) (columns_of shape p) 0 (λ c left. same p r c less low left))))
