-- The value of a plane: rows of samples.
use Rattle.std.specs.Prelude.{◌≡◌, ◌<◌, ℕ, List, [], map, length, replicate, slice_index, slice_index_or}
use Rattle.std.specs.List.{range_with_len}

-- what a clause sees of a plane
pub record Raster : Type 0 where
  pub width : ℕ
  pub height : ℕ
  pub rows : List (List ℕ)

abbrev pub row_of : Raster → ℕ → List ℕ
row_of x r = slice_index_or x.rows r []

abbrev pub sample_of : Raster → ℕ → ℕ → ℕ
sample_of x r c = slice_index (row_of x r) c

-- there are as many rows as the height says, each of the width
pub record IsRaster (x : Raster) : Type 0 where
  pub rows_long : length x.rows ≡ x.height
  pub row_long : (r : ℕ) → r < x.height → length (row_of x r) ≡ x.width

-- the row whose sample at column c is f c
abbrev pub row_by : ℕ → (ℕ → ℕ) → List ℕ
row_by width f = map f (range_with_len 0 width)

-- the rows whose sample at row r and column c is f r c
abbrev pub rows_by : ℕ → ℕ → (ℕ → ℕ → ℕ) → List (List ℕ)
rows_by height width f = map (λ r. row_by width (f r)) (range_with_len 0 height)

-- the plane of this size whose sample at row r and column c is f r c
abbrev pub raster_by : ℕ → ℕ → (ℕ → ℕ → ℕ) → Raster
raster_by width height f = record { width = width; height = height; rows = rows_by height width f }

-- the plane of this size whose samples are 0
abbrev pub blank_raster : ℕ → ℕ → Raster
blank_raster width height = record { width = width; height = height; rows = replicate height (replicate width 0) }
