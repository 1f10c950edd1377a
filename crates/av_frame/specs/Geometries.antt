-- Where a plane's rows are among its bytes.
use Rattle.std.specs.Prelude.{ℕ, ◌+◌, ◌-◌, ◌*◌, ◌^◌, ◌<◌, ◌≤◌, List, map, not, if◌then◌else◌}
use Rattle.std.specs.List.{range_with_len}
use Rattle.std.specs.Simd.Lanes.{chunk}
use Rattle.av_frame.specs.declared.geometry.Geometry.{Geometry}
use Rattle.av_frame.specs.Rasters.{Raster}

-- how many rows lie before row r among the bytes
abbrev pub line : Geometry → ℕ → ℕ
line g r = (if g.bottom_up then (g.height - 1) - r else r)

-- the place of the first sample of row r
abbrev pub place : Geometry → ℕ → ℕ
place g r = g.offset + g.stride * line g r

abbrev pub rows_at : Geometry → List ℕ → List (List ℕ)
rows_at g bytes = map (λ r. chunk (place g r) g.width bytes) (range_with_len 0 g.height)

-- the plane whose rows are among these bytes
abbrev pub raster_at : Geometry → List ℕ → Raster
raster_at g bytes = record { width = g.width; height = g.height; rows = rows_at g bytes }

-- the rows lie apart, among n bytes
pub record Fitted (g : Geometry) (n : ℕ) : Type 0 where
  pub apart : g.width ≤ g.stride
  pub some_rows : 0 < g.height
  pub small : n < 2 ^ 32
  pub inside : g.offset + g.stride * (g.height - 1) + g.width ≤ n

-- how many rows outside of the rows y to y + h - 1 lie before these among the bytes
abbrev pub skipped : Geometry → ℕ → ℕ → ℕ
skipped g y h = (if g.bottom_up then (g.height - y) - h else y)

-- where the window of width w and height h is that begins in column x and row y
abbrev pub window_at : Geometry → ℕ → ℕ → ℕ → ℕ → Geometry
window_at g x y w h = record { offset = g.offset + x + g.stride * skipped g y h; stride = g.stride; width = w; height = h; bottom_up = g.bottom_up }

-- where the rows are in the other order
abbrev pub upside_down_at : Geometry → Geometry
upside_down_at g = record { offset = g.offset; stride = g.stride; width = g.width; height = g.height; bottom_up = not g.bottom_up }
