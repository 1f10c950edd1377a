-- The chroma grid: where a column and a row of a picture are in each of its planes.
use Rattle.std.specs.Prelude.{ℕ, ◌/◌, if◌then◌else◌}
use Rattle.av_base.specs.Planes.{halves_columns, halves_rows, is_chroma}
use Rattle.av_base.specs.Shapes.{pixel_format_of}
use Rattle.av_base.specs.declared.shapes.Shape.{Shape}

-- how many columns, and how many rows, a sample of chroma covers
abbrev pub step_across : Shape → ℕ
step_across s = if halves_columns (pixel_format_of s.format) then 2 else 1

abbrev pub step_down : Shape → ℕ
step_down s = if halves_rows (pixel_format_of s.format) then 2 else 1

-- the column x of the picture in plane p: x >> hs
abbrev pub column_in : Shape → ℕ → ℕ → ℕ
column_in s p x = if is_chroma p then x / step_across s else x

-- the row y of the picture in plane p: y >> vs
abbrev pub row_in : Shape → ℕ → ℕ → ℕ
row_in s p y = if is_chroma p then y / step_down s else y
