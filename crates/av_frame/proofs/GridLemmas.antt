-- A part of a picture lies within it in each plane, as chroma is rounded up.
use Rattle.std.proofs.Common.{◌≡◌, ℕ, ◌+◌, ◌/◌, ◌<◌, ◌≤◌, Bool, true, false, sym, subst, arith}
use Rattle.std.specs.Prelude.{◌&&◌, if◌then◌else◌}
use Rattle.av_base.specs.declared.formats.Format.{Format}
use Rattle.av_base.specs.declared.shapes.Shape.{Shape}
use Rattle.av_base.specs.Planes.{half_up, halves_columns, halves_rows, is_chroma}
use Rattle.av_base.specs.Shapes.{columns_of, rows_of, width_of, height_of, pixel_format_of}
use Rattle.av_frame.specs.Grid.{column_in, row_in}

part_inside : (chroma halves : Bool) (x w n : ℕ) → x + w ≤ n
    → (if chroma then x / (if halves then 2 else 1) else x) + (if chroma && halves then half_up w else w) ≤ (if chroma && halves then half_up n else n)
part_inside true true x w n inside = omega arith
part_inside true false x w n inside = omega arith
part_inside false true x w n inside = inside
part_inside false false x w n inside = inside

some_left : (chroma halves : Bool) (n : ℕ) → 0 < n → 0 < (if chroma && halves then half_up n else n)
some_left true true n some = omega arith
some_left true false n some = some
some_left false true n some = some
some_left false false n some = some

pub columns_inside : (s t : Shape) (p x : ℕ) → t.format ≡ s.format → x + width_of t.props ≤ width_of s.props → column_in s p x + columns_of t p ≤ columns_of s p
columns_inside s t p x same inside =
    subst (λ (f : Format). column_in s p x + (if is_chroma p && halves_columns (pixel_format_of f) then half_up (width_of t.props) else width_of t.props) ≤ columns_of s p) (sym same)
    (part_inside (is_chroma p) (halves_columns (pixel_format_of s.format)) x (width_of t.props) (width_of s.props) inside)

pub rows_inside : (s t : Shape) (p y : ℕ) → t.format ≡ s.format → y + height_of t.props ≤ height_of s.props → row_in s p y + rows_of t p ≤ rows_of s p
rows_inside s t p y same inside =
    subst (λ (f : Format). row_in s p y + (if is_chroma p && halves_rows (pixel_format_of f) then half_up (height_of t.props) else height_of t.props) ≤ rows_of s p) (sym same)
    (part_inside (is_chroma p) (halves_rows (pixel_format_of s.format)) y (height_of t.props) (height_of s.props) inside)

pub some_rows : (t : Shape) (p : ℕ) → 0 < height_of t.props → 0 < rows_of t p
some_rows t p some = some_left (is_chroma p) (halves_rows (pixel_format_of t.format)) (height_of t.props) some
