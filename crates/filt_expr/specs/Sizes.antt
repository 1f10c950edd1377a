-- Sizes and places of pictures that filters give.
use Rattle.std.specs.Prelude.{◌≡◌, ◌<◌, ◌≤◌, ◌-◌, ◌%◌, ℕ, ℤ, Bool, true, false, pos, negsuc, ◌-ℤ◌, ◌≤ℤ◌, int_lt, refl}
use Rattle.std.proofs.Common.{sym, ◌∙◌, ap, arith}
use Rattle.std.proofs.Math.Nat.{mod-le}
use Rattle.std.proofs.lemmas.Bool.{le-ltb, ltb-false}
use Rattle.std.proofs.lemmas.Int.{ints}
use Rattle.av_base.specs.Shapes.{IsLawful, IsVideo, AreLawful, width_of, height_of, IsPictured}
use Rattle.av_base.specs.declared.formats.Format.{Format}
use Rattle.av_base.specs.declared.formats.Format.TheVariants as format
use Rattle.av_base.specs.declared.shapes.Shape.{Shape}
use Rattle.av_base.specs.declared.shapes.Props.{Props}
use Rattle.av_base.specs.declared.shapes.Props.TheVariants as props
use Rattle.av_filter.specs.Limits.{IsSmall}
use Rattle.av_filter.specs.Meanings.{AreOfStream, IsOfStream}
use Rattle.filt_expr.specs.Geometry.{on_grid, within, resized, resized_props}

-- ---- the output

lawful_parts : (f : Format) (p : Props) (w h : ℕ) → AreLawful f p → IsVideo f → 0 < w → 0 < h → AreLawful f (resized_props w h p)
lawful_parts (format.Video f) (props.Video p) w h l v some some2 = record { width = some; height = some2; aspect = l.aspect; rate = l.rate; base = l.base; scan = l.scan }
lawful_parts (format.Video f) (props.Audio p) w h l v some some2 = absurd l
lawful_parts (format.Audio f) p w h l v some some2 = absurd v

pub width_resized : (f : Format) (p : Props) (w h : ℕ) → AreLawful f p → IsVideo f → width_of (resized_props w h p) ≡ w
width_resized (format.Video f) (props.Video p) w h l v = refl
width_resized (format.Video f) (props.Audio p) w h l v = absurd l
width_resized (format.Audio f) p w h l v = absurd v

pub height_resized : (f : Format) (p : Props) (w h : ℕ) → AreLawful f p → IsVideo f → height_of (resized_props w h p) ≡ h
height_resized (format.Video f) (props.Video p) w h l v = refl
height_resized (format.Video f) (props.Audio p) w h l v = absurd l
height_resized (format.Audio f) p w h l v = absurd v

pub resized_pictured : (s : Shape) (w h : ℕ) → IsLawful s → IsVideo s.format → 0 < w → 0 < h → IsSmall s w h → IsPictured (resized w h s)
resized_pictured s w h lawful video some some2 small =
    let wide = width_resized s.format s.props w h lawful video in
    let high = height_resized s.format s.props w h lawful video in
    record {
      lawful = lawful_parts s.format s.props w h lawful video some some2;
      video = video;
      limits = record { width = rw wide small.width; height = rw high small.height; bytes = rw (wide, high) small.bytes };
    }

sized_props : (p : Props) (w h : ℕ) → AreOfStream p (resized_props w h p)
sized_props (props.Video p) w h = (refl, refl, refl)
sized_props (props.Audio p) w h = refl

pub resized_stream : (w h : ℕ) (s : Shape) → IsOfStream s (resized w h s)
resized_stream w h s = record { format = refl; props = sized_props s.props w h }

pub width_some : (f : Format) (p : Props) → AreLawful f p → IsVideo f → 0 < width_of p
width_some (format.Video f) (props.Video p) l v = l.width
width_some (format.Video f) (props.Audio p) l v = absurd l
width_some (format.Audio f) p l v = absurd v

pub height_some : (f : Format) (p : Props) → AreLawful f p → IsVideo f → 0 < height_of p
height_some (format.Video f) (props.Video p) l v = l.height
height_some (format.Video f) (props.Audio p) l v = absurd l
height_some (format.Audio f) p l v = absurd v

-- ---- places

pick_room : (room a : ℕ) (b : Bool) → int_lt (pos room) (pos a) ≡ b → (m : ℕ) × (within (pos 0) (pos room) (pos a) ≡ pos m) × (m ≤ room)
pick_room room a true e = (room, rw e (rw (le-ltb room 0 (omega arith)) refl), omega arith)
pick_room room a false e = (a, rw e (rw (le-ltb a 0 (omega arith)) refl), ltb-false room a e)

pub within_room : (room : ℕ) (z : ℤ) → (m : ℕ) × (within (pos 0) (pos room) z ≡ pos m) × (m ≤ room)
within_room room (negsuc a) = (0, refl, omega arith)
within_room room (pos a) = pick_room room a (int_lt (pos room) (pos a)) refl

pub place_fits : (step room n : ℕ) (z : ℤ) → pos n ≡ on_grid step (within (pos 0) (pos room) z) → n ≤ room
place_fits step room n z e =
    let m = within_room room z in
    let is : pos n ≡ pos m.0 -ℤ pos (m.0 % step) = e ∙ ap (on_grid step) m.1 in
    omega (arith, ints, is, m.2)

pub natural_some : (z : ℤ) → pos 0 ≤ℤ z → (n : ℕ) × (z ≡ pos n)
natural_some (pos n) low = (n, refl)
natural_some (negsuc n) low = absurd (omega (arith, ints))

pub grid_some : (step m : ℕ) → (n : ℕ) × (pos n ≡ on_grid step (pos m))
grid_some step m = let less = mod-le m step in (m - m % step, omega (arith, ints, less))

-- a place that is brought into the room that there is
pub place_some : (step room : ℕ) (z : ℤ) → (n : ℕ) × (pos n ≡ on_grid step (within (pos 0) (pos room) z))
place_some step room z =
    let m = within_room room z in
    let g = grid_some step m.0 in
    (g.0, g.1 ∙ ap (on_grid step) (sym m.1))
