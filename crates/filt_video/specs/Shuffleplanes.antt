-- Pictures whose planes change places (FFmpeg Filters Documentation, shuffleplanes).
use Rattle.std.specs.Prelude.{◌≡◌, ◌<◌, ◌≤◌, ℕ, ℤ, pos, List, [], ◌∷◌, Option, Some, None, Result, Ok, Err, codes, length, slice_index}
use Rattle.av_base.specs.declared.shapes.Shape.{Shape}
use Rattle.av_base.specs.Shapes.{planes_of, columns_of, rows_of, width_of, height_of}
use Rattle.av_frame.specs.declared.refusals.ConfigError.{ConfigError}
use Rattle.av_frame.specs.declared.refusals.ConfigError.TheVariants.{BadGeometry, SizeMismatch}
use Rattle.av_frame.specs.Frames.{FrameValue}
use Rattle.av_filter.specs.Limits.{AfterLimits}
use Rattle.av_filter.specs.Meanings.{OptionRules, is_complete, Making, Meaning}
use Rattle.av_filter.specs.Options.{IsWholeWithin}
use Rattle.av_filter.specs.Outcomes.{AfterFault}
use Rattle.av_frame.specs.Pictures.{sample, repainted}
use Rattle.filt_video.specs.declared.shuffleplanes.PlaneOrder.{PlaneOrder}

-- ---- options

-- `map0` to `map3`, in this order
abbrev pub order_names : List (List ℕ × ℕ)
order_names = (codes "map0", 0) ∷ (codes "map1", 1) ∷ (codes "map2", 2) ∷ (codes "map3", 3) ∷ []

-- a whole number from 0 to 3
abbrev pub order_takes : ℕ → List ℕ → Type 0
order_takes o text = (z : ℤ) × IsWholeWithin (pos 0) (pos 3) text z

-- `maps` has at o the number that the text says, and without a text the plane's own
abbrev pub order_has : List ℕ → ℕ → Option (List ℕ) → Type 0
order_has maps o (Some text) = IsWholeWithin (pos 0) (pos 3) text (pos (slice_index maps o))
order_has maps o None = slice_index maps o ≡ o

-- there are four numbers, and the one at o is such
pub record OrderHas (order : PlaneOrder) (o : ℕ) (text : Option (List ℕ)) : Type 0 where
  pub count : length order.maps ≡ 4
  pub number : order_has order.maps o text

abbrev pub order_rules : OptionRules PlaneOrder
order_rules = record { count = 4; names = order_names; takes = order_takes; has = OrderHas; completes = is_complete }

-- ---- the picture

-- plane p is plane maps[p] of the input
abbrev pub shuffled : List ℕ → FrameValue → ℕ → ℕ → ℕ → ℕ
shuffled maps x p r c = sample x (slice_index maps p) r c

-- ---- the settings

-- two planes have the same size
abbrev pub AreSameSize : Shape → ℕ → ℕ → Type 0
AreSameSize s p q = (columns_of s p ≡ columns_of s q) × (rows_of s p ≡ rows_of s q)

-- why the plane is rejected that plane p takes: it is none of the input's, or of another size
pub data HasOrderFault (s : Shape) (maps : List ℕ) (p : ℕ) : ConfigError → Type 0 where
  NoPlane : planes_of s ≤ slice_index maps p → HasOrderFault s maps p (BadGeometry (pos (slice_index maps p)) (pos (planes_of s)))
  OtherSize : slice_index maps p < planes_of s → ¬ AreSameSize s p (slice_index maps p) → HasOrderFault s maps p (SizeMismatch p (slice_index maps p))

-- the first plane's fault, of those that have one
pub record IsOrderRefused (s : Shape) (maps : List ℕ) (e : ConfigError) : Type 0 where
  pub plane : ℕ
  pub is_plane : plane < planes_of s
  pub has : HasOrderFault s maps plane e
  pub first : (earlier : ℕ) (f : ConfigError) → earlier < plane → ¬ HasOrderFault s maps earlier f

-- plane p takes one of the input's, of its size
abbrev pub IsFilled : Shape → List ℕ → ℕ → Type 0
IsFilled s maps p = (slice_index maps p < planes_of s) × AreSameSize s p (slice_index maps p)

abbrev pub IsOrder : Shape → List ℕ → Type 0
IsOrder s maps = (p : ℕ) → p < planes_of s → IsFilled s maps p

-- the planes are checked, and then the limits; the settings are the options
unfoldable pub order_outcome : PlaneOrder → Shape → Result PlaneOrder ConfigError → Type 0
order_outcome o s =
    AfterFault (IsOrderRefused s o.maps) Err (IsOrder s o.maps) (
    AfterLimits s (width_of s.props) (height_of s.props) (λ r. r ≡ Ok o))

abbrev pub order_making : Making PlaneOrder PlaneOrder
order_making = record {
  takes = λ o f. Unit {0};
  settles = order_outcome;
  shape = λ t s. s;
  made = λ t. repainted (shuffled t.maps);
}

abbrev pub shuffleplanes : Meaning
shuffleplanes = record { Options = PlaneOrder; Settings = PlaneOrder; name = codes "shuffleplanes"; options = order_rules; making = order_making }
