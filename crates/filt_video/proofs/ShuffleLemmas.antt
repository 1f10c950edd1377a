-- Planes that stand for others.
use Rattle.std.proofs.Common.{◌≡◌, ◌<◌, ◌≤◌, ℕ, ℤ, pos, true, false, not, ◌&&◌, eqb, List, Ok, Err, inl, inr, refl, arith}
use Rattle.std.specs.Prelude.{slice_index}
use Rattle.std.proofs.lemmas.Bool.Decides.{nat_tests}
use Rattle.av_base.specs.declared.shapes.Shape.{Shape}
use Rattle.av_base.specs.Shapes.{planes_of, width_of, height_of}
use Rattle.av_filter.specs.Limits.{IsSmall, PassesLimit}
use Rattle.av_frame.specs.declared.refusals.ConfigError.{ConfigError}
use Rattle.av_frame.specs.declared.refusals.ConfigError.TheVariants.{BadGeometry, SizeMismatch}
use Rattle.filt_video.specs.Shuffleplanes.{AreSameSize, HasOrderFault, IsOrderRefused, IsFilled, IsOrder, order_outcome}
use Rattle.filt_video.specs.OrderLaws.{no_fault}
use Rattle.filt_video.specs.declared.shuffleplanes.PlaneOrder.{PlaneOrder}

pub no_plane : (s : Shape) (maps : List ℕ) (p n m : ℕ) (a b : ℤ) → a ≡ pos n → b ≡ pos m → n ≡ slice_index maps p → m ≡ planes_of s → m ≤ n → HasOrderFault s maps p (BadGeometry a b)
no_plane s maps p n m a b e f g h less = rw (e, f, g, h) (HasOrderFault.NoPlane (rw (g, h) at less))

pub other_size : (s : Shape) (maps : List ℕ) (p a b : ℕ) → a ≡ p → b ≡ slice_index maps p → b < planes_of s → ¬ AreSameSize s p b → HasOrderFault s maps p (SizeMismatch a b)
other_size s maps p a b e f less apart = rw (e, f) (HasOrderFault.OtherSize (rw f at less) (rw f at apart))

-- what the test of two sizes says
pub differ : (a b x y : ℕ) → true ≡ not (eqb a b && eqb x y) → (a ≡ b) × (x ≡ y) → ⊥
differ a b x y h e = grind (arith, nat_tests)

pub same : (a b x y : ℕ) → false ≡ not (eqb a b && eqb x y) → (a ≡ b) × (x ≡ y)
same a b x y h = (grind (arith, nat_tests), grind (arith, nat_tests))

pub first_refused : (s : Shape) (maps : List ℕ) (p : ℕ) (e : ConfigError) → ((q : ℕ) → q < p → IsFilled s maps q) → p < planes_of s → HasOrderFault s maps p e → IsOrderRefused s maps e
first_refused s maps p e filled is has = record {
  plane = p;
  is_plane = is;
  has = has;
  first = λ q f less. no_fault s maps q f (filled q less);
}

-- ---- settings

pub rejected : (o : PlaneOrder) (s : Shape) (e : ConfigError) → IsOrderRefused s o.maps e → order_outcome o s (Err e)
unfolding order_outcome
rejected o s e refused = inl (e, refused, refl)

pub large : (o : PlaneOrder) (s : Shape) (e : ConfigError) → IsOrder s o.maps → PassesLimit s (width_of s.props) (height_of s.props) e → order_outcome o s (Err e)
unfolding order_outcome
large o s e order past = inr (order, inl (e, past, refl))

pub settled : (o : PlaneOrder) (s : Shape) → IsOrder s o.maps → IsSmall s (width_of s.props) (height_of s.props) → order_outcome o s (Ok o)
unfolding order_outcome
settled o s order small = inr (order, inr (small, refl))
