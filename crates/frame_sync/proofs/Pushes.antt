-- Lists that grow at their end.
use Rattle.std.proofs.Common.{◌<ℤ◌, ◌++◌, ℤ, List, [], ◌∷◌, sym, subst, arith, inl, inr}
use Rattle.std.proofs.lemmas.Option.{none-some, slice_get_within}
use Rattle.av_base.proofs.Lists.{pushed_at}
use Rattle.frame_sync.specs.Framesync.{EachOne, IsRising}

-- ---- rising times

pub rising_none : IsRising []
rising_none m n t u lt e f = absurd (none-some t e)

pub rising_more : (ts : List ℤ) (t : ℤ) → IsRising ts → EachOne ts (λ u. u <ℤ t) → IsRising (ts ++ t ∷ [])
rising_more ts t rising past m n u v lt e f = elim (pushed_at ts t m u e) [
  | inl a ↦ elim (pushed_at ts t n v f) [
    | inl b ↦ rising m n u v lt a b
    | inr b ↦ subst (λ (z : ℤ). u <ℤ z) (sym b.1) (past m u a)
  ]
  | inr a ↦ elim (pushed_at ts t n v f) [
    | inl b ↦ absurd (let within = slice_get_within ts n v b in let same = a.0 in omega arith)
    | inr b ↦ absurd (let p = a.0 in let q = b.0 in omega arith)
  ]
]
