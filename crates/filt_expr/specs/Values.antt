-- Exactly one: the value of an expression, the whole number that a fraction is cut to, and the nearest one.
use Rattle.std.specs.Prelude.{◌≡◌, ◌<◌, ◌≤◌, ◌+◌, ◌*◌, ◌/◌, ◌%◌, ◌⊎◌, ℕ, zero, suc, ℤ, pos, negsuc, neg_ℤ, ◌*ℤ◌, ◌≤ℤ◌, unsigned_abs, int_div, refl}
use Rattle.std.proofs.Common.{inl, inr, sym, ap, subst, arith}
use Rattle.std.proofs.Math.Nat.{div-add-mod', mod-lt}
use Rattle.std.proofs.lemmas.Bool.{cases_lt, cases_eq, cases_order}
use Rattle.std.proofs.lemmas.Int.{ints}
use borrow.Author.Differences.{up, down}
use Rattle.av_base.specs.Shapes.{width_of, height_of}
use Rattle.av_base.specs.declared.shapes.Shape.{Shape}
use Rattle.av_expr.specs.Fractions.{IsLowest, IsCut, IsNearest, IsNearestQuotient}
use Rattle.av_expr.specs.Trees.{Tree, HasLowest}
use Rattle.av_expr.specs.Values.{value_of, AreLowest}
use Rattle.av_expr.specs.declared.vars.Var.{Var}
use Rattle.av_expr.specs.declared.vars.Var.TheVariants.{InW, InH, OutW, OutH, Hsub, Vsub, MainW, MainH, OverW, OverH, Val, MinVal, MaxVal, NegVal, Pts, StartPts, N, Tb}
use Rattle.av_expr.specs.declared.fraction.Fraction.{Fraction}
use Rattle.av_expr.proofs.EvalLemmas.{value_lowest}
use Rattle.av_expr.proofs.FractionLemmas.{cut_is, positive_is, over_one}
use Rattle.av_expr.proofs.ValueLaws.{one_value_law}
use Rattle.filt_expr.specs.Geometry.{sizes}
use Rattle.av_frame.specs.Grid.{step_across, step_down}
use Rattle.filt_expr.specs.Worth.{listed, IsWorth, IsWorthless}
use Rattle.std.proofs.Common.{◌≡◌, ◌<◌, ◌≤◌, ◌+◌, ◌*◌, ◌%◌, ◌⊎◌, ℕ, ◌-◌, zero, suc, ℤ, refl, sym, ap, subst, inl, inr, arith}
use Rattle.std.specs.Prelude.{pos, negsuc, neg_ℤ, ◌+ℤ◌, ◌-ℤ◌, ◌*ℤ◌, ◌≤ℤ◌, ◌<ℤ◌, unsigned_abs}
use Rattle.std.proofs.lemmas.Bool.{cases_order}
use Rattle.std.proofs.lemmas.Int.{ints}
use Rattle.std.proofs.Math.Nat.{lt_of_mul-lt-mul_right}
use borrow.Author.Differences.{up, down, same_in}
use Rattle.av_base.specs.Shapes.{width_of, height_of}
use Rattle.av_base.specs.declared.shapes.Shape.{Shape}
use Rattle.av_expr.specs.Fractions.{IsLowest, IsCut, IsNearest}
use Rattle.av_expr.specs.Trees.{Tree, HasLowest}
use Rattle.av_expr.specs.Values.{AreLowest}
use Rattle.av_expr.specs.declared.vars.Var.{Var}
use Rattle.av_expr.specs.declared.vars.Var.TheVariants.{InW, InH, OutW, OutH, Hsub, Vsub}
use Rattle.av_expr.specs.declared.fraction.Fraction.{Fraction}
use Rattle.av_expr.proofs.FractionLemmas.{positive_is}
use Rattle.av_expr.proofs.EvalLemmas.{value_lowest}
use Rattle.av_expr.proofs.ValueLaws.{value_same, value_apart}
use Rattle.filt_expr.specs.Geometry.{sizes}
use Rattle.av_frame.specs.Grid.{step_across, step_down}
use Rattle.filt_expr.specs.Worth.{listed, IsWorth, IsWorthless}
use Rattle.av_filter.specs.Outcomes.{IsOne}

-- ---- expressions

-- each variable has in the list what the function gives it
pub listed_is : (f : Var → Fraction) (x : Var) → value_of (listed f) x ≡ f x
listed_is f InW = refl
listed_is f InH = refl
listed_is f OutW = refl
listed_is f OutH = refl
listed_is f Hsub = refl
listed_is f Vsub = refl
listed_is f MainW = refl
listed_is f MainH = refl
listed_is f OverW = refl
listed_is f OverH = refl
listed_is f Val = refl
listed_is f MinVal = refl
listed_is f MaxVal = refl
listed_is f NegVal = refl
listed_is f Pts = refl
listed_is f StartPts = refl
listed_is f N = refl
listed_is f Tb = refl

pub listed_lowest : (f : Var → Fraction) → ((x : Var) → IsLowest (f x)) → AreLowest (listed f)
listed_lowest f lowest x = subst IsLowest (sym (listed_is f x)) (lowest x)

-- an expression whose variables are fractions in lowest terms has a value, or none
pub worth_some : (tree : Tree) (f : Var → Fraction) → ((x : Var) → IsLowest (f x)) → HasLowest tree → ((v : Fraction) × IsWorth tree f v × IsLowest v) ⊎ IsWorthless tree f
worth_some tree f each lowest =
    let all = listed_lowest f each in
    elim (one_value_law.one_of_both (listed f) tree all lowest) [
      | inl v ↦ inl (v.0, v.1, value_lowest (listed f) tree v.0 all lowest v.1)
      | inr none ↦ inr none
    ]

-- each size is in lowest terms
pub sizes_each_lowest : (s : Shape) (w h : ℤ) (x : Var) → IsLowest (sizes s w h x)
sizes_each_lowest s w h InW = over_one (pos (width_of s.props))
sizes_each_lowest s w h InH = over_one (pos (height_of s.props))
sizes_each_lowest s w h OutW = over_one w
sizes_each_lowest s w h OutH = over_one h
sizes_each_lowest s w h Hsub = over_one (pos (step_across s))
sizes_each_lowest s w h Vsub = over_one (pos (step_down s))
sizes_each_lowest s w h other = over_one (pos 0)

-- ---- whole numbers of fractions

pub cut_some : (f : Fraction) → IsLowest f → (z : ℤ) × IsCut f z
cut_some f lowest = (int_div f.num f.den, cut_is f lowest.positive)

next_even : (q : ℕ) → (q % 2 ≡ 0) ⊎ ((q + 1) % 2 ≡ 0)
next_even q = elim (cases_eq (q % 2) 0) [
  | inl even ↦ inl even
  | inr odd ↦ inr (omega arith)
]

-- a quotient has a nearest whole number
nearest_quotient : (a b : ℕ) → 0 < b → (n : ℕ) × IsNearestQuotient a b n
nearest_quotient a b some =
    let split = div-add-mod' a b in
    let small = mod-lt a some in
    by (a / b) (a % b) (omega arith) small (cases_order (2 * (a % b)) b) (next_even (a / b))
  where
    by : (q r : ℕ) → a ≡ q * b + r → r < b → (2 * r ≡ b) ⊎ ((2 * r < b) ⊎ (b < 2 * r)) → (q % 2 ≡ 0) ⊎ ((q + 1) % 2 ≡ 0) → (n : ℕ) × IsNearestQuotient a b n
    by q r is small (inr (inl less)) even = (q, record { below = omega arith; above = omega arith; even_below = λ e. absurd (omega arith); even_above = λ e. absurd (omega arith) })
    by q r is small (inr (inr more)) even = (q + 1, record { below = omega arith; above = omega arith; even_below = λ e. absurd (omega arith); even_above = λ e. absurd (omega arith) })
    by q r is small (inl half) (inl even) = (q, record { below = omega arith; above = omega arith; even_below = λ e. even; even_above = λ e. absurd (omega arith) })
    by q r is small (inl half) (inr even) = (q + 1, record { below = omega arith; above = omega arith; even_below = λ e. absurd (omega arith); even_above = λ e. even })

nearest_pos : (a d n : ℕ) → IsNearestQuotient a (suc d) n → IsNearest (record { num = pos a; den = pos (suc d) }) (pos n)
nearest_pos a d n q = record {
  near = let b = q.below in let c = q.above in omega (arith, ints);
  even = λ e. elim (cases_lt a (n * suc d)) [
    | inl less ↦ q.even_above (let b = q.above in omega (arith, ints))
    | inr past ↦ q.even_below (let b = q.below in omega (arith, ints))
  ];
}

abs_neg : (n : ℕ) → unsigned_abs (neg_ℤ (pos n)) ≡ n
abs_neg zero = refl
abs_neg (suc n) = refl

neg_product : (n d : ℕ) → neg_ℤ (pos n) *ℤ pos d ≡ neg_ℤ (pos (n * d))
neg_product zero d = omega (arith, ints)
neg_product (suc n) d = omega (arith, ints)

nearest_neg : (a d n : ℕ) → IsNearestQuotient (suc a) (suc d) n → IsNearest (record { num = negsuc a; den = pos (suc d) }) (neg_ℤ (pos n))
nearest_neg a d n q =
    let product = neg_product n (suc d) in
    record {
      near = let b = q.below in let c = q.above in omega (arith, ints, product);
      even = λ e. rw (abs_neg n) (elim (cases_lt (suc a) (n * suc d)) [
        | inl less ↦ q.even_above (let b = q.above in omega (arith, ints, product))
        | inr past ↦ q.even_below (let b = q.below in omega (arith, ints, product))
      ]);
    }

nearest_by : (num : ℤ) (d : ℕ) → (z : ℤ) × IsNearest (record { num = num; den = pos (suc d) }) z
nearest_by (pos a) d = let q = nearest_quotient a (suc d) (omega arith) in (pos q.0, nearest_pos a d q.0 q.1)
nearest_by (negsuc a) d = let q = nearest_quotient (suc a) (suc d) (omega arith) in (neg_ℤ (pos q.0), nearest_neg a d q.0 q.1)

pub nearest_some : (f : Fraction) → IsLowest f → (z : ℤ) × IsNearest f z
nearest_some f lowest =
    let d = positive_is f.den lowest.positive in
    let n = nearest_by f.num d.0 in
    (n.0, subst (λ (den : ℤ). IsNearest (record { num = f.num; den = den }) n.0) (sym d.1) n.1)

-- ---- values of expressions

pub sizes_lowest : (s : Shape) (w h : ℤ) → AreLowest (listed (sizes s w h))
sizes_lowest s w h = listed_lowest (sizes s w h) (sizes_each_lowest s w h)

-- an expression has one value
pub worth_one : (tree : Tree) (variables : Var → Fraction) → IsOne (IsWorth tree variables)
worth_one tree variables v w p q = value_same (listed variables) tree v w p q

-- or none
pub worth_apart : (tree : Tree) (variables : Var → Fraction) (v : Fraction) → IsWorth tree variables v → ¬ IsWorthless tree variables
worth_apart tree variables v p q = value_apart (listed variables) tree v q.0 p q.1

-- ---- whole numbers of fractions

-- sizes of which the products hold the same number are one
same_size : (a b d n : ℕ) → a * d ≤ n → n < (a + 1) * d → b * d ≤ n → n < (b + 1) * d → a ≡ b
same_size a b d n p q r s =
    let up = lt_of_mul-lt-mul_right d {m = a} {n = b + 1} (omega arith) in
    let down = lt_of_mul-lt-mul_right d {m = b} {n = a + 1} (omega arith) in
    omega arith

same_signed : (n y z : ℤ) → unsigned_abs y ≡ unsigned_abs z → (pos 0 ≤ℤ n → pos 0 ≤ℤ y) → (pos 0 ≤ℤ n → pos 0 ≤ℤ z) → (n ≤ℤ pos 0 → y ≤ℤ pos 0) → (n ≤ℤ pos 0 → z ≤ℤ pos 0) → y ≡ z
same_signed (pos n) y z e a b c d =
    let low = a (omega (arith, ints)) in
    let also = b (omega (arith, ints)) in
    omega (arith, ints)
same_signed (negsuc n) y z e a b c d =
    let high = c (omega (arith, ints)) in
    let also = d (omega (arith, ints)) in
    omega (arith, ints)

-- a fraction is cut to one number
pub cut_one : {f : Fraction} → IsOne (IsCut f)
cut_one {f} y z p q =
    same_signed f.num y z (same_size (unsigned_abs y) (unsigned_abs z) (unsigned_abs f.den) (unsigned_abs f.num) p.within p.next q.within q.next) p.up q.up p.down q.down

-- an expression is cut to one number
pub worth_cut : (tree : Tree) (variables : Var → Fraction) (v w : Fraction) (y z : ℤ) → IsWorth tree variables v → IsCut v y → IsWorth tree variables w → IsCut w z → y ≡ z
worth_cut tree variables v w y z p cut q also = cut_one y z (subst (λ (f : Fraction). IsCut f y) (worth_one tree variables v w p q) cut) also

-- two numbers that are nearest to another lie on either side of it
either_side : (n p : ℤ) (d q : ℕ) → d ≤ q → 2 * unsigned_abs (n -ℤ p) ≤ d → 2 * unsigned_abs (n -ℤ (p +ℤ pos q)) ≤ d
    → (q ≡ d) × (2 * unsigned_abs (n -ℤ p) ≡ d) × (2 * unsigned_abs (n -ℤ (p +ℤ pos q)) ≡ d)
either_side n p d q more a b = (omega (arith, ints), omega (arith, ints), omega (arith, ints))

next_product : (z : ℤ) (k d : ℕ) → (z +ℤ pos k) *ℤ pos d ≡ z *ℤ pos d +ℤ pos (k * d)
next_product z k d =
    let sum : up (z +ℤ pos k) + down z ≡ (up z + k) + down (z +ℤ pos k) = omega (arith, ints) in
    let product = ap (λ (n : ℕ). n * d) sum in
    omega (arith, ints)

one_apart : (m d : ℕ) → suc m * suc d ≡ suc d → m ≡ 0
one_apart zero d e = refl
one_apart (suc m) d e = absurd (omega arith)

one_even : (z : ℤ) → unsigned_abs z % 2 ≡ 0 → unsigned_abs (z +ℤ pos 1) % 2 ≡ 0 → ⊥
one_even (pos n) a b = omega (arith, ints)
one_even (negsuc zero) a b = omega (arith, ints)
one_even (negsuc (suc n)) a b = omega (arith, ints)

-- of two whole numbers the lower isn't nearest if the other is
none_below : (n z : ℤ) (d m : ℕ) → IsNearest (record { num = n; den = pos (suc d) }) z → IsNearest (record { num = n; den = pos (suc d) }) (z +ℤ pos (suc m)) → ⊥
none_below n z d m p q =
    let product = next_product z (suc m) (suc d) in
    let near : 2 * unsigned_abs (n -ℤ (z *ℤ pos (suc d) +ℤ pos (suc m * suc d))) ≤ suc d = rw product at q.near in
    let sides = either_side n (z *ℤ pos (suc d)) (suc d) (suc m * suc d) (omega arith) p.near near in
    let first = p.even sides.1 in
    let second : unsigned_abs (z +ℤ pos (suc m)) % 2 ≡ 0 = q.even (rw product sides.2) in
    let one : m ≡ 0 = one_apart m d sides.0 in
    one_even z first (subst (λ (k : ℕ). unsigned_abs (z +ℤ pos (suc k)) % 2 ≡ 0) one second)

-- where the denominator is positive, one whole number is the nearest
nearest_whole : (n y z : ℤ) (d : ℕ) → IsNearest (record { num = n; den = pos (suc d) }) y → IsNearest (record { num = n; den = pos (suc d) }) z → y ≡ z
nearest_whole n y z d p q = elim (cases_order (up y + down z) (up z + down y)) [
  | inl same ↦ same_in y z (omega arith)
  | inr (inl less) ↦ absurd (none_below n y d (unsigned_abs (z -ℤ y) - 1) p (subst (IsNearest (record { num = n; den = pos (suc d) })) (above y z (omega (arith, ints))) q))
  | inr (inr more) ↦ absurd (none_below n z d (unsigned_abs (y -ℤ z) - 1) q (subst (IsNearest (record { num = n; den = pos (suc d) })) (above z y (omega (arith, ints))) p))
]
  where
    above : (a b : ℤ) → a <ℤ b → b ≡ a +ℤ pos (suc (unsigned_abs (b -ℤ a) - 1))
    above a b less = omega (arith, ints)

pub nearest_one : {f : Fraction} → pos 0 <ℤ f.den → IsOne (IsNearest f)
nearest_one {f} some y z p q =
    let d = positive_is f.den some in
    nearest_whole f.num y z d.0
    (subst (λ (den : ℤ). IsNearest (record { num = f.num; den = den }) y) d.1 p)
    (subst (λ (den : ℤ). IsNearest (record { num = f.num; den = den }) z) d.1 q)

-- the value of an expression in lowest terms has one nearest whole number
pub worth_nearest : (tree : Tree) (variables : Var → Fraction) (v w : Fraction) (y z : ℤ) → AreLowest (listed variables) → HasLowest tree
    → IsWorth tree variables v → IsNearest v y → IsWorth tree variables w → IsNearest w z → y ≡ z
worth_nearest tree variables v w y z all lowest p near q also =
    let positive = (value_lowest (listed variables) tree w all lowest q).positive in
    nearest_one positive y z (subst (λ (f : Fraction). IsNearest f y) (worth_one tree variables v w p q) near) also
