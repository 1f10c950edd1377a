-- A tree has one value or one reason that it has none, and the value is what the tree denotes.
use Rattle.std.proofs.Common.{◌≡◌, ◌≢◌, ◌<◌, ◌≤◌, ◌+◌, ◌%◌, ◌^◌, ◌⊎◌, ℕ, zero, suc, ℤ, pos, negsuc, neg_ℤ, ◌*ℤ◌, ◌+ℤ◌, ◌-ℤ◌, List, [], ◌∷◌, refl, sym, ◌∙◌, ap, subst, arith, inl, inr}
use Rattle.std.specs.Prelude.{unsigned_abs, Result, Ok, Err, IfOk, IfErr}
use Rattle.std.specs.List.{AllByRecursion}
use Rattle.std.specs.Int.{IsGcd}
use Rattle.std.proofs.lemmas.Bool.{cases_lt}
use Rattle.std.proofs.lemmas.Int.{ints}
use Rattle.std.proofs.lemmas.Nat.Gcd.{IsGcd-from_zero, IsGcd-from_mod}
use Rattle.std.proofs.Math.Nat.{mod-lt}
use Rattle.std.proofs.Math.IntN.{zero-*ℤ}
use borrow.Author.Differences.{up, down}
use Rattle.av_expr.specs.Fractions.{Fits, AreFitting, IsLowest, IsReduced, IsNegated, NoNegation, IsStep, NoStep, DividesByZero, above, below, made}
use Rattle.av_expr.specs.Trees.{Tree, Number, Variable, Negation, Binary, HasLowest}
use Rattle.av_expr.specs.Values.{value_of, AreLowest, IsValue, HasNone, Joins, Denotes}
use Rattle.av_expr.specs.Laws.{TreesHaveOneValue, ValuesAreExact}
use Rattle.av_expr.specs.declared.fraction.Fraction.{Fraction}
use Rattle.av_expr.specs.declared.fraction.Operator.{Operator}
use Rattle.av_expr.specs.declared.fraction.Operator.TheVariants.{Plus, Minus, Times, Over}
use Rattle.av_expr.specs.declared.fault.NoValue.{NoValue}
use Rattle.av_expr.specs.declared.fault.NoValue.TheVariants.{Overflow, DivisionByZero}
use Rattle.av_expr.proofs.FractionLemmas.{one_fraction, same_fraction, divided, divided_is, below_some, product_some, positive_some, some_divisor}
use Rattle.av_expr.proofs.EvalLemmas.{value_lowest}
use Rattle.av_expr.proofs.RingLemmas.{exact_by, exact_negation, exact_sum, exact_difference, exact_product, exact_quotient}

-- ---- one value, or one reason

one_step : {op : Operator} {a b v w : Fraction} → IsStep op a b v → IsStep op a b w → v ≡ w
one_step {op} {a} {b} {v} {w} p q = one_fraction (above op a b) (below op a b) v w p.reduced q.reduced

one_negation : {a v w : Fraction} → IsNegated a v → IsNegated a w → v ≡ w
one_negation {a} {v} {w} p q = same_fraction v w (p.num_is ∙ sym q.num_is) (p.den_is ∙ sym q.den_is)

pub value_same : (values : List Fraction) (t : Tree) (v w : Fraction) → IsValue values t v → IsValue values t w → v ≡ w
value_same values (Number f) v w p q = p ∙ sym q
value_same values (Variable x) v w p q = p ∙ sym q
value_same values (Negation t) v w p q = one_negation p.2 (subst (λ (a : Fraction). IsNegated a w) (value_same values t q.0 p.0 q.1 p.1) q.2)
value_same values (Binary op s t) v w p q =
    one_step p.4 (subst (λ (a : Fraction). IsStep op a p.1 w) (value_same values s q.0 p.0 q.2 p.2) (subst (λ (b : Fraction). IsStep op q.0 b w) (value_same values t q.1 p.1 q.3 p.3) q.4))

step_apart : (op : Operator) (a b v : Fraction) (r : NoValue) → IsStep op a b v → NoStep op a b r → ⊥
step_apart op a b v DivisionByZero p q = p.divides q
step_apart op a b v Overflow p (d, inl q) = q p.fits
step_apart op a b v Overflow p (d, inr q) = q.2 (subst AreFitting (one_fraction (above op a b) (below op a b) v q.0 p.reduced q.1) p.fitting)

negation_apart : (a v : Fraction) (r : NoValue) → IsNegated a v → NoNegation a r → ⊥
negation_apart a v DivisionByZero p q = q
negation_apart a v Overflow p q = q (subst Fits p.num_is p.fits)

pub value_apart : (values : List Fraction) (t : Tree) (v : Fraction) (r : NoValue) → IsValue values t v → HasNone values t r → ⊥
value_apart values (Number f) v r p q = q
value_apart values (Variable x) v r p q = q
value_apart values (Negation t) v r p (inl q) = value_apart values t p.0 r p.1 q
value_apart values (Negation t) v r p (inr q) = negation_apart p.0 v r p.2 (subst (λ (a : Fraction). NoNegation a r) (value_same values t q.0 p.0 q.1 p.1) q.2)
value_apart values (Binary op s t) v r p (inl q) = value_apart values s p.0 r p.2 q
value_apart values (Binary op s t) v r p (inr (inl q)) = value_apart values t p.1 r p.3 q.2
value_apart values (Binary op s t) v r p (inr (inr q)) =
    step_apart op p.0 p.1 v r p.4 (subst (λ (a : Fraction). NoStep op a p.1 r) (value_same values s q.0 p.0 q.2 p.2) (subst (λ (b : Fraction). NoStep op q.0 b r) (value_same values t q.1 p.1 q.3 p.3) q.4))

step_reason : (op : Operator) (a b : Fraction) (r s : NoValue) → NoStep op a b r → NoStep op a b s → r ≡ s
step_reason op a b DivisionByZero DivisionByZero p q = refl
step_reason op a b DivisionByZero Overflow p q = absurd (q.0 p)
step_reason op a b Overflow DivisionByZero p q = absurd (p.0 q)
step_reason op a b Overflow Overflow p q = refl

negation_reason : (a : Fraction) (r s : NoValue) → NoNegation a r → NoNegation a s → r ≡ s
negation_reason a DivisionByZero s p q = absurd p
negation_reason a Overflow DivisionByZero p q = absurd q
negation_reason a Overflow Overflow p q = refl

pub reason_same : (values : List Fraction) (t : Tree) (r s : NoValue) → HasNone values t r → HasNone values t s → r ≡ s
reason_same values (Number f) r s p q = absurd p
reason_same values (Variable x) r s p q = absurd p
reason_same values (Negation t) r s (inl p) (inl q) = reason_same values t r s p q
reason_same values (Negation t) r s (inl p) (inr q) = absurd (value_apart values t q.0 r q.1 p)
reason_same values (Negation t) r s (inr p) (inl q) = absurd (value_apart values t p.0 s p.1 q)
reason_same values (Negation t) r s (inr p) (inr q) = negation_reason p.0 r s p.2 (subst (λ (a : Fraction). NoNegation a s) (value_same values t q.0 p.0 q.1 p.1) q.2)
reason_same values (Binary op a b) r s (inl p) (inl q) = reason_same values a r s p q
reason_same values (Binary op a b) r s (inl p) (inr (inl q)) = absurd (value_apart values a q.0 r q.1 p)
reason_same values (Binary op a b) r s (inl p) (inr (inr q)) = absurd (value_apart values a q.0 r q.2 p)
reason_same values (Binary op a b) r s (inr (inl p)) (inl q) = absurd (value_apart values a p.0 s p.1 q)
reason_same values (Binary op a b) r s (inr (inl p)) (inr (inl q)) = reason_same values b r s p.2 q.2
reason_same values (Binary op a b) r s (inr (inl p)) (inr (inr q)) = absurd (value_apart values b q.1 r q.3 p.2)
reason_same values (Binary op a b) r s (inr (inr p)) (inl q) = absurd (value_apart values a p.0 s p.2 q)
reason_same values (Binary op a b) r s (inr (inr p)) (inr (inl q)) = absurd (value_apart values b p.1 s p.3 q.2)
reason_same values (Binary op a b) r s (inr (inr p)) (inr (inr q)) =
    step_reason op p.0 p.1 r s p.4 (subst (λ (x : Fraction). NoStep op x p.1 s) (value_same values a q.0 p.0 q.2 p.2) (subst (λ (y : Fraction). NoStep op q.0 y s) (value_same values b q.1 p.1 q.3 p.3) q.4))

-- ---- what a call returns

pub only_value : (values : List Fraction) (t : Tree) (r : Result Fraction NoValue) → IfOk r (IsValue values t) → IfErr r (HasNone values t) → (v : Fraction) → IsValue values t v → r ≡ Ok v
only_value values t (Ok w) value none v h = ap Ok (value_same values t w v value h)
only_value values t (Err reason) value none v h = absurd (value_apart values t v reason h none)

pub only_reason : (values : List Fraction) (t : Tree) (r : Result Fraction NoValue) → IfOk r (IsValue values t) → IfErr r (HasNone values t) → (reason : NoValue) → HasNone values t reason → r ≡ Err reason
only_reason values t (Ok w) value none reason h = absurd (value_apart values t w reason value h)
only_reason values t (Err other) value none reason h = ap Err (reason_same values t other reason none h)

pub only_lowest : (values : List Fraction) (t : Tree) (r : Result Fraction NoValue) → AreLowest values → HasLowest t → IfOk r (IsValue values t) → IfOk r IsLowest
only_lowest values t (Ok w) all lowest value = value_lowest values t w all lowest value
only_lowest values t (Err reason) all lowest value = tt

-- ---- a value or a reason is there

gcd_within : (n a b : ℕ) → b ≤ n → (g : ℕ) × IsGcd a b g
gcd_within zero a b h = (a, IsGcd-from_zero a b (omega arith))
gcd_within (suc n) a zero h = (a, IsGcd-from_zero a zero refl)
gcd_within (suc n) a (suc b) h =
    let rest : a % suc b < suc b = mod-lt a (omega arith) in
    let g = gcd_within n (suc b) (a % suc b) (omega arith) in
    (g.0, IsGcd-from_mod a (suc b) g.0 g.1)

pub reduced_some : (num den : ℤ) → den ≢ pos 0 → (f : Fraction) × IsReduced num den f
reduced_some num den some =
    let g = gcd_within (unsigned_abs den) (unsigned_abs num) (unsigned_abs den) (omega arith) in
    (divided num den g.0, divided_is num den g.0 some g.1)

fits_or : (z : ℤ) → Fits z ⊎ (¬ Fits z)
fits_or z = elim (cases_lt (up z) (down z + 2 ^ 127)) [
  | inl low ↦ elim (cases_lt (up z + 2 ^ 127) (down z)) [
    | inl high ↦ inr (λ f. omega (arith, ints))
    | inr fine ↦ inl (omega (arith, ints))
  ]
  | inr high ↦ inr (λ f. omega (arith, ints))
]

all_fit_or : (zs : List ℤ) → AllByRecursion Fits zs ⊎ (¬ AllByRecursion Fits zs)
all_fit_or [] = inl tt
all_fit_or (z ∷ zs) = elim (fits_or z) [
  | inl f ↦ elim (all_fit_or zs) [
    | inl all ↦ inl (f, all)
    | inr none ↦ inr (λ h. none h.1)
  ]
  | inr none ↦ inr (λ h. none h.0)
]

both_fit_or : (f : Fraction) → AreFitting f ⊎ (¬ AreFitting f)
both_fit_or f = elim (fits_or f.num) [
  | inl num ↦ elim (fits_or f.den) [
    | inl den ↦ inl (num, den)
    | inr none ↦ inr (λ h. none h.1)
  ]
  | inr none ↦ inr (λ h. none h.0)
]

zero_or : (z : ℤ) → (z ≡ pos 0) ⊎ (z ≢ pos 0)
zero_or (pos zero) = inl refl
zero_or (pos (suc n)) = inr (λ e. omega (arith, ints))
zero_or (negsuc n) = inr (λ e. omega (arith, ints))

divides_or : (op : Operator) (b : Fraction) → DividesByZero op b ⊎ (¬ DividesByZero op b)
divides_or Plus b = inr (λ h. let e = h.0 in cc)
divides_or Minus b = inr (λ h. let e = h.0 in cc)
divides_or Times b = inr (λ h. let e = h.0 in cc)
divides_or Over b = elim (zero_or b.num) [
  | inl e ↦ inl (refl, e)
  | inr some ↦ inr (λ h. some h.1)
]

abbrev StepOrNot : Operator → Fraction → Fraction → Type 0
StepOrNot op a b = ((v : Fraction) × IsStep op a b v) ⊎ ((r : NoValue) × NoStep op a b r)

fitting_step : (op : Operator) (a b f : Fraction) → ¬ DividesByZero op b → AllByRecursion Fits (made op a b) → IsReduced (above op a b) (below op a b) f → StepOrNot op a b
fitting_step op a b f divides fits reduced = elim (both_fit_or f) [
  | inl both ↦ inl (f, record { divides = divides; fits = fits; reduced = reduced; fitting = both })
  | inr none ↦ inr (Overflow, (divides, inr (f, reduced, none)))
]

step_or : (op : Operator) (a b : Fraction) → IsLowest a → IsLowest b → StepOrNot op a b
step_or op a b p q = elim (divides_or op b) [
  | inl by_zero ↦ inr (DivisionByZero, by_zero)
  | inr divides ↦ elim (all_fit_or (made op a b)) [
    | inl fits ↦ (let f = reduced_some (above op a b) (below op a b) (below_some op a b p.positive q.positive divides) in fitting_step op a b f.0 divides fits f.1)
    | inr none ↦ inr (Overflow, (divides, inl none))
  ]
]

negation_or : (a : Fraction) → ((v : Fraction) × IsNegated a v) ⊎ ((r : NoValue) × NoNegation a r)
negation_or a = elim (fits_or (neg_ℤ a.num)) [
  | inl fits ↦ inl (record { num = neg_ℤ a.num; den = a.den }, record { num_is = refl; den_is = refl; fits = fits })
  | inr none ↦ inr (Overflow, none)
]

abbrev ValueOrNot : List Fraction → Tree → Type 0
ValueOrNot values t = ((v : Fraction) × IsValue values t v) ⊎ ((r : NoValue) × HasNone values t r)

negation_value : (values : List Fraction) (t : Tree) → ValueOrNot values t → ValueOrNot values (Negation t)
negation_value values t (inr none) = inr (none.0, inl none.1)
negation_value values t (inl a) = elim (negation_or a.0) [
  | inl v ↦ inl (v.0, (a.0, a.1, v.1))
  | inr none ↦ inr (none.0, inr (a.0, a.1, none.1))
]

binary_value : (values : List Fraction) (op : Operator) (s t : Tree) → AreLowest values → HasLowest s → HasLowest t → ValueOrNot values s → ValueOrNot values t → ValueOrNot values (Binary op s t)
binary_value values op s t all p q (inr none) b = inr (none.0, inl none.1)
binary_value values op s t all p q (inl a) (inr none) = inr (none.0, inr (inl (a.0, a.1, none.1)))
binary_value values op s t all p q (inl a) (inl b) = elim (step_or op a.0 b.0 (value_lowest values s a.0 all p a.1) (value_lowest values t b.0 all q b.1)) [
  | inl v ↦ inl (v.0, (a.0, b.0, a.1, b.1, v.1))
  | inr none ↦ inr (none.0, inr (inr (a.0, b.0, a.1, b.1, none.1)))
]

value_or : (values : List Fraction) (t : Tree) → AreLowest values → HasLowest t → ValueOrNot values t
value_or values (Number f) all lowest = inl (f, refl)
value_or values (Variable x) all lowest = inl (value_of values x, refl)
value_or values (Negation t) all lowest = negation_value values t (value_or values t all lowest)
value_or values (Binary op s t) all lowest = binary_value values op s t all lowest.0 lowest.1 (value_or values s all lowest.0) (value_or values t all lowest.1)

pub one_value_law : TreesHaveOneValue
one_value_law = record {
  one_value = value_same;
  one_reason = reason_same;
  not_both = value_apart;
  one_of_both = value_or;
  lowest = value_lowest;
}

-- ---- the value is the number that the tree denotes

joins_same : (op : Operator) (a b c d p q r s : ℤ) → Joins op a b c d p q → Joins op a b c d r s → (p ≡ r) × (q ≡ s)
joins_same Plus a b c d p q r s x y = (x.0 ∙ sym y.0, x.1 ∙ sym y.1)
joins_same Minus a b c d p q r s x y = (x.0 ∙ sym y.0, x.1 ∙ sym y.1)
joins_same Times a b c d p q r s x y = (x.0 ∙ sym y.0, x.1 ∙ sym y.1)
joins_same Over a b c d p q r s x y = (x.1 ∙ sym y.1, x.2 ∙ sym y.2)

number_same : (values : List Fraction) (t : Tree) (p q r s : ℤ) → Denotes values t p q → Denotes values t r s → (p ≡ r) × (q ≡ s)
number_same values (Number f) p q r s x y = (x.0 ∙ sym y.0, x.1 ∙ sym y.1)
number_same values (Variable z) p q r s x y = (x.0 ∙ sym y.0, x.1 ∙ sym y.1)
number_same values (Negation t) p q r s x y = let e = number_same values t x.0 q y.0 s x.1 y.1 in (x.2 ∙ ap neg_ℤ e.0 ∙ sym y.2, e.1)
number_same values (Binary op t u) p q r s x y =
    let e = number_same values t x.0 x.1 y.0 y.1 x.4 y.4 in
    let f = number_same values u x.2 x.3 y.2 y.3 x.5 y.5 in
    joins_same op x.0 x.1 x.2 x.3 p q r s x.6 (rw (sym e.0, sym e.1, sym f.0, sym f.1) at y.6)

-- v is the number p/q
record Equals (v : Fraction) (p q : ℤ) : Type 0 where
  some : q ≢ pos 0
  cross : v.num *ℤ q ≡ p *ℤ v.den

-- a divisor that isn't 0 denotes a number that isn't
numerator_some : (b : Fraction) (p q : ℤ) → Equals b p q → b.num ≢ pos 0 → p ≢ pos 0
numerator_some b p q e some none = product_some b.num q some e.some (e.cross ∙ ap (λ (x : ℤ). x *ℤ b.den) none ∙ zero-*ℤ b.den)

divisor_some : {num den : ℤ} {f : Fraction} → (h : IsReduced num den f) → h.divisor ≢ pos 0
divisor_some {num} {den} {f} h = some_divisor f.den h.divisor den h.den_is h.defined

joined_exact : (op : Operator) (a b v : Fraction) (p q r s : ℤ) → IsStep op a b v → Equals a p q → Equals b r s → (x y : ℤ) × Joins op p q r s x y × Equals v x y
joined_exact Plus a b v p q r s h e f = (
  p *ℤ s +ℤ r *ℤ q,
  q *ℤ s,
  (refl, refl),
  record {
    some = product_some q s e.some f.some;
    cross = exact_by v.num v.den h.reduced.divisor _ _ _ _ (divisor_some h.reduced) h.reduced.num_is h.reduced.den_is (exact_sum a.num a.den b.num b.den p q r s e.cross f.cross);
  },
)
joined_exact Minus a b v p q r s h e f = (
  p *ℤ s -ℤ r *ℤ q,
  q *ℤ s,
  (refl, refl),
  record {
    some = product_some q s e.some f.some;
    cross = exact_by v.num v.den h.reduced.divisor _ _ _ _ (divisor_some h.reduced) h.reduced.num_is h.reduced.den_is (exact_difference a.num a.den b.num b.den p q r s e.cross f.cross);
  },
)
joined_exact Times a b v p q r s h e f = (
  p *ℤ r,
  q *ℤ s,
  (refl, refl),
  record {
    some = product_some q s e.some f.some;
    cross = exact_by v.num v.den h.reduced.divisor _ _ _ _ (divisor_some h.reduced) h.reduced.num_is h.reduced.den_is (exact_product a.num a.den b.num b.den p q r s e.cross f.cross);
  },
)
joined_exact Over a b v p q r s h e f =
    let some = numerator_some b r s f (λ none. h.divides (refl, none)) in (
      p *ℤ s,
      q *ℤ r,
      (some, refl, refl),
      record {
        some = product_some q r e.some some;
        cross = exact_by v.num v.den h.reduced.divisor _ _ _ _ (divisor_some h.reduced) h.reduced.num_is h.reduced.den_is (exact_quotient a.num a.den b.num b.den p q r s e.cross f.cross);
      },
    )

exact : (values : List Fraction) (t : Tree) (v : Fraction) → AreLowest values → HasLowest t → IsValue values t v → (p q : ℤ) × Denotes values t p q × Equals v p q
exact values (Number f) v all lowest h = (f.num, f.den, (refl, refl), record { some = positive_some f.den lowest.positive; cross = rw h refl })
exact values (Variable x) v all lowest h = ((value_of values x).num, (value_of values x).den, (refl, refl), record { some = positive_some (value_of values x).den (all x).positive; cross = rw h refl })
exact values (Negation t) v all lowest h =
    let e = exact values t h.0 all lowest h.1 in
    (neg_ℤ e.0, e.1, (e.0, e.2, refl), record { some = e.3.some; cross = rw (h.2.num_is, h.2.den_is) (exact_negation h.0.num h.0.den e.0 e.1 e.3.cross) })
exact values (Binary op s t) v all lowest h =
    let e = exact values s h.0 all lowest.0 h.2 in
    let f = exact values t h.1 all lowest.1 h.3 in
    let j = joined_exact op h.0 h.1 v e.0 e.1 f.0 f.1 h.4 e.3 f.3 in
    (j.0, j.1, (e.0, e.1, f.0, f.1, e.2, f.2, j.2), j.3)

pub exact_law : ValuesAreExact
exact_law = record {
  one_number = number_same;
  denotes = λ values t v all lowest h. let e = exact values t v all lowest h in (e.0, e.1, e.2, e.3.some, e.3.cross);
}
