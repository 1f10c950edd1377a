-- Identities of sums and products of whole numbers. Each is read as a difference of two natural numbers.
use Rattle.std.proofs.Common.{◌≡◌, ◌≢◌, ◌+◌, ◌*◌, ℕ, ℤ, pos, neg_ℤ, ◌*ℤ◌, ◌+ℤ◌, ◌-ℤ◌, sym, ◌∙◌, ap, arith}
use borrow.Author.Differences.{up, down, same_in, sum_is_lem, product_is, neg_is}
use Rattle.av_expr.proofs.FractionLemmas.{cancel}

-- z is p - n
record Differs (z : ℤ) (p n : ℕ) : Type 0 where
  is : up z + n ≡ down z + p

variable : (z : ℤ) → Differs z (up z) (down z)
variable z = record { is = omega arith }

product : {x y : ℤ} {p n q m : ℕ} → Differs x p n → Differs y q m → Differs (x *ℤ y) (p * q + n * m) (p * m + n * q)
product {x} {y} {p} {n} {q} {m} a b =
    let parts = product_is x y in
    let e = a.is in
    let f = b.is in
    let by_up = ap (λ (k : ℕ). k * up y) e in
    let by_down = ap (λ (k : ℕ). k * down y) e in
    let by_p = ap (λ (k : ℕ). p * k) f in
    let by_n = ap (λ (k : ℕ). n * k) f in
    record { is = omega arith }

sum : {x y : ℤ} {p n q m : ℕ} → Differs x p n → Differs y q m → Differs (x +ℤ y) (p + q) (n + m)
sum {x} {y} {p} {n} {q} {m} a b = let parts = sum_is_lem x y in let e = a.is in let f = b.is in record { is = omega arith }

opposite : {x : ℤ} {p n : ℕ} → Differs x p n → Differs (neg_ℤ x) n p
opposite {x} {p} {n} a = let parts = neg_is x in let e = a.is in record { is = omega arith }

same : {x y : ℤ} {p n q m : ℕ} → Differs x p n → Differs y q m → p + m ≡ q + n → x ≡ y
same {x} {y} {p} {n} {q} {m} a b h = same_in x y (let e = a.is in let f = b.is in omega arith)

-- ---- the identities

move : (v q k : ℤ) → (v *ℤ q) *ℤ k ≡ (v *ℤ k) *ℤ q
move v q k = same (product (product (variable v) (variable q)) (variable k)) (product (product (variable v) (variable k)) (variable q)) (omega arith)

associate : (p d k : ℤ) → p *ℤ (d *ℤ k) ≡ (p *ℤ d) *ℤ k
associate p d k = same (product (variable p) (product (variable d) (variable k))) (product (product (variable p) (variable d)) (variable k)) (omega arith)

exchange : (a b c d : ℤ) → (a *ℤ b) *ℤ (c *ℤ d) ≡ (a *ℤ c) *ℤ (b *ℤ d)
exchange a b c d =
    same (product (product (variable a) (variable b)) (product (variable c) (variable d))) (product (product (variable a) (variable c)) (product (variable b) (variable d))) (omega arith)

-- v is a/b in lower terms, and a/b is p/q
pub exact_by : (v w k a b p q : ℤ) → k ≢ pos 0 → v *ℤ k ≡ a → w *ℤ k ≡ b → a *ℤ q ≡ p *ℤ b → v *ℤ q ≡ p *ℤ w
exact_by v w k a b p q some num den e =
    cancel k (v *ℤ q) (p *ℤ w) some (move v q k ∙ ap (λ (x : ℤ). x *ℤ q) num ∙ e ∙ sym (ap (λ (x : ℤ). p *ℤ x) den) ∙ associate p w k)

pub exact_negation : (a b p q : ℤ) → a *ℤ q ≡ p *ℤ b → neg_ℤ a *ℤ q ≡ neg_ℤ p *ℤ b
exact_negation a b p q e =
    same (product (opposite (variable a)) (variable q)) (opposite (product (variable a) (variable q))) (omega arith)
    ∙ ap neg_ℤ e
    ∙ same (opposite (product (variable p) (variable b))) (product (opposite (variable p)) (variable b)) (omega arith)

spread : (a d c b q s : ℤ) → (a *ℤ d +ℤ c *ℤ b) *ℤ (q *ℤ s) ≡ (a *ℤ q) *ℤ (d *ℤ s) +ℤ (c *ℤ s) *ℤ (b *ℤ q)
spread a d c b q s =
    same
    (product (sum (product (variable a) (variable d)) (product (variable c) (variable b))) (product (variable q) (variable s)))
    (sum (product (product (variable a) (variable q)) (product (variable d) (variable s))) (product (product (variable c) (variable s)) (product (variable b) (variable q))))
    (omega arith)

gather : (p b d s r q : ℤ) → (p *ℤ b) *ℤ (d *ℤ s) +ℤ (r *ℤ d) *ℤ (b *ℤ q) ≡ (p *ℤ s +ℤ r *ℤ q) *ℤ (b *ℤ d)
gather p b d s r q =
    same
    (sum (product (product (variable p) (variable b)) (product (variable d) (variable s))) (product (product (variable r) (variable d)) (product (variable b) (variable q))))
    (product (sum (product (variable p) (variable s)) (product (variable r) (variable q))) (product (variable b) (variable d)))
    (omega arith)

-- a/b is p/q and c/d is r/s
pub exact_sum : (a b c d p q r s : ℤ) → a *ℤ q ≡ p *ℤ b → c *ℤ s ≡ r *ℤ d → (a *ℤ d +ℤ c *ℤ b) *ℤ (q *ℤ s) ≡ (p *ℤ s +ℤ r *ℤ q) *ℤ (b *ℤ d)
exact_sum a b c d p q r s e f =
    spread a d c b q s
    ∙ ap (λ (x : ℤ). x *ℤ (d *ℤ s) +ℤ (c *ℤ s) *ℤ (b *ℤ q)) e
    ∙ ap (λ (x : ℤ). (p *ℤ b) *ℤ (d *ℤ s) +ℤ x *ℤ (b *ℤ q)) f
    ∙ gather p b d s r q

subtract : (a d c b : ℤ) → a *ℤ d -ℤ c *ℤ b ≡ a *ℤ d +ℤ neg_ℤ c *ℤ b
subtract a d c b =
    same
    (sum (product (variable a) (variable d)) (opposite (product (variable c) (variable b))))
    (sum (product (variable a) (variable d)) (product (opposite (variable c)) (variable b)))
    (omega arith)

pub exact_difference : (a b c d p q r s : ℤ) → a *ℤ q ≡ p *ℤ b → c *ℤ s ≡ r *ℤ d → (a *ℤ d -ℤ c *ℤ b) *ℤ (q *ℤ s) ≡ (p *ℤ s -ℤ r *ℤ q) *ℤ (b *ℤ d)
exact_difference a b c d p q r s e f =
    ap (λ (x : ℤ). x *ℤ (q *ℤ s)) (subtract a d c b)
    ∙ exact_sum a b (neg_ℤ c) d p q (neg_ℤ r) s e (exact_negation c d r s f)
    ∙ ap (λ (x : ℤ). x *ℤ (b *ℤ d)) (sym (subtract p s r q))

pub exact_product : (a b c d p q r s : ℤ) → a *ℤ q ≡ p *ℤ b → c *ℤ s ≡ r *ℤ d → (a *ℤ c) *ℤ (q *ℤ s) ≡ (p *ℤ r) *ℤ (b *ℤ d)
exact_product a b c d p q r s e f = exchange a c q s ∙ ap (λ (x : ℤ). x *ℤ (c *ℤ s)) e ∙ ap (λ (x : ℤ). (p *ℤ b) *ℤ x) f ∙ exchange p b r d

turn : (a d q r : ℤ) → (a *ℤ d) *ℤ (q *ℤ r) ≡ (a *ℤ q) *ℤ (r *ℤ d)
turn a d q r =
    same (product (product (variable a) (variable d)) (product (variable q) (variable r))) (product (product (variable a) (variable q)) (product (variable r) (variable d))) (omega arith)

turn_back : (p b c s : ℤ) → (p *ℤ b) *ℤ (c *ℤ s) ≡ (p *ℤ s) *ℤ (b *ℤ c)
turn_back p b c s =
    same (product (product (variable p) (variable b)) (product (variable c) (variable s))) (product (product (variable p) (variable s)) (product (variable b) (variable c))) (omega arith)

pub exact_quotient : (a b c d p q r s : ℤ) → a *ℤ q ≡ p *ℤ b → c *ℤ s ≡ r *ℤ d → (a *ℤ d) *ℤ (q *ℤ r) ≡ (p *ℤ s) *ℤ (b *ℤ c)
exact_quotient a b c d p q r s e f = turn a d q r ∙ ap (λ (x : ℤ). x *ℤ (r *ℤ d)) e ∙ ap (λ (x : ℤ). (p *ℤ b) *ℤ x) (sym f) ∙ turn_back p b c s
