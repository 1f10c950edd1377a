-- A draft that is cut in two, and two that are joined, keep the rule.
use Rattle.std.proofs.Common.{◌≡◌, ℕ, zero, suc, ◌+◌, ◌-◌, ◌<◌, ◌≤◌, ◌≢◌, List, [], ◌∷◌, ◌++◌, length, get_or, take, drop, set, sym, refl, ap, ◌∙◌, subst, arith, le_refl, length-set, length-append}
use Rattle.std.proofs.Math.ListN.{get_or-append}
use Rattle.std.proofs.Math.Seq.{get_or-append_right}
use Rattle.std.proofs.lemmas.List.{get_or-take, get_or-drop, length-take-le, length-drop}
use mathlib.Core.Logic.{dite}
use mathlib.Core.Option.{some, some-injective}
use native.Mathlib.Decide.{dec_le, ℕ_discrete}
use lib.ListN.{get_elem?}
use Rattle.atomic_table.specs.Table.{Splits, Joins}
use Rattle.atomic_table.proofs.Lists.{set_here, set_else, at_last, at_longer}
use Rattle.plane_pool.specs.declared.view.View.{View}
use Rattle.plane_pool.specs.declared.view.View.TheVariants.{Keeper, Giving, Drafting, Referring, Spent}
use Rattle.plane_pool.specs.Slot.{head_weight, weights, BeginsAt, Covers, Fits, IsFresh, Kept}
use Rattle.plane_pool.specs.Told.{cut_left, cut_right, mended}
use Rattle.plane_pool.specs.Asked.{MayCut, MayMend}
use Rattle.plane_pool.proofs.Sums.{weights-set, each_set, at_below}
use Rattle.plane_pool.proofs.Keeps.{cuts, owns}

-- k where the first holds and the second does not
who : {A B : Type 0} → Dec A → Dec B → ℕ → ℕ → ℕ
who (yes a) (no b) k o = k
who (yes a) (yes b) k o = o
who (no a) d k o = o

who_in : {A B : Type 0} (d : Dec A) (e : Dec B) (k o : ℕ) → A → (B → ⊥) → who d e k o ≡ k
unfolding who
who_in (yes a) (no b) k o h n = refl
who_in (yes a) (yes b) k o h n = absurd (n b)
who_in (no a) d k o h n = absurd (a h)

who_out : {A B : Type 0} (d : Dec A) (e : Dec B) (k o : ℕ) → (A → (B → ⊥) → ⊥) → who d e k o ≡ o
unfolding who
who_out (yes a) (no b) k o n = absurd (n a b)
who_out (yes a) (yes b) k o n = refl
who_out (no a) d k o n = refl

head-zero : (p : ℕ) → 0 < p → head_weight p ≡ 0
head-zero zero l = absurd (omega arith)
head-zero (suc k) l = refl

-- the view's places have the same owner under both
reowned : (n : ℕ) (words : List ℕ) (chief : ℕ) (owner owner' : ℕ → ℕ) (j : ℕ) (d : View) → ((p : ℕ) → Covers p d → owner' p ≡ owner p) → Fits n words chief owner j d → Fits n words chief owner' j d
reowned n words chief owner owner' j (Keeper m looks found) same h = h
reowned n words chief owner owner' j (Giving m looks found) same h = h
reowned n words chief owner owner' j (Drafting m from count written) same h = (h.0, h.1, h.2, h.3, h.4, λ p a b. same p (a, b) ∙ h.5 p a b)
reowned n words chief owner owner' j (Referring w content found) same h = h
reowned n words chief owner owner' j Spent same h = h

stands_take : (words : List ℕ) (from c : ℕ) (ys : List ℕ) → c ≤ length ys → BeginsAt words from ys → BeginsAt words from (take c ys)
stands_take words from c ys le st k l = let long = length-take-le c ys le in let less : k < c = omega arith in let inside : k < length ys = omega arith in st k inside ∙ sym (get_or-take c ys k 0 less)

stands_drop : (words : List ℕ) (from c at : ℕ) (ys : List ℕ) → from + c ≡ at → BeginsAt words from ys → BeginsAt words at (drop c ys)
stands_drop words from c at ys e st k l = let long = length-drop c ys in let inside : c + k < length ys = omega arith in let i : (at + k) + 1 ≡ (from + (c + k)) + 1 = omega arith in
    ap (λ (z : ℕ). get_or words z 0) i ∙ (st (c + k) inside ∙ sym (get_or-drop c ys k 0))

stands_append : (words : List ℕ) (from at : ℕ) (xs ys : List ℕ) → from + length xs ≡ at → BeginsAt words from xs → BeginsAt words at ys → BeginsAt words from (xs ++ ys)
stands_append words from at xs ys e a b k l = let long = length-append xs ys in
    dite (dec_le (length xs) k)
    (λ high. let j : ℕ = k - length xs in let inside : j < length ys = omega arith in let i : (from + k) + 1 ≡ (at + j) + 1 = omega arith in
    ap (λ (z : ℕ). get_or words z 0) i ∙ (b j inside ∙ sym (get_or-append_right xs ys k 0 high)))
    (λ low. let inside : k < length xs = omega arith in a k inside ∙ sym (get_or-append xs ys 0 k inside))

pub cuts_keep : (n id cut : ℕ) (v : View) → MayCut v cut → Splits (Kept n) id v (cut_left cut v) (cut_right cut v)
cuts_keep n id cut (Keeper m looks found) may s r at = absurd may
cuts_keep n id cut (Giving m looks found) may s r at = absurd may
cuts_keep n id cut (Referring w content found) may s r at = absurd may
cuts_keep n id cut Spent may s r at = absurd may
cuts_keep n id cut (Drafting m from count written) may s r at =
    let v : View = Drafting m from count written in let c : ℕ = cut - from in let left : View = Drafting m from c (take c written) in let right : View = Drafting m cut ((from + count) - cut) (drop c written) in
    let low = may.0 in let high = may.1 in let full = may.2 in let f = r.known id v at in let is : m ≡ n = f.0 in let within = f.2 in
    let k : ℕ = length s.views in let end : ℕ = from + count in let owner : ℕ → ℕ = λ p. who (dec_le cut p) (dec_le end p) k (r.owner p) in
    let none : head_weight cut ≡ 0 = head-zero cut (omega arith) in let short : length (take c written) ≡ c = length-take-le c written (omega arith) in let shorter = length-drop c written in
    let mine : (p : ℕ) → cut ≤ p → (end ≤ p → ⊥) → r.owner p ≡ id = λ p a b. f.5 p (omega arith) (omega arith) in
    let vs : List View = set s.views id left ++ right ∷ [] in let long = length-set s.views id left in
    let here : get_elem? vs id ≡ some left = at_longer (set s.views id left) (right ∷ []) id left (set_here s.views id left (at_below s.views id v at)) in
    let last : get_elem? vs k ≡ some right = at_last (set s.views id left) right k long in
    cuts n s r id v left right owner at (omega arith)
    (is, omega arith, omega arith, omega arith, stands_take s.words from c written (omega arith) f.4, λ p a b. who_out (dec_le cut p) (dec_le end p) k (r.owner p) (λ x y. omega arith) ∙ f.5 p a (omega arith))
    (is, omega arith, omega arith, omega arith, stands_drop s.words from c cut written (omega arith) f.4, λ p a b. who_in (dec_le cut p) (dec_le end p) k (r.owner p) a (λ x. omega arith))
    (λ j d ne e. reowned n s.words r.chief r.owner owner j d
    (λ p cov. who_out (dec_le cut p) (dec_le end p) k (r.owner p) (λ x y. ne (sym (owns n s.words r.chief r.owner j p d (r.known j d e) cov).0 ∙ mine p x y))) (r.known j d e))
    (λ j d q e cov p l. let t = r.covered id v from at (le_refl from, omega arith) p l in
    dite (ℕ_discrete (r.owner p) id)
    (λ same. let z : Covers p v = subst (λ (u : View). Covers p u) (some-injective t.0 v (sym t.1 ∙ (ap (λ (y : ℕ). get_elem? s.views y) same ∙ at))) t.2 in let z0 = z.0 in let z1 = z.1 in
    dite (dec_le cut p)
    (λ up. (right, ap (λ (y : ℕ). get_elem? vs y) (who_in (dec_le cut p) (dec_le end p) k (r.owner p) up (λ x. omega arith)) ∙ last, (up, omega arith)))
    (λ down. (left, ap (λ (y : ℕ). get_elem? vs y) (who_out (dec_le cut p) (dec_le end p) k (r.owner p) (λ x y. down x) ∙ same) ∙ here, (z0, omega arith))))
    (λ other. (
      t.0,
      ap (λ (y : ℕ). get_elem? vs y) (who_out (dec_le cut p) (dec_le end p) k (r.owner p) (λ x y. other (mine p x y)))
          ∙ at_longer (set s.views id left) (right ∷ []) (r.owner p) t.0 (set_else s.views id (r.owner p) left other ∙ t.1),
      t.2,
    )))
    (λ z. z) (λ z. z)

swap : {A : Type 0} → Dec A → ℕ → ℕ → ℕ
swap (yes a) k o = k
swap (no a) k o = o

swap_yes : {A : Type 0} (d : Dec A) (k o : ℕ) → A → swap d k o ≡ k
unfolding swap
swap_yes (yes a) k o h = refl
swap_yes (no a) k o h = absurd (a h)

swap_no : {A : Type 0} (d : Dec A) (k o : ℕ) → (A → ⊥) → swap d k o ≡ o
unfolding swap
swap_no (yes a) k o n = absurd (n a)
swap_no (no a) k o n = refl

pub mends_keep : (n id : ℕ) (v : View) (other : ℕ) (w : View) → MayMend v w → Joins (Kept n) id v other w (mended v w) Spent
mends_keep n id (Keeper m looks found) other w may s r at ne atw = absurd may
mends_keep n id (Giving m looks found) other w may s r at ne atw = absurd may
mends_keep n id (Referring h content found) other w may s r at ne atw = absurd may
mends_keep n id Spent other w may s r at ne atw = absurd may
mends_keep n id (Drafting m from count written) other (Keeper m' looks found) may s r at ne atw = absurd may.1
mends_keep n id (Drafting m from count written) other (Giving m' looks found) may s r at ne atw = absurd may.1
mends_keep n id (Drafting m from count written) other (Referring h content found) may s r at ne atw = absurd may.1
mends_keep n id (Drafting m from count written) other Spent may s r at ne atw = absurd may.1
mends_keep n id (Drafting m from count written) other (Drafting m' from' count' written') may s r at ne atw =
    let v : View = Drafting m from count written in let w : View = Drafting m' from' count' written' in let joint : View = Drafting m from (count + count') (written ++ written') in
    let full = may.0 in let next = may.1.0 in let full' = may.1.1 in let mid : List View = set s.views id joint in let vs : List View = set mid other Spent in
    let old : get_elem? s.views other ≡ some w = sym (set_else s.views id other joint ne) ∙ atw in
    let f = r.known id v at in let g = r.known other w old in let is : m ≡ n = f.0 in let some_places = f.1 in let within = g.2 in let long = length-append written written' in
    let owner : ℕ → ℕ = λ p. swap (ℕ_discrete (r.owner p) other) id (r.owner p) in
    let none : head_weight from' ≡ 0 = head-zero from' (omega arith) in let a = weights-set s.views id v joint at in let b = weights-set mid other w Spent atw in
    let same : weights vs ≡ weights s.views = omega arith in let limit = r.limit in
    let to_id : (p : ℕ) → r.owner p ≡ id → owner p ≡ id = λ p e. swap_no (ℕ_discrete (r.owner p) other) id (r.owner p) (λ x. ne (sym x ∙ e)) ∙ e in
    let here : get_elem? vs id ≡ some joint = set_else mid other id Spent (λ x. ne (sym x)) ∙ set_here s.views id joint (at_below s.views id v at) in
    let mine : (p : ℕ) → from ≤ p → p < from + (count + count') → owner p ≡ id = λ p x y. dite (dec_le from' p)
    (λ up. swap_yes (ℕ_discrete (r.owner p) other) id (r.owner p) (g.5 p up (omega arith)))
    (λ down. to_id p (f.5 p x (omega arith))) in
    record {
      chief = r.chief;
      owner = owner;
      some_words = r.some_words;
      wide = r.wide;
      sum = r.sum ∙ sym same;
      limit = omega arith;
      known = each_set (λ (j : ℕ) (d : View). Fits n s.words r.chief owner j d) mid other Spent tt
          (λ j d nej e. each_set (λ (j : ℕ) (d : View). j ≢ other → Fits n s.words r.chief owner j d) s.views id joint
          (λ _. (is, omega arith, omega arith, omega arith, stands_append s.words from from' written written' (omega arith) f.4 g.4, mine))
          (λ j d ni e no. reowned n s.words r.chief r.owner owner j d
          (λ p cov. swap_no (ℕ_discrete (r.owner p) other) id (r.owner p) (λ x. no (sym (owns n s.words r.chief r.owner j p d (r.known j d e) cov).0 ∙ x))) (r.known j d e))
          j d e nej);
      covered = λ j d q e cov p l. let t = r.covered id v from at (le_refl from, omega arith) p l in
          dite (ℕ_discrete (r.owner p) other)
          (λ up. let z : Covers p w = subst (λ (u : View). Covers p u) (some-injective t.0 w (sym t.1 ∙ (ap (λ (y : ℕ). get_elem? s.views y) up ∙ old))) t.2 in let z0 = z.0 in let z1 = z.1 in
          (joint, ap (λ (y : ℕ). get_elem? vs y) (swap_yes (ℕ_discrete (r.owner p) other) id (r.owner p) up) ∙ here, (omega arith, omega arith)))
          (λ away. dite (ℕ_discrete (r.owner p) id)
          (λ own. let z : Covers p v = subst (λ (u : View). Covers p u) (some-injective t.0 v (sym t.1 ∙ (ap (λ (y : ℕ). get_elem? s.views y) own ∙ at))) t.2 in let z0 = z.0 in let z1 = z.1 in
          (joint, ap (λ (y : ℕ). get_elem? vs y) (to_id p own) ∙ here, (z0, omega arith)))
          (λ far. (
            t.0,
            ap (λ (y : ℕ). get_elem? vs y) (swap_no (ℕ_discrete (r.owner p) other) id (r.owner p) away)
                ∙ (set_else mid other (r.owner p) Spent away ∙ (set_else s.views id (r.owner p) joint far ∙ t.1)),
            t.2,
          )));
      unused = each_set (λ (j : ℕ) (d : View). IsFresh d → weights vs ≡ 0) mid other Spent (λ z. absurd z)
          (λ j d nej e. each_set (λ (j : ℕ) (d : View). IsFresh d → weights vs ≡ 0) s.views id joint (λ z. absurd z) (λ j d ni e z. same ∙ r.unused j d e z) j d e);
    }
