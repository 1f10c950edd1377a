-- Each step of a slot keeps its rule.
use Rattle.std.proofs.Common.{◌≡◌, ℕ, zero, suc, ◌+◌, ◌-◌, ◌%◌, ◌^◌, ◌<◌, ◌≤◌, ◌≢◌, List, [], ◌∷◌, ◌++◌, length, get_or, set, sym, refl, ap, ◌∙◌, subst, arith, le_refl, length-set, get_or-set_other, get_or-set_same, eqb}
use mathlib.Core.Logic.{dite}
use mathlib.Core.Option.{none, some, some-injective, some-ne-none}
use native.Mathlib.Decide.{ℕ_discrete}
use lib.ListN.{get_elem?}
use lib.Seq.{set-get_or}
use prog.Atomic.{either}
use Rattle.atomic_table.specs.Table.{State, Me, Act, step, keeps, Valid, carried_after, stepped, Allows, Splits, opening}
use Rattle.atomic_table.proofs.Lists.{set_again, set_here, set_else, at_last, at_longer, exchanged}
use Rattle.plane_pool.specs.declared.view.View.{View}
use Rattle.plane_pool.specs.declared.view.View.TheVariants.{Keeper, Giving, Drafting, Referring, Spent}
use Rattle.plane_pool.specs.Slot.{whole_weight, weight, weights, keeper, Covers, Fits, Covered, IsFresh, Kept}
use Rattle.plane_pool.specs.Told.{with_word, lighter, lent, idle, drafted, puts, gets, seals, drops, opens, claims}
use Rattle.plane_pool.specs.Asked.{MayPut, MayGet, MaySeal, MayRelease, MayShare, MayOpen, MayClaim, MayGive}
use Rattle.plane_pool.proofs.Sums.{weights-set, weights-snoc, weight-le, two_weights, each_set, each_snoc, at_below, with_word-le, stands_put, stands_off}

abbrev pub SlotState : Type 0
SlotState = State (Unit {0}) View

abbrev Mine : Type 0
Mine = Me (Unit {0}) View

abbrev Carried : Type 0
Carried = List (ℕ × Unit {0})

-- a step that leaves the word and the view leaves the table
still : (n : ℕ) (s : SlotState) (i id : ℕ) (c : Carried) (v : View) → get_elem? s.views id ≡ some v → Kept n s → Kept n (stepped s i (get_or s.words i 0) id c v keeps)
still n s i id c v at r = subst (λ (z : List ℕ × List View). Kept n record { words = z.0; homes = s.homes; views = z.1 }) (λ k. (sym (set-get_or s.words i 0) k, sym (set_again s.views id v at) k)) r

pub heavy : (u : View) → Covers 0 u → weight u ≡ whole_weight
heavy (Keeper n looks found) h = absurd h
heavy (Giving n looks found) h = absurd h
heavy (Drafting n zero count written) h = refl
heavy (Drafting n (suc k) count written) h = absurd (let a = h.0 in omega arith)
heavy (Referring w content found) h = absurd h
heavy Spent h = absurd h

-- beside a draft no view but the first draft's weighs anything
pub light : (n : ℕ) (s : SlotState) → Kept n s → (id : ℕ) (v : View) (q : ℕ) → get_elem? s.views id ≡ some v → Covers q v → (j : ℕ) (d : View) → get_elem? s.views j ≡ some d → (Covers 0 d → ⊥) → weight d ≡ 0
light n s r id v q at c j d atj not = let t = r.covered id v q at c 0 r.some_words in let u : View = t.0 in let atu : get_elem? s.views (r.owner 0) ≡ some u = t.1 in let full : weight u ≡ whole_weight = heavy u t.2 in
    dite (ℕ_discrete (r.owner 0) j)
    (λ same. absurd (not (subst (λ (z : View). Covers 0 z) (some-injective u d (sym atu ∙ (ap (λ (z : ℕ). get_elem? s.views z) same ∙ atj))) t.2)))
    (λ other. let both = two_weights s.views (r.owner 0) j u d atu atj other in let limit = r.limit in omega arith)

-- what a store at the place p leaves of another view
put_others : (n : ℕ) (words : List ℕ) (chief : ℕ) (owner : ℕ → ℕ) (p x id j : ℕ) → owner p ≡ id → j ≢ id → (d : View) → ((Covers 0 d → ⊥) → weight d ≡ 0) → Fits n words chief owner j d → Fits n (set words (p + 1) x) chief owner j d
put_others n words chief owner p x id j own ne (Keeper m looks found) light h = h
put_others n words chief owner p x id j own ne (Giving m looks found) light h = h
put_others n words chief owner p x id j own ne (Drafting m from count written) light h =
    (h.0, h.1, h.2, h.3, stands_off words from written (p + 1) x (λ k l e. let le = h.3 in let is : from + k ≡ p = omega arith in let low : from ≤ p = omega arith in let high : p < from + count = omega arith in ne (sym (h.5 p low high) ∙ own)) h.4, h.5)
put_others n words chief owner p x id j own ne (Referring w content found) light h = let none_left : w ≡ 0 = light (λ z. z) in absurd (let some_left = h.0 in omega arith)
put_others n words chief owner p x id j own ne Spent light h = tt

-- the covering stays where a view's range does
module _ (n : ℕ) (owner : ℕ → ℕ) (vs : List View) (id : ℕ) (v w : View) (at : get_elem? vs id ≡ some v) where
  abbrev Has : ℕ → Type 0
  Has p = (u : View) × (get_elem? (set vs id w) (owner p) ≡ some u) × Covers p u

  moved : ((q : ℕ) → Covers q v → Covers q w) → (p : ℕ) (u : View) → get_elem? vs (owner p) ≡ some u → Covers p u → Has p
  moved to p u e c = dite (ℕ_discrete (owner p) id)
      (λ same. (w, ap (λ (z : ℕ). get_elem? (set vs id w) z) same ∙ set_here vs id w (at_below vs id v at), to p (subst (λ (z : View). Covers p z) (some-injective u v (sym e ∙ (ap (λ (z : ℕ). get_elem? vs z) same ∙ at))) c)))
      (λ other. (u, set_else vs id (owner p) w other ∙ e, c))

  covered_set : ((q : ℕ) → Covers q v → Covers q w) → ((q : ℕ) → Covers q w → Covers q v) → Covered n owner vs → Covered n owner (set vs id w)
  covered_set to back old j d q e c p l = each_set (λ (j : ℕ) (d : View). (q : ℕ) → Covers q d → (p : ℕ) → p < n → Has p) vs id w
      (λ q c p l. let t = old id v q at (back q c) p l in moved to p t.0 t.1 t.2)
      (λ j d ne e q c p l. let t = old j d q e c p l in moved to p t.0 t.1 t.2)
      j d e q c p l

pub puts_keep : (n slots id : ℕ) (v : View) (c : Carried) (p x : ℕ) → p < n → MayPut v p → Allows (Kept n) slots id (v, c) (p + 1) (λ _. x) (λ _. puts (step slots (p + 1) x 0 none) (v, c) x)
puts_keep n slots id (Keeper m looks found) c p x lt may s r _ at small = absurd may
puts_keep n slots id (Giving m looks found) c p x lt may s r _ at small = absurd may
puts_keep n slots id (Referring w content found) c p x lt may s r _ at small = absurd may
puts_keep n slots id Spent c p x lt may s r _ at small = absurd may
puts_keep n slots id (Drafting m from count written) c p x lt may s r _ at small =
    let k : ℕ = ((p + 1) - 1) - from in let v : View = Drafting m from count written in let w : View = Drafting m from count (with_word written k x) in
    let low = may.0 in let high = may.1 in let next = may.2 in let e : from + k ≡ p = omega arith in let le : k ≤ length written = omega arith in let less : k < count = omega arith in
    let f = r.known id v at in let wide = r.wide in let inside : p + 1 < length s.words = omega arith in let own : r.owner p ≡ id = f.5 p low high in
    let same : weights (set s.views id w) ≡ weights s.views = (let z = weights-set s.views id v w at in omega arith) in (
      w,
      keeps,
      tt,
      record {
        chief = r.chief;
        owner = r.owner;
        some_words = r.some_words;
        wide = length-set s.words (p + 1) x ∙ r.wide;
        sum = get_or-set_other s.words (p + 1) 0 x 0 (λ z. omega arith) ∙ (r.sum ∙ sym same);
        limit = (let z = r.limit in omega arith);
        known = each_set (λ (j : ℕ) (d : View). Fits n (set s.words (p + 1) x) r.chief r.owner j d) s.views id w
            (f.0, f.1, f.2, with_word-le written k x count le less f.3, stands_put s.words from written p x k e le inside f.4, f.5)
            (λ j d ne atj. put_others n s.words r.chief r.owner p x id j own ne d (light n s r id v p at (low, high) j d atj) (r.known j d atj));
        covered = covered_set n r.owner s.views id v w at (λ q z. z) (λ q z. z) r.covered;
        unused = each_set (λ (j : ℕ) (d : View). IsFresh d → weights (set s.views id w) ≡ 0) s.views id w (λ z. absurd z) (λ j d ne e z. same ∙ r.unused j d e z);
      },
      refl,
    )

pub gets_keep : (n slots id : ℕ) (v : View) (c : Carried) (p : ℕ) → MayGet v p → Allows (Kept n) slots id (v, c) (p + 1) (λ x. x) (gets (step slots (p + 1) 0 0 none) (v, c))
gets_keep n slots id (Keeper m looks found) c p may s r _ at small = absurd may
gets_keep n slots id (Giving m looks found) c p may s r _ at small = absurd may
gets_keep n slots id Spent c p may s r _ at small = absurd may
gets_keep n slots id (Drafting m from count written) c p may s r _ at small =
    let v : View = Drafting m from count written in let f = r.known id v at in let k : ℕ = ((p + 1) - 1) - from in let low = may.0 in let high = may.1 in let l : k < length written = omega arith in
    let i : p + 1 ≡ (from + k) + 1 = omega arith in (v, keeps, tt, still n s (p + 1) id c v at r, (refl, ap (λ (z : ℕ). get_or s.words z 0) i ∙ f.4 k l))
gets_keep n slots id (Referring w content found) c p may s r _ at small =
    let v : View = Referring w content found in let f = r.known id v at in let k : ℕ = (p + 1) - 1 in let l : k < length content = omega arith in
    let i : p + 1 ≡ (0 + k) + 1 = omega arith in (v, keeps, tt, still n s (p + 1) id c v at r, (refl, ap (λ (z : ℕ). get_or s.words z 0) i ∙ f.2 k l))

-- word 0 is no data word
fits_zero : (n : ℕ) (words : List ℕ) (chief : ℕ) (owner : ℕ → ℕ) (y j : ℕ) (d : View) → Fits n words chief owner j d → Fits n (set words 0 y) chief owner j d
fits_zero n words chief owner y j (Keeper m looks found) h = h
fits_zero n words chief owner y j (Giving m looks found) h = h
fits_zero n words chief owner y j (Drafting m from count written) h = (h.0, h.1, h.2, h.3, stands_off words from written 0 y (λ k l e. absurd (omega arith)) h.4, h.5)
fits_zero n words chief owner y j (Referring w content found) h = (h.0, h.1, stands_off words 0 content 0 y (λ k l e. absurd (omega arith)) h.2)
fits_zero n words chief owner y j Spent h = tt

-- a step on word 0
turned : (n : ℕ) (s : SlotState) (r : Kept n s) (id : ℕ) (c : Carried) (v w : View) (y : ℕ) (owner : ℕ → ℕ) → get_elem? s.views id ≡ some v → y + weight v ≡ weights s.views + weight w → y ≤ whole_weight
    → Fits n s.words r.chief owner id w → ((j : ℕ) (d : View) → j ≢ id → get_elem? s.views j ≡ some d → Fits n s.words r.chief owner j d) → Covered n owner (set s.views id w)
    → (IsFresh w → ⊥) → ((j : ℕ) (d : View) → j ≢ id → get_elem? s.views j ≡ some d → IsFresh d → y ≡ 0) → Kept n (stepped s 0 y id c w keeps)
turned n s r id c v w y owner at sum le here others covered used stays = let z = weights-set s.views id v w at in let is : y ≡ weights (set s.views id w) = omega arith in let wide = r.wide in
    let inside : 0 < length s.words = omega arith in
    record {
      chief = r.chief;
      owner = owner;
      some_words = r.some_words;
      wide = length-set s.words 0 y ∙ r.wide;
      sum = get_or-set_same s.words 0 y 0 inside ∙ is;
      limit = omega arith;
      known = each_set (λ (j : ℕ) (d : View). Fits n (set s.words 0 y) r.chief owner j d) s.views id w
          (fits_zero n s.words r.chief owner y id w here)
          (λ j d ne e. fits_zero n s.words r.chief owner y j d (others j d ne e));
      covered = covered;
      unused = each_set (λ (j : ℕ) (d : View). IsFresh d → weights (set s.views id w) ≡ 0) s.views id w (λ z. absurd (used z)) (λ j d ne e z. sym is ∙ stays j d ne e z);
    }

-- a seat is split
pub cuts : (n : ℕ) (s : SlotState) (r : Kept n s) (id : ℕ) (v left right : View) (owner : ℕ → ℕ) → get_elem? s.views id ≡ some v → weight left + weight right ≡ weight v
    → Fits n s.words r.chief owner id left → Fits n s.words r.chief owner (length s.views) right → ((j : ℕ) (d : View) → j ≢ id → get_elem? s.views j ≡ some d → Fits n s.words r.chief owner j d)
    → Covered n owner (set s.views id left ++ right ∷ []) → (IsFresh left → ⊥) → (IsFresh right → ⊥) → Kept n record { words = s.words; homes = s.homes; views = set s.views id left ++ right ∷ [] }
cuts n s r id v left right owner at split here there others covered not_left not_right = let z = weights-set s.views id v left at in let y = weights-snoc (set s.views id left) right in
    let same : weights (set s.views id left ++ right ∷ []) ≡ weights s.views = omega arith in let limit = r.limit in let long = length-set s.views id left in
    record {
      chief = r.chief;
      owner = owner;
      some_words = r.some_words;
      wide = r.wide;
      sum = r.sum ∙ sym same;
      limit = omega arith;
      known = each_snoc (λ (j : ℕ) (d : View). Fits n s.words r.chief owner j d) (set s.views id left) right
          (subst (λ (k : ℕ). Fits n s.words r.chief owner k right) (sym long) there)
          (each_set (λ (j : ℕ) (d : View). Fits n s.words r.chief owner j d) s.views id left here others);
      covered = covered;
      unused = each_snoc (λ (j : ℕ) (d : View). IsFresh d → weights (set s.views id left ++ right ∷ []) ≡ 0) (set s.views id left) right (λ z. absurd (not_right z))
          (each_set (λ (j : ℕ) (d : View). IsFresh d → weights (set s.views id left ++ right ∷ []) ≡ 0) s.views id left (λ z. absurd (not_left z)) (λ j d ne e z. same ∙ r.unused j d e z));
    }

-- a draft is the owner of each place that it covers
pub owns : (n : ℕ) (words : List ℕ) (chief : ℕ) (owner : ℕ → ℕ) (j q : ℕ) (d : View) → Fits n words chief owner j d → Covers q d → (owner q ≡ j) × (q < n)
owns n words chief owner j q (Keeper m looks found) h c = absurd c
owns n words chief owner j q (Giving m looks found) h c = absurd c
owns n words chief owner j q (Drafting m from count written) h c = let low = c.0 in let high = c.1 in let within = h.2 in (h.5 q low high, omega arith)
owns n words chief owner j q (Referring w content found) h c = absurd c
owns n words chief owner j q Spent h c = absurd c

-- where a draft of the whole slot becomes something else, no draft is left
none_covered : (n : ℕ) (s : SlotState) (r : Kept n s) (id : ℕ) (w : View) → ((p : ℕ) → p < n → r.owner p ≡ id) → ((q : ℕ) → Covers q w → ⊥) → Covered n r.owner (set s.views id w)
none_covered n s r id w all not j d q e c p l = absurd (each_set (λ (j : ℕ) (d : View). (q : ℕ) → Covers q d → ⊥) s.views id w not
    (λ j d ne at q c. let t = owns n s.words r.chief r.owner j q d (r.known j d at) c in ne (sym t.0 ∙ all q t.1)) j d e q c)

pub seals_keep : (n slots id : ℕ) (v : View) (c : Carried) → MaySeal v → Allows (Kept n) slots id (v, c) 0 (λ x. x) (seals (step slots 0 0 0 none) (v, c))
seals_keep n slots id (Keeper m looks found) c may s r _ at small = absurd may
seals_keep n slots id (Giving m looks found) c may s r _ at small = absurd may
seals_keep n slots id (Referring w content found) c may s r _ at small = absurd may
seals_keep n slots id Spent c may s r _ at small = absurd may
seals_keep n slots id (Drafting m (suc k) count written) c may s r _ at small = absurd (let z = may.0 in omega arith)
seals_keep n slots id (Drafting m zero count written) c may s r _ at small =
    let v : View = Drafting m zero count written in let w : View = Referring whole_weight written 0 in let f = r.known id v at in let sum = r.sum in let limit = r.limit in
    let is : m ≡ n = f.0 in let long : length written ≡ m = may.2 in let wide : count ≡ m = may.1 in
    let all : (p : ℕ) → p < n → r.owner p ≡ id = λ p l. f.5 p (omega arith) (omega arith) in
    (w, keeps, tt, turned n s r id c v w (get_or s.words 0 0) r.owner at (omega arith) (omega arith) (omega arith, omega arith, f.4) (λ j d ne e. r.known j d e) (none_covered n s r id w all (λ q z. z)) (λ z. z) (λ j d ne e z. sum ∙ r.unused j d e z), refl)

pub frees_keep : (n slots id : ℕ) (v : View) (c : Carried) → MayRelease v → Allows (Kept n) slots id (v, c) 0 (λ x. (x + (2 ^ 64 - weight v)) % 2 ^ 64) (drops (step slots 0 (weight v) 0 none) (v, c))
frees_keep n slots id (Keeper m looks found) c may s r _ at small = absurd may
frees_keep n slots id (Giving m looks found) c may s r _ at small = absurd may
frees_keep n slots id Spent c may s r _ at small = absurd may
frees_keep n slots id (Drafting m (suc k) count written) c may s r _ at small = absurd (let z = may.0 in omega arith)
frees_keep n slots id (Drafting m zero count written) c may s r _ at small =
    let v : View = Drafting m zero count written in let f = r.known id v at in let sum = r.sum in let limit = r.limit in let x : ℕ = get_or s.words 0 0 in let y : ℕ = (x + (2 ^ 64 - whole_weight)) % 2 ^ 64 in
    let is : m ≡ n = f.0 in let wide : count ≡ m = may.1 in let part = weight-le s.views id v at in let less : y + whole_weight ≡ x = omega arith in
    let all : (p : ℕ) → p < n → r.owner p ≡ id = λ p l. f.5 p (omega arith) (omega arith) in
    (Spent, keeps, tt, turned n s r id c v Spent y r.owner at (omega arith) (omega arith) tt (λ j d ne e. r.known j d e) (none_covered n s r id Spent all (λ q z. z)) (λ z. z) (λ j d ne e z. let u = r.unused j d e z in omega arith), refl)
frees_keep n slots id (Referring w content found) c may s r _ at small =
    let v : View = Referring w content found in let sum = r.sum in let limit = r.limit in let x : ℕ = get_or s.words 0 0 in let y : ℕ = (x + (2 ^ 64 - w)) % 2 ^ 64 in
    let part = weight-le s.views id v at in let less : y + w ≡ x = omega arith in
    (Spent, keeps, tt, turned n s r id c v Spent y r.owner at (omega arith) (omega arith) tt (λ j d ne e. r.known j d e) (covered_set n r.owner s.views id v Spent at (λ q z. z) (λ q z. z) r.covered) (λ z. z) (λ j d ne e z. let u = r.unused j d e z in omega arith), refl)

-- the covering goes on beside a new view
covered_more : (n : ℕ) (owner : ℕ → ℕ) (vs : List View) (w : View) → ((q : ℕ) → Covers q w → ⊥) → Covered n owner vs → Covered n owner (vs ++ w ∷ [])
covered_more n owner vs w not old j d q e c p l =
    let t : (u : View) × (get_elem? vs (owner p) ≡ some u) × Covers p u = each_snoc (λ (j : ℕ) (d : View). (q : ℕ) → Covers q d → (p : ℕ) → p < n → (u : View) × (get_elem? vs (owner p) ≡ some u) × Covers p u) vs w
    (λ q c. absurd (not q c)) (λ j d e q c p l. old j d q e c p l) j d e q c p l in
    (t.0, at_longer vs (w ∷ []) (owner p) t.0 t.1, t.2)

pub shares_keep : (n id g : ℕ) (v : View) → MayShare v g → Splits (Kept n) id v (lighter g v) (lent g v)
shares_keep n id g (Keeper m looks found) may s r at = absurd may
shares_keep n id g (Giving m looks found) may s r at = absurd may
shares_keep n id g (Drafting m from count written) may s r at = absurd may
shares_keep n id g Spent may s r at = absurd may
shares_keep n id g (Referring w content found) may s r at =
    let v : View = Referring w content found in let left : View = Referring (w - g) content found in let right : View = Referring g content 0 in let f = r.known id v at in let some_left = may.0 in let less = may.1 in
    cuts n s r id v left right r.owner at (omega arith) (omega arith, f.1, f.2) (omega arith, f.1, f.2) (λ j d ne e. r.known j d e)
    (covered_more n r.owner (set s.views id left) right (λ q z. z) (covered_set n r.owner s.views id v left at (λ q z. z) (λ q z. z) r.covered))
    (λ z. z) (λ z. z)

-- another view that is no draft does not speak of owners
elsewhere : (n : ℕ) (words : List ℕ) (chief : ℕ) (owner owner' : ℕ → ℕ) (j : ℕ) (d : View) → ((q : ℕ) → Covers q d → ⊥) → Fits n words chief owner j d → Fits n words chief owner' j d
elsewhere n words chief owner owner' j (Keeper m looks found) not h = h
elsewhere n words chief owner owner' j (Giving m looks found) not h = h
elsewhere n words chief owner owner' j (Drafting m from count written) not h = absurd (let some = h.1 in not from (le_refl from, omega arith))
elsewhere n words chief owner owner' j (Referring w content found) not h = h
elsewhere n words chief owner owner' j Spent not h = h

-- beside a view of the whole weight that is no draft there is no draft
no_draft : (n : ℕ) (s : SlotState) (r : Kept n s) (id : ℕ) (v : View) → get_elem? s.views id ≡ some v → 0 < weight v → (Covers 0 v → ⊥) → (j q : ℕ) (d : View) → get_elem? s.views j ≡ some d → Covers q d → ⊥
no_draft n s r id v at some_left not j q d e c = let z = light n s r j d q e c id v at not in omega arith

-- one draft of the whole slot covers each place
covers_all : (n : ℕ) (vs : List View) (k m count : ℕ) (written : List ℕ) → get_elem? vs k ≡ some (Drafting m 0 count written) → n ≤ count → Covered n (λ _. k) vs
covers_all n vs k m count written at wide j d q e c p l = (Drafting m 0 count written, at, (omega arith, omega arith))

pub gives_keep : (n id : ℕ) (v : View) → MayGive v → Splits (Kept n) id v (idle v) (drafted v)
gives_keep n id (Keeper m looks found) may s r at = absurd may
gives_keep n id (Referring w content found) may s r at = absurd may
gives_keep n id (Drafting m from count written) may s r at = absurd may
gives_keep n id Spent may s r at = absurd may
gives_keep n id (Giving m looks found) may s r at =
    let v : View = Giving m looks found in let left : View = Keeper m looks found in let right : View = Drafting m 0 m [] in let f = r.known id v at in let k : ℕ = length s.views in
    let is : m ≡ n = f.0 in let some_words = r.some_words in let some_weight : 0 < weight v = omega arith in
    let last : get_elem? (set s.views id left ++ right ∷ []) k ≡ some right = at_last (set s.views id left) right k (length-set s.views id left) in
    cuts n s r id v left right (λ _. k) at (omega arith) (f.0, f.1)
    (is, omega arith, omega arith, omega arith, (λ j l. absurd (omega arith)), λ p a b. refl)
    (λ j d ne e. elsewhere n s.words r.chief r.owner (λ _. k) j d (λ q c. no_draft n s r id v at some_weight (λ z. z) j q d e c) (r.known j d e))
    (covers_all n (set s.views id left ++ right ∷ []) k m m [] last (omega arith))
    (λ z. let looks = f.2 in omega arith) (λ z. z)

abbrev Goes : ℕ → ℕ → SlotState → Carried → (Mine → Type 0) → ℕ → Type 0
Goes n id s c then y = (w : View) × (a : Act (Unit {0})) × Valid s.homes c a × Kept n (stepped s 0 y id c w a) × then (w, carried_after c a)

pub opens_keep : (n slots id : ℕ) (v : View) (c : Carried) (g : ℕ) → MayOpen v g → Allows (Kept n) slots id (v, c) 0 (λ x. either (eqb x g) whole_weight x) (opens (step slots 0 g whole_weight none) (v, c))
opens_keep n slots id (Keeper m looks found) c g may s r _ at small = absurd may
opens_keep n slots id (Giving m looks found) c g may s r _ at small = absurd may
opens_keep n slots id (Drafting m from count written) c g may s r _ at small = absurd may
opens_keep n slots id Spent c g may s r _ at small = absurd may
opens_keep n slots id (Referring wt content found) c g may s r _ at small =
    let v : View = Referring wt content found in let x : ℕ = get_or s.words 0 0 in let f = r.known id v at in let sum = r.sum in let limit = r.limit in let some_left : 0 < wt = f.0 in let long : length content ≡ n = f.1 in
    let is : wt ≡ g = may in
    exchanged x g whole_weight (Goes n id s c (opens (step slots 0 g whole_weight none) (v, c) x))
    (λ hit. let w : View = Drafting (length content) 0 (length content) content in let all : weights s.views ≡ wt = omega arith in let some_words = r.some_words in
    let here : get_elem? (set s.views id w) id ≡ some w = set_here s.views id w (at_below s.views id v at) in (
      w,
      keeps,
      tt,
      turned n s r id c v w whole_weight (λ _. id) at (omega arith) (le_refl whole_weight)
          (long, omega arith, omega arith, le_refl (length content), f.2, λ p a b. refl)
          (λ j d ne e. elsewhere n s.words r.chief r.owner (λ _. id) j d (λ q z. no_draft n s r id v at some_left (λ z. z) j q d e z) (r.known j d e))
          (covers_all n (set s.views id w) id (length content) (length content) content here (omega arith))
          (λ z. z) (λ j d ne e z. let u = r.unused j d e z in omega arith),
      ((λ _. refl), λ not. absurd (not hit)),
    ))
    (λ miss. let w : View = Referring wt content x in (
      w,
      keeps,
      tt,
      turned n s r id c v w x r.owner at (omega arith) (omega arith) f (λ j d ne e. r.known j d e) (covered_set n r.owner s.views id v w at (λ q z. z) (λ q z. z) r.covered) (λ z. z) (λ j d ne e z. sum ∙ r.unused j d e z),
      ((λ hit. absurd (miss hit)), λ _. refl),
    ))

fresh_keeper : (n : ℕ) (words : List ℕ) (chief : ℕ) (owner : ℕ → ℕ) (j : ℕ) (d : View) → Fits n words chief owner j d → IsFresh d → j ≡ chief
fresh_keeper n words chief owner j (Keeper m looks found) h z = h.1
fresh_keeper n words chief owner j (Giving m looks found) h z = absurd z
fresh_keeper n words chief owner j (Drafting m from count written) h z = absurd z
fresh_keeper n words chief owner j (Referring w content found) h z = absurd z
fresh_keeper n words chief owner j Spent h z = absurd z

the_keeper : (n : ℕ) (s : SlotState) (r : Kept n s) (j : ℕ) (d : View) → get_elem? s.views j ≡ some d → IsFresh d → j ≡ r.chief
the_keeper n s r j d e z = fresh_keeper n s.words r.chief r.owner j d (r.known j d e) z

pub claims_keep : (n slots id : ℕ) (v : View) (c : Carried) → MayClaim v → Allows (Kept n) slots id (v, c) 0 (λ x. either (eqb x 0) whole_weight x) (claims (step slots 0 0 whole_weight none) (v, c))
claims_keep n slots id (Giving m looks found) c may s r _ at small = absurd may
claims_keep n slots id (Referring w content found) c may s r _ at small = absurd may
claims_keep n slots id (Drafting m from count written) c may s r _ at small = absurd may
claims_keep n slots id Spent c may s r _ at small = absurd may
claims_keep n slots id (Keeper m looks found) c may s r _ at small =
    let v : View = Keeper m looks found in let x : ℕ = get_or s.words 0 0 in let f = r.known id v at in let sum = r.sum in let limit = r.limit in
    exchanged x 0 whole_weight (Goes n id s c (claims (step slots 0 0 whole_weight none) (v, c) x))
    (λ hit. let w : View = Giving m (looks + 1) 0 in (
      w,
      keeps,
      tt,
      turned n s r id c v w whole_weight r.owner at (omega arith) (le_refl whole_weight) (f.0, f.1, omega arith) (λ j d ne e. r.known j d e) (covered_set n r.owner s.views id v w at (λ q z. z) (λ q z. z) r.covered)
          (λ z. z) (λ j d ne e z. absurd (ne (the_keeper n s r j d e z ∙ sym f.1))),
      ((λ _. refl), (λ not. absurd (not hit)), λ _. hit),
    ))
    (λ miss. let w : View = Keeper m (looks + 1) x in (
      w,
      keeps,
      tt,
      turned n s r id c v w x r.owner at (omega arith) (omega arith) f (λ j d ne e. r.known j d e) (covered_set n r.owner s.views id v w at (λ q z. z) (λ q z. z) r.covered) (λ z. omega arith) (λ j d ne e z. sum ∙ r.unused j d e z),
      ((λ hit. absurd (miss hit)), (λ _. refl), λ z. sum ∙ r.unused id v at z),
    ))

-- a new slot: word 0 is 0, and there is one keeper
pub new_slot : (n : ℕ) (ws : List ℕ) (xs : List (Unit {0})) → 0 < n → length ws ≡ n + 1 → get_or ws 0 0 ≡ 0 → Kept n (opening ws xs (keeper n))
new_slot n ws xs some_words wide zero_word = record {
  chief = 0;
  owner = λ _. 0;
  some_words = some_words;
  wide = wide;
  sum = zero_word;
  limit = omega arith;
  known = each_snoc (λ (j : ℕ) (d : View). Fits n ws 0 (λ _. 0) j d) [] (keeper n) (refl, refl) (λ j d e. absurd (some-ne-none d (sym e)));
  covered = λ j d q e c p l. absurd (each_snoc (λ (j : ℕ) (d : View). (q : ℕ) → Covers q d → ⊥) [] (keeper n) (λ q z. z) (λ j d e. absurd (some-ne-none d (sym e))) j d e q c);
  unused = λ j d e z. refl;
}
