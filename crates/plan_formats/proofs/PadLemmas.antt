-- The links of a filter by its pads.
use Rattle.std.proofs.Common.{◌≡◌, ◌<◌, ◌≤◌, ◌+◌, ◌-◌, ◌++◌, ℕ, suc, Bool, List, [], ◌∷◌, length, drop, map, filter, flat_map, sym, ◌∙◌, ap, arith, append_assoc}
use Rattle.std.specs.List.{range_with_len, enumerate_from}
use Rattle.std.proofs.lemmas.List.{at_drop_all, append-nil}
use Rattle.graph_plan.specs.declared.plan.Edge.{Edge}

-- the numbers of the links from one on that pass the test
abbrev pub numbers_from : (Edge → Bool) → ℕ → List Edge → List ℕ
numbers_from test n links = map (λ (p : ℕ × Edge). p.0) (filter (λ (p : ℕ × Edge). test p.1) (enumerate_from n links))

range_more : (n k : ℕ) → k < n → range_with_len k (n - k) ≡ k ∷ range_with_len (k + 1) (n - (k + 1))
range_more n k low =
    let e : n - k ≡ suc (n - (k + 1)) = omega arith in
    ap (range_with_len k) e

-- the links of one more pad
pub pad_more : (F : ℕ → List ℕ) (test : Edge → Bool) (links : List Edge) (numbers next all : List ℕ) (k n number : ℕ) → k < n → length links ≤ number → numbers ++ flat_map F (range_with_len k (n - k)) ≡ all
    → next ++ numbers_from test number (drop number links) ≡ numbers ++ F k → next ++ flat_map F (range_with_len (k + 1) (n - (k + 1))) ≡ all
pad_more F test links numbers next all k n number low end so added =
    let rest = flat_map F (range_with_len (k + 1) (n - (k + 1))) in
    let none : numbers_from test number (drop number links) ≡ [] = at_drop_all (numbers_from test number) links number end in
    let is : next ≡ numbers ++ F k = sym (append-nil next) ∙ (ap (λ (l : List ℕ). next ++ l) (sym none) ∙ added) in
    let here : flat_map F (range_with_len k (n - k)) ≡ F k ++ rest = ap (flat_map F) (range_more n k low) in
    ap (λ (l : List ℕ). l ++ rest) is ∙ (append_assoc numbers (F k) rest ∙ (ap (λ (l : List ℕ). numbers ++ l) (sym here) ∙ so))
