-- Line feeds, and the first line of a text.
use Rattle.std.proofs.Common.{◌≡◌, ◌≢◌, ◌<◌, ◌≤◌, ◌⊎◌, inl, inr, ℕ, suc, zero, Bool, true, false, cond, nat_eq, get_or, List, [], ◌∷◌, ◌++◌, take, drop, length, refl, sym, ◌∙◌, ap, subst, arith}
use Rattle.std.specs.List.{Contains}
use Rattle.std.proofs.lemmas.List.{take-append-drop, take-take, take-append-le}
use Rattle.std.proofs.lemmas.Bool.{cases_eq}
use Rattle.std.proofs.lemmas.List.Elements.{Contains-append_left, Contains-append_right, Contains-append_cases, Contains-push_cases}

-- ---- beginnings of texts

-- of two beginnings of a text the shorter begins the longer
pub shorter_first : (xs ys r s : List ℕ) → xs ++ r ≡ ys ++ s → length ys ≤ length xs → (t : List ℕ) × (xs ≡ ys ++ t) × (s ≡ t ++ r)
shorter_first xs [] r s e n = (xs, refl, sym e)
shorter_first [] (y ∷ ys) r s e n = absurd (omega arith)
shorter_first (x ∷ xs) (y ∷ ys) r s e n =
    let first : x ≡ y = cc in
    let t = shorter_first xs ys r s (cc) (omega arith) in
    let same = t.1 in
    (t.0, cc, t.2)

-- two texts of equal beginnings' lengths
pub split_same : (vs bs xs ys : List ℕ) → vs ++ xs ≡ bs ++ ys → length vs ≡ length bs → xs ≡ ys
split_same [] [] xs ys e n = e
split_same [] (b ∷ bs) xs ys e n = absurd (omega arith)
split_same (v ∷ vs) [] xs ys e n = absurd (omega arith)
split_same (v ∷ vs) (b ∷ bs) xs ys e n = split_same vs bs xs ys (cc) (omega arith)

-- texts of one length that begin the same text
pub split_first : (vs bs xs ys : List ℕ) → vs ++ xs ≡ bs ++ ys → length vs ≡ length bs → vs ≡ bs
split_first [] [] xs ys e n = refl
split_first [] (b ∷ bs) xs ys e n = absurd (omega arith)
split_first (v ∷ vs) [] xs ys e n = absurd (omega arith)
split_first (v ∷ vs) (b ∷ bs) xs ys e n = let first : v ≡ b = cc in let rest = split_first vs bs xs ys (cc) (omega arith) in cc

-- a text begins with another, or it doesn't
pub prefix_decided : (prefix text : List ℕ) → ((rest : List ℕ) × (text ≡ prefix ++ rest)) ⊎ ((rest : List ℕ) → text ≢ prefix ++ rest)
prefix_decided [] text = inl (text, refl)
prefix_decided (p ∷ ps) [] = inr (λ rest e. cc)
prefix_decided (p ∷ ps) (x ∷ xs) = elim (cases_eq x p) [
  | inr other ↦ inr (λ rest e. other cc)
  | inl same ↦ elim (prefix_decided ps xs) [
    | inl h ↦ inl (h.0, let e = h.1 in cc)
    | inr none ↦ inr (λ rest e. none rest cc)
  ]
]

-- the front of a buffer
pub front_within : (size len : ℕ) (xs ys : List ℕ) → size ≤ len → size ≤ length xs → take size (take len (xs ++ ys)) ≡ take size xs
front_within size len xs ys within fits = take-take size len (xs ++ ys) within ∙ take-append-le size xs ys fits

-- ---- line feeds

pub no_feed_more : (front : List ℕ) (byte : ℕ) {more : List ℕ} → more ≡ front ++ byte ∷ [] → ¬ Contains front 10 → byte ≢ 10 → ¬ Contains more 10
no_feed_more front byte e none other has =
    let P : List ℕ → Type 0 = λ ys. Contains ys 10 in
    elim (Contains-push_cases front byte 10 (subst P e has)) [ inl h ↦ none h | inr h ↦ other h ]

pub no_feed_append : (xs ys : List ℕ) → ¬ Contains xs 10 → ¬ Contains ys 10 → ¬ Contains (xs ++ ys) 10
no_feed_append xs ys p q h = elim (Contains-append_cases xs ys 10 h) [ inl a ↦ p a | inr b ↦ q b ]

no_feed_rest : (x : ℕ) (xs : List ℕ) → ¬ Contains (x ∷ xs) 10 → ¬ Contains xs 10
no_feed_rest x xs none = λ h. none (suc h.0, omega (arith, h.1), h.2)

no_feed_first : (x : ℕ) (xs : List ℕ) → ¬ Contains (x ∷ xs) 10 → x ≢ 10
no_feed_first x xs none = λ e. none (0, omega arith, e)

pub no_feed_front : (n : ℕ) (xs : List ℕ) → ¬ Contains xs 10 → ¬ Contains (take n xs) 10
no_feed_front n xs none h = let P : List ℕ → Type 0 = λ ys. Contains ys 10 in none (subst P (take-append-drop n xs) (Contains-append_left (take n xs) (drop n xs) 10 h))

-- a text with a line feed in it
pub feed_within : (xs rest : List ℕ) → Contains (xs ++ 10 ∷ rest) 10
feed_within xs rest = Contains-append_right xs (10 ∷ rest) 10 (0, omega arith, refl)

-- whether a text has a line feed
abbrev pub has_feed : List ℕ → Bool
has_feed [] = false
has_feed (x ∷ xs) = cond (nat_eq x 10) true (has_feed xs)

feed_at : (xs : List ℕ) (k : ℕ) → k < length xs → get_or xs k 10 ≡ 10 → has_feed xs ≡ true
feed_at [] k h e = absurd (omega arith)
feed_at (x ∷ xs) zero h e = rw e refl
feed_at (x ∷ xs) (suc k) h e =
    let t = feed_at xs k (omega arith) e in
    rw t (elim (nat_eq x 10) as (λ b. cond b true true ≡ true) [ true ↦ refl | false ↦ refl ])

pub no_feed_test : (xs : List ℕ) → has_feed xs ≡ false → ¬ Contains xs 10
no_feed_test xs e h = let t = feed_at xs h.0 h.1 h.2 in cc

-- what comes before the first line feed
pub feed_unique : (xs ys r s : List ℕ) → ¬ Contains xs 10 → ¬ Contains ys 10 → xs ++ 10 ∷ r ≡ ys ++ 10 ∷ s → xs ≡ ys
feed_unique [] [] r s p q e = refl
feed_unique [] (y ∷ ys) r s p q e = absurd (no_feed_first y ys q cc)
feed_unique (x ∷ xs) [] r s p q e = absurd (no_feed_first x xs p cc)
feed_unique (x ∷ xs) (y ∷ ys) r s p q e =
    let t = feed_unique xs ys r s (no_feed_rest x xs p) (no_feed_rest y ys q) cc in
    cc

-- a text up to its first line feed, and what follows
pub record HasFeed (text : List ℕ) : Type 0 where
  pub line : List ℕ
  pub rest : List ℕ
  pub no_feed : ¬ Contains line 10
  pub text_is : text ≡ line ++ 10 ∷ rest

-- a text has a line feed, or it doesn't
pub feed_decided : (text : List ℕ) → HasFeed text ⊎ ¬ Contains text 10
feed_decided [] = inr (no_feed_test [] refl)
feed_decided (x ∷ xs) = elim (cases_eq x 10) [
  | inl feed ↦ inl (record { line = []; rest = xs; no_feed = no_feed_test [] refl; text_is = ap (λ (b : ℕ). b ∷ xs) feed })
  | inr other ↦ elim (feed_decided xs) [
    | inl h ↦ inl (record {
      line = x ∷ h.line;
      rest = h.rest;
      no_feed = no_feed_append (x ∷ []) h.line (no_feed_more [] x refl (no_feed_test [] refl) other) h.no_feed;
      text_is = ap (λ (ys : List ℕ). x ∷ ys) h.text_is;
    })
    | inr none ↦ inr (no_feed_append (x ∷ []) xs (no_feed_more [] x refl (no_feed_test [] refl) other) none)
  ]
]
