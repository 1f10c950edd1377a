-- A text begins with one token at most, or has one fault.
use Rattle.std.proofs.Common.{◌≡◌, ◌≢◌, ◌⊎◌, ℕ, suc, List, [], ◌∷◌, ◌++◌, refl, sym, ◌∙◌, ap, subst, arith, inl, inr, append_assoc, cond, true, false, length, ◌≤◌, ◌+◌}
use Rattle.std.specs.List.{AllByRecursion, Contains, flat_map}
use Rattle.std.proofs.lemmas.List.Elements.{Contains-append_left, Contains-append_right}
use Rattle.std.proofs.lemmas.List.{length-append}
use Rattle.av_text.specs.Classes.{is_white}
use Rattle.av_text.specs.Tokens.{Piece, Plain, Escaped, Quoted, source, meaning, IsPiece, is_blank, put_before, trimmed, IsRow, Ends, IsToken}
use Rattle.av_text.specs.Faults.{IsBroken, IsTokenFault}
use Rattle.av_text.specs.declared.fault.TextKind.{TextKind}
use Rattle.av_text.specs.declared.fault.TextKind.TheVariants.{UnclosedQuote, LoneEscape, ExpectedName, BadLabel, Stray}
use Rattle.av_text.proofs.Runs.{same_run}
use Rattle.av_base.proofs.Lists.{cons_parts}

-- ---- up to a mark

none_after : (mark x : ℕ) (xs : List ℕ) → ¬ Contains (x ∷ xs) mark → ¬ Contains xs mark
none_after mark x xs none = λ h. none (suc h.0, omega (arith, h.1), h.2)

none_first : (mark x : ℕ) (xs : List ℕ) → ¬ Contains (x ∷ xs) mark → x ≢ mark
none_first mark x xs none = λ e. none (0, omega arith, e)

-- what is before the first mark, and after it
pub mark_unique : (mark : ℕ) (xs ys r s : List ℕ) → ¬ Contains xs mark → ¬ Contains ys mark → xs ++ mark ∷ r ≡ ys ++ mark ∷ s → (xs ≡ ys) × (r ≡ s)
mark_unique mark [] [] r s p q e = (refl, cc)
mark_unique mark [] (y ∷ ys) r s p q e = absurd (none_first mark y ys q cc)
mark_unique mark (x ∷ xs) [] r s p q e = absurd (none_first mark x xs p cc)
mark_unique mark (x ∷ xs) (y ∷ ys) r s p q e =
    let t = mark_unique mark xs ys r s (none_after mark x xs p) (none_after mark y ys q) cc in
    (let h = t.0 in cc, t.1)

-- ---- the first piece

marks_differ : {x y : ℕ} {xs ys : List ℕ} → x ≡ 92 → y ≡ 39 → x ∷ xs ≡ y ∷ ys → ⊥
marks_differ a b e = let h = (cons_parts e).0 in omega arith

quoted_same : (c d r s : List ℕ) → ¬ Contains c 39 → ¬ Contains d 39 → source (Quoted c) ++ r ≡ source (Quoted d) ++ s → (Quoted c ≡ Quoted d) × (r ≡ s)
quoted_same c d r s a b e =
    let t = mark_unique 39 c d r s a b (sym (append_assoc c (39 ∷ []) r) ∙ ((cons_parts e).1 ∙ append_assoc d (39 ∷ []) s)) in
    (ap Quoted t.0, t.1)

same_piece : (specials : List ℕ) (p q : Piece) (r s : List ℕ) → IsPiece specials p → IsPiece specials q → source p ++ r ≡ source q ++ s → (p ≡ q) × (r ≡ s)
same_piece specials (Plain c) (Plain d) r s a b e = (ap Plain (cons_parts e).0, (cons_parts e).1)
same_piece specials (Plain c) (Escaped d) r s a b e = absurd (a.0 (cons_parts e).0)
same_piece specials (Plain c) (Quoted d) r s a b e = absurd (a.1 (cons_parts e).0)
same_piece specials (Escaped c) (Plain d) r s a b e = absurd (b.0 (sym (cons_parts e).0))
same_piece specials (Escaped c) (Escaped d) r s a b e = let h = (cons_parts e).1 in (ap Escaped (cons_parts h).0, (cons_parts h).1)
same_piece specials (Escaped c) (Quoted d) r s a b e = absurd (marks_differ refl refl e)
same_piece specials (Quoted c) (Plain d) r s a b e = absurd (b.1 (sym (cons_parts e).0))
same_piece specials (Quoted c) (Escaped d) r s a b e = absurd (marks_differ refl refl (sym e))
same_piece specials (Quoted c) (Quoted d) r s a b e = quoted_same c d r s a b e

-- ---- the end of a row of pieces: at the end, before a special, or before what is broken
abbrev pub Halts : List ℕ → List ℕ → Type 0
Halts specials [] = Unit {0}
Halts specials (c ∷ more) = ((c ≢ 92) × (c ≢ 39) × Contains specials c) ⊎ (((c ≡ 39) × ¬ Contains more 39) ⊎ ((c ≡ 92) × (more ≡ [])))

halts_ends : (specials rest : List ℕ) → Ends specials rest → Halts specials rest
halts_ends specials [] h = tt
halts_ends specials (c ∷ rest) h = inl h

halts_broken : (specials : List ℕ) (kind : TextKind) (rest : List ℕ) → IsBroken kind rest → Halts specials rest
halts_broken specials UnclosedQuote rest h = subst (Halts specials) (sym h.1) (inr (inl (refl, h.2)))
halts_broken specials LoneEscape rest h = subst (Halts specials) (sym h) (inr (inr (refl, refl)))
halts_broken specials ExpectedName rest h = absurd h
halts_broken specials BadLabel rest h = absurd h
halts_broken specials Stray rest h = absurd h

-- no piece begins there
no_piece : (specials : List ℕ) (p : Piece) (more : List ℕ) → IsPiece specials p → ¬ Halts specials (source p ++ more)
no_piece specials (Plain c) more is (inl h) = is.2 h.2
no_piece specials (Plain c) more is (inr (inl h)) = is.1 h.0
no_piece specials (Plain c) more is (inr (inr h)) = is.0 h.0
no_piece specials (Escaped c) more is (inl h) = h.0 refl
no_piece specials (Escaped c) more is (inr (inl h)) = omega (arith, h.0)
no_piece specials (Escaped c) more is (inr (inr h)) = let e = h.1 in cc
no_piece specials (Quoted c) more is (inl h) = h.1 refl
no_piece specials (Quoted c) more is (inr (inl h)) = h.1 (Contains-append_left (c ++ 39 ∷ []) more 39 (Contains-append_right c (39 ∷ []) 39 (0, omega arith, refl)))
no_piece specials (Quoted c) more is (inr (inr h)) = omega (arith, h.0)

rows_unique : (specials : List ℕ) (ps qs : List Piece) (r s : List ℕ) → AllByRecursion (IsPiece specials) ps → AllByRecursion (IsPiece specials) qs → Halts specials r → Halts specials s
    → flat_map source ps ++ r ≡ flat_map source qs ++ s → (ps ≡ qs) × (r ≡ s)
rows_unique specials [] [] r s a b u v e = (refl, e)
rows_unique specials [] (q ∷ qs) r s a b u v e =
    absurd (no_piece specials q (flat_map source qs ++ s) b.0 (subst (Halts specials) (e ∙ append_assoc (source q) (flat_map source qs) s) u))
rows_unique specials (p ∷ ps) [] r s a b u v e =
    absurd (no_piece specials p (flat_map source ps ++ r) a.0 (subst (Halts specials) (sym e ∙ append_assoc (source p) (flat_map source ps) r) v))
rows_unique specials (p ∷ ps) (q ∷ qs) r s a b u v e =
    let one = same_piece specials p q (flat_map source ps ++ r) (flat_map source qs ++ s) a.0 b.0
    (sym (append_assoc (source p) (flat_map source ps) r) ∙ (e ∙ append_assoc (source q) (flat_map source qs) s)) in
    let t = rows_unique specials ps qs r s a.1 b.1 u v one.1 in
    (let h = t.0 in let k = one.0 in cc, t.1)

-- a text is one row of pieces at most
same_row : {specials text : List ℕ} {ps qs : List Piece} {r s : List ℕ} → IsRow specials text ps r → IsRow specials text qs s → Halts specials r → Halts specials s → (ps ≡ qs) × (r ≡ s)
same_row {specials} {text} {ps} {qs} {r} {s} a b u v =
    rows_unique specials ps qs r s a.each b.each u v ((same_run is_white a.begins b.begins).1)

-- ---- the law

pub one_token : (specials text v w r s : List ℕ) → IsToken specials text v r → IsToken specials text w s → (v ≡ w) × (r ≡ s)
one_token specials text v w r s a b =
    let same = same_row a.is_row b.is_row (halts_ends specials r a.ends) (halts_ends specials s b.ends) in
    (a.value_is ∙ ap (λ (ps : List Piece). flat_map meaning (trimmed ps)) same.0 ∙ sym b.value_is, same.1)

one_kind : (k l : TextKind) (r : List ℕ) → IsBroken k r → IsBroken l r → k ≡ l
one_kind UnclosedQuote UnclosedQuote r a b = refl
one_kind UnclosedQuote LoneEscape r a b = let e = a.1 in cc
one_kind LoneEscape UnclosedQuote r a b = let e = b.1 in cc
one_kind LoneEscape LoneEscape r a b = refl
one_kind ExpectedName l r a b = absurd a
one_kind BadLabel l r a b = absurd a
one_kind Stray l r a b = absurd a
one_kind k ExpectedName r a b = absurd b
one_kind k BadLabel r a b = absurd b
one_kind k Stray r a b = absurd b

pub one_fault : (specials text r s : List ℕ) (k l : TextKind) → IsTokenFault specials text k r → IsTokenFault specials text l s → (k ≡ l) × (r ≡ s)
one_fault specials text r s k l a b =
    let same = same_row a.is_row b.is_row (halts_broken specials k r a.broken) (halts_broken specials l s b.broken) in
    (one_kind k l s (subst (IsBroken k) same.1 a.broken) b.broken, same.1)

ends_whole : (specials r : List ℕ) (k : TextKind) → Ends specials r → IsBroken k r → ⊥
ends_whole specials [] UnclosedQuote a b = let e = b.1 in cc
ends_whole specials (c ∷ r) UnclosedQuote a b = a.1 (let e = b.1 in cc)
ends_whole specials [] LoneEscape a b = cc
ends_whole specials (c ∷ r) LoneEscape a b = a.0 cc
ends_whole specials r ExpectedName a b = b
ends_whole specials r BadLabel a b = b
ends_whole specials r Stray a b = b

pub not_both : (specials text v r s : List ℕ) (k : TextKind) → IsToken specials text v r → IsTokenFault specials text k s → ⊥
not_both specials text v r s k a b =
    let same = same_row a.is_row b.is_row (halts_ends specials r a.ends) (halts_broken specials k s b.broken) in
    ends_whole specials r k a.ends (subst (IsBroken k) (sym same.1) b.broken)

-- ---- a value is no longer than its text

meaning_short : (p : Piece) → length (meaning p) ≤ length (source p)
meaning_short (Plain c) = omega arith
meaning_short (Escaped c) = omega arith
meaning_short (Quoted text) = omega (arith, length-append text (39 ∷ []))

put_short : (p : Piece) (ps : List Piece) → length (flat_map meaning (put_before p ps)) ≤ length (source p) + length (flat_map meaning ps)
put_short p [] = elim (is_blank p) as (λ b. length (flat_map meaning (cond b [] (p ∷ []))) ≤ length (source p) + 0) [
  | true ↦ omega arith
  | false ↦ (let short = meaning_short p in omega (arith, length-append (meaning p) []))
]
put_short p (q ∷ qs) = let short = meaning_short p in omega (arith, length-append (meaning p) (flat_map meaning (q ∷ qs)))

row_short : (ps : List Piece) → length (flat_map meaning (trimmed ps)) ≤ length (flat_map source ps)
row_short [] = omega arith
row_short (p ∷ ps) =
    let others = row_short ps in
    let first = put_short p (trimmed ps) in
    omega (arith, length-append (source p) (flat_map source ps))

pub token_short : {specials text value rest : List ℕ} → IsToken specials text value rest → length value ≤ length text
token_short {specials} {text} {value} {rest} t =
    let row = row_short t.row in
    let r = t.is_row in
    omega (arith, ap length t.value_is, ap length r.begins.text_is, length-append r.lead (flat_map source t.row ++ rest), length-append (flat_map source t.row) rest)
