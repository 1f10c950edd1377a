-- A header has one meaning, always.
use Rattle.std.proofs.Common.{◌≡◌, ◌≢◌, ◌+◌, ◌-◌, ◌⊎◌, inl, inr, ℕ, min, List, [], ◌∷◌, ◌++◌, take, drop, length, Result, Ok, Err, refl, sym, ◌∙◌, ap, subst, arith, append_assoc, length-append}
use Rattle.std.specs.List.{Contains}
use Rattle.std.proofs.lemmas.Bool.{cases_lt}
use Rattle.std.proofs.lemmas.List.{take-append-drop, length-take}
use Rattle.std.proofs.Math.Seq.{take-append-add}
use Rattle.av_base.specs.declared.shapes.Shape.{Shape}
use Rattle.av_frame.specs.declared.faults.HeadError.{HeadError}
use Rattle.av_frame.specs.declared.faults.HeadError.TheVariants as head
use Rattle.y4m_header.specs.Said.{magic, HeaderMeans, StandsAlways}
use Rattle.y4m_header.specs.HeaderLaws.{longest_line}
use Rattle.y4m_header.specs.declared.fault.HeaderFault.{HeaderFault}
use Rattle.y4m_io.specs.Heads.{HasLine, HasHead, HasNoLine, IsCut, IsUnended, head_error, IsHeadFault, HeadMeans}
use Rattle.y4m_io.specs.Heads.IsHeadFault.{Line, Other, Endless, Always, Past}
use Rattle.y4m_io.proofs.LineLemmas.{prefix_decided, feed_within, feed_unique, HasFeed, feed_decided, no_feed_test}
use Rattle.y4m_header.proofs.KnownLemmas.{headers}
use Rattle.y4m_header.proofs.FrontDecided.{always_decided}

-- ---- a header has some meaning

line_means : (limit : ℕ) (bytes line : List ℕ) (r : Result Shape HeaderFault) → HasLine limit bytes line → HeaderMeans line r → (t : Result Shape HeadError) × HeadMeans limit bytes t
line_means limit bytes line (Ok shape) is means = (Ok shape, record { line = line; has_line = is; means = means })
line_means limit bytes line (Err e) is means = (Err (head_error e), Line line e is means)

-- the first line of the bytes within the limit
first_line : (limit : ℕ) (bytes : List ℕ) (h : HasFeed (take (min limit longest_line) bytes)) → HasLine limit bytes h.line
first_line limit bytes h =
    let n = min limit longest_line in
    let front = ap length h.text_is ∙ length-append h.line (10 ∷ h.rest) in
    let most = length-take n bytes in
    record {
      rest = h.rest ++ drop n bytes;
      bytes_are = sym (take-append-drop n bytes) ∙ (ap (λ (xs : List ℕ). xs ++ drop n bytes) h.text_is ∙ append_assoc h.line (10 ∷ h.rest) (drop n bytes));
      no_feed = h.no_feed;
      short = omega arith;
      within = omega arith;
    }

cut_means : (limit : ℕ) (bytes : List ℕ) → IsCut limit bytes → (t : Result Shape HeadError) × HeadMeans limit bytes t
cut_means limit bytes cut = elim (always_decided (take limit bytes)) [
  | inl always ↦ (Err (head_error always.0), Always always.0 cut always.1)
  | inr none ↦ (Err head.TooLong, Past cut none)
]

unended_means : (limit : ℕ) (bytes : List ℕ) → IsUnended limit bytes → (t : Result Shape HeadError) × HeadMeans limit bytes t
unended_means limit bytes open_line = elim (prefix_decided magic bytes) [
  | inl begins ↦ (Err head.BadHeader, Endless open_line begins.0 begins.1)
  | inr other ↦ (Err head.NotMedia, Other open_line other)
]

pub head_some : (limit : ℕ) (bytes : List ℕ) → (r : Result Shape HeadError) × HeadMeans limit bytes r
head_some limit bytes = elim (feed_decided (take (min limit longest_line) bytes)) [
  | inl h ↦ let is = first_line limit bytes h in let found = headers.some h.line in line_means limit bytes h.line found.0 is found.1
  | inr none ↦ elim (cases_lt limit longest_line) [
    | inr enough ↦ unended_means limit bytes (record { no_line = none; ends = inr enough })
    | inl low ↦ elim (cases_lt limit (length bytes)) [
      | inl past ↦ cut_means limit bytes (record { no_line = none; low = low; past = past })
      | inr whole ↦ unended_means limit bytes (record { no_line = none; ends = inl whole })
    ]
  ]
]

-- ---- a header has one meaning at most

same_line : (limit : ℕ) (bytes line other : List ℕ) → HasLine limit bytes line → HasLine limit bytes other → line ≡ other
same_line limit bytes line other a b = feed_unique line other a.rest b.rest a.no_feed b.no_feed (sym a.bytes_are ∙ b.bytes_are)

-- a line within the limit has a line feed there
line_or_none : (limit : ℕ) (bytes line : List ℕ) {T : Type 0} → HasLine limit bytes line → HasNoLine limit bytes → T
line_or_none limit bytes line h none =
    let n = min limit longest_line in
    let more = n - (length line + 1) in
    let low = h.within in
    let short = h.short in
    let both = length-append line (10 ∷ []) in
    let size : n ≡ length (line ++ 10 ∷ []) + more = omega arith in
    let front : take n bytes ≡ line ++ 10 ∷ take more h.rest =
    ap (take n) (h.bytes_are ∙ sym (append_assoc line (10 ∷ []) h.rest))
    ∙ (ap (λ (m : ℕ). take m ((line ++ 10 ∷ []) ++ h.rest)) size ∙ (take-append-add (line ++ 10 ∷ []) h.rest more ∙ append_assoc line (10 ∷ []) (take more h.rest))) in
    absurd (none (let P : List ℕ → Type 0 = λ ys. Contains ys 10 in subst P (sym front) (feed_within line (take more h.rest))))

cut_or_unended : (limit : ℕ) (bytes : List ℕ) {T : Type 0} → IsCut limit bytes → IsUnended limit bytes → T
cut_or_unended limit bytes cut open_line = elim open_line.ends [
  | inl ends ↦ absurd (let past = cut.past in omega arith)
  | inr enough ↦ absurd (let low = cut.low in omega arith)
]

-- what a fault is where there is a line, where there is none, and where the limit cuts it
line_fault : (limit : ℕ) (bytes line : List ℕ) (e : HeadError) → HasLine limit bytes line → IsHeadFault limit bytes e → (f : HeaderFault) × HeaderMeans line (Err f) × (e ≡ head_error f)
line_fault limit bytes line _ is (Line other f is' means) = (f, subst (λ (xs : List ℕ). HeaderMeans xs (Err f)) (same_line limit bytes other line is' is) means, refl)
line_fault limit bytes line _ is (Other open_line none) = line_or_none limit bytes line is open_line.no_line
line_fault limit bytes line _ is (Endless open_line rest begins) = line_or_none limit bytes line is open_line.no_line
line_fault limit bytes line _ is (Always f cut always) = line_or_none limit bytes line is cut.no_line
line_fault limit bytes line _ is (Past cut none) = line_or_none limit bytes line is cut.no_line

open_fault : (limit : ℕ) (bytes : List ℕ) (e : HeadError) → IsUnended limit bytes → IsHeadFault limit bytes e
    → (((rest : List ℕ) → bytes ≢ magic ++ rest) × (e ≡ head.NotMedia)) ⊎ ((rest : List ℕ) × (bytes ≡ magic ++ rest) × (e ≡ head.BadHeader))
open_fault limit bytes _ is (Line line f has means) = line_or_none limit bytes line has is.no_line
open_fault limit bytes _ is (Other open_line none) = inl (none, refl)
open_fault limit bytes _ is (Endless open_line rest begins) = inr (rest, begins, refl)
open_fault limit bytes _ is (Always f cut always) = cut_or_unended limit bytes cut is
open_fault limit bytes _ is (Past cut none) = cut_or_unended limit bytes cut is

cut_fault : (limit : ℕ) (bytes : List ℕ) (e : HeadError) → IsCut limit bytes → IsHeadFault limit bytes e
    → ((f : HeaderFault) × StandsAlways (take limit bytes) f × (e ≡ head_error f)) ⊎ (((f : HeaderFault) → ¬ StandsAlways (take limit bytes) f) × (e ≡ head.TooLong))
cut_fault limit bytes _ is (Line line f has means) = line_or_none limit bytes line has is.no_line
cut_fault limit bytes _ is (Other open_line none) = cut_or_unended limit bytes is open_line
cut_fault limit bytes _ is (Endless open_line rest begins) = cut_or_unended limit bytes is open_line
cut_fault limit bytes _ is (Always f cut always) = inl (f, always, refl)
cut_fault limit bytes _ is (Past cut none) = inr (none, refl)

-- one fault of a line, and one that a beginning has whatever follows
err_same : (r t : Result Shape HeaderFault) (e f : HeaderFault) → r ≡ Err e → t ≡ Err f → t ≡ r → e ≡ f
err_same r t e f a b same = cc

ok_same : (r t : Result Shape HeaderFault) (a b : Shape) → r ≡ Ok a → t ≡ Ok b → t ≡ r → a ≡ b
ok_same r t a b c d same = cc

same_fault : (line : List ℕ) (e f : HeaderFault) → HeaderMeans line (Err e) → HeaderMeans line (Err f) → head_error e ≡ head_error f
same_fault line e f a b =
    ap head_error (err_same (Err e) (Err f) e f refl refl (headers.one line (Err e) (Err f) a b))

same_always : (front : List ℕ) (e f : HeaderFault) → StandsAlways front e → StandsAlways front f → head_error e ≡ head_error f
same_always front e f a b = same_fault (front ++ []) e f (a [] (no_feed_test [] refl)) (b [] (no_feed_test [] refl))

one_fault : (limit : ℕ) (bytes : List ℕ) (e g : HeadError) → IsHeadFault limit bytes e → IsHeadFault limit bytes g → e ≡ g
one_fault limit bytes _ g (Line line f has means) other =
    let own = line_fault limit bytes line g has other in
    same_fault line f own.0 means own.1 ∙ sym own.2
one_fault limit bytes _ g (Other open_line none) other = elim (open_fault limit bytes g open_line other) [
  | inl same ↦ sym same.1
  | inr begins ↦ absurd (none begins.0 begins.1)
]
one_fault limit bytes _ g (Endless open_line rest begins) other = elim (open_fault limit bytes g open_line other) [
  | inl none ↦ absurd (none.0 rest begins)
  | inr same ↦ sym same.2
]
one_fault limit bytes _ g (Always f cut always) other = elim (cut_fault limit bytes g cut other) [
  | inl own ↦ same_always (take limit bytes) f own.0 always own.1 ∙ sym own.2
  | inr none ↦ absurd (none.0 f always)
]
one_fault limit bytes _ g (Past cut none) other = elim (cut_fault limit bytes g cut other) [
  | inl own ↦ absurd (none own.0 own.1)
  | inr same ↦ sym same.1
]

-- a header or a fault
head_or_fault : (limit : ℕ) (bytes : List ℕ) (shape : Shape) (e : HeadError) {T : Type 0} → HasHead limit bytes shape → IsHeadFault limit bytes e → T
head_or_fault limit bytes shape e h fault =
    let own = line_fault limit bytes h.line e h.has_line fault in
    let never : Err own.0 ≡ Ok shape = headers.one h.line (Ok shape) (Err own.0) h.means own.1 in
    absurd (cc)

same_shape : (limit : ℕ) (bytes : List ℕ) (shape other : Shape) → HasHead limit bytes shape → HasHead limit bytes other → shape ≡ other
same_shape limit bytes shape other a b =
    let lines = same_line limit bytes b.line a.line b.has_line a.has_line in
    let own : HeaderMeans a.line (Ok other) = subst (λ (xs : List ℕ). HeaderMeans xs (Ok other)) lines b.means in
    ok_same (Ok shape) (Ok other) shape other refl refl (headers.one a.line (Ok shape) (Ok other) a.means own)

pub one_head : (limit : ℕ) (bytes : List ℕ) (r t : Result Shape HeadError) → HeadMeans limit bytes r → HeadMeans limit bytes t → r ≡ t
one_head limit bytes (Ok shape) (Ok other) a b = ap Ok (same_shape limit bytes shape other a b)
one_head limit bytes (Ok shape) (Err e) a b = head_or_fault limit bytes shape e a b
one_head limit bytes (Err e) (Ok shape) a b = head_or_fault limit bytes shape e b a
one_head limit bytes (Err e) (Err f) a b = ap Err (one_fault limit bytes e f a b)
