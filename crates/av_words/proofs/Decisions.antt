-- Whether something is so, and whether a value is of its form.
use Rattle.std.proofs.Common.{◌≡◌, ◌<◌, ◌≤◌, ◌++◌, ◌⊎◌, ℕ, Bool, true, false, List, [], ◌∷◌, Option, Some, None, length, drop, get_or, refl, sym, ◌∙◌, ap, subst, inl, inr, arith}
use Rattle.std.specs.Char.{digit_value}
use Rattle.std.specs.List.{AllByRecursion, AllZip}
use Rattle.std.specs.Str.Parse.{AllDigits, digits_value}
use Rattle.std.proofs.lemmas.Bool.{cases_lt, cases_order, false≢true}
use Rattle.std.proofs.lemmas.List.{length-append}
use Rattle.av_base.specs.declared.formats.PixelFormat.TheVariants.{Yuv420p}
use Rattle.av_base.specs.Bounds.{greatest_side, greatest_picture}
use Rattle.av_base.specs.Planes.{picture_bytes_of}
use Rattle.av_text.specs.Classes.{is_label}
use Rattle.av_text.specs.Numbers.{IsNumber}
use Rattle.av_words.specs.declared.command_words.InputWord.{InputWord}
use Rattle.av_words.specs.declared.command_words.InputWord.TheVariants.{Made}
use Rattle.av_words.specs.WordValues.{IsLabelled, greatest_count, greatest_seed, greatest_length, IsCount, pieces, SaysOrder, IsWithin, IsMade, SaysMade}

abbrev pub Decided : Type 0 → Type 0
Decided P = P ⊎ ¬ P

pub decide_both : {P Q : Type 0} → Decided P → Decided Q → Decided (P × Q)
decide_both (inl p) (inl q) = inl (p, q)
decide_both (inl p) (inr none) = inr (λ h. none h.1)
decide_both (inr none) q = inr (λ h. none h.0)

pub decide_either : {P Q : Type 0} → Decided P → Decided Q → Decided (P ⊎ Q)
decide_either (inl p) q = inl (inl p)
decide_either (inr none) (inl q) = inl (inr q)
decide_either (inr no_p) (inr no_q) = inr (λ h. elim h [ inl p ↦ no_p p | inr q ↦ no_q q ])

pub decide_not : {P : Type 0} → Decided P → Decided (¬ P)
decide_not (inl p) = inr (λ none. none p)
decide_not (inr none) = inl none

-- what can't fail to be so is so
pub so : {P : Type 0} → Decided P → ¬ ¬ P → P
so (inl p) not = p
so (inr none) not = absurd (not none)

pub decide_lt : (m n : ℕ) → Decided (m < n)
decide_lt m n = elim (cases_lt m n) [ inl lt ↦ inl lt | inr ge ↦ inr (λ lt. omega arith) ]

pub decide_le : (m n : ℕ) → Decided (m ≤ n)
decide_le m n = elim (cases_lt n m) [ inl lt ↦ inr (λ le. omega arith) | inr le ↦ inl le ]

decide_same : (m n : ℕ) → Decided (m ≡ n)
decide_same m n = elim (cases_order m n) [
  | inl same ↦ inl same
  | inr apart ↦ inr (λ e. elim apart [ inl lt ↦ omega arith | inr gt ↦ omega arith ])
]

pub decide_true : (b : Bool) → Decided (b ≡ true)
decide_true true = inl refl
decide_true false = inr (λ e. false≢true e)

pub decide_none : {X : Type 0} (o : Option X) → Decided (o ≡ None)
decide_none None = inl refl
decide_none (Some x) = inr (λ e. cc)

pub decide_empty : {X : Type 0} (xs : List X) → Decided (xs ≡ [])
decide_empty [] = inl refl
decide_empty (x ∷ xs) = inr (λ e. cc)

-- ---- texts

first_same : {x y : ℕ} {xs ys : List ℕ} → x ∷ xs ≡ y ∷ ys → x ≡ y
first_same e = ap (λ (l : List ℕ). get_or l 0 0) e

rest_same : {x y : ℕ} {xs ys : List ℕ} → x ∷ xs ≡ y ∷ ys → xs ≡ ys
rest_same e = ap (λ (l : List ℕ). drop 1 l) e

pub decide_text : (xs ys : List ℕ) → Decided (xs ≡ ys)
decide_text [] [] = inl refl
decide_text [] (y ∷ ys) = inr (λ e. cc)
decide_text (x ∷ xs) [] = inr (λ e. cc)
decide_text (x ∷ xs) (y ∷ ys) = elim (decide_both (decide_same x y) (decide_text xs ys)) [
  | inl both ↦ inl (ap (λ (n : ℕ). n ∷ xs) both.0 ∙ ap (λ (l : List ℕ). y ∷ l) both.1)
  | inr apart ↦ inr (λ e. apart (first_same e, rest_same e))
]

-- ---- numbers

decide_digits : (text : List ℕ) → Decided (AllDigits 10 text)
decide_digits [] = inl tt
decide_digits (c ∷ cs) = decide_both (decide_lt (digit_value c) 10) (decide_digits cs)

number_here : {least most : ℕ} {text : List ℕ} {n : ℕ} → IsNumber least most text n → IsNumber least most text (digits_value 10 text)
number_here p = record { digits = p.digits; enough = p.enough; few = p.few; value = refl }

decide_number : (least most : ℕ) (text : List ℕ) → Decided (IsNumber least most text (digits_value 10 text))
decide_number least most text = elim (decide_both (decide_digits text) (decide_both (decide_le least (length text)) (decide_le (length text) most))) [
  | inl h ↦ inl (record { digits = h.0; enough = h.1.0; few = h.1.1; value = refl })
  | inr none ↦ inr (λ p. none (p.digits, (p.enough, p.few)))
]

pub decide_count : (lowest : ℕ) (text : List ℕ) → Decided ((n : ℕ) × IsCount lowest text n)
decide_count lowest text =
    let n = digits_value 10 text in
    elim (decide_both (decide_number 1 4 text) (decide_both (decide_le lowest n) (decide_le n greatest_count))) [
      | inl h ↦ inl (n, record { number = h.0; enough = h.1.0; few = h.1.1 })
      | inr none ↦ inr (λ p. let is = p.1.number.value in none (number_here p.1.number, (subst (λ (m : ℕ). lowest ≤ m) is p.1.enough, subst (λ (m : ℕ). m ≤ greatest_count) is p.1.few)))
    ]

decide_within : (lowest most : ℕ) (text : List ℕ) → Decided ((n : ℕ) × IsWithin lowest most text n)
decide_within lowest most text =
    let n = digits_value 10 text in
    elim (decide_both (decide_number 1 10 text) (decide_both (decide_le lowest n) (decide_le n most))) [
      | inl h ↦ inl (n, record { number = h.0; enough = h.1.0; few = h.1.1 })
      | inr none ↦ inr (λ p. let is = p.1.number.value in none (number_here p.1.number, (subst (λ (m : ℕ). lowest ≤ m) is p.1.enough, subst (λ (m : ℕ). m ≤ most) is p.1.few)))
    ]

-- ---- orders

numbers_parts : (piece : List ℕ) (more : List (List ℕ)) (numbers : List ℕ) → AllZip (IsNumber 1 4) (piece ∷ more) numbers
    → IsNumber 1 4 piece (digits_value 10 piece) × ((rest : List ℕ) × AllZip (IsNumber 1 4) more rest)
numbers_parts piece more [] zip = absurd zip
numbers_parts piece more (n ∷ ns) zip = (number_here zip.0, (ns, zip.1))

decide_numbers : (texts : List (List ℕ)) → Decided ((numbers : List ℕ) × AllZip (IsNumber 1 4) texts numbers)
decide_numbers [] = inl ([], tt)
decide_numbers (piece ∷ more) = elim (decide_both (decide_number 1 4 piece) (decide_numbers more)) [
  | inl h ↦ inl (digits_value 10 piece ∷ h.1.0, (h.0, h.1.1))
  | inr none ↦ inr (λ p. none (numbers_parts piece more p.0 p.1))
]

pub decide_order : (text : List ℕ) → Decided ((numbers : List ℕ) × SaysOrder text numbers)
decide_order text = decide_numbers (pieces 124 text)

-- ---- made inputs

abbrev AreFour : List (List ℕ) → Type 0
AreFour texts = (a b c d : List ℕ) × (texts ≡ a ∷ b ∷ c ∷ d ∷ [])

decide_four : (texts : List (List ℕ)) → Decided (AreFour texts)
decide_four [] = inr (λ h. omega (arith, ap length h.4))
decide_four (a ∷ []) = inr (λ h. omega (arith, ap length h.4))
decide_four (a ∷ b ∷ []) = inr (λ h. omega (arith, ap length h.4))
decide_four (a ∷ b ∷ c ∷ []) = inr (λ h. omega (arith, ap length h.4))
decide_four (a ∷ b ∷ c ∷ d ∷ []) = inl (a, b, c, d, refl)
decide_four (a ∷ b ∷ c ∷ d ∷ e ∷ more) = inr (λ h. omega (arith, ap length h.4))

-- the numbers that two readings give are the same
same_within : {lowest most : ℕ} {text : List ℕ} {m n : ℕ} → IsWithin lowest most text m → IsWithin lowest most text n → m ≡ n
same_within p q = p.number.value ∙ sym q.number.value

fits_too : (w h v k : ℕ) → w ≡ v → h ≡ k → picture_bytes_of Yuv420p w h ≤ greatest_picture → picture_bytes_of Yuv420p v k ≤ greatest_picture
fits_too w h v k e f fits = rw (← e, ← f) fits

decide_is_made : (a b c d : List ℕ) → Decided ((input : InputWord) × IsMade a b c d input)
decide_is_made a b c d = elim (decide_both (decide_both (decide_within 0 greatest_seed a) (decide_within 1 greatest_side b)) (decide_both (decide_within 1 greatest_side c) (decide_within 0 greatest_length d))) [
  | inl h ↦ (
      let seed = h.0.0 in
      let width = h.0.1 in
      let height = h.1.0 in
      let frames = h.1.1 in
      elim (decide_le (picture_bytes_of Yuv420p width.0 height.0) greatest_picture) [
        | inl fits ↦ inl (
          Made seed.0 width.0 height.0 frames.0,
          record { seed = seed.0; width = width.0; height = height.0; frames = frames.0; is_seed = seed.1; is_width = width.1; is_height = height.1; is_frames = frames.1; bytes_fit = fits; input_is = refl },
        )
        | inr large ↦ inr (λ m. large (fits_too m.1.width m.1.height width.0 height.0 (same_within m.1.is_width width.1) (same_within m.1.is_height height.1) m.1.bytes_fit))
      ]
      )
  | inr none ↦ inr (λ m. none (((m.1.seed, m.1.is_seed), (m.1.width, m.1.is_width)), ((m.1.height, m.1.is_height), (m.1.frames, m.1.is_frames))))
]

made_here : (text a b c d : List ℕ) → pieces 58 text ≡ a ∷ b ∷ c ∷ d ∷ [] → (input : InputWord) → SaysMade text input → IsMade a b c d input
made_here text a b c d is input made =
    let all = sym made.4 ∙ is in
    let seed = ap (λ (l : List (List ℕ)). get_or l 0 []) all in
    let width = ap (λ (l : List (List ℕ)). get_or l 1 []) all in
    let height = ap (λ (l : List (List ℕ)). get_or l 2 []) all in
    let frames = ap (λ (l : List (List ℕ)). get_or l 3 []) all in
    rw (seed, width, height, frames) at made.5

pub decide_made : (text : List ℕ) → Decided ((input : InputWord) × SaysMade text input)
decide_made text = elim (decide_four (pieces 58 text)) [
  | inl four ↦ elim (decide_is_made four.0 four.1 four.2 four.3) [
    | inl made ↦ inl (made.0, (four.0, four.1, four.2, four.3, four.4, made.1))
    | inr none ↦ inr (λ m. none (m.0, made_here text four.0 four.1 four.2 four.3 four.4 m.0 m.1))
  ]
  | inr none ↦ inr (λ m. let made = m.1 in none (made.0, made.1, made.2, made.3, made.4))
]

-- ---- labels

-- letters of a label, and a `]`
abbrev IsClosed : List ℕ → List ℕ → Type 0
IsClosed text label = (text ≡ label ++ 93 ∷ []) × AllByRecursion (λ c. is_label c ≡ true) label

not_closed : (label : List ℕ) → [] ≡ label ++ 93 ∷ [] → ⊥
not_closed label e = omega (arith, ap length e, length-append label (93 ∷ []))

closed_one : (c : ℕ) (label : List ℕ) → c ∷ [] ≡ label ++ 93 ∷ [] → c ≡ 93
closed_one c [] e = first_same e
closed_one c (x ∷ xs) e = absurd (not_closed xs (rest_same e))

closed_rest : (c d : ℕ) (cs label : List ℕ) → IsClosed (c ∷ d ∷ cs) label → (is_label c ≡ true) × ((rest : List ℕ) × IsClosed (d ∷ cs) rest)
closed_rest c d cs [] closed = absurd (omega (arith, ap length closed.0))
closed_rest c d cs (x ∷ xs) closed = (subst (λ (y : ℕ). is_label y ≡ true) (sym (first_same closed.0)) closed.1.0, (xs, (rest_same closed.0, closed.1.1)))

decide_closed : (text : List ℕ) → Decided ((label : List ℕ) × IsClosed text label)
decide_closed [] = inr (λ h. not_closed h.0 h.1.0)
decide_closed (c ∷ []) = elim (decide_same c 93) [
  | inl e ↦ inl ([], (ap (λ (n : ℕ). n ∷ []) e, tt))
  | inr other ↦ inr (λ h. other (closed_one c h.0 h.1.0))
]
decide_closed (c ∷ d ∷ cs) = elim (decide_both (decide_true (is_label c)) (decide_closed (d ∷ cs))) [
  | inl h ↦ inl (c ∷ h.1.0, (ap (λ (l : List ℕ). c ∷ l) h.1.1.0, (h.0, h.1.1.1)))
  | inr none ↦ inr (λ h. none (closed_rest c d cs h.0 h.1))
]

-- what stands in the brackets is as long
as_long : (text a b : List ℕ) → text ≡ a ++ 93 ∷ [] → text ≡ b ++ 93 ∷ [] → length a ≡ length b
as_long text a b e f = omega (arith, ap length e, ap length f, length-append a (93 ∷ []), length-append b (93 ∷ []))

pub decide_label : (text : List ℕ) → Decided ((label : List ℕ) × IsLabelled text label)
decide_label [] = inr (λ l. absurd (omega (arith, ap length l.1.text_is)))
decide_label (c ∷ rest) = elim (decide_both (decide_same c 91) (decide_closed rest)) [
  | inl h ↦ (
      let label = h.1.0 in
      let closed = h.1.1 in
      elim (decide_lt 0 (length label)) [
        | inl some ↦ inl (label, record { text_is = ap (λ (n : ℕ). n ∷ rest) h.0 ∙ ap (λ (l : List ℕ). 91 ∷ l) closed.0; each = closed.1; some = some })
        | inr empty ↦ inr (λ l. empty (subst (λ (n : ℕ). 0 < n) (as_long rest l.0 label (rest_same l.1.text_is) closed.0) l.1.some))
      ]
      )
  | inr none ↦ inr (λ l. none (first_same l.1.text_is, (l.0, (rest_same l.1.text_is, l.1.each))))
]
