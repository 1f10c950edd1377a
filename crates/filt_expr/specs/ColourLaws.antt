-- A text means exactly one colour, or none.
use Rattle.std.specs.Prelude.{◌≡◌, ◌<◌, ℕ, pos, List, length, Some, None, codes, refl}
use Rattle.std.specs.List.{position_or_len, before_first, after_first}
use Rattle.std.proofs.Common.{inl, inr, ◌∙◌, sym, ap, subst}
use Rattle.av_filter.specs.Decisions.{IsDecided, word_or_none}
use Rattle.av_filter.specs.Outcomes.{IsOne}
use Rattle.av_filter.specs.Texts.{text_decided, both_decided, less_decided, natural_decided, within_one}
use Rattle.filt_expr.specs.Colours.{colours, is_slash, Splits, IsSample, IsForm, MeansColour}
use Rattle.filt_expr.specs.declared.colour.Colour.{Colour}

abbrev head : List ℕ → List ℕ
head text = before_first is_slash text

abbrev tail : List ℕ → List ℕ
tail text = after_first is_slash text

-- the text has a `/`
abbrev HasSlash : List ℕ → Type 0
HasSlash text = position_or_len is_slash text < length text

-- the text has three `/`, and the word before the first
abbrev HasForm : List ℕ → Type 0
HasForm text = HasSlash text × ((head text ≡ codes "yuv") × (HasSlash (tail text) × HasSlash (tail (tail text))))

has_form_decided : (text : List ℕ) → IsDecided (HasForm text)
has_form_decided text =
    both_decided (less_decided _ _)
    (both_decided (text_decided (head text) (codes "yuv")) (both_decided (less_decided _ _) (less_decided _ _)))

form_parts : (text : List ℕ) (colour : Colour) → IsForm text colour
    → HasForm text × IsSample (head (tail text)) colour.y × IsSample (head (tail (tail text))) colour.u × IsSample (tail (tail (tail text))) colour.v
form_parts text colour f =
    let behind : f.behind ≡ tail (tail text) = f.first.rest_is ∙ ap tail f.word.rest_is in (
      (
        f.word.has,
        (
          sym f.word.piece_is,
          (
            subst HasSlash f.word.rest_is f.first.has,
            subst HasSlash behind f.second.has,
          ),
        ),
      ),
      subst (λ (t : List ℕ). IsSample t colour.y) (f.first.piece_is ∙ ap head f.word.rest_is) f.y_is,
      subst (λ (t : List ℕ). IsSample t colour.u) (f.second.piece_is ∙ ap head behind) f.u_is,
      subst (λ (t : List ℕ). IsSample t colour.v) (f.second.rest_is ∙ ap tail behind) f.v_is,
    )

form_from : (text : List ℕ) (y u v : ℕ) → HasForm text → IsSample (head (tail text)) y → IsSample (head (tail (tail text))) u → IsSample (tail (tail (tail text))) v
    → IsForm text (record { y = y; u = u; v = v })
form_from text y u v has a b c = record {
  tail = tail text;
  word = record { has = has.0; piece_is = sym has.1.0; rest_is = refl };
  y = head (tail text);
  behind = tail (tail text);
  first = record { has = has.1.1.0; piece_is = refl; rest_is = refl };
  u = head (tail (tail text));
  v = tail (tail (tail text));
  second = record { has = has.1.1.1; piece_is = refl; rest_is = refl };
  y_is = a;
  u_is = b;
  v_is = c;
}

form_decided : (text : List ℕ) → IsDecided ((colour : Colour) × IsForm text colour)
form_decided text = elim (has_form_decided text) [
  | inr none ↦ inr (λ h. none (form_parts text h.0 h.1).0)
  | inl has ↦ elim (natural_decided (pos 255) (head (tail text))) [
    | inr none ↦ inr (λ h. none (h.0.y, (form_parts text h.0 h.1).1))
    | inl y ↦ elim (natural_decided (pos 255) (head (tail (tail text)))) [
      | inr none ↦ inr (λ h. none (h.0.u, (form_parts text h.0 h.1).2))
      | inl u ↦ elim (natural_decided (pos 255) (tail (tail (tail text)))) [
        | inr none ↦ inr (λ h. none (h.0.v, (form_parts text h.0 h.1).3))
        | inl v ↦ inl (record { y = y.0; u = u.0; v = v.0 }, form_from text y.0 u.0 v.0 has y.1 u.1 v.1)
      ]
    ]
  ]
]

-- a text means a colour, or it doesn't
pub colour_decided : (text : List ℕ) → IsDecided ((colour : Colour) × MeansColour text colour)
colour_decided text = elim (word_or_none colours text) [
  | inl word ↦ inl (word.0, inl word.1)
  | inr none ↦ elim (form_decided text) [
    | inl form ↦ inl (form.0, inr (none, form.1))
    | inr lacks ↦ inr (λ h. elim h.1 [
      | inl word ↦ absurd (let bad : None ≡ Some h.0 = sym none ∙ word in cc)
      | inr form ↦ lacks (h.0, form.1)
    ])
  ]
]

split_same : {text other a b r s : List ℕ} → text ≡ other → Splits text a r → Splits other b s → (a ≡ b) × (r ≡ s)
split_same e p q = (p.piece_is ∙ ap (before_first is_slash) e ∙ sym q.piece_is, p.rest_is ∙ ap (after_first is_slash) e ∙ sym q.rest_is)

sample_same : (text other : List ℕ) (m n : ℕ) → text ≡ other → IsSample text m → IsSample other n → m ≡ n
sample_same text other m n e p q = let same = within_one (pos m) (pos n) (subst (λ t. IsSample t m) e p) q in cc

same_colour : (c d : Colour) → c.y ≡ d.y → c.u ≡ d.u → c.v ≡ d.v → c ≡ d
same_colour c d a b e = λ i. record { y = a i; u = b i; v = e i }

form_one : (text : List ℕ) → IsOne (IsForm text)
form_one text c d p q =
    let tail = split_same refl p.word q.word in
    let first = split_same tail.1 p.first q.first in
    let second = split_same first.1 p.second q.second in
    same_colour c d
    (sample_same p.y q.y c.y d.y first.0 p.y_is q.y_is)
    (sample_same p.u q.u c.u d.u second.0 p.u_is q.u_is)
    (sample_same p.v q.v c.v d.v second.1 p.v_is q.v_is)

-- a text means one colour
pub colour_one : (text : List ℕ) → IsOne (MeansColour text)
colour_one text c d (inl p) (inl q) = cc
colour_one text c d (inl p) (inr q) = let none = q.0 in cc
colour_one text c d (inr p) (inl q) = let none = p.0 in cc
colour_one text c d (inr p) (inr q) = form_one text c d p.1 q.1
