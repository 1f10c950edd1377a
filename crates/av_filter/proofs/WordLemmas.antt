-- Words in tables.
use Rattle.std.proofs.Common.{◌≡◌, ◌≢◌, ℕ, Bool, true, false, List, [], ◌∷◌, None, refl, sym}
use Rattle.std.specs.List.{AllByRecursion}
use Rattle.std.specs.Cmp.Lexicographic.{same_text}
use Rattle.av_filter.specs.Words.{is_text, word_in}

first_missed : {X : Type 0} (text : List ℕ) (e : List ℕ × X) (others : List (List ℕ × X)) (t : Bool) → is_text text e.0 ≡ t → text ≢ e.0
    → word_in others text ≡ None → word_in (e ∷ others) text ≡ None
first_missed text e others true same apart none = absurd (apart (same_text text e.0 (sym same)))
first_missed text e others false other apart none = rw other none

-- a text that is none of the words
pub missed : {X : Type 0} (text : List ℕ) (words : List (List ℕ × X)) → AllByRecursion (λ e. text ≢ e.0) words → word_in words text ≡ None
missed text [] h = refl
missed text (e ∷ others) h = first_missed text e others (is_text text e.0) refl h.0 (missed text others h.1)
