-- Laws of tables of words.
use Rattle.std.specs.Prelude.{◌≡◌, ◌<◌, ℕ, Bool, true, false, List, [], ◌∷◌, None, Some, Option, cond}
use Rattle.std.specs.List.{AllByRecursion}
use Rattle.av_filter.specs.Words.{is_text, word_in}

first_below : (n o x : ℕ) (found : Bool) (others : List (List ℕ × ℕ)) (text : List ℕ) → x < n → (word_in others text ≡ Some o → o < n) → cond found (Some x) (word_in others text) ≡ Some o → o < n
first_below n o x true others text h rest e = rw (some_is e) h
  where
    some_is : Some x ≡ Some o → o ≡ x
    some_is e = cc
first_below n o x false others text h rest e = rest e

-- where each word means a number below n, so does whatever is found
pub word_below : (n : ℕ) (words : List (List ℕ × ℕ)) → AllByRecursion (λ e. e.1 < n) words → (text : List ℕ) (o : ℕ) → word_in words text ≡ Some o → o < n
word_below n [] h text o e = absurd (none e)
  where
    none : ◌≡◌ {A = Option ℕ} None (Some o) → ⊥
    none e = cc
word_below n (w ∷ words) h text o e = first_below n o w.1 (is_text text w.0) words text h.0 (λ f. word_below n words h.1 text o f) e
