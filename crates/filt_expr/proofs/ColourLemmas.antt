-- Texts that mean no colour.
use Rattle.std.proofs.Common.{◌≡◌, ◌≢◌, ℕ, List, None, Some, sym, ◌∙◌, subst}
use Rattle.std.specs.Prelude.{codes}
use Rattle.av_filter.specs.Words.{word_in}
use Rattle.av_filter.proofs.WordLemmas.{missed}
use Rattle.filt_expr.specs.Colours.{colours, Splits}
use Rattle.filt_expr.specs.declared.colour.Colour.{Colour}

pub no_word : {text : List ℕ} {colour : Colour} → text ≢ codes "black" → text ≢ codes "white" → word_in colours text ≡ Some colour → ⊥
no_word {text} {colour} black white word = apart (sym (missed text colours (black, (white, tt))) ∙ word)
  where
    apart : None ≡ Some colour → ⊥
    apart e = cc

-- a text is split in one way
pub no_split : {text : List ℕ} {a b : List ℕ} {r s : List ℕ} → Splits text a r → Splits text b s → ((piece rest : List ℕ) → ¬ Splits r piece rest) → (piece rest : List ℕ) → ¬ Splits s piece rest
no_split {r = r} {s = s} p q none piece rest h = none piece rest (subst (λ (t : List ℕ). Splits t piece rest) (q.rest_is ∙ sym p.rest_is) h)

pub no_second : {text a b r s c d q u : List ℕ} → Splits text a r → Splits text b s → Splits r c q → Splits s d u
    → ((piece rest : List ℕ) → ¬ Splits q piece rest) → (piece rest : List ℕ) → ¬ Splits u piece rest
no_second {s = s} {d = d} {u = u} p q first second none piece rest h =
    no_split first (subst (λ (t : List ℕ). Splits t d u) (q.rest_is ∙ sym p.rest_is) second) none piece rest h
