-- Values of options, and endings of names.
use Rattle.std.proofs.Common.{◌≡◌, ◌<◌, ◌+◌, ◌-◌, ◌++◌, ◌↔◌, ℕ, Bool, zero, suc, List, [], ◌∷◌, Some, map, take, drop, get_or, length, IsTrue, Bor, option_map, refl, sym, ◌∙◌, ap, subst, arith}
use Rattle.std.specs.Char.{to_ascii_lowercase}
use Rattle.std.specs.List.{AllZip, slice_get}
use Rattle.std.proofs.lemmas.Option.{same_Some, slice_get-map, slice_get-get_or}
use Rattle.std.proofs.lemmas.List.{take_more, map-append, get_or-map}
use Rattle.std.proofs.lemmas.Bool.Decides.{same_from_decides}
use Rattle.std.proofs.lemmas.Slice.Eq.{bytes_eq-Decides}
use Rattle.av_text.specs.Classes.{is_label, IsRun}
use Rattle.av_text.proofs.Runs.{run_unique}
use Rattle.av_words.specs.declared.command_words.InputWord.{InputWord}
use Rattle.av_words.specs.WordValues.{ends_in, IsLabelled, pieces, IsMade, SaysMade}

-- what is read past the end of a list of texts
abbrev pub no_text : Bor (List ℕ)
no_text = record { ref_ptr = (0, 0); now = [] }

-- ---- endings

pub ends_tested : (r : Bool) (name ending tail : List ℕ) → IsTrue r ↔ (map to_ascii_lowercase tail ≡ map to_ascii_lowercase ending) → tail ≡ drop (length name - length ending) name → r ≡ ends_in name ending
ends_tested r name ending tail test is =
    same_from_decides r (ends_in name ending) (rw is at test) (bytes_eq-Decides (map to_ascii_lowercase (drop (length name - length ending) name)) (map to_ascii_lowercase ending))

-- ---- labels

-- the label that a text after a `[` begins with
pub same_label : {text rest label front after : List ℕ} → text ≡ 91 ∷ rest → IsLabelled text label → IsRun is_label rest front after → (label ≡ front) × (93 ∷ [] ≡ after)
same_label {text} {rest} {label} {front} {after} e labelled run =
    let both : 91 ∷ (label ++ 93 ∷ []) ≡ 91 ∷ (front ++ after) = sym labelled.text_is ∙ (e ∙ ap (λ (xs : List ℕ). 91 ∷ xs) run.text_is) in
    let tails : label ++ 93 ∷ [] ≡ front ++ after = ap (λ (xs : List ℕ). drop 1 xs) both in
    run_unique is_label label front (93 ∷ []) after labelled.each run.each refl run.whole tails

-- ---- lists beside each other

-- a member of the first that has no partner
pub zip_fails : {X Y : Type 0} (R : X → Y → Type 0) (xs : List X) (i : ℕ) (x : X) → slice_get xs i ≡ Some x → ((y : Y) → R x y → ⊥) → (ys : List Y) → AllZip R xs ys → ⊥
zip_fails R [] i x here none ys zip = absurd (cc)
zip_fails R (z ∷ zs) i x here none [] zip = zip
zip_fails R (z ∷ zs) zero x here none (y ∷ ys) zip = none y (subst (λ a. R a y) (same_Some z x here) zip.0)
zip_fails R (z ∷ zs) (suc i) x here none (y ∷ ys) zip = zip_fails R zs i x here none ys zip.1

-- ---- lists of texts that are lent

pub lent_at : (items : List (Bor (List ℕ))) (i : ℕ) (d : Bor (List ℕ)) → i < length items → slice_get (map (λ p. p.now) items) i ≡ Some (get_or items i d).now
lent_at items i d within = slice_get-map (λ (p : Bor (List ℕ)). p.now) items i ∙ ap (option_map (λ (p : Bor (List ℕ)). p.now)) (slice_get-get_or items i d within)

pub lent_more : (items : List (Bor (List ℕ))) (i : ℕ) (d : Bor (List ℕ)) → i < length items
    → map (λ p. p.now) (take (i + 1) items) ≡ map (λ p. p.now) (take i items) ++ (get_or items i d).now ∷ []
lent_more items i d within = ap (map (λ (p : Bor (List ℕ)). p.now)) (take_more items i d within) ∙ map-append (λ (p : Bor (List ℕ)). p.now) (take i items) (get_or items i d ∷ [])

-- ---- made inputs

-- four texts that make none
pub made_only : (items : List (Bor (List ℕ))) (d : Bor (List ℕ)) (text : List ℕ) → length items ≡ 4 → map (λ p. p.now) items ≡ pieces 58 text
    → ((input : InputWord) → IsMade (get_or items 0 d).now (get_or items 1 d).now (get_or items 2 d).now (get_or items 3 d).now input → ⊥) → (input : InputWord) → SaysMade text input → ⊥
made_only items d text four is none input made =
    let all : map (λ p. p.now) items ≡ made.0 ∷ made.1 ∷ made.2 ∷ made.3 ∷ [] = is ∙ made.4 in
    let seed = sym (get_or-map (λ (p : Bor (List ℕ)). p.now) items 0 d [] (omega arith)) ∙ ap (λ (xs : List (List ℕ)). get_or xs 0 []) all in
    let width = sym (get_or-map (λ (p : Bor (List ℕ)). p.now) items 1 d [] (omega arith)) ∙ ap (λ (xs : List (List ℕ)). get_or xs 1 []) all in
    let height = sym (get_or-map (λ (p : Bor (List ℕ)). p.now) items 2 d [] (omega arith)) ∙ ap (λ (xs : List (List ℕ)). get_or xs 2 []) all in
    let frames = sym (get_or-map (λ (p : Bor (List ℕ)). p.now) items 3 d [] (omega arith)) ∙ ap (λ (xs : List (List ℕ)). get_or xs 3 []) all in
    none input (rw (seed, width, height, frames) made.5)
