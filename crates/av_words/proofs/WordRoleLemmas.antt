-- The words of a command line, one by one.
use Rattle.std.proofs.Common.{◌≡◌, ◌<◌, ◌+◌, ◌++◌, ℕ, List, [], ◌∷◌, Option, get_or, drop, length, sym, ◌∙◌, ap, append_assoc}
use Rattle.std.proofs.lemmas.List.{drop_more}
use Rattle.av_words.specs.declared.word_roles.Valued.{Valued}
use Rattle.av_words.specs.WordRoles.{Said, role_in, taker_of, said_after}

-- one word more
pub said_more : (all : List Said) (words : List (List ℕ)) (done : List Said) (taker : Option Valued) (i : ℕ) (word : List ℕ) → i < length words → word ≡ get_or words i []
    → all ≡ done ++ said_after taker (drop i words)
    → all ≡ (done ++ (record { role = role_in taker word; word = word }) ∷ []) ++ said_after (taker_of (role_in taker word)) (drop (i + 1) words)
said_more all words done taker i word within is so_far =
    let after = drop_more words i [] within in
    let one : List Said = (record { role = role_in taker word; word = word }) ∷ [] in
    let e : drop i words ≡ word ∷ drop (i + 1) words = rw is after in
    so_far ∙ (ap (λ (ws : List (List ℕ)). done ++ said_after taker ws) e ∙ sym (append_assoc done one (said_after (taker_of (role_in taker word)) (drop (i + 1) words))))
