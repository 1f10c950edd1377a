-- Texts that begin with a prefix.
use Rattle.std.proofs.Common.{◌≡◌, ℕ, List, ◌++◌, true, false, nat_eq, take, drop, length, sym, ap, ◌∙◌}
use Rattle.std.specs.Cmp.Lexicographic.{pointwise, same_text, other_text}
use Rattle.std.proofs.lemmas.List.{take-append-drop}
use Rattle.std.proofs.Math.Seq.{take-append_seam}

pub prefix_found : (text prefix rest : List ℕ) → pointwise nat_eq (take (length prefix) text) prefix ≡ true → rest ≡ drop (length prefix) text → text ≡ prefix ++ rest
prefix_found text prefix rest same e =
    let begins = same_text (take (length prefix) text) prefix (sym same) in
    sym (take-append-drop (length prefix) text) ∙ ap (λ xs. xs ++ drop (length prefix) text) begins ∙ ap (λ xs. prefix ++ xs) (sym e)

pub prefix_none : (text prefix rest : List ℕ) → pointwise nat_eq (take (length prefix) text) prefix ≡ false → text ≡ prefix ++ rest → ⊥
prefix_none text prefix rest other e = other_text (take (length prefix) text) prefix (sym other) (ap (take (length prefix)) e ∙ take-append_seam prefix rest)
