use Rattle.std.proofs.Common.{◌∙◌, Bool, true, false, not, IsTrue, ◌↔◌, ap, sym, subst, refl}
use Rattle.std.proofs.lemmas.Bool.{false≢true}
use Rattle.av_words.specs.declared.word_roles.Role.{Role}
use Rattle.av_words.specs.declared.word_roles.Role.TheVariants.{Names, File}
use Rattle.av_words.specs.WordFaults.{Lacks, LacksValue}
use Rattle.av_words.proofs.word_checks.lacks_value.Goals as goal

tested : (b : Bool) (P : Type 0) → (IsTrue b → P → ⊥) → ((IsTrue b → ⊥) → P) → IsTrue (not b) ↔ P
tested true P there none = (λ t. absurd (false≢true t), λ p. absurd (there refl p))
tested false P there none = (λ _. none (λ t. false≢true t), λ _. refl)

pub returns-in-Names-Map : goal.returns-in-Names-Map
returns-in-Names-Map c after is_last has none =
    let P : Role → Type 0 = λ r. IsTrue (not c.args.has_file) ↔ LacksValue r after in
    subst P (sym (c.in-Names-Map.is ∙ ap Names (rw c.in-Names-Map.is at c.in-Names-Map.field-0-is))) (tested c.args.has_file (Lacks after File) has none)
