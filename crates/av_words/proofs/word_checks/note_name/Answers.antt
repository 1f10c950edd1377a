use Rattle.std.proofs.Common.{◌≡◌, ◌∙◌, ℕ, List, Bor, bytes_eq, sym}
use Rattle.std.proofs.lemmas.Bool.{false≢true}
use Rattle.std.specs.HashSet.{contains_by}
use Rattle.av_words.proofs.WordCheckLemmas.{has_noted, has_other}
use Rattle.av_words.proofs.word_checks.note_name.Goals as goal

abbrev lent : List ℕ → Bor (List ℕ)
lent name = record { ref_ptr = (0, 0); now = name }

pub returns-in_ok-insert-clause-noted : goal.returns-in_ok-insert-clause-noted
returns-in_ok-insert-clause-noted c before knows =
    let same : c.args.item.role ≡ c.args.role = c.is_same.ensures.0 c.if-is_same.true in
    let word = c.args.item.word.now in
    let updates = c.in_ok-insert.ensures.updates in
    rw same (has_noted before c.args.role word (λ name. contains_by (λ (k : Bor (List ℕ)). bytes_eq name k.now) c.args.names.now) (λ name. contains_by (λ (k : Bor (List ℕ)). bytes_eq name k.now) c.insert.new.self)
    knows (λ other. updates.0 (lent other)))

pub returns-else-is_same-clause-noted : goal.returns-else-is_same-clause-noted
returns-else-is_same-clause-noted c before knows name =
    let apart : c.args.item.role ≡ c.args.role → ⊥ = λ e. false≢true (sym c.if-is_same.false ∙ c.is_same.ensures.1 e) in
    let other = has_other before c.args.item.role c.args.item.word.now c.args.role name apart in
    let old = knows name in
    (λ t. other.1 (old.0 t), λ h. old.1 (other.0 h))
