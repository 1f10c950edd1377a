use Rattle.std.proofs.Common.{◌∙◌, inl, inr, ap, sym, subst, IsTrue, ◌↔◌}
use Rattle.std.proofs.lemmas.Bool.{false≢true}
use Rattle.av_words.specs.declared.word_roles.Role.{Role}
use Rattle.av_words.specs.declared.word_roles.Role.TheVariants.{Value}
use Rattle.av_words.specs.WordFaults.{IsSameName}
use Rattle.av_words.proofs.WordCheckLemmas.{same_as_output}
use Rattle.av_words.proofs.word_checks.is_same_name.Goals as goal

pub returns-in-Value-Input : goal.returns-in-Value-Input
returns-in-Value-Input c before read =
    same_as_output before c.args.item.role c.args.item.word.now c.contains.result (c.in-Value-Input.is ∙ ap Value (rw c.in-Value-Input.is at c.in-Value-Input.field-0-is)) (rw c.contains.ensures (read.outputs c.args.item.word.now))

pub returns-then-contains : goal.returns-then-contains
returns-then-contains c before read =
    let word = c.args.item.word.now in
    let P : Role → Type 0 = λ r. IsTrue c.contains-in-File.result ↔ IsSameName before r word in
    let e = c.contains-in-File.ensures in
    subst P (sym c.in-File.is) (λ t. inl ((read.outputs word).0 (sym e ∙ t)), λ _. c.if-contains.true)

pub returns-else-contains : goal.returns-else-contains
returns-else-contains c before read =
    let word = c.args.item.word.now in
    let P : Role → Type 0 = λ r. IsTrue c.contains-else-contains.result ↔ IsSameName before r word in
    let e = c.contains-else-contains.ensures in
    subst P (sym c.in-File.is) (
      λ t. inr ((read.inputs word).0 (sym e ∙ t)),
      λ h. elim h [
        | inl here ↦ absurd (false≢true (sym c.if-contains.false ∙ (c.contains-in-File.ensures ∙ (read.outputs word).1 here)))
        | inr here ↦ e ∙ (read.inputs word).1 here
      ],
    )
