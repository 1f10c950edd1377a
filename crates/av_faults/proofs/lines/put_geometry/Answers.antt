use Rattle.std.proofs.Common.{ℕ, List, ◌++◌, ◌∙◌, ap, codes, w64}
use Rattle.std.proofs.lemmas.Int.{to_z-of_z}
use Rattle.std.specs.Fmt.{decimal, signed_decimal}
use Rattle.av_faults.proofs.FieldLemmas.{fields_text}
use Rattle.av_faults.proofs.lines.put_geometry.Goals as goal

pub returns-clause-text : goal.returns-clause-text
returns-clause-text c =
    let found = codes " found=" in
    let allowed = codes " allowed=" in
    (rw (to_z-of_z w64 c.args.allowed c.ranges.allowed) at c.put_signed-2.ensures.text)
    ∙ (ap (λ (z : List ℕ). z ++ allowed ++ signed_decimal c.args.allowed) (rw (to_z-of_z w64 c.args.found c.ranges.found) at c.put_signed.ensures.text)
    ∙ (ap (λ (z : List ℕ). z ++ found ++ signed_decimal c.args.found ++ allowed ++ signed_decimal c.args.allowed) (rw c.from.ensures at c.put_number.ensures.text)
    ∙ fields_text c.args.line.now.bytes (codes "BadGeometry filter=") (decimal c.args.filter) found (signed_decimal c.args.found) allowed (signed_decimal c.args.allowed)))
