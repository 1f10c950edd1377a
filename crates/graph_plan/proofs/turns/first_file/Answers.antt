use Rattle.std.proofs.Common.{◌≡◌, ℕ, Some, false, get_or, refl, arith, below_more}
use Rattle.std.specs.List.{slice_get}
use Rattle.std.proofs.lemmas.Option.{slice_get_within}
use Rattle.graph_plan.proofs.turns.first_file.Goals as goal

pub returns-then-is_left-clause-left : goal.returns-then-is_left-clause-left
returns-then-is_left-clause-left c = record { holds = c.if-is_left.ensures.0 refl; none_before = c.files.invariant }

pub files-preserved : goal.files-preserved
files-preserved c =
    let P : ℕ → Type 0 = λ k. (slice_get c.args.files.now k ≡ Some c.args.wanted) × (get_or c.args.taken.now k false ≡ false) → ⊥ in
    below_more P c.files.file c.files.invariant (λ is. let no = c.if-is_left.ensures.1 is in cc)

pub returns-clause-none : goal.returns-clause-none
returns-clause-none c none k is = c.files.invariant k (let low = slice_get_within c.args.files.now k c.args.wanted is.0 in let past = c.files-test.false in omega arith) is
