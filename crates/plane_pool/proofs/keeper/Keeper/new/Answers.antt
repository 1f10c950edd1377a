use Rattle.std.proofs.Common.{ℕ, List, [], length, get_or, ap, ◌∙◌}
use Rattle.plane_pool.proofs.Keeps.{new_slot}
use Rattle.plane_pool.proofs.keeper.Keeper.new.Goals as goal

pub of_words-requires : goal.of_words-requires
of_words-requires c = let e = c.as_slice.ensures.value in let z = c.in_ok-start.ensures {u = tt} in
    new_slot c.args.words c.as_slice.result.now [] c.requires (ap (λ (xs : List ℕ). length xs) e ∙ z.0) (ap (λ (xs : List ℕ). get_or xs 0 0) e ∙ z.1)
