use Rattle.std.proofs.Common.{◌≡◌, ℕ, ◌<◌, ◌≤◌, false}
use Rattle.plane_pool.specs.Pools.{keeper_at, Looked}
use Rattle.plane_pool.proofs.pool.look_all.Given as goal

abbrev pub invariant-loop-i : goal.invariant-loop-i
invariant-loop-i l = ((j : ℕ) → j < l.i → Looked (keeper_at l.initial.keepers j) (keeper_at l.keepers j) false)
    × ((j : ℕ) → l.i ≤ j → keeper_at l.keepers j ≡ keeper_at l.initial.keepers j)
