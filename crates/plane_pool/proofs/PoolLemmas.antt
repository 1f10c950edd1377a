-- A slot that is to be given, and then is.
use Rattle.std.proofs.Common.{◌≡◌, ℕ, ◌<◌, true, false, length, set, sym, ap, ◌∙◌, subst, arith, length-set, get_or-set_other, get_or-set_same}
use mathlib.Core.Logic.{dite}
use native.Mathlib.Decide.{ℕ_discrete}
use Rattle.atomic_table.specs.Seated.{TableId}
use Rattle.plane_pool.specs.Owners.{DraftView, fresh_draft}
use Rattle.plane_pool.specs.Pools.{KeeperView, PoolView, Looked, Grows, MakesLast, Refuses, Readies, Grants, keeper_at, no_keeper}

-- the keeper has given its slot
abbrev spent : KeeperView → KeeperView
spent keeper = record keeper { giving = false }

abbrev given : PoolView → ℕ → PoolView
given pool i = record pool { keepers = set pool.keepers i (spent (keeper_at pool.keepers i)) }

given_here : (pool : PoolView) (i : ℕ) → i < length pool.keepers → keeper_at (given pool i).keepers i ≡ spent (keeper_at pool.keepers i)
given_here pool i less = get_or-set_same pool.keepers i (spent (keeper_at pool.keepers i)) no_keeper less

given_other : (pool : PoolView) (i j : ℕ) → (j ≡ i → ⊥) → keeper_at (given pool i).keepers j ≡ keeper_at pool.keepers j
given_other pool i j ne = get_or-set_other pool.keepers i j (spent (keeper_at pool.keepers i)) no_keeper ne

tables_stay : (pool : PoolView) (i j : ℕ) → i < length pool.keepers → (keeper_at (given pool i).keepers j).table ≡ (keeper_at pool.keepers j).table
tables_stay pool i j less = dite (ℕ_discrete j i)
    (λ same. ap (λ (k : ℕ). (keeper_at (given pool i).keepers k).table) same ∙ (ap (λ (k : KeeperView). k.table) (given_here pool i less) ∙ ap (λ (k : ℕ). (keeper_at pool.keepers k).table) (sym same)))
    (λ other. ap (λ (k : KeeperView). k.table) (given_other pool i j other))

grows_given : (old mid : PoolView) (i : ℕ) → Readies old mid i → Grows old (given mid i)
grows_given old mid i r = let grows = r.refuses.grows in let more = grows.more in let one = grows.one in let long = length-set mid.keepers i (spent (keeper_at mid.keepers i)) in record {
  words = grows.words;
  more = omega arith;
  one = omega arith;
  tables = λ j less. tables_stay mid i j r.there ∙ grows.tables j less;
}

-- a keeper that found another word has nothing to give
last_given : (old mid : PoolView) (i : ℕ) → Readies old mid i → MakesLast old (given mid i)
last_given old mid i r more j less =
    let long = length-set mid.keepers i (spent (keeper_at mid.keepers i)) in let looked : Looked (keeper_at old.keepers j) (keeper_at mid.keepers j) false = r.refuses.last (omega arith) j less in
    let ne : j ≡ i → ⊥ = λ (same : j ≡ i). let b : true ≡ false = sym r.giving ∙ (ap (λ (k : ℕ). (keeper_at mid.keepers k).giving) (sym same) ∙ looked.2) in cc in
    subst (λ (k : KeeperView). Looked (keeper_at old.keepers j) k false) (sym (given_other mid i j ne)) looked

given_is : (old mid : PoolView) (i : ℕ) → Readies old mid i → (keeper_at mid.keepers i).found ≡ 0 → Grants old (given mid i) (fresh_draft (keeper_at mid.keepers i).table i mid.words)
given_is old mid i r found = let there = r.there in let long = length-set mid.keepers i (spent (keeper_at mid.keepers i)) in let here = given_here mid i there in
    let table : (keeper_at mid.keepers i).table ≡ (keeper_at (given mid i).keepers i).table = sym (ap (λ (k : KeeperView). k.table) here) in record {
      grows = grows_given old mid i r;
      there = omega arith;
      is = ap (λ (t : TableId). fresh_draft t i mid.words) table ∙ ap (λ (n : ℕ). fresh_draft (keeper_at (given mid i).keepers i).table i n) r.refuses.grows.words;
      free = ap (λ (k : KeeperView). k.found) here ∙ found;
      first = λ has. ap (λ (pool : PoolView). given pool i) (r.refuses.waits has);
      last = last_given old mid i r;
    }

pub granted : (old mid new : PoolView) (i : ℕ) (draft : DraftView) → Readies old mid i → (keeper_at mid.keepers i).found ≡ 0 → draft ≡ fresh_draft (keeper_at mid.keepers i).table i mid.words
    → new ≡ record mid { keepers = set mid.keepers i (record (keeper_at mid.keepers i) { giving = false }) } → Grants old new draft
granted old mid new i draft r found is so = subst (λ (d : DraftView). Grants old new d) (sym is) (subst (λ (pool : PoolView). Grants old pool (fresh_draft (keeper_at mid.keepers i).table i mid.words)) (sym so) (given_is old mid i r found))

pub refused : (old mid new : PoolView) (i : ℕ) → Readies old mid i → new ≡ mid → Refuses old new
refused old mid new i r so = subst (λ (pool : PoolView). Refuses old pool) (sym so) r.refuses
