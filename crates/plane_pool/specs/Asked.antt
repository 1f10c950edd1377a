-- What a step of each kind asks of the view of the owner that makes it. This project's own.
use Rattle.std.specs.Prelude.{◌≡◌, ℕ, ◌+◌, ◌<◌, ◌≤◌, length}
use Rattle.plane_pool.specs.declared.view.View.{View}
use Rattle.plane_pool.specs.declared.view.View.TheVariants.{Keeper, Giving, Drafting, Referring, Spent}

-- a draft with the place p in its range and not past the written words
abbrev pub MayPut : View → ℕ → Type 0
MayPut (Drafting n from count written) p = (from ≤ p) × (p < from + count) × (p ≤ from + length written)
MayPut (Keeper n looks found) p = ⊥
MayPut (Giving n looks found) p = ⊥
MayPut (Referring w content found) p = ⊥
MayPut Spent p = ⊥

-- a draft with the k places from p on in its range, and p not past the written words
abbrev pub MayPutRow : View → ℕ → ℕ → Type 0
MayPutRow (Drafting n from count written) p k = (from ≤ p) × (p + k ≤ from + count) × (p ≤ from + length written)
MayPutRow (Keeper n looks found) p k = ⊥
MayPutRow (Giving n looks found) p k = ⊥
MayPutRow (Referring w content found) p k = ⊥
MayPutRow Spent p k = ⊥

-- a draft with a written word at the place p, or a reference to it
abbrev pub MayGet : View → ℕ → Type 0
MayGet (Drafting n from count written) p = (from ≤ p) × (p < from + length written)
MayGet (Referring w content found) p = p < length content
MayGet (Keeper n looks found) p = ⊥
MayGet (Giving n looks found) p = ⊥
MayGet Spent p = ⊥

-- a draft of the whole slot with each word written
abbrev pub MaySeal : View → Type 0
MaySeal (Drafting n from count written) = (from ≡ 0) × (count ≡ n) × (length written ≡ n)
MaySeal (Keeper n looks found) = ⊥
MaySeal (Giving n looks found) = ⊥
MaySeal (Referring w content found) = ⊥
MaySeal Spent = ⊥

-- a reference of this weight
abbrev pub MayOpen : View → ℕ → Type 0
MayOpen (Referring w content found) k = w ≡ k
MayOpen (Drafting n from count written) k = ⊥
MayOpen (Keeper n looks found) k = ⊥
MayOpen (Giving n looks found) k = ⊥
MayOpen Spent k = ⊥

-- an idle keeper
abbrev pub MayClaim : View → Type 0
MayClaim (Keeper n looks found) = Unit {0}
MayClaim (Giving n looks found) = ⊥
MayClaim (Drafting n from count written) = ⊥
MayClaim (Referring w content found) = ⊥
MayClaim Spent = ⊥

-- a keeper that has claimed the slot
abbrev pub MayGive : View → Type 0
MayGive (Giving n looks found) = Unit {0}
MayGive (Keeper n looks found) = ⊥
MayGive (Drafting n from count written) = ⊥
MayGive (Referring w content found) = ⊥
MayGive Spent = ⊥

-- a draft of the whole slot, or a reference
abbrev pub MayRelease : View → Type 0
MayRelease (Drafting n from count written) = (from ≡ 0) × (count ≡ n)
MayRelease (Referring w content found) = Unit {0}
MayRelease (Keeper n looks found) = ⊥
MayRelease (Giving n looks found) = ⊥
MayRelease Spent = ⊥

-- a reference of a greater weight than this one, which is above 0
abbrev pub MayShare : View → ℕ → Type 0
MayShare (Referring w content found) g = (0 < g) × (g < w)
MayShare (Drafting n from count written) g = ⊥
MayShare (Keeper n looks found) g = ⊥
MayShare (Giving n looks found) g = ⊥
MayShare Spent g = ⊥

-- a draft of which all is written, and a place inside its range
abbrev pub MayCut : View → ℕ → Type 0
MayCut (Drafting n from count written) at = (from < at) × (at < from + count) × (length written ≡ count)
MayCut (Keeper n looks found) at = ⊥
MayCut (Giving n looks found) at = ⊥
MayCut (Referring w content found) at = ⊥
MayCut Spent at = ⊥

-- a draft of which all is written, and whose range begins at this place
abbrev pub IsUpper : View → ℕ → Type 0
IsUpper (Drafting n from count written) at = (from ≡ at) × (length written ≡ count)
IsUpper (Keeper n looks found) at = ⊥
IsUpper (Giving n looks found) at = ⊥
IsUpper (Referring w content found) at = ⊥
IsUpper Spent at = ⊥

-- two drafts of which all is written, and whose ranges follow each other
abbrev pub MayMend : View → View → Type 0
MayMend (Drafting n from count written) u = (length written ≡ count) × IsUpper u (from + count)
MayMend (Keeper n looks found) u = ⊥
MayMend (Giving n looks found) u = ⊥
MayMend (Referring w content found) u = ⊥
MayMend Spent u = ⊥
