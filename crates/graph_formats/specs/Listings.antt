-- Listings of formats, as the plain choice of the tests sees them.
use Rattle.std.specs.Prelude.{◌≡◌, ◌<◌, ◌++◌, ℕ, List, Bool, true, false, Some}
use Rattle.std.specs.List.{slice_get}
use Rattle.av_base.specs.declared.formats.Format.{Format}
use Rattle.av_base.specs.FormatSets.{Precedes}
use Rattle.graph_formats.specs.declared.request.Relation.{Relation}
use Rattle.graph_formats.specs.declared.request.Wish.{Wish}
use Rattle.graph_formats.specs.Assignments.{IsWished, IsAssignment}

-- the format of each link lies in every wish for it
abbrev pub AreWished : List Wish → List Format → Type 0
AreWished wishes formats = (link : ℕ) (f : Format) → slice_get formats link ≡ Some f → IsWished wishes link f

-- the one listing comes before the other: at the first difference its format comes before the other's
pub record IsBefore (one other : List Format) : Type 0 where
  pub place : ℕ
  pub agrees : (lower : ℕ) → lower < place → slice_get one lower ≡ slice_get other lower
  pub earlier : Format
  pub is_earlier : slice_get one place ≡ Some earlier
  pub later : Format
  pub is_later : slice_get other place ≡ Some later
  pub precedes : Precedes earlier later

-- a listing begins with another
abbrev pub BeginsWith : List Format → List Format → Type 0
BeginsWith start formats = (rest : List Format) × (formats ≡ start ++ rest)

-- a listing was completed to the first assignment that begins with it, or no assignment does
abbrev pub Completes : ℕ → List Wish → List Relation → List Format → List Format → Bool → Type 0
Completes links wishes relations old new true = IsAssignment links wishes relations new × BeginsWith old new
    × ((other : List Format) → IsAssignment links wishes relations other → BeginsWith old other → ¬ IsBefore other new)
Completes links wishes relations old new false = (new ≡ old) × ((other : List Format) → IsAssignment links wishes relations other → ¬ BeginsWith old other)
