-- The search for formats, as contracts inside the crate see it.
use Rattle.std.specs.Prelude.{◌≡◌, ◌≢◌, ◌+◌, ◌⊎◌, ◌↔◌, ◌++◌, ℕ, List, [], ◌∷◌, Bool, true, false, not, Some, length, set, slice_index_or}
use Rattle.std.specs.List.{slice_get, Contains, count_by}
use Rattle.av_base.specs.declared.formats.Format.{Format}
use Rattle.av_base.specs.declared.sets.FormatSet.{FormatSet}
use Rattle.av_base.specs.FormatSets.{Has}
use Rattle.graph_formats.specs.declared.request.Relation.{Relation}
use Rattle.graph_formats.specs.declared.draft.Draft.{Draft}
use Rattle.graph_formats.specs.Assignments.{first_of, second_of, Relates, Meets, IsWished, Joined, FitsPart, HasEarlier}
use Rattle.graph_formats.specs.Demands.{Names, Asked}

-- ---- one relation

-- a relation names a link and another one, with a format that goes with the link's
abbrev pub IsAcross : Relation → ℕ → Format → ℕ → Format → Type 0
IsAcross relation link f other g = ((first_of relation ≡ link) × (second_of relation ≡ other) × Relates relation f g)
    ⊎ ((second_of relation ≡ link) × (first_of relation ≡ other) × Relates relation g f)

-- no listing that meets a relation has the format at a link
abbrev pub IsApart : Relation → ℕ → Format → Type 0
IsApart relation link f = (formats : List Format) → Meets relation formats → slice_get formats link ≢ Some f

-- ---- drafts

-- a link is given its format
abbrev pub IsGiven : Draft → ℕ → Type 0
IsGiven d link = slice_index_or d.given.items link false ≡ true

-- one more link was given its format
pub record HasMore (old new : Draft) (link : ℕ) (f : Format) : Type 0 where
  pub bare : ¬ IsGiven old link
  pub formats : new.formats.items ≡ set old.formats.items link f
  pub given : new.given.items ≡ set old.given.items link true
  pub reached : new.reached.items ≡ old.reached.items ++ link ∷ []

-- whether a link could be given a format: it has it, or it had none, and the set has it
abbrev pub Gave : Draft → Draft → FormatSet → ℕ → Format → Bool → Type 0
Gave old new set link f true = ((new ≡ old) × IsGiven old link × (slice_get old.formats.items link ≡ Some f)) ⊎ (Has set f × HasMore old new link f)
Gave old new set link f false = (new ≡ old) × ((IsGiven old link × (slice_get old.formats.items link ≢ Some f)) ⊎ (¬ IsGiven old link × ¬ Has set f))

-- ---- what is asked

-- the formats that are given are those of the chosen assignment: whole parts have theirs
pub record IsSettled (asked : Asked) (d : Draft) : Type 0 where
  pub each_format : length d.formats.items ≡ asked.links
  pub each_mark : length d.given.items ≡ asked.links
  pub closed : (relation : Relation) → Contains asked.relations relation → IsGiven d (first_of relation) ↔ IsGiven d (second_of relation)
  pub met : (relation : Relation) → Contains asked.relations relation → IsGiven d (first_of relation) → Meets relation d.formats.items
  pub wished : (link : ℕ) (f : Format) → IsGiven d link → slice_get d.formats.items link ≡ Some f → IsWished asked.wishes link f
  pub earliest : (link : ℕ) → IsGiven d link → ¬ HasEarlier asked.links asked.wishes asked.relations d.formats.items link

-- no listing that fits a link's part has the format at the link
abbrev pub IsBarren : Asked → ℕ → Format → Type 0
IsBarren asked link f = (formats : List Format) → FitsPart asked.links asked.wishes asked.relations link formats → slice_get formats link ≢ Some f

-- ---- a walk through a part

-- a walk from the lowest link of a part, with a format there, and the draft before it
pub record Tour : Type 0 where
  pub asked : Asked
  pub root : ℕ
  pub format : Format
  pub start : Draft

-- the walk begins there
abbrev pub Begins : Tour → ℕ → Format → Draft → Type 0
Begins tour root format start = (tour.root ≡ root) × (tour.format ≡ format) × (tour.start ≡ start)

-- each listing that fits the part and has the format at the lowest link has these formats
abbrev pub AreForced : Tour → Draft → ℕ → Type 0
AreForced tour d link = (formats : List Format) → FitsPart tour.asked.links tour.asked.wishes tour.asked.relations tour.root formats
    → slice_get formats tour.root ≡ Some tour.format → slice_get formats link ≡ slice_get d.formats.items link

-- the draft during a walk: of the part, the links that it came to are given the formats that follow
pub record IsWalk (tour : Tour) (d : Draft) : Type 0 where
  pub each_format : length d.formats.items ≡ tour.asked.links
  pub each_mark : length d.given.items ≡ tour.asked.links
  pub apart : (link : ℕ) → Joined tour.asked.relations tour.root link → ¬ IsGiven tour.start link
  pub balance : length d.reached.items + count_by not d.given.items ≡ count_by not tour.start.given.items
  pub kept : (link : ℕ) → IsGiven tour.start link → slice_get d.formats.items link ≡ slice_get tour.start.formats.items link
  pub started : (link : ℕ) → IsGiven tour.start link → IsGiven d link
  pub origin : (link : ℕ) → IsGiven d link → IsGiven tour.start link ⊎ Contains d.reached.items link
  pub given : (link : ℕ) → Contains d.reached.items link → IsGiven d link
  pub joined : (link : ℕ) → Contains d.reached.items link → Joined tour.asked.relations tour.root link
  pub wished : (link : ℕ) (f : Format) → Contains d.reached.items link → slice_get d.formats.items link ≡ Some f → IsWished tour.asked.wishes link f
  pub forced : (link : ℕ) → Contains d.reached.items link → AreForced tour d link

-- the relations of a link are met, and their links are given their formats
pub record IsFollowed (relations : List Relation) (d : Draft) (link : ℕ) : Type 0 where
  pub firsts : (relation : Relation) → Contains relations relation → Names relation link → IsGiven d (first_of relation)
  pub seconds : (relation : Relation) → Contains relations relation → Names relation link → IsGiven d (second_of relation)
  pub met : (relation : Relation) → Contains relations relation → Names relation link → Meets relation d.formats.items

-- what is given stays, and the walk goes on
pub record Extends (old new : Draft) : Type 0 where
  pub given : (link : ℕ) → IsGiven old link → IsGiven new link
  pub formats : (link : ℕ) → IsGiven old link → slice_get new.formats.items link ≡ slice_get old.formats.items link
  pub more : List ℕ
  pub reached : new.reached.items ≡ old.reached.items ++ more

-- the walk came through the whole part
pub record IsWalked (tour : Tour) (d : Draft) : Type 0 where
  pub root : Contains d.reached.items tour.root
  pub format : slice_get d.formats.items tour.root ≡ Some tour.format
  pub followed : (link : ℕ) → Contains d.reached.items link → IsFollowed tour.asked.relations d link

-- these links have no mark, and the others are as before
pub record AreUnmarked (links : List ℕ) (old new : List Bool) : Type 0 where
  pub bare : (link : ℕ) → Contains links link → slice_index_or new link false ≢ true
  pub less : (link : ℕ) → slice_index_or new link false ≡ true → slice_index_or old link false ≡ true
  pub stays : (link : ℕ) → ¬ Contains links link → slice_index_or old link false ≡ true → slice_index_or new link false ≡ true

-- what was given before is given, and no more
pub record IsRestored (old new : Draft) : Type 0 where
  pub each_format : length new.formats.items ≡ length old.formats.items
  pub each_mark : length new.given.items ≡ length old.given.items
  pub given : (link : ℕ) → IsGiven new link ↔ IsGiven old link
  pub formats : (link : ℕ) → IsGiven old link → slice_get new.formats.items link ≡ slice_get old.formats.items link
