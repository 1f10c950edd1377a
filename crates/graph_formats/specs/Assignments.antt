-- Which formats the links of a plan can have together, and which of these are chosen.
use Rattle.std.specs.Prelude.{◌≡◌, ◌<◌, ◌≤◌, ◌⊎◌, ℕ, List, Option, Some, None, Result, Ok, Err, length}
use Rattle.std.specs.List.{slice_get, Contains}
use Rattle.av_base.specs.declared.formats.PixelFormat.TheVariants.{Yuv420p, Yuv422p, Yuv444p, Yuva420p, Yuva422p, Yuva444p}
use Rattle.av_base.specs.declared.formats.Format.{Format}
use Rattle.av_base.specs.declared.formats.Format.TheVariants.{Video}
use Rattle.av_base.specs.declared.sets.FormatSet.{FormatSet}
use Rattle.av_base.specs.FormatSets.{Has, Precedes}
use Rattle.graph_formats.specs.declared.request.Relation.{Relation}
use Rattle.graph_formats.specs.declared.request.Relation.TheVariants.{Same, WithAlpha}
use Rattle.graph_formats.specs.declared.request.Wish.{Wish}
use Rattle.graph_formats.specs.declared.request.FormatError.{FormatError}
use Rattle.graph_formats.specs.declared.request.FormatError.TheVariants.{NoCommonFormat, NoMemory}

-- ---- what is asked of formats

-- the two links that a relation names
abbrev pub first_of : Relation → ℕ
first_of (Same a b) = a
first_of (WithAlpha plain alpha) = plain

abbrev pub second_of : Relation → ℕ
second_of (Same a b) = b
second_of (WithAlpha plain alpha) = alpha

-- the format with the planes of this one and an alpha plane
abbrev pub with_alpha_of : Format → Option Format
with_alpha_of (Video Yuv420p) = Some (Video Yuva420p)
with_alpha_of (Video Yuv422p) = Some (Video Yuva422p)
with_alpha_of (Video Yuv444p) = Some (Video Yuva444p)
with_alpha_of f = None

-- the formats of a relation's two links meet it
abbrev pub Relates : Relation → Format → Format → Type 0
Relates (Same a b) f g = f ≡ g
Relates (WithAlpha plain alpha) f g = with_alpha_of f ≡ Some g

-- a listing has formats for the two links of a relation, and the relation holds of them
pub record Meets (relation : Relation) (formats : List Format) : Type 0 where
  pub first : Format
  pub is_first : slice_get formats (first_of relation) ≡ Some first
  pub second : Format
  pub is_second : slice_get formats (second_of relation) ≡ Some second
  pub relates : Relates relation first second

-- a format lies in every wish for a link
abbrev pub IsWished : List Wish → ℕ → Format → Type 0
IsWished wishes link f = (set : FormatSet) → Contains wishes (record { link = link; set = set }) → Has set f

-- every link that a wish names is below the number of links
abbrev pub AreWishesBelow : ℕ → List Wish → Type 0
AreWishesBelow links wishes = (wish : Wish) → Contains wishes wish → wish.link < links

-- every link that a relation names is below the number of links
abbrev pub AreRelationsBelow : ℕ → List Relation → Type 0
AreRelationsBelow links relations = (relation : Relation) → Contains relations relation → (first_of relation < links) × (second_of relation < links)

-- every link that a wish or a relation names is below the number of links
pub record AreBelow (links : ℕ) (wishes : List Wish) (relations : List Relation) : Type 0 where
  pub wishes_below : AreWishesBelow links wishes
  pub relations_below : AreRelationsBelow links relations

-- ---- assignments

-- a format for each link, in every wish for that link, which meet each relation
pub record IsAssignment (links : ℕ) (wishes : List Wish) (relations : List Relation) (formats : List Format) : Type 0 where
  pub each : length formats ≡ links
  pub wished : (link : ℕ) (f : Format) → slice_get formats link ≡ Some f → IsWished wishes link f
  pub met : (relation : Relation) → Contains relations relation → Meets relation formats

-- ---- parts

-- a chain of relations joins two links
pub data Joined (relations : List Relation) : ℕ → ℕ → Type 0 where
  Itself : (a : ℕ) → Joined relations a a
  Named : (relation : Relation) → Contains relations relation → Joined relations (first_of relation) (second_of relation)
  Back : (a b : ℕ) → Joined relations a b → Joined relations b a
  Through : (a b c : ℕ) → Joined relations a b → Joined relations b c → Joined relations a c

-- the link is the lowest of its part
abbrev pub IsRoot : List Relation → ℕ → Type 0
IsRoot relations link = (other : ℕ) → Joined relations link other → link ≤ other

-- a listing of formats for all links is as asked at the part of one link
pub record FitsPart (links : ℕ) (wishes : List Wish) (relations : List Relation) (link : ℕ) (formats : List Format) : Type 0 where
  pub each : length formats ≡ links
  pub wished : (other : ℕ) (f : Format) → Joined relations link other → slice_get formats other ≡ Some f → IsWished wishes other f
  pub met : (relation : Relation) → Contains relations relation → Joined relations link (first_of relation) → Meets relation formats

-- ---- the chosen assignment

-- another listing fits the link's part, has the same formats at the part's links before it, and an earlier one at the link
pub record HasEarlier (links : ℕ) (wishes : List Wish) (relations : List Relation) (formats : List Format) (link : ℕ) : Type 0 where
  pub other : List Format
  pub fits : FitsPart links wishes relations link other
  pub agrees : (before : ℕ) → before < link → Joined relations link before → slice_get other before ≡ slice_get formats before
  pub here : Format
  pub is_here : slice_get formats link ≡ Some here
  pub earlier : Format
  pub is_earlier : slice_get other link ≡ Some earlier
  pub precedes : Precedes earlier here

-- the assignment that is the first in each part, compared link by link from the part's lowest link on
pub record IsChosen (links : ℕ) (wishes : List Wish) (relations : List Relation) (formats : List Format) : Type 0 where
  pub assignment : IsAssignment links wishes relations formats
  pub earliest : (link : ℕ) → ¬ HasEarlier links wishes relations formats link

-- ---- the fault

-- the link is the lowest of a part that nothing fits
pub record HasNone (links : ℕ) (wishes : List Wish) (relations : List Relation) (link : ℕ) : Type 0 where
  pub below : link < links
  pub root : IsRoot relations link
  pub none : (formats : List Format) → ¬ FitsPart links wishes relations link formats

-- the lowest link of the first such part
pub record IsFirstWithout (links : ℕ) (wishes : List Wish) (relations : List Relation) (link : ℕ) : Type 0 where
  pub without : HasNone links wishes relations link
  pub first : (other : ℕ) → other < link → ¬ HasNone links wishes relations other

-- ---- what a call returns

-- a fault, if one was returned
abbrev pub IfFault : {X : Type 0} → Result X FormatError → (ℕ → Type 0) → Type 0
IfFault (Ok x) P = Unit {0}
IfFault (Err (NoCommonFormat link)) P = P link
IfFault (Err NoMemory) P = Unit {0}

-- these formats, or out of memory
abbrev pub Gives : List Format → Result (List Format) FormatError → Type 0
Gives formats (Ok given) = given ≡ formats
Gives formats (Err (NoCommonFormat link)) = ⊥
Gives formats (Err NoMemory) = Unit {0}

-- the fault at this link, or out of memory
abbrev pub Refuses : {X : Type 0} → ℕ → Result X FormatError → Type 0
Refuses link (Ok given) = ⊥
Refuses link (Err (NoCommonFormat named)) = named ≡ link
Refuses link (Err NoMemory) = Unit {0}

-- ---- the law

-- there is exactly one chosen assignment or exactly one fault, and no assignment if there is a fault
pub record FormatsAreChosenInOneWay : Type 0 where
  pub one_assignment : (links : ℕ) (wishes : List Wish) (relations : List Relation) (a b : List Format)
      → IsChosen links wishes relations a → IsChosen links wishes relations b → a ≡ b
  pub one_fault : (links : ℕ) (wishes : List Wish) (relations : List Relation) (a b : ℕ)
      → IsFirstWithout links wishes relations a → IsFirstWithout links wishes relations b → a ≡ b
  pub not_both : (links : ℕ) (wishes : List Wish) (relations : List Relation) (formats : List Format) (link : ℕ)
      → IsAssignment links wishes relations formats → IsFirstWithout links wishes relations link → ⊥
  pub one_of_both : (links : ℕ) (wishes : List Wish) (relations : List Relation) → AreBelow links wishes relations
      → ((formats : List Format) × IsChosen links wishes relations formats) ⊎ ((link : ℕ) × IsFirstWithout links wishes relations link)
