-- Wishes and relations by link, as contracts inside the crate see them.
use Rattle.std.specs.Prelude.{◌≡◌, ◌<◌, ◌⊎◌, ◌↔◌, ◌++◌, ℕ, List, [], ◌∷◌, Option, Some, None, length, map, suc, slice_index_or, set}
use Rattle.std.specs.List.{slice_get, Contains}
use Rattle.av_base.specs.declared.formats.Format.{Format}
use Rattle.av_base.specs.declared.sets.FormatSet.{FormatSet}
use Rattle.av_base.specs.FormatSets.{Has}
use Rattle.graph_formats.specs.declared.request.Relation.{Relation}
use Rattle.graph_formats.specs.declared.request.Wish.{Wish}
use Rattle.graph_formats.specs.declared.ties.Tie.{Tie}
use Rattle.graph_formats.specs.declared.ties.Ties.{Ties}
use Rattle.graph_formats.specs.declared.demands.Demands.{Demands}
use Rattle.graph_formats.specs.Assignments.{first_of, second_of, IsWished, AreRelationsBelow}

-- ---- wishes

-- each link has the set of the formats that lie in every wish for it
pub record AreNarrowed (links : ℕ) (wishes : List Wish) (sets : List FormatSet) : Type 0 where
  pub each : length sets ≡ links
  pub exact : (link : ℕ) (set : FormatSet) (f : Format) → slice_get sets link ≡ Some set → Has set f ↔ IsWished wishes link f

-- ---- relations

-- a relation names a link
abbrev pub Names : Relation → ℕ → Type 0
Names relation link = (first_of relation ≡ link) ⊎ (second_of relation ≡ link)

-- a place is in the list that begins at a place, if it begins
pub data IsListed (ties : List Tie) : Option ℕ → ℕ → Type 0 where
  Here : (place : ℕ) → IsListed ties (Some place) place
  After : (place found : ℕ) (tie : Tie) → slice_get ties place ≡ Some tie → IsListed ties tie.next found → IsListed ties (Some place) found

-- the place where the list of a link begins
abbrev pub head_of : Ties → ℕ → Option ℕ
head_of all link = slice_index_or all.heads.items link None

-- the list of a link has a relation
pub record HasTie (all : Ties) (link : ℕ) (relation : Relation) : Type 0 where
  pub place : ℕ
  pub listed : IsListed all.ties.items (head_of all link) place
  pub tie : Tie
  pub is_tie : slice_get all.ties.items place ≡ Some tie
  pub is_relation : tie.relation ≡ relation

-- the lists of all links have the relations that belong to them and no others, and go on to lower places
pub record AreLists (links : ℕ) (Belongs : ℕ → Relation → Type 0) (all : Ties) : Type 0 where
  pub each : length all.heads.items ≡ links
  pub listed : (link : ℕ) (relation : Relation) → Belongs link relation → HasTie all link relation
  pub only : (link : ℕ) (relation : Relation) → HasTie all link relation → Belongs link relation
  pub source : (place : ℕ) (tie : Tie) → slice_get all.ties.items place ≡ Some tie → (link : ℕ) × Belongs link tie.relation
  pub begins : (link place : ℕ) → head_of all link ≡ Some place → place < length all.ties.items
  pub falls : (place next : ℕ) (tie : Tie) → slice_get all.ties.items place ≡ Some tie → tie.next ≡ Some next → next < place

-- the list of each link has the relations that name it
abbrev pub AreTied : ℕ → List Relation → Ties → Type 0
AreTied links relations all = AreLists links (λ link relation. Contains relations relation × Names relation link) all

-- a relation was put before those of a link
pub record IsTied (old new : Ties) (link : ℕ) (relation : Relation) : Type 0 where
  pub ties : new.ties.items ≡ old.ties.items ++ record { relation = relation; next = head_of old link } ∷ []
  pub heads : new.heads.items ≡ set old.heads.items link (Some (length old.ties.items))

-- a relation was put into the lists of both of its links
abbrev pub AreBothTied : Ties → Ties → Relation → Type 0
AreBothTied old new relation = (between : Ties) × IsTied old between (first_of relation) relation × IsTied between new (second_of relation) relation

-- ---- both

-- what is asked: the number of links, the wishes and the relations
pub record Asked : Type 0 where
  pub links : ℕ
  pub wishes : List Wish
  pub relations : List Relation

-- demands are what is asked, by link
pub record AreDemands (asked : Asked) (demands : Demands) : Type 0 where
  pub below : AreRelationsBelow asked.links asked.relations
  pub sets : AreNarrowed asked.links asked.wishes demands.sets.items
  pub ties : AreTied asked.links asked.relations demands.ties

-- a wish for each link, from a link on
abbrev pub wishes_from : ℕ → List FormatSet → List Wish
wishes_from link [] = []
wishes_from link (set ∷ sets) = record { link = link; set = set } ∷ wishes_from (suc link) sets

-- what demands ask: for each link its set, and each relation of a list
unfoldable pub asked_of : Demands → Asked
asked_of demands = record {
  links = length demands.sets.items;
  wishes = wishes_from 0 demands.sets.items;
  relations = map (λ (tie : Tie). tie.relation) demands.ties.ties.items;
}
