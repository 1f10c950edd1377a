-- What the code keeps of words, and ensures word by word.
use Rattle.std.specs.Prelude.{Option, option_map, MatchOption, ◌≡◌, ◌<◌, ◌↔◌, ℕ, List, Some, IsTrue, None, bytes_eq}
use Rattle.std.specs.Option.{is_some}
use Rattle.std.specs.HashSet.{HashSet, contains_by}
use Rattle.std.specs.Borrow.{Bor}
use Rattle.av_words.specs.declared.word_roles.Role.{Role}
use Rattle.av_words.specs.declared.word_checks.Seen.{Seen}
use Rattle.av_words.specs.declared.word_roles.Role.TheVariants.{Value, File}
use Rattle.av_words.specs.declared.word_roles.Valued.TheVariants.{Input}
use Rattle.av_faults.specs.declared.fault.Fault.{Fault}
use Rattle.av_words.specs.WordRoles.{Said}
use Rattle.av_words.specs.WordValues.{IsLabelled}
use Rattle.av_words.specs.WordFaults.{Has, Lacks, IsLast, waiting, HasFault, word_of, rank_of}

-- a set has the names of those of these words that have this role
abbrev pub Knows : {S : Type 0} → HashSet (Bor (List ℕ)) S → List Said → Role → Type 0
Knows names before role = (name : List ℕ) → IsTrue (contains_by (λ k. bytes_eq name k.now) names) ↔ Has before role name

-- what is known of these words
pub record HasRead (before : List Said) (seen : Seen) : Type 0 where
  pub inputs : Knows seen.inputs before (Value Input)
  pub outputs : Knows seen.outputs before File
  pub waits : seen.waits ≡ is_some (waiting None before)

-- the last word with this role, if any
abbrev pub IsLastOf : List Said → Role → Option ℕ → Type 0
IsLastOf line role last = MatchOption last (Lacks line role) (λ at. (word : List ℕ) × IsLast line role at word)

-- there is no fault at this word
abbrev pub HasNoneAt : List Said → ℕ → Type 0
HasNoneAt line n = (fault : Fault) → word_of fault ≡ Some n → ¬ HasFault line fault

-- there is a fault at this word, and none of a lower rank
pub record IsFirstAt (line : List Said) (n : ℕ) (fault : Fault) : Type 0 where
  pub has : HasFault line fault
  pub word : word_of fault ≡ Some n
  pub first : (other : Fault) → word_of other ≡ Some n → rank_of other < rank_of fault → ¬ HasFault line other

-- a text that is lent, if any
abbrev pub plain : Option (Bor (List ℕ)) → Option (List ℕ)
plain text = option_map (λ t. t.now) text

-- a value of `-map`, if any, names a label
abbrev pub HasLabel : Option (List ℕ) → Type 0
HasLabel None = Unit {0}
HasLabel (Some value) = ¬ ((label : List ℕ) → ¬ IsLabelled value label)
