-- The faults of a command line, and which of them comes first (this project's own).
use Rattle.std.specs.Prelude.{◌≡◌, ◌<◌, ◌+◌, ◌⊎◌, ℕ, Bool, true, false, List, [], ◌∷◌, Option, Some, None, length, filter, take, drop, IsSome}
use Rattle.std.specs.List.{slice_get}
use Rattle.av_words.specs.declared.command_words.InputWord.{InputWord}
use Rattle.av_words.specs.declared.word_roles.Role.{Role}
use Rattle.av_words.specs.declared.word_roles.Role.TheVariants.{Names, Value, File, Unknown}
use Rattle.av_words.specs.declared.word_roles.Valued.{Valued}
use Rattle.av_words.specs.declared.word_roles.Valued.TheVariants.{Workers, Slices, Order, Input, Generator, Graph, Map}
use Rattle.av_faults.specs.declared.fault.Fault.{Fault}
use Rattle.av_faults.specs.declared.fault.Fault.TheVariants.{UnknownWord, MissingValue, BadNumber, BadEnding, SameName, NoGraph, NoOutput, Limit}
use Rattle.av_faults.specs.declared.fault.LimitKind.TheVariants.{Text, Inputs, Outputs}
use Rattle.av_words.specs.Bounds.{most_inputs, most_outputs, greatest_text}
use Rattle.av_words.specs.WordRoles.{Said}
use Rattle.av_words.specs.WordValues.{media_of, ending_of, IsLabelled, IsCount, SaysOrder, SaysMade}

-- ---- words by their roles

-- the word of this number has this role
abbrev pub IsAt : List Said → ℕ → Role → List ℕ → Type 0
IsAt line n role word = slice_get line n ≡ Some (record { role = role; word = word })

-- one of these words has this role
abbrev pub Has : List Said → Role → List ℕ → Type 0
Has line role word = (n : ℕ) × IsAt line n role word

-- no word of these has this role
abbrev pub Lacks : List Said → Role → Type 0
Lacks line role = (word : List ℕ) → ¬ Has line role word

-- the last word that has this role
pub record IsLast (line : List Said) (role : Role) (at : ℕ) (word : List ℕ) : Type 0 where
  pub here : IsAt line at role word
  pub later : (n : ℕ) (other : List ℕ) → at < n → ¬ IsAt line n role other

-- ---- inputs and outputs

-- the word is a value that names an input
abbrev pub names_input : Role → Bool
names_input (Value Input) = true
names_input (Value Generator) = true
names_input other = false

abbrev pub is_input : Said → Bool
is_input item = names_input item.role

-- the word names an output file
abbrev pub names_output : Role → Bool
names_output File = true
names_output other = false

abbrev pub is_output : Said → Bool
is_output item = names_output item.role

-- ---- labels for output files

-- the value of `-map` that waits for an output file, after a word
abbrev pub map_after : Role → List ℕ → Option (List ℕ) → Option (List ℕ)
map_after (Value Map) word map = Some word
map_after File word map = None
map_after other word map = map

-- the same after words
abbrev pub waiting : Option (List ℕ) → List Said → Option (List ℕ)
waiting map [] = map
waiting map (item ∷ line) = waiting (map_after item.role item.word map) line

-- ---- the faults of a word: by what it is, and by the words before it or after it

-- it is nothing known, it is a second `-map` before one output file, or as a value of `-map` it is no label in brackets
abbrev pub IsUnknown : List Said → Role → List ℕ → Type 0
IsUnknown before Unknown word = Unit {0}
IsUnknown before (Names Map) word = IsSome (waiting None before)
IsUnknown before (Value Map) word = (label : List ℕ) → ¬ IsLabelled word label
IsUnknown before other word = ⊥

-- it is a `-map` without an output file after it, or another option without its value
abbrev pub LacksValue : Role → List Said → Type 0
LacksValue (Names Map) after = Lacks after File
LacksValue (Names option) after = after ≡ []
LacksValue other after = ⊥

-- a value that its option takes; options of names and texts take any
abbrev pub Takes : Valued → List ℕ → Type 0
Takes Workers value = (n : ℕ) × IsCount 0 value n
Takes Slices value = (n : ℕ) × IsCount 1 value n
Takes Order value = (numbers : List ℕ) × SaysOrder value numbers
Takes Generator value = (input : InputWord) × SaysMade value input
Takes other value = Unit {0}

-- it is a value that its option doesn't take
abbrev pub IsBadNumber : Role → List ℕ → Type 0
IsBadNumber (Value option) word = ¬ Takes option word
IsBadNumber other word = ⊥

-- it is the name of a file, with an ending that isn't read, or written
abbrev pub HasBadEnding : Role → List ℕ → Type 0
HasBadEnding (Value Input) word = media_of word ≡ None
HasBadEnding File word = ending_of word ≡ None
HasBadEnding other word = ⊥

-- it names an input as an earlier output, or an output as an earlier file
abbrev pub IsSameName : List Said → Role → List ℕ → Type 0
IsSameName before (Value Input) word = Has before File word
IsSameName before File word = Has before File word ⊎ Has before (Value Input) word
IsSameName before other word = ⊥

-- ---- the faults of a command line

-- something holds for the word of this number, by the words before it and after it
pub record HoldsAt (Fails : List Said → Role → List ℕ → List Said → Type 0) (line : List Said) (n : ℕ) : Type 0 where
  pub role : Role
  pub word : List ℕ
  pub here : IsAt line n role word
  pub fails : Fails (take n line) role word (drop (n + 1) line)

-- the line has this fault; the faults of texts, graphs and hosts aren't faults of words
abbrev pub HasFault : List Said → Fault → Type 0
HasFault line (UnknownWord n) = HoldsAt (λ before role word after. IsUnknown before role word) line n
HasFault line (MissingValue n) = HoldsAt (λ before role word after. LacksValue role after) line n
HasFault line (BadNumber n) = HoldsAt (λ before role word after. IsBadNumber role word) line n
HasFault line (BadEnding n) = HoldsAt (λ before role word after. HasBadEnding role word) line n
HasFault line (SameName n) = HoldsAt (λ before role word after. IsSameName before role word) line n
HasFault line NoGraph = Lacks line (Value Graph)
HasFault line NoOutput = Lacks line File
HasFault line (Limit Inputs which allowed) = (which ≡ 0) × (allowed ≡ most_inputs) × (most_inputs < length (filter is_input line))
HasFault line (Limit Outputs which allowed) = (which ≡ 0) × (allowed ≡ most_outputs) × (most_outputs < length (filter is_output line))
HasFault line (Limit Text which allowed) = (which ≡ 0) × (allowed ≡ greatest_text) × ((at : ℕ) × (text : List ℕ) × IsLast line (Value Graph) at text × (greatest_text < length text))
HasFault line other = ⊥

-- ---- which comes first

-- the word that a fault is at; others come after all words
abbrev pub word_of : Fault → Option ℕ
word_of (UnknownWord n) = Some n
word_of (MissingValue n) = Some n
word_of (BadNumber n) = Some n
word_of (BadEnding n) = Some n
word_of (SameName n) = Some n
word_of other = None

-- the rank of a fault among those of one place
abbrev pub rank_of : Fault → ℕ
rank_of (UnknownWord n) = 0
rank_of (MissingValue n) = 1
rank_of (BadNumber n) = 2
rank_of (BadEnding n) = 3
rank_of (SameName n) = 4
rank_of NoGraph = 5
rank_of NoOutput = 6
rank_of (Limit Inputs which allowed) = 7
rank_of (Limit Outputs which allowed) = 8
rank_of (Limit Text which allowed) = 9
rank_of other = 10

-- the one place comes before the other
abbrev pub IsBefore : Option ℕ → Option ℕ → Type 0
IsBefore (Some n) (Some m) = n < m
IsBefore (Some n) None = Unit {0}
IsBefore None other = ⊥

-- the one fault comes before the other: by its word, and on one word by its rank
abbrev pub Precedes : Fault → Fault → Type 0
Precedes f g = IsBefore (word_of f) (word_of g) ⊎ ((word_of f ≡ word_of g) × (rank_of f < rank_of g))

-- the fault that comes first
pub record IsFirstFault (line : List Said) (fault : Fault) : Type 0 where
  pub has : HasFault line fault
  pub first : (other : Fault) → HasFault line other → ¬ Precedes other fault
