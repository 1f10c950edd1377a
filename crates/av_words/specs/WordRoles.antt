-- What each word of a command line is (the ffmpeg documentation's options `-i`, `-filter_complex`, `-lavfi`, `-map` and
-- `-y`; the others are this project's own).
use Rattle.std.specs.Prelude.{◌==◌, ◌||◌, ℕ, List, [], ◌∷◌, Option, Some, None, map, bytes_eq, codes, slice_index, if◌then◌else◌}
use Rattle.av_words.specs.declared.word_roles.Item.{Item}
use Rattle.av_words.specs.declared.word_roles.Role.{Role}
use Rattle.av_words.specs.declared.word_roles.Role.TheVariants.{Quiet, Report, Names, Value, File, Unknown}
use Rattle.av_words.specs.declared.word_roles.Valued.{Valued}
use Rattle.av_words.specs.declared.word_roles.Valued.TheVariants.{Workers, Slices, Order, Input, Generator, Graph, Map}

-- a word, and what it is there
pub record Said : Type 0 where
  pub role : Role
  pub word : List ℕ

-- a word that is no flag and no option: what begins with `-` is nothing known, and all else is an output file
abbrev pub other_role : List ℕ → Role
other_role word = if slice_index word 0 == 45 then Unknown else File

-- a word that no option takes as its value
abbrev pub role_of : List ℕ → Role
role_of word =
    if bytes_eq word (codes "-y") then Quiet else
    (if bytes_eq word (codes "-report") then Report else
    (if bytes_eq word (codes "-workers") then Names Workers else
    (if bytes_eq word (codes "-slices") then Names Slices else
    (if bytes_eq word (codes "-order") then Names Order else
    (if bytes_eq word (codes "-i") then Names Input else
    (if bytes_eq word (codes "-g") then Names Generator else
    (if bytes_eq word (codes "-filter_complex") || bytes_eq word (codes "-lavfi") then Names Graph else
    (if bytes_eq word (codes "-map") then Names Map else other_role word))))))))

-- a word after an option that takes it as its value, whatever it looks like, or after none
abbrev pub role_in : Option Valued → List ℕ → Role
role_in (Some option) word = Value option
role_in None word = role_of word

-- the option that takes the next word
abbrev pub taker_of : Role → Option Valued
taker_of (Names option) = Some option
taker_of other = None

-- words after an option that takes the first of them, or after none
abbrev pub said_after : Option Valued → List (List ℕ) → List Said
said_after taker [] = []
said_after taker (word ∷ words) = (record { role = role_in taker word; word = word }) ∷ said_after (taker_of (role_in taker word)) words

-- the words of a command line, and what each is
abbrev pub said : List (List ℕ) → List Said
said words = said_after None words

-- an item that the code keeps, and all of them
abbrev pub said_of : Item → Said
said_of item = record { role = item.role; word = item.word.now }

abbrev pub line_of : List Item → List Said
line_of items = map said_of items
