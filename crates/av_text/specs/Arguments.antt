-- Arguments of a filter (FFmpeg Filters Documentation, "Filtergraph syntax": `key=value` pairs and values, with `:`
-- between them).
use Rattle.std.specs.Prelude.{◌≡◌, ◌<◌, ◌⊎◌, ℕ, List, [], ◌∷◌, Option, Some, None, length}
use Rattle.av_text.specs.Classes.{is_white, is_name, IsRun}
use Rattle.av_text.specs.Tokens.{IsToken}
use Rattle.av_text.specs.Faults.{IsTokenFault}
use Rattle.av_text.specs.declared.fault.TextKind.{TextKind}
use Rattle.av_text.specs.declared.arguments.Arg.{Arg}

-- the text begins, after white space, with a name, and after more of it with a `=`
pub record BeginsNamed (text name behind : List ℕ) : Type 0 where
  pub lead : List ℕ
  pub gap : List ℕ
  pub named : List ℕ
  pub spaced : List ℕ
  pub lead_is : IsRun is_white text lead named
  pub name_is : IsRun is_name named name spaced
  pub gap_is : IsRun is_white spaced gap (61 ∷ behind)
  pub some : 0 < length name

-- the text has no such beginning
abbrev pub IsUnnamed : List ℕ → Type 0
IsUnnamed text = (name behind : List ℕ) → ¬ BeginsNamed text name behind

-- the text begins with an argument of this name and value, which is a token that ends before a `:`
abbrev pub BeginsArg : List ℕ → Option (List ℕ) → List ℕ → List ℕ → Type 0
BeginsArg text (Some name) value rest = (behind : List ℕ) × BeginsNamed text name behind × IsToken (58 ∷ []) behind value rest
BeginsArg text None value rest = IsUnnamed text × IsToken (58 ∷ []) text value rest

abbrev pub IsArg : List ℕ → Arg → List ℕ → Type 0
IsArg text arg rest = BeginsArg text arg.name arg.value rest

-- the text is these arguments with a `:` between each two; an empty text has none, and a `:` at its end adds none
abbrev pub AreArgs : List ℕ → List Arg → Type 0
AreArgs text [] = text ≡ []
AreArgs text (arg ∷ args) = (0 < length text) × (rest : List ℕ) × IsArg text arg rest
    × (((rest ≡ []) × (args ≡ [])) ⊎ ((more : List ℕ) × (rest ≡ 58 ∷ more) × AreArgs more args))

-- the argument that begins the text has no value
abbrev pub IsArgFault : List ℕ → TextKind → List ℕ → Type 0
IsArgFault text kind bad = ((name behind : List ℕ) × BeginsNamed text name behind × IsTokenFault (58 ∷ []) behind kind bad)
    ⊎ (IsUnnamed text × IsTokenFault (58 ∷ []) text kind bad)

-- the text has no reading: after these arguments comes one without a value
abbrev pub FailsBehind : List ℕ → List Arg → TextKind → List ℕ → Type 0
FailsBehind text [] kind bad = IsArgFault text kind bad
FailsBehind text (arg ∷ args) kind bad = (rest more : List ℕ) × IsArg text arg rest × (rest ≡ 58 ∷ more) × FailsBehind more args kind bad

abbrev pub IsArgsFault : List ℕ → TextKind → List ℕ → Type 0
IsArgsFault text kind bad = (args : List Arg) × FailsBehind text args kind bad
