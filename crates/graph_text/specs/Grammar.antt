-- Filters and their parts (FFmpeg Filters Documentation, "Filtergraph syntax"). White space may be before, between and
-- after all parts.
use Rattle.std.specs.Prelude.{◌≡◌, ◌<◌, ◌+◌, ◌⊎◌, ℕ, List, [], ◌∷◌, Option, Some, None, length}
use Rattle.av_base.specs.declared.containers.Text.{Text}
use Rattle.av_text.specs.Classes.{is_name, is_label, Stops, IsRun}
use Rattle.av_text.specs.Tokens.{IsToken}
use Rattle.av_text.specs.Faults.{IsTokenFault}
use Rattle.av_text.specs.Arguments.{AreArgs, IsArgsFault}
use Rattle.av_text.specs.declared.arguments.Arg.{Arg}
use Rattle.av_text.specs.declared.fault.TextKind.{TextKind}
use Rattle.av_text.specs.declared.fault.TextKind.TheVariants.{ExpectedName, BadLabel}
use Rattle.av_text.specs.Parts.{Skips, Lacks, Either}
use Rattle.graph_text.specs.declared.graph.FilterCall.{FilterCall}

-- ---- labels

-- `[`, one or more letters, digits, `_` and `:`, and `]`
pub record IsLabel (text name rest : List ℕ) : Type 0 where
  pub inside : List ℕ
  pub named : List ℕ
  pub behind : List ℕ
  pub opens : text ≡ 91 ∷ inside
  pub before : Skips inside named
  pub is_name : IsRun is_label named name behind
  pub some : 0 < length name
  pub closes : Skips behind (93 ∷ rest)

-- labels, as many as there are
abbrev pub AreLabels : List ℕ → List Text → List ℕ → Type 0
AreLabels text [] rest = Skips text rest × Lacks 91 rest
AreLabels text (name ∷ names) rest = (label behind : List ℕ) × Skips text label × IsLabel label name behind × AreLabels behind names rest

-- after these labels a `[` begins no label
abbrev pub LabelsFail : List ℕ → List Text → TextKind → List ℕ → Type 0
LabelsFail text [] kind bad = (inside : List ℕ) × Skips text bad × (bad ≡ 91 ∷ inside) × ((name rest : List ℕ) → ¬ IsLabel bad name rest) × (kind ≡ BadLabel)
LabelsFail text (name ∷ names) kind bad = (label behind : List ℕ) × Skips text label × IsLabel label name behind × LabelsFail behind names kind bad

abbrev pub NoLabels : List ℕ → TextKind → List ℕ → Type 0
NoLabels text kind bad = (names : List Text) × LabelsFail text names kind bad

-- ---- names

-- one or more letters, digits and `_`
abbrev pub IsName : List ℕ → Text → List ℕ → Type 0
IsName text name rest = IsRun is_name text name rest × (0 < length name)

abbrev pub NoName : List ℕ → TextKind → List ℕ → Type 0
NoName text kind bad = Stops is_name text × (bad ≡ text) × (kind ≡ ExpectedName)

-- `@` and a name, or nothing
abbrev pub IsInstance : List ℕ → Option Text → List ℕ → Type 0
IsInstance text None rest = Skips text rest × Lacks 64 rest
IsInstance text (Some name) rest = (behind named : List ℕ) × Skips text (64 ∷ behind) × Skips behind named × IsName named name rest

abbrev pub NoInstance : List ℕ → TextKind → List ℕ → Type 0
NoInstance text kind bad = (behind named : List ℕ) × Skips text (64 ∷ behind) × Skips behind named × NoName named kind bad

-- ---- arguments

-- what ends a filter's arguments: `[`, `]`, `,` and `;`
abbrev pub ends : List ℕ
ends = 91 ∷ 93 ∷ 44 ∷ 59 ∷ []

-- `=` and a token, of which the value says the arguments; or nothing, which says none
abbrev pub AreArguments : List ℕ → List Arg → List ℕ → Type 0
AreArguments text args rest = (Skips text rest × Lacks 61 rest × (args ≡ []))
    ⊎ ((behind start token : List ℕ) × Skips text (61 ∷ behind) × Skips behind start × IsToken ends start token rest × AreArgs token args)

-- the token has a fault, or its value has one, which is at the byte where the token begins
abbrev pub NoArguments : List ℕ → TextKind → List ℕ → Type 0
NoArguments text kind bad = (behind start : List ℕ) × Skips text (61 ∷ behind) × Skips behind start
    × (IsTokenFault ends start kind bad ⊎ ((token rest inner : List ℕ) × IsToken ends start token rest × IsArgsFault token kind inner × (bad ≡ start)))

-- ---- filters

-- labels, a name, an instance, arguments and labels
pub record IsFilter (total chain : ℕ) (text : List ℕ) (call : FilterCall) (rest : List ℕ) : Type 0 where
  pub named : List ℕ
  pub unnamed : List ℕ
  pub called : List ℕ
  pub labelled : List ℕ
  pub ins : AreLabels text call.ins named
  pub name : IsName named call.name unnamed
  pub instance : IsInstance unnamed call.instance called
  pub args : AreArguments called call.args labelled
  pub outs : AreLabels labelled call.outs rest
  -- its place is that of its name, in a text of this many bytes
  pub at_is : call.at + length named ≡ total
  pub chain_is : call.chain ≡ chain

abbrev pub NoFilter : List ℕ → TextKind → List ℕ → Type 0
NoFilter = Either AreLabels NoLabels (Either IsName NoName (Either IsInstance NoInstance (Either AreArguments NoArguments NoLabels)))
