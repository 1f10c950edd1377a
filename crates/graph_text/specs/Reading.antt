-- Places in a text, and the faults that calls return.
use Rattle.std.specs.Prelude.{◌≡◌, ◌+◌, ◌⊎◌, ℕ, List, [], ◌∷◌, Option, Some, None, length, drop}
use Rattle.av_text.specs.declared.fault.TextFault.{TextFault}
use Rattle.av_text.specs.declared.fault.TextKind.{TextKind}
use Rattle.av_text.specs.Parts.{NoPart}

-- no such part is at a place of the text, and this is the fault
abbrev pub FailsAt : NoPart TextKind → List ℕ → ℕ → TextFault → Type 0
FailsAt F text place f = (bad : List ℕ) × F (drop place text) f.kind bad × (f.at + length bad ≡ length text)

-- what is after a filter of this chain: nothing, or a mark and a filter of the next chain or of the same
abbrev pub IsNext : List ℕ → ℕ → Option ℕ → Type 0
IsNext rest chain None = rest ≡ []
IsNext rest chain (Some next) = (more : List ℕ) × (((rest ≡ 44 ∷ more) × (next ≡ chain)) ⊎ ((rest ≡ 59 ∷ more) × (next ≡ chain + 1)))
