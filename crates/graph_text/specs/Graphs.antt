-- Whole texts of graphs (FFmpeg Filters Documentation, "Filtergraph syntax").
use Rattle.std.specs.Prelude.{◌≡◌, ◌≢◌, ◌+◌, ◌++◌, ◌⊎◌, ℕ, List, [], ◌∷◌, length, codes}
use Rattle.std.specs.List.{Contains}
use Rattle.av_text.specs.declared.fault.TextKind.{TextKind}
use Rattle.av_text.specs.declared.fault.TextKind.TheVariants.{ExpectedName, Stray}
use Rattle.av_text.specs.Parts.{Skips}
use Rattle.graph_text.specs.Grammar.{IsFilter, NoFilter}
use Rattle.graph_text.specs.declared.graph.FilterCall.{FilterCall}

-- a filter, and after it nothing; or a `,` and more of its chain; or a `;` and the next chain
abbrev pub AreCalls : ℕ → ℕ → List ℕ → List FilterCall → Type 0
AreCalls total chain text [] = ⊥
AreCalls total chain text (call ∷ calls) = (rest : List ℕ) × IsFilter total chain text call rest
    × (((rest ≡ []) × (calls ≡ []))
    ⊎ (((more : List ℕ) × (rest ≡ 44 ∷ more) × AreCalls total chain more calls)
    ⊎ ((more : List ℕ) × (rest ≡ 59 ∷ more) × AreCalls total (chain + 1) more calls)))

-- what is there is neither the end nor a `,` nor a `;`
abbrev pub IsStray : List ℕ → Type 0
IsStray [] = ⊥
IsStray (c ∷ rest) = (c ≢ 44) × (c ≢ 59)

-- after these calls comes no filter, or one that is followed by something else
abbrev pub CallsFail : ℕ → ℕ → List ℕ → List FilterCall → TextKind → List ℕ → Type 0
CallsFail total chain text [] kind bad = NoFilter text kind bad
    ⊎ ((call : FilterCall) × IsFilter total chain text call bad × IsStray bad × (kind ≡ Stray))
CallsFail total chain text (call ∷ calls) kind bad = (rest more : List ℕ) × IsFilter total chain text call rest
    × (((rest ≡ 44 ∷ more) × CallsFail total chain more calls kind bad) ⊎ ((rest ≡ 59 ∷ more) × CallsFail total (chain + 1) more calls kind bad))

-- what begins a text that says flags of the scaler
abbrev pub flags_mark : List ℕ
flags_mark = codes "sws_flags="

-- the chains are after the flags and the first `;`, if the text begins with flags
abbrev pub IsBody : List ℕ → List ℕ → Type 0
IsBody text body = ((flags : List ℕ) × Skips text (flags_mark ++ (flags ++ 59 ∷ body)) × ¬ Contains flags 59)
    ⊎ (((rest : List ℕ) → ¬ Skips text (flags_mark ++ rest)) × (body ≡ text))

-- the flags have no end
abbrev pub NoBody : List ℕ → TextKind → List ℕ → Type 0
NoBody text kind bad = (flags : List ℕ) × Skips text (flags_mark ++ flags) × ¬ Contains flags 59 × (bad ≡ []) × (kind ≡ ExpectedName)

-- the text says these calls
abbrev pub IsGraph : List ℕ → List FilterCall → Type 0
IsGraph text calls = (body : List ℕ) × IsBody text body × AreCalls (length text) 0 body calls

-- the text has no reading: the kind of its fault, and the text from its byte on
abbrev pub IsGraphFault : List ℕ → TextKind → List ℕ → Type 0
IsGraphFault text kind bad = NoBody text kind bad
    ⊎ ((body : List ℕ) × (calls : List FilterCall) × IsBody text body × CallsFail (length text) 0 body calls kind bad)
