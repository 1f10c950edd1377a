-- The lines of a report (this project's own).
use Rattle.std.specs.Prelude.{ℕ, List, [], ◌∷◌, ◌++◌, codes}
use Rattle.std.specs.Fmt.{decimal}

-- an input, and how many frames it gave
abbrev pub input_line : ℕ → ℕ → List ℕ
input_line input frames = codes "in " ++ decimal input ++ codes " frames " ++ decimal frames ++ 10 ∷ []

-- an output, how many frames were written to it, and its length in bytes
abbrev pub output_line : ℕ → ℕ → ℕ → List ℕ
output_line output frames bytes = codes "out " ++ decimal output ++ codes " frames " ++ decimal frames ++ codes " bytes " ++ decimal bytes ++ 10 ∷ []
