-- Limits of a command line (this project's own).
use Rattle.std.specs.Prelude.{ℕ}

-- the greatest number of inputs
abbrev pub most_inputs : ℕ
most_inputs = 32

-- the greatest number of output files
abbrev pub most_outputs : ℕ
most_outputs = 32

-- the greatest number of bytes of a graph text
abbrev pub greatest_text : ℕ
greatest_text = 65_536
