-- The limits of a command, besides those of its words and of its links.
use Rattle.std.specs.Prelude.{◌^◌, ℕ}

-- the greatest number of filters of a graph
abbrev pub most_filters : ℕ
most_filters = 256

-- the greatest number of bytes of an input
abbrev pub greatest_input : ℕ
greatest_input = 2 ^ 40
