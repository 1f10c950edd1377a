-- Fields of a line, one after another.
use Rattle.std.proofs.Common.{◌≡◌, ℕ, List, ◌++◌, append_assoc}

-- three fields after what the line has
pub fields_text : (line a b c d e f : List ℕ) → line ++ a ++ b ++ c ++ d ++ e ++ f ≡ line ++ (a ++ b ++ c ++ d ++ e ++ f)
fields_text line a b c d e f = simp append_assoc
