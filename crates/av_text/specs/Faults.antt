-- Where a text has no reading.
use Rattle.std.specs.Prelude.{◌≡◌, ◌+◌, ℕ, List, [], ◌∷◌, length}
use Rattle.std.specs.List.{Contains}
use Rattle.av_text.specs.Tokens.{Piece, IsRow}
use Rattle.av_text.specs.declared.fault.TextKind.{TextKind}
use Rattle.av_text.specs.declared.fault.TextKind.TheVariants.{UnclosedQuote, LoneEscape, ExpectedName, BadLabel, Stray}
use Rattle.av_text.specs.declared.fault.TextFault.{TextFault}

-- no piece begins here: a `'` without a partner, or a `\` that is the last byte
abbrev pub IsBroken : TextKind → List ℕ → Type 0
IsBroken UnclosedQuote bad = (behind : List ℕ) × (bad ≡ 39 ∷ behind) × ¬ Contains behind 39
IsBroken LoneEscape bad = bad ≡ 92 ∷ []
IsBroken ExpectedName bad = ⊥
IsBroken BadLabel bad = ⊥
IsBroken Stray bad = ⊥

-- no token begins the text: after white space and a row of pieces, what is left is broken
pub record IsTokenFault (specials text : List ℕ) (kind : TextKind) (bad : List ℕ) : Type 0 where
  pub row : List Piece
  pub is_row : IsRow specials text row bad
  pub broken : IsBroken kind bad

-- the fault is of this kind, and `bad` is the text from its byte on
pub record IsFaultAt (text : List ℕ) (kind : TextKind) (bad : List ℕ) (f : TextFault) : Type 0 where
  pub kind_is : f.kind ≡ kind
  pub at_is : f.at + length bad ≡ length text
