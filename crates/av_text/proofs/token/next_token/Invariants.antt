use Rattle.std.proofs.Common.{length, string_bytes}
use denote.Text.{Utf8}
use denote.Shadow.{shadow}
use Rattle.av_text.proofs.TokenLemmas.{Reads}
use Rattle.av_text.proofs.token.next_token.Given as goal

abbrev pub invariant-loop-piece : goal.invariant-loop-piece
invariant-loop-piece l = shadow (Utf8 l.rest) × Reads l.specials l.initial.rest l.rest (string_bytes l.value.text) l.value.kept

abbrev pub decreases-loop-piece : goal.decreases-loop-piece
decreases-loop-piece l = length l.rest
