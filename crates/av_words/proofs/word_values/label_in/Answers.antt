use Rattle.std.proofs.Common.{◌≡◌, true, not, bytes_eq, subst, ◌∷◌, ◌++◌, [], List, ℕ, sym, ap, length, arith, lit<}
use lib.Utf8.{encode}
use Rattle.std.proofs.lemmas.Bool.{eqb-true, false≢true}
use Rattle.std.proofs.lemmas.Str.Pattern.{strip_prefix_char}
use Rattle.std.proofs.lemmas.Option.{MatchOption-at_some}
use Rattle.av_words.proofs.WordValueLemmas.{same_label}
use Rattle.av_words.proofs.word_values.label_in.Goals as goal
use Rattle.av_words.proofs.word_values.label_in.Goals.{then-is_empty-via-then-is_empty, then-is_empty-via-else-is_empty+then-ne}

pub returns-in_err-strip_prefix-clause-none : goal.returns-in_err-strip_prefix-clause-none
unfolding encode
returns-in_err-strip_prefix-clause-none c none label h = c.in_err-strip_prefix.ensures.cases (label ++ 93 ∷ []) h.text_is

pub returns-then-is_empty-clause-none : goal.returns-then-is_empty-clause-none
returns-then-is_empty-clause-none c none label h =
    let opens = MatchOption-at_some _ _ c.in_ok-strip_prefix.field-0 c.in_ok-strip_prefix.was (strip_prefix_char 91 c.args.text.now c.strip_prefix.result c.strip_prefix.ensures.cases (lit< tt)) in
    let same = same_label opens h c.split_run.ensures.run in
    elim c.then-is_empty.branch [
      | then-is_empty-via-then-is_empty w ↦ (let empty = eqb-true (length c.split_run.result.0.now) 0 (sym w.if-is_empty.ensures) in let some = h.some in omega (arith, ap length same.0))
      | then-is_empty-via-else-is_empty+then-ne w ↦ (
          let P : List ℕ → Type 0 = λ b. true ≡ not (bytes_eq b (93 ∷ [])) in
          let bad = subst P (sym same.1) w.if-ne.ensures in
          false≢true (sym bad)
          )
    ]
