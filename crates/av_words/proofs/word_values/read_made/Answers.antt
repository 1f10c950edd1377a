use Rattle.std.proofs.Common.{◌≡◌, ◌∙◌, ℕ, List, Bor, map, ap, length, arith}
use Rattle.av_words.proofs.WordValueLemmas.{no_text, made_only}
use Rattle.av_words.proofs.word_values.read_made.Goals as goal

pub returns-in-len4-clause-none : goal.returns-in-len4-clause-none
returns-in-len4-clause-none c none =
    let items = c.as_slice.result.now in
    let lowest = c.in-len4.len_at_least in
    let most = c.in-len4.len_below in
    let four : length items ≡ 4 = omega arith in
    made_only items no_text c.args.text.now four (ap (map (λ (p : Bor (List ℕ)). p.now)) c.as_slice.ensures.value ∙ c.in_ok-pieces.ensures) (c.made_of.ensures.none none)
