use Rattle.std.proofs.Common.{◌∙◌, ℕ, List, Bor, map, ap}
use Rattle.std.proofs.lemmas.Slice.Zip.{all_zipped_more}
use Rattle.std.proofs.lemmas.Option.{none-some}
use Rattle.av_text.specs.Numbers.{IsNumber}
use Rattle.av_words.proofs.WordValueLemmas.{no_text, zip_fails, lent_at, lent_more}
use Rattle.av_words.proofs.word_values.read_order.Goals as goal

pub returns-in_default-clause-none : goal.returns-in_default-clause-none
returns-in_default-clause-none c none numbers order =
    let items = c.as_slice-piece-items.result.now in
    let all = ap (map (λ (p : Bor (List ℕ)). p.now)) c.as_slice-piece-items.ensures.value ∙ c.in_ok-pieces.ensures in
    zip_fails (IsNumber 1 4) _ c.pieces.piece-index _ (lent_at items c.pieces.piece-index no_text c.pieces-test.true) (λ n h. none-some n (c.in_default.ensures.only n h)) numbers (rw (← all) at order)

pub pieces-preserved : goal.pieces-preserved
pieces-preserved c =
    let items = c.as_slice-piece-items.result.now in
    rw (lent_more items c.pieces.piece-index no_text c.pieces-test.true, c.in_ok-push.ensures.items) (all_zipped_more (IsNumber 1 4) _ _ _ _ c.pieces.invariant c.in-Some.ensures.number)
