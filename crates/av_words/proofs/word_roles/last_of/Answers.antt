use Rattle.std.proofs.Common.{◌∙◌, take, sym, arith}
use Rattle.std.proofs.lemmas.Bool.{false≢true}
use Rattle.std.proofs.lemmas.List.{take_all, length-take, length-map}
use Rattle.av_words.specs.WordRoles.{said_of, line_of}
use Rattle.av_words.proofs.WordCheckLemmas.{no_item, line_more, last_taken, last_kept}
use Rattle.av_words.proofs.word_roles.last_of.Goals as goal
use Rattle.av_words.proofs.word_roles.last_of.Goals.{then-is_same, else-is_same}

pub items-preserved : goal.items-preserved
items-preserved c =
    let line = line_of c.args.items.now in
    let n = c.items.number in
    rw (line_more c.args.items.now n no_item c.items-test.true) (elim c.if-is_same.branch [
      | then-is_same w ↦ rw w.last-is (last_taken (take n line) _ c.args.role n (c.is_same.ensures.0 w.if-is_same.true) (omega (arith, length-take n line, length-map c.args.items.now said_of)))
      | else-is_same w ↦ rw w.last-is (last_kept (take n line) _ c.args.role c.items.last (λ e. false≢true (sym w.if-is_same.false ∙ c.is_same.ensures.1 e)) c.items.invariant)
    ])

pub returns : goal.returns
returns c =
    let line = line_of c.args.items.now in
    rw (take_all c.items.number line (omega (arith, length-map c.args.items.now said_of))) at c.items.invariant
