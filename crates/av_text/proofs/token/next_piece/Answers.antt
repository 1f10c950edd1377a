use Rattle.std.proofs.Common.{rules, ◌≡◌, ◌++◌, arith, refl}
use Rattle.std.specs.Prelude.{encode_utf8}
use Rattle.av_text.proofs.PieceLemmas.{ascii_front, special_ends, piece_begins}
use Rattle.av_text.proofs.token.next_piece.Goals as goal

pub returns-in_ok-escaped-in-92-clause-piece : goal.returns-in_ok-escaped-in-92-clause-piece
returns-in_ok-escaped-in-92-clause-piece c =
    let text = c.args.text.now in
    let begins : text ≡ encode_utf8 c.in-Some.first ++ c.as_str-behind.result.now = cc (c.in-Some.ensures.steps.0) in
    piece_begins c.args.specials.now text c.as_str-behind.result.now c.in_ok-escaped-in-92.field-0.1.now c.in_ok-escaped-in-92.field-0.0 92
    (ascii_front text c.as_str-behind.result.now c.in-Some.first 92 begins c.in-92.is (omega arith)) (c.in_ok-escaped-in-92.ensures.piece c.args.specials.now)

pub returns-in_ok-quoted-in-39-clause-piece : goal.returns-in_ok-quoted-in-39-clause-piece
returns-in_ok-quoted-in-39-clause-piece c =
    let text = c.args.text.now in
    let begins : text ≡ encode_utf8 c.in-Some.first ++ c.as_str-behind.result.now = cc (c.in-Some.ensures.steps.0) in
    piece_begins c.args.specials.now text c.as_str-behind.result.now c.in_ok-quoted-in-39.field-0.1.now c.in_ok-quoted-in-39.field-0.0 39
    (ascii_front text c.as_str-behind.result.now c.in-Some.first 39 begins c.in-39.is (omega arith)) (c.in_ok-quoted-in-39.ensures.piece c.args.specials.now)

pub returns-in_default-first-clause-piece : goal.returns-in_default-first-clause-piece
returns-in_default-first-clause-piece c =
    special_ends c.args.specials.now c.args.text.now c.as_str-behind.result.now c.in-Some.first c.requires (cc (c.in-Some.ensures.steps.0))
    (λ e. search rules) (λ e. search rules) (c.if-is_special.ensures.0 refl)
