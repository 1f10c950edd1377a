use Rattle.std.proofs.Common.{rules, ◌≡◌, ◌≤◌, ◌+◌, ◌-◌, ◌++◌, ℕ, List, length, drop, string_bytes, sym, ◌∙◌, ap, arith}
use Rattle.av_text.specs.Tokens.{IsToken}
use Rattle.std.specs.Str.{IsUtf8}
use Rattle.std.proofs.lemmas.List.{length-append, length-drop}
use Rattle.av_text.specs.Pieces.{BeginsPiece}
use Rattle.av_text.specs.Faults.{IsTokenFault}
use Rattle.av_text.proofs.TokenLemmas.{reads_more, is_row, kept_value, rest_at, rest_from, piece_takes, place_boundary}
use Rattle.av_text.proofs.ReadingLemmas.{one_token, one_fault, not_both, token_short}
use Rattle.av_text.proofs.token.next_token.Goals as goal

begins : (c : goal.In_ok-add-in-Ok-Some) → BeginsPiece c.args.specials.now c.loop-piece.rest.now c.in-Ok-Some.piece c.in-Ok-Some.behind.now
begins c = search rules

pub loop-piece-smaller : goal.loop-piece-smaller
loop-piece-smaller c = piece_takes c.args.specials.now c.in-Ok-Some.piece (begins c)

pub loop-piece-preserved : goal.loop-piece-preserved
loop-piece-preserved c =
    let text : IsUtf8 c.in-Ok-Some.behind.now = search rules in (
      text,
      reads_more c.in-Ok-Some.piece c.in-Ok-Some.behind.now (string_bytes c.add.new.self.text) c.add.new.self.kept c.loop-piece.invariant.1 c.requires.specials (begins c)
          c.in_ok-add-in-Ok-Some.ensures.text c.in_ok-add-in-Ok-Some.ensures.kept,
    )

-- the token that was read
token : (c : goal.After-new-in-Ok-None) → IsToken c.args.specials.now (drop c.args.start c.args.text.now) c.new-in-Ok-None.result c.loop-piece.rest.now
token c =
    let r = c.loop-piece.invariant.1 in
    record {
      row = r.row;
      is_row = is_row (rw c.range_from.ensures.value at c.split_run.ensures.run) r;
      ends = search rules;
      value_is = c.new-in-Ok-None.ensures ∙ (c.truncate.ensures.bytes ∙ kept_value r);
    }

-- the place at which the token ends
token_place : (c : goal.After-new-in-Ok-None) → (front : List ℕ) × (c.args.text.now ≡ front ++ c.loop-piece.rest.now) × (c.args.start ≤ length front)
token_place c = rest_from c.args.start c.range_from.ensures.value (let h = c.range_from.ensures.len in omega arith) c.split_run.ensures.run c.loop-piece.invariant.1

token_rest : (c : goal.After-new-in-Ok-None) → drop (length c.args.text.now - length c.loop-piece.rest.now) c.args.text.now ≡ c.loop-piece.rest.now
token_rest c = let at = token_place c in rest_at c.args.text.now at.0 c.loop-piece.rest.now at.1

pub returns-in-Ok-None-clause-token : goal.returns-in-Ok-None-clause-token
returns-in-Ok-None-clause-token c = rw (token_rest c) (token c)

pub returns-in-Ok-None-clause-place : goal.returns-in-Ok-None-clause-place
returns-in-Ok-None-clause-place c =
    let at = token_place c in (
      omega (arith, at.2, ap length at.1, length-append at.0 c.loop-piece.rest.now),
      place_boundary c.args.text.now c.loop-piece.rest.now (length c.args.text.now - length c.loop-piece.rest.now) c.loop-piece.invariant.0 (omega arith) (token_rest c),
    )

pub returns-in-Ok-None-clause-short : goal.returns-in-Ok-None-clause-short
returns-in-Ok-None-clause-short c = let short = token_short (token c) in omega (arith, length-drop c.args.start c.args.text.now)

pub returns-in-Ok-None-clause-reads : goal.returns-in-Ok-None-clause-reads
returns-in-Ok-None-clause-reads c = λ value rest other.
    let same = one_token c.args.specials.now (drop c.args.start c.args.text.now) c.new-in-Ok-None.result value c.loop-piece.rest.now rest (token c) other in
    (same.0, token_rest c ∙ same.1)

pub returns-in-Ok-None-clause-faulty : goal.returns-in-Ok-None-clause-faulty
returns-in-Ok-None-clause-faulty c = λ kind bad fault.
    not_both c.args.specials.now (drop c.args.start c.args.text.now) c.new-in-Ok-None.result c.loop-piece.rest.now bad kind (token c) fault

-- the fault that was found
fault : (c : goal.After-drop-value-in-Err) → IsTokenFault c.args.specials.now (drop c.args.start c.args.text.now) c.in-Err.kind c.loop-piece.rest.now
fault c =
    let r = c.loop-piece.invariant.1 in
    record { row = r.row; is_row = is_row (rw c.range_from.ensures.value at c.split_run.ensures.run) r; broken = c.in-Err.ensures.broken }

-- the place of the fault
fault_at : (c : goal.After-drop-value-in-Err) → length c.args.text.now - length c.loop-piece.rest.now + length c.loop-piece.rest.now ≡ length c.args.text.now
fault_at c =
    let at = rest_from c.args.start c.range_from.ensures.value (let h = c.range_from.ensures.len in omega arith) c.split_run.ensures.run c.loop-piece.invariant.1 in
    omega (arith, ap length at.1, length-append at.0 c.loop-piece.rest.now)

pub returns-in-Err-clause-reads : goal.returns-in-Err-clause-reads
returns-in-Err-clause-reads c = λ value rest token.
    not_both c.args.specials.now (drop c.args.start c.args.text.now) value rest c.loop-piece.rest.now c.in-Err.kind token (fault c)

pub returns-in-Err-clause-fault : goal.returns-in-Err-clause-fault
returns-in-Err-clause-fault c = (c.loop-piece.rest.now, fault c, fault_at c)

pub returns-in-Err-clause-faulty : goal.returns-in-Err-clause-faulty
returns-in-Err-clause-faulty c = λ kind bad other.
    let same = one_fault c.args.specials.now (drop c.args.start c.args.text.now) c.loop-piece.rest.now bad c.in-Err.kind kind (fault c) other in
    record { kind_is = same.0; at_is = ap (λ (r : List ℕ). length c.args.text.now - length c.loop-piece.rest.now + length r) (sym same.1) ∙ fault_at c }
