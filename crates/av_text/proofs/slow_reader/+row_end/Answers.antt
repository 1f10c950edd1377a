use Rattle.std.proofs.Common.{rules, ◌+◌, ℕ, List, drop}
use Rattle.std.proofs.lemmas.List.{take_rest}
use Rattle.std.proofs.lemmas.Result.{IfOk-weaker, IfErr-weaker}
use Rattle.av_text.specs.SlowRows.{BeginsRow}
use Rattle.av_text.proofs.SlowLemmas.{two_from_test, plain_row, escaped_row, quoted_row}
use Rattle.av_text.proofs.slow_reader.+row_end.Goals as goal

-- the rows that begin at a place
abbrev From : List ℕ → List ℕ → ℕ → List ℕ → Type 0
From specials text place rest = BeginsRow specials (drop place text) rest

escaped : (t : ℕ) (c : goal.After-row_end t) (rest : List ℕ) → From c.args.specials.now c.args.text.now (c.args.place + 2) rest → From c.args.specials.now c.args.text.now c.args.place rest
escaped t c rest r =
    let test = simp take_rest at c.is_empty.ensures in
    let some = two_from_test (drop c.args.place c.args.text.now) c.is_empty.result test c.if-is_empty.false in
    let mark = simp take_rest at c.in-92.is in
    escaped_row c.args.specials.now c.args.text.now c.args.place rest some mark r

quoted : (t : ℕ) (c : goal.After-row_end-in-Some t) (rest : List ℕ) → From c.args.specials.now c.args.text.now (c.args.place + c.in-Some.inner + 2) rest → From c.args.specials.now c.args.text.now c.args.place rest
quoted t c rest r =
    let some = simp take_rest at c.in-len1-up.len_at_least in
    let mark = simp take_rest at c.in-39.is in
    let found = simp take_rest at c.in-Some.ensures.found in
    quoted_row c.args.specials.now c.args.text.now c.args.place c.in-Some.inner rest some mark found.1 found.2 r

plain : (t : ℕ) (c : goal.After-row_end-in_default-2 t) (rest : List ℕ) → From c.args.specials.now c.args.text.now (c.args.place + 1) rest → From c.args.specials.now c.args.text.now c.args.place rest
plain t c rest r =
    let some = simp take_rest at c.in-len1-up.len_at_least in
    let test = simp take_rest at c.is_special.ensures in
    plain_row c.args.specials.now c.args.text.now c.args.place rest some (λ e. search rules, λ e. search rules, λ special. let h = test.1 special in let no = c.if-is_special.false in cc) r

pub returns-in-92-2-clause-row : goal.returns-in-92-2-clause-row
returns-in-92-2-clause-row t c =
    let f = From c.args.specials.now c.args.text.now in
    IfOk-weaker c.row_end.result (λ n. f (c.args.place + 2) (drop n c.args.text.now)) (λ n. f c.args.place (drop n c.args.text.now)) (λ n r. escaped t c (drop n c.args.text.now) r) c.row_end.ensures.row

pub returns-in-92-2-clause-before : goal.returns-in-92-2-clause-before
returns-in-92-2-clause-before t c =
    let f = From c.args.specials.now c.args.text.now in
    IfErr-weaker c.row_end.result (λ n. f (c.args.place + 2) (drop n.0 c.args.text.now)) (λ n. f c.args.place (drop n.0 c.args.text.now)) (λ n r. escaped t c (drop n.0 c.args.text.now) r) c.row_end.ensures.before

pub returns-in-Some-clause-row : goal.returns-in-Some-clause-row
returns-in-Some-clause-row t c =
    let f = From c.args.specials.now c.args.text.now in
    IfOk-weaker c.row_end-in-Some.result (λ n. f (c.args.place + c.in-Some.inner + 2) (drop n c.args.text.now)) (λ n. f c.args.place (drop n c.args.text.now))
    (λ n r. quoted t c (drop n c.args.text.now) r) c.row_end-in-Some.ensures.row

pub returns-in-Some-clause-before : goal.returns-in-Some-clause-before
returns-in-Some-clause-before t c =
    let f = From c.args.specials.now c.args.text.now in
    IfErr-weaker c.row_end-in-Some.result (λ n. f (c.args.place + c.in-Some.inner + 2) (drop n.0 c.args.text.now)) (λ n. f c.args.place (drop n.0 c.args.text.now))
    (λ n r. quoted t c (drop n.0 c.args.text.now) r) c.row_end-in-Some.ensures.before

pub returns-in_default-2-clause-row : goal.returns-in_default-2-clause-row
returns-in_default-2-clause-row t c =
    let f = From c.args.specials.now c.args.text.now in
    IfOk-weaker c.row_end-in_default-2.result (λ n. f (c.args.place + 1) (drop n c.args.text.now)) (λ n. f c.args.place (drop n c.args.text.now))
    (λ n r. plain t c (drop n c.args.text.now) r) c.row_end-in_default-2.ensures.row

pub returns-in_default-2-clause-before : goal.returns-in_default-2-clause-before
returns-in_default-2-clause-before t c =
    let f = From c.args.specials.now c.args.text.now in
    IfErr-weaker c.row_end-in_default-2.result (λ n. f (c.args.place + 1) (drop n.0 c.args.text.now)) (λ n. f c.args.place (drop n.0 c.args.text.now))
    (λ n r. plain t c (drop n.0 c.args.text.now) r) c.row_end-in_default-2.ensures.before
