use Rattle.std.proofs.Common.{◌≡◌, arith}
use Rattle.std.proofs.lemmas.Bool.{lt-ltb}
use Rattle.y4m_header.proofs.FrontValues.{rate_before, rate_stop_num, rate_stop_den, rate_moves, rate_stays}
use Rattle.y4m_header.proofs.front.rate_goes_on.Goals as goal

pub returns-in_default : goal.returns-in_default
returns-in_default c = rw c.is_some.ensures (rate_before c.args.value.now c.digits.result c.in_default.ensures c.digits.ensures)

pub returns-in_default-number : goal.returns-in_default-number
returns-in_default-number c = rate_stop_num c.in-Some.ensures c.in_default-number.ensures

pub returns-in_default-digits : goal.returns-in_default-digits
returns-in_default-digits c = rate_stop_den c.in-Some.ensures c.in_default-digits.ensures

pub returns-then-num-gt0 : goal.returns-then-num-gt0
returns-then-num-gt0 c =
    rw (lt-ltb 0 c.in-Some-number.num c.if-num-gt0.true) (rate_moves c.in-Some-number.num c.in-Some-digits.den c.in-Some.ensures c.in-Some-number.ensures c.in-Some-digits.ensures c.if-num-gt0.true)

pub returns-else-num-gt0 : goal.returns-else-num-gt0
returns-else-num-gt0 c =
    let none : c.in-Some-number.num ≡ 0 = omega arith in
    rate_stays c.in-Some-number.num c.in-Some-digits.den c.in-Some.ensures c.in-Some-number.ensures c.in-Some-digits.ensures none
