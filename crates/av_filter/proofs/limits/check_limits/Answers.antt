use Rattle.std.proofs.Common.{rules}
use Rattle.av_filter.proofs.LimitLemmas.{too_wide, too_high, too_big}
use Rattle.av_filter.proofs.limits.check_limits.Goals as goal

pub returns-in_err-check_most-clause-large : goal.returns-in_err-check_most-clause-large
returns-in_err-check_most-clause-large c =
    let large = rw c.into.ensures at c.in_err-check_most.ensures.large in
    let fault = too_wide c.args.shape c.args.width c.args.height _ large.0 large.1 in
    search rules

pub returns-in_err-check_most-2-clause-large : goal.returns-in_err-check_most-2-clause-large
returns-in_err-check_most-2-clause-large c =
    let large = rw c.into-2.ensures at c.in_err-check_most-2.ensures.large in
    let fault = too_high c.args.shape c.args.width c.args.height _ (rw c.into.ensures at c.in_ok-check_most.ensures.small) large.0 large.1 in
    search rules

pub returns-clause-large : goal.returns-clause-large
returns-clause-large c = too_big c.args.shape c.args.width c.args.height _ c.check_most-3.result (rw c.into.ensures at c.in_ok-check_most.ensures.small) (rw c.into-2.ensures at c.in_ok-check_most-2.ensures.small) (let bound = c.picture_bytes-bytes.auto in search rules) (let sum = c.picture_bytes-bytes.ensures in search rules) c.check_most-3.ensures.large
