use Rattle.std.proofs.Common.{rules}
use Rattle.av_text.proofs.SlowLemmas.{token_is, fault_is}
use Rattle.av_text.proofs.slow_reader.token_span.Goals as goal

pub returns-clause-token : goal.returns-clause-token
returns-clause-token c = token_is c.lead_len-lead.result c.lead_len-lead.ensures.run c.in_ok-end.ensures.row c.in_ok-end.ensures.ends

pub returns-in_err-end-clause-fault : goal.returns-in_err-end-clause-fault
returns-in_err-end-clause-fault c =
    let fault = fault_is c.lead_len-lead.result c.in_err-end.field-0.0.1 c.lead_len-lead.ensures.run c.in_err-end.ensures.before c.in_err-end.ensures.broken in search rules
