use Rattle.std.proofs.Common.{◌+◌, drop, refl, inl, inr}
use Rattle.av_text.proofs.Places.{byte_at}
use Rattle.graph_text.proofs.graph.chain_after.Goals as goal

pub returns-in-Some-eq44-clause-next : goal.returns-in-Some-eq44-clause-next
returns-in-Some-eq44-clause-next c =
    let read = c.in-Some-eq44.ensures.lookup in (
      drop (c.args.place + 1) c.args.text.now,
      inl (byte_at 44 c.args.text.now c.as_bytes.result.now c.args.place c.in-Some-eq44.field-0.now c.as_bytes.ensures.value read.0 read.1 c.in-Some-eq44.field-0-test, refl),
    )

pub returns-in-Some-eq59-clause-next : goal.returns-in-Some-eq59-clause-next
returns-in-Some-eq59-clause-next c =
    let read = c.in-Some-eq59.ensures.lookup in (
      drop (c.args.place + 1) c.args.text.now,
      inr (byte_at 59 c.args.text.now c.as_bytes.result.now c.args.place c.in-Some-eq59.field-0.now c.as_bytes.ensures.value read.0 read.1 c.in-Some-eq59.field-0-test, refl),
    )
