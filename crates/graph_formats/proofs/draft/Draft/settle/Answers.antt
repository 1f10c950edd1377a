use Rattle.std.proofs.Common.{◌≤◌, arith, ap, refl, Ok}
use Rattle.av_base.specs.declared.formats.Format.TheVariants.{Video}
use Rattle.av_base.specs.declared.formats.PixelFormat.TheVariants.{Gray}
use Rattle.av_base.proofs.FormatSetLemmas.{place_at, place_low}
use Rattle.graph_formats.specs.Demands.{asked_of}
use Rattle.graph_formats.proofs.PartLemmas.{settling_more}
use Rattle.graph_formats.proofs.draft.Draft.settle.Goals as goal

pub formats-init : goal.formats-init
formats-init c = record { settled = c.requires.settled; stays = λ link is. is; bare = c.requires.bare; failed = λ f none. absurd (omega arith) }

pub attempt-requires : goal.attempt-requires
attempt-requires c =
    let is = c.formats.invariant in
    let here = place_at c.formats.format-index (Video Gray) c.formats-test.true in
    ((refl, refl, refl), (is.settled, (c.requires.demands, (c.requires.below, (is.bare, (λ link low. is.stays link (c.requires.lower link low), λ f less. is.failed f (omega arith)))))))

pub returns-then-branch-clause-lower : goal.returns-then-branch-clause-lower
returns-then-branch-clause-lower c link is = c.in_ok-attempt.ensures.lower link (c.formats.invariant.stays link is)

pub formats-preserved : goal.formats-preserved
formats-preserved c =
    let fails = ap Ok c.if-branch.false in
    settling_more (asked_of c.args.demands.now) c.args.root c.args.self.now c.formats.self c.attempt.new.self c.formats.format-index (Video Gray) c.formats-test.true c.formats.invariant
    c.in_ok-attempt.ensures.settled c.in_ok-attempt.ensures.lower (c.in_ok-attempt.ensures.bare fails) (c.in_ok-attempt.ensures.fails fails)

pub returns-clause-settled : goal.returns-clause-settled
returns-clause-settled c = c.formats.invariant.settled

pub returns-clause-lower : goal.returns-clause-lower
returns-clause-lower c = c.formats.invariant.stays

pub returns-clause-fails : goal.returns-clause-fails
returns-clause-fails c same f =
    let low = place_low f in
    let past : 10 ≤ c.formats.format-index = c.formats-test.false in
    c.formats.invariant.failed f (omega arith)
