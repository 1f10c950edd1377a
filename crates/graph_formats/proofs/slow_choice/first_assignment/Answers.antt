use Rattle.std.proofs.Common.{Bool, List, true, false, subst}
use Rattle.av_base.specs.declared.formats.Format.{Format}
use Rattle.graph_formats.specs.Listings.{Completes}
use Rattle.graph_formats.proofs.ListingLemmas.{first_is_chosen, begins_empty}
use Rattle.graph_formats.proofs.slow_choice.first_assignment.Goals as goal

pub returns-then-branch-clause-first : goal.returns-then-branch-clause-first
returns-then-branch-clause-first c =
    let P : Bool → Type 0 = λ b. Completes c.args.links c.args.wishes.now c.args.relations.now c.new-formats.result.items c.complete.new.formats.items b in
    let Q : List Format → Type 0 = λ l. Completes c.args.links c.args.wishes.now c.args.relations.now l c.complete.new.formats.items true in
    let found = subst Q c.new-formats.ensures.items (subst P c.if-branch.true c.in_ok-complete.ensures) in
    first_is_chosen c.args.links c.args.wishes.now c.args.relations.now c.requires c.complete.new.formats.items found.0 (λ other assigned before. found.2 other assigned (begins_empty other) before)

pub returns-else-branch-clause-none : goal.returns-else-branch-clause-none
returns-else-branch-clause-none c same formats assigned =
    let P : Bool → Type 0 = λ b. Completes c.args.links c.args.wishes.now c.args.relations.now c.new-formats.result.items c.complete.new.formats.items b in
    let Q : List Format → Type 0 = λ l. Completes c.args.links c.args.wishes.now c.args.relations.now l c.complete.new.formats.items false in
    let none = subst Q c.new-formats.ensures.items (subst P c.if-branch.false c.in_ok-complete.ensures) in
    none.1 formats assigned (begins_empty formats)
