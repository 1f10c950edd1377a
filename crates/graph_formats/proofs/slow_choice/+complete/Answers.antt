use Rattle.std.proofs.Common.{◌<◌, ◌≡◌, ◌++◌, ◌∷◌, [], List, Bool, true, false, length, get_or, arith, ap, ◌∙◌, subst}
use Rattle.av_base.specs.declared.sets.TheConstants.{FORMATS}
use Rattle.av_base.specs.declared.formats.PixelFormat.TheVariants.{Gray}
use Rattle.av_base.specs.declared.formats.Format.{Format}
use Rattle.av_base.specs.declared.formats.Format.TheVariants.{Video}
use Rattle.graph_formats.specs.Listings.{Completes}
use Rattle.graph_formats.proofs.ListingLemmas.{completing_found, completing_more, completing_none, taken_off}
use Rattle.graph_formats.proofs.slow_choice.+complete.Goals as goal

pub returns-then-branch : goal.returns-then-branch
returns-then-branch t c =
    let format : Format = get_or FORMATS c.formats.format-index (Video Gray) in
    let begun : c.push.new.self.items ≡ c.args.formats.now.items ++ format ∷ [] = c.in_ok-push.ensures.items ∙ ap (λ (l : List Format). l ++ format ∷ []) c.formats.invariant.same in
    let room : length c.args.formats.now.items < c.args.links = (let apart = c.if-len-links.false in let len = c.len.ensures in let most = c.requires.room in omega (arith, c.args.formats.now.ok)) in
    let P : Bool → Type 0 = λ b. Completes c.args.links c.args.wishes.now c.args.relations.now c.push.new.self.items c.complete.new.formats.items b in
    let Q : List Format → Type 0 = λ l. Completes c.args.links c.args.wishes.now c.args.relations.now l c.complete.new.formats.items true in
    completing_found c.args.links c.args.wishes.now c.args.relations.now c.args.formats.now.items c.formats.formats.items c.complete.new.formats.items c.formats.format-index (Video Gray)
    c.formats-test.true room c.formats.invariant (subst Q begun (subst P c.if-branch.true c.in_ok-complete.ensures))

pub formats-preserved : goal.formats-preserved
formats-preserved t c =
    let format : Format = get_or FORMATS c.formats.format-index (Video Gray) in
    let begun : c.push.new.self.items ≡ c.args.formats.now.items ++ format ∷ [] = c.in_ok-push.ensures.items ∙ ap (λ (l : List Format). l ++ format ∷ []) c.formats.invariant.same in
    let P : Bool → Type 0 = λ b. Completes c.args.links c.args.wishes.now c.args.relations.now c.push.new.self.items c.complete.new.formats.items b in
    let Q : List Format → Type 0 = λ l. Completes c.args.links c.args.wishes.now c.args.relations.now l c.complete.new.formats.items false in
    let none : Completes c.args.links c.args.wishes.now c.args.relations.now (c.args.formats.now.items ++ format ∷ []) c.complete.new.formats.items false = subst Q begun (subst P c.if-branch.false c.in_ok-complete.ensures) in
    let left = taken_off c.args.formats.now.items c.complete.new.formats.items c.pop.new.self.items format _ none.0 c.complete.new.formats.ok.0 c.pop.ensures.rest in
    completing_more c.args.links c.args.wishes.now c.args.relations.now c.args.formats.now.items c.formats.formats.items c.pop.new.self.items c.formats.format-index (Video Gray)
    c.formats-test.true c.formats.invariant left none.1

pub returns : goal.returns
returns t c =
    let room : length c.args.formats.now.items < c.args.links = (let apart = c.if-len-links.false in let len = c.len.ensures in let most = c.requires.room in omega (arith, c.args.formats.now.ok)) in
    completing_none c.args.links c.args.wishes.now c.args.relations.now c.args.formats.now.items c.formats.formats.items c.formats.format-index c.formats-test.false room c.formats.invariant
