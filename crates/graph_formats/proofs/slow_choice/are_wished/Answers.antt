use Rattle.std.proofs.Common.{◌++◌, List, [], ◌∷◌, arith, take, get_or, refl, sym, subst}
use Rattle.std.proofs.lemmas.List.{take_more, take_all}
use Rattle.std.proofs.lemmas.List.Elements.{Contains-get_or}
use Rattle.std.proofs.lemmas.Option.{slice_get-get_or}
use Rattle.av_base.specs.declared.formats.PixelFormat.TheVariants.{Gray}
use Rattle.av_base.specs.declared.formats.Format.TheVariants.{Video}
use Rattle.graph_formats.specs.declared.request.Wish.{Wish}
use Rattle.graph_formats.specs.Listings.{AreWished}
use Rattle.graph_formats.proofs.DemandLemmas.{no_wish}
use Rattle.graph_formats.proofs.ListingLemmas.{wished_refused, wished_more}
use Rattle.graph_formats.proofs.slow_choice.are_wished.Goals as goal

pub bounds-formats-wish : goal.bounds-formats-wish
bounds-formats-wish c = c.requires (get_or c.args.wishes.now c.wishes.wish-index no_wish) (Contains-get_or c.args.wishes.now c.wishes.wish-index no_wish (omega arith))

pub returns-then-not-has : goal.returns-then-not-has
returns-then-not-has c = (
  λ yes. absurd (cc),
  λ all. absurd (
      let wish : Wish = get_or c.args.wishes.now c.wishes.wish-index no_wish in
      let here = Contains-get_or c.args.wishes.now c.wishes.wish-index no_wish (omega arith) in
      let at = slice_get-get_or c.args.formats.now wish.link (Video Gray) (c.requires wish here) in
      wished_refused c.args.wishes.now wish c.args.formats.now _ here at (λ has. let yes = c.has.ensures.1 has in let no = c.if-not-has.true in cc) all
      ),
)

pub wishes-preserved : goal.wishes-preserved
wishes-preserved c =
    let wish : Wish = get_or c.args.wishes.now c.wishes.wish-index no_wish in
    let here = Contains-get_or c.args.wishes.now c.wishes.wish-index no_wish (omega arith) in
    let at = slice_get-get_or c.args.formats.now wish.link (Video Gray) (c.requires wish here) in
    let all : AreWished (take c.wishes.wish-index c.args.wishes.now ++ wish ∷ []) c.args.formats.now = wished_more (take c.wishes.wish-index c.args.wishes.now) wish c.args.formats.now _ c.wishes.invariant at (c.has.ensures.0 c.if-not-has.false) in
    let P : List Wish → Type 0 = λ l. AreWished l c.args.formats.now in
    subst P (sym (take_more c.args.wishes.now c.wishes.wish-index no_wish (omega arith))) all

pub returns : goal.returns
returns c = (λ yes. rw (take_all c.wishes.wish-index c.args.wishes.now (omega arith)) at c.wishes.invariant, λ all. refl)
