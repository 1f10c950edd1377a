use Rattle.std.proofs.Common.{List, Bool, refl, sym, ◌∙◌, ap, subst, length}
use Rattle.std.proofs.lemmas.List.{with_items_is}
use Rattle.graph_formats.specs.Walks.{AreUnmarked}
use Rattle.graph_formats.proofs.WalkLemmas.{given_within, forgotten}
use Rattle.graph_formats.proofs.draft.Draft.forget.Goals as goal

pub unmark-requires : goal.unmark-requires
unmark-requires g c link reached =
    let low = given_within c.args.self.now link (c.requires.0.given link (rw c.deref.ensures.value at reached)) in
    rw c.deref_mut.ensures.value low

pub returns : goal.returns
returns g c =
    let same = with_items_is c.args.self.now.given c.unmark.new.marks (c.unmark.auto.marks ∙ c.deref_mut.ensures.len) in
    let P : List Bool → Type 0 = λ l. AreUnmarked c.args.self.now.reached.items c.args.self.now.given.items l in
    forgotten g.tour c.args.self.now _ c.requires.0 c.requires.1.0 c.requires.1.1 refl (ap length same ∙ (c.unmark.auto.marks ∙ ap length c.deref_mut.ensures.value))
    (subst P (sym same) (rw (c.deref.ensures.value, c.deref_mut.ensures.value) at c.unmark.ensures))
