use Rattle.std.proofs.Common.{rules, arith, inl, refl, sym, ◌∙◌, subst, length, ◌<◌, ℕ}
use Rattle.graph_node.proofs.NodeLemmas.{cores_in, rise_in, step_told, step_same, fit_in, drawn_other, drawn_here}
use Rattle.graph_node.proofs.node.Node.offer_one.Goals as goal

pub returns-then-is_closing-clause-step : goal.returns-then-is_closing-clause-step
returns-then-is_closing-clause-step g c =
    let a = c.args.self.now in
    step_same g.F.Filter.pads g.F.Filter.rest g.F.Filter.closes g.F.Filter.over g.F.Filter.accepts a c.args.input c.index_mut-inlet.result.now c.index_mut-inlet.result.now c.requires.fit c.requires.port c.index_mut-inlet.ensures.value
    refl refl refl (omega arith) refl

pub returns-clause-step : goal.returns-clause-step
returns-clause-step g c =
    let a = c.args.self.now in
    step_told g.F.Filter.pads g.F.Filter.rest g.F.Filter.closes g.F.Filter.over g.F.Filter.accepts a c.feed.new.filter c.args.input c.index_mut-inlet.result.now c.feed.new.inlet c.requires.fit c.requires.port c.index_mut-inlet.ensures.value
    (search rules) c.feed.ensures.told c.feed.ensures.same.id c.feed.ensures.same.grows c.feed.ensures.same.shape

pub returns-clause-fit : goal.returns-clause-fit
returns-clause-fit g c =
    let a = c.args.self.now in
    fit_in g.F.Filter.pads g.F.Filter.rest g.F.Filter.closes g.F.Filter.over g.F.Filter.accepts a c.feed.new.filter c.args.input c.index_mut-inlet.result.now c.feed.new.inlet _ _ c.requires.fit c.requires.port c.index_mut-inlet.ensures.value
    c.feed.ensures.told c.feed.ensures.fit (λ e. inl (sym c.feed.ensures.same.closing_is ∙ e))

pub returns-clause-drawn : goal.returns-clause-drawn
returns-clause-drawn g c j n k =
    drawn_other g.F.Filter.closes c.args.self.now c.feed.new.filter c.args.input c.feed.new.inlet c.feed.ensures.told.closes_stay j n k

pub returns-clause-idle : goal.returns-clause-idle
returns-clause-idle g c e =
    let a = c.args.self.now in
    let lt : c.args.input < length a.ins.items = subst (λ (m : ℕ). c.args.input < m) (sym c.requires.fit.ins_len) c.requires.port in
    drawn_here g.F.Filter.closes a c.feed.new.filter c.args.input c.feed.new.inlet lt (c.feed.ensures.idle e)

pub returns-clause-moved : goal.returns-clause-moved
returns-clause-moved g c e =
    let a = c.args.self.now in
    rise_in a c.feed.new.filter c.args.input c.index_mut-inlet.result.now c.feed.new.inlet c.requires.fit.ins_len c.requires.port c.index_mut-inlet.ensures.value (c.feed.ensures.moved e)

pub returns-clause-still : goal.returns-clause-still
returns-clause-still g c e = cores_in c.args.self.now c.feed.new.filter c.args.input c.index_mut-inlet.result.now c.feed.new.inlet c.index_mut-inlet.ensures.value (c.feed.ensures.still e)

pub returns-then-is_closing-clause-still : goal.returns-then-is_closing-clause-still
returns-then-is_closing-clause-still g c e = cores_in c.args.self.now c.args.self.now.filter c.args.input c.index_mut-inlet.result.now c.index_mut-inlet.result.now c.index_mut-inlet.ensures.value refl
