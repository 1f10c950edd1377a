use Rattle.std.proofs.Common.{◌≡◌, ◌<◌, ◌≤◌, ℕ, length, false, refl, arith}
use Rattle.std.specs.Prelude.{slice_index, slice_index_or}
use Rattle.std.specs.Vec.{with_item}
use Rattle.std.proofs.lemmas.Grind.{get_or_default_zero}
use Rattle.std.proofs.lemmas.Option.{slice_get_read}
use Rattle.graph_plan.specs.declared.order.Progress.{Progress}
use Rattle.graph_plan.specs.Arranging.{IsMarked}
use Rattle.graph_plan.proofs.ArrangeLemmas.{has_all, not_all, along_next, added_ready, added_not}
use Rattle.graph_plan.proofs.order.look_at.Goals as goal

pub first_left-place-requires-clause-below : goal.first_left-place-requires-clause-below
first_left-place-requires-clause-below c filter here =
    let givers = c.args.givers.now in
    let done = c.args.progress.now.done.items in
    let row = c.index-givers-filter.result in
    let within : c.args.filter < length givers = (let each = c.requires.along.rows.each in let low = c.requires.low in omega arith) in
    let at = slice_get_read givers (length givers) c.args.filter row refl within c.index-givers-filter.is in
    rw c.deref.ensures.value (c.requires.along.rows.below c.args.filter filter (row, at, rw c.as_slice-row.ensures.value at here))

pub first_left-place-requires-clause-passed : goal.first_left-place-requires-clause-passed
first_left-place-requires-clause-passed c k before low =
    let givers = c.args.givers.now in
    let done = c.args.progress.now.done.items in
    let row = c.index-givers-filter.result in
    let within : c.args.filter < length givers = (let each = c.requires.along.rows.each in let low = c.requires.low in omega arith) in
    let at = slice_get_read givers (length givers) c.args.filter row refl within c.index-givers-filter.is in
    let next = c.args.progress.now.next.items in
    let there : c.args.filter < length next = (let each = c.requires.along.places in let low = c.requires.low in omega arith) in
    let less : k < slice_index next c.args.filter = (let e = c.index.ensures in let zero = get_or_default_zero next c.args.filter c.index.result.now there in omega arith) in
    rw (c.deref.ensures.value, c.as_slice-row.ensures.value) (c.requires.along.passed c.args.filter row k at less (rw c.as_slice-row.ensures.value at low))

pub returns-in_ok-insert : goal.returns-in_ok-insert
returns-in_ok-insert c =
    let givers = c.args.givers.now in
    let done = c.args.progress.now.done.items in
    let row = c.index-givers-filter.result in
    let within : c.args.filter < length givers = (let each = c.requires.along.rows.each in let low = c.requires.low in omega arith) in
    let at = slice_get_read givers (length givers) c.args.filter row refl within c.index-givers-filter.is in
    let place = c.first_left-place.result in
    let passed : (k : ℕ) → k < place → k < length row.items → IsMarked done (slice_index row.items k) = rw (c.as_slice-row.ensures.value, c.deref.ensures.value) at c.first_left-place.ensures.passed in
    let old = c.args.progress.now in
    let new : Progress = record { done = old.done; next = with_item old.next c.args.filter place; ready = c.insert.new.self } in
    let along = along_next givers old new c.args.filter place row c.requires.along c.requires.low at passed refl refl in
    let past : length row.items ≤ place = rw c.as_slice-row.ensures.value at c.if-place-row.true in
    added_ready givers old new c.args.filter along refl c.in_ok-insert.ensures.keys (has_all givers done c.args.filter place row at passed past)

pub returns-else-place-row : goal.returns-else-place-row
returns-else-place-row c =
    let givers = c.args.givers.now in
    let done = c.args.progress.now.done.items in
    let row = c.index-givers-filter.result in
    let within : c.args.filter < length givers = (let each = c.requires.along.rows.each in let low = c.requires.low in omega arith) in
    let at = slice_get_read givers (length givers) c.args.filter row refl within c.index-givers-filter.is in
    let place = c.first_left-place.result in
    let passed : (k : ℕ) → k < place → k < length row.items → IsMarked done (slice_index row.items k) = rw (c.as_slice-row.ensures.value, c.deref.ensures.value) at c.first_left-place.ensures.passed in
    let old = c.args.progress.now in
    let new : Progress = record { done = old.done; next = with_item old.next c.args.filter place; ready = old.ready } in
    let along = along_next givers old new c.args.filter place row c.requires.along c.requires.low at passed refl refl in
    let low : place < length row.items = rw c.as_slice-row.ensures.value at c.if-place-row.false in
    let left : slice_index_or done (slice_index row.items place) false ≡ false = (rw (c.as_slice-row.ensures.value, c.deref.ensures.value) at c.first_left-place.ensures.left) low in
    added_not givers old new c.args.filter along refl refl (not_all givers done c.args.filter place row at low left)
