-- A call means one filter or has one fault, and a filter has one outcome, always.
use Rattle.std.proofs.Common.{◌≡◌, ◌≢◌, Bool, true, false, Option, Some, None, Result, Ok, Err, refl, sym, subst}
use Rattle.graph_text.specs.declared.graph.FilterCall.{FilterCall}
use Rattle.av_filter.specs.Words.{word_in}
use Rattle.av_frame.specs.declared.refusals.OptionError.{OptionError}
use Rattle.av_frame.specs.declared.refusals.OptionError.TheVariants.{NoMemory, NotYet, UnknownFilter}
use Rattle.node_core.specs.Filters.{frame_filters}
use Rattle.node_core.specs.FilterLaws.{frame_filter_laws}
use Rattle.node_core.specs.Kinds.{later_names, Means, IsKind, IsKindFault}
use Rattle.node_core.specs.Laws.{FollowsKind, CallsHaveOneMeaning, FiltersHaveOneOutcome}
use Rattle.node_core.specs.declared.kind.Kind.{Kind}
use Rattle.node_core.specs.declared.name.Later.{Later}
use Rattle.node_core.proofs.WishLemmas.{same_formats}

both : {b : Bool} → b ≡ true → b ≡ false → ⊥
both e f = cc

some_none : (o : Option Later) (l : Later) → o ≡ Some l → o ≡ None → ⊥
some_none o l e f = cc

call_some : (call : FilterCall) → (r : Result Kind OptionError) × Means call r
call_some call = by (frame_filters.contains call.name) refl
  where
    read : (r : Result frame_filters.Options OptionError) → frame_filters.contains call.name ≡ true → frame_filters.reads call.name call.args r → (q : Result Kind OptionError) × Means call q
    read (Ok o) e h = (Ok (record { options = o }), Means.Filter (record { options = o }) e h)
    read (Err f) e h = (Err f, Means.Refused f e h)

    other : frame_filters.contains call.name ≡ false → (o : Option Later) → word_in later_names call.name ≡ o → (q : Result Kind OptionError) × Means call q
    other e (Some l) h = (Err NotYet, Means.Unbuilt e h)
    other e None h = (Err UnknownFilter, Means.Unknown e h)

    by : (b : Bool) → frame_filters.contains call.name ≡ b → (r : Result Kind OptionError) × Means call r
    by true e = let reading = (frame_filter_laws.one_reading call.name call.args e).some in read reading.0 e reading.1
    by false e = other e (word_in later_names call.name) refl

one_kind : (call : FilterCall) (a b : Kind) → IsKind call a → IsKind call b → FollowsKind a b
one_kind call a b (Means.Filter k e h) (Means.Filter l f g) =
    let follows = (frame_filter_laws.one_reading call.name call.args e).follows a.options b.options h g in
    let back = (frame_filter_laws.one_reading call.name call.args e).follows b.options a.options g h in
    record { formats = same_formats a b follows.takes back.takes; takes = follows.takes; settles = follows.settles }

apart : (call : FilterCall) (a : Kind) (e : OptionError) → IsKind call a → ¬ IsKindFault call e
apart call a e (Means.Filter k p h) (Means.Refused f q g) = (frame_filter_laws.one_reading call.name call.args p).not_both a.options e h g
apart call a e (Means.Filter k p h) (Means.Unbuilt q g) = both p q
apart call a e (Means.Filter k p h) (Means.Unknown q g) = both p q

one_fault : (call : FilterCall) {e f : OptionError} → IsKindFault call e → IsKindFault call f → e ≡ f
one_fault call (Means.Refused e p h) (Means.Refused f q g) = (frame_filter_laws.one_reading call.name call.args p).one_fault e f h g
one_fault call (Means.Refused e p h) (Means.Unbuilt q g) = absurd (both p q)
one_fault call (Means.Refused e p h) (Means.Unknown q g) = absurd (both p q)
one_fault call (Means.Unbuilt p h) (Means.Refused f q g) = absurd (both q p)
one_fault call (Means.Unbuilt p h) (Means.Unbuilt q g) = refl
one_fault call (Means.Unbuilt p h) (Means.Unknown q g) = absurd (some_none _ _ h g)
one_fault call (Means.Unknown p h) (Means.Refused f q g) = absurd (both q p)
one_fault call (Means.Unknown p h) (Means.Unbuilt q g) = absurd (some_none _ _ g h)
one_fault call (Means.Unknown p h) (Means.Unknown q g) = refl

no_memory : (call : FilterCall) {e : OptionError} → IsKindFault call e → NoMemory ≢ e
no_memory call (Means.Refused e p h) is =
    (frame_filter_laws.one_reading call.name call.args p).no_memory (subst (λ (x : OptionError). frame_filters.reads call.name call.args (Err x)) (sym is) h)
no_memory call (Means.Unbuilt p h) is = cc
no_memory call (Means.Unknown p h) is = cc

pub one_meaning : CallsHaveOneMeaning
one_meaning = record { some = call_some; one = one_kind; not_both = apart; one_fault = λ call e f. one_fault call; no_memory = λ call fault. no_memory call fault refl }

pub one_outcome : FiltersHaveOneOutcome
one_outcome call k s (Means.Filter kind e h) picture takes = frame_filter_laws.one_outcome call.name call.args k.options s h picture takes
