-- What a call means, at the places where its reading ends.
use Rattle.std.proofs.Common.{◌≡◌, ℕ, Bool, true, false, List, Option, Some, None, Ok, Err, sym, ◌∙◌, subst, ◌⊎◌, inl, inr}
use Rattle.graph_text.specs.declared.graph.FilterCall.{FilterCall}
use Rattle.av_filter.specs.Words.{word_in}
use Rattle.av_frame.specs.declared.refusals.OptionError.{OptionError}
use Rattle.av_frame.specs.declared.refusals.OptionError.TheVariants.{NoMemory, NotYet, UnknownFilter}
use Rattle.node_core.specs.Filters.{frame_filters}
use Rattle.node_core.specs.Kinds.{later_names, Means}
use Rattle.node_core.specs.declared.kind.Kind.{Kind}
use Rattle.node_core.specs.declared.name.Later.{Later}

pub named : (call : FilterCall) (name : List ℕ) (b : Bool) (kind : Kind) → name ≡ call.name → b ≡ frame_filters.contains name → b ≡ true
    → frame_filters.reads name call.args (Ok kind.options) → Means call (Ok kind)
named call name b kind is e t h =
    Means.Filter kind (subst (λ (w : List ℕ). frame_filters.contains w ≡ true) is (sym e ∙ t)) (subst (λ (w : List ℕ). frame_filters.reads w call.args (Ok kind.options)) is h)

pub refused : (call : FilterCall) (name : List ℕ) (b : Bool) (e : OptionError) → name ≡ call.name → b ≡ frame_filters.contains name → b ≡ true
    → (e ≡ NoMemory) ⊎ frame_filters.reads name call.args (Err e) → (e ≡ NoMemory) ⊎ Means call (Err e)
refused call name b e is p t (inl h) = inl h
refused call name b e is p t (inr h) =
    inr (Means.Refused e (subst (λ (w : List ℕ). frame_filters.contains w ≡ true) is (sym p ∙ t)) (subst (λ (w : List ℕ). frame_filters.reads w call.args (Err e)) is h))

pub unbuilt : (call : FilterCall) (name : List ℕ) (b : Bool) (o : Option Later) (l : Later) → name ≡ call.name → b ≡ frame_filters.contains name → b ≡ false
    → o ≡ word_in later_names name → o ≡ Some l → Means call (Err NotYet)
unbuilt call name b o l is p t q r =
    Means.Unbuilt (subst (λ (w : List ℕ). frame_filters.contains w ≡ false) is (sym p ∙ t)) (subst (λ (w : List ℕ). word_in later_names w ≡ Some (record {})) is (sym q ∙ r))

pub unknown : (call : FilterCall) (name : List ℕ) (b : Bool) (o : Option Later) → name ≡ call.name → b ≡ frame_filters.contains name → b ≡ false
    → o ≡ word_in later_names name → o ≡ None → Means call (Err UnknownFilter)
unknown call name b o is p t q r =
    Means.Unknown (subst (λ (w : List ℕ). frame_filters.contains w ≡ false) is (sym p ∙ t)) (subst (λ (w : List ℕ). word_in later_names w ≡ None) is (sym q ∙ r))
