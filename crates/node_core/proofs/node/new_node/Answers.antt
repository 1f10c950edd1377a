use Rattle.std.specs.Prelude.{slice_get}
use Rattle.std.proofs.Common.{◌≡◌, ◌<◌, ℕ, List, [], ◌∷◌, Some, length, ap, subst, sym, ◌∙◌, arith}
use Rattle.std.proofs.lemmas.Option.{same_Some, slice_get_within}
use Rattle.std.proofs.lemmas.Result.{IfOk-weaker}
use Rattle.av_base.specs.declared.shapes.Shape.{Shape}
use Rattle.av_frame.specs.FilterLaws.{IsNew, one_to}
use Rattle.av_frame.specs.Rules.{each_rule}
use Rattle.graph_node.specs.Nodes.{IsNewNode}
use Rattle.node_core.specs.Shaping.{ReadyValue, made_by}
use Rattle.node_core.specs.declared.instance.Instance.{Instance}
use Rattle.node_core.specs.contracts.instance.InstanceFilter.TheImpl.{pads-value, rest-value, accepts-value}
use Rattle.node_core.proofs.node.new_node.Goals as goal

only_one : {X : Type 0} (s t : X) (xs : List X) (i : ℕ) → xs ≡ s ∷ [] → slice_get xs i ≡ Some t → (i < 1) × (t ≡ s)
only_one s t xs i e got =
    let it = subst (λ l. slice_get l i ≡ Some t) e got in
    let low = slice_get_within (s ∷ []) i t it in
    let first : i ≡ 0 = omega (arith, low) in
    (low, sym (same_Some s t (subst (λ (k : ℕ). slice_get (s ∷ []) k ≡ Some t) first it)))

abbrev IsNewFilter : ReadyValue → Shape → Shape → Instance → Type 0
IsNewFilter ready s out f = IsNew (pads-value.it f) (rest-value.it f) (accepts-value.it f) (one_to 1) (each_rule (λ _. made_by ready)) (λ _. s) (λ _. out)

pub new-requires-clause-inputs : goal.new-requires-clause-inputs
new-requires-clause-inputs c =
    let long = ap length c.ins-2.ensures.one_each.2 in
    (omega (arith, c.requires.inputs, long), omega (arith, c.requires.inputs, long))

pub new-requires-clause-outputs : goal.new-requires-clause-outputs
new-requires-clause-outputs c =
    let long = ap length c.ins-2.ensures.one_each.3 in
    (omega (arith, c.requires.outputs, long), omega (arith, c.requires.outputs, long))

pub new-requires-clause-accepts : goal.new-requires-clause-accepts
new-requires-clause-accepts c = λ i shape y got same.
    let one = c.ins-2.ensures.one_each in
    let only = only_one one.0 shape c.as_slice.result.now i (c.as_slice.ensures ∙ c.ins-2.ensures.ins ∙ one.2) got in
    (c.in_ok-instance.ensures one.0 one.1 one.2 one.3).accepts_first i y only.0 (same ∙ only.1)

pub returns-clause-filter : goal.returns-clause-filter
returns-clause-filter c = λ s out ins outs.
    let first = c.in_ok-instance.ensures s out ins outs in
    IfOk-weaker c.new.result
    (λ n. IsNewNode c.in_ok-instance.instance c.as_slice.result.now c.args.ins c.args.outs n)
    (λ n. IsNewFilter c.args.ready.now s out n.filter)
    (λ n k. subst (IsNewFilter c.args.ready.now s out) (sym k.filter_is) first)
    c.new.ensures.new
