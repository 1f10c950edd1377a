-- Values of expressions where variables stand for the same.
use Rattle.std.proofs.Common.{◌≡◌, List, sym, ◌∙◌, inl, inr}
use Rattle.av_expr.specs.Trees.{Tree, Number, Variable, Negation, Binary}
use Rattle.av_expr.specs.Values.{value_of, IsValue, HasNone}
use Rattle.av_expr.specs.declared.vars.Var.{Var}
use Rattle.av_expr.specs.declared.fraction.Fraction.{Fraction}
use Rattle.av_expr.specs.declared.fault.NoValue.{NoValue}
use Rattle.filt_expr.specs.Values.{listed_is}
use Rattle.filt_expr.specs.Worth.{listed}

value_same : (a b : List Fraction) → ((x : Var) → value_of a x ≡ value_of b x) → (t : Tree) (v : Fraction) → IsValue a t v → IsValue b t v
value_same a b same (Number f) v h = h
value_same a b same (Variable x) v h = h ∙ same x
value_same a b same (Negation t) v h = (h.0, value_same a b same t h.0 h.1, h.2)
value_same a b same (Binary op s t) v h = (h.0, h.1, value_same a b same s h.0 h.2, value_same a b same t h.1 h.3, h.4)

none_same : (a b : List Fraction) → ((x : Var) → value_of a x ≡ value_of b x) → (t : Tree) (r : NoValue) → HasNone a t r → HasNone b t r
none_same a b same (Number f) r h = h
none_same a b same (Variable x) r h = h
none_same a b same (Negation t) r (inl h) = inl (none_same a b same t r h)
none_same a b same (Negation t) r (inr h) = inr (h.0, value_same a b same t h.0 h.1, h.2)
none_same a b same (Binary op s t) r (inl h) = inl (none_same a b same s r h)
none_same a b same (Binary op s t) r (inr (inl h)) = inr (inl (h.0, value_same a b same s h.0 h.1, none_same a b same t r h.2))
none_same a b same (Binary op s t) r (inr (inr h)) = inr (inr (h.0, h.1, value_same a b same s h.0 h.2, value_same a b same t h.1 h.3, h.4))

-- the same in the list of what the variables stand for
pub value_listed : (a : List Fraction) (f : Var → Fraction) → ((x : Var) → value_of a x ≡ f x) → (t : Tree) (v : Fraction) → IsValue a t v → IsValue (listed f) t v
value_listed a f same t v h = value_same a (listed f) (λ x. same x ∙ sym (listed_is f x)) t v h

pub none_listed : (a : List Fraction) (f : Var → Fraction) → ((x : Var) → value_of a x ≡ f x) → (t : Tree) (r : NoValue) → HasNone a t r → HasNone (listed f) t r
none_listed a f same t r h = none_same a (listed f) (λ x. same x ∙ sym (listed_is f x)) t r h
