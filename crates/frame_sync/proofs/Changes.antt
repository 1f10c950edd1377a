-- A list whose items are changed one after another.
use Rattle.std.proofs.Common.{◌≡◌, ◌<◌, ◌≤◌, ◌+◌, ◌∙◌, ℕ, ℤ, List, Some, length, get_or, set, refl, sym, subst, arith, inl, inr}
use Rattle.std.specs.List.{slice_get}
use Rattle.std.proofs.lemmas.Bool.{cases_eq}
use Rattle.std.proofs.lemmas.List.{length-set}
use Rattle.std.proofs.lemmas.Option.{same_Some, slice_get_within, slice_get_read}
use Rattle.av_base.proofs.Lists.{get_set_same, get_set_other}
use Rattle.frame_sync.specs.Lanes.{AreEach}

-- the items below an index are changed, and the others as they were
pub record AreChanged {X : Type 0} (R : X → X → Type 0) (old new : List X) (i : ℕ) : Type 0 where
  pub same : length old ≡ length new
  pub done : (k : ℕ) (x y : X) → k < i → slice_get old k ≡ Some x → slice_get new k ≡ Some y → R x y
  pub rest : (k : ℕ) → i ≤ k → slice_get new k ≡ slice_get old k

pub changed_none : {X : Type 0} {R : X → X → Type 0} {old : List X} → AreChanged R old old 0
changed_none = record { same = refl; done = λ k x y lt e f. absurd (omega arith); rest = λ k le. refl }

pub changed_more : {X : Type 0} {R : X → X → Type 0} {old new : List X} (i : ℕ) (x y : X) → i < length old → x ≡ get_or new i x → R (get_or new i x) y → AreChanged R old new i → AreChanged R old (set new i y) (i + 1)
changed_more {X} {R} {old} {new} i x y within is here h = record {
  same = (let a = h.same in let b = length-set new i y in omega arith);
  done = λ k v w lt e f. elim (cases_eq k i) [
    | inl same ↦ (
        let at_new = subst (λ (n : ℕ). slice_get (set new i y) n ≡ Some w) same f in
        let at_old = subst (λ (n : ℕ). slice_get old n ≡ Some v) same e in
        let first = slice_get_read new (length new) i x refl (let a = h.same in omega arith) is in
        let same_y : y ≡ w = same_Some y w (sym (get_set_same new i y (let a = h.same in omega arith)) ∙ at_new) in
        let same_x : x ≡ v = same_Some x v (sym first ∙ (h.rest i (omega arith) ∙ at_old)) in
        subst (λ (z : X). R z w) (sym is ∙ same_x) (subst (R (get_or new i x)) same_y here)
        )
    | inr apart ↦ h.done k v w (omega arith) e (sym (get_set_other new i k y apart) ∙ f)
  ];
  rest = λ k le. get_set_other new i k y (λ e. omega arith) ∙ h.rest k (omega arith);
}

pub changed_all : {X : Type 0} (R : ℤ → X → X → Type 0) {s t : ℤ} {old new : List X} (i : ℕ) → s ≡ t → length old ≤ i → AreChanged (R s) old new i → AreEach (R t) old new
changed_all {X} R {s} {t} {old} {new} i e all h = record {
  same = h.same;
  each = λ k x y f g. subst (λ (z : ℤ). R z x y) e (h.done k x y (let lt = slice_get_within old k x f in omega arith) f g);
}
