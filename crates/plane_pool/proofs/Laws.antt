-- What each step keeps implies the rule of slots, and what holds of free slots.
use Rattle.std.proofs.Common.{◌≡◌, ℕ, List, get_or, sym, refl, ap, ◌∙◌, arith, le_refl}
use mathlib.Core.Logic.{dite}
use mathlib.Core.Option.{some, some-injective}
use native.Mathlib.Decide.{ℕ_discrete}
use lib.ListN.{get_elem?}
use Rattle.plane_pool.specs.declared.view.View.{View}
use Rattle.plane_pool.specs.declared.view.View.TheVariants.{Keeper, Giving, Drafting, Referring, Spent}
use Rattle.plane_pool.specs.Slot.{whole_weight, weight, Fits, Kept}
use Rattle.plane_pool.specs.Rule.{IsKeeping, SlotsKeepTheirRule}
use Rattle.plane_pool.specs.Free.{Kind, claims, gives, puts, gets, seals, shares, drops, opens, cuts, mends, MayMake, RefersToNothing, FreeSlotsWait}
use Rattle.plane_pool.specs.Asked.{MayClaim}
use Rattle.plane_pool.proofs.Sums.{two_weights, weight-le}
use Rattle.plane_pool.proofs.Keeps.{SlotState, owns, light, heavy}

chief_is : (n : ℕ) (words : List ℕ) (chief : ℕ) (owner : ℕ → ℕ) (j : ℕ) (d : View) → Fits n words chief owner j d → IsKeeping d → j ≡ chief
chief_is n words chief owner j (Keeper m looks found) h z = h.1
chief_is n words chief owner j (Giving m looks found) h z = h.1
chief_is n words chief owner j (Drafting m from count written) h z = absurd z
chief_is n words chief owner j (Referring w content found) h z = absurd z
chief_is n words chief owner j Spent h z = absurd z

giving_light : (n : ℕ) (s : SlotState) → Kept n s → (i m looks f j w g : ℕ) (content : List ℕ) → get_elem? s.views i ≡ some (Giving m looks f) → get_elem? s.views j ≡ some (Referring w content g) → ⊥
giving_light n s r i m looks f j w g content a b = let k = r.known j (Referring w content g) b in let some_weight = k.0 in let limit = r.limit in
    dite (ℕ_discrete i j)
    (λ same. let e : Giving m looks f ≡ Referring w content g = some-injective (Giving m looks f) (Referring w content g) (sym a ∙ (ap (λ (z : ℕ). get_elem? s.views z) same ∙ b)) in cc)
    (λ other. let both = two_weights s.views i j (Giving m looks f) (Referring w content g) a b other in omega arith)

pub slots_keep : SlotsKeepTheirRule
slots_keep n s r = record {
  keeper = λ i j u v a b ku kv. chief_is n s.words r.chief r.owner i u (r.known i u a) ku ∙ sym (chief_is n s.words r.chief r.owner j v (r.known j v b) kv);
  weights = record {
    sum = r.sum;
    limit = (let a = r.sum in let b = r.limit in omega arith);
    some = λ i w f content a. (r.known i (Referring w content f) a).0;
  };
  contents = λ i w f xs a. let k = r.known i (Referring w xs f) a in (k.1, k.2);
  drafts = λ i m from count xs a. let k = r.known i (Drafting m from count xs) a in (k.3, k.4);
  alone = record {
    ranges = λ i m from count xs a. let k = r.known i (Drafting m from count xs) a in (k.1, k.2);
    once = λ p i j u v a b cu cv. sym (owns n s.words r.chief r.owner i p u (r.known i u a) cu).0 ∙ (owns n s.words r.chief r.owner j p v (r.known j v b) cv).0;
    each = λ i q u a c p l. let t = r.covered i u q a c p l in (r.owner p, t.0, t.1, t.2);
    no_reference = λ i q j w f u content a c b. let z : w ≡ 0 = light n s r i u q a c j (Referring w content f) b (λ x. x) in let k = r.known j (Referring w content f) b in let some_weight = k.0 in omega arith;
    no_giving = λ i q j m looks f u a c b. let z : whole_weight ≡ 0 = light n s r i u q a c j (Giving m looks f) b (λ x. x) in omega arith;
  };
  gives = λ i m looks f j w g content a b. giving_light n s r i m looks f j w g content a b;
}

-- while nothing weighs anything, no view refers to the slot
refers_to_nothing : (n : ℕ) (s : SlotState) → Kept n s → get_or s.words 0 0 ≡ 0 → (id : ℕ) (v : View) → get_elem? s.views id ≡ some v → RefersToNothing v
refers_to_nothing n s r zero_word id (Keeper m looks found) at = tt
refers_to_nothing n s r zero_word id Spent at = tt
refers_to_nothing n s r zero_word id (Giving m looks found) at = let le = weight-le s.views id (Giving m looks found) at in let sum = r.sum in absurd (omega arith)
refers_to_nothing n s r zero_word id (Referring w content found) at =
    let le = weight-le s.views id (Referring w content found) at in let sum = r.sum in let k = r.known id (Referring w content found) at in let some_weight = k.0 in absurd (omega arith)
refers_to_nothing n s r zero_word id (Drafting m from count written) at =
    let k = r.known id (Drafting m from count written) at in let some_places = k.1 in
    let t = r.covered id (Drafting m from count written) from at (le_refl from, omega arith) 0 r.some_words in
    let u : View = t.0 in let full : weight u ≡ whole_weight = heavy u t.2 in let le = weight-le s.views (r.owner 0) u t.1 in let sum = r.sum in absurd (omega arith)

only_claims : (v : View) (kind : Kind) → RefersToNothing v → MayMake kind v → (kind ≡ claims) × MayClaim v
only_claims (Giving m looks found) kind free may = absurd free
only_claims (Drafting m from count written) kind free may = absurd free
only_claims (Referring w content found) kind free may = absurd free
only_claims v claims free may = (refl, may)
only_claims (Keeper m looks found) gives free may = absurd may
only_claims (Keeper m looks found) (puts p) free may = absurd may
only_claims (Keeper m looks found) (gets p) free may = absurd may
only_claims (Keeper m looks found) seals free may = absurd may
only_claims (Keeper m looks found) (shares give) free may = absurd may
only_claims (Keeper m looks found) drops free may = absurd may
only_claims (Keeper m looks found) (opens weight) free may = absurd may
only_claims (Keeper m looks found) (cuts at) free may = absurd may
only_claims (Keeper m looks found) (mends other) free may = absurd may
only_claims Spent gives free may = absurd may
only_claims Spent (puts p) free may = absurd may
only_claims Spent (gets p) free may = absurd may
only_claims Spent seals free may = absurd may
only_claims Spent (shares give) free may = absurd may
only_claims Spent drops free may = absurd may
only_claims Spent (opens weight) free may = absurd may
only_claims Spent (cuts at) free may = absurd may
only_claims Spent (mends other) free may = absurd may

pub free_slots_wait : FreeSlotsWait
free_slots_wait n s r zero_word = record {
  free = λ id v at. refers_to_nothing n s r zero_word id v at;
  claims = λ id v kind at may. only_claims v kind (refers_to_nothing n s r zero_word id v at) may;
}
