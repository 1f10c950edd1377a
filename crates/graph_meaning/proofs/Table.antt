-- What a plan gives at each node.
use Rattle.std.proofs.Common.{◌≡◌, ◌⊎◌, inl, inr, ℕ, zero, suc, ◌<◌, ◌≤◌, List, [], ◌∷◌, map, length, refl, sym, ◌∙◌, ap, arith, Some}
use Rattle.std.specs.Prelude.{slice_get, slice_index_or}
use Rattle.std.proofs.lemmas.Option.{get_or_from_slice_get, slice_get_within, slice_get_cases}
use Rattle.std.proofs.lemmas.List.{get_or-map, get_or_past, length-map}
use Rattle.av_frame.specs.Streams.{Stream, Streams, open_stream, nothing_more}
use Rattle.graph_meaning.specs.Meaning.{PlanNode, NodeIs, source_of, sources, once, rounds, den}
use Rattle.graph_meaning.specs.Laws.{IsPlan}
use Rattle.graph_plan.specs.declared.plan.Source.{Source}
use Rattle.graph_plan.specs.declared.plan.Source.TheVariants.{Input, Filter}

module _ {A B : Type 0} where
  pub at_map : (f : A → B) (xs : List A) (k : ℕ) (a : A) (d : B) → slice_get xs k ≡ Some a → slice_index_or (map f xs) k d ≡ f a
  at_map f xs k a d h = get_or-map f xs k a d (slice_get_within xs k a h) ∙ ap f (get_or_from_slice_get xs k a a h)

  pub past_map : (f : A → B) (xs : List A) (k : ℕ) (d : B) → length xs ≤ k → slice_index_or (map f xs) k d ≡ d
  past_map f xs k d h = get_or_past (map f xs) k d (let e = length-map xs f in omega (arith, e, h))

  -- two functions that agree on all of a list
  pub map_same : (f g : A → B) (xs : List A) → ((i : ℕ) (x : A) → slice_get xs i ≡ Some x → f x ≡ g x) → map f xs ≡ map g xs
  map_same f g [] h = refl
  map_same f g (x ∷ xs) h = ap (λ (y : B). y ∷ map f xs) (h 0 x refl) ∙ ap (λ (ys : List B). g x ∷ ys) (map_same f g xs (λ i y e. h (suc i) y e))

pub sources_at : (fed : Streams) (gives : ℕ → Streams) (ins : List Source) (i : ℕ) (s : Source) → slice_get ins i ≡ Some s → sources fed gives ins i ≡ source_of fed gives s
sources_at fed gives ins i s e = at_map (source_of fed gives) ins i s (open_stream []) e

pub sources_past : (fed : Streams) (gives : ℕ → Streams) (ins : List Source) (i : ℕ) → length ins ≤ i → sources fed gives ins i ≡ open_stream []
sources_past fed gives ins i h = past_map (source_of fed gives) ins i (open_stream []) h

pub some_or_past : (ins : List Source) (i : ℕ) → ((s : Source) × (slice_get ins i ≡ Some s)) ⊎ (length ins ≤ i)
some_or_past ins i = elim ((slice_get_cases ins i).1) [ inl x ↦ inl (x.0, x.2) | inr x ↦ inr x.0 ]

-- streams that agree wherever the node takes from
pub same_sources : (fed : Streams) (a b : ℕ → Streams) (ins : List Source) → ((i : ℕ) (s : Source) → slice_get ins i ≡ Some s → source_of fed a s ≡ source_of fed b s) → sources fed a ins ≡ sources fed b ins
same_sources fed a b ins h = ap (λ (l : List Stream). (let z : Streams = λ i. slice_index_or l i (open_stream []) in z)) (map_same (source_of fed a) (source_of fed b) ins h)

pub once_at : (plan : List PlanNode) (fed : Streams) (gives : ℕ → Streams) (k : ℕ) (p : PlanNode) → NodeIs plan k p → once plan fed gives k ≡ p.rule (sources fed gives p.ins)
once_at plan fed gives k p h = at_map (λ (p : PlanNode). p.rule (sources fed gives p.ins)) plan k p nothing_more h

module _ (plan : List PlanNode) (fed : Streams) (isp : IsPlan plan fed) where
  -- after more rounds than its place, a node's streams stay
  stays : (n k : ℕ) (p : PlanNode) → NodeIs plan k p → isp.place k < n → rounds n plan fed k ≡ rounds (suc n) plan fed k
  stays zero k p h l = absurd (omega (arith, l))
  stays (suc n) k p h l =
      once_at plan fed (rounds n plan fed) k p h
      ∙ ap p.rule (same_sources fed (rounds n plan fed) (rounds (suc n) plan fed) p.ins (one (λ j q g m. stays n j q g m)))
      ∙ sym (once_at plan fed (rounds (suc n) plan fed) k p h)
    where
      one : ((j : ℕ) (q : PlanNode) → NodeIs plan j q → isp.place j < n → rounds n plan fed j ≡ rounds (suc n) plan fed j)
          → (i : ℕ) (s : Source) → slice_get p.ins i ≡ Some s → source_of fed (rounds n plan fed) s ≡ source_of fed (rounds (suc n) plan fed) s
      one before i (Input m) e = refl
      one before i (Filter j o) e =
          let t = isp.there k p h i j o e in
          let lt = t.0 in
          ap (λ (z : Streams). z o) (before j t.1.0 t.1.1 (omega (arith, lt, l)))

  pub den_is : (k : ℕ) (p : PlanNode) → NodeIs plan k p → den plan fed k ≡ p.rule (sources fed (den plan fed) p.ins)
  den_is k p h = stays (length plan) k p h (isp.places k p h) ∙ once_at plan fed (den plan fed) k p h

below : (P : ℕ → Type 0) (place : ℕ → ℕ) → ((k : ℕ) → ((j : ℕ) → place j < place k → P j) → P k) → (n k : ℕ) → place k < n → P k
below P place f zero k h = absurd (omega (arith, h))
below P place f (suc n) k h = f k (λ j l. below P place f n j (omega (arith, l, h)))

-- what holds of a node if it holds of all at earlier places holds of all nodes
pub along : (P : ℕ → Type 0) (place : ℕ → ℕ) → ((k : ℕ) → ((j : ℕ) → place j < place k → P j) → P k) → (k : ℕ) → P k
along P place f k = below P place f (suc (place k)) k (omega arith)
