-- What follows from the law of a node.
use Rattle.std.proofs.Common.{◌≡◌, ◌⊎◌, inl, inr, ℕ, ◌<◌, ◌≤◌, ◌||◌, ◌&&◌, not, Bool, true, false, List, [], map, length, refl, sym, ◌∙◌, ap, subst, arith, Some, Option}
use Rattle.std.specs.Prelude.{slice_index_or, slice_get, slice_set, option_map}
use Rattle.std.proofs.lemmas.Option.{get_or_from_slice_get, slice_get_cases, slice_get_read, slice_get-map}
use Rattle.std.proofs.lemmas.List.{get_or-map, get_or_past, length-map, length-set, get_or-set_same}
use Rattle.av_frame.specs.Frames.{FrameValue}
use Rattle.av_frame.specs.Streams.{Stream, Streams, Begins, open_stream, AllRise, nothing_more}
use Rattle.av_frame.specs.FilterLaws.{Pads, FilterLaws}
use mathlib.Core.Path.{fun_ext}
use Rattle.filter_history.specs.Histories.{Stands}
use Rattle.filter_history.proofs.HistoryLemmas.{stands_new}
use Rattle.graph_node.specs.Ports.{offered, given, closing, closed, is_done, is_wanted}
use Rattle.graph_node.specs.Nodes.{SomeWanted, Law, Fit, IsIdle, offered_all, given_all, closing_all, closed_all, inlet, outlet}
use Rattle.graph_node.proofs.FunctionLemmas.{given_begins, given_whole, begins_trans}
use Rattle.av_frame.specs.StreamLemmas.{begins_refl}
use Rattle.graph_node.specs.declared.inlet.Inlet.{Inlet}
use Rattle.graph_node.specs.declared.outlet.Outlet.{Outlet}
use Rattle.graph_node.specs.declared.node.Node.{Node}

-- the one at a place
pub there : {A : Type 0} (xs : List A) (i : ℕ) → i < length xs → (x : A) × (slice_index_or xs i x ≡ x)
there xs i h = elim ((slice_get_cases xs i).1) [ inl x ↦ (x.0, x.3) | inr x ↦ absurd (omega (arith, x.0, h)) ]

done_or : (c e : Bool) → (c || e) ≡ true → c ≡ false → e ≡ true
done_or true e h k = absurd (cc)
done_or false e h k = h

bool_or : (b : Bool) → (b ≡ true) ⊎ (b ≡ false)
bool_or true = inl refl
bool_or false = inr refl

module _ {F : Type 0} (pads : F → Pads) (rest : F → Streams → Streams) (closes wants over : F → ℕ → Bool) (accepts : F → ℕ → FrameValue → Type 0) where
  pub node_begins : (whole : Streams → Streams) (n : Node F) → Fit pads closes accepts n → Law pads rest closes over whole n
      → (asked : Streams) → AllRise n.inputs asked → ((i : ℕ) → Begins (offered_all n i) (asked i)) → (o : ℕ) → o < n.outputs → Begins (given_all n o) (whole asked o)
  node_begins whole n fit law asked r b o h =
      given_begins (pads n.filter) whole (rest n.filter) (closes n.filter) (over n.filter) law.told (given_all n) law.stands asked
      (subst (λ (m : ℕ). AllRise m asked) (sym fit.inputs_are) r) (λ i. begins_trans (law.told i) (offered_all n i) (asked i) (law.is_told i).begins (b i)) o (subst (λ (m : ℕ). o < m) (sym fit.outputs_are) h)

  pub node_whole : (whole : Streams → Streams) (n : Node F) → FilterLaws (pads n.filter) (rest n.filter) (closes n.filter) (wants n.filter) (over n.filter)
      → Fit pads closes accepts n → Law pads rest closes over whole n → IsIdle rest closes wants n
      → (asked : Streams) → AllRise n.inputs asked → ((i : ℕ) → Begins (offered_all n i) (asked i)) → ((i : ℕ) → closing_all n i ≡ false → asked i ≡ offered_all n i)
      → (o : ℕ) → o < n.outputs → closed_all n o ≡ false → whole asked o ≡ given_all n o
  node_whole whole n laws fit law idle asked r b same o h c =
      given_whole (pads n.filter) whole (rest n.filter) (closes n.filter) (wants n.filter) (over n.filter) law.told (given_all n) laws law.stands
      (closing_all n) far asked (subst (λ (m : ℕ). AllRise m asked) (sym fit.inputs_are) r) (λ i. begins_trans (law.told i) (offered_all n i) (asked i) (law.is_told i).begins (b i))
      (λ i e. same i e ∙ sym ((law.is_told i).whole e)) o (subst (λ (m : ℕ). o < m) (sym fit.outputs_are) h) (at (bool_or (is_done x.0)))
    where
      lt : o < length n.outs.items
      lt = subst (λ (m : ℕ). o < m) (sym fit.outs_len) h

      x : (y : Outlet) × (slice_index_or n.outs.items o y ≡ y)
      x = there n.outs.items o lt

      far : (i : ℕ) → (pads n.filter).inputs ≤ i → closing_all n i ≡ false
      far i l = get_or_past (map closing n.ins.items) i false (let e = length-map n.ins.items closing in let f = fit.ins_len in let g = fit.inputs_are in omega (arith, e, f, g, l))

      open_ : closed x.0 ≡ false
      open_ = ap closed (sym x.1) ∙ sym (get_or-map closed n.outs.items o x.0 false lt) ∙ c

      ended : is_done x.0 ≡ true → (given_all n o).ended ≡ true
      ended d = ap (λ (s : Stream). s.ended) (get_or-map given n.outs.items o x.0 (open_stream []) lt ∙ ap given x.1) ∙ done_or (closed x.0) x.0.port.ended d open_

      shut : is_done x.0 ≡ false → (i : ℕ) → i < (pads n.filter).inputs → closing_all n i ≡ true → closes n.filter i ≡ true
      shut d i l k =
          let m : i < n.inputs = subst (λ (z : ℕ). i < z) fit.inputs_are l in
          let inlt : i < length n.ins.items = subst (λ (z : ℕ). i < z) (sym fit.ins_len) m in
          let y = there n.ins.items i inlt in
          elim (fit.shut i y.0 m (sym (get_or-map closing n.ins.items i y.0 false inlt) ∙ k)) [
            | inl e ↦ e
            | inr all ↦ absurd (let e = all o x.0 h in let f : is_done (outlet n o x.0) ≡ false = ap is_done x.1 ∙ d in cc)
          ]

      at : (is_done x.0 ≡ true) ⊎ (is_done x.0 ≡ false) → ((given_all n o).ended ≡ true) ⊎ ((rest n.filter nothing_more o ≡ open_stream []) × ((i : ℕ) → i < (pads n.filter).inputs → closing_all n i ≡ true → closes n.filter i ≡ true))
      at (inl d) = inl (ended d)
      at (inr d) = elim (idle.asked o h x.0) [
        | inl e ↦ absurd (let f : is_done (outlet n o x.0) ≡ false = ap is_done x.1 ∙ d in cc)
        | inr q ↦ inr (q.0, shut d)
      ]

  -- if an output is wanted, the input that is needed was asked, is not closed and goes on
  pub node_asks : (n : Node F) → FilterLaws (pads n.filter) (rest n.filter) (closes n.filter) (wants n.filter) (over n.filter)
      → Fit pads closes accepts n → IsIdle rest closes wants n
      → (o : ℕ) (d : Outlet) → o < n.outputs → is_wanted (outlet n o d) ≡ true → (i : ℕ) (e : Inlet) → i < n.inputs → wants n.filter i ≡ true
      → ((inlet n i e).port.asked ≡ true) × (closing (inlet n i e) ≡ false) × ((inlet n i e).finished ≡ false)
  node_asks n laws fit idle o d h w i e l k =
      (idle.wanted i l e k (o, d, h, w), open_ (bool_or (closing (inlet n i e))), going (bool_or (inlet n i e).finished))
    where
      no : closes n.filter i ≡ false
      no = laws.wanted_open i (subst (λ (m : ℕ). i < m) (sym fit.inputs_are) l) k

      not_done : (wanted c : Bool) → (wanted && not c) ≡ true → c ≡ true → ⊥
      not_done true true f g = cc
      not_done true false f g = cc
      not_done false c f g = cc

      open_ : (closing (inlet n i e) ≡ true) ⊎ (closing (inlet n i e) ≡ false) → closing (inlet n i e) ≡ false
      open_ (inr z) = z
      open_ (inl z) = elim (fit.shut i e l z) [
        | inl q ↦ absurd (let m = no in cc)
        | inr all ↦ absurd (not_done (outlet n o d).port.wanted (is_done (outlet n o d)) w (all o d h))
      ]

      going : ((inlet n i e).finished ≡ true) ⊎ ((inlet n i e).finished ≡ false) → (inlet n i e).finished ≡ false
      going (inr z) = z
      going (inl z) = absurd (let q = (fit.each i e l).ended z in let m = no in cc)

is_open : (wanted d : Bool) → (wanted && not d) ≡ true → d ≡ false
is_open true true e = absurd (cc)
is_open true false e = refl
is_open false d e = absurd (cc)

module _ {F : Type 0} (pads : F → Pads) (rest : F → Streams → Streams) (closes wants over : F → ℕ → Bool) (accepts : F → ℕ → FrameValue → Type 0) where
  -- while an output is wanted, some input was asked that is neither closed nor ended
  pub some_asked : (n : Node F) → FilterLaws (pads n.filter) (rest n.filter) (closes n.filter) (wants n.filter) (over n.filter)
      → Fit pads closes accepts n → IsIdle rest closes wants n → SomeWanted n
      → (i : ℕ) × (i < n.inputs) × ((r : Inlet) → slice_get n.ins.items i ≡ Some r → (r.port.asked ≡ true) × (closing r ≡ false) × (r.finished ≡ false))
  some_asked n laws fit idle (o, d, h, w) =
      let need = idle.needs o d h (is_open (outlet n o d).port.wanted (is_done (outlet n o d)) w) in (
        need.0,
        need.1,
        λ r e.
            subst (λ (z : Inlet). (z.port.asked ≡ true) × (closing z ≡ false) × (z.finished ≡ false)) (get_or_from_slice_get n.ins.items need.0 r r e)
            (node_asks pads rest closes wants over accepts n laws fit idle o d h w need.0 r need.1 need.2),
      )

none_at : {A : Type 0} (f : A → Stream) (xs : List A) (n : ℕ) → length xs ≡ n → ((i : ℕ) (d : A) → i < n → f (slice_index_or xs i d) ≡ open_stream []) → (i : ℕ) → slice_index_or (map f xs) i (open_stream []) ≡ open_stream []
none_at f xs n e h i = elim (le_or i (length xs)) [
  | inr l ↦ get_or_past (map f xs) i (open_stream []) (let k = length-map xs f in omega (arith, k, l))
  | inl l ↦ let x = there xs i l in get_or-map f xs i x.0 (open_stream []) l ∙ h i x.0 (subst (λ (m : ℕ). i < m) e l)
]
  where
    le_or : (i n : ℕ) → (i < n) ⊎ (n ≤ i)
    le_or i n = grind arith

module _ {F : Type 0} (pads : F → Pads) (rest : F → Streams → Streams) (closes over : F → ℕ → Bool) (accepts : F → ℕ → FrameValue → Type 0) where
  pub new_law : (n : Node F) → length n.ins.items ≡ n.inputs → length n.outs.items ≡ n.outputs
      → ((i : ℕ) (d : Inlet) → i < n.inputs → offered (inlet n i d) ≡ open_stream []) → ((o : ℕ) (d : Outlet) → o < n.outputs → given (outlet n o d) ≡ open_stream [])
      → Law pads rest closes over (rest n.filter) n
  new_law n e f h k =
      let ins : (let s : Streams = λ _. open_stream [] in s) ≡ offered_all n = fun_ext (λ i. sym (none_at offered n.ins.items n.inputs e h i)) in
      let outs : (let s : Streams = λ _. open_stream [] in s) ≡ given_all n = fun_ext (λ o. sym (none_at given n.outs.items n.outputs f k o)) in
      record {
        told = offered_all n;
        is_told = λ i. record { begins = begins_refl (offered_all n i); whole = λ c. refl };
        stands =
            subst (λ (s : Streams). Stands (pads n.filter) (rest n.filter) (rest n.filter) (closes n.filter) (over n.filter) record { ins = s; outs = given_all n }) ins
            (subst (λ (s : Streams). Stands (pads n.filter) (rest n.filter) (rest n.filter) (closes n.filter) (over n.filter) record { ins = λ _. open_stream []; outs = s }) outs
            (stands_new (pads n.filter) (rest n.filter) (closes n.filter) (over n.filter)));
      }

some_same : {C : Type 0} (a b : C) → (let r : Option C = Some a in r) ≡ Some b → a ≡ b
some_same a b e = cc

-- the two ends of a link, at their places
pub link_ids : {A B C : Type 0} (f : A → C) (g : B → C) (xs : List A) (ys : List B) (i j : ℕ) (x : A) (y : B) → i < length xs → x ≡ slice_index_or xs i x → j < length ys → y ≡ slice_index_or ys j y
    → slice_get (map f xs) i ≡ slice_get (map g ys) j → f x ≡ g y
link_ids f g xs ys i j x y h e k d q =
    some_same (f x) (g y)
    (sym (slice_get-map f xs i ∙ ap (option_map f) (slice_get_read xs (length xs) i x refl h e)) ∙ q ∙ slice_get-map g ys j ∙ ap (option_map g) (slice_get_read ys (length ys) j y refl k d))

here : {A : Type 0} (f : A → Stream) (xs : List A) (i : ℕ) (y : A) → i < length xs → slice_index_or (map f (slice_set xs i y)) i (open_stream []) ≡ f y
here f xs i y h =
    get_or-map f (slice_set xs i y) i y (open_stream []) (let e = length-set xs i y in subst (λ (m : ℕ). i < m) (sym e) h) ∙ ap f (get_or-set_same xs i y y h)

pub begins_at : (xs : List Outlet) (o : ℕ) (y : Outlet) (ys : List Inlet) (i : ℕ) (z : Inlet) → o < length xs → i < length ys → Begins (offered z) (given y)
    → Begins (slice_index_or (map offered (slice_set ys i z)) i (open_stream [])) (slice_index_or (map given (slice_set xs o y)) o (open_stream []))
begins_at xs o y ys i z h k b =
    subst (λ (s : Stream). Begins s (slice_index_or (map given (slice_set xs o y)) o (open_stream []))) (sym (here offered ys i z k))
    (subst (λ (s : Stream). Begins (offered z) s) (sym (here given xs o y h)) b)
