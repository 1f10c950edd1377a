-- One port of a node changed.
use Rattle.std.proofs.Common.{◌≡◌, ◌≢◌, ◌⊎◌, inl, inr, ℕ, zero, suc, Some, ◌+◌, ◌<◌, ◌≤◌, ◌==◌, Bool, true, false, List, [], ◌∷◌, map, length, refl, sym, ◌∙◌, ap, subst, arith, eqb-true, Option, ℤ}
use Rattle.std.specs.Prelude.{slice_index_or, slice_get, slice_set, if◌then◌else◌}
use Rattle.std.specs.Vec.{with_item}
use Rattle.std.proofs.lemmas.List.{get_or-set_same, get_or-set_other, get_or-map, length-map, length-set, map-set}
use Rattle.std.proofs.Math.Seq.{map-set_same}
use Rattle.std.proofs.lemmas.List.Sums.{sum_by-set}
use Rattle.graph_node.proofs.StepLemmas.{told_refl, at_self}
use Rattle.graph_node.proofs.FunctionLemmas.{at_same, begins_trans}
use Rattle.av_frame.specs.StreamLemmas.{begins_refl}
use Rattle.av_base.specs.declared.shapes.Shape.{Shape}
use mathlib.Core.Path.{fun_ext}
use Rattle.av_frame.specs.Frames.{FrameValue}
use Rattle.av_frame.specs.Streams.{Begins, Stream, Streams, at_pad, open_stream, Lawful}
use Rattle.av_frame.specs.FilterLaws.{Pads}
use Rattle.filter_history.specs.Histories.{Stands}
use Rattle.graph_node.specs.Times.{IsPast}
use Rattle.graph_node.specs.Ports.{IsTold, offered, given, arrived, closing, inlet_id, inlet_shape, outlet_id, inlet_moves, outlet_moves, inlet_core, outlet_core, Drawn}
use Rattle.graph_node.specs.Laws.{with_out, Told, Gave, InFit}
use Rattle.std.proofs.lemmas.Option.{get_or_from_slice_get}
use Rattle.graph_node.specs.Nodes.{SameCores, moves, given_all, AllDone, Fit, Step, DrawnAt}
use Rattle.graph_node.specs.declared.inlet.Inlet.{Inlet}
use Rattle.graph_node.specs.declared.outlet.Outlet.{Outlet}
use Rattle.graph_node.specs.declared.node.Node.{Node}

pub is_or_not : (i j : ℕ) → (j ≡ i) ⊎ (j ≢ i)
is_or_not i j = at (j == i) refl
  where
    no : (i j : ℕ) → (j == i) ≡ false → j ≢ i
    no i j e f = grind arith

    at : (b : Bool) → (j == i) ≡ b → (j ≡ i) ⊎ (j ≢ i)
    at true e = inl (eqb-true _ _ e)
    at false e = inr (no i j e)

module _ {A : Type 0} (P : ℕ → A → Type 0) where
  -- P of the one that was set and of each other
  pub all_set : (xs : List A) (i : ℕ) (y : A) → i < length xs → P i y → ((j : ℕ) (d : A) → j < length xs → j ≢ i → P j (slice_index_or xs j d))
      → (j : ℕ) (d : A) → j < length xs → P j (slice_index_or (slice_set xs i y) j d)
  all_set xs i y h p q j d l =
      elim (is_or_not i j) [
        | inl e ↦ subst (λ (k : ℕ). P k (slice_index_or (slice_set xs i y) k d)) (sym e) (subst (λ (z : A). P i z) (sym (get_or-set_same xs i y d h)) p)
        | inr n ↦ subst (λ (z : A). P j z) (sym (get_or-set_other xs i j y d n)) (q j d l n)
      ]

-- what was told, of equal streams
told_as : {c : Bool} {s s' t t' : Stream} → s' ≡ s → t' ≡ t → IsTold c s t → IsTold c s' t'
told_as {c} {s} {s'} {t} {t'} e f k = subst (λ (z : Stream). IsTold c z t') (sym e) (subst (λ (z : Stream). IsTold c s z) (sym f) k)

-- another place than the one that was set
pub at_other : (all : Streams) (i j : ℕ) (s : Stream) → j ≢ i → at_pad all i s j ≡ all j
at_other all i j s n = at (j == i) refl
  where
    at : (b : Bool) → (j == i) ≡ b → (if b then s else all j) ≡ all j
    at true e = absurd (n (eqb-true _ _ e))
    at false e = refl

-- ---- what is read of a list in which one element was set

module _ {A C : Type 0} (f : A → C) (d : C) where
  long : (xs : List A) (i : ℕ) → i < length xs → i < length (map f xs)
  long xs i h = let l : length (map f xs) ≡ length xs = length-map xs f in subst (λ (m : ℕ). i < m) (sym l) h

  pub here_map : (xs : List A) (i : ℕ) (y : A) → i < length xs → slice_index_or (map f (slice_set xs i y)) i d ≡ f y
  here_map xs i y h = ap (λ (l : List C). slice_index_or l i d) (map-set f xs i y) ∙ get_or-set_same (map f xs) i (f y) d (long xs i h)

  pub other_map : (xs : List A) (i j : ℕ) (y : A) → j ≢ i → slice_index_or (map f (slice_set xs i y)) j d ≡ slice_index_or (map f xs) j d
  other_map xs i j y n = ap (λ (l : List C). slice_index_or l j d) (map-set f xs i y) ∙ get_or-set_other (map f xs) i j (f y) d n

  pub read_map : (xs : List A) (i : ℕ) (a : A) → i < length xs → a ≡ slice_index_or xs i a → slice_index_or (map f xs) i d ≡ f a
  read_map xs i a h v = get_or-map f xs i a d h ∙ ap f (sym v)

module _ {A : Type 0} (f : A → Stream) where
  abbrev all : List A → Streams
  all xs = λ i. slice_index_or (map f xs) i (open_stream [])

  -- the streams after one port was set
  pub all_now : (xs : List A) (i : ℕ) (y : A) → i < length xs → at_pad (all xs) i (f y) ≡ all (slice_set xs i y)
  all_now xs i y h = fun_ext (λ j. at j (is_or_not i j))
    where
      at : (j : ℕ) → (j ≡ i) ⊎ (j ≢ i) → at_pad (all xs) i (f y) j ≡ all (slice_set xs i y) j
      at j (inl e) = subst (λ (m : ℕ). at_pad (all xs) i (f y) m ≡ all (slice_set xs i y) m) (sym e) (at_self (all xs) i (f y) ∙ sym (here_map f (open_stream []) xs i y h))
      at j (inr n) = at_other (all xs) i j (f y) n ∙ sym (other_map f (open_stream []) xs i j y n)

  pub all_same : (xs : List A) (i : ℕ) (a : A) → i < length xs → a ≡ slice_index_or xs i a → at_pad (all xs) i (f a) ≡ all xs
  all_same xs i a h v = at_same (all xs) i (f a) (read_map f (open_stream []) xs i a h v)

-- ---- a call that moved nothing
module _ {F : Type 0} where
  pub cores_refl : (a : Node F) → SameCores a a
  cores_refl a = record { ins = refl; outs = refl }

  pub cores_trans : (a b c : Node F) → SameCores a b → SameCores b c → SameCores a c
  cores_trans a b c p q = record { ins = q.ins ∙ p.ins; outs = q.outs ∙ p.outs }

  pub cores_in : (a : Node F) (f : F) (i : ℕ) (old y : Inlet) → old ≡ slice_index_or a.ins.items i old → inlet_core y ≡ inlet_core old
      → SameCores a record { filter = f; inputs = a.inputs; outputs = a.outputs; ins = with_item a.ins i y; outs = a.outs; idle = a.idle }
  cores_in a f i old y v e = record { ins = map-set_same inlet_core a.ins.items i y old (e ∙ ap inlet_core v); outs = refl }

  pub cores_out : (a : Node F) (f : F) (o : ℕ) (old y : Outlet) → old ≡ slice_index_or a.outs.items o old → outlet_core y ≡ outlet_core old
      → SameCores a record { filter = f; inputs = a.inputs; outputs = a.outputs; ins = a.ins; outs = with_item a.outs o y; idle = a.idle }
  cores_out a f o old y v e = record { ins = refl; outs = map-set_same outlet_core a.outs.items o y old (e ∙ ap outlet_core v) }

-- an element that was read
pub read_is : {A : Type 0} (P : A → Type 0) (xs : List A) (i : ℕ) (x y : A) → x ≡ slice_index_or xs i x → slice_get xs i ≡ Some y → P x → P y
read_is P xs i x y v e p = subst P (v ∙ get_or_from_slice_get xs i y x e) p

pub set_others : {A : Type 0} (xs : List A) (i j : ℕ) (y : A) → j ≢ i → slice_get (slice_set xs i y) j ≡ slice_get xs j
set_others [] i j y n = refl
set_others (x ∷ xs) zero zero y n = absurd (n refl)
set_others (x ∷ xs) zero (suc j) y n = refl
set_others (x ∷ xs) (suc i) zero y n = refl
set_others (x ∷ xs) (suc i) (suc j) y n = set_others xs i j y (λ f. n (ap suc f))

-- ---- the count of moves, if one port changed
module _ {F : Type 0} where
  pub moves_in : (a : Node F) (f : F) (i : ℕ) (old y : Inlet) → i < length a.ins.items → old ≡ slice_index_or a.ins.items i old
      → moves record { filter = f; inputs = a.inputs; outputs = a.outputs; ins = with_item a.ins i y; outs = a.outs; idle = a.idle } + inlet_moves old ≡ moves a + inlet_moves y
  unfolding moves
  moves_in a f i old y lt v = omega (arith, sum_by-set inlet_moves a.ins.items i y old lt, ap inlet_moves v)

  pub moves_out : (a : Node F) (f : F) (o : ℕ) (old y : Outlet) → o < length a.outs.items → old ≡ slice_index_or a.outs.items o old
      → moves record { filter = f; inputs = a.inputs; outputs = a.outputs; ins = a.ins; outs = with_item a.outs o y; idle = a.idle } + outlet_moves old ≡ moves a + outlet_moves y
  unfolding moves
  moves_out a f o old y lt v = omega (arith, sum_by-set outlet_moves a.outs.items o y old lt, ap outlet_moves v)

  pub rise_in : (a : Node F) (f : F) (i : ℕ) (old y : Inlet) → length a.ins.items ≡ a.inputs → i < a.inputs → old ≡ slice_index_or a.ins.items i old → inlet_moves old < inlet_moves y
      → moves a < moves record { filter = f; inputs = a.inputs; outputs = a.outputs; ins = with_item a.ins i y; outs = a.outs; idle = a.idle }
  rise_in a f i old y len h v l = omega (arith, moves_in a f i old y (subst (λ (m : ℕ). i < m) (sym len) h) v, l)

  pub rise_out : (a : Node F) (f : F) (o : ℕ) (old y : Outlet) → length a.outs.items ≡ a.outputs → o < a.outputs → old ≡ slice_index_or a.outs.items o old → outlet_moves old < outlet_moves y
      → moves a < moves record { filter = f; inputs = a.inputs; outputs = a.outputs; ins = a.ins; outs = with_item a.outs o y; idle = a.idle }
  rise_out a f o old y len h v l = omega (arith, moves_out a f o old y (subst (λ (m : ℕ). o < m) (sym len) h) v, l)

module _ {F : Type 0} (pads : F → Pads) (rest : F → Streams → Streams) (closes over : F → ℕ → Bool) (accepts : F → ℕ → FrameValue → Type 0) where
  -- the filter was told something at input i
  pub step_told : (a : Node F) (f : F) (i : ℕ) (old y : Inlet) → Fit pads closes accepts a → i < a.inputs → old ≡ slice_index_or a.ins.items i old
      → closing old ≡ false → Told pads rest closes over accepts a.filter f i (offered old) (offered y) → inlet_id y ≡ inlet_id old → inlet_moves old ≤ inlet_moves y → y.shape ≡ old.shape
      → Step pads rest closes over a record { filter = f; inputs = a.inputs; outputs = a.outputs; ins = with_item a.ins i y; outs = a.outs; idle = a.idle }
  step_told a f i old y fit h v going told e grow shape =
      let lt : i < length a.ins.items = subst (λ (m : ℕ). i < m) (sym fit.ins_len) h in
      record {
        law = λ whole k. record {
          told = at_pad k.told i (offered y);
          is_told = λ j. elim (is_or_not i j) [
            | inl q ↦
                subst (λ (m : ℕ). IsTold (slice_index_or (map closing (slice_set a.ins.items i y)) m false) (slice_index_or (map offered (slice_set a.ins.items i y)) m (open_stream [])) (at_pad k.told i (offered y) m)) (sym q)
                (told_as (here_map offered (open_stream []) a.ins.items i y lt) (at_self k.told i (offered y)) (record { begins = begins_refl (offered y); whole = λ _. refl }))
            | inr n ↦
                subst (λ (c : Bool). IsTold c (slice_index_or (map offered (slice_set a.ins.items i y)) j (open_stream [])) (at_pad k.told i (offered y) j)) (sym (other_map closing false a.ins.items i j y n))
                (told_as (other_map offered (open_stream []) a.ins.items i j y n) (at_other k.told i j (offered y) n) (k.is_told j))
          ];
          stands =
              subst (λ (s : Pads). Stands s whole (rest f) (closes f) (over f) record { ins = at_pad k.told i (offered y); outs = given_all a }) (sym told.pads_are)
              (told.stands whole (record { ins = k.told; outs = given_all a })
              (subst (λ (s : Streams). Stands (pads a.filter) whole (rest a.filter) (closes a.filter) (over a.filter) record { ins = s; outs = given_all a })
              (sym (at_same k.told i (offered old)
              ((k.is_told i).whole (read_map closing false a.ins.items i old lt v ∙ going) ∙ read_map offered (open_stream []) a.ins.items i old lt v))) k.stands));
        };
        pads_are = told.pads_are;
        closes_stay = told.closes_stay;
        in_ids = map-set_same inlet_id a.ins.items i y old (e ∙ ap inlet_id v);
        out_ids = refl;
        inputs_are = refl;
        outputs_are = refl;
        shapes = map-set_same inlet_shape a.ins.items i y old (shape ∙ ap inlet_shape v);
        grows = omega (arith, moves_in a f i old y lt v, grow);
      }

  -- the filter was told nothing; what was taken at a closed input was dropped
  pub step_kept : (a : Node F) (i : ℕ) (old y : Inlet) → Fit pads closes accepts a → i < a.inputs → old ≡ slice_index_or a.ins.items i old
      → Begins (offered old) (offered y) → (closing y ≡ false → (closing old ≡ false) × (offered y ≡ offered old)) → inlet_id y ≡ inlet_id old → inlet_moves old ≤ inlet_moves y → y.shape ≡ old.shape
      → Step pads rest closes over a record { filter = a.filter; inputs = a.inputs; outputs = a.outputs; ins = with_item a.ins i y; outs = a.outs; idle = a.idle }
  step_kept a i old y fit h v more same e grow shape =
      let lt : i < length a.ins.items = subst (λ (m : ℕ). i < m) (sym fit.ins_len) h in
      record {
        law = λ whole k. record {
          told = k.told;
          is_told = λ j. elim (is_or_not i j) [
            | inl q ↦
                subst (λ (m : ℕ). IsTold (slice_index_or (map closing (slice_set a.ins.items i y)) m false) (slice_index_or (map offered (slice_set a.ins.items i y)) m (open_stream [])) (k.told m)) (sym q)
                (subst (λ (c : Bool). IsTold c (slice_index_or (map offered (slice_set a.ins.items i y)) i (open_stream [])) (k.told i)) (sym (here_map closing false a.ins.items i y lt))
                (told_as (here_map offered (open_stream []) a.ins.items i y lt) refl
                (let was = read_map offered (open_stream []) a.ins.items i old lt v in record {
                  begins = begins_trans (k.told i) (offered old) (offered y) (subst (λ (s : Stream). Begins (k.told i) s) was (k.is_told i).begins) more;
                  whole = λ c. (k.is_told i).whole (read_map closing false a.ins.items i old lt v ∙ (same c).0) ∙ was ∙ sym (same c).1;
                })))
            | inr n ↦
                subst (λ (c : Bool). IsTold c (slice_index_or (map offered (slice_set a.ins.items i y)) j (open_stream [])) (k.told j)) (sym (other_map closing false a.ins.items i j y n))
                (told_as (other_map offered (open_stream []) a.ins.items i j y n) refl (k.is_told j))
          ];
          stands = k.stands;
        };
        pads_are = refl;
        closes_stay = λ j c. c;
        in_ids = map-set_same inlet_id a.ins.items i y old (e ∙ ap inlet_id v);
        out_ids = refl;
        inputs_are = refl;
        outputs_are = refl;
        shapes = map-set_same inlet_shape a.ins.items i y old (shape ∙ ap inlet_shape v);
        grows = omega (arith, moves_in a a.filter i old y lt v, grow);
      }

  -- nothing was offered either
  pub step_same : (a : Node F) (i : ℕ) (old y : Inlet) → Fit pads closes accepts a → i < a.inputs → old ≡ slice_index_or a.ins.items i old
      → offered y ≡ offered old → closing y ≡ closing old → inlet_id y ≡ inlet_id old → inlet_moves old ≤ inlet_moves y → y.shape ≡ old.shape
      → Step pads rest closes over a record { filter = a.filter; inputs = a.inputs; outputs = a.outputs; ins = with_item a.ins i y; outs = a.outs; idle = a.idle }
  step_same a i old y fit h v o c = step_kept a i old y fit h v (subst (λ (s : Stream). Begins (offered old) s) (sym o) (begins_refl (offered old))) (λ d. (sym c ∙ d, o))

  pub fit_in : (a : Node F) (f : F) (i : ℕ) (old y : Inlet) (was now : Stream) → Fit pads closes accepts a → i < a.inputs → old ≡ slice_index_or a.ins.items i old
      → Told pads rest closes over accepts a.filter f i was now → InFit closes accepts f i y
      → (closing y ≡ true → (closing old ≡ true) ⊎ (closes f i ≡ true) ⊎ AllDone a)
      → Fit pads closes accepts record { filter = f; inputs = a.inputs; outputs = a.outputs; ins = with_item a.ins i y; outs = a.outs; idle = a.idle }
  fit_in a f i old y was now fit h v told good shuts =
      let lt : i < length a.ins.items = subst (λ (m : ℕ). i < m) (sym fit.ins_len) h in
      record {
        inputs_are = ap (λ (p : Pads). p.inputs) told.pads_are ∙ fit.inputs_are;
        outputs_are = ap (λ (p : Pads). p.outputs) told.pads_are ∙ fit.outputs_are;
        ins_len = length-set a.ins.items i y ∙ fit.ins_len;
        outs_len = fit.outs_len;
        each = λ j d l.
            all_set (λ k x. InFit closes accepts f k x) a.ins.items i y lt good
            (λ k e m n. let g = fit.each k e (subst (λ (z : ℕ). k < z) fit.ins_len m) in record {
              ready = λ o z s p. told.others k z n (g.ready o z s p);
              ended = λ o. told.closes_stay k (g.ended o);
            })
            j d (subst (λ (z : ℕ). j < z) (sym fit.ins_len) l);
        shut = λ j d l.
            all_set (λ k x. closing x ≡ true → (closes f k ≡ true) ⊎ AllDone a) a.ins.items i y lt
            (λ e. elim (shuts e) [
              | inl o ↦ stay i told.closes_stay (fit.shut i old h (sym (ap (λ (x : Inlet). closing x) v) ∙ o))
              | inr (inl o) ↦ inl o
              | inr (inr o) ↦ inr o
            ])
            (λ k e m n o. stay k told.closes_stay (fit.shut k e (subst (λ (z : ℕ). k < z) fit.ins_len m) o))
            j d (subst (λ (z : ℕ). j < z) (sym fit.ins_len) l);
      }
    where
      stay : (k : ℕ) → ((j : ℕ) → closes a.filter j ≡ true → closes f j ≡ true) → (closes a.filter k ≡ true) ⊎ AllDone a → (closes f k ≡ true) ⊎ AllDone a
      stay k c (inl e) = inl (c k e)
      stay k c (inr e) = inr e

  pub step_out : (a : Node F) (f : F) (o : ℕ) (old y : Outlet) → Fit pads closes accepts a → o < a.outputs → old ≡ slice_index_or a.outs.items o old
      → Gave pads rest closes over accepts a.filter f o (given old) (given y) → outlet_id y ≡ outlet_id old → outlet_moves old ≤ outlet_moves y
      → Step pads rest closes over a record { filter = f; inputs = a.inputs; outputs = a.outputs; ins = a.ins; outs = with_item a.outs o y; idle = a.idle }
  step_out a f o old y fit h v gave e grow =
      let lt : o < length a.outs.items = subst (λ (m : ℕ). o < m) (sym fit.outs_len) h in
      record {
        law = λ whole k. record {
          told = k.told;
          is_told = k.is_told;
          stands =
              subst (λ (s : Pads). Stands s whole (rest f) (closes f) (over f) record { ins = k.told; outs = all given (slice_set a.outs.items o y) }) (sym gave.pads_are)
              (subst (λ (s : Streams). Stands (pads a.filter) whole (rest f) (closes f) (over f) record { ins = k.told; outs = s }) (all_now given a.outs.items o y lt)
              (gave.stands whole (record { ins = k.told; outs = given_all a })
              (subst (λ (s : Streams). Stands (pads a.filter) whole (rest a.filter) (closes a.filter) (over a.filter) record { ins = k.told; outs = s }) (sym (all_same given a.outs.items o old lt v)) k.stands)));
        };
        pads_are = gave.pads_are;
        closes_stay = gave.closes_stay;
        in_ids = refl;
        out_ids = map-set_same outlet_id a.outs.items o y old (e ∙ ap outlet_id v);
        inputs_are = refl;
        outputs_are = refl;
        shapes = refl;
        grows = omega (arith, moves_out a f o old y lt v, grow);
      }

  pub told_none : (f : F) (i : ℕ) (s t : Stream) → t ≡ s → Told pads rest closes over accepts f f i s t
  told_none = told_refl pads rest closes over accepts

  pub gave_none : (f : F) (o : ℕ) (s t : Stream) → t ≡ s → Gave pads rest closes over accepts f f o s t
  gave_none f o s t e = record {
    pads_are = refl;
    closes_stay = λ j k. k;
    accepts_stay = λ j y a. a;
    stands = λ whole h k. subst (λ (z : Stream). Stands (pads f) whole (rest f) (closes f) (over f) (with_out h o z)) (sym e) k;
  }

pub drawn_same : (old y : Inlet) → offered y ≡ offered old → arrived y ≡ arrived old → y.shape ≡ old.shape → Drawn old → Drawn y
drawn_same old y o a s k l = a ∙ (k (subst (λ (t : Stream). Lawful old.shape t.frames) a (subst (λ (z : Shape). Lawful z (arrived y).frames) s l)) ∙ sym o)

module _ {F : Type 0} (closes : F → ℕ → Bool) where
  -- other inputs, if one changed
  pub drawn_other : (a : Node F) (f : F) (i : ℕ) (y : Inlet) → ((j : ℕ) → closes a.filter j ≡ true → closes f j ≡ true) → (j : ℕ) → j ≢ i → DrawnAt closes a j
      → DrawnAt closes record { filter = f; inputs = a.inputs; outputs = a.outputs; ins = with_item a.ins i y; outs = a.outs; idle = a.idle } j
  drawn_other a f i y c j n k d =
      subst (λ (x : Inlet). (closing x ≡ true) ⊎ (closes f j ≡ true) ⊎ Drawn x) (sym (get_or-set_other a.ins.items i j y d n))
      (elim (k d) [ inl e ↦ inl e | inr (inl e) ↦ inr (inl (c j e)) | inr (inr e) ↦ inr (inr e) ])

  -- all inputs, if one only noted something
  pub drawn_all : (a : Node F) (i : ℕ) (old y : Inlet) → i < length a.ins.items → old ≡ slice_index_or a.ins.items i old
      → offered y ≡ offered old → arrived y ≡ arrived old → y.shape ≡ old.shape → (closing old ≡ true → closing y ≡ true)
      → (j : ℕ) → DrawnAt closes a j
      → DrawnAt closes record { filter = a.filter; inputs = a.inputs; outputs = a.outputs; ins = with_item a.ins i y; outs = a.outs; idle = a.idle } j
  drawn_all a i old y lt v o r s c j k d =
      elim (is_or_not i j) [
        | inr n ↦ drawn_other a a.filter i y (λ m e. e) j n k d
        | inl e ↦
            subst (λ (m : ℕ). (closing (x m) ≡ true) ⊎ (closes a.filter m ≡ true) ⊎ Drawn (x m)) (sym e)
            (subst (λ (z : Inlet). (closing z ≡ true) ⊎ (closes a.filter i ≡ true) ⊎ Drawn z) (sym (get_or-set_same a.ins.items i y d lt))
            (elim (subst (λ (z : Inlet). (closing z ≡ true) ⊎ (closes a.filter i ≡ true) ⊎ Drawn z) (sym v) (subst (λ (m : ℕ). DrawnAt closes a m) e k old)) [
              | inl q ↦ inl (c q)
              | inr (inl q) ↦ inr (inl q)
              | inr (inr q) ↦ inr (inr (drawn_same old y o r s q))
            ]))
      ]
    where
      x : ℕ → Inlet
      x m = slice_index_or (slice_set a.ins.items i y) m d

module _ {F : Type 0} (closes : F → ℕ → Bool) where
  -- all inputs, if one was closed
  pub drawn_closed : (a : Node F) (i : ℕ) (y : Inlet) → i < length a.ins.items → closing y ≡ true → (j : ℕ) → DrawnAt closes a j
      → DrawnAt closes record { filter = a.filter; inputs = a.inputs; outputs = a.outputs; ins = with_item a.ins i y; outs = a.outs; idle = a.idle } j
  drawn_closed a i y lt c j k d =
      elim (is_or_not i j) [
        | inr n ↦ drawn_other closes a a.filter i y (λ m e. e) j n k d
        | inl e ↦ inl (subst (λ (m : ℕ). closing (slice_index_or (slice_set a.ins.items i y) m d) ≡ true) (sym e) (ap closing (get_or-set_same a.ins.items i y d lt) ∙ c))
      ]

module _ {F : Type 0} (closes : F → ℕ → Bool) (accepts : F → ℕ → FrameValue → Type 0) where
  -- at a port where nothing was told
  pub infit_same : (f : F) (i : ℕ) (old y : Inlet) → y.finished ≡ old.finished → y.shape ≡ old.shape → y.last ≡ old.last → InFit closes accepts f i old → InFit closes accepts f i y
  infit_same f i old y e s l k = record {
    ready = λ b z m p. k.ready (sym e ∙ b) z (m ∙ s) (subst (λ (t : Option ℤ). IsPast t z.pts) l p);
    ended = λ b. k.ended (sym e ∙ b);
  }

module _ {F : Type 0} (closes : F → ℕ → Bool) where
  pub drawn_here : (a : Node F) (f : F) (i : ℕ) (y : Inlet) → i < length a.ins.items → (closes f i ≡ true) ⊎ Drawn y
      → DrawnAt closes record { filter = f; inputs = a.inputs; outputs = a.outputs; ins = with_item a.ins i y; outs = a.outs; idle = a.idle } i
  drawn_here a f i y lt k d =
      subst (λ (x : Inlet). (closing x ≡ true) ⊎ (closes f i ≡ true) ⊎ Drawn x) (sym (get_or-set_same a.ins.items i y d lt)) (inr k)

module _ {F : Type 0} (pads : F → Pads) (rest : F → Streams → Streams) (closes over : F → ℕ → Bool) where
  pub step_refl : (a : Node F) → Step pads rest closes over a a
  step_refl a = record { law = λ whole k. k; pads_are = refl; closes_stay = λ j k. k; in_ids = refl; out_ids = refl; inputs_are = refl; outputs_are = refl; shapes = refl; grows = omega arith }

  pub step_trans : (a b c : Node F) → Step pads rest closes over a b → Step pads rest closes over b c → Step pads rest closes over a c
  step_trans a b c p q = record {
    law = λ whole k. q.law whole (p.law whole k);
    pads_are = q.pads_are ∙ p.pads_are;
    closes_stay = λ j k. q.closes_stay j (p.closes_stay j k);
    in_ids = q.in_ids ∙ p.in_ids;
    out_ids = q.out_ids ∙ p.out_ids;
    inputs_are = q.inputs_are ∙ p.inputs_are;
    outputs_are = q.outputs_are ∙ p.outputs_are;
    shapes = q.shapes ∙ p.shapes;
    grows = omega (arith, p.grows, q.grows);
  }

-- ---- what was given, if one output changed

module _ {F : Type 0} where
  given_here : (a : Node F) (f : F) (o : ℕ) (y : Outlet) → o < length a.outs.items
      → given_all (let n : Node F = record { filter = f; inputs = a.inputs; outputs = a.outputs; ins = a.ins; outs = with_item a.outs o y; idle = a.idle } in n) o ≡ given y
  given_here a f o y lt = here_map given (open_stream []) a.outs.items o y lt

  pub given_other : (a : Node F) (f : F) (o : ℕ) (y : Outlet) (j : ℕ) → j ≢ o
      → given_all (let n : Node F = record { filter = f; inputs = a.inputs; outputs = a.outputs; ins = a.ins; outs = with_item a.outs o y; idle = a.idle } in n) j ≡ given_all a j
  given_other a f o y j n = other_map given (open_stream []) a.outs.items o j y n

  pub given_same : (a : Node F) (f : F) (o : ℕ) (old y : Outlet) → length a.outs.items ≡ a.outputs → o < a.outputs → old ≡ slice_index_or a.outs.items o old → given y ≡ given old → (j : ℕ)
      → given_all (let n : Node F = record { filter = f; inputs = a.inputs; outputs = a.outputs; ins = a.ins; outs = with_item a.outs o y; idle = a.idle } in n) j ≡ given_all a j
  given_same a f o old y len h v e j =
      let lt : o < length a.outs.items = subst (λ (m : ℕ). o < m) (sym len) h in
      elim (is_or_not o j) [
        | inr n ↦ given_other a f o y j n
        | inl q ↦ subst (λ (m : ℕ). given_all (let n : Node F = record { filter = f; inputs = a.inputs; outputs = a.outputs; ins = a.ins; outs = with_item a.outs o y; idle = a.idle } in n) m ≡ given_all a m) (sym q)
            (given_here a f o y lt ∙ e ∙ sym (read_map given (open_stream []) a.outs.items o old lt v))
      ]

  pub given_few : (a : Node F) (f : F) (o : ℕ) (old y : Outlet) → length a.outs.items ≡ a.outputs → o < a.outputs → old ≡ slice_index_or a.outs.items o old → length (given y).frames ≤ length (given old).frames + 1 → (j : ℕ)
      → length (given_all (let n : Node F = record { filter = f; inputs = a.inputs; outputs = a.outputs; ins = a.ins; outs = with_item a.outs o y; idle = a.idle } in n) j).frames ≤ length (given_all a j).frames + 1
  given_few a f o old y len h v few j =
      let lt : o < length a.outs.items = subst (λ (m : ℕ). o < m) (sym len) h in
      elim (is_or_not o j) [
        | inr n ↦ (let e = ap (λ (s : Stream). length s.frames) (given_other a f o y j n) in omega (arith, e))
        | inl q ↦ subst (λ (m : ℕ). length (given_all (let n : Node F = record { filter = f; inputs = a.inputs; outputs = a.outputs; ins = a.ins; outs = with_item a.outs o y; idle = a.idle } in n) m).frames ≤ length (given_all a m).frames + 1) (sym q)
            (let e = ap (λ (s : Stream). length s.frames) (given_here a f o y lt) in
            let g = ap (λ (s : Stream). length s.frames) (read_map given (open_stream []) a.outs.items o old lt v) in
            omega (arith, e, g, few))
      ]
