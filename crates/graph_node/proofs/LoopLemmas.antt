-- From one port to all.
use Rattle.std.proofs.Common.{[], ◌≡◌, ◌≢◌, ◌⊎◌, inl, inr, ℕ, ◌+◌, ◌<◌, Bool, true, false, refl, sym, subst, arith, Ok, Err, Result, None, ◌≤◌, ◌||◌, IsTrue}
use Rattle.std.specs.Prelude.{slice_index_or, IfOk}
use Rattle.av_frame.specs.Streams.{Streams, open_stream, nothing_more}
use Rattle.graph_node.specs.Ports.{is_done, is_wanted, closing, Drawn}
use Rattle.graph_node.specs.Nodes.{AllDone, SomeWanted, AllDrawn, AllAsked, AllNeed, outlet, inlet}
use Rattle.graph_node.specs.declared.inlet.Inlet.{Inlet}
use Rattle.graph_node.specs.declared.outlet.Outlet.{Outlet}
use Rattle.graph_node.specs.declared.node.Node.{Node}
use Rattle.graph_node.proofs.NodeLemmas.{is_or_not}
use Rattle.std.specs.Global.{Vec}

pub below_step : (P Q : ℕ → Type 0) (n : ℕ) → ((j : ℕ) → j < n → P j) → ((j : ℕ) → j ≢ n → P j → Q j) → Q n → (j : ℕ) → j < n + 1 → Q j
below_step P Q n below keep here j h =
    elim (is_or_not n j) [
      | inl e ↦ subst Q (sym e) here
      | inr e ↦ keep j e (below j (let ne : j ≢ n = e in omega arith))
    ]

-- where the later ones need a bound too
pub below_step_in : (P Q : ℕ → Type 0) (n m : ℕ) → n < m → ((j : ℕ) → j < n → P j) → ((j : ℕ) → j < m → P j → Q j) → Q n → (j : ℕ) → j < n + 1 → Q j
below_step_in P Q n m l below keep here j h =
    elim (is_or_not n j) [
      | inl e ↦ subst Q (sym e) here
      | inr e ↦ let k : j < n = (let ne : j ≢ n = e in omega arith) in keep j (omega arith) (below j k)
    ]

pub ok_same : {E : Type 0} (a b : Bool) → (let r : Result Bool E = Ok a in r) ≡ Ok b → a ≡ b
ok_same a b e = cc

module _ {F : Type 0} where
  pub done_same : (a b : Node F) → b.outs ≡ a.outs → b.outputs ≡ a.outputs → AllDone a → AllDone b
  done_same a b e f k o d l =
      subst (λ (v : Vec Outlet). is_done (slice_index_or v.items o d) ≡ true) (sym e) (k o d (subst (λ (m : ℕ). o < m) f l))

  pub wanted_same : (a b : Node F) → b.outs ≡ a.outs → b.outputs ≡ a.outputs → SomeWanted a → SomeWanted b
  wanted_same a b e f (o, d, l, w) =
      (o, d, subst (λ (m : ℕ). o < m) (sym f) l, subst (λ (v : Vec Outlet). is_wanted (slice_index_or v.items o d) ≡ true) (sym e) w)

  pub drawn_given : (closes : F → ℕ → Bool) (a b : Node F) → b.ins ≡ a.ins → b.inputs ≡ a.inputs → ((j : ℕ) → closes a.filter j ≡ true → closes b.filter j ≡ true) → AllDrawn closes a → AllDrawn closes b
  drawn_given closes a b e f c k i l d =
      let x : closing (inlet a i d) ≡ true ⊎ (closes b.filter i ≡ true) ⊎ Drawn (inlet a i d)
      = elim (k i (subst (λ (m : ℕ). i < m) f l) d) [ inl q ↦ inl q | inr (inl q) ↦ inr (inl (c i q)) | inr (inr q) ↦ inr (inr q) ] in
      subst (λ (v : Vec Inlet). (closing (slice_index_or v.items i d) ≡ true) ⊎ (closes b.filter i ≡ true) ⊎ Drawn (slice_index_or v.items i d)) (sym e) x

  pub asked_same : (rest : F → Streams → Streams) (a b : Node F) → b.outs ≡ a.outs → b.outputs ≡ a.outputs → b.filter ≡ a.filter → AllAsked rest a → AllAsked rest b
  asked_same rest a b e f g k o l d =
      subst (λ (v : Vec Outlet). (is_done (slice_index_or v.items o d) ≡ true) ⊎ ((rest b.filter nothing_more o ≡ open_stream []) × ((slice_index_or v.items o d).held ≡ None))) (sym e)
      (subst (λ (x : F). (is_done (outlet a o d) ≡ true) ⊎ ((rest x nothing_more o ≡ open_stream []) × ((outlet a o d).held ≡ None))) (sym g) (k o (subst (λ (m : ℕ). o < m) f l) d))

  pub need_same : (wants : F → ℕ → Bool) (a b : Node F) → b.outs ≡ a.outs → b.outputs ≡ a.outputs → b.inputs ≡ a.inputs → b.filter ≡ a.filter → AllNeed wants a → AllNeed wants b
  need_same wants a b e f h g k o d l q =
      let n = k o d (subst (λ (m : ℕ). o < m) f l) (subst (λ (v : Vec Outlet). is_done (slice_index_or v.items o d) ≡ false) e q) in
      (n.0, subst (λ (m : ℕ). n.0 < m) (sym h) n.1, subst (λ (x : F). wants x n.0 ≡ true) (sym g) n.2)

pub ok_moved : {E : Type 0} (r : Result Bool E) (P : Type 0) → r ≡ Ok true → IfOk r (λ moved. IsTrue moved → P) → P
ok_moved (Ok b) P e h = h (ok_same b true e)
ok_moved (Err x) P e h = absurd (cc)

-- one of six steps moved something
pub rise_of : (a b c d e f : Bool) (n0 n1 n2 n3 n4 n5 n6 : ℕ) → (a || b || c || d || e || f) ≡ true
    → n0 ≤ n1 → n1 ≤ n2 → n2 ≤ n3 → n3 ≤ n4 → n4 ≤ n5 → n5 ≤ n6
    → (a ≡ true → n0 < n1) → (b ≡ true → n1 < n2) → (c ≡ true → n2 < n3) → (d ≡ true → n3 < n4) → (e ≡ true → n4 < n5) → (f ≡ true → n5 < n6) → n0 < n6
rise_of true b c d e f n0 n1 n2 n3 n4 n5 n6 h g1 g2 g3 g4 g5 g6 m1 m2 m3 m4 m5 m6 = omega (arith, m1 refl, g2, g3, g4, g5, g6)
rise_of false true c d e f n0 n1 n2 n3 n4 n5 n6 h g1 g2 g3 g4 g5 g6 m1 m2 m3 m4 m5 m6 = omega (arith, g1, m2 refl, g3, g4, g5, g6)
rise_of false false true d e f n0 n1 n2 n3 n4 n5 n6 h g1 g2 g3 g4 g5 g6 m1 m2 m3 m4 m5 m6 = omega (arith, g1, g2, m3 refl, g4, g5, g6)
rise_of false false false true e f n0 n1 n2 n3 n4 n5 n6 h g1 g2 g3 g4 g5 g6 m1 m2 m3 m4 m5 m6 = omega (arith, g1, g2, g3, m4 refl, g5, g6)
rise_of false false false false true f n0 n1 n2 n3 n4 n5 n6 h g1 g2 g3 g4 g5 g6 m1 m2 m3 m4 m5 m6 = omega (arith, g1, g2, g3, g4, m5 refl, g6)
rise_of false false false false false true n0 n1 n2 n3 n4 n5 n6 h g1 g2 g3 g4 g5 g6 m1 m2 m3 m4 m5 m6 = omega (arith, g1, g2, g3, g4, g5, m6 refl)
rise_of false false false false false false n0 n1 n2 n3 n4 n5 n6 h g1 g2 g3 g4 g5 g6 m1 m2 m3 m4 m5 m6 = absurd (cc)

pub none_of : (a b c d e f : Bool) → (a || b || c || d || e || f) ≡ false → (c ≡ false) × (d ≡ false)
none_of true b c d e f h = absurd (cc)
none_of false true c d e f h = absurd (cc)
none_of false false true d e f h = absurd (cc)
none_of false false false true e f h = absurd (cc)
none_of false false false false e f h = (refl, refl)

-- what answered false did not rise
pub not_more : (b : Bool) (m n : ℕ) → b ≡ false → (m < n → IsTrue b) → n ≤ m
not_more b m n e f = elim (le_or m n) [ inl l ↦ l | inr l ↦ absurd (let t = f l in cc) ]
  where
    le_or : (m n : ℕ) → (n ≤ m) ⊎ (m < n)
    le_or m n = grind arith

pub all_none : (a b c d e f : Bool) → (a || b || c || d || e || f) ≡ false → (a ≡ false) × (b ≡ false) × (c ≡ false) × (d ≡ false) × (e ≡ false) × (f ≡ false)
all_none true b c d e f h = absurd (cc)
all_none false true c d e f h = absurd (cc)
all_none false false true d e f h = absurd (cc)
all_none false false false true e f h = absurd (cc)
all_none false false false false true f h = absurd (cc)
all_none false false false false false true h = absurd (cc)
all_none false false false false false false h = (refl, refl, refl, refl, refl, refl)
