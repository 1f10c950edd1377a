-- What parameters say is in its range.
use Rattle.std.proofs.Common.{◌≡◌, ℕ, ◌-◌, ◌<◌, ◌≤◌, ◌==◌, ◌&&◌, ◌||◌, take, drop, get_or, Bool, true, false, eqb, ltb, leb, nat_lt, nat_le, nat_eq, Option, Some, None, List, [], ◌∷◌, length, refl, sym, ap, ◌∙◌, subst, arith, inl, inr, is_some}
use Rattle.std.specs.Prelude.{option_and_then, if◌then◌else◌, Contains, fold, filter_map}
use Rattle.std.specs.List.{cons_option}
use Rattle.std.specs.Option.{IfSome}
use Rattle.std.specs.List.{list_all, list_any, slice_split}
use Rattle.std.proofs.lemmas.List.Folds.{Any-from_list_any}
use Rattle.std.proofs.lemmas.Bool.{cases_Bool, and_parts, ltb-true, leb-true, eqb-true, or_parts, and_right, and_left, and_from, eqb-false, eq-eqb}
use Rattle.std.proofs.lemmas.List.{take_rest}
use Rattle.av_base.specs.declared.formats.PixelFormat.{PixelFormat}
use Rattle.av_base.specs.Bounds.{number_bound, greatest_side}
use Rattle.av_base.specs.Shapes.{scan_letters}
use Rattle.y4m_header.specs.Params.{Param, params_in, params_of, is_space, is_good, is_known, number_in, numbers_in, side_in, rate_in, aspect_in, scan_in, colour_in}
use Rattle.y4m_header.specs.Said.{said, said_in, latest, is_sized, are_in_order}
use Rattle.y4m_header.specs.Walk.{unsaid, said_after, said_of, outcome, AreInRange, IsOrdered}
use Rattle.y4m_header.specs.declared.params.Latest.{Latest}
use Rattle.y4m_header.proofs.ValueLemmas.{side_of, rate_of, aspect_of}

-- ---- values

abbrev last_of : {T : Type 0} → T → List T → T
last_of without values = fold (λ old new. new) without values

one_more : {T : Type 0} (P : T → Type 0) (o : Option T) (without : T) (values : List T) → IfSome o P → P without → ((x : T) → P x → P (last_of x values)) → P (last_of without (cons_option o values))
one_more P None without values each h rest = rest without h
one_more P (Some x) without values each h rest = rest x each

said_has : {T : Type 0} (P : T → Type 0) (read : List ℕ → Option T) (letter : ℕ) → ((value : List ℕ) → IfSome (read value) P) → (p : Param) → IfSome (said_in read letter p) P
said_has P read letter each p = elim (cases_Bool (eqb p.letter letter)) [ inl on ↦ rw on (each p.value) | inr off ↦ rw off tt ]

-- what the last parameter of a letter says is what some value says, or what holds without one
pub latest_has : {T : Type 0} (P : T → Type 0) (read : List ℕ → Option T) (letter : ℕ) → ((value : List ℕ) → IfSome (read value) P) → (without : T) → P without → (params : List Param) → P (latest without read letter params)
latest_has P read letter each without h [] = h
latest_has P read letter each without h (p ∷ params) =
    one_more P (said_in read letter p) without (filter_map (said_in read letter) params) (said_has P read letter each p) h (λ x is. latest_has P read letter each x is params)

then_has : {A B : Type 0} (P : B → Type 0) (f : A → Option B) → ((a : A) → IfSome (f a) P) → (o : Option A) → IfSome (option_and_then f o) P
then_has P f each None = tt
then_has P f each (Some a) = each a

if_has : {B : Type 0} (P : B → Type 0) (t : Bool) (x : B) → (t ≡ true → P x) → IfSome (if t then Some x else None) P
if_has P true x h = h refl
if_has P false x h = tt

side_range : (value : List ℕ) → IfSome (side_in value) (λ n. n ≤ greatest_side)
side_range value = then_has (λ n. n ≤ greatest_side) side_of (λ n. if_has (λ n. n ≤ greatest_side) (nat_lt 0 n && nat_le n greatest_side) n (λ e. leb-true n greatest_side (and_parts (ltb 0 n) (leb n greatest_side) e).1)) (number_in value)

record IsRate (r : ℕ × ℕ) : Type 0 where
  num_some : 0 < r.0
  num_fits : r.0 < number_bound
  den_some : 0 < r.1
  den_fits : r.1 < number_bound

rate_parts : (n d : ℕ) → ((nat_lt 0 n && nat_lt n number_bound) && (nat_lt 0 d && nat_lt d number_bound)) ≡ true → IsRate (n, d)
rate_parts n d e =
    let both = and_parts (ltb 0 n && ltb n number_bound) (ltb 0 d && ltb d number_bound) e in
    let num = and_parts (ltb 0 n) (ltb n number_bound) both.0 in
    let den = and_parts (ltb 0 d) (ltb d number_bound) both.1 in
    record { num_some = ltb-true 0 n num.0; num_fits = ltb-true n number_bound num.1; den_some = ltb-true 0 d den.0; den_fits = ltb-true d number_bound den.1 }

default_rate : IsRate (25, 1)
default_rate = record { num_some = omega arith; num_fits = omega arith; den_some = omega arith; den_fits = omega arith }

rate_of_range : (r : ℕ × ℕ) → IfSome (rate_of r) IsRate
rate_of_range (n, d) = elim (cases_Bool (eqb n 0 && eqb d 0)) [
  | inl on ↦ rw on default_rate
  | inr off ↦ rw off (if_has IsRate ((nat_lt 0 n && nat_lt n number_bound) && (nat_lt 0 d && nat_lt d number_bound)) (n, d) (rate_parts n d))
]

rate_range : (value : List ℕ) → IfSome (rate_in value) IsRate
rate_range value = then_has IsRate rate_of rate_of_range (numbers_in value)

record IsAspect (r : ℕ × ℕ) : Type 0 where
  num_fits : r.0 < number_bound
  den_some : 0 < r.1
  den_fits : r.1 < number_bound

unknown_aspect : IsAspect (0, 1)
unknown_aspect = record { num_fits = omega arith; den_some = omega arith; den_fits = omega arith }

aspect_parts : (n d : ℕ) → (nat_lt n number_bound && nat_lt d number_bound) ≡ true → IsAspect (if n == 0 || d == 0 then (0, 1) else (n, d))
aspect_parts n d e = elim (cases_Bool (eqb n 0 || eqb d 0)) [
  | inl on ↦ rw on unknown_aspect
  | inr off ↦
      let parts = or_parts (eqb n 0) (eqb d 0) off in
      let fits = and_parts (ltb n number_bound) (ltb d number_bound) e in
      let some = eqb-false d 0 parts.1 in
      rw off (record { num_fits = ltb-true n number_bound fits.0; den_some = omega (arith, some); den_fits = ltb-true d number_bound fits.1 })
]

aspect_range : (value : List ℕ) → IfSome (aspect_in value) IsAspect
aspect_range value = then_has IsAspect aspect_of (λ (n, d). if_has IsAspect (nat_lt n number_bound && nat_lt d number_bound) (if n == 0 || d == 0 then (0, 1) else (n, d)) (aspect_parts n d)) (numbers_in value)

scan_known : (c : ℕ) → list_any (nat_eq c) scan_letters ≡ true → Contains scan_letters c
scan_known c e =
    let found = Any-from_list_any (nat_eq c) scan_letters e in
    let same : c ≡ found.1 = eqb-true c found.1 found.4 in
    subst (λ (x : ℕ). Contains scan_letters x) (sym same) (found.0, found.2, found.3)

scan_range : (value : List ℕ) → IfSome (scan_in value) (λ c. Contains scan_letters c)
scan_range [] = tt
scan_range (c ∷ []) = if_has (λ c. Contains scan_letters c) (list_any (nat_eq c) scan_letters) c (scan_known c)
scan_range (c ∷ (d ∷ cs)) = tt

pub said_range : (params : List Param) → AreInRange (said_after unsaid params)
said_range params =
    let rate = latest_has IsRate rate_in 70 rate_range (25, 1) default_rate params in
    let aspect = latest_has IsAspect aspect_in 65 aspect_range (0, 1) unknown_aspect params in
    record {
      width = latest_has (λ n. n ≤ greatest_side) side_in 87 side_range 0 (omega arith) params;
      height = latest_has (λ n. n ≤ greatest_side) side_in 72 side_range 0 (omega arith) params;
      rate_num_some = rate.num_some;
      rate_num_fits = rate.num_fits;
      rate_den_some = rate.den_some;
      rate_den_fits = rate.den_fits;
      aspect_num_fits = aspect.num_fits;
      aspect_den_some = aspect.den_some;
      aspect_den_fits = aspect.den_fits;
      scan = latest_has (λ c. Contains scan_letters c) scan_in 73 scan_range 112 (0, omega arith, refl) params;
    }

-- ---- colours

-- where each name of a colour is known, the last one is
pub colour_known : (o : Option PixelFormat) (params : List Param) → is_some o ≡ true → list_all is_known params ≡ true → is_some (latest o (λ value. Some (colour_in value)) 67 params) ≡ true
colour_known o [] some known = some
colour_known o (p ∷ params) some known = elim (cases_Bool (eqb p.letter 67)) [
  | inl on ↦
      let parts = and_parts (is_known p) (list_all is_known params) known in
      let here : is_some (colour_in p.value) ≡ true = rw on at parts.0 in
      rw on (colour_known (colour_in p.value) params here parts.1)
  | inr off ↦ rw off (colour_known o params some (and_parts (is_known p) (list_all is_known params) known).1)
]

-- ---- order

abbrev pub good_of : Option (List Param) → Option Latest
good_of o = option_and_then (λ params. if list_all is_good params then Some (said_after unsaid params) else None) o

abbrev pub order_of : Option (List Param) → Option (List Param)
order_of o = option_and_then (λ params. if are_in_order params then Some params else None) o

small_order : (params : List Param) → is_sized (said params) ≡ false → are_in_order params ≡ false
small_order params e = and_right (list_all is_good params) (is_sized (said params)) e

pub order_small : (o : Option (List Param)) (s : Latest) → Some s ≡ good_of o → is_sized (said_of s) ≡ false → order_of o ≡ None
order_small None s e small = refl
order_small (Some params) s e small = elim (cases_Bool (list_all is_good params)) [
  | inl on ↦
      let is : Some s ≡ Some (said_after unsaid params) = e ∙ rw on refl in
      let same : s ≡ said_after unsaid params = cc in
      let sized : is_sized (said params) ≡ false = ap (λ (x : Latest). is_sized (said_of x)) (sym same) ∙ small in
      ap (λ (t : Bool). if t then Some params else None) (small_order params sized)
  | inr off ↦ ap (λ (t : Bool). if t then Some params else None) (and_left (list_all is_good params) (is_sized (said params)) off)
]

pub order_some : (o : Option (List Param)) (s : Latest) → Some s ≡ good_of o → is_sized (said_of s) ≡ true → (params : List Param) × (order_of o ≡ Some params) × (s ≡ said_after unsaid params)
order_some None s e sized = absurd (cc)
order_some (Some params) s e sized = elim (cases_Bool (list_all is_good params)) [
  | inl on ↦
      let is : Some s ≡ Some (said_after unsaid params) = e ∙ rw on refl in
      let same : s ≡ said_after unsaid params = cc in
      let sized : is_sized (said params) ≡ true = ap (λ (x : Latest). is_sized (said_of x)) (sym same) ∙ sized in
      (params, ap (λ (t : Bool). if t then Some params else None) (and_from (list_all is_good params) (is_sized (said params)) on sized), same)
  | inr off ↦ let is : Some s ≡ None = e ∙ rw off refl in absurd (cc)
]

pub good_range : (o : Option (List Param)) (s : Latest) → Some s ≡ good_of o → AreInRange s
good_range None s e = absurd (cc)
good_range (Some params) s e = elim (cases_Bool (list_all is_good params)) [
  | inl on ↦
      let is : Some s ≡ Some (said_after unsaid params) = e ∙ rw on refl in
      let same : s ≡ said_after unsaid params = cc in
      subst AreInRange (sym same) (said_range params)
  | inr off ↦ let is : Some s ≡ None = e ∙ rw off refl in absurd (cc)
]

pub ordered_here : (rest : List ℕ) (s : Latest) → 1 ≤ length rest → get_or rest 0 0 ≡ 32 → Some s ≡ outcome unsaid (slice_split is_space (take (length rest - 1) (drop 1 rest))) → is_sized (said_of s) ≡ true → IsOrdered rest s
ordered_here [] s some space e sized = absurd (omega arith)
ordered_here (c ∷ cs) s some space e sized =
    let good : Some s ≡ outcome unsaid (slice_split is_space cs) = e ∙ ap (λ (text : List ℕ). outcome unsaid (slice_split is_space text)) (take_rest (c ∷ cs) 1) in
    let found = order_some (params_in (slice_split is_space cs)) s good sized in
    let here : params_of (c ∷ cs) ≡ params_in (slice_split is_space cs) = rw (eq-eqb c 32 space) refl in
    record { params = found.0; ordered = ap order_of here ∙ found.1; said_is = found.2; range = good_range (params_in (slice_split is_space cs)) s good }
