-- The lists of a host in memory.
use Rattle.std.proofs.Common.{◌≡◌, ◌≢◌, ℕ, zero, suc, ◌+◌, ◌<◌, Bool, true, false, List, [], ◌∷◌, ◌++◌, length, get_or, set, take, drop, Option, Some, None, slice_get, option_map, nat_lt, refl, sym, ◌∙◌, ap, arith, length-set}
use mathlib.Core.Path.{fun_ext}
use Rattle.std.proofs.lemmas.Option.{same_Some}
use Rattle.std.proofs.lemmas.List.{set-get_or, drop-drop, take-append-drop}
use Rattle.av_host.specs.World.{Outputs}
use Rattle.av_host.specs.Calls.{ChangesAt, AddsOutput, Alters, Takes}
use Rattle.std.specs.Str.{bytes_eq}
use Rattle.std.proofs.Common.{cond}
use Rattle.av_host.specs.Named.{or_else, last_named, live_name}
use Rattle.av_host.specs.Memory.{name_of, bytes_of, left_of, inputs_of, outputs_of}
use Rattle.av_host.specs.declared.parts.NamedBytes.{NamedBytes}
use Rattle.av_host.specs.declared.parts.Source.{Source}
use Rattle.av_host.proofs.NamedLemmas.{last_named_here, last_named_else, live_name_past, live_name_end, live_name_replaced, live_name_else, live_name_is, live_name-set, last_named-set_here, last_named-set_else}

pub adds_output : (xs : List NamedBytes) (x : NamedBytes) (name : List ℕ) → name_of x ≡ name → bytes_of x ≡ [] → AddsOutput (outputs_of xs) (outputs_of (xs ++ x ∷ [])) name (length xs)
adds_output xs x name e empty = record {
  is_new = live_name_past name_of xs (length xs) (omega arith);
  here = live_name_end name_of xs x ∙ ap Some e;
  replaced = λ other ne was. live_name_replaced name_of xs x other (was ∙ ap Some (sym e));
  elsewhere = λ other ne was. live_name_else name_of xs x other ne (λ h. was (h ∙ ap Some e));
  empty = λ y told. rw (last_named_here name_of xs x name e, empty) refl;
  contents = λ other ne. rw (last_named_else name_of xs x other (λ h. ne (sym h ∙ e))) refl;
}

-- the thing at a live place is the last of its name
pub live_last : (xs : List NamedBytes) (i : ℕ) (n : List ℕ) (d : NamedBytes) → live_name name_of xs i ≡ Some n → last_named name_of xs n ≡ Some (get_or xs i d)
live_last xs i n d live =
    ap (λ ys. last_named name_of ys n) (sym (set-get_or xs i d)) ∙ last_named-set_here name_of xs i (get_or xs i d) n live (live_name_is name_of xs i n d live)

-- the content of one output changes
pub alters : (xs : List NamedBytes) (i : ℕ) (x : NamedBytes) (n : List ℕ) (change : List ℕ → List ℕ) → live_name name_of xs i ≡ Some n → name_of x ≡ name_of (get_or xs i x)
    → bytes_of x ≡ change (bytes_of (get_or xs i x)) → Alters (outputs_of xs) (outputs_of (set xs i x)) i change
alters xs i x n change live same changed = record {
  name = fun_ext (λ j. live_name-set name_of xs i x j same);
  content = λ m bytes live' was.
      let named : name_of x ≡ m = same ∙ live_name_is name_of xs i m x live' in
      let held = rw (live_last xs i m x live') at was in
      let bytes_is : bytes_of (get_or xs i x) ≡ bytes = same_Some _ _ (same_Some _ _ held) in
      rw (last_named-set_here name_of xs i x m live' named) (ap (λ b. Some (Some b)) (changed ∙ ap change bytes_is));
  contents = λ other ne.
      rw (last_named-set_else name_of xs i x other same (λ e. ne (live ∙ ap Some (sym (live_name_is name_of xs i n x live) ∙ sym same ∙ e)))) refl;
}

slice_get-set_here : {A : Type 0} (xs : List A) (i : ℕ) (x : A) → i < length xs → slice_get (set xs i x) i ≡ Some x
slice_get-set_here [] i x h = absurd (omega arith)
slice_get-set_here (y ∷ xs) zero x h = refl
slice_get-set_here (y ∷ xs) (suc i) x h = slice_get-set_here xs i x (omega arith)

slice_get-set_else : {A : Type 0} (xs : List A) (i j : ℕ) (x : A) → j ≢ i → slice_get (set xs i x) j ≡ slice_get xs j
slice_get-set_else [] i j x ne = refl
slice_get-set_else (y ∷ xs) zero zero x ne = absurd (ne refl)
slice_get-set_else (y ∷ xs) zero (suc j) x ne = refl
slice_get-set_else (y ∷ xs) (suc i) zero x ne = refl
slice_get-set_else (y ∷ xs) (suc i) (suc j) x ne = slice_get-set_else xs i j x (λ e. ne (ap suc e))

pub left_within : (xs : List Source) (i : ℕ) (d : Source) (left : List ℕ) → option_map left_of (slice_get xs i) ≡ Some left → (i < length xs) × (left_of (get_or xs i d) ≡ left)
left_within [] i d left e = absurd (let f : ◌≡◌ {A = Option (List ℕ)} None (Some left) = e in cc)
left_within (y ∷ xs) zero d left e = (omega arith, same_Some _ _ e)
left_within (y ∷ xs) (suc i) d left e = let p = left_within xs i d left e in (let h = p.0 in omega arith, p.1)

-- some bytes of an open input are taken
pub takes : (xs : List Source) (i : ℕ) (x : Source) (n : ℕ) (got : List ℕ) → x.bytes.items ≡ (get_or xs i x).bytes.items → x.at ≡ (get_or xs i x).at + n
    → got ≡ take n (left_of (get_or xs i x)) → length got ≡ n → Takes (inputs_of xs) (inputs_of (set xs i x)) i got
takes xs i x n got same moved first size =
    let old = left_of (get_or xs i x) in
    let now : left_of x ≡ drop (length got) old =
    ap (λ b. drop x.at b) same ∙ ap (λ k. drop k (get_or xs i x).bytes.items) moved
    ∙ sym (drop-drop n (get_or xs i x).at (get_or xs i x).bytes.items) ∙ ap (λ k. drop k old) (sym size) in
    record {
      is_open = ap (λ k. λ (id : ℕ). nat_lt id k) (length-set xs i x);
      elsewhere = λ other ne. ap (option_map left_of) (slice_get-set_else xs i other x ne);
      left = λ left e.
          let p = left_within xs i x left e in
          ap (option_map left_of) (slice_get-set_here xs i x p.0) ∙ ap Some (now ∙ ap (drop (length got)) p.1);
      begins = λ left e.
          let p = left_within xs i x left e in
          sym p.1 ∙ sym (take-append-drop n old) ∙ ap (λ ys. ys ++ drop n old) (sym first) ∙ ap (λ k. got ++ drop k old) (sym size) ∙ ap (λ ys. got ++ drop (length got) ys) p.1;
    }

either_bytes : (o : Option NamedBytes) (t : Bool) (x y : NamedBytes) → bytes_of x ≡ bytes_of y → option_map bytes_of (or_else o (cond t (Some x) None)) ≡ option_map bytes_of (or_else o (cond t (Some y) None))
either_bytes (Some z) t x y e = refl
either_bytes None true x y e = ap Some e
either_bytes None false x y e = refl

either_bytes_else : (o p q : Option NamedBytes) → option_map bytes_of o ≡ option_map bytes_of p → option_map bytes_of (or_else o q) ≡ option_map bytes_of (or_else p q)
either_bytes_else (Some x) (Some y) q e = e
either_bytes_else (Some x) None q e = absurd (let f : ◌≡◌ {A = Option (List ℕ)} (Some (bytes_of x)) None = e in cc)
either_bytes_else None (Some y) q e = absurd (let f : ◌≡◌ {A = Option (List ℕ)} None (Some (bytes_of y)) = e in cc)
either_bytes_else None None q e = refl

content_same : (xs : List NamedBytes) (i : ℕ) (x : NamedBytes) (n : List ℕ) → name_of x ≡ name_of (get_or xs i x) → bytes_of x ≡ bytes_of (get_or xs i x)
    → option_map bytes_of (last_named name_of (set xs i x) n) ≡ option_map bytes_of (last_named name_of xs n)
content_same [] i x n e b = refl
content_same (y ∷ xs) zero x n e b =
    ap (λ m. option_map bytes_of (or_else (last_named name_of xs n) (cond (bytes_eq m n) (Some x) None))) e
    ∙ either_bytes (last_named name_of xs n) (bytes_eq (name_of y) n) x y b
content_same (y ∷ xs) (suc i) x n e b =
    either_bytes_else (last_named name_of (set xs i x) n) (last_named name_of xs n) (cond (bytes_eq (name_of y) n) (Some y) None) (content_same xs i x n e b)

-- an output that is written over with the same bytes
pub unaltered : (xs : List NamedBytes) (i : ℕ) (x : NamedBytes) → name_of x ≡ name_of (get_or xs i x) → bytes_of x ≡ bytes_of (get_or xs i x) → outputs_of (set xs i x) ≡ outputs_of xs
unaltered xs i x e b =
    let make : (ℕ → Option (List ℕ)) → (List ℕ → Option (Option (List ℕ))) → Outputs = λ f g. record { name = f; content = g } in
    ap (λ f. make f (outputs_of (set xs i x)).content) (fun_ext (λ j. live_name-set name_of xs i x j e))
    ∙ ap (make (outputs_of xs).name) (fun_ext (λ n. ap Some (content_same xs i x n e b)))

-- one more named thing
pub adds_held : (xs ys : List NamedBytes) (x : NamedBytes) (n b : List ℕ) → ys ≡ xs ++ x ∷ [] → name_of x ≡ n → bytes_of x ≡ b
    → ChangesAt (λ m. option_map bytes_of (last_named name_of xs m)) (λ m. option_map bytes_of (last_named name_of ys m)) n (Some b)
adds_held xs ys x n b pushed e same = record {
  here = rw (pushed, last_named_here name_of xs x n e) (ap Some same);
  elsewhere = λ other ne. rw (pushed, last_named_else name_of xs x other (λ h. ne (sym h ∙ e))) refl;
}
