-- The outputs of a host that knows no content.
use Rattle.std.proofs.Common.{◌≡◌, ℕ, ◌<◌, List, [], ◌∷◌, ◌++◌, length, get_or, set, Option, Some, None, IsSome, refl, sym, ◌∙◌, ap, arith}
use mathlib.Core.Path.{fun_ext}
use Rattle.std.proofs.lemmas.Option.{none-some, slice_get-get_or}
use Rattle.std.proofs.lemmas.List.{get_or_default}
use Rattle.av_host.specs.World.{Outputs}
use Rattle.av_host.specs.Calls.{AddsOutput, Alters}
use Rattle.av_host.specs.Files.{AltersAt}
use Rattle.av_host.specs.Named.{live_name}
use Rattle.av_host.proofs.NamedLemmas.{live_name_past, live_name_end, live_name_replaced, live_name_else, live_name-set, live_name_within, some_of}

abbrev pub silent_outputs : {A : Type 0} → (A → List ℕ) → List A → Outputs
silent_outputs name xs = record { name = λ id. live_name name xs id; content = λ n. None }

module _ {A : Type 0} (name : A → List ℕ) where
  -- a place whose output has a name is a place of the list
  pub within_of : (xs : List A) (i : ℕ) → IsSome (live_name name xs i) → i < length xs
  within_of xs i live = let some : (n : List ℕ) × (live_name name xs i ≡ Some n) = some_of _ live in live_name_within name xs i some.0 some.1

  pub silent_adds : (xs room ys : List A) (x : A) (n : List ℕ) → room ≡ xs → ys ≡ room ++ x ∷ [] → name x ≡ n → AddsOutput (silent_outputs name xs) (silent_outputs name ys) n (length xs)
  silent_adds xs room ys x n same pushed e = rw (pushed, same) record {
    is_new = live_name_past name xs (length xs) (omega arith);
    here = live_name_end name xs x ∙ ap Some e;
    replaced = λ other ne was. live_name_replaced name xs x other (was ∙ ap Some (sym e));
    elsewhere = λ other ne was. live_name_else name xs x other ne (λ h. was (h ∙ ap Some e));
    empty = λ y told. absurd (none-some y told);
    contents = λ other ne. refl;
  }

  pub silent_alters : (xs : List A) (i : ℕ) (x d : A) (change : List ℕ → List ℕ) → i < length xs → name x ≡ name (get_or xs i d) → Alters (silent_outputs name xs) (silent_outputs name (set xs i x)) i change
  silent_alters xs i x d change h e = record {
    name = fun_ext (λ j. live_name-set name xs i x j (e ∙ ap name (get_or_default xs i d x h)));
    content = λ n bytes live was. absurd (none-some (Some bytes) was);
    contents = λ other ne. refl;
  }

  pub silent_same : (xs : List A) (i : ℕ) (x d : A) → i < length xs → name x ≡ name (get_or xs i d) → silent_outputs name (set xs i x) ≡ silent_outputs name xs
  silent_same xs i x d h e =
      let make : (ℕ → Option (List ℕ)) → Outputs = λ f. record { name = f; content = λ n. None } in
      ap make (fun_ext (λ j. live_name-set name xs i x j (e ∙ ap name (get_or_default xs i d x h))))

  -- one output takes bytes, and all names stay
  pub silent_altered : (xs ys : List A) (i : ℕ) (change : List ℕ → List ℕ) (C : A → A → Type 0) → IsSome (live_name name xs i) → AltersAt xs ys i C
      → ((x y : A) → C x y → name y ≡ name x) → Alters (silent_outputs name xs) (silent_outputs name ys) i change
  silent_altered xs ys i change C live (y, e, at) same =
      let within = within_of xs i live in
      rw e (silent_alters xs i y y change within (same (get_or xs i y) y (at (get_or xs i y) (slice_get-get_or xs i y within))))

  pub silent_kept : (xs ys : List A) (i : ℕ) (C : A → A → Type 0) → IsSome (live_name name xs i) → AltersAt xs ys i C
      → ((x y : A) → C x y → name y ≡ name x) → silent_outputs name ys ≡ silent_outputs name xs
  silent_kept xs ys i C live (y, e, at) same =
      let within = within_of xs i live in
      rw e (silent_same xs i y y within (same (get_or xs i y) y (at (get_or xs i y) (slice_get-get_or xs i y within))))
