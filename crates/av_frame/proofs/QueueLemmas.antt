-- Queues seen as lists of frames by `f`, with one changed.
use Rattle.std.proofs.Common.{◌≡◌, ◌≢◌, ℕ, zero, suc, ◌+◌, ◌<◌, ◌≤◌, Bool, true, false, ◌&&◌, List, [], ◌∷◌, ◌++◌, map, length, get_or, set, take, Option, Some, None, sym, ◌∙◌, ap, refl, arith, get_or-set_same, get_or-set_other}
use Rattle.std.specs.Prelude.{IfSome, IfNone, option_to_list, slice_get}
use Rattle.std.specs.List.{list_all}
use Rattle.std.proofs.Common.{⊎_elim}
use Rattle.std.proofs.lemmas.List.{set-get_or, map-set, get_or-map, length-map, length_push, take_at, take-take, take-set, take_more, take_more_set, get_or_push, get_or-take}
use Rattle.std.proofs.lemmas.List.Folds.{list_all-append}
use Rattle.std.proofs.lemmas.Option.{get_or_from_slice_get, same_Some}
use Rattle.std.proofs.lemmas.Bool.{cases_eq}
use Rattle.av_frame.specs.Frames.{FrameValue}
use Rattle.av_frame.specs.Rules.{queue}

queue_is : {X : Type 0} (f : X → List FrameValue) (qs : List X) (q : X) (o : ℕ) → o < length qs → q ≡ get_or qs o q → queue (map f qs) o ≡ f q
queue_is f qs q o h e = get_or-map f qs o q [] h ∙ ap f (sym e)

queue_set : {X : Type 0} (f : X → List FrameValue) (qs : List X) (new : X) (o : ℕ) → o < length qs → queue (map f (set qs o new)) o ≡ f new
queue_set f qs new o h = let k : o < length (map f qs) = rw length-map h in rw map-set (get_or-set_same (map f qs) o (f new) [] k)

pub queue_other : {X : Type 0} (f : X → List FrameValue) (qs : List X) (new : X) (o j : ℕ) → j ≢ o → queue (map f (set qs o new)) j ≡ queue (map f qs) j
queue_other f qs new o j h = rw map-set (get_or-set_other (map f qs) o j (f new) [] h)

same_lists : {X : Type 0} (f : X → List FrameValue) (qs : List X) (q new : X) (o : ℕ) → o < length qs → q ≡ get_or qs o q → f new ≡ f q → map f (set qs o new) ≡ map f qs
same_lists f qs q new o h e p =
    map-set f qs o new ∙ (ap (set (map f qs) o) (p ∙ sym (queue_is f qs q o h e)) ∙ set-get_or (map f qs) o [])

pub pop_some : {X : Type 0} (f : X → List FrameValue) (qs : List X) (q new : X) (o : ℕ) (r : Option FrameValue) → o < length qs → q ≡ get_or qs o q → f q ≡ option_to_list r ++ f new
    → IfSome r (λ x. queue (map f qs) o ≡ x ∷ queue (map f (set qs o new)) o)
pop_some f qs q new o None h e p = tt
pop_some f qs q new o (Some x) h e p = queue_is f qs q o h e ∙ (p ∙ ap (λ ys. x ∷ ys) (sym (queue_set f qs new o h)))

pub pop_none : {X : Type 0} (f : X → List FrameValue) (qs : List X) (q new : X) (o : ℕ) (r : Option FrameValue) → o < length qs → q ≡ get_or qs o q → f q ≡ option_to_list r ++ f new
    → IfNone r (map f (set qs o new) ≡ map f qs)
pop_none f qs q new o (Some x) h e p = tt
pop_none f qs q new o None h e p = same_lists f qs q new o h e (sym p)

pub reserved : {X : Type 0} (f : X → List FrameValue) (qs : List X) (q new : X) (o : ℕ) → o < length qs → q ≡ get_or qs o q → f new ≡ f q → map f (set qs o new) ≡ map f qs
reserved f qs q new o h e p = same_lists f qs q new o h e p

pub pushed : {X : Type 0} (f : X → List FrameValue) (qs : List X) (q new : X) (o : ℕ) (x : FrameValue) → o < length qs → q ≡ get_or qs o q → f new ≡ f q ++ x ∷ []
    → queue (map f (set qs o new)) o ≡ queue (map f qs) o ++ x ∷ []
pushed f qs q new o x h e p = queue_set f qs new o h ∙ (p ∙ ap (λ ys. ys ++ x ∷ []) (sym (queue_is f qs q o h e)))

both_true : (a b : Bool) → a ≡ true → b ≡ true → (a && (b && true)) ≡ true
both_true true true e f = refl
both_true true false e f = cc
both_true false b e f = cc

pub room_more : {X : Type 0} (p : X → Bool) (qs : List X) (new : X) (i : ℕ) → i < length qs → list_all p (take i qs) ≡ true → p new ≡ true → list_all p (take (i + 1) (set qs i new)) ≡ true
room_more p qs new i h a b = rw (take_more_set qs i new h, list_all-append) (both_true _ _ a b)

first_true : (a b : Bool) → (a && b) ≡ true → a ≡ true
first_true true b e = refl
first_true false b e = e

pub room_less : {X : Type 0} (p : X → Bool) (qs : List X) (new d : X) (i : ℕ) → i < length qs → list_all p (take (i + 1) qs) ≡ true → list_all p (take i (set qs i new)) ≡ true
room_less p qs new d i h a = rw take-set (first_true _ _ (rw (take_more qs i d h, list_all-append) at a))

pub room_at : {X : Type 0} (p : X → Bool) (qs : List X) (q : X) (i : ℕ) → i < length qs → q ≡ get_or qs i q → list_all p (take (i + 1) qs) ≡ true → p q ≡ true
room_at p qs q i h e a = second_true _ _ (rw (take_more qs i q h, list_all-append, ← e) at a)
  where
    second_true : (a b : Bool) → (a && (b && true)) ≡ true → b ≡ true
    second_true true true e = refl
    second_true true false e = e
    second_true false b e = cc

pub front_less : (less more all : List FrameValue) (x : FrameValue) → more ≡ less ++ x ∷ [] → length more ≤ length all → more ≡ take (length more) all → less ≡ take (length less) all
front_less less more all x e h f =
    let n : length more ≡ length less + 1 = ap length e ∙ length_push less x in
    let k : length less ≤ length more = omega arith in
    sym (take_at less (x ∷ []) (length less) refl) ∙ (ap (take (length less)) (sym e ∙ f) ∙ take-take (length less) (length more) all k)

pub last_is : (less more all : List FrameValue) (x y : FrameValue) → more ≡ less ++ x ∷ [] → more ≡ take (length more) all → slice_get all (length less) ≡ Some y → x ≡ y
last_is less more all x y e f g =
    let n : length more ≡ length less + 1 = ap length e ∙ length_push less x in
    let k : length less < length more = omega arith in
    sym (get_or_push less x x (length less) refl) ∙ (ap (λ zs. get_or zs (length less) x) (sym e ∙ f) ∙ (get_or-take (length more) all (length less) x k ∙ get_or_from_slice_get all (length less) y x g))

-- one of the later frames was pushed, at its place behind the first one
pub pushed_on : (first : FrameValue) (old now next : List (List FrameValue)) (less more all : List FrameValue) (x : FrameValue)
    → more ≡ less ++ x ∷ [] → more ≡ take (length more) all
    → queue next (length less + 1) ≡ queue now (length less + 1) ++ x ∷ []
    → ((j : ℕ) → j ≢ length less + 1 → queue next j ≡ queue now j)
    → ((o : ℕ) → o < length more + 1 → queue now o ≡ queue old o)
    → ((o : ℕ) (y : FrameValue) → length more + 1 ≤ o → slice_get (first ∷ all) o ≡ Some y → queue now o ≡ queue old o ++ y ∷ [])
    → (o : ℕ) (y : FrameValue) → length less + 1 ≤ o → slice_get (first ∷ all) o ≡ Some y → queue next o ≡ queue old o ++ y ∷ []
pushed_on first old now next less more all x m fr here others below rest o y k g =
    let n : length more ≡ length less + 1 = ap length m ∙ length_push less x in
    ⊎_elim
    (λ (s : o ≡ length less + 1).
    let s' : o ≡ suc (length less) = omega arith in
    let g' : slice_get all (length less) ≡ Some y = rw s' at g in
    let t : length less + 1 < length more + 1 = omega arith in
    rw (s, ← last_is less more all x y m fr g') (here ∙ ap (λ ys. ys ++ x ∷ []) (below (length less + 1) t)))
    (λ (s : o ≢ length less + 1).
    let t : length more + 1 ≤ o = omega arith in
    others o s ∙ rest o y t g)
    (cases_eq o (length less + 1))

pub below_on : (old now next : List (List FrameValue)) (less more : List FrameValue) (x : FrameValue)
    → more ≡ less ++ x ∷ []
    → ((j : ℕ) → j ≢ length less + 1 → queue next j ≡ queue now j)
    → ((o : ℕ) → o < length more + 1 → queue now o ≡ queue old o)
    → (o : ℕ) → o < length less + 1 → queue next o ≡ queue old o
below_on old now next less more x m others below o h =
    let n : length more ≡ length less + 1 = ap length m ∙ length_push less x in
    let t : o < length more + 1 = omega arith in
    let s : o ≢ length less + 1 = omega arith in
    others o s ∙ below o t

-- the first frame was pushed, behind all later ones
pub pushed_first : (first : FrameValue) (old now next : List (List FrameValue)) (all : List FrameValue)
    → queue next 0 ≡ queue now 0 ++ first ∷ []
    → ((j : ℕ) → j ≢ 0 → queue next j ≡ queue now j)
    → queue now 0 ≡ queue old 0
    → ((o : ℕ) (y : FrameValue) → 1 ≤ o → slice_get (first ∷ all) o ≡ Some y → queue now o ≡ queue old o ++ y ∷ [])
    → (o : ℕ) (y : FrameValue) → slice_get (first ∷ all) o ≡ Some y → queue next o ≡ queue old o ++ y ∷ []
pushed_first first old now next all here others same rest zero y g = rw (here, same, same_Some first y g) refl
pushed_first first old now next all here others same rest (suc o) y g = others (suc o) (omega arith) ∙ rest (suc o) y (omega arith) g

-- what was dry stays dry
pub pop_dry : (old new : List (List FrameValue)) (at o : ℕ) (r : Option FrameValue)
    → IfSome r (λ x. queue old at ≡ x ∷ queue new at) → IfNone r (new ≡ old) → ((j : ℕ) → j ≢ at → queue new j ≡ queue old j)
    → queue old o ≡ [] → queue new o ≡ []
pop_dry old new at o None p q k e = rw q e
pop_dry old new at o (Some x) p q k e = ⊎_elim
    (λ (s : o ≡ at). absurd (none (sym (rw s at e) ∙ p)))
    (λ (s : o ≢ at). k o s ∙ e)
    (cases_eq o at)
  where
    none : (let no : List FrameValue = [] in no) ≡ x ∷ queue new at → ⊥
    none k = cc
