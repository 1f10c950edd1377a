-- What is known of words, word by word.
use Rattle.std.proofs.Common.{◌≡◌, ◌<◌, ◌≤◌, ◌+◌, ◌-◌, ◌++◌, ◌⊎◌, ◌↔◌, ℕ, Bool, true, false, cond, not, zero, suc, List, [], ◌∷◌, Option, Some, None, option_map, get_or, filter, length, take, drop, bytes_eq, IsTrue, nat_eq, lit<, refl, sym, ◌∙◌, ap, subst, inl, inr, arith}
use Rattle.std.specs.List.{slice_get}
use Rattle.std.specs.Option.{is_some, IfSome, IsNone}
use Rattle.std.proofs.lemmas.Bool.{false≢true}
use Rattle.std.proofs.lemmas.Bool.Decides.{Decides-eqb}
use Rattle.std.proofs.lemmas.Option.{same_Some, none-some, slice_get_within, slice_get-map, slice_get-get_or}
use Rattle.std.proofs.lemmas.List.{take_more, get_or-map, length-map, length-append, length-drop, drop_all}
use Rattle.std.proofs.lemmas.List.Filters.{length-filter_more}
use Rattle.std.proofs.lemmas.Slice.Eq.{bytes_eq-Decides}
use Rattle.av_words.specs.declared.word_roles.Role.{Role}
use Rattle.av_words.specs.declared.word_roles.Role.TheVariants.{Quiet, Value, File}
use Rattle.av_words.specs.declared.word_roles.Valued.TheVariants.{Input, Map}
use Rattle.av_words.specs.declared.word_roles.Item.{Item}
use Rattle.av_faults.specs.declared.fault.Fault.{Fault}
use Rattle.av_faults.specs.declared.fault.Fault.TheVariants.{UnknownWord, MissingValue, BadNumber, BadEnding, SameName}
use Rattle.av_words.specs.WordRoles.{Said, said_of, line_of}
use Rattle.av_words.specs.WordFaults.{IsAt, Has, Lacks, IsLast, map_after, waiting, IsUnknown, LacksValue, IsBadNumber, HasBadEnding, IsSameName, HoldsAt, HasFault, word_of, rank_of, IsBefore, IsFirstFault}
use Rattle.av_words.specs.WordChecks.{HasNoneAt, IsFirstAt, IsLastOf}

-- ---- one word more

abbrev pub said_as : Role → List ℕ → Said
said_as role word = record { role = role; word = word }

pub at_left : (before after : List Said) (n : ℕ) (x : Said) → slice_get before n ≡ Some x → slice_get (before ++ after) n ≡ Some x
at_left [] after n x here = absurd (cc)
at_left (y ∷ ys) after zero x here = here
at_left (y ∷ ys) after (suc n) x here = at_left ys after n x here

pub at_end : (before : List Said) (x : Said) → slice_get (before ++ x ∷ []) (length before) ≡ Some x
at_end [] x = refl
at_end (y ∷ ys) x = at_end ys x

pub at_more : (before : List Said) (last : Said) (n : ℕ) (x : Said) → slice_get (before ++ last ∷ []) n ≡ Some x → (slice_get before n ≡ Some x) ⊎ (last ≡ x)
at_more [] last zero x here = inr (same_Some last x here)
at_more [] last (suc n) x here = absurd (cc)
at_more (y ∷ ys) last zero x here = inl here
at_more (y ∷ ys) last (suc n) x here = at_more ys last n x here

-- the last word is another thing
pub has_other : (before : List Said) (role : Role) (name : List ℕ) (which : Role) (other : List ℕ) → (role ≡ which → ⊥) → Has (before ++ said_as role name ∷ []) which other ↔ Has before which other
has_other before role name which other apart = (
  λ h. elim (at_more before (said_as role name) h.0 (said_as which other) h.1) [
    | inl old ↦ (h.0, old)
    | inr same ↦ absurd (apart (ap (λ (s : Said). s.role) same))
  ],
  λ h. (h.0, at_left before (said_as role name ∷ []) h.0 (said_as which other) h.1),
)

-- the last word is this thing, and a set of names has its name too
pub has_noted : (before : List Said) (role : Role) (name : List ℕ) (old new : List ℕ → Bool) → ((other : List ℕ) → IsTrue (old other) ↔ Has before role other)
    → ((other : List ℕ) → new other ≡ cond (bytes_eq name other) true (old other)) → (other : List ℕ) → IsTrue (new other) ↔ Has (before ++ said_as role name ∷ []) role other
has_noted before role name old new knows update other = (
  λ t. (
      let step : (b : Bool) → bytes_eq name other ≡ b → cond b true (old other) ≡ true → Has (before ++ said_as role name ∷ []) role other =
      λ b. elim b as (λ b. bytes_eq name other ≡ b → cond b true (old other) ≡ true → Has (before ++ said_as role name ∷ []) role other) [
        | true ↦ λ e _. (length before, subst (λ (w : List ℕ). slice_get (before ++ said_as role name ∷ []) (length before) ≡ Some (said_as role w)) ((bytes_eq-Decides name other).0 e) (at_end before (said_as role name)))
        | false ↦ λ _ is. (let h = (knows other).0 is in (h.0, at_left before (said_as role name ∷ []) h.0 (said_as role other) h.1))
      ] in
      step (bytes_eq name other) refl (sym (update other) ∙ t)
      ),
  λ h. update other ∙ elim (at_more before (said_as role name) h.0 (said_as role other) h.1) [
    | inl here ↦ (
        let is = (knows other).1 (h.0, here) in
        let step : (b : Bool) → cond b true (old other) ≡ true = λ b. elim b as (λ b. cond b true (old other) ≡ true) [ true ↦ refl | false ↦ is ] in
        step (bytes_eq name other)
        )
    | inr same ↦ (
        let e = (bytes_eq-Decides name other).1 (ap (λ (s : Said). s.word) same) in
        ap (λ (b : Bool). cond b true (old other)) e
        )
  ],
)

pub waiting_more : (map : Option (List ℕ)) (before : List Said) (last : Said) → waiting map (before ++ last ∷ []) ≡ map_after last.role last.word (waiting map before)
waiting_more map [] last = refl
waiting_more map (x ∷ xs) last = waiting_more (map_after x.role x.word map) xs last

-- a word that is no file and no value of `-map`
pub same_map : (role : Role) (word : List ℕ) (map : Option (List ℕ)) → (role ≡ Value Map → ⊥) → (role ≡ File → ⊥) → map_after role word map ≡ map
same_map (Value Map) word map a b = absurd (a refl)
same_map File word map a b = absurd (b refl)
same_map other word map a b = refl

-- ---- names

pub same_as_output : (before : List Said) (role : Role) (word : List ℕ) (r : Bool) → role ≡ Value Input → IsTrue r ↔ Has before File word → IsTrue r ↔ IsSameName before role word
same_as_output before role word r is knows = rw is knows

-- ---- values

-- a value is rejected if nothing was read of it
pub not_taken : {X : Type 0} (o : Option X) (Says : X → Type 0) (r : Bool) → is_some o ≡ not r → IfSome o Says → (IsNone o → (x : X) → Says x → ⊥) → IsTrue r ↔ (((x : X) × Says x) → ⊥)
not_taken None Says true e found none = (λ _ h. none refl h.0 h.1, λ _. refl)
not_taken None Says false e found none = absurd (false≢true e)
not_taken (Some x) Says true e found none = absurd (false≢true (sym e))
not_taken (Some x) Says false e found none = (λ t. absurd (false≢true t), λ h. absurd (h (x, found)))

-- ---- items

-- what is read past the end of a list of items
abbrev pub no_item : Item
no_item = record { role = Quiet; word = record { ref_ptr = (0, 0); now = [] } }

pub item_here : (items : List Item) (i : ℕ) (d : Item) → i < length items → slice_get (line_of items) i ≡ Some (said_of (get_or items i d))
item_here items i d within = slice_get-map said_of items i ∙ ap (option_map said_of) (slice_get-get_or items i d within)

pub line_more : (items : List Item) (i : ℕ) (d : Item) → i < length items → take (i + 1) (line_of items) ≡ take i (line_of items) ++ said_of (get_or items i d) ∷ []
line_more items i d within =
    let inside : i < length (line_of items) = omega (arith, length-map items said_of) in
    take_more (line_of items) i (said_of d) inside ∙ ap (λ (s : Said). take i (line_of items) ++ s ∷ []) (get_or-map said_of items i d (said_of d) within)

-- a count of words of one kind, and one word more
pub counted_more : (p : Said → Bool) (items : List Item) (i : ℕ) (d : Item) → i < length items
    → (p (said_of (get_or items i d)) ≡ true → length (filter p (take (i + 1) (line_of items))) ≡ length (filter p (take i (line_of items))) + 1)
    × (p (said_of (get_or items i d)) ≡ false → length (filter p (take (i + 1) (line_of items))) ≡ length (filter p (take i (line_of items))))
counted_more p items i d within =
    let one = length-filter_more p (line_of items) i (said_of d) (omega (arith, length-map items said_of)) in
    let same = get_or-map said_of items i d (said_of d) within in (
      λ e. one ∙ ap (λ (b : Bool). length (filter p (take i (line_of items))) + cond b 1 0) (ap p same ∙ e),
      λ e. one ∙ ap (λ (b : Bool). length (filter p (take i (line_of items))) + cond b 1 0) (ap p same ∙ e) ∙ omega arith,
    )

-- ---- the last word of a role

pub last_taken : (before : List Said) (item : Said) (role : Role) (at : ℕ) → item.role ≡ role → at ≡ length before → IsLastOf (before ++ item ∷ []) role (Some at)
last_taken before item role at is end =
    let here : slice_get (before ++ item ∷ []) at ≡ Some (said_as role item.word) =
    rw end (at_end before item ∙ ap (λ (r : Role). Some (said_as r item.word)) is) in (
      item.word,
      record {
        here = here;
        later = λ n other more there. let within = slice_get_within (before ++ item ∷ []) n (said_as role other) there in omega (arith, length-append before (item ∷ []));
      },
    )

pub last_kept : (before : List Said) (item : Said) (role : Role) (last : Option ℕ) → (item.role ≡ role → ⊥) → IsLastOf before role last → IsLastOf (before ++ item ∷ []) role last
last_kept before item role None apart lacks = λ word h. elim (at_more before item h.0 (said_as role word) h.1) [
  | inl old ↦ lacks word (h.0, old)
  | inr same ↦ apart (ap (λ (s : Said). s.role) same)
]
last_kept before item role (Some at) apart is = (
  is.0,
  record {
    here = at_left before (item ∷ []) at (said_as role is.0) is.1.here;
    later = λ n other more there. elim (at_more before item n (said_as role other) there) [
      | inl old ↦ is.1.later n other more old
      | inr same ↦ apart (ap (λ (s : Said). s.role) same)
    ];
  },
)

-- ---- words that follow

pub get_drop : {X : Type 0} (xs : List X) (k j m : ℕ) → m ≡ k + j → slice_get (drop k xs) j ≡ slice_get xs m
get_drop xs zero j m e = let same : m ≡ j = omega arith in ap (slice_get xs) (sym same)
get_drop [] (suc k) j m e = refl
get_drop (x ∷ xs) (suc k) j zero e = absurd (omega arith)
get_drop (x ∷ xs) (suc k) j (suc m) e = get_drop xs k j m (omega arith)

pub one_after : (line : List Said) (n at : ℕ) (role : Role) (word : List ℕ) → IsLast line role at word → n < at → Lacks (drop (n + 1) line) role → ⊥
one_after line n at role word last less lacks = lacks word (at - (n + 1), get_drop line (n + 1) (at - (n + 1)) at (omega arith) ∙ last.here)

pub none_after : (line : List Said) (n at : ℕ) (role : Role) (word : List ℕ) → IsLast line role at word → at ≤ n → Lacks (drop (n + 1) line) role
none_after line n at role word last less other h = last.later (n + 1 + h.0) other (omega arith) (sym (get_drop line (n + 1) h.0 (n + 1 + h.0) refl) ∙ h.1)

pub never_after : (line : List Said) (n : ℕ) (role : Role) → Lacks line role → Lacks (drop (n + 1) line) role
never_after line n role lacks other h = lacks other (n + 1 + h.0, sym (get_drop line (n + 1) h.0 (n + 1 + h.0) refl) ∙ h.1)

-- nothing follows the last word
pub nothing_after : (line : List Said) (n : ℕ) → n < length line → (n + 1 ≡ length line) ↔ (drop (n + 1) line ≡ [])
nothing_after line n within = (
  λ e. drop_all (n + 1) line (omega arith),
  λ e. omega (arith, length-drop (n + 1) line, ap length e),
)

-- ---- the faults of one word

module _ (line : List Said) (n : ℕ) (role : Role) (word : List ℕ) (here : IsAt line n role word) where
  stands_here : (Fails : List Said → Role → List ℕ → List Said → Type 0) → HoldsAt Fails line n → Fails (take n line) role word (drop (n + 1) line)
  stands_here Fails stands =
      let same = same_Some (said_as stands.role stands.word) (said_as role word) (sym stands.here ∙ here) in
      let P : Said → Type 0 = λ s. Fails (take n line) s.role s.word (drop (n + 1) line) in
      subst P same stands.fails

  -- no fault of a rank below this
  pub ranked : (k : ℕ) → (0 < k → IsUnknown (take n line) role word → ⊥) → (1 < k → LacksValue role (drop (n + 1) line) → ⊥) → (2 < k → IsBadNumber role word → ⊥)
      → (3 < k → HasBadEnding role word → ⊥) → (4 < k → IsSameName (take n line) role word → ⊥)
      → (fault : Fault) → word_of fault ≡ Some n → rank_of fault < k → HasFault line fault → ⊥
  ranked k u l b e s (UnknownWord m) is less has = u less (stands_here (λ before role word after. IsUnknown before role word) (rw (same_Some m n is) at has))
  ranked k u l b e s (MissingValue m) is less has = l less (stands_here (λ before role word after. LacksValue role after) (rw (same_Some m n is) at has))
  ranked k u l b e s (BadNumber m) is less has = b less (stands_here (λ before role word after. IsBadNumber role word) (rw (same_Some m n is) at has))
  ranked k u l b e s (BadEnding m) is less has = e less (stands_here (λ before role word after. HasBadEnding role word) (rw (same_Some m n is) at has))
  ranked k u l b e s (SameName m) is less has = s less (stands_here (λ before role word after. IsSameName before role word) (rw (same_Some m n is) at has))
  ranked k u l b e s other is less has = none-some n is

  -- a fault of which the checks before it found none
  pub first_at : (fault : Fault) → HasFault line fault → word_of fault ≡ Some n → (0 < rank_of fault → IsUnknown (take n line) role word → ⊥) → (1 < rank_of fault → LacksValue role (drop (n + 1) line) → ⊥)
      → (2 < rank_of fault → IsBadNumber role word → ⊥) → (3 < rank_of fault → HasBadEnding role word → ⊥) → (4 < rank_of fault → IsSameName (take n line) role word → ⊥) → IsFirstAt line n fault
  first_at fault has is u l b e s = record { has = has; word = is; first = ranked (rank_of fault) u l b e s }

-- no fault of a word has a rank above these
pub rank_below : (fault : Fault) (n : ℕ) → word_of fault ≡ Some n → rank_of fault < 5
rank_below (UnknownWord m) n is = lit< tt
rank_below (MissingValue m) n is = lit< tt
rank_below (BadNumber m) n is = lit< tt
rank_below (BadEnding m) n is = lit< tt
rank_below (SameName m) n is = lit< tt
rank_below other n is = absurd (none-some n is)

-- the word is the last
pub ends_here : (items : List Item) (n : ℕ) → n < length items → IsTrue (nat_eq (n + 1) (length items)) ↔ (drop (n + 1) (line_of items) ≡ [])
ends_here items n within =
    let long = length-map items said_of in
    let both = nothing_after (line_of items) n (omega arith) in
    (λ t. both.0 ((Decides-eqb (n + 1) (length items)).0 t ∙ sym long), λ e. (Decides-eqb (n + 1) (length items)).1 (both.1 e ∙ long))

-- a test that found nothing
pub not_so : {P : Type 0} (r : Bool) → r ≡ false → IsTrue r ↔ P → P → ⊥
not_so r is tests p = false≢true (sym is ∙ tests.1 p)

-- ---- all words

before_is : (o : Option ℕ) (n : ℕ) → IsBefore o (Some n) → (k : ℕ) × (o ≡ Some k) × (k < n)
before_is (Some k) n less = (k, refl, less)
before_is None n less = absurd less

-- the first fault of a word, if no word before it has one
pub first_found : (line : List Said) (n : ℕ) (fault : Fault) → ((k : ℕ) → k < n → HasNoneAt line k) → IsFirstAt line n fault → IsFirstFault line fault
first_found line n fault clean is = record {
  has = is.has;
  first = λ other has comes. elim comes [
    | inl before ↦ (let b = before_is (word_of other) n (subst (λ (o : Option ℕ). IsBefore (word_of other) o) is.word before) in clean b.0 b.2 other b.1 has)
    | inr same ↦ is.first other (same.0 ∙ is.word) same.1 has
  ];
}

-- the word of a fault is there
pub word_within : (line : List Said) (n : ℕ) (fault : Fault) → word_of fault ≡ Some n → HasFault line fault → n < length line
word_within line n (UnknownWord m) is has = rw (← same_Some m n is) (slice_get_within line m (said_as has.role has.word) has.here)
word_within line n (MissingValue m) is has = rw (← same_Some m n is) (slice_get_within line m (said_as has.role has.word) has.here)
word_within line n (BadNumber m) is has = rw (← same_Some m n is) (slice_get_within line m (said_as has.role has.word) has.here)
word_within line n (BadEnding m) is has = rw (← same_Some m n is) (slice_get_within line m (said_as has.role has.word) has.here)
word_within line n (SameName m) is has = rw (← same_Some m n is) (slice_get_within line m (said_as has.role has.word) has.here)
word_within line n other is has = absurd (none-some n is)
