-- Whether a word has a fault, and which comes first.
use Rattle.std.proofs.Common.{◌≡◌, ◌<◌, ◌+◌, ◌⊎◌, ℕ, zero, suc, List, [], ◌∷◌, Option, Some, None, IsSome, length, take, drop, refl, ◌∙◌, ap, subst, inl, inr, arith}
use Rattle.std.proofs.lemmas.Bool.{cases_lt, false≢true}
use Rattle.std.proofs.lemmas.Option.{same_Some, none-some, slice_get_cases}
use Rattle.av_faults.specs.declared.fault.Fault.{Fault}
use Rattle.av_faults.specs.declared.fault.Fault.TheVariants.{UnknownWord, MissingValue, BadNumber, BadEnding, SameName}
use Rattle.av_words.specs.declared.word_roles.Role.{Role}
use Rattle.av_words.specs.declared.word_roles.Role.TheVariants.{Quiet, Report, Names, Value, File, Unknown}
use Rattle.av_words.specs.declared.word_roles.Valued.{Valued}
use Rattle.av_words.specs.declared.word_roles.Valued.TheVariants.{Workers, Slices, Order, Input, Generator, Graph, Map}
use Rattle.av_words.specs.WordRoles.{Said}
use Rattle.av_words.specs.WordValues.{media_of, ending_of}
use Rattle.av_words.specs.WordFaults.{IsAt, Has, Lacks, IsLast, waiting, IsUnknown, LacksValue, Takes, IsBadNumber, HasBadEnding, IsSameName}
use Rattle.av_words.specs.WordChecks.{HasNoneAt, IsFirstAt}
use Rattle.av_words.proofs.Decisions.{Decided, decide_both, decide_either, decide_not, decide_none, decide_empty, decide_text, decide_count, decide_order, decide_made, decide_label}
use Rattle.av_words.proofs.WordCheckLemmas.{said_as, ranked, first_at, rank_below, word_within}

-- ---- roles

decide_valued : (a b : Valued) → Decided (a ≡ b)
decide_valued Workers Workers = inl refl
decide_valued Slices Slices = inl refl
decide_valued Order Order = inl refl
decide_valued Input Input = inl refl
decide_valued Generator Generator = inl refl
decide_valued Graph Graph = inl refl
decide_valued Map Map = inl refl
decide_valued a b = inr (λ e. cc)

same_named : (a b : Valued) → Names a ≡ Names b → a ≡ b
same_named a b e = cc

same_value : (a b : Valued) → Value a ≡ Value b → a ≡ b
same_value a b e = cc

decide_role : (a b : Role) → Decided (a ≡ b)
decide_role Quiet Quiet = inl refl
decide_role Report Report = inl refl
decide_role File File = inl refl
decide_role Unknown Unknown = inl refl
decide_role (Names a) (Names b) = elim (decide_valued a b) [ inl same ↦ inl (ap (λ (v : Valued). Names v) same) | inr apart ↦ inr (λ e. apart (same_named a b e)) ]
decide_role (Value a) (Value b) = elim (decide_valued a b) [ inl same ↦ inl (ap (λ (v : Valued). Value v) same) | inr apart ↦ inr (λ e. apart (same_value a b e)) ]
decide_role a b = inr (λ e. cc)

-- ---- words of a role

has_parts : (x : Said) (xs : List Said) (role : Role) (word : List ℕ) → Has (x ∷ xs) role word → ((x.role ≡ role) × (x.word ≡ word)) ⊎ Has xs role word
has_parts x xs role word (zero, here) =
    let same = same_Some x (said_as role word) here in
    inl (ap (λ (s : Said). s.role) same, ap (λ (s : Said). s.word) same)
has_parts x xs role word (suc n, here) = inr (n, here)

decide_has : (line : List Said) (role : Role) (word : List ℕ) → Decided (Has line role word)
decide_has [] role word = inr (λ h. none-some (said_as role word) h.1)
decide_has (x ∷ xs) role word = elim (decide_either (decide_both (decide_role x.role role) (decide_text x.word word)) (decide_has xs role word)) [
  | inl has ↦ elim has [
    | inl both ↦ inl (0, ap (λ (r : Role). Some (said_as r x.word)) both.0 ∙ ap (λ (w : List ℕ). Some (said_as role w)) both.1)
    | inr old ↦ inl (suc old.0, old.1)
  ]
  | inr none ↦ inr (λ h. none (has_parts x xs role word h))
]

last_later : (x : Said) (xs : List Said) (role : Role) (at : ℕ) (word : List ℕ) → IsLast xs role at word → (n : ℕ) (other : List ℕ) → suc at < n → IsAt (x ∷ xs) n role other → ⊥
last_later x xs role at word last zero other less there = omega arith
last_later x xs role at word last (suc n) other less there = last.later n other (omega arith) there

last_first : (x : Said) (xs : List Said) (role : Role) → Lacks xs role → (n : ℕ) (other : List ℕ) → 0 < n → IsAt (x ∷ xs) n role other → ⊥
last_first x xs role lacks zero other less there = omega arith
last_first x xs role lacks (suc n) other less there = lacks other (n, there)

-- the last word of a role, or there is none
pub last_in : (line : List Said) (role : Role) → ((at : ℕ) × (word : List ℕ) × IsLast line role at word) ⊎ Lacks line role
last_in [] role = inr (λ word h. none-some (said_as role word) h.1)
last_in (x ∷ xs) role = elim (last_in xs role) [
  | inl last ↦ inl (suc last.0, last.1, record { here = last.2.here; later = last_later x xs role last.0 last.1 last.2 })
  | inr lacks ↦ elim (decide_role x.role role) [
    | inl same ↦ inl (0, x.word, record { here = ap (λ (r : Role). Some (said_as r x.word)) same; later = last_first x xs role lacks })
    | inr apart ↦ inr (λ word h. elim (has_parts x xs role word h) [ inl both ↦ apart both.0 | inr old ↦ lacks word old ])
  ]
]

-- ---- the faults of a word

decide_some : {X : Type 0} (o : Option X) → Decided (IsSome o)
decide_some None = inr (λ e. false≢true e)
decide_some (Some x) = inl refl

decide_unknown : (before : List Said) (role : Role) (word : List ℕ) → Decided (IsUnknown before role word)
decide_unknown before Unknown word = inl tt
decide_unknown before (Names Map) word = decide_some (waiting None before)
decide_unknown before (Value Map) word = elim (decide_label word) [ inl labelled ↦ inr (λ none. none labelled.0 labelled.1) | inr none ↦ inl (λ label labelled. none (label, labelled)) ]
decide_unknown before other word = inr (λ h. h)

decide_lacks : (role : Role) (after : List Said) → Decided (LacksValue role after)
decide_lacks (Names Map) after = elim (last_in after File) [ inl last ↦ inr (λ lacks. lacks last.1 (last.0, last.2.here)) | inr lacks ↦ inl lacks ]
decide_lacks (Names option) after = decide_empty after
decide_lacks other after = inr (λ h. h)

pub decide_takes : (option : Valued) (value : List ℕ) → Decided (Takes option value)
decide_takes Workers value = decide_count 0 value
decide_takes Slices value = decide_count 1 value
decide_takes Order value = decide_order value
decide_takes Generator value = decide_made value
decide_takes other value = inl tt

decide_number : (role : Role) (word : List ℕ) → Decided (IsBadNumber role word)
decide_number (Value option) word = decide_not (decide_takes option word)
decide_number other word = inr (λ h. h)

decide_ending : (role : Role) (word : List ℕ) → Decided (HasBadEnding role word)
decide_ending (Value Input) word = decide_none (media_of word)
decide_ending File word = decide_none (ending_of word)
decide_ending other word = inr (λ h. h)

decide_name : (before : List Said) (role : Role) (word : List ℕ) → Decided (IsSameName before role word)
decide_name before (Value Input) word = decide_has before File word
decide_name before File word = decide_either (decide_has before File word) (decide_has before (Value Input) word)
decide_name before other word = inr (λ h. h)

-- the fault of lowest rank at a word, or there is none
word_fault : (line : List Said) (n : ℕ) (role : Role) (word : List ℕ) → IsAt line n role word → ((fault : Fault) × IsFirstAt line n fault) ⊎ HasNoneAt line n
word_fault line n role word here =
    let before = take n line in
    let after = drop (n + 1) line in
    elim (decide_unknown before role word) [
      | inl fails ↦ inl (
        UnknownWord n,
        first_at line n role word here (UnknownWord n) (record { role = role; word = word; here = here; fails = fails }) refl (λ less. absurd (omega arith)) (λ less. absurd (omega arith)) (λ less. absurd (omega arith)) (λ less. absurd (omega arith)) (λ less. absurd (omega arith)),
      )
      | inr known ↦ elim (decide_lacks role after) [
        | inl fails ↦ inl (
          MissingValue n,
          first_at line n role word here (MissingValue n) (record { role = role; word = word; here = here; fails = fails }) refl (λ _. known) (λ less. absurd (omega arith)) (λ less. absurd (omega arith)) (λ less. absurd (omega arith)) (λ less. absurd (omega arith)),
        )
        | inr given ↦ elim (decide_number role word) [
          | inl fails ↦ inl (
            BadNumber n,
            first_at line n role word here (BadNumber n) (record { role = role; word = word; here = here; fails = fails }) refl (λ _. known) (λ _. given) (λ less. absurd (omega arith)) (λ less. absurd (omega arith)) (λ less. absurd (omega arith)),
          )
          | inr taken ↦ elim (decide_ending role word) [
            | inl fails ↦ inl (
              BadEnding n,
              first_at line n role word here (BadEnding n) (record { role = role; word = word; here = here; fails = fails }) refl (λ _. known) (λ _. given) (λ _. taken) (λ less. absurd (omega arith)) (λ less. absurd (omega arith)),
            )
            | inr ends ↦ elim (decide_name before role word) [
              | inl fails ↦ inl (SameName n, first_at line n role word here (SameName n) (record { role = role; word = word; here = here; fails = fails }) refl (λ _. known) (λ _. given) (λ _. taken) (λ _. ends) (λ less. absurd (omega arith)))
              | inr apart ↦ inr (λ fault is. ranked line n role word here 5 (λ _. known) (λ _. given) (λ _. taken) (λ _. ends) (λ _. apart) fault is (rank_below fault n is))
            ]
          ]
        ]
      ]
    ]

fault_at : (line : List Said) (n : ℕ) → ((fault : Fault) × IsFirstAt line n fault) ⊎ HasNoneAt line n
fault_at line n = elim (slice_get_cases line n).1 [
  | inl inside ↦ word_fault line n inside.0.role inside.0.word inside.2
  | inr past ↦ inr (λ fault is has. omega (arith, word_within line n fault is has, past.0))
]

-- a fault of a word, and no word before it has one
pub record Found (line : List Said) : Type 0 where
  pub at : ℕ
  pub fault : Fault
  pub first : IsFirstAt line at fault
  pub clean : (n : ℕ) → n < at → HasNoneAt line n

none_up_to : (line : List Said) (k : ℕ) → ((n : ℕ) → n < k → HasNoneAt line n) → HasNoneAt line k → (n : ℕ) → n < suc k → HasNoneAt line n
none_up_to line k clean none n less = elim (cases_lt n k) [
  | inl before ↦ clean n before
  | inr ge ↦ (let same : k ≡ n = omega arith in subst (HasNoneAt line) same none)
]

search : (line : List Said) (k : ℕ) → Found line ⊎ ((n : ℕ) → n < k → HasNoneAt line n)
search line zero = inr (λ n less. absurd (omega arith))
search line (suc k) = elim (search line k) [
  | inl found ↦ inl found
  | inr clean ↦ elim (fault_at line k) [
    | inl first ↦ inl (record { at = k; fault = first.0; first = first.1; clean = clean })
    | inr none ↦ inr (none_up_to line k clean none)
  ]
]

-- the first fault of the words, or no word has one
pub first_of_words : (line : List Said) → Found line ⊎ ((n : ℕ) → HasNoneAt line n)
first_of_words line = elim (search line (length line)) [
  | inl found ↦ inl found
  | inr clean ↦ inr (λ n fault is has. clean n (word_within line n fault is has) fault is has)
]
