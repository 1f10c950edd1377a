-- What words without a fault mean.
use Rattle.std.proofs.Common.{◌≡◌, ◌++◌, ℕ, Bool, List, [], ◌∷◌, Option, Some, None, filter, refl, sym, ◌∙◌, ap, append_assoc, append-nil, option_to_list, IsTrue, ◌↔◌}
use Rattle.std.specs.List.{AllZip}
use Rattle.std.specs.Option.{IfSome, IsNone, is_some}
use Rattle.std.proofs.lemmas.Bool.{false≢true}
use Rattle.av_words.specs.declared.command_words.InputWord.{InputWord}
use Rattle.av_words.specs.declared.word_roles.Role.{Role}
use Rattle.av_words.specs.declared.word_roles.Role.TheVariants.{Value, File}
use Rattle.av_words.specs.declared.word_roles.Valued.{Valued}
use Rattle.av_words.specs.declared.word_roles.Valued.TheVariants.{Generator, Map}
use Rattle.av_faults.specs.declared.fault.Fault.TheVariants.{UnknownWord, BadNumber, BadEnding}
use Rattle.av_words.specs.WordRoles.{Said}
use Rattle.av_words.specs.WordValues.{SaysMade}
use Rattle.av_words.specs.WordChecks.{HasLabel, IsLastOf}
use Rattle.av_words.specs.WordFaults.{IsAt, Has, is_input, map_after, waiting, Takes, IsBadNumber, HasBadEnding}
use Rattle.av_words.specs.CommandWords.{IsFaultless, SaysInput, Output, output_at, outputs_after}
use Rattle.av_words.proofs.WordCheckLemmas.{said_as}

-- an option takes its value
pub takes_value : (line : List Said) → IsFaultless line → (n : ℕ) (option : Valued) (value : List ℕ) → IsAt line n (Value option) value → (Takes option value → ⊥) → ⊥
takes_value line faultless n option value here not = faultless (BadNumber n) (record { role = Value option; word = value; here = here; fails = not })

pub no_bad_number : (line : List Said) → IsFaultless line → (n : ℕ) (role : Role) (word : List ℕ) → IsAt line n role word → IsBadNumber role word → ⊥
no_bad_number line faultless n role word here bad = faultless (BadNumber n) (record { role = role; word = word; here = here; fails = bad })

pub no_bad_ending : (line : List Said) → IsFaultless line → (n : ℕ) (role : Role) (word : List ℕ) → IsAt line n role word → HasBadEnding role word → ⊥
no_bad_ending line faultless n role word here bad = faultless (BadEnding n) (record { role = role; word = word; here = here; fails = bad })

-- ---- lists beside each other

pub zip_append : {X Y : Type 0} (R : X → Y → Type 0) (xs more : List X) (ys others : List Y) → AllZip R xs ys → AllZip R more others → AllZip R (xs ++ more) (ys ++ others)
zip_append R [] more [] others zip rest = rest
zip_append R [] more (y ∷ ys) others zip rest = absurd zip
zip_append R (x ∷ xs) more [] others zip rest = absurd zip
zip_append R (x ∷ xs) more (y ∷ ys) others zip rest = (zip.0, zip_append R xs more ys others zip.1 rest)

-- ---- inputs

pub made_input : (role : Role) (word : List ℕ) (input : Option InputWord) → role ≡ Value Generator → IfSome input (SaysMade word) → (IsNone input → (other : InputWord) → SaysMade word other → ⊥)
    → (IsBadNumber role word → ⊥) → AllZip SaysInput (filter is_input (said_as role word ∷ [])) (option_to_list input)
made_input role word None is found none good = absurd ((rw is at good) (λ h. none refl h.0 h.1))
made_input role word (Some input) is found none good = rw is (found, tt)

-- ---- outputs

pub outputs_more : (map : Option (List ℕ)) (before : List Said) (last : Said) → outputs_after map (before ++ last ∷ []) ≡ outputs_after map before ++ output_at (waiting map before) last.role last.word
outputs_more map [] last = append-nil (output_at map last.role last.word)
outputs_more map (x ∷ xs) last =
    let next = map_after x.role x.word map in
    ap (λ (os : List Output). output_at map x.role x.word ++ os) (outputs_more next xs last)
    ∙ sym (append_assoc (output_at map x.role x.word) (outputs_after next xs) (output_at (waiting next xs) last.role last.word))

pub label_kept : (line : List Said) → IsFaultless line → (n : ℕ) (role : Role) (word : List ℕ) (map : Option (List ℕ)) → IsAt line n role word → HasLabel map → HasLabel (map_after role word map)
label_kept line faultless n (Value Map) word map here labelled = λ not. faultless (UnknownWord n) (record { role = Value Map; word = word; here = here; fails = not })
label_kept line faultless n File word map here labelled = tt
label_kept line faultless n other word map here labelled = labelled

-- ---- flags

pub has_last : (line : List Said) (role : Role) (last : Option ℕ) (b : Bool) → b ≡ is_some last → IsLastOf line role last → IsTrue b ↔ ((word : List ℕ) × Has line role word)
has_last line role None b is lacks = (λ t. absurd (false≢true (sym is ∙ t)), λ h. absurd (lacks h.0 h.1))
has_last line role (Some at) b is last = (λ _. (last.0, (at, last.1.here)), λ _. is)
