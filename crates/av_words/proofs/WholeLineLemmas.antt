-- The faults of a line that has none at a word.
use Rattle.std.proofs.Common.{◌≡◌, ◌<◌, ◌≤◌, ℕ, Bool, true, false, not, List, Option, Some, None, filter, length, refl, sym, ◌∙◌, ap, subst, inl, inr, arith}
use Rattle.std.specs.List.{slice_get}
use Rattle.std.specs.Option.{is_some}
use Rattle.std.proofs.lemmas.Bool.{false≢true}
use Rattle.std.proofs.lemmas.Bool.{cases_order}
use Rattle.std.proofs.lemmas.Option.{same_Some, none-some}
use Rattle.av_words.specs.declared.word_roles.Role.{Role}
use Rattle.av_words.specs.declared.word_roles.Role.TheVariants.{Value, File}
use Rattle.av_words.specs.declared.word_roles.Valued.TheVariants.{Graph}
use Rattle.av_faults.specs.declared.fault.Fault.{Fault}
use Rattle.av_faults.specs.declared.fault.Fault.TheVariants.{UnknownWord, MissingValue, BadNumber, BadEnding, SameName, NoGraph, NoOutput, Limit}
use Rattle.av_faults.specs.declared.fault.LimitKind.TheVariants.{Text, Inputs, Outputs}
use Rattle.av_words.specs.Bounds.{most_inputs, most_outputs, greatest_text}
use Rattle.av_words.specs.WordRoles.{Said}
use Rattle.av_words.specs.WordFaults.{is_input, is_output, Lacks, IsLast, HasFault, word_of, rank_of, IsBefore, IsFirstFault}
use Rattle.av_words.specs.WordChecks.{HasNoneAt, IsLastOf}
use Rattle.av_words.specs.CommandWords.{IsFaultless}
use Rattle.av_words.proofs.WordCheckLemmas.{said_as}

-- ---- the last word of a role

pub same_last : (line : List Said) (role : Role) (a b : ℕ) (x y : List ℕ) → IsLast line role a x → IsLast line role b y → x ≡ y
same_last line role a b x y p q = elim (cases_order a b) [
  | inl same ↦ ap (λ (s : Said). s.word) (same_Some (said_as role x) (said_as role y) (sym p.here ∙ (ap (slice_get line) same ∙ q.here)))
  | inr apart ↦ elim apart [ inl less ↦ absurd (p.later b y less q.here) | inr more ↦ absurd (q.later a x more p.here) ]
]

pub none_last : (line : List Said) (role : Role) (last : Option ℕ) (r : Bool) → is_some last ≡ not r → r ≡ true → IsLastOf line role last → Lacks line role
none_last line role None r e is lacks = lacks
none_last line role (Some at) r e is last = absurd (false≢true (sym (e ∙ ap not is)))

pub some_last : (line : List Said) (role : Role) (last : Option ℕ) (r : Bool) → is_some last ≡ not r → r ≡ false → IsLastOf line role last → Lacks line role → ⊥
some_last line role None r e is lacks all = false≢true (e ∙ ap not is)
some_last line role (Some at) r e is last all = all last.0 (at, last.1.here)

-- ---- a whole line

-- no word has a fault
abbrev pub AreClean : List Said → Type 0
AreClean line = (n : ℕ) → HasNoneAt line n

before_none : (o : Option ℕ) → IsBefore o None → (n : ℕ) × (o ≡ Some n)
before_none (Some n) before = (n, refl)
before_none None before = absurd before

is_first : (line : List Said) (fault : Fault) → word_of fault ≡ None → HasFault line fault → AreClean line
    → ((other : Fault) → word_of other ≡ None → rank_of other < rank_of fault → HasFault line other → ⊥) → IsFirstFault line fault
is_first line fault last has clean first = record {
  has = has;
  first = λ other there comes. elim comes [
    | inl before ↦ (let at = before_none (word_of other) (subst (λ (o : Option ℕ). IsBefore (word_of other) o) last before) in clean at.0 other at.1 there)
    | inr same ↦ first other (same.0 ∙ last) same.1 there
  ];
}

-- the text is too long
abbrev pub IsLongText : List Said → Type 0
IsLongText line = (at : ℕ) × (text : List ℕ) × IsLast line (Value Graph) at text × (greatest_text < length text)

module _ (line : List Said) where
  -- no fault of the whole line of a rank below this
  line_ranked : (k : ℕ) → (5 < k → Lacks line (Value Graph) → ⊥) → (6 < k → Lacks line File → ⊥) → (7 < k → most_inputs < length (filter is_input line) → ⊥)
      → (8 < k → most_outputs < length (filter is_output line) → ⊥) → (9 < k → IsLongText line → ⊥)
      → (fault : Fault) → word_of fault ≡ None → rank_of fault < k → HasFault line fault → ⊥
  line_ranked k g f i o t (UnknownWord n) is less there = none-some n (sym is)
  line_ranked k g f i o t (MissingValue n) is less there = none-some n (sym is)
  line_ranked k g f i o t (BadNumber n) is less there = none-some n (sym is)
  line_ranked k g f i o t (BadEnding n) is less there = none-some n (sym is)
  line_ranked k g f i o t (SameName n) is less there = none-some n (sym is)
  line_ranked k g f i o t NoGraph is less there = g less there
  line_ranked k g f i o t NoOutput is less there = f less there
  line_ranked k g f i o t (Limit Inputs which allowed) is less there = i less there.2
  line_ranked k g f i o t (Limit Outputs which allowed) is less there = o less there.2
  line_ranked k g f i o t (Limit Text which allowed) is less there = t less there.2
  line_ranked k g f i o t other is less there = there

  -- a fault of the whole line of which the checks before it found none
  pub line_first : (fault : Fault) → word_of fault ≡ None → HasFault line fault → AreClean line → (5 < rank_of fault → Lacks line (Value Graph) → ⊥) → (6 < rank_of fault → Lacks line File → ⊥)
      → (7 < rank_of fault → most_inputs < length (filter is_input line) → ⊥) → (8 < rank_of fault → most_outputs < length (filter is_output line) → ⊥) → (9 < rank_of fault → IsLongText line → ⊥) → IsFirstFault line fault
  line_first fault is has clean g f i o t = is_first line fault is has clean (line_ranked (rank_of fault) g f i o t)

  pub is_faultless : AreClean line → (Lacks line (Value Graph) → ⊥) → (Lacks line File → ⊥) → (most_inputs < length (filter is_input line) → ⊥) → (most_outputs < length (filter is_output line) → ⊥)
      → (IsLongText line → ⊥) → IsFaultless line
  is_faultless clean g f i o t (UnknownWord n) there = clean n (UnknownWord n) refl there
  is_faultless clean g f i o t (MissingValue n) there = clean n (MissingValue n) refl there
  is_faultless clean g f i o t (BadNumber n) there = clean n (BadNumber n) refl there
  is_faultless clean g f i o t (BadEnding n) there = clean n (BadEnding n) refl there
  is_faultless clean g f i o t (SameName n) there = clean n (SameName n) refl there
  is_faultless clean g f i o t NoGraph there = g there
  is_faultless clean g f i o t NoOutput there = f there
  is_faultless clean g f i o t (Limit Inputs which allowed) there = i there.2
  is_faultless clean g f i o t (Limit Outputs which allowed) there = o there.2
  is_faultless clean g f i o t (Limit Text which allowed) there = t there.2
  is_faultless clean g f i o t other there = there

-- the last value of an option of texts is of this length, so no last one is longer
pub no_long_text : (line : List Said) (at : ℕ) (text : List ℕ) → IsLast line (Value Graph) at text → length text ≤ greatest_text → IsLongText line → ⊥
no_long_text line at text last short long =
    let same = same_last line (Value Graph) at long.0 text long.1 last long.2 in
    let past = long.3 in
    omega (arith, ap length same)
