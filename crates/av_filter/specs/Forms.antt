-- Options as forms: what texts an option takes, what it then has, and what it has without a text. The laws of options
-- follow from those of their forms.
use Rattle.std.specs.Prelude.{◌≡◌, ◌<◌, ◌+◌, ℕ, zero, suc, List, [], ◌∷◌, length, Option, Some, None, IfSome, Bool, IsTrue, ◌↔◌, Result, Ok, Err, IfOk, refl}
use Rattle.std.proofs.Common.{inl, inr, ◌∙◌, sym, subst, arith}
use Rattle.av_frame.specs.declared.refusals.OptionError.{OptionError}
use Rattle.av_filter.specs.Decisions.{IsDecided, word_decided}
use Rattle.av_filter.specs.Meanings.{OptionRules}
use Rattle.av_filter.specs.OptionExistence.{AreNumbered}
use Rattle.av_filter.specs.Outcomes.{IsOne}
use Rattle.av_filter.specs.Readings.{OptionLaws}
use Rattle.av_filter.specs.Texts.{text_decided}
use Rattle.av_filter.specs.Words.{word_in}

-- One of the options of O: which value a text means, the text that is the default, and the value that options have.
pub record Form (O : Type 0) : Type 1 where
  pub Value : Type 0
  pub means : List ℕ → Value → Type 0
  pub default : List ℕ
  pub value : O → Value

-- the text that is given, or the default
abbrev pub given : List ℕ → Option (List ℕ) → List ℕ
given default None = default
given default (Some text) = text

-- a form takes the texts that mean a value
abbrev pub FormTakes : {O : Type 0} → Form O → List ℕ → Type 0
FormTakes f text = (v : f.Value) × f.means text v

-- options have what the text means that is given, or the default
abbrev pub FormHas : {O : Type 0} → Form O → O → Option (List ℕ) → Type 0
FormHas f options text = f.means (given f.default text) (f.value options)

-- a form of no option
abbrev no_form : {O : Type 0} → Form O
no_form {O} = record { Value = Unit {0}; means = λ text v. Unit {0}; default = []; value = λ o. tt }

-- the form of an option
abbrev pub form_at : {O : Type 0} → List (Form O) → ℕ → Form O
form_at [] o = no_form
form_at (f ∷ forms) zero = f
form_at (f ∷ forms) (suc o) = form_at forms o

-- something holds of the form of option o; the forms are those of the options from k on
abbrev pub AtOption : {O : Type 0} → (Form O → Type 0) → List (Form O) → ℕ → ℕ → Type 0
AtOption P [] k o = Unit {0}
AtOption P (f ∷ forms) k o = (o ≡ k → P f) × AtOption P forms (suc k) o

-- the rules of options in these forms
abbrev pub rules_of : {O : Type 0} → List (List ℕ × ℕ) → List (Form O) → (O → ℕ → Result O OptionError → Type 0) → OptionRules O
rules_of names forms completes = record {
  count = length forms;
  names = names;
  takes = λ o text. AtOption (λ f. FormTakes f text) forms 0 o;
  has = λ options o text. AtOption (λ f. FormHas f options text) forms 0 o;
  completes = completes;
}

-- ---- laws

-- it is known whether a text means a value, it means just one, and the default means one
pub record FormLaws {O : Type 0} (f : Form O) : Type 0 where
  pub decided : (text : List ℕ) → IsDecided (FormTakes f text)
  pub one : (text : List ℕ) → IsOne (f.means text)
  pub default : FormTakes f f.default

abbrev pub EachLaws : {O : Type 0} → List (Form O) → Type 0
EachLaws [] = Unit {0}
EachLaws (f ∷ forms) = FormLaws f × EachLaws forms

-- a value for each option
abbrev pub Values : {O : Type 0} → List (Form O) → Type 0
Values [] = Unit {0}
Values (f ∷ forms) = f.Value × Values forms

-- the options have these values
abbrev pub AreBuilt : {O : Type 0} → (forms : List (Form O)) → O → Values forms → Type 0
AreBuilt [] o values = Unit {0}
AreBuilt (f ∷ forms) o values = (f.value o ≡ values.0) × AreBuilt forms o values.1

-- two options have the same values
abbrev pub AreAlike : {O : Type 0} → List (Form O) → O → O → Type 0
AreAlike [] a b = Unit {0}
AreAlike (f ∷ forms) a b = (f.value a ≡ f.value b) × AreAlike forms a b

-- the laws of options that are built of values, one for each
pub record BuildLaws {O : Type 0} (forms : List (Form O)) : Type 0 where
  pub build : Values forms → O
  pub built : (values : Values forms) → AreBuilt forms (build values) values
  pub same : (a b : O) → AreAlike forms a b → a ≡ b

-- ---- the form of option k + j

at_past : {O : Type 0} (P : Form O → Type 0) (forms : List (Form O)) (k o : ℕ) → o < k → AtOption P forms k o
at_past P [] k o past = tt
at_past P (f ∷ forms) k o past = (λ e. absurd (omega arith), at_past P forms (suc k) o (omega arith))

at_from : {O : Type 0} (P : Form O → Type 0) (forms : List (Form O)) (k j : ℕ) → P (form_at forms j) → AtOption P forms k (k + j)
at_from P [] k j p = tt
at_from P (f ∷ forms) k zero p = (λ e. p, at_past P forms (suc k) (k + 0) (omega arith))
at_from P (f ∷ forms) k (suc j) p =
    let e : suc k + j ≡ k + suc j = omega arith in
    (λ same. absurd (omega arith), subst (AtOption P forms (suc k)) e (at_from P forms (suc k) j p))

from_at : {O : Type 0} (P : Form O → Type 0) (forms : List (Form O)) (k j : ℕ) → j < length forms → AtOption P forms k (k + j) → P (form_at forms j)
from_at P [] k j low h = absurd (omega arith)
from_at P (f ∷ forms) k zero low h = h.0 (omega arith)
from_at P (f ∷ forms) k (suc j) low h =
    let e : k + suc j ≡ suc k + j = omega arith in
    from_at P forms (suc k) j (omega arith) (subst (AtOption P forms (suc k)) e h.1)

pub at_option : {O : Type 0} (P : Form O → Type 0) (forms : List (Form O)) (o : ℕ) → P (form_at forms o) → AtOption P forms 0 o
at_option P forms o p = let e : 0 + o ≡ o = omega arith in subst (AtOption P forms 0) e (at_from P forms 0 o p)

pub option_at : {O : Type 0} (P : Form O → Type 0) (forms : List (Form O)) (o : ℕ) → o < length forms → AtOption P forms 0 o → P (form_at forms o)
option_at P forms o low h = let e : o ≡ 0 + o = omega arith in from_at P forms 0 o low (subst (AtOption P forms 0) e h)

-- ---- laws of options from those of forms

laws_at : {O : Type 0} (forms : List (Form O)) → EachLaws forms → (o : ℕ) (text : List ℕ) → o < length forms → IsDecided (FormTakes (form_at forms o) text)
laws_at [] laws o text low = absurd (omega arith)
laws_at (f ∷ forms) laws zero text low = laws.0.decided text
laws_at (f ∷ forms) laws (suc o) text low = laws_at forms laws.1 o text (omega arith)

-- a value of the text that is given, or of the default
found : {O : Type 0} (f : Form O) → FormLaws f → (t : Option (List ℕ)) → IfSome t (FormTakes f) → (v : f.Value) × f.means (given f.default t) v
found f laws None taken = laws.default
found f laws (Some text) taken = taken

first_of : {P : ℕ → Type 0} {n : ℕ} → ((o : ℕ) → o < suc n → P o) → P 0
first_of each = each 0 (omega arith)

others_of : {P : ℕ → Type 0} {n : ℕ} → ((o : ℕ) → o < suc n → P o) → (o : ℕ) → o < n → P (suc o)
others_of each o low = each (suc o) (omega arith)

values_found : {O : Type 0} (forms : List (Form O)) → EachLaws forms → (texts : ℕ → Option (List ℕ)) → ((o : ℕ) → o < length forms → IfSome (texts o) (FormTakes (form_at forms o))) → Values forms
values_found [] laws texts taken = tt
values_found (f ∷ forms) laws texts taken = ((found f laws.0 (texts 0) (first_of taken)).0, values_found forms laws.1 (λ o. texts (suc o)) (others_of taken))

values_have : {O : Type 0} (forms : List (Form O)) (laws : EachLaws forms) (texts : ℕ → Option (List ℕ)) (taken : (o : ℕ) → o < length forms → IfSome (texts o) (FormTakes (form_at forms o)))
    → (options : O) → AreBuilt forms options (values_found forms laws texts taken) → (o : ℕ) → o < length forms → FormHas (form_at forms o) options (texts o)
unfolding values_found
values_have [] laws texts taken options built o low = absurd (omega arith)
values_have (f ∷ forms) laws texts taken options built zero low =
    subst (f.means (given f.default (texts 0))) (sym built.0) (found f laws.0 (texts 0) (first_of taken)).1
values_have (f ∷ forms) laws texts taken options built (suc o) low =
    values_have forms laws.1 (λ p. texts (suc p)) (others_of taken) options built.1 o (omega arith)

alike : {O : Type 0} (forms : List (Form O)) → EachLaws forms → (a b : O)
    → ((o : ℕ) → o < length forms → (text : Option (List ℕ)) × FormHas (form_at forms o) a text × FormHas (form_at forms o) b text) → AreAlike forms a b
alike [] laws a b both = tt
alike (f ∷ forms) laws a b both =
    let h = both 0 (omega arith) in
    (laws.0.one (given f.default h.0) (f.value a) (f.value b) h.1 h.2, alike forms laws.1 a b (λ o low. both (suc o) (omega arith)))

pub forms_laws : {O : Type 0} {names : List (List ℕ × ℕ)} {forms : List (Form O)} {completes : O → ℕ → Result O OptionError → Type 0}
    → AreNumbered (length forms) names → EachLaws forms → BuildLaws forms → OptionLaws (rules_of names forms completes)
forms_laws {O} {forms = forms} numbered laws build = record {
  decided = λ o text low. elim (laws_at forms laws o text low) [
    | inl takes ↦ inl (at_option _ forms o takes)
    | inr none ↦ inr (λ h. none (option_at _ forms o low h))
  ];
  numbered = numbered;
  some = λ texts taken. some texts (λ o low. taken_at o (texts o) low (taken o low));
  one = λ a b both. build.same a b (alike forms laws a b (λ o low. let h = both o low in (h.0, option_at _ forms o low h.1, option_at _ forms o low h.2)));
}
  where
    taken_at : (o : ℕ) (t : Option (List ℕ)) → o < length forms → IfSome t (λ text. AtOption (λ f. FormTakes f text) forms 0 o) → IfSome t (FormTakes (form_at forms o))
    taken_at o None low h = tt
    taken_at o (Some text) low h = option_at _ forms o low h

    some : (texts : ℕ → Option (List ℕ)) → ((o : ℕ) → o < length forms → IfSome (texts o) (FormTakes (form_at forms o)))
        → (options : O) × ((o : ℕ) → o < length forms → AtOption (λ f. FormHas f options (texts o)) forms 0 o)
    some texts taken =
        let options = build.build (values_found forms laws texts taken) in
        (options, λ o low. at_option (λ f. FormHas f options (texts o)) forms o (values_have forms laws texts taken options (build.built (values_found forms laws texts taken)) o low))

-- ---- forms of words

-- an option that takes the words of a table
abbrev pub word_form : {O X : Type 0} → List (List ℕ × X) → List ℕ → (O → X) → Form O
word_form {O} {X} words default value = record { Value = X; means = λ text x. word_in words text ≡ Some x; default = default; value = value }

same_some : {X : Type 0} {x y : X} → Some x ≡ Some y → x ≡ y
same_some e = cc

pub word_laws : {O X : Type 0} (words : List (List ℕ × X)) (default : List ℕ) (value : O → X) (x : X) → word_in words default ≡ Some x → FormLaws (word_form words default value)
word_laws words default value x is = record { decided = word_decided words; one = λ text a b p q. same_some (sym p ∙ q); default = (x, is) }

-- an option that takes one text alone, and has no value
abbrev pub only_form : {O : Type 0} → List ℕ → Form O
only_form {O} word = record { Value = Unit {0}; means = λ text v. text ≡ word; default = word; value = λ o. tt }

pub only_laws : {O : Type 0} (word : List ℕ) → FormLaws {O = O} (only_form word)
only_laws word = record { decided = only_decided word; one = λ text a b p q. refl; default = (tt, refl) }
  where
    only_decided : (word text : List ℕ) → IsDecided (Unit {0} × (text ≡ word))
    only_decided word text = elim (text_decided text word) [
      | inl is ↦ inl (tt, is)
      | inr other ↦ inr (λ h. other h.1)
    ]

-- ---- giving an option a text

-- option k takes the text if its form does
pub taken_at : {O E : Type 0} (forms : List (Form O)) {o : ℕ} (k : ℕ) (text : List ℕ) (r : Result Bool E) → o ≡ k → k < length forms
    → IfOk r (λ taken. IsTrue taken ↔ FormTakes (form_at forms k) text) → IfOk r (λ taken. IsTrue taken ↔ AtOption (λ f. FormTakes f text) forms 0 o)
taken_at forms k text (Ok taken) e low h =
    rw e ((λ true. at_option (λ f. FormTakes f text) forms k (h.0 true)), λ takes. h.1 (option_at (λ f. FormTakes f text) forms k low takes))
taken_at forms k text (Err e) same low h = tt

-- option k has what the text means if it took it
pub set_at : {O E : Type 0} (forms : List (Form O)) {o : ℕ} (k : ℕ) (text : List ℕ) (options : O) (r : Result Bool E) → o ≡ k
    → IfOk r (λ taken. IsTrue taken → FormHas (form_at forms k) options (Some text)) → IfOk r (λ taken. IsTrue taken → AtOption (λ f. FormHas f options (Some text)) forms 0 o)
set_at forms k text options (Ok taken) e h = rw e (λ true. at_option (λ f. FormHas f options (Some text)) forms k (h true))
set_at forms k text options (Err e) same h = tt
