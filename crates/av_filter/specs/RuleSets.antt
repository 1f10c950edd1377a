-- What sets of rules mean: each value what it means in the rule that it is of.
use Rattle.std.specs.Prelude.{◌≡◌, ◌⊎◌, ℕ, List, Bool, true, false, ◌||◌, Result, Ok, Err, refl}
use Rattle.std.proofs.Common.{◌∙◌, sym, ap, subst, inl, inr, ⊎_elim}
use Rattle.av_base.specs.declared.formats.Format.{Format}
use Rattle.av_base.specs.declared.shapes.Shape.{Shape}
use Rattle.av_frame.specs.Frames.{FrameValue}
use Rattle.av_base.specs.Shapes.{IsPictureShape, IsPictured}
use Rattle.av_filter.specs.Outcomes.{IsOne, HasOne}
use Rattle.av_frame.specs.Rules.{SameTimes}
use Rattle.av_text.specs.declared.arguments.Arg.{Arg}
use Rattle.av_filter.specs.Words.{is_text}
use Rattle.av_filter.specs.Meanings.{Meaning, MeaningLaws, Making, MakingLaws, IsSettled, IsOfStream, IsReading, Follows, HasOneReading, HasOneOutcome}
use Rattle.av_frame.specs.declared.refusals.OptionError.{OptionError}
use Rattle.av_frame.specs.declared.refusals.OptionError.TheVariants as option
use Rattle.av_frame.specs.declared.refusals.ConfigError.{ConfigError}
use Rattle.av_frame.specs.declared.refusals.ConfigError.TheVariants as config
use Rattle.av_filter.specs.declared.rule_set.Or.{Or}
use Rattle.av_filter.specs.declared.rule_set.Or.TheVariants.{First, Other}

-- ---- one rule, or others

-- a result, by what is made of its value
abbrev pub IsOf : {A X E : Type 0} → (A → X) → (Result A E → Type 0) → Result X E → Type 0
IsOf {A} {X} {E} f P r = ((a : A) × (r ≡ Ok (f a)) × P (Ok a)) ⊎ ((e : E) × (r ≡ Err e) × P (Err e))

module _ {O P S T : Type 0} where
  abbrev pub or_takes : Making O S → Making P T → Or O P → Format → Type 0
  or_takes a b (First o) f = a.takes o f
  or_takes a b (Other o) f = b.takes o f

  abbrev pub or_settles : Making O S → Making P T → Or O P → Shape → Result (Or S T) ConfigError → Type 0
  or_settles a b (First o) s = IsOf First (a.settles o s)
  or_settles a b (Other o) s = IsOf Other (b.settles o s)

  abbrev pub or_shape : Making O S → Making P T → Or S T → Shape → Shape
  or_shape a b (First t) s = a.shape t s
  or_shape a b (Other t) s = b.shape t s

  abbrev pub or_made : Making O S → Making P T → Or S T → FrameValue → FrameValue
  or_made a b (First t) x = a.made t x
  or_made a b (Other t) x = b.made t x

  abbrev pub or_making : Making O S → Making P T → Making (Or O P) (Or S T)
  or_making a b = record { takes = or_takes a b; settles = or_settles a b; shape = or_shape a b; made = or_made a b }

-- what arguments give: the first rule if it has the name, else one of the others
abbrev pub or_reads : {O P : Type 0} → Bool → (Result O OptionError → Type 0) → (Result P OptionError → Type 0) → Result (Or O P) OptionError → Type 0
or_reads true first other = IsOf First first
or_reads false first other = IsOf Other other

-- ---- the laws

first_is : {A B E : Type 0} {a b : A} → ◌≡◌ {A = Result (Or A B) E} (Ok (First a)) (Ok (First b)) → a ≡ b
first_is e = cc

other_is : {A B E : Type 0} {a b : B} → ◌≡◌ {A = Result (Or A B) E} (Ok (Other a)) (Ok (Other b)) → a ≡ b
other_is e = cc

pub ok_is : {A E : Type 0} {a b : A} → ◌≡◌ {A = Result A E} (Ok a) (Ok b) → a ≡ b
ok_is e = cc

pub err_is : {A E : Type 0} {a b : E} → ◌≡◌ {A = Result A E} (Err a) (Err b) → a ≡ b
err_is e = cc

pub of_one : {A X E : Type 0} (f : A → X) (P : Result A E → Type 0) → HasOne P → HasOne (IsOf f P)
of_one {A} {X} {E} f P h = record { some = some h.some.0 h.some.1; one = one }
  where
    some : (r : Result A E) → P r → (q : Result X E) × IsOf f P q
    some (Ok a) p = (Ok (f a), inl (a, refl, p))
    some (Err e) p = (Err e, inr (e, refl, p))

    one : IsOne (IsOf f P)
    one q r (inl p) (inl k) = p.1 ∙ ap (λ a. Ok (f a)) (ok_is (h.one (Ok p.0) (Ok k.0) p.2 k.2)) ∙ sym k.1
    one q r (inl p) (inr k) = absurd (let no = h.one (Ok p.0) (Err k.0) p.2 k.2 in cc)
    one q r (inr p) (inl k) = absurd (let no = h.one (Err p.0) (Ok k.0) p.2 k.2 in cc)
    one q r (inr p) (inr k) = p.1 ∙ ap Err (err_is (h.one (Err p.0) (Err k.0) p.2 k.2)) ∙ sym k.1

-- what isn't a fault of the one isn't one of the other
pub of_lacks : {A X E : Type 0} (f : A → X) (P : Result A E → Type 0) (e : E) → ¬ P (Err e) → ¬ IsOf f P (Err e)
of_lacks f P e lacks (inl h) = absurd (let no = h.1 in cc)
of_lacks {E = E} f P e lacks (inr h) = lacks (subst (λ (x : E). P (Err x)) (sym (err_is h.1)) h.2)

-- readings of what is made of the value of another
pub reading_of : {A M X Y : Type 0} (n : Making A M) (m : Making X Y) (f : A → X) (reads : Result A OptionError → Type 0)
    → ((o p : A) → Follows n o p → Follows m (f o) (f p)) → HasOneReading n reads → HasOneReading m (IsOf f reads)
reading_of {A} {M} {X} {Y} n m f reads follows h = record {
  some = some h.some.0 h.some.1;
  follows = λ o p x y. same o p x y;
  not_both = λ o e x y. apart o e x y;
  one_fault = λ e g x y. fault e g x y;
  no_memory = of_lacks f reads option.NoMemory h.no_memory;
}
  where
    some : (r : Result A OptionError) → reads r → (q : Result X OptionError) × IsOf f reads q
    some (Ok o) p = (Ok (f o), inl (o, refl, p))
    some (Err e) p = (Err e, inr (e, refl, p))

    same : (o p : X) → IsOf f reads (Ok o) → IsOf f reads (Ok p) → Follows m o p
    same o p (inl x) (inl y) = rw (ok_is x.1, ok_is y.1) (follows x.0 y.0 (h.follows x.0 y.0 x.2 y.2))
    same o p (inl x) (inr y) = absurd (let no = y.1 in cc)
    same o p (inr x) y = absurd (let no = x.1 in cc)

    apart : (o : X) (e : OptionError) → IsOf f reads (Ok o) → ¬ IsOf f reads (Err e)
    apart o e (inl x) (inl y) = let no = y.1 in absurd (cc)
    apart o e (inl x) (inr y) = h.not_both x.0 y.0 x.2 y.2
    apart o e (inr x) y = let no = x.1 in absurd (cc)

    fault : (e g : OptionError) → IsOf f reads (Err e) → IsOf f reads (Err g) → e ≡ g
    fault e g (inr x) (inr y) = err_is x.1 ∙ h.one_fault x.0 y.0 x.2 y.2 ∙ sym (err_is y.1)
    fault e g (inr x) (inl y) = absurd (let no = y.1 in cc)
    fault e g (inl x) y = absurd (let no = x.1 in cc)

module _ {O P S T : Type 0} (a : Making O S) (b : Making P T) where
  first_settled : (t : S) (s : Shape) → IsSettled (or_making a b) s (First t) → IsSettled a s t
  first_settled t s h = by h.options h.picture h.takes h.settles
    where
      by : (o : Or O P) → IsPictureShape s → or_takes a b o s.format → or_settles a b o s (Ok (First t)) → IsSettled a s t
      by (First o) p k (inl e) = record { options = o; picture = p; takes = k; settles = subst (λ (x : S). a.settles o s (Ok x)) (sym (first_is e.1)) e.2 }
      by (First o) p k (inr e) = absurd (let no = e.1 in cc)
      by (Other o) p k (inl e) = absurd (let no = e.1 in cc)
      by (Other o) p k (inr e) = absurd (let no = e.1 in cc)

  other_settled : (t : T) (s : Shape) → IsSettled (or_making a b) s (Other t) → IsSettled b s t
  other_settled t s h = by h.options h.picture h.takes h.settles
    where
      by : (o : Or O P) → IsPictureShape s → or_takes a b o s.format → or_settles a b o s (Ok (Other t)) → IsSettled b s t
      by (Other o) p k (inl e) = record { options = o; picture = p; takes = k; settles = subst (λ (x : T). b.settles o s (Ok x)) (sym (other_is e.1)) e.2 }
      by (Other o) p k (inr e) = absurd (let no = e.1 in cc)
      by (First o) p k (inl e) = absurd (let no = e.1 in cc)
      by (First o) p k (inr e) = absurd (let no = e.1 in cc)

  or_decided : ((o : O) (f : Format) → a.takes o f ⊎ ¬ a.takes o f) → ((o : P) (f : Format) → b.takes o f ⊎ ¬ b.takes o f) → (o : Or O P) (f : Format) → or_takes a b o f ⊎ ¬ or_takes a b o f
  or_decided p q (First o) f = p o f
  or_decided p q (Other o) f = q o f

  or_memory : ((o : O) (s : Shape) → ¬ a.settles o s (Err config.NoMemory)) → ((o : P) (s : Shape) → ¬ b.settles o s (Err config.NoMemory))
      → (o : Or O P) (s : Shape) → ¬ or_settles a b o s (Err config.NoMemory)
  or_memory p q (First o) s = of_lacks First (a.settles o s) config.NoMemory (p o s)
  or_memory p q (Other o) s = of_lacks Other (b.settles o s) config.NoMemory (q o s)

  or_pictured : ((t : S) (s : Shape) → IsSettled a s t → IsPictured (a.shape t s)) → ((t : T) (s : Shape) → IsSettled b s t → IsPictured (b.shape t s))
      → (t : Or S T) (s : Shape) → IsSettled (or_making a b) s t → IsPictured (or_shape a b t s)
  or_pictured p q (First t) s h = p t s (first_settled t s h)
  or_pictured p q (Other t) s h = q t s (other_settled t s h)

  or_stream : ((t : S) (s : Shape) → IsOfStream s (a.shape t s)) → ((t : T) (s : Shape) → IsOfStream s (b.shape t s)) → (t : Or S T) (s : Shape) → IsOfStream s (or_shape a b t s)
  or_stream p q (First t) s = p t s
  or_stream p q (Other t) s = q t s

  or_keeps : ((t : S) (x : FrameValue) → SameTimes x (a.made t x)) → ((t : T) (x : FrameValue) → SameTimes x (b.made t x))
      → (t : Or S T) (x : FrameValue) → SameTimes x (or_made a b t x)
  or_keeps p q (First t) x = p t x
  or_keeps p q (Other t) x = q t x

  or_shaped : ((t : S) (x : FrameValue) → (a.made t x).shape ≡ a.shape t x.shape) → ((t : T) (x : FrameValue) → (b.made t x).shape ≡ b.shape t x.shape)
      → (t : Or S T) (x : FrameValue) → (or_made a b t x).shape ≡ or_shape a b t x.shape
  or_shaped p q (First t) x = p t x
  or_shaped p q (Other t) x = q t x

  pub or_laws : MakingLaws a → MakingLaws b → MakingLaws (or_making a b)
  or_laws p q = record {
    decided = or_decided p.decided q.decided;
    no_memory = or_memory p.no_memory q.no_memory;
    pictured = or_pictured p.pictured q.pictured;
    stream = or_stream p.stream q.stream;
    keeps = or_keeps p.keeps q.keeps;
    shaped = or_shaped p.shaped q.shaped;
  }

  first_follows : (o p : O) → Follows a o p → Follows (or_making a b) (First o) (First p)
  first_follows o p h = record {
    takes = h.takes;
    settles = λ s r k. ⊎_elim (λ e. inl (e.0, e.1, h.settles s (Ok e.0) e.2)) (λ e. inr (e.0, e.1, h.settles s (Err e.0) e.2)) k;
  }

  other_follows : (o p : P) → Follows b o p → Follows (or_making a b) (Other o) (Other p)
  other_follows o p h = record {
    takes = h.takes;
    settles = λ s r k. ⊎_elim (λ e. inl (e.0, e.1, h.settles s (Ok e.0) e.2)) (λ e. inr (e.0, e.1, h.settles s (Err e.0) e.2)) k;
  }

  pub or_one_reading : (named others : Bool) (first : Result O OptionError → Type 0) (other : Result P OptionError → Type 0)
      → (named ≡ true → HasOneReading a first) → (others ≡ true → HasOneReading b other) → (named || others) ≡ true → HasOneReading (or_making a b) (or_reads named first other)
  or_one_reading true others first other p q e = reading_of a (or_making a b) First first first_follows (p refl)
  or_one_reading false others first other p q e = reading_of b (or_making a b) Other other other_follows (q e)

  pub or_one_outcome : (named : Bool) (first : Result O OptionError → Type 0) (other : Result P OptionError → Type 0)
      → HasOneOutcome a first → HasOneOutcome b other → HasOneOutcome (or_making a b) (or_reads named first other)
  or_one_outcome true first other p q (First o) s (inl e) picture takes = of_one First (a.settles o s) (p o s (subst (λ (x : O). first (Ok x)) (sym (first_is e.1)) e.2) picture takes)
  or_one_outcome true first other p q (First o) s (inr e) picture takes = absurd (let no = e.1 in cc)
  or_one_outcome true first other p q (Other o) s (inl e) picture takes = absurd (let no = e.1 in cc)
  or_one_outcome true first other p q (Other o) s (inr e) picture takes = absurd (let no = e.1 in cc)
  or_one_outcome false first other p q (Other o) s (inl e) picture takes = of_one Other (b.settles o s) (q o s (subst (λ (x : P). other (Ok x)) (sym (other_is e.1)) e.2) picture takes)
  or_one_outcome false first other p q (Other o) s (inr e) picture takes = absurd (let no = e.1 in cc)
  or_one_outcome false first other p q (First o) s (inl e) picture takes = absurd (let no = e.1 in cc)
  or_one_outcome false first other p q (First o) s (inr e) picture takes = absurd (let no = e.1 in cc)

-- ---- catalogues

-- the filters of a program, by name
pub record Catalogue : Type 1 where
  pub Options : Type 0
  pub Settings : Type 0
  pub making : Making Options Settings
  pub contains : List ℕ → Bool
  pub reads : List ℕ → List Arg → Result Options OptionError → Type 0

-- one filter alone, by its meaning
abbrev pub only_filter : Meaning → Catalogue
only_filter filter = record {
  Options = filter.Options;
  Settings = filter.Settings;
  making = filter.making;
  contains = λ word. is_text filter.name word;
  reads = λ word args. IsReading filter.options args;
}

-- one more filter, by its meaning
abbrev pub with_filter : Meaning → Catalogue → Catalogue
with_filter filter others = record {
  Options = Or filter.Options others.Options;
  Settings = Or filter.Settings others.Settings;
  making = or_making filter.making others.making;
  contains = λ word. is_text filter.name word || others.contains word;
  reads = λ word args. or_reads (is_text filter.name word) (IsReading filter.options args) (others.reads word args);
}

-- the laws of all filters of a catalogue
pub record CatalogueLaws (c : Catalogue) : Type 0 where
  pub making : MakingLaws c.making
  pub one_reading : (word : List ℕ) (args : List Arg) → c.contains word ≡ true → HasOneReading c.making (c.reads word args)
  pub one_outcome : (word : List ℕ) (args : List Arg) → HasOneOutcome c.making (c.reads word args)

pub only_laws : {filter : Meaning} → MeaningLaws filter → CatalogueLaws (only_filter filter)
only_laws p = record { making = p.making; one_reading = λ word args h. p.reading.one_reading args; one_outcome = λ word args. p.reading.one_outcome args }

pub with_laws : {filter : Meaning} {others : Catalogue} → MeaningLaws filter → CatalogueLaws others → CatalogueLaws (with_filter filter others)
with_laws {filter} {others} p q = record {
  making = or_laws filter.making others.making p.making q.making;
  one_reading = λ word args h. or_one_reading filter.making others.making (is_text filter.name word) (others.contains word) (IsReading filter.options args) (others.reads word args)
      (λ is. p.reading.one_reading args) (q.one_reading word args) h;
  one_outcome = λ word args. or_one_outcome filter.making others.making (is_text filter.name word) (IsReading filter.options args) (others.reads word args)
      (p.reading.one_outcome args) (q.one_outcome word args);
}
