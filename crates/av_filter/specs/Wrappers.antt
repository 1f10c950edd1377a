-- Rules inside of types with one field, which mean what is inside means.
use Rattle.std.specs.Prelude.{◌≡◌, Result, Ok, Err}
use Rattle.std.proofs.Common.{◌∙◌, sym, ap, subst, inl, inr, ⊎_elim}
use Rattle.av_base.specs.declared.shapes.Shape.{Shape}
use Rattle.av_filter.specs.Meanings.{Making, MakingLaws, IsSettled, Follows, HasOneReading, HasOneOutcome}
use Rattle.av_filter.specs.RuleSets.{IsOf, ok_is, of_one, of_lacks, reading_of, Catalogue, CatalogueLaws}
use Rattle.av_frame.specs.declared.refusals.OptionError.{OptionError}
use Rattle.av_frame.specs.declared.refusals.ConfigError.TheVariants.{NoMemory}

-- each value of W has one of A inside
pub record Wrapper (A W : Type 0) : Type 0 where
  pub inside : W → A
  pub wrap : A → W
  pub same : (a : A) → inside (wrap a) ≡ a

abbrev pub wrapped_making : {O P S T : Type 0} → Wrapper O P → Wrapper S T → Making O S → Making P T
wrapped_making p q a = record {
  takes = λ o. a.takes (p.inside o);
  settles = λ o s. IsOf q.wrap (a.settles (p.inside o) s);
  shape = λ t. a.shape (q.inside t);
  made = λ t. a.made (q.inside t);
}

-- filters whose options and settings are inside of others
abbrev pub wrapped_filters : (c : Catalogue) {P T : Type 0} → Wrapper c.Options P → Wrapper c.Settings T → Catalogue
wrapped_filters c {P} {T} p q = record {
  Options = P;
  Settings = T;
  making = wrapped_making p q c.making;
  contains = c.contains;
  reads = λ word args. IsOf p.wrap (c.reads word args);
}

-- ---- the laws

is_inside : {A W E : Type 0} (p : Wrapper A W) (w : W) (a : A) → ◌≡◌ {A = Result W E} (Ok w) (Ok (p.wrap a)) → a ≡ p.inside w
is_inside p w a e = sym (ap p.inside (ok_is e) ∙ p.same a)

module _ {O P S T : Type 0} (p : Wrapper O P) (q : Wrapper S T) (a : Making O S) where
  pub settled_inside : (t : T) (s : Shape) → IsSettled (wrapped_making p q a) s t → IsSettled a s (q.inside t)
  settled_inside t s h = by h.settles
    where
      by : IsOf q.wrap (a.settles (p.inside h.options) s) (Ok t) → IsSettled a s (q.inside t)
      by (inl e) = record {
        options = p.inside h.options;
        picture = h.picture;
        takes = h.takes;
        settles = subst (λ (x : S). a.settles (p.inside h.options) s (Ok x)) (is_inside q t e.0 e.1) e.2;
      }
      by (inr e) = absurd (let no = e.1 in cc)

  pub wrapped_making_laws : MakingLaws a → MakingLaws (wrapped_making p q a)
  wrapped_making_laws l = record {
    decided = λ o. l.decided (p.inside o);
    no_memory = λ o s. of_lacks q.wrap (a.settles (p.inside o) s) NoMemory (l.no_memory (p.inside o) s);
    pictured = λ t s h. l.pictured (q.inside t) s (settled_inside t s h);
    stream = λ t. l.stream (q.inside t);
    keeps = λ t. l.keeps (q.inside t);
    shaped = λ t. l.shaped (q.inside t);
  }

  pub inside_follows : (o r : P) → Follows a (p.inside o) (p.inside r) → Follows (wrapped_making p q a) o r
  inside_follows o r h = record {
    takes = h.takes;
    settles = λ s u k. ⊎_elim (λ e. inl (e.0, e.1, h.settles s (Ok e.0) e.2)) (λ e. inr (e.0, e.1, h.settles s (Err e.0) e.2)) k;
  }

  wrap_follows : (o r : O) → Follows a o r → Follows (wrapped_making p q a) (p.wrap o) (p.wrap r)
  wrap_follows o r h =
      inside_follows (p.wrap o) (p.wrap r)
      (subst (λ (x : O). Follows a x (p.inside (p.wrap r))) (sym (p.same o)) (subst (λ (x : O). Follows a o x) (sym (p.same r)) h))

  pub wrapped_one_reading : (reads : Result O OptionError → Type 0) → HasOneReading a reads → HasOneReading (wrapped_making p q a) (IsOf p.wrap reads)
  wrapped_one_reading reads h = reading_of a (wrapped_making p q a) p.wrap reads wrap_follows h

  pub wrapped_one_outcome : (reads : Result O OptionError → Type 0) → HasOneOutcome a reads → HasOneOutcome (wrapped_making p q a) (IsOf p.wrap reads)
  wrapped_one_outcome reads h o s k picture takes = of_one q.wrap (a.settles (p.inside o) s) (h (p.inside o) s (by k) picture takes)
    where
      by : IsOf p.wrap reads (Ok o) → reads (Ok (p.inside o))
      by (inl e) = subst (λ (x : O). reads (Ok x)) (is_inside p o e.0 e.1) e.2
      by (inr e) = absurd (let no = e.1 in cc)

pub wrapped_laws : {c : Catalogue} {P T : Type 0} (p : Wrapper c.Options P) (q : Wrapper c.Settings T) → CatalogueLaws c → CatalogueLaws (wrapped_filters c p q)
wrapped_laws {c} p q l = record {
  making = wrapped_making_laws p q c.making l.making;
  one_reading = λ word args h. wrapped_one_reading p q c.making (c.reads word args) (l.one_reading word args h);
  one_outcome = λ word args. wrapped_one_outcome p q c.making (c.reads word args) (l.one_outcome word args);
}
