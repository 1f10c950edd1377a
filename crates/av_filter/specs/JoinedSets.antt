-- The rules of two sets, and a rule as a set of one.
use Rattle.std.specs.Prelude.{◌≡◌, Bool, true, ◌||◌, Result, refl}
use Rattle.av_filter.specs.Meanings.{Meaning, MeaningLaws, Making, IsReading, HasOneReading, HasOneOutcome}
use Rattle.av_filter.specs.Words.{is_text}
use Rattle.av_filter.specs.RuleSets.{Catalogue, CatalogueLaws, or_making, or_reads, or_laws, of_one, or_one_reading, or_one_outcome}
use Rattle.av_filter.specs.Wrappers.{Wrapper, wrapped_making, wrapped_making_laws, inside_follows}
use Rattle.av_frame.specs.declared.refusals.OptionError.{OptionError}
use Rattle.av_filter.specs.declared.rule_set.One.{One}
use Rattle.av_filter.specs.declared.rule_set.Or.{Or}
use Rattle.av_filter.specs.declared.rule_set.Sets.{Sets}

abbrev pub same_options : {O : Type 0} → Wrapper O O
same_options = record { inside = λ o. o; wrap = λ o. o; same = λ o. refl }

abbrev pub in_sets : {A B : Type 0} → Wrapper (Or A B) (Sets A B)
in_sets = record { inside = λ s. s.rule; wrap = λ r. record { rule = r }; same = λ r. refl }

abbrev pub in_one : {A : Type 0} → Wrapper A (One A)
in_one = record { inside = λ s. s.rule; wrap = λ r. record { rule = r }; same = λ r. refl }

-- one filter alone, at the end of a list of filters that all have options
abbrev pub last_filter : Meaning → Catalogue
last_filter filter = record {
  Options = filter.Options;
  Settings = One filter.Settings;
  making = wrapped_making same_options in_one filter.making;
  contains = λ word. is_text filter.name word;
  reads = λ word args. IsReading filter.options args;
}

-- the filters of two catalogues
abbrev pub joined_filters : Catalogue → Catalogue → Catalogue
joined_filters c d = record {
  Options = Or c.Options d.Options;
  Settings = Sets c.Settings d.Settings;
  making = wrapped_making same_options in_sets (or_making c.making d.making);
  contains = λ word. c.contains word || d.contains word;
  reads = λ word args. or_reads (c.contains word) (c.reads word args) (d.reads word args);
}

-- ---- the laws

module _ {O S T : Type 0} (w : Wrapper S T) (m : Making O S) (reads : Result O OptionError → Type 0) where
  pub inside_one_reading : HasOneReading m reads → HasOneReading (wrapped_making same_options w m) reads
  inside_one_reading h = record { some = h.some; follows = λ o r x y. inside_follows same_options w m o r (h.follows o r x y); not_both = h.not_both; one_fault = h.one_fault; no_memory = h.no_memory }

  pub inside_one_outcome : HasOneOutcome m reads → HasOneOutcome (wrapped_making same_options w m) reads
  inside_one_outcome h o s k picture takes = of_one w.wrap (m.settles o s) (h o s k picture takes)

module _ {O P S T : Type 0} (a : Making O S) (b : Making P T) (named others : Bool) (first : Result O OptionError → Type 0) (other : Result P OptionError → Type 0) where
  pub sets_one_reading : (named ≡ true → HasOneReading a first) → (others ≡ true → HasOneReading b other) → (named || others) ≡ true
      → HasOneReading (wrapped_making same_options in_sets (or_making a b)) (or_reads named first other)
  sets_one_reading p q h = inside_one_reading in_sets (or_making a b) (or_reads named first other) (or_one_reading a b named others first other p q h)

  pub sets_one_outcome : HasOneOutcome a first → HasOneOutcome b other → HasOneOutcome (wrapped_making same_options in_sets (or_making a b)) (or_reads named first other)
  sets_one_outcome p q = inside_one_outcome in_sets (or_making a b) (or_reads named first other) (or_one_outcome a b named first other p q)

pub joined_laws : {c d : Catalogue} → CatalogueLaws c → CatalogueLaws d → CatalogueLaws (joined_filters c d)
joined_laws {c} {d} p q = record {
  making = wrapped_making_laws same_options in_sets (or_making c.making d.making) (or_laws c.making d.making p.making q.making);
  one_reading = λ word args. sets_one_reading c.making d.making (c.contains word) (d.contains word) (c.reads word args) (d.reads word args) (p.one_reading word args) (q.one_reading word args);
  one_outcome = λ word args. sets_one_outcome c.making d.making (c.contains word) (d.contains word) (c.reads word args) (d.reads word args) (p.one_outcome word args) (q.one_outcome word args);
}

pub last_laws : {filter : Meaning} → MeaningLaws filter → CatalogueLaws (last_filter filter)
last_laws {filter} p = record {
  making = wrapped_making_laws same_options in_one filter.making p.making;
  one_reading = λ word args h. inside_one_reading in_one filter.making (IsReading filter.options args) (p.reading.one_reading args);
  one_outcome = λ word args. inside_one_outcome in_one filter.making (IsReading filter.options args) (p.reading.one_outcome args);
}
