-- Origins of input pads, as they are found.
use Rattle.std.proofs.Common.{◌≡◌, ◌<◌, ◌↔◌, ◌⊎◌, ℕ, List, [], ◌∷◌, Option, Some, None, true, length, refl, sym, ◌∙◌, subst, inl, inr, lt-ltb}
use Rattle.std.specs.Prelude.{MatchOption}
use Rattle.std.specs.List.{slice_get, AllByRecursion}
use Rattle.std.specs.Char.{digit_value}
use Rattle.std.specs.Str.Parse.{AllDigits}
use Rattle.av_base.specs.declared.formats.Media.{Media}
use Rattle.av_text.specs.Classes.{is_digit, Stops, IsRun}
use Rattle.av_text.specs.Numbers.{IsNumber}
use Rattle.av_text.proofs.Runs.{run_unique}
use Rattle.graph_plan.specs.declared.places.Place.{Place}
use Rattle.graph_plan.specs.declared.places.Side.TheVariants.{In, Out}
use Rattle.graph_plan.specs.declared.labels.LabelTable.{LabelTable}
use Rattle.graph_plan.specs.declared.origins.Origin.{Origin}
use Rattle.graph_plan.specs.declared.origins.Origin.TheVariants.{Pad, File}
use Rattle.graph_plan.specs.Joining.{pad_of, Notes, IsUnknown, IsOriginOf, Differ, IsMismatched}
use Rattle.av_base.specs.First.{Never}
use Rattle.graph_plan.specs.Refusals.{HasLabelTwice}
use Rattle.graph_plan.proofs.GraphLemmas.{one_giver, joined_not_named, joined_not_open, named_not_open, one_named}
use Rattle.graph_plan.specs.Graphs.{Graph, label, kind, SaysKind, SaysFile, NamesFile, IsOpen, AreJoined}
use Rattle.graph_plan.specs.Graphs.SaysKind.{plain, video, first_video, audio, first_audio}

-- ---- labels of files

runs_digits : (text : List ℕ) → AllDigits 10 text → AllByRecursion (λ c. is_digit c ≡ true) text
runs_digits [] all = tt
runs_digits (c ∷ rest) all = (lt-ltb (digit_value c) 10 all.0, runs_digits rest all.1)

kind_stops : (suffix : List ℕ) (said : Option Media) → SaysKind suffix said → Stops is_digit suffix
kind_stops _ _ plain = tt
kind_stops _ _ video = refl
kind_stops _ _ first_video = refl
kind_stops _ _ audio = refl
kind_stops _ _ first_audio = refl

-- a label of a file consists of its digits and of the text after them
pub says_parts : (name digits suffix : List ℕ) → IsRun is_digit name digits suffix → (file : ℕ) (said : Option Media) → SaysFile name file said
    → IsNumber 1 4 digits file × SaysKind suffix said
says_parts name digits suffix run file said says =
    let parts = run_unique is_digit says.digits digits says.suffix suffix (runs_digits says.digits says.number.digits) run.each (kind_stops says.suffix said says.kind_said) run.whole (sym says.name_is ∙ run.text_is) in
    let P : List ℕ → Type 0 = λ t. IsNumber 1 4 t file in
    let Q : List ℕ → Type 0 = λ t. SaysKind t said in
    (subst P parts.0 says.number, subst Q parts.1 says.kind_said)

-- ---- what an input pad's label says

module _ (graph : Graph) (outs : LabelTable) (notes : Notes graph Out (λ name. Unit {0}) outs) (taker : Place) (name : List ℕ) (labelled : label graph In taker.filter taker.pad ≡ Some name) where
  -- it is on an output pad
  pub origin_shared : (giver : Place) → pad_of outs name ≡ Some giver → IsOriginOf graph taker (Pad giver)
  origin_shared giver has = inl (name, (notes.pad name giver has).0, labelled)

  -- it doesn't
  pub origin_named : pad_of outs name ≡ None → (o : Option Origin)
      → MatchOption o ((file : ℕ) (said : Option Media) → SaysFile name file said → file < length graph.files → ⊥)
      (λ origin. (file : ℕ) × (said : Option Media) × (origin ≡ File file said) × SaysFile name file said × (file < length graph.files))
      → MatchOption o (IsUnknown graph taker) (IsOriginOf graph taker)
  origin_named none None says = record {
    name = name;
    is_label = labelled;
    on_no_output = λ filter pad on. (let has = notes.all filter pad name on tt in let some = has.1 in cc);
    names_none = says;
  }
  origin_named none (Some origin) says =
      let P : Origin → Type 0 = λ o. IsOriginOf graph taker o in
      subst P (sym says.2) (record {
        name = name;
        is_label = labelled;
        on_no_output = λ filter pad on. (let has = notes.all filter pad name on tt in let some = has.1 in cc);
        says = says.3;
        is_file = says.4;
      })

-- ---- kinds

module _ (graph : Graph) (once : Never (HasLabelTwice graph)) (taker : Place) where
  pub pad_differs : (giver : Place) → AreJoined graph giver taker → Differ (kind graph Out giver.filter giver.pad) (kind graph In taker.filter taker.pad) ↔ IsMismatched graph taker
  pad_differs giver joined = (λ differ. inl (giver, joined, differ), back) where
    back : IsMismatched graph taker → Differ (kind graph Out giver.filter giver.pad) (kind graph In taker.filter taker.pad)
    back (inl other) =
        let P : Place → Type 0 = λ p. Differ (kind graph Out p.filter p.pad) (kind graph In taker.filter taker.pad) in
        subst P (one_giver graph once other.0 giver taker other.1 joined) other.2
    back (inr named) = absurd (joined_not_named graph giver taker named.0 named.1 joined named.2)

  pub file_differs : (file : ℕ) (said : Option Media) → NamesFile graph taker file said
      → (Differ (slice_get graph.files file) (kind graph In taker.filter taker.pad) ⊎ Differ (slice_get graph.files file) said) ↔ IsMismatched graph taker
  file_differs file said names = (λ differ. inr (file, said, names, differ), back) where
    back : IsMismatched graph taker → Differ (slice_get graph.files file) (kind graph In taker.filter taker.pad) ⊎ Differ (slice_get graph.files file) said
    back (inl joined) = absurd (joined_not_named graph joined.0 taker file said joined.1 names)
    back (inr other) =
        let same = one_named graph taker other.0 file other.1 said other.2 names in
        let P : ℕ → Type 0 = λ f. Differ (slice_get graph.files f) (kind graph In taker.filter taker.pad) ⊎ Differ (slice_get graph.files f) other.1 in
        let Q : Option Media → Type 0 = λ s. Differ (slice_get graph.files file) (kind graph In taker.filter taker.pad) ⊎ Differ (slice_get graph.files file) s in
        subst Q same.1 (subst P same.0 other.3)

  pub open_agrees : IsOpen graph taker → IsMismatched graph taker → ⊥
  open_agrees opened (inl joined) = joined_not_open graph joined.0 taker joined.1 opened
  open_agrees opened (inr named) = named_not_open graph taker named.0 named.1 named.2 opened
