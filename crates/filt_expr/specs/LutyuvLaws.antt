-- What is shown of lutyuv: that its reading and its outcome are exactly one.
use Rattle.std.specs.Prelude.{◌≡◌, ◌<◌, ◌≤◌, ◌==◌, ◌⊎◌, Bool, true, false, cond, ℕ, pos, List, [], length, get_or, replicate, slice_index, slice_index_or, Result, Ok, Err, codes, refl}
use Rattle.std.proofs.Common.{inl, inr, ◌∙◌, sym, ap, subst, arith}
use Rattle.std.proofs.lemmas.Bool.{cases_lt}
use Rattle.std.proofs.lemmas.Int.{ints}
use Rattle.std.proofs.lemmas.List.{ext_get_or, get_or-replicate, get_or_past, length-replicate}
use Rattle.av_base.specs.Planes.{plane_count_of}
use Rattle.av_base.specs.Shapes.{planes_of, width_of, height_of, pixel_format_of, IsPictured}
use Rattle.av_base.specs.declared.formats.PixelFormat.{PixelFormat}
use Rattle.av_base.specs.declared.formats.PixelFormat.TheVariants.{Gray, Yuv420p, Yuv422p, Yuv444p, Yuva420p, Yuva422p, Yuva444p}
use Rattle.av_base.specs.declared.shapes.Shape.{Shape}
use Rattle.av_text.specs.declared.arguments.Arg.{Arg}
use Rattle.av_expr.proofs.FractionLemmas.{over_one}
use Rattle.av_expr.specs.Fractions.{IsLowest, IsCut}
use Rattle.av_expr.specs.Trees.{Tree, HasLowest}
use Rattle.av_expr.specs.declared.vars.Var.{Var}
use Rattle.av_expr.specs.declared.vars.Var.TheVariants.{Val, MinVal, MaxVal, NegVal}
use Rattle.av_expr.specs.declared.fraction.Fraction.{Fraction}
use Rattle.av_frame.specs.Frames.{FrameValue}
use Rattle.av_filter.specs.Limits.{IsSmall, after_limits, limits_passed}
use Rattle.av_filter.specs.Meanings.{HasOneOutcome, HasOneReading, IsReading, IsSettled, MakingLaws, MeaningLaws, ReadingLaws, is_of_stream}
use Rattle.av_filter.specs.Forms.{FormLaws, BuildLaws, forms_laws}
use Rattle.av_filter.specs.OptionExistence.{AreNumbered}
use Rattle.av_filter.specs.Outcomes.{IsOne, HasOne, after_fault, passed_others}
use Rattle.av_frame.specs.Pictures.{repainted_keeps}
use Rattle.av_filter.specs.Readings.{complete_law, given_of}
use Rattle.av_frame.specs.Rules.{SameTimes}
use Rattle.av_filter.specs.WordLaws.{word_below}
use Rattle.av_frame.specs.declared.refusals.ConfigError.{ConfigError}
use Rattle.av_frame.specs.declared.refusals.ConfigError.TheVariants.{NoMemory, NoValue}
use Rattle.filt_expr.specs.Defaults.{says_val}
use Rattle.filt_expr.specs.ExprForms.{expr_laws, means_lowest}
use Rattle.filt_expr.specs.Lutyuv.{lutyuv_names, expression_for, lutyuv_forms, looked_up, least_of, most_of, negated_in, at_sample, IsEntry, IsTable, HasNoEntry, HasTable, IsFirstWithout, IsTables, lutyuv_outcome, lutyuv_rules, lutyuv_making, lutyuv}
use Rattle.filt_expr.specs.Sizes.{within_room}
use Rattle.av_filter.specs.Decisions.{search_values, list_of}
use Rattle.filt_expr.specs.Values.{worth_some, worth_one, worth_apart, cut_some, cut_one}
use Rattle.filt_expr.specs.Worth.{expr_form, IsWorthless}
use Rattle.filt_expr.specs.declared.worth.Role.TheVariants.{Sample}
use Rattle.filt_expr.specs.declared.lutyuv.LutyuvOptions.{LutyuvOptions}
use Rattle.filt_expr.specs.declared.lutyuv.LutyuvSettings.{LutyuvSettings}

-- ---- options

pub lutyuv_numbers : AreNumbered 4 lutyuv_names
lutyuv_numbers = word_below 4 lutyuv_names (omega arith, (omega arith, (omega arith, (omega arith, tt))))

lutyuv_build : BuildLaws lutyuv_forms
lutyuv_build = record {
  build = λ v. record { y = v.0; u = v.1.0; v = v.1.1.0; a = v.1.1.1.0 };
  built = λ v. (refl, (refl, (refl, (refl, tt))));
  same = λ a b e i. record { y = e.0 i; u = e.1.0 i; v = e.1.1.0 i; a = e.1.1.1.0 i };
}

val_laws : (value : LutyuvOptions → Tree) → FormLaws (expr_form Sample (codes "val") value)
val_laws value = expr_laws Sample (codes "val") value (omega arith) says_val

lutyuv_one_reading : (args : List Arg) → HasOneReading lutyuv_making (IsReading lutyuv_rules args)
lutyuv_one_reading = complete_law lutyuv_making lutyuv_rules
    (forms_laws lutyuv_numbers (val_laws _, (val_laws _, (val_laws _, (val_laws _, tt)))) lutyuv_build) (λ options n r h. h) (λ options n. refl)

-- ---- entries

at_sample_lowest : (plane val : ℕ) (x : Var) → IsLowest (at_sample plane val x)
at_sample_lowest plane val Val = over_one (pos val)
at_sample_lowest plane val MinVal = over_one (pos (least_of plane))
at_sample_lowest plane val MaxVal = over_one (pos (most_of plane))
at_sample_lowest plane val NegVal = over_one (pos (negated_in plane val))
at_sample_lowest plane val other = over_one (pos 0)

-- a sample has an entry, or its expression has no value there
entry_some : (tree : Tree) (plane val : ℕ) → HasLowest tree → ((n : ℕ) × IsEntry tree plane val n) ⊎ IsWorthless tree (at_sample plane val)
entry_some tree plane val lowest = elim (worth_some tree (at_sample plane val) (at_sample_lowest plane val) lowest) [
  | inr none ↦ inr none
  | inl v ↦ (let cut = cut_some v.0 v.2 in let n = within_room 255 cut.0 in
      inl (n.0, record { value = v.0; worth = v.1; z = cut.0; cut = cut.1; n_is = sym n.1 }))
]

entry_one : {tree : Tree} {plane val n m : ℕ} → IsEntry tree plane val n → IsEntry tree plane val m → n ≡ m
entry_one {tree} {plane} {val} a b =
    let value : a.value ≡ b.value = worth_one tree (at_sample plane val) a.value b.value a.worth b.worth in
    let z : a.z ≡ b.z = cut_one a.z b.z a.cut (subst (λ (f : Fraction). IsCut f b.z) (sym value) b.cut) in
    let n = a.n_is in
    let m = b.n_is in
    cc

entry_apart : {tree : Tree} {plane val n : ℕ} → IsEntry tree plane val n → ¬ IsWorthless tree (at_sample plane val)
entry_apart {tree} {plane} {val} a none = worth_apart tree (at_sample plane val) a.value a.worth none

-- the entries of tables are samples
pub entry_small : {tree : Tree} {plane val n : ℕ} → IsEntry tree plane val n → n < 256
entry_small {n = n} e =
    let m = within_room 255 e.z in
    let same : pos n ≡ pos m.0 = e.n_is ∙ m.1 in
    omega (arith, ints, same, m.2)

table_apart : (o : LutyuvOptions) (p : ℕ) → HasTable o p → ¬ HasNoEntry o p
table_apart o p has none = entry_apart (has none.0 none.1).1 none.2

-- ---- expressions

-- the expression of each plane is in lowest terms
abbrev AreLowest : LutyuvOptions → Type 0
AreLowest o = (p : ℕ) → HasLowest (expression_for o p)

either_lowest : (b : Bool) (t u : Tree) → HasLowest t → HasLowest u → HasLowest (cond b t u)
either_lowest true t u p q = p
either_lowest false t u p q = q

are_lowest : (o : LutyuvOptions) (args : List Arg) → IsReading lutyuv_rules args (Ok o) → AreLowest o
are_lowest o args reads p =
    let has = given_of lutyuv_rules args o (λ options n r h. h) reads in
    either_lowest (p == 0) o.y _ (means_lowest ((has 0 (omega arith)).2.0 refl)) (
    either_lowest (p == 1) o.u _ (means_lowest ((has 1 (omega arith)).2.1.0 refl)) (
    either_lowest (p == 2) o.v o.a (means_lowest ((has 2 (omega arith)).2.1.1.0 refl)) (means_lowest ((has 3 (omega arith)).2.1.1.1.0 refl))))

-- ---- tables

count_low : (f : PixelFormat) → plane_count_of f ≤ 4
count_low Gray = omega arith
count_low Yuv420p = omega arith
count_low Yuv422p = omega arith
count_low Yuv444p = omega arith
count_low Yuva420p = omega arith
count_low Yuva422p = omega arith
count_low Yuva444p = omega arith

-- each plane has a table, or there is a first one without
table_or : (o : LutyuvOptions) → AreLowest o → (p : ℕ) → HasTable o p ⊎ HasNoEntry o p
table_or o lowest p =
    elim (search_values (λ val. (n : ℕ) × IsEntry (expression_for o p) p val n) (λ val. IsWorthless (expression_for o p) (at_sample p val)) 256 (λ val less. entry_some (expression_for o p) p val (lowest p))) [
      | inl all ↦ inl all
      | inr first ↦ inr (first.0, first.1, first.2)
    ]

tables_or : (o : LutyuvOptions) (planes : ℕ) → AreLowest o → ((p : ℕ) × IsFirstWithout o planes p) ⊎ ((p : ℕ) → p < planes → HasTable o p)
tables_or o planes lowest = elim (search_values (HasTable o) (HasNoEntry o) planes (λ p less. table_or o lowest p)) [
  | inl all ↦ inr all
  | inr first ↦ inl (first.0, record { is_plane = first.1; none = first.2; before = first.3 })
]

first_one : (o : LutyuvOptions) (planes : ℕ) → IsOne (IsFirstWithout o planes)
first_one o planes p q a b = elim (cases_lt p q) [
  | inl less ↦ absurd (table_apart o p (b.before p less) a.none)
  | inr from ↦ elim (cases_lt q p) [
    | inl more ↦ absurd (table_apart o q (a.before q more) b.none)
    | inr to ↦ omega arith
  ]
]

-- the table of plane p, or of no plane
record PlaneTable (o : LutyuvOptions) (planes p : ℕ) (table : List ℕ) : Type 0 where
  long : length table ≡ 256
  entries : p < planes → IsTable (expression_for o p) p table
  blank : planes ≤ p → (val : ℕ) → slice_index table val ≡ 0

blank_at : (val : ℕ) → slice_index (replicate 256 0) val ≡ 0
blank_at val = elim (cases_lt val 256) [
  | inl less ↦ get_or-replicate 256 val 0 0 less
  | inr past ↦ get_or_past (replicate 256 0) val 0 (let long = length-replicate {A = ℕ} 256 0 in omega (arith, long))
]

table_of : (o : LutyuvOptions) (planes : ℕ) → ((p : ℕ) → p < planes → HasTable o p) → (p : ℕ) → (table : List ℕ) × PlaneTable o planes p table
table_of o planes all p = elim (cases_lt p planes) [
  | inr past ↦ (replicate 256 0, record { long = length-replicate {A = ℕ} 256 0; entries = λ less. absurd (omega arith); blank = λ h val. blank_at val })
  | inl less ↦ (let table = list_of 0 256 (IsEntry (expression_for o p) p) (all p less) in
      (table.0, record { long = table.1; entries = λ h. table.2; blank = λ past. absurd (omega arith) }))
]

none_past : (tables : List (List ℕ)) → length tables ≡ 4 → (p val : ℕ) → 4 ≤ p → slice_index (slice_index_or tables p []) val ≡ 0
none_past tables long p val past = rw (get_or_past tables p [] (omega (arith, long))) refl

tables_some : (o : LutyuvOptions) (planes : ℕ) → planes ≤ 4 → ((p : ℕ) → p < planes → HasTable o p) → (tables : List (List ℕ)) × IsTables o planes tables
tables_some o planes few all = built (list_of [] 4 (PlaneTable o planes) (λ p low. table_of o planes all p))
  where
    built : (tables : List (List ℕ)) × (length tables ≡ 4) × ((p : ℕ) → p < 4 → PlaneTable o planes p (get_or tables p [])) → (tables : List (List ℕ)) × IsTables o planes tables
    built t = (
      t.0,
      record {
        count = t.1;
        long = λ p low. (t.2 p low).long;
        entries = λ p less. (t.2 p (omega arith)).entries less;
        blank = λ p past val. elim (cases_lt p 4) [
          | inl low ↦ (t.2 p low).blank past val
          | inr high ↦ none_past t.0 t.1 p val high
        ];
      },
    )

module _ {o : LutyuvOptions} {planes : ℕ} {t u : List (List ℕ)} (a : IsTables o planes t) (b : IsTables o planes u) where
  table_one : (p : ℕ) → p < 4 → get_or t p [] ≡ get_or u p []
  table_one p low = ext_get_or 0 (get_or t p []) (get_or u p []) (a.long p low ∙ sym (b.long p low)) (λ val less. each val (subst (λ (n : ℕ). val < n) (a.long p low) less))
    where
      each : (val : ℕ) → val < 256 → get_or (get_or t p []) val 0 ≡ get_or (get_or u p []) val 0
      each val below = elim (cases_lt p planes) [
        | inl plane ↦ entry_one (a.entries p plane val below) (b.entries p plane val below)
        | inr past ↦ a.blank p past val ∙ sym (b.blank p past val)
      ]

  tables_one : t ≡ u
  tables_one = ext_get_or [] t u (a.count ∙ sym b.count) (λ p less. table_one p (subst (λ (n : ℕ). p < n) a.count less))

-- ---- the outcome

pub few_planes : (s : Shape) → planes_of s ≤ 4
few_planes s = count_low (pixel_format_of s.format)

tables_end : (o : LutyuvOptions) (planes : ℕ) → planes ≤ 4 → ((p : ℕ) → p < planes → HasTable o p)
    → HasOne (λ (r : Result LutyuvSettings ConfigError). (tables : List (List ℕ)) × IsTables o planes tables × (r ≡ Ok (record { tables = tables })))
tables_end o planes few all =
    let tables = tables_some o planes few all in
    record {
      some = (Ok (record { tables = tables.0 }), (tables.0, tables.1, refl));
      one = λ r q a b. a.2 ∙ ap (λ (t : List (List ℕ)). Ok (record { tables = t })) (tables_one a.1 b.1) ∙ sym b.2;
    }

outcome_one : (o : LutyuvOptions) (s : Shape) → AreLowest o → HasOne (lutyuv_outcome o s)
unfolding lutyuv_outcome
outcome_one o s low =
    after_fault (IsFirstWithout o (planes_of s)) (λ plane. Err (NoValue plane)) ((p : ℕ) → p < planes_of s → HasTable o p) _
    (tables_or o (planes_of s) low) (first_one o (planes_of s)) (λ all plane first. table_apart o plane (all plane first.is_plane) first.none) (λ all.
    after_limits s (width_of s.props) (height_of s.props) _ (λ small. tables_end o (planes_of s) (few_planes s) all))

lutyuv_one_outcome : (args : List Arg) → HasOneOutcome lutyuv_making (IsReading lutyuv_rules args)
lutyuv_one_outcome args o s reads picture takes = outcome_one o s (are_lowest o args reads)

lutyuv_memory : (o : LutyuvOptions) (s : Shape) → ¬ lutyuv_outcome o s (Err NoMemory)
unfolding lutyuv_outcome
lutyuv_memory o s outcome =
    let tables = passed_others (λ (plane : ℕ) first is. cc) outcome in
    let end = (limits_passed tables.1).1.2 in
    cc

-- ---- the picture

small_outcome : (o : LutyuvOptions) (s : Shape) (t : LutyuvSettings) → lutyuv_outcome o s (Ok t) → IsSmall s (width_of s.props) (height_of s.props)
unfolding lutyuv_outcome
small_outcome o s t (inl bad) = absurd (let no = bad.2 in cc)
small_outcome o s t (inr (all, inl large)) = absurd (let no = large.2 in cc)
small_outcome o s t (inr (all, inr (small, end))) = small

pub lutyuv_pictured : (t : LutyuvSettings) (s : Shape) → IsSettled lutyuv_making s t → IsPictured (lutyuv_making.shape t s)
lutyuv_pictured t s h =
    let small = small_outcome h.options s t h.settles in
    record { lawful = h.picture.lawful; video = h.picture.video; limits = record { width = small.width; height = small.height; bytes = small.bytes } }

lutyuv_keeps : (t : LutyuvSettings) (x : FrameValue) → SameTimes x (lutyuv_making.made t x)
lutyuv_keeps t x = repainted_keeps (looked_up t.tables) x

lutyuv_shaped : (t : LutyuvSettings) (x : FrameValue) → (lutyuv_making.made t x).shape ≡ lutyuv_making.shape t x.shape
lutyuv_shaped t x = refl

-- ---- the laws

pub lutyuv_making_laws : MakingLaws lutyuv_making
lutyuv_making_laws = record { decided = λ o f. inl tt; no_memory = lutyuv_memory; pictured = lutyuv_pictured; stream = λ t. is_of_stream; keeps = lutyuv_keeps; shaped = lutyuv_shaped }

pub lutyuv_reading_laws : ReadingLaws lutyuv_making lutyuv_rules
lutyuv_reading_laws = record { one_reading = lutyuv_one_reading; one_outcome = lutyuv_one_outcome }

pub lutyuv_laws : MeaningLaws lutyuv
lutyuv_laws = record { making = lutyuv_making_laws; reading = lutyuv_reading_laws }
