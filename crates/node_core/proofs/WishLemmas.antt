-- What a filter asks of the formats of its links.
use Rattle.std.proofs.Common.{◌≡◌, ◌<◌, ◌+◌, ◌*◌, ◌%◌, ◌^◌, ◌↔◌, ◌⊎◌, ℕ, Bool, true, false, cond, List, [], ◌∷◌, Some, IsTrue, get_or, drop, filter, fold, refl, sym, ◌∙◌, ap, subst, inl, inr}
use Rattle.std.specs.Prelude.{bit_or}
use Rattle.std.specs.List.{slice_get, Contains}
use Rattle.std.proofs.lemmas.List.{at_drop_more}
use Rattle.std.proofs.lemmas.List.Elements.{All-contains, Contains-append_right, filter_agree, filter_passes}
use Rattle.av_base.specs.declared.formats.Format.{Format}
use Rattle.av_base.specs.declared.formats.Format.TheVariants.{Video, Audio}
use Rattle.av_base.specs.declared.formats.PixelFormat.TheVariants.{Gray, Yuv420p, Yuv422p, Yuv444p, Yuva420p, Yuva422p, Yuva444p}
use Rattle.av_base.specs.declared.formats.SampleFormat.TheVariants.{U8, S16, S32}
use Rattle.av_base.specs.declared.sets.FormatSet.{FormatSet}
use Rattle.av_base.specs.FormatSets.{place_of, Has}
use Rattle.av_base.proofs.Lists.{contained, contained_cases, none_contained}
use Rattle.av_base.proofs.FormatSetLemmas.{in_none, in_more}
use Rattle.node_core.specs.FilterLaws.{frame_filter_laws}
use Rattle.node_core.specs.Shaping.{Takes}
use Rattle.node_core.specs.Wishing.{all_formats, is_so, takes_it, set_with, set_of, formats_of}
use Rattle.node_core.specs.declared.kind.Kind.{Kind}
use Rattle.node_core.proofs.Members.{filter_in}

decided_by : {P : Type 0} (b : Bool) → IsTrue b ↔ P → (d : P ⊎ ¬ P) → is_so d ≡ b
decided_by b is (inl p) = sym (is.1 p)
decided_by true is (inr q) = absurd (q (is.0 refl))
decided_by false is (inr q) = refl

-- what a call returns is whether the filter takes the format
takes_it_is : (kind : Kind) (f : Format) (b : Bool) → IsTrue b ↔ Takes kind f → takes_it kind f ≡ b
takes_it_is kind f b is = decided_by b is (frame_filter_laws.making.decided kind.options f)

-- the formats that are gathered, and those to come
abbrev pub GathersFormats : Kind → FormatSet → ℕ → Type 0
GathersFormats kind set i = fold set_with set (filter (takes_it kind) (drop i all_formats)) ≡ formats_of kind

gathers : (kind : Kind) (set : FormatSet) (i : ℕ) (b : Bool) → i < 10 → IsTrue b ↔ Takes kind (get_or all_formats i (Video Gray)) → GathersFormats kind set i
    → fold set_with set (cond b (get_or all_formats i (Video Gray) ∷ filter (takes_it kind) (drop (i + 1) all_formats)) (filter (takes_it kind) (drop (i + 1) all_formats))) ≡ formats_of kind
gathers kind set i b low is so =
    let here : fold set_with set (filter (takes_it kind) (drop i all_formats)) ≡ fold set_with set (filter (takes_it kind) (get_or all_formats i (Video Gray) ∷ drop (i + 1) all_formats)) =
    at_drop_more (λ formats. fold set_with set (filter (takes_it kind) formats)) all_formats i (Video Gray) low in
    let same : takes_it kind (get_or all_formats i (Video Gray)) ≡ b = takes_it_is kind (get_or all_formats i (Video Gray)) b is in
    let rest = filter (takes_it kind) (drop (i + 1) all_formats) in
    ap (λ (x : Bool). fold set_with set (cond x (get_or all_formats i (Video Gray) ∷ rest) rest)) (sym same) ∙ (sym here ∙ so)

-- one more format that the filter takes
pub gathers_one : (kind : Kind) (set next : FormatSet) (i : ℕ) (b : Bool) → i < 10 → IsTrue b ↔ Takes kind (get_or all_formats i (Video Gray)) → GathersFormats kind set i
    → b ≡ true → next.bits ≡ bit_or set.bits (2 ^ place_of (get_or all_formats i (Video Gray))) → GathersFormats kind next (i + 1)
gathers_one kind set next i true low is so taken bits =
    let same : next ≡ set_with set (get_or all_formats i (Video Gray)) = ap (λ (n : ℕ). let s : FormatSet = record { bits = n } in s) bits in
    ap (λ (s : FormatSet). fold set_with s (filter (takes_it kind) (drop (i + 1) all_formats))) same ∙ gathers kind set i true low is so
gathers_one kind set next i false low is so taken bits = absurd (cc)

-- one more format that it doesn't take
pub gathers_none : (kind : Kind) (set : FormatSet) (i : ℕ) (b : Bool) → i < 10 → IsTrue b ↔ Takes kind (get_or all_formats i (Video Gray)) → GathersFormats kind set i
    → b ≡ false → GathersFormats kind set (i + 1)
gathers_none kind set i true low is so skipped = absurd (cc)
gathers_none kind set i false low is so skipped = gathers kind set i false low is so

-- ---- the set of the formats that a filter takes

bit_fits : (f : Format) → 1 * 2 ^ place_of f % 2 ^ 16 ≡ 2 ^ place_of f
bit_fits (Video Gray) = refl
bit_fits (Video Yuv420p) = refl
bit_fits (Video Yuv422p) = refl
bit_fits (Video Yuv444p) = refl
bit_fits (Video Yuva420p) = refl
bit_fits (Video Yuva422p) = refl
bit_fits (Video Yuva444p) = refl
bit_fits (Audio U8) = refl
bit_fits (Audio S16) = refl
bit_fits (Audio S32) = refl

in_with : (set : FormatSet) (format f : Format) → Has (set_with set format) f ↔ (Has set f ⊎ (f ≡ format))
in_with set format f =
    let P : ℕ → Type 0 = λ n. Has (record { bits = bit_or set.bits n }) f ↔ (Has set f ⊎ (f ≡ format)) in
    subst P (bit_fits format) (in_more set format f)

-- a format of a set that was gathered was there at first, or it is one of those that came
gathered_cases : (formats : List Format) (set : FormatSet) (f : Format) → Has (fold set_with set formats) f → Has set f ⊎ Contains formats f
gathered_cases [] set f has = inl has
gathered_cases (format ∷ formats) set f has = elim (gathered_cases formats (set_with set format) f has) [
  | inr later ↦ inr (Contains-append_right (format ∷ []) formats f later)
  | inl now ↦ elim ((in_with set format f).0 now) [
    | inl before ↦ inl before
    | inr same ↦ inr (contained (format ∷ formats) 0 f (ap Some (sym same)))
  ]
]

gathered_before : (formats : List Format) (set : FormatSet) (f : Format) → Has set f → Has (fold set_with set formats) f
gathered_before [] set f has = has
gathered_before (format ∷ formats) set f has = gathered_before formats (set_with set format) f ((in_with set format f).1 (inl has))

gathered : (formats : List Format) (set : FormatSet) (f : Format) → Contains formats f → Has (fold set_with set formats) f
gathered [] set f here = absurd (none_contained f here)
gathered (format ∷ formats) set f here = elim (contained_cases format formats f here) [
  | inl same ↦ gathered_before formats (set_with set format) f ((in_with set format f).1 (inr (sym same)))
  | inr later ↦ gathered formats (set_with set format) f later
]

-- a set of some formats has these
pub in_set_of : (formats : List Format) (f : Format) → Has (set_of formats) f ↔ Contains formats f
in_set_of formats f = (
  λ has. elim (gathered_cases formats (record { bits = 0 }) f has) [ inl before ↦ absurd (in_none f before) | inr here ↦ here ],
  gathered formats (record { bits = 0 }) f,
)

decided_true : {P : Type 0} (d : P ⊎ ¬ P) → is_so d ≡ true → P
decided_true (inl p) e = p
decided_true (inr q) e = absurd (cc)

decided_so : {P : Type 0} (d : P ⊎ ¬ P) → P → is_so d ≡ true
decided_so (inl p) h = refl
decided_so (inr q) h = absurd (q h)

-- the formats of a filter are those that it takes
pub has_format : (kind : Kind) (f : Format) → Has (formats_of kind) f → Takes kind f
has_format kind f has =
    let here = (in_set_of (filter (takes_it kind) all_formats) f).0 has in
    let passes = All-contains (λ (g : Format). takes_it kind g ≡ true) (filter (takes_it kind) all_formats) f (filter_passes (takes_it kind) all_formats) here in
    decided_true (frame_filter_laws.making.decided kind.options f) passes

pub format_had : (kind : Kind) (f : Format) → Takes kind f → Has (formats_of kind) f
format_had kind f takes =
    let place : Contains all_formats f = contained all_formats (place_of f) f (at_its_place f) in
    let passes = decided_so (frame_filter_laws.making.decided kind.options f) takes in
    (in_set_of (filter (takes_it kind) all_formats) f).1 (filter_in (takes_it kind) all_formats f place passes)
  where
    at_its_place : (g : Format) → slice_get all_formats (place_of g) ≡ Some g
    at_its_place (Video Gray) = refl
    at_its_place (Video Yuv420p) = refl
    at_its_place (Video Yuv422p) = refl
    at_its_place (Video Yuv444p) = refl
    at_its_place (Video Yuva420p) = refl
    at_its_place (Video Yuva422p) = refl
    at_its_place (Video Yuva444p) = refl
    at_its_place (Audio U8) = refl
    at_its_place (Audio S16) = refl
    at_its_place (Audio S32) = refl

decided_alike : {P Q : Type 0} (d : P ⊎ ¬ P) (e : Q ⊎ ¬ Q) → (P → Q) → (Q → P) → is_so e ≡ is_so d
decided_alike (inl p) (inl q) f g = refl
decided_alike (inl p) (inr n) f g = absurd (n (f p))
decided_alike (inr n) (inl q) f g = absurd (n (g q))
decided_alike (inr n) (inr m) f g = refl

-- filters that take the same formats have the same set of them
pub same_formats : (a b : Kind) → ((f : Format) → Takes a f → Takes b f) → ((f : Format) → Takes b f → Takes a f) → formats_of b ≡ formats_of a
same_formats a b f g =
    ap set_of (filter_agree (takes_it b) (takes_it a)
    (λ x. decided_alike (frame_filter_laws.making.decided a.options x) (frame_filter_laws.making.decided b.options x) (f x) (g x)) all_formats)
