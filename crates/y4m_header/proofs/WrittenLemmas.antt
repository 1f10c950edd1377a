-- A written header line means its shape.
use Rattle.std.proofs.Common.{◌≡◌, ℕ, zero, suc, ◌<◌, ◌≤◌, ◌^◌, ◌==◌, Bool, true, false, ltb, nat_lt, Some, None, Ok, List, [], ◌∷◌, ◌++◌, codes, length, refl, sym, ap, ◌∙◌, subst, arith, append_assoc, length-append}
use Rattle.std.specs.Prelude.{if◌then◌else◌, Contains}
use Rattle.std.specs.Fmt.{decimal}
use Rattle.std.specs.List.{All, list_all, slice_split}
use Rattle.std.proofs.lemmas.Bool.{lt-ltb, le-leb, and_from, and_parts, ltb-true, ne_eqb}
use Rattle.std.proofs.lemmas.Fmt.{length-decimal-le}
use Rattle.std.proofs.lemmas.List.Elements.{All-cons, All-contains, All-from_recursion}
use Rattle.std.proofs.lemmas.List.Folds.{list_all-append}
use Rattle.std.proofs.lemmas.List.Splits.{slice_split_at, slice_split_none}
use Rattle.av_base.specs.declared.formats.PixelFormat.{PixelFormat}
use Rattle.av_base.specs.declared.formats.PixelFormat.TheVariants.{Gray, Yuv420p, Yuv422p, Yuv444p, Yuva420p, Yuva422p, Yuva444p}
use Rattle.av_base.specs.declared.formats.Format.{Format}
use Rattle.av_base.specs.declared.formats.Format.TheVariants as format
use Rattle.av_base.specs.declared.numbers.Ratio.{Ratio}
use Rattle.av_base.specs.declared.shapes.Props.{Props}
use Rattle.av_base.specs.declared.shapes.Props.TheVariants as props
use Rattle.av_base.specs.declared.shapes.Shape.{Shape}
use Rattle.av_base.specs.declared.shapes.VideoProps.{VideoProps}
use Rattle.av_base.specs.Bounds.{greatest_side, greatest_picture}
use Rattle.av_base.specs.Planes.{picture_bytes_of}
use Rattle.av_base.specs.Shapes.{AreLawful, IsVideo, IsLawfulVideo, scan_letters}
use Rattle.y4m_header.specs.HeaderLaws.{IsWrittenLine}
use Rattle.y4m_header.specs.HeaderTexts.{colour_of, ratio_text, aspect_text, read_shape, IsWritable, HasHeader}
use Rattle.y4m_header.specs.Params.{Param, params_of, is_space, is_good, is_known, side_in, rate_in, aspect_in, scan_in, colour_in}
use Rattle.y4m_header.specs.Said.{Said, said, ordered_in, are_in_order, IsShapeOf, is_sized, HeaderMeans, Header, magic}
use Rattle.y4m_header.specs.Walk.{param}
use Rattle.y4m_header.proofs.SaidLemmas.{order_of}
use Rattle.y4m_header.proofs.DecimalLemmas.{decimal_above, side_decimal, rate_written, aspect_written, scan_written, reduced_self}

-- ---- bytes

-- no byte that is greater than a code is it
pub none_above : (k : ℕ) (xs : List ℕ) → list_all (nat_lt k) xs ≡ true → ¬ Contains xs k
none_above k [] e (i, less, is) = absurd (omega arith)
none_above k (x ∷ xs) e (zero, less, is) = let above = ltb-true k x (and_parts (ltb k x) (list_all (nat_lt k) xs) e).0 in omega arith
none_above k (x ∷ xs) e (suc i, less, is) = none_above k xs (and_parts (ltb k x) (list_all (nat_lt k) xs) e).1 (i, omega arith, is)

pub no_space : (xs : List ℕ) → list_all (nat_lt 32) xs ≡ true → All (λ x. is_space x ≡ false) xs
no_space [] e = λ k d h. absurd (omega arith)
no_space (x ∷ xs) e =
    let parts = and_parts (ltb 32 x) (list_all (nat_lt 32) xs) e in
    let above = ltb-true 32 x parts.0 in
    All-cons (λ x. is_space x ≡ false) x xs (ne_eqb x 32 (λ same. omega arith)) (no_space xs parts.1)

-- ---- the values of a written line

-- texts of values, each of bytes that are greater than that of a space
record AreTexts (w h f i a c : List ℕ) : Type 0 where
  width : list_all (nat_lt 32) w ≡ true
  height : list_all (nat_lt 32) h ≡ true
  rate : list_all (nat_lt 32) f ≡ true
  scan : list_all (nat_lt 32) i ≡ true
  aspect : list_all (nat_lt 32) a ≡ true
  colour : list_all (nat_lt 32) c ≡ true

abbrev params_text : List ℕ → List ℕ → List ℕ → List ℕ → List ℕ → List ℕ → List ℕ
params_text w h f i a c = 87 ∷ w ++ 32 ∷ (72 ∷ h ++ 32 ∷ (70 ∷ f ++ 32 ∷ (73 ∷ i ++ 32 ∷ (65 ∷ a ++ 32 ∷ (67 ∷ c)))))

abbrev six_params : List ℕ → List ℕ → List ℕ → List ℕ → List ℕ → List ℕ → List Param
six_params w h f i a c = param 87 w ∷ (param 72 h ∷ (param 70 f ∷ (param 73 i ∷ (param 65 a ∷ (param 67 c ∷ [])))))

six_pieces : (w h f i a c : List ℕ) → AreTexts w h f i a c → slice_split is_space (params_text w h f i a c)
    ≡ (87 ∷ w) ∷ ((72 ∷ h) ∷ ((70 ∷ f) ∷ ((73 ∷ i) ∷ ((65 ∷ a) ∷ ((67 ∷ c) ∷ [])))))
six_pieces w h f i a c t =
    slice_split_at is_space (87 ∷ w) 32 _ (no_space (87 ∷ w) t.width) refl
    ∙ ap (λ (z : List (List ℕ)). (87 ∷ w) ∷ z) (slice_split_at is_space (72 ∷ h) 32 _ (no_space (72 ∷ h) t.height) refl
    ∙ ap (λ (z : List (List ℕ)). (72 ∷ h) ∷ z) (slice_split_at is_space (70 ∷ f) 32 _ (no_space (70 ∷ f) t.rate) refl
    ∙ ap (λ (z : List (List ℕ)). (70 ∷ f) ∷ z) (slice_split_at is_space (73 ∷ i) 32 _ (no_space (73 ∷ i) t.scan) refl
    ∙ ap (λ (z : List (List ℕ)). (73 ∷ i) ∷ z) (slice_split_at is_space (65 ∷ a) 32 _ (no_space (65 ∷ a) t.aspect) refl
    ∙ ap (λ (z : List (List ℕ)). (65 ∷ a) ∷ z) (slice_split_none is_space (67 ∷ c) (no_space (67 ∷ c) t.colour))))))

six_of : (w h f i a c : List ℕ) → AreTexts w h f i a c → params_of (32 ∷ params_text w h f i a c) ≡ Some (six_params w h f i a c)
six_of w h f i a c t = rw (six_pieces w h f i a c t) refl

-- what they say
record AreValues (w h f i a c : List ℕ) (s : Said) : Type 0 where
  width : side_in w ≡ Some s.width
  height : side_in h ≡ Some s.height
  rate : rate_in f ≡ Some s.rate
  scan : scan_in i ≡ Some s.scan
  aspect : aspect_in a ≡ Some s.aspect
  colour : colour_in c ≡ s.colour

six_said : (w h f i a c : List ℕ) (s : Said) → AreValues w h f i a c s → said (six_params w h f i a c) ≡ s
six_said w h f i a c s v = rw (v.width, v.height, v.rate, v.scan, v.aspect, v.colour) refl

six_good : (w h f i a c : List ℕ) (s : Said) → AreValues w h f i a c s → list_all is_good (six_params w h f i a c) ≡ true
six_good w h f i a c s v = rw (v.width, v.height, v.rate, v.scan, v.aspect) refl

-- ---- the line

abbrev line_text : List ℕ → List ℕ → List ℕ → List ℕ → List ℕ → List ℕ → List ℕ
line_text w h f i a c = magic ++ 32 ∷ params_text w h f i a c

line_ended : (w h f i a c : List ℕ) → codes "YUV4MPEG2 W" ++ (w ++ (codes " H" ++ (h ++ (codes " F" ++ (f ++ (codes " I" ++ (i ++ (codes " A" ++ (a ++ (codes " C" ++ (c ++ 10 ∷ [])))))))))))
    ≡ line_text w h f i a c ++ 10 ∷ []
line_ended w h f i a c = simp append_assoc

pub lower : (xs : List ℕ) → list_all (nat_lt 32) xs ≡ true → list_all (nat_lt 10) xs ≡ true
lower [] e = refl
lower (x ∷ xs) e =
    let parts = and_parts (ltb 32 x) (list_all (nat_lt 32) xs) e in
    let above = ltb-true 32 x parts.0 in
    and_from (ltb 10 x) (list_all (nat_lt 10) xs) (lt-ltb 10 x (omega arith)) (lower xs parts.1)

line_above : (w h f i a c : List ℕ) → AreTexts w h f i a c → list_all (nat_lt 10) (line_text w h f i a c) ≡ true
line_above w h f i a c t = simp (list_all-append, lower w t.width, lower h t.height, lower f t.rate, lower i t.scan, lower a t.aspect, lower c t.colour)

short_number : (n : ℕ) → n < 2 ^ 32 → length (decimal n) ≤ 10
short_number n h = length-decimal-le 10 n (omega arith) (omega arith) (omega arith)

short_ratio : (a b : ℕ) → a < 2 ^ 32 → b < 2 ^ 32 → length (ratio_text a b) ≤ 21
short_ratio a b p q = let x = short_number a p in let y = short_number b q in omega (arith, length-append {A = ℕ})

short_colour : (f : PixelFormat) → length (colour_of f) ≤ 8
short_colour Gray = omega arith
short_colour Yuv420p = omega arith
short_colour Yuv422p = omega arith
short_colour Yuv444p = omega arith
short_colour Yuva420p = omega arith
short_colour Yuva422p = omega arith
short_colour Yuva444p = omega arith

short_parts : (a b c d e f g : List ℕ) → length a ≤ 10 → length b ≤ 10 → length c ≤ 21 → length d ≤ 1 → length e ≤ 21 → length f ≤ 8 → length g ≤ 1
    → length (codes "YUV4MPEG2 W" ++ (a ++ (codes " H" ++ (b ++ (codes " F" ++ (c ++ (codes " I" ++ (d ++ (codes " A" ++ (e ++ (codes " C" ++ (f ++ g)))))))))))) ≤ 1024
short_parts a b c d e f g ha hb hc hd he hf hg = omega (arith, length-append {A = ℕ})

-- ---- one shape

ratio_above : (n d : ℕ) → n < 2 ^ 32 → d < 2 ^ 32 → list_all (nat_lt 32) (ratio_text n d) ≡ true
ratio_above n d low high = list_all-append (nat_lt 32) (decimal n) (58 ∷ decimal d) ∙ rw (decimal_above 32 n (omega arith) low, decimal_above 32 d (omega arith) high) refl

scan_above : (c : ℕ) → Contains scan_letters c → list_all (nat_lt 32) (c ∷ []) ≡ true
scan_above c has = All-contains (λ x. list_all (nat_lt 32) (x ∷ []) ≡ true) scan_letters c (All-from_recursion (λ x. list_all (nat_lt 32) (x ∷ []) ≡ true) scan_letters (refl, (refl, (refl, (refl, (refl, tt)))))) has

colour_above : (f : PixelFormat) → list_all (nat_lt 32) (colour_of f) ≡ true
colour_above Gray = refl
colour_above Yuv420p = refl
colour_above Yuv422p = refl
colour_above Yuv444p = refl
colour_above Yuva420p = refl
colour_above Yuva422p = refl
colour_above Yuva444p = refl

colour_written : (f : PixelFormat) → 0 < length (colour_of f) → colour_in (colour_of f) ≡ Some f
colour_written Gray some = refl
colour_written Yuv420p some = refl
colour_written Yuv422p some = refl
colour_written Yuv444p some = refl
colour_written Yuva420p some = absurd (omega arith)
colour_written Yuva422p some = absurd (omega arith)
colour_written Yuva444p some = refl

-- what a written line needs
record IsVideoWritable (f : PixelFormat) (p : VideoProps) : Type 0 where
  lawful : IsLawfulVideo p
  wide : p.width ≤ greatest_side
  high : p.height ≤ greatest_side
  bytes : picture_bytes_of f p.width p.height ≤ greatest_picture
  named : 0 < length (colour_of f)
  moving : 0 < p.rate.num

abbrev below_line : Ratio → ℕ
below_line r = if r.num == 0 then 0 else r.den

below_fits : (b : Bool) (n : ℕ) → n < 2 ^ 32 → (if b then 0 else n) < 2 ^ 32
below_fits true n h = omega arith
below_fits false n h = h

abbrev said_by : PixelFormat → VideoProps → Said
said_by f p = record { width = p.width; height = p.height; rate = (p.rate.num, p.rate.den); aspect = (p.aspect.num, p.aspect.den); scan = p.scan; colour = Some f }

abbrev line_of : PixelFormat → VideoProps → List ℕ
line_of f p = line_text (decimal p.width) (decimal p.height) (ratio_text p.rate.num p.rate.den) (p.scan ∷ []) (aspect_text p.aspect) (colour_of f)

abbrev params_by : PixelFormat → VideoProps → List Param
params_by f p = six_params (decimal p.width) (decimal p.height) (ratio_text p.rate.num p.rate.den) (p.scan ∷ []) (aspect_text p.aspect) (colour_of f)

texts_by : (f : PixelFormat) (p : VideoProps) → IsVideoWritable f p → AreTexts (decimal p.width) (decimal p.height) (ratio_text p.rate.num p.rate.den) (p.scan ∷ []) (aspect_text p.aspect) (colour_of f)
texts_by f p w =
    let wide = w.wide in
    let high = w.high in
    let rate = w.lawful.rate in
    let aspect = w.lawful.aspect in
    record {
      width = decimal_above 32 p.width (omega arith) (omega arith);
      height = decimal_above 32 p.height (omega arith) (omega arith);
      rate = ratio_above p.rate.num p.rate.den (let n = rate.num_fits in omega arith) (let n = rate.den_fits in omega arith);
      scan = scan_above p.scan w.lawful.scan;
      aspect = ratio_above p.aspect.num (below_line p.aspect) (let n = aspect.num_fits in omega arith) (below_fits (p.aspect.num == 0) p.aspect.den (let n = aspect.den_fits in omega arith));
      colour = colour_above f;
    }

values_by : (f : PixelFormat) (p : VideoProps) → IsVideoWritable f p
    → AreValues (decimal p.width) (decimal p.height) (ratio_text p.rate.num p.rate.den) (p.scan ∷ []) (aspect_text p.aspect) (colour_of f) (said_by f p)
values_by f p w = record {
  width = side_decimal p.width w.lawful.width w.wide;
  height = side_decimal p.height w.lawful.height w.high;
  rate = rate_written p.rate w.lawful.rate w.moving;
  scan = scan_written p.scan w.lawful.scan;
  aspect = aspect_written p.aspect w.lawful.aspect;
  colour = colour_written f w.named;
}

sized_by : (f : PixelFormat) (p : VideoProps) → IsVideoWritable f p → is_sized (said_by f p) ≡ true
sized_by f p w = rw (lt-ltb 0 p.width w.lawful.width, lt-ltb 0 p.height w.lawful.height, le-leb (picture_bytes_of f p.width p.height) greatest_picture w.bytes) refl

ordered_by : (f : PixelFormat) (p : VideoProps) → IsVideoWritable f p → are_in_order (params_by f p) ≡ true
ordered_by f p w =
    let values = values_by f p w in
    and_from (list_all is_good (params_by f p)) (is_sized (said (params_by f p))) (six_good _ _ _ _ _ _ (said_by f p) values)
    (ap is_sized (six_said _ _ _ _ _ _ (said_by f p) values) ∙ sized_by f p w)

abbrev shape_by : PixelFormat → VideoProps → Shape
shape_by f p = record { format = format.Video f; props = props.Video p }

means_by : (f : PixelFormat) (p : VideoProps) → IsVideoWritable f p → HeaderMeans (line_of f p) (Ok (read_shape (shape_by f p)))
means_by f p w =
    let params = params_by f p in
    let values = values_by f p w in
    let order : ordered_in (32 ∷ params_text (decimal p.width) (decimal p.height) (ratio_text p.rate.num p.rate.den) (p.scan ∷ []) (aspect_text p.aspect) (colour_of f)) ≡ Some params =
    ap order_of (six_of _ _ _ _ _ _ (texts_by f p w)) ∙ ap (λ (t : Bool). if t then Some params else None) (ordered_by f p w) in
    let known : list_all is_known params ≡ true = rw (values.colour) refl in
    let shape : IsShapeOf (said_by f p) (read_shape (shape_by f p)) = record {
      colour = f;
      rate = p.rate;
      aspect = p.aspect;
      colour_is = refl;
      rate_is = reduced_self p.rate w.lawful.rate;
      aspect_is = reduced_self p.aspect w.lawful.aspect;
      shape_is = refl;
    } in
    Header _ params _ refl order known (subst (λ (s : Said). IsShapeOf s (read_shape (shape_by f p))) (sym (six_said _ _ _ _ _ _ (said_by f p) values)) shape)

video_line : (f : PixelFormat) (p : VideoProps) → IsVideoWritable f p → IsWrittenLine (shape_by f p) (line_of f p)
video_line f p w =
    let wide = w.wide in
    let high = w.high in
    let rate = w.lawful.rate in
    let aspect = w.lawful.aspect in
    record {
      text_is = line_ended (decimal p.width) (decimal p.height) (ratio_text p.rate.num p.rate.den) (p.scan ∷ []) (aspect_text p.aspect) (colour_of f);
      no_feed = none_above 10 (line_of f p) (line_above _ _ _ _ _ _ (texts_by f p w));
      short = short_parts (decimal p.width) (decimal p.height) (ratio_text p.rate.num p.rate.den) (p.scan ∷ []) (aspect_text p.aspect) (colour_of f) (10 ∷ [])
          (short_number p.width (omega arith)) (short_number p.height (omega arith))
          (short_ratio p.rate.num p.rate.den (let n = rate.num_fits in omega arith) (let n = rate.den_fits in omega arith)) (omega arith)
          (short_ratio p.aspect.num (below_line p.aspect) (let n = aspect.num_fits in omega arith) (below_fits (p.aspect.num == 0) p.aspect.den (let n = aspect.den_fits in omega arith)))
          (short_colour f) (omega arith);
      means = means_by f p w;
    }

pub meaning_written : (s : Shape) → IsWritable s → (line : List ℕ) × IsWrittenLine s line
meaning_written s w = by_kind s.format s.props s refl refl w
  where
    by_kind : (f : Format) (p : Props) (s : Shape) → s.format ≡ f → s.props ≡ p → IsWritable s → (line : List ℕ) × IsWrittenLine s line
    by_kind (format.Video f) (props.Video p) s e d w =
        let lawful : IsLawfulVideo p = subst (λ (q : Props). AreLawful (format.Video f) q) d (subst (λ (g : Format). AreLawful g s.props) e w.lawful) in
        let has : HasHeader (format.Video f) (props.Video p) = subst (λ (q : Props). HasHeader (format.Video f) q) d (subst (λ (g : Format). HasHeader g s.props) e w.header) in
        let limits = w.limits in
        let wide = rw d at limits.width in
        let high = rw d at limits.height in
        let bytes = rw (e, d) at limits.bytes in
        let same : s ≡ shape_by f p = ap (λ (g : Format). record s { format = g }) e ∙ ap (λ (q : Props). record { format = format.Video f; props = q }) d in
        subst (λ (z : Shape). (line : List ℕ) × IsWrittenLine z line) (sym same)
        (line_of f p, video_line f p (record { lawful = lawful; wide = wide; high = high; bytes = bytes; named = has.0; moving = has.1 }))
    by_kind (format.Video f) (props.Audio p) s e d w = absurd (subst (λ (q : Props). AreLawful (format.Video f) q) d (subst (λ (g : Format). AreLawful g s.props) e w.lawful))
    by_kind (format.Audio f) p s e d w = absurd (subst IsVideo e w.video)
