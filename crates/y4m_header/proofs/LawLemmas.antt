-- A header line has exactly one meaning.
use Rattle.std.proofs.Common.{◌≡◌, ℕ, true, false, nat_eq, Option, Some, None, Result, Ok, Err, List, ◌++◌, take, drop, length, refl, sym, ap, ◌∙◌, subst, inl, inr, is_some}
use Rattle.std.specs.List.{list_all}
use Rattle.std.specs.Cmp.Lexicographic.{pointwise}
use Rattle.std.proofs.lemmas.Bool.{cases_Bool, false≢true}
use Rattle.std.proofs.lemmas.List.{append_cancel_left}
use Rattle.av_base.specs.declared.formats.PixelFormat.{PixelFormat}
use Rattle.av_base.specs.declared.formats.Format.TheVariants as format
use Rattle.av_base.specs.declared.numbers.Ratio.{Ratio}
use Rattle.av_base.specs.declared.shapes.Props.TheVariants as props
use Rattle.av_base.specs.declared.shapes.Shape.{Shape}
use Rattle.av_base.specs.Shapes.{IsPictured}
use Rattle.y4m_header.specs.Params.{Param, params_of, is_known}
use Rattle.y4m_header.specs.Said.{Said, said, ordered_in, IsShapeOf, HeaderMeans, Other, Disorder, Colour, Header, magic}
use Rattle.y4m_header.specs.Walk.{unsaid}
use Rattle.y4m_header.specs.declared.fault.HeaderFault.{HeaderFault}
use Rattle.y4m_header.specs.declared.fault.HeaderFault.TheVariants.{NotMedia, BadHeader, BadColour}
use Rattle.y4m_header.proofs.MeansLemmas.{pictured, order_facts}
use Rattle.y4m_header.proofs.PrefixLemmas.{prefix_found, prefix_none}
use Rattle.y4m_header.proofs.RatioLemmas.{ratio_some, ratio_unique}
use Rattle.y4m_header.proofs.SaidLemmas.{said_range, colour_known}

-- ---- there is a meaning

abbrev Meaning : List ℕ → Type 0
Meaning text = (r : Result Shape HeaderFault) × HeaderMeans text r

shape_some : (params : List Param) (f : PixelFormat) → (said params).colour ≡ Some f → (shape : Shape) × IsShapeOf (said params) shape
shape_some params f is =
    let s : Said = said params in
    let range = said_range params in
    let rate = ratio_some s.rate.0 s.rate.1 range.rate_num_fits range.rate_den_some range.rate_den_fits in
    let aspect = ratio_some s.aspect.0 s.aspect.1 range.aspect_num_fits range.aspect_den_some range.aspect_den_fits in (
      record {
        format = format.Video f;
        props = props.Video (record {
          width = s.width;
          height = s.height;
          aspect = aspect.0;
          rate = rate.0;
          base = record { num = rate.0.den; den = rate.0.num };
          scan = s.scan;
        });
      },
      record { colour = f; rate = rate.0; aspect = aspect.0; colour_is = is; rate_is = rate.1; aspect_is = aspect.1; shape_is = refl },
    )

known_some : (o : Option PixelFormat) → is_some o ≡ true → (f : PixelFormat) × (o ≡ Some f)
known_some None e = absurd (false≢true e)
known_some (Some f) e = (f, refl)

ordered_some : (text rest : List ℕ) (params : List Param) → text ≡ magic ++ rest → ordered_in rest ≡ Some params → Meaning text
ordered_some text rest params e ordered = elim (cases_Bool (list_all is_known params)) [
  | inr off ↦ (Err BadColour, Colour rest params e ordered off)
  | inl on ↦
      let colour = known_some (said params).colour (colour_known unsaid.colour params refl on) in
      let shape = shape_some params colour.0 colour.1 in
      (Ok shape.0, Header rest params shape.0 e ordered on shape.1)
]

media_some : (text rest : List ℕ) → text ≡ magic ++ rest → (o : Option (List Param)) → ordered_in rest ≡ o → Meaning text
media_some text rest e None ordered = (Err BadHeader, Disorder rest e ordered)
media_some text rest e (Some params) ordered = ordered_some text rest params e ordered

pub meaning_some : (text : List ℕ) → Meaning text
meaning_some text = elim (cases_Bool (pointwise nat_eq (take (length magic) text) magic)) [
  | inl on ↦ let rest = drop (length magic) text in media_some text rest (prefix_found text magic rest on refl) (ordered_in rest) refl
  | inr off ↦ (Err NotMedia, Other (λ rest. prefix_none text magic rest off))
]

-- ---- and no other

same_rest : {text : List ℕ} (a b : List ℕ) → text ≡ magic ++ a → text ≡ magic ++ b → a ≡ b
same_rest {text} a b e f = append_cancel_left magic a b (sym e ∙ f)

same_order : {text : List ℕ} (a b : List ℕ) (o p : Option (List Param)) → text ≡ magic ++ a → text ≡ magic ++ b → ordered_in a ≡ o → ordered_in b ≡ p → o ≡ p
same_order a b o p e f x y = sym x ∙ (ap ordered_in (same_rest a b e f) ∙ y)

abbrev built : Said → PixelFormat → Ratio → Ratio → Shape
built s colour rate aspect = record {
  format = format.Video colour;
  props = props.Video (record {
    width = s.width;
    height = s.height;
    aspect = aspect;
    rate = rate;
    base = record { num = rate.den; den = rate.num };
    scan = s.scan;
  });
}

shape_unique : (params : List Param) {a b : Shape} → IsShapeOf (said params) a → IsShapeOf (said params) b → a ≡ b
shape_unique params {a} {b} x y =
    let s : Said = said params in
    let range = said_range params in
    let both : Some x.colour ≡ Some y.colour = sym x.colour_is ∙ y.colour_is in
    let colour : x.colour ≡ y.colour = cc in
    let rate = ratio_unique x.rate_is y.rate_is range.rate_den_some in
    let aspect = ratio_unique x.aspect_is y.aspect_is range.aspect_den_some in
    x.shape_is
    ∙ (ap (λ (f : PixelFormat). built s f x.rate x.aspect) colour
    ∙ (ap (λ (r : Ratio). built s y.colour r x.aspect) rate ∙ (ap (λ (r : Ratio). built s y.colour y.rate r) aspect ∙ sym y.shape_is)))

pub two_orders : {text : List ℕ} {T : Type 0} (a b : List ℕ) (params : List Param) → text ≡ magic ++ a → text ≡ magic ++ b → ordered_in a ≡ None → ordered_in b ≡ Some params → T
two_orders a b params e f none some = let never = same_order a b None (Some params) e f none some in absurd (cc)

two_colours : {text : List ℕ} {T : Type 0} (a b : List ℕ) (params others : List Param) → text ≡ magic ++ a → text ≡ magic ++ b → ordered_in a ≡ Some params → ordered_in b ≡ Some others
    → list_all is_known params ≡ false → list_all is_known others ≡ true → T
two_colours a b params others e f x y unknown known =
    let both : Some params ≡ Some others = same_order a b (Some params) (Some others) e f x y in
    let same : params ≡ others = cc in
    absurd (false≢true (sym unknown ∙ (ap (list_all is_known) same ∙ known)))

two_shapes : {text : List ℕ} (a b : List ℕ) (params others : List Param) (x y : Shape) → text ≡ magic ++ a → text ≡ magic ++ b → ordered_in a ≡ Some params → ordered_in b ≡ Some others
    → IsShapeOf (said params) x → IsShapeOf (said others) y → y ≡ x
two_shapes a b params others x y e f p q h k =
    let both : Some params ≡ Some others = same_order a b (Some params) (Some others) e f p q in
    let same : params ≡ others = cc in
    shape_unique others k (subst (λ (ps : List Param). IsShapeOf (said ps) x) same h)

pub meaning_one : (text : List ℕ) (r t : Result Shape HeaderFault) → HeaderMeans text r → HeaderMeans text t → t ≡ r
meaning_one text _ _ (Other none) (Other other) = refl
meaning_one text _ _ (Other none) (Disorder b f q) = absurd (none b f)
meaning_one text _ _ (Other none) (Colour b others f q unknown) = absurd (none b f)
meaning_one text _ _ (Other none) (Header b others shape f q known k) = absurd (none b f)
meaning_one text _ _ (Disorder a e p) (Other none) = absurd (none a e)
meaning_one text _ _ (Disorder a e p) (Disorder b f q) = refl
meaning_one text _ _ (Disorder a e p) (Colour b others f q unknown) = two_orders a b others e f p q
meaning_one text _ _ (Disorder a e p) (Header b others shape f q known k) = two_orders a b others e f p q
meaning_one text _ _ (Colour a params e p unknown) (Other none) = absurd (none a e)
meaning_one text _ _ (Colour a params e p unknown) (Disorder b f q) = two_orders b a params f e q p
meaning_one text _ _ (Colour a params e p unknown) (Colour b others f q also) = refl
meaning_one text _ _ (Colour a params e p unknown) (Header b others shape f q known k) = two_colours a b params others e f p q unknown known
meaning_one text _ _ (Header a params shape e p known h) (Other none) = absurd (none a e)
meaning_one text _ _ (Header a params shape e p known h) (Disorder b f q) = two_orders b a params f e q p
meaning_one text _ _ (Header a params shape e p known h) (Colour b others f q unknown) = two_colours b a others params f e q p unknown known
meaning_one text _ _ (Header a params shape e p known h) (Header b others other f q also k) = ap (λ (s : Shape). Ok s) (two_shapes a b params others shape other e f p q h k)

pub meaning_pictured : (text : List ℕ) (s : Shape) → HeaderMeans text (Ok s) → IsPictured s
meaning_pictured text s (Header rest params shape e ordered known is) = pictured params (order_facts (params_of rest) params ordered).1 is
