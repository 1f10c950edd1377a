-- What a header line means.
use Rattle.std.proofs.Common.{◌≡◌, ℕ, ◌<◌, ◌≤◌, ◌&&◌, true, false, ltb, Option, Some, None, Ok, Err, List, ◌++◌, refl, sym, ap, ◌∙◌, subst, inl, inr, is_some}
use Rattle.std.specs.List.{list_all}
use Rattle.std.proofs.lemmas.Bool.{cases_Bool, and_parts, and_cases, ltb-true, leb-true, false≢true}
use Rattle.std.proofs.lemmas.Nat.Gcd.{IsGcd-swap}
use Rattle.av_base.specs.declared.formats.PixelFormat.{PixelFormat}
use Rattle.av_base.specs.declared.numbers.Ratio.{Ratio}
use Rattle.av_base.specs.declared.shapes.Shape.{Shape}
use Rattle.av_base.specs.Bounds.{greatest_picture}
use Rattle.av_base.specs.Numbers.{IsLowest}
use Rattle.av_base.specs.Planes.{picture_bytes_of}
use Rattle.av_base.specs.Reduced.{IsReduced}
use Rattle.av_base.specs.Shapes.{IsPictured}
use Rattle.av_base.proofs.Arithmetic.{some_factor}
use Rattle.y4m_header.specs.Params.{Param, params_of, is_good, is_known}
use Rattle.y4m_header.specs.Said.{Said, said, is_sized, fits, are_in_order, IsShapeOf, HeaderMeans, Colour, Header, magic}
use Rattle.y4m_header.specs.Walk.{unsaid, said_of, IsOrdered}
use Rattle.y4m_header.specs.declared.fault.HeaderFault.TheVariants.{BadColour}
use Rattle.y4m_header.specs.declared.params.Latest.{Latest}
use Rattle.y4m_header.proofs.SaidLemmas.{order_of, said_range, colour_known}

-- ---- pictures

-- parameters that are in order
pub order_facts : (o : Option (List Param)) (params : List Param) → order_of o ≡ Some params → (o ≡ Some params) × (are_in_order params ≡ true)
order_facts None params e = absurd (cc)
order_facts (Some ps) params e = elim (cases_Bool (are_in_order ps)) [
  | inl on ↦
      let is : Some ps ≡ Some params = sym (rw on refl) ∙ e in
      let same : ps ≡ params = cc in
      (is, ap are_in_order (sym same) ∙ on)
  | inr off ↦ let is : None ≡ Some params = sym (rw off refl) ∙ e in absurd (cc)
]

base_lawful : {num den : ℕ} {rate : Ratio} → IsReduced num den rate → 0 < num → IsLowest rate.den rate.num × (0 < rate.den)
base_lawful {num} {den} {rate} r some = (
  record {
    num_fits = r.lowest.den_fits;
    den_fits = r.lowest.num_fits;
    den_some = some_factor rate.num r.divisor num r.num_is some;
    coprime = IsGcd-swap rate.num rate.den 1 r.lowest.coprime;
  },
  r.lowest.den_some,
)

fits_known : (o : Option PixelFormat) (f : PixelFormat) (width height : ℕ) → o ≡ Some f → fits o width height ≡ true → picture_bytes_of f width height ≤ greatest_picture
fits_known o f width height is e = leb-true (picture_bytes_of f width height) greatest_picture (ap (λ (p : Option PixelFormat). fits p width height) (sym is) ∙ e)

pub pictured : (params : List Param) {shape : Shape} → are_in_order params ≡ true → IsShapeOf (said params) shape → IsPictured shape
pictured params {shape} ordered h =
    let s : Said = said params in
    let range = said_range params in
    let sized = and_parts (ltb 0 s.width && ltb 0 s.height) (fits s.colour s.width s.height) (and_parts (list_all is_good params) (is_sized s) ordered).1 in
    let sides = and_parts (ltb 0 s.width) (ltb 0 s.height) sized.0 in
    rw h.shape_is (record {
      lawful = record {
        width = ltb-true 0 s.width sides.0;
        height = ltb-true 0 s.height sides.1;
        aspect = h.aspect_is.lowest;
        rate = h.rate_is.lowest;
        base = base_lawful h.rate_is range.rate_num_some;
        scan = range.scan;
      };
      video = tt;
      limits = record { width = range.width; height = range.height; bytes = fits_known s.colour h.colour s.width s.height h.colour_is sized.1 };
    })

-- ---- the line

pub means_shape : {text rest : List ℕ} {s : Latest} {shape : Shape} → text ≡ magic ++ rest → IsOrdered rest s → s.named ≡ true → IsShapeOf (said_of s) shape → HeaderMeans text (Ok shape)
means_shape {text} {rest} {s} {shape} e is named h =
    let known = (and_parts (list_all is_known is.params) true (ap (λ (x : Latest). x.named) (sym is.said_is) ∙ named)).0 in
    Header rest is.params shape e is.ordered known (subst (λ (x : Latest). IsShapeOf (said_of x) shape) is.said_is h)

pub ordered_pictured : {rest : List ℕ} {s : Latest} {shape : Shape} → IsOrdered rest s → IsShapeOf (said_of s) shape → IsPictured shape
ordered_pictured {rest} {s} {shape} is h =
    pictured is.params (order_facts (params_of rest) is.params is.ordered).1 (subst (λ (x : Latest). IsShapeOf (said_of x) shape) is.said_is h)

unknown : (params : List Param) → (list_all is_known params && true) ≡ false → list_all is_known params ≡ false
unknown params e = elim (and_cases (list_all is_known params) true e) [ inl off ↦ off | inr never ↦ absurd (false≢true (sym never)) ]

pub means_unnamed : {text rest : List ℕ} {s : Latest} → text ≡ magic ++ rest → IsOrdered rest s → s.named ≡ false → HeaderMeans text (Err BadColour)
means_unnamed {text} {rest} {s} e is named = Colour rest is.params e is.ordered (unknown is.params (ap (λ (x : Latest). x.named) (sym is.said_is) ∙ named))

pub means_uncoloured : {text rest : List ℕ} {s : Latest} → text ≡ magic ++ rest → IsOrdered rest s → s.colour ≡ None → HeaderMeans text (Err BadColour)
means_uncoloured {text} {rest} {s} e is none = elim (cases_Bool (list_all is_known is.params)) [
  | inr off ↦ Colour rest is.params e is.ordered off
  | inl on ↦
      let some = colour_known unsaid.colour is.params refl on in
      let same : s.colour ≡ (said is.params).colour = ap (λ (x : Latest). x.colour) is.said_is in
      absurd (false≢true (ap is_some (sym none ∙ same) ∙ some))
]
