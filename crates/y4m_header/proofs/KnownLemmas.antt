-- What other crates know of header lines.
use Rattle.std.proofs.Common.{ℕ, ◌<◌, Bool, Option, Some, Ok, List, [], ◌∷◌, length, sym, subst, arith, nat_eq, inl, inr}
use Rattle.std.specs.Map.{lookup}
use Rattle.std.specs.Option.{IfSome}
use Rattle.std.specs.Cmp.Lexicographic.{pointwise}
use Rattle.std.proofs.lemmas.Bool.{cases_Bool}
use Rattle.av_base.specs.declared.formats.PixelFormat.{PixelFormat}
use Rattle.av_base.specs.declared.formats.PixelFormat.TheVariants.{Yuv420p}
use Rattle.av_base.specs.declared.shapes.Shape.{Shape}
use Rattle.av_base.proofs.Arithmetic.{some_factor}
use Rattle.y4m_header.specs.Params.{Param, colours, colour_in}
use Rattle.y4m_header.specs.Said.{said, HeaderMeans, Header}
use Rattle.y4m_header.specs.HeaderTexts.{IsWritable, HasHeader, colour_of}
use Rattle.y4m_header.specs.HeaderLaws.{HeadersHaveOneMeaning}
use Rattle.y4m_header.proofs.LawLemmas.{meaning_some, meaning_one, meaning_pictured}
use Rattle.y4m_header.proofs.SaidLemmas.{latest_has, said_range}
use Rattle.y4m_header.proofs.WrittenLemmas.{meaning_written}

pub headers : HeadersHaveOneMeaning
headers = record { some = meaning_some; one = meaning_one; pictured = meaning_pictured; written = meaning_written }

-- ---- headers that are read can be written

-- a colour that has a name
abbrev HasName : PixelFormat → Type 0
HasName f = 0 < length (colour_of f)

abbrev HaveNames : List (List ℕ × PixelFormat) → Type 0
HaveNames [] = Unit {0}
HaveNames (x ∷ xs) = HasName x.1 × HaveNames xs

found_name : (test : List ℕ → Bool) (xs : List (List ℕ × PixelFormat)) → HaveNames xs → IfSome (lookup test xs) HasName
found_name test [] names = tt
found_name test (x ∷ xs) names = elim (cases_Bool (test x.0)) [
  | inl on ↦ rw on (names.0)
  | inr off ↦ rw off (found_name test xs names.1)
]

named : HaveNames colours
named = (omega arith, (omega arith, (omega arith, (omega arith, (omega arith, (omega arith, (omega arith, (omega arith, tt))))))))

colour_named : (params : List Param) → IfSome (said params).colour HasName
colour_named params = latest_has (λ (o : Option PixelFormat). IfSome o HasName) (λ value. Some (colour_in value)) 67 (λ value. found_name (pointwise nat_eq value) colours named) (Some Yuv420p) (omega arith) params

pub header_writable : {line : List ℕ} {shape : Shape} → HeaderMeans line (Ok shape) → IsWritable shape
header_writable {line} {shape} means = written line shape means
  where
    written : (line : List ℕ) (shape : Shape) → HeaderMeans line (Ok shape) → IsWritable shape
    written line shape (Header rest params _ begins ordered known is) =
        let pictured = meaning_pictured line shape (Header rest params shape begins ordered known is) in
        let name : HasName is.colour = subst (λ (o : Option PixelFormat). IfSome o HasName) is.colour_is (colour_named params) in
        let rate : 0 < is.rate.num = some_factor is.rate.num is.rate_is.divisor (said params).rate.0 is.rate_is.num_is (said_range params).rate_num_some in
        record {
          lawful = pictured.lawful;
          video = pictured.video;
          limits = pictured.limits;
          header = subst (λ (s : Shape). HasHeader s.format s.props) (sym is.shape_is) (name, rate);
        }
