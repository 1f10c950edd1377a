-- Numbers and names.
use Rattle.std.proofs.Common.{◌≡◌, ◌<◌, ◌≤◌, ◌+◌, ◌-◌, ◌^◌, ℕ, zero, suc, Bool, true, false, List, [], ◌∷◌, take, drop, length, refl, sym, ◌∙◌, ap, subst, arith, inl, inr, eq-eqb, ◌==◌}
use Rattle.std.specs.List.{slice_range}
use Rattle.std.specs.Str.Parse.{AllDigits, digits_value}
use Rattle.std.proofs.Math.Nat.{pow-le-pow_right}
use Rattle.std.proofs.Math.Seq.{take-append_seam}
use Rattle.std.proofs.lemmas.Int.Digits.{digits_value-lt}
use Rattle.std.proofs.lemmas.List.{length-append, length-drop, length-take}
use Rattle.av_text.specs.Classes.{is_digit, Stops, IsRun}
use Rattle.av_text.specs.Parts.{Lacks}
use Rattle.av_expr.specs.Grammar.{IsNineteenth, NoDigits, NoNumber}
use Rattle.av_expr.specs.Reading.{FailsAt, BeginsNumber, BeginsName}
use Rattle.av_expr.specs.declared.fault.ExprFault.{ExprFault}
use Rattle.av_expr.specs.declared.fault.ExprKind.TheVariants.{Syntax}
use Rattle.av_text.proofs.Places.{later_rest}

-- ---- digits

pub digits_front : (ds : List ℕ) (i : ℕ) → AllDigits 10 ds → AllDigits 10 (take i ds)
digits_front [] zero all = tt
digits_front [] (suc i) all = tt
digits_front (c ∷ ds) zero all = tt
digits_front (c ∷ ds) (suc i) all = (all.0, digits_front ds i all.1)

pub number_below : (ds : List ℕ) → AllDigits 10 ds → length ds ≤ 18 → digits_value 10 ds < 10 ^ 18
number_below ds all few = let below = digits_value-lt 10 ds all in let more = pow-le-pow_right {n = 10} (omega arith) few in omega arith

-- the digits at a place
pub run_here : (p : ℕ → Bool) (text : List ℕ) (place : ℕ) (front rest : List ℕ) → place ≤ length text → IsRun p (drop place text) front rest
    → IsRun p (drop place text) (slice_range text place (length text - length rest)) (drop (length text - length rest) text)
run_here p text place front rest within run =
    let long = ap length run.text_is ∙ length-append front rest in
    let left = length-drop place text in
    let size : length text - length rest - place ≡ length front = omega arith in
    let same : slice_range text place (length text - length rest) ≡ front = rw (size, run.text_is) (take-append_seam front rest) in
    rw (same, later_rest text place front rest run.text_is) run

pub front_below : (ds : List ℕ) (i : ℕ) → AllDigits 10 ds → length ds ≤ 18 → digits_value 10 (take i ds) < 10 ^ 18
front_below ds i all few = number_below (take i ds) (digits_front ds i all) (let short = length-take i ds in omega arith)

-- the place of the 19th digit
pub nineteenth : (text : List ℕ) (place : ℕ) (digits rest : List ℕ) → place ≤ length text → IsRun is_digit (drop place text) digits rest → 18 < length digits
    → FailsAt IsNineteenth text place (record { at = place + 18; kind = Syntax })
nineteenth text place digits rest within run many =
    let long = ap length run.text_is ∙ length-append digits rest in
    let left = length-drop place text in
    let behind = length-drop 18 (drop place text) in
    (drop 18 (drop place text), (digits, rest, run, many, refl, refl), omega arith)

-- ---- the first byte

-- the text begins with a byte of the class, so its run isn't empty
pub some_run : (p : ℕ → Bool) (text front rest behind : List ℕ) (c : ℕ) → IsRun p text front rest → text ≡ c ∷ behind → p c ≡ true → 0 < length front
some_run p text [] rest behind c run e is = absurd (let not_so : p c ≡ false = subst (Stops p) (sym run.text_is ∙ e) run.whole in cc)
some_run p text (x ∷ front) rest behind c run e is = omega arith

pub name_stops : {text : List ℕ} → BeginsName text → Stops is_digit text
name_stops {text} h = subst (Stops is_digit) (sym h.2) h.4

-- the number begins with a digit if no point is after its digits
pub some_digits : {text front rest : List ℕ} → BeginsNumber text → IsRun is_digit text front rest → Lacks 46 rest → 0 < length front
some_digits {text} {front} {rest} (c, behind, e, inl digit) run lacks = some_run is_digit text front rest behind c run e digit
some_digits {text} {front} {rest} (c, behind, e, inr point) run lacks = by front rest run lacks where
  by : (front rest : List ℕ) → IsRun is_digit text front rest → Lacks 46 rest → 0 < length front
  by [] rest run lacks = absurd (let is = eq-eqb c 46 point in let not_so : (c == 46) ≡ false = subst (Lacks 46) (sym run.text_is ∙ e) lacks in cc)
  by (x ∷ front) rest run lacks = omega arith

-- ---- faults of numbers

pub no_digit : (text : List ℕ) (place end : ℕ) → place ≤ length text → Stops is_digit (drop end text) → end ≡ place → FailsAt NoDigits text place (record { at = place; kind = Syntax })
no_digit text place end within stops same = let left = length-drop place text in (drop place text, inl (rw same at stops, refl, refl), omega arith)

-- after the digits and the point
pub part_fault : (text : List ℕ) (place end : ℕ) (digits : List ℕ) (f : ExprFault) → IsRun is_digit (drop place text) digits (drop end text) → length digits ≤ 18 → drop end text ≡ 46 ∷ drop (end + 1) text
    → FailsAt NoDigits text (end + 1) f → FailsAt NoNumber text place f
part_fault text place end digits f run few mark h = (h.0, inr (digits, drop (end + 1) text, rw mark at run, few, h.1), h.2)

pub short_range : (text : List ℕ) (place end : ℕ) → end ≤ place + 18 → length (slice_range text place end) ≤ 18
short_range text place end few = let short = length-take (end - place) (drop place text) in omega arith
