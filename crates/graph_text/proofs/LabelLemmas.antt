-- Labels.
use Rattle.std.proofs.Common.{◌≡◌, ◌≢◌, ◌<◌, ◌≤◌, ℕ, List, [], ◌∷◌, ◌++◌, drop, length, refl, sym, ◌∙◌, ap, subst, arith, append_assoc}
use Rattle.std.specs.Prelude.{encode_utf8}
use Rattle.std.specs.Str.Pattern.{FindsCharPrefix, StripsPrefix}
use Rattle.std.proofs.lemmas.Str.{encode_ascii}
use Rattle.std.proofs.lemmas.List.{append-nil}
use Rattle.av_text.specs.Classes.{is_white, is_label, Stops, IsRun}
use Rattle.av_text.specs.declared.fault.TextKind.{TextKind}
use Rattle.av_text.specs.declared.fault.TextKind.TheVariants.{BadLabel}
use Rattle.av_text.proofs.Runs.{same_run}
use Rattle.av_text.specs.Parts.{Skips}
use Rattle.av_text.specs.Parts.{Lacks}
use Rattle.graph_text.specs.Grammar.{IsLabel, AreLabels, LabelsFail, NoLabels}
use Rattle.av_text.specs.Parts.{IsPlace}
use Rattle.av_text.proofs.Places.{skips_none, skipped_bare, skip_twice}
use Rattle.av_base.proofs.Lists.{cons_parts}

pub label_same : {text n m r s : List ℕ} → IsLabel text n r → IsLabel text m s → (n ≡ m) × (r ≡ s)
label_same {text} {n} {m} {r} {s} a b =
    let inside = (cons_parts (sym a.opens ∙ b.opens)).1 in
    let named = (same_run is_white (rw inside at a.before.1) b.before.1).1 in
    let name = same_run is_label (rw named at a.is_name) b.is_name in
    let closed = same_run is_white (rw name.1 at a.closes.1) b.closes.1 in
    (name.0, (cons_parts closed.1).1)

-- the text doesn't begin with the mark of a label
pub no_opening : {text : List ℕ} → ((rest : List ℕ) → text ≢ encode_utf8 91 ++ rest) → (name rest : List ℕ) → IsLabel text name rest → ⊥
no_opening {text} none name rest h = none h.inside (h.opens ∙ ap (λ (xs : List ℕ). xs ++ h.inside) (sym (encode_ascii 91 (omega arith))))

-- the name is empty
pub no_characters : {text inside lead named name behind : List ℕ} → text ≡ 91 ∷ inside → IsRun is_white inside lead named → IsRun is_label named name behind → length name ≡ 0 → (n rest : List ℕ) → IsLabel text n rest → ⊥
no_characters {text} {inside} {lead} {named} {name} {behind} e p q empty n rest h =
    let same = (cons_parts (sym e ∙ h.opens)).1 in
    let first = (same_run is_white (rw same at p) h.before.1).1 in
    let characters = (same_run is_label (rw first at q) h.is_name).0 in
    let some = h.some in
    omega (arith, ap length characters)

-- no `]` is after the name
pub no_closing : {text inside lead named name behind gap closed : List ℕ} → text ≡ 91 ∷ inside → IsRun is_white inside lead named → IsRun is_label named name behind → IsRun is_white behind gap closed
    → ((rest : List ℕ) → closed ≢ encode_utf8 93 ++ rest) → (n rest : List ℕ) → IsLabel text n rest → ⊥
no_closing {text} {inside} {lead} {named} {name} {behind} {gap} {closed} e p q r none n rest h =
    let same = (cons_parts (sym e ∙ h.opens)).1 in
    let first = (same_run is_white (rw same at p) h.before.1).1 in
    let last = (same_run is_label (rw first at q) h.is_name).1 in
    let mark = (same_run is_white (rw last at r) h.closes.1).1 in
    none rest (mark ∙ ap (λ (xs : List ℕ). xs ++ rest) (sym (encode_ascii 93 (omega arith))))

-- the text begins with an ASCII mark
pub mark_front : (mark : ℕ) (text rest : List ℕ) → mark < 128 → StripsPrefix (FindsCharPrefix mark) text rest → text ≡ mark ∷ rest
mark_front mark text rest low h = h.1.split ∙ ap (λ (xs : List ℕ). xs ++ drop h.0 text) (encode_ascii mark low) ∙ ap (λ (xs : List ℕ). mark ∷ xs) (sym h.2)

-- ---- rows of labels

-- labels after white space
pub labels_after : {text middle : List ℕ} (names : List (List ℕ)) (rest : List ℕ) → Skips text middle → AreLabels middle names rest → AreLabels text names rest
labels_after {text} {middle} [] rest s h = (skip_twice s h.0, h.1)
labels_after {text} {middle} (n ∷ names) rest s h = (h.0, h.1, skip_twice s h.2, h.3, h.4)

fails_after : {text middle : List ℕ} (names : List (List ℕ)) (kind : TextKind) (bad : List ℕ) → Skips text middle → LabelsFail middle names kind bad → LabelsFail text names kind bad
fails_after {text} {middle} [] kind bad s h = (h.0, skip_twice s h.1, h.2, h.3, h.4)
fails_after {text} {middle} (n ∷ names) kind bad s h = (h.0, h.1, skip_twice s h.2, h.3, h.4)

-- labels were read up to a place: whatever is after it completes them
pub record Labelled (text : List ℕ) (start : ℕ) (labels : List (List ℕ)) (place : ℕ) : Type 0 where
  pub later : IsPlace text start place
  pub bare : Stops is_white (drop place text)
  pub reads : (more : List (List ℕ)) (rest : List ℕ) → AreLabels (drop place text) more rest → AreLabels (drop start text) (labels ++ more) rest
  pub fails : (more : List (List ℕ)) (kind : TextKind) (bad : List ℕ) → LabelsFail (drop place text) more kind bad → LabelsFail (drop start text) (labels ++ more) kind bad

pub labelled_none : (text : List ℕ) (start place : ℕ) → IsPlace text start place → Skips (drop start text) (drop place text) → Labelled text start [] place
labelled_none text start place later s = record {
  later = later;
  bare = skipped_bare s;
  reads = λ more rest h. labels_after more rest s h;
  fails = λ more kind bad h. fails_after more kind bad s h;
}

pub labelled_more : {text : List ℕ} {start : ℕ} {labels : List (List ℕ)} {place : ℕ} (name behind : List ℕ) (end next : ℕ) → Labelled text start labels place → IsLabel (drop place text) name behind
    → drop end text ≡ behind → place ≤ end → IsPlace text end next → Skips (drop end text) (drop next text) → Labelled text start (labels ++ name ∷ []) next
labelled_more {text} {start} {labels} {place} name behind end next l label e after later s = record {
  later = (let a = l.later.0 in let b = later.0 in omega arith, later.1);
  bare = skipped_bare s;
  reads = λ more rest h.
      let P : List (List ℕ) → Type 0 = λ names. AreLabels (drop start text) names rest in
      subst P (sym (append_assoc labels (name ∷ []) more)) (l.reads (name ∷ more) rest (drop place text, behind, skips_none l.bare, label, labels_after more rest (rw e at s) h));
  fails = λ more kind bad h.
      let P : List (List ℕ) → Type 0 = λ names. LabelsFail (drop start text) names kind bad in
      subst P (sym (append_assoc labels (name ∷ []) more)) (l.fails (name ∷ more) kind bad (drop place text, behind, skips_none l.bare, label, fails_after more kind bad (rw e at s) h));
}

-- no label follows
pub labelled_all : {text : List ℕ} {start : ℕ} {labels : List (List ℕ)} {place : ℕ} → Labelled text start labels place → Lacks 91 (drop place text) → AreLabels (drop start text) labels (drop place text)
labelled_all {text} {start} {labels} {place} l lacks = rw append-nil at (l.reads [] (drop place text) (skips_none l.bare, lacks))

-- a `[` follows that begins no label
pub labelled_bad : {text : List ℕ} {start : ℕ} {labels : List (List ℕ)} {place : ℕ} → Labelled text start labels place → (inside : List ℕ) × (drop place text ≡ 91 ∷ inside)
    → ((name rest : List ℕ) → IsLabel (drop place text) name rest → ⊥) → NoLabels (drop start text) BadLabel (drop place text)
labelled_bad {text} {start} {labels} {place} l begins none = (labels, rw append-nil at (l.fails [] BadLabel (drop place text) (begins.0, skips_none l.bare, begins.1, none, refl)))

-- a label ends after its beginning
pub label_front : {text name rest : List ℕ} → IsLabel text name rest → (front : List ℕ) × (text ≡ front ++ rest) × (0 < length front)
label_front {text} {name} {rest} h = (
  91 ∷ (h.before.0 ++ (name ++ (h.closes.0 ++ 93 ∷ []))),
  h.opens ∙ ap (λ (xs : List ℕ). 91 ∷ xs) (h.before.1.text_is ∙ ap (λ (xs : List ℕ). h.before.0 ++ xs) (h.is_name.text_is ∙ ap (λ (xs : List ℕ). name ++ xs) (h.closes.1.text_is ∙ sym (append_assoc h.closes.0 (93 ∷ []) rest))
      ∙ sym (append_assoc name (h.closes.0 ++ 93 ∷ []) rest)) ∙ sym (append_assoc h.before.0 (name ++ (h.closes.0 ++ 93 ∷ [])) rest)),
  omega arith,
)
