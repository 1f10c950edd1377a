-- Which output file takes which open output pad.
use Rattle.std.proofs.Common.{◌≡◌, ◌<◌, ◌≤◌, ◌+◌, ◌++◌, ℕ, suc, zero, List, [], ◌∷◌, Option, Some, None, Result, length, get_or, refl, sym, ◌∙◌, ap, subst, inl, inr, arith, add-one, below_more}
use Rattle.std.specs.Prelude.{IfOk}
use Rattle.std.specs.List.{slice_get, Contains}
use Rattle.std.proofs.lemmas.List.{length_push}
use Rattle.std.proofs.lemmas.Option.{same_Some, slice_get_within, slice_get_read, slice_get-get_or}
use Rattle.graph_plan.specs.declared.plan.Edge.{Edge}
use Rattle.graph_plan.specs.declared.plan.OpenOut.{OpenOut}
use Rattle.graph_plan.specs.declared.plan.OutputFile.{OutputFile}
use Rattle.graph_plan.specs.declared.plan.DraftPlan.{DraftPlan}
use Rattle.graph_plan.specs.declared.plan.Plan.{Plan}
use Rattle.graph_plan.specs.declared.plan.PlanFault.{PlanFault}
use Rattle.graph_plan.specs.declared.plan.PlanFault.TheVariants.{NoSuchOutput, Unmapped, WrongKind}
use Rattle.av_base.specs.declared.failure.Failure.{Failure}
use Rattle.av_base.proofs.FailureLemmas.{gives_from, refuses_from}
use Rattle.graph_plan.specs.Bindings.{Name, name_of, number_after, names, pad_names, file_names, IsPadOf, Takes, FindsNone, IsUnmapped, CannotTake, TakesWrong, IsBindFault, Misses, Leaves, Mixes, link_to_output, AreOutputs, IsBound}
use Rattle.av_base.specs.Failures.{IfFault, Gives, Refuses}
use Rattle.av_base.specs.First.{IsFirst}
use Rattle.av_base.proofs.Lists.{same_gets, pushed_at, get_within, contained, place_of}
use Rattle.av_base.proofs.Arithmetic.{first_same, first_along}
use Rattle.graph_plan.specs.Places.{AreFound, IsLeft, AreLinks}

-- ---- names

-- the number for the element at a place
abbrev pub number_at : {X : Type 0} → (X → Option (List ℕ)) → ℕ → List X → ℕ → ℕ
number_at label n xs zero = n
number_at label n [] (suc k) = n
number_at label n (x ∷ xs) (suc k) = number_at label (number_after (label x) n) xs k

pub length-names : {X : Type 0} (label : X → Option (List ℕ)) (n : ℕ) (xs : List X) → length (names label n xs) ≡ length xs
length-names label n [] = refl
length-names label n (x ∷ xs) = ap suc (length-names label (number_after (label x) n) xs)

pub name_at : {X : Type 0} (label : X → Option (List ℕ)) (n : ℕ) (xs : List X) (k : ℕ) (x : X) → slice_get xs k ≡ Some x → slice_get (names label n xs) k ≡ Some (name_of (label x) (number_at label n xs k))
name_at label n [] k x e = absurd (cc)
name_at {X} label n (y ∷ ys) zero x e = ap (λ (z : X). Some (name_of (label z) n)) (same_Some y x e)
name_at label n (y ∷ ys) (suc k) x e = name_at label (number_after (label y) n) ys k x e

number_suc : {X : Type 0} (label : X → Option (List ℕ)) (n : ℕ) (xs : List X) (k : ℕ) (x : X) → slice_get xs k ≡ Some x → number_at label n xs (suc k) ≡ number_after (label x) (number_at label n xs k)
number_suc label n [] k x e = absurd (cc)
number_suc {X} label n (y ∷ ys) zero x e = ap (λ (z : X). number_after (label z) n) (same_Some y x e)
number_suc label n (y ∷ ys) (suc k) x e = number_suc label (number_after (label y) n) ys k x e

pub number_more : {X : Type 0} (label : X → Option (List ℕ)) (n : ℕ) (xs : List X) (k : ℕ) (x : X) → slice_get xs k ≡ Some x → number_at label n xs (k + 1) ≡ number_after (label x) (number_at label n xs k)
number_more label n xs k x e = rw add-one (number_suc label n xs k x e)

pub number_after-le : (label : Option (List ℕ)) (n : ℕ) → number_after label n ≤ n + 1
number_after-le (Some label) n = omega arith
number_after-le None n = omega arith

-- ---- what takes what

pub takes_called : {opens : List OpenOut} {files : List OutputFile} {k o : ℕ} (name : Name) → slice_get (file_names files) k ≡ Some name → Takes opens files k o → IsPadOf opens name o
takes_called {opens} {files} {k} {o} name e t =
    let same : t.name ≡ name = same_Some t.name name (sym t.is_file ∙ e) in
    let P : Name → Type 0 = λ n. IsPadOf opens n o in subst P same t.is_pad

pub takes_same : {opens : List OpenOut} {files : List OutputFile} {k o p : ℕ} → Takes opens files k o → Takes opens files k p → o ≡ p
takes_same t u = first_same t.is_pad (takes_called t.name t.is_file u)

pub takes_within : {opens : List OpenOut} {files : List OutputFile} {k o : ℕ} → Takes opens files k o → (k < length files) × (o < length opens)
takes_within {opens} {files} {k} {o} t = (
  subst (λ (n : ℕ). k < n) (length-names (λ (f : OutputFile). f.label) 0 files) (slice_get_within (file_names files) k t.name t.is_file),
  subst (λ (n : ℕ). o < n) (length-names (λ (p : OpenOut). p.label) 0 opens) (slice_get_within (pad_names opens) o t.name t.is_pad.holds),
)

-- ---- one plan, one fault

pub wrong_fits : {opens : List OpenOut} {files : List OutputFile} {k o : ℕ} {file : OutputFile} {p : OpenOut} → Takes opens files k o → slice_get files k ≡ Some file → slice_get opens o ≡ Some p
    → TakesWrong opens files k → CannotTake file.ending p.media
wrong_fits {opens} {files} {k} {o} {file} {p} t f g w =
    let place : w.place ≡ o = takes_same w.takes t in
    let same_file : w.file ≡ file = same_Some w.file file (sym w.is_file ∙ f) in
    let same_pad : w.pad ≡ p = same_Some w.pad p (sym w.is_pad ∙ (ap (slice_get opens) place ∙ g)) in
    let P : OutputFile → Type 0 = λ x. CannotTake x.ending w.pad.media in
    let Q : OpenOut → Type 0 = λ x. CannotTake file.ending x.media in
    subst Q same_pad (subst P same_file w.cannot)

outputs_same : {opens : List OpenOut} {files : List OutputFile} (a b : List Edge) → AreOutputs opens files a → AreOutputs opens files b → a ≡ b
outputs_same {opens} {files} a b p q = same_gets a b (p.each ∙ sym q.each) (λ k x e.
    let h = p.are k x e in
    let other = get_within b k (let lt = slice_get_within a k x e in omega (arith, p.each, q.each)) in
    let g = q.are k other.0 other.1 in
    let place : h.0 ≡ g.0 = takes_same h.1 g.1 in
    let pad : h.2.0 ≡ g.2.0 = same_Some h.2.0 g.2.0 (sym h.2.1 ∙ (ap (slice_get opens) place ∙ g.2.1)) in
    let link : x ≡ other.0 = h.2.2 ∙ (ap (λ (z : OpenOut). link_to_output z k) pad ∙ sym g.2.2) in
    other.1 ∙ ap (λ (z : Edge). Some z) (sym link))

pub one_plan : (draft : DraftPlan) (files : List OutputFile) (a b : Plan) → IsBound draft files a → IsBound draft files b → a ≡ b
one_plan draft files a b p q =
    let outputs : p.outputs ≡ q.outputs = outputs_same p.outputs q.outputs p.are_outputs q.are_outputs in
    let links : a.links ≡ b.links = p.links ∙ (ap (λ (z : List Edge). draft.links ++ z) outputs ∙ sym q.links) in
    let order : a.order ≡ b.order = p.order ∙ sym q.order in
    let with_links : a ≡ record a { links = b.links } = ap (λ (z : List Edge). record a { links = z }) links in
    with_links ∙ ap (λ (z : List ℕ). record { links = b.links; order = z }) order

pub one_fault : (opens : List OpenOut) (files : List OutputFile) (f g : PlanFault) → IsBindFault opens files f → IsBindFault opens files g → f ≡ g
one_fault opens files _ _ (Misses a p) (Misses b q) = ap NoSuchOutput (first_same p q)
one_fault opens files _ _ (Misses a p) (Leaves filter pad none left) = absurd (none a p.holds)
one_fault opens files _ _ (Misses a p) (Mixes b none all wrong) = absurd (none a p.holds)
one_fault opens files _ _ (Leaves filter pad none left) (Misses b q) = absurd (none b q.holds)
one_fault opens files _ _ (Leaves filter pad none left) (Leaves other out nor more) =
    let place : left.0 ≡ more.0 = first_same left.1 more.1 in
    let same : left.2.0 ≡ more.2.0 = same_Some left.2.0 more.2.0 (sym left.2.1 ∙ (ap (slice_get opens) place ∙ more.2.1)) in
    let filters : filter ≡ other = sym left.2.2 ∙ (ap (λ (z : OpenOut). z.filter) same ∙ more.2.2) in
    let pads : pad ≡ out = sym left.2.3 ∙ (ap (λ (z : OpenOut). z.pad) same ∙ more.2.3) in
    ap (λ (z : ℕ). Unmapped z pad) filters ∙ ap (λ (z : ℕ). Unmapped other z) pads
one_fault opens files _ _ (Leaves filter pad none left) (Mixes b nor all wrong) = absurd (all left.0 left.1.holds)
one_fault opens files _ _ (Mixes a none all wrong) (Misses b q) = absurd (none b q.holds)
one_fault opens files _ _ (Mixes a none all wrong) (Leaves filter pad nor left) = absurd (all left.0 left.1.holds)
one_fault opens files _ _ (Mixes a none all wrong) (Mixes b nor each other) = ap WrongKind (first_same wrong other)

pub not_both : (draft : DraftPlan) (files : List OutputFile) (plan : Plan) (f : PlanFault) → IsBound draft files plan → IsBindFault draft.opens files f → ⊥
not_both draft files plan _ p (Misses a q) = p.all_find a q.holds
not_both draft files plan _ p (Leaves filter pad none left) = p.all_mapped left.0 left.1.holds
not_both draft files plan _ p (Mixes a none all wrong) = p.all_fit a wrong.holds

-- what a call returns if there is a plan, and if there is a fault
pub binds : (draft : DraftPlan) (files : List OutputFile) (r : Result Plan (Failure PlanFault)) → IfOk r (IsBound draft files) → IfFault r (IsBindFault draft.opens files)
    → (plan : Plan) → IsBound draft files plan → Gives (λ made. made ≡ plan) r
binds draft files r p q plan b = gives_from r p q (λ made is. one_plan draft files made plan is b) (λ f is. not_both draft files plan f b is)

pub refuses : (draft : DraftPlan) (files : List OutputFile) (r : Result Plan (Failure PlanFault)) → IfOk r (IsBound draft files) → IfFault r (IsBindFault draft.opens files)
    → (f : PlanFault) → IsBindFault draft.opens files f → Refuses (λ found. found ≡ f) r
refuses draft files r p q f b = refuses_from r p q (λ made is. not_both draft files made f is b) (λ found is. one_fault draft.opens files found f is b)

-- ---- numbers along a list

pub number_next : {X : Type 0} (label : X → Option (List ℕ)) (xs : List X) (place passed next : ℕ) (x : X) → place < length xs → x ≡ get_or xs place x → passed ≡ number_at label 0 xs place
    → next ≡ number_after (label x) passed → passed ≤ place → (next ≤ place + 1) × (next ≡ number_at label 0 xs (place + 1))
number_next label xs place passed next x lt e numbered is few =
    let more = number_more label 0 xs place x (slice_get_read xs (length xs) place x refl lt e) in
    (let le = number_after-le (label x) passed in omega (arith, is), is ∙ (ap (number_after (label x)) numbered ∙ sym more))

-- ---- a walk over the files

pub found_none : (pads : List OpenOut) (files : List OutputFile) → AreFound pads files []
found_none pads files = record { within = omega arith; takes = λ k o e. absurd (cc); finds = λ k lt. absurd (omega arith) }

file_called : (files : List OutputFile) (k number : ℕ) (f : OutputFile) → k < length files → f ≡ get_or files k f → number ≡ number_at (λ (x : OutputFile). x.label) 0 files k
    → slice_get (file_names files) k ≡ Some (name_of f.label number)
file_called files k number f lt e numbered =
    name_at (λ (x : OutputFile). x.label) 0 files k f (slice_get_read files (length files) k f refl lt e) ∙ ap (λ (n : ℕ). Some (name_of f.label n)) (sym numbered)

-- a file takes a pad that no earlier file takes
pub found_more : {pads : List OpenOut} {files : List OutputFile} {places : List ℕ} (k number place : ℕ) (f : OutputFile) → AreFound pads files places → length places ≡ k → k < length files
    → f ≡ get_or files k f → number ≡ number_at (λ (x : OutputFile). x.label) 0 files k → IsPadOf pads (name_of f.label number) place → ¬ Contains places place → AreFound pads files (places ++ place ∷ [])
found_more {pads} {files} {places} k number place f found each lt e numbered is free =
    let called = file_called files k number f lt e numbered in
    let takes : Takes pads files k place = record { name = name_of f.label number; is_file = called; is_pad = is } in
    let own : ¬ FindsNone pads files k = λ none.
    let earlier = none.1 place takes in
    let at = get_within places earlier.0 (omega (arith, each, earlier.1)) in
    let same : at.0 ≡ place = takes_same (found.takes earlier.0 at.0 at.1) earlier.2 in
    free (contained places earlier.0 place (at.1 ∙ ap (λ (z : ℕ). Some z) same)) in
    record {
      within = omega (arith, length_push places place);
      takes = λ j o g. elim (pushed_at places place j o g) [
        | inl h ↦ found.takes j o h
        | inr h ↦ (let j_is : j ≡ k = h.0 ∙ each in
            let P : ℕ → Type 0 = λ z. Takes pads files z o in
            let Q : ℕ → Type 0 = λ z. Takes pads files k z in subst P (sym j_is) (subst Q (sym h.1) takes))
      ];
      finds = λ j g.
          let P : ℕ → Type 0 = λ z. ¬ FindsNone pads files z in
          below_more P k (λ i h. found.finds i (omega (arith, each))) own j (omega (arith, each, length_push places place));
    }

-- a file has no pad to take, or one that an earlier file takes
pub file_stuck : {pads : List OpenOut} {files : List OutputFile} {places : List ℕ} (k number : ℕ) (f : OutputFile) → AreFound pads files places → length places ≡ k → k < length files
    → f ≡ get_or files k f → number ≡ number_at (λ (x : OutputFile). x.label) 0 files k → ((o : ℕ) → IsPadOf pads (name_of f.label number) o → Contains places o) → IsBindFault pads files (NoSuchOutput k)
file_stuck {pads} {files} {places} k number f found each lt e numbered none =
    let called = file_called files k number f lt e numbered in
    Misses k (record {
      holds = (
        lt,
        λ o t.
            let at = place_of places o (none o (takes_called (name_of f.label number) called t)) in
            (at.0, omega (arith, each, at.1), found.takes at.0 o at.2),
      );
      none_before = λ other less. found.finds other (omega (arith, each));
    })

-- ---- all files have a pad

pub all_find : {pads : List OpenOut} {files : List OutputFile} {places : List ℕ} → AreFound pads files places → length places ≡ length files → (k : ℕ) → ¬ FindsNone pads files k
all_find found each k none = found.finds k (omega (arith, each, none.0)) none

-- what a file takes is at its place
place_taken : {pads : List OpenOut} {files : List OutputFile} {places : List ℕ} {k o : ℕ} → AreFound pads files places → length places ≡ length files → Takes pads files k o → slice_get places k ≡ Some o
place_taken {pads} {files} {places} {k} {o} found each t =
    let at = get_within places k (omega (arith, each, (takes_within t).0)) in
    at.1 ∙ ap (λ (z : ℕ). Some z) (takes_same (found.takes k at.0 at.1) t)

left_unmapped : {pads : List OpenOut} {files : List OutputFile} {places : List ℕ} → AreFound pads files places → length places ≡ length files → (o : ℕ) → IsLeft places (length pads) o → IsUnmapped pads files o
left_unmapped {pads} {files} {places} found each o h = (h.0, λ k t. h.1 (contained places k o (place_taken found each t)))

unmapped_left : {pads : List OpenOut} {files : List OutputFile} {places : List ℕ} → AreFound pads files places → (o : ℕ) → IsUnmapped pads files o → IsLeft places (length pads) o
unmapped_left {pads} {files} {places} found o h = (h.0, λ c. let at = place_of places o c in h.1 at.0 (found.takes at.0 o at.2))

pub pad_left : {pads : List OpenOut} {files : List OutputFile} {places : List ℕ} (place : ℕ) (p : OpenOut) → AreFound pads files places → length places ≡ length files → IsFirst (IsLeft places (length pads)) place
    → p ≡ get_or pads place p → IsBindFault pads files (Unmapped p.filter p.pad)
pad_left {pads} {files} {places} place p found each left e = Leaves p.filter p.pad (all_find found each) (
  place,
  first_along (left_unmapped found each) (unmapped_left found) left,
  (p, slice_get_read pads (length pads) place p refl left.holds.0 e, refl, refl),
)

pub all_mapped : {pads : List OpenOut} {files : List OutputFile} {places : List ℕ} → AreFound pads files places → ((o : ℕ) → o < length pads → Contains places o) → (o : ℕ) → ¬ IsUnmapped pads files o
all_mapped found all o h = (unmapped_left found o h).1 (all o h.0)

-- ---- kinds

pub place_within : {pads : List OpenOut} {files : List OutputFile} {places : List ℕ} → AreFound pads files places → (k o : ℕ) → slice_get places k ≡ Some o → o < length pads
place_within found k o e = (takes_within (found.takes k o e)).1

pub pad_within : {pads : List OpenOut} {files : List OutputFile} {places : List ℕ} → AreFound pads files places → (k : ℕ) → k < length places → get_or places k 0 < length pads
pad_within {pads} {files} {places} found k lt = place_within found k (get_or places k 0) (slice_get-get_or places k 0 lt)

pub kind_wrong : {pads : List OpenOut} {files : List OutputFile} {places : List ℕ} (k : ℕ) (f : OutputFile) (p : OpenOut) → AreFound pads files places → k < length places → f ≡ get_or files k f
    → p ≡ get_or pads (get_or places k 0) p → CannotTake f.ending p.media → ((other : ℕ) → other < k → TakesWrong pads files other → ⊥) → IsFirst (TakesWrong pads files) k
kind_wrong {pads} {files} {places} k f p found lt e g cannot none =
    let at = slice_get-get_or places k 0 lt in
    record {
      holds = record {
        place = get_or places k 0;
        takes = found.takes k (get_or places k 0) at;
        file = f;
        is_file = slice_get_read files (length files) k f refl (let within = found.within in omega arith) e;
        pad = p;
        is_pad = slice_get_read pads (length pads) (get_or places k 0) p refl (pad_within found k lt) g;
        cannot = cannot;
      };
      none_before = none;
    }

pub kind_fits : {pads : List OpenOut} {files : List OutputFile} {places : List ℕ} (k : ℕ) (f : OutputFile) (p : OpenOut) → AreFound pads files places → k < length places → f ≡ get_or files k f
    → p ≡ get_or pads (get_or places k 0) p → (CannotTake f.ending p.media → ⊥) → ((other : ℕ) → other < k → TakesWrong pads files other → ⊥) → (other : ℕ) → other < k + 1 → TakesWrong pads files other → ⊥
kind_fits {pads} {files} {places} k f p found lt e g fits none =
    let at = slice_get-get_or places k 0 lt in
    let is_file = slice_get_read files (length files) k f refl (let within = found.within in omega arith) e in
    let is_pad = slice_get_read pads (length pads) (get_or places k 0) p refl (pad_within found k lt) g in
    let P : ℕ → Type 0 = λ z. TakesWrong pads files z → ⊥ in
    below_more P k none (λ w. fits (wrong_fits (found.takes k (get_or places k 0) at) is_file is_pad w))

pub all_fit : {pads : List OpenOut} {files : List OutputFile} (k : ℕ) → length files ≤ k → ((other : ℕ) → other < k → TakesWrong pads files other → ⊥) → (other : ℕ) → TakesWrong pads files other → ⊥
all_fit k all none other w = none other (let lt = (takes_within w.takes).0 in omega arith) w

-- ---- links

pub link_more : {pads : List OpenOut} {places : List ℕ} {links : List Edge} (k : ℕ) (p : OpenOut) → AreLinks pads places links → length links ≡ k → k < length places → get_or places k 0 < length pads
    → p ≡ get_or pads (get_or places k 0) p → AreLinks pads places (links ++ link_to_output p k ∷ [])
link_more {pads} {places} {links} k p all each lt within e = record {
  are = λ j link g. elim (pushed_at links (link_to_output p k) j link g) [
    | inl h ↦ all.are j link h
    | inr h ↦ (let j_is : j ≡ k = h.0 ∙ each in (
      get_or places k 0,
      ap (slice_get places) j_is ∙ slice_get-get_or places k 0 lt,
      (p, slice_get_read pads (length pads) (get_or places k 0) p refl within e, h.1 ∙ ap (link_to_output p) (sym j_is)),
    ))
  ];
}

pub linked : {pads : List OpenOut} {files : List OutputFile} {places : List ℕ} {links : List Edge} → AreFound pads files places → length places ≡ length files → length links ≡ length places → AreLinks pads places links
    → AreOutputs pads files links
linked {pads} {files} {places} {links} found each same all = record {
  each = same ∙ each;
  are = λ k link e. let h = all.are k link e in (h.0, found.takes k h.0 h.1, h.2);
}

-- a file that takes wrong is one of the files
pub wrong_within : {pads : List OpenOut} {files : List OutputFile} {k : ℕ} → IsFirst (TakesWrong pads files) k → k < length files
wrong_within w = (takes_within w.holds.takes).0
