-- A text says a graph or has a fault.
use Rattle.std.proofs.Common.{◌≡◌, ◌≢◌, ◌<◌, ◌≤◌, ◌+◌, ◌-◌, ◌⊎◌, ℕ, zero, suc, List, [], ◌∷◌, ◌++◌, Option, Some, None, length, refl, sym, ◌∙◌, ap, subst, arith, inl, inr}
use Rattle.std.proofs.lemmas.Bool.{cases_eq}
use Rattle.std.proofs.lemmas.List.{length-append}
use Rattle.std.proofs.lemmas.Str.{encode_ascii}
use Rattle.av_base.specs.declared.containers.Text.{Text}
use Rattle.av_text.specs.Classes.{is_white, is_name, is_label, Stops, IsRun}
use Rattle.av_text.specs.declared.arguments.Arg.{Arg}
use Rattle.av_text.specs.declared.fault.TextKind.{TextKind}
use Rattle.av_text.specs.declared.fault.TextKind.TheVariants.{ExpectedName, BadLabel, Stray}
use Rattle.av_text.proofs.TotalLemmas.{span, first_mark, token_or_fault, args_or_none, skip_of, skip_length, begins_or}
use Rattle.av_text.proofs.ArgLemmas.{token_front}
use Rattle.av_text.specs.Parts.{Skips, Either}
use Rattle.av_text.specs.Parts.{Lacks}
use Rattle.graph_text.specs.Grammar.{IsLabel, AreLabels, NoLabels, IsName, NoName, IsInstance, NoInstance, ends, AreArguments, NoArguments, IsFilter, NoFilter}
use Rattle.graph_text.specs.Graphs.{AreCalls, CallsFail, flags_mark, IsBody, NoBody, IsGraph, IsGraphFault}
use Rattle.graph_text.specs.declared.graph.FilterCall.{FilterCall}
use Rattle.av_text.proofs.Places.{skips_none, skip_same}
use Rattle.graph_text.proofs.LabelLemmas.{no_characters, no_closing, label_front}
use Rattle.av_text.proofs.PartLaws.{Pair, lacks_not}
use Rattle.graph_text.proofs.PartLemmas.{FilterParts}
use Rattle.av_base.proofs.Lists.{cons_parts}
use Rattle.std.proofs.Math.Nat.{eq-zero-or-pos}

-- ---- marks

begins_with_or : (mark text : List ℕ) → ((rest : List ℕ) × (text ≡ mark ++ rest)) ⊎ ((rest : List ℕ) → text ≢ mark ++ rest)
begins_with_or [] text = inl (text, refl)
begins_with_or (m ∷ mark) [] = inr (λ rest e. omega (arith, ap length e))
begins_with_or (m ∷ mark) (c ∷ text) = elim (cases_eq c m) [
  | inl e ↦ elim (begins_with_or mark text) [
    | inl h ↦ inl (h.0, ap (λ (x : ℕ). x ∷ text) e ∙ ap (λ (xs : List ℕ). m ∷ xs) h.1)
    | inr none ↦ inr (λ rest f. none rest (cons_parts f).1)
  ]
  | inr other ↦ inr (λ rest f. other (cons_parts f).0)
]

-- ---- labels

label_or : (text inside : List ℕ) → text ≡ 91 ∷ inside → ((name rest : List ℕ) × IsLabel text name rest) ⊎ ((name rest : List ℕ) → ¬ IsLabel text name rest)
label_or text inside e =
    let lead = span is_white inside in
    let name = span is_label lead.1 in
    let gap = span is_white name.1 in
    elim (eq-zero-or-pos (length name.0)) [
      | inr some ↦ elim (begins_or 93 gap.1) [
        | inl h ↦ inl (
          name.0,
          h.0,
          record {
            inside = inside;
            named = lead.1;
            behind = name.1;
            opens = e;
            before = (lead.0, lead.2);
            is_name = name.2;
            some = some;
            closes = (gap.0, subst (λ (xs : List ℕ). IsRun is_white name.1 gap.0 xs) h.1 gap.2);
          },
        )
        | inr lacks ↦ inr (no_closing e lead.2 name.2 gap.2 (λ rest f. lacks_not 93 (f ∙ ap (λ (xs : List ℕ). xs ++ rest) (encode_ascii 93 (omega arith))) lacks))
      ]
      | inl empty ↦ inr (no_characters e lead.2 name.2 empty)
    ]

abbrev LabelsOrFault : List ℕ → Type 0
LabelsOrFault text = ((names : List Text) × (rest : List ℕ) × AreLabels text names rest) ⊎ ((kind : TextKind) × (bad : List ℕ) × NoLabels text kind bad)

labels_at : (n : ℕ) (text label : List ℕ) → Skips text label → length text ≤ suc n → ((t : List ℕ) → length t ≤ n → LabelsOrFault t) → (inside : List ℕ) × (label ≡ 91 ∷ inside) → LabelsOrFault text
labels_at n text label s fits again opens = elim (label_or label opens.0 opens.1) [
  | inl l ↦ (let f = label_front l.2 in
      elim (again l.1 (let short = skip_length s in let some = f.2 in omega (arith, ap length f.1, length-append f.0 l.1))) [
        | inl others ↦ inl (l.0 ∷ others.0, others.1, (label, l.1, s, l.2, others.2))
        | inr bad ↦ inr (bad.0, bad.1, (l.0 ∷ bad.2.0, (label, l.1, s, l.2, bad.2.1)))
      ])
  | inr none ↦ inr (BadLabel, label, ([], (opens.0, s, opens.1, none, refl)))
]

no_labels_left : (text label : List ℕ) → Skips text label → Lacks 91 label → LabelsOrFault text
no_labels_left text label s lacks = inl ([], label, (s, lacks))

labels_within : (n : ℕ) (text : List ℕ) → length text ≤ n → LabelsOrFault text
labels_within zero [] h = no_labels_left [] [] (skips_none tt) tt
labels_within zero (c ∷ text) h = absurd (omega arith)
labels_within (suc n) text h =
    let s = skip_of text in
    elim (begins_or 91 s.0) [
      | inl opens ↦ labels_at n text s.0 s.1 h (labels_within n) opens
      | inr lacks ↦ no_labels_left text s.0 s.1 lacks
    ]

labels_or : (text : List ℕ) → LabelsOrFault text
labels_or text = labels_within (length text) text (omega arith)

-- ---- the other parts

name_or : (text : List ℕ) → ((name : Text) × (rest : List ℕ) × IsName text name rest) ⊎ ((kind : TextKind) × (bad : List ℕ) × NoName text kind bad)
name_or text =
    let s = span is_name text in
    elim (eq-zero-or-pos (length s.0)) [
      | inr some ↦ inl (s.0, s.1, (s.2, some))
      | inl empty ↦ inr (ExpectedName, text, (stops s.0 s.1 s.2 empty, refl, refl))
    ]
  where
    stops : (front rest : List ℕ) → IsRun is_name text front rest → length front ≡ 0 → Stops is_name text
    stops [] rest run e = subst (Stops is_name) (sym run.text_is) run.whole
    stops (c ∷ front) rest run e = absurd (omega arith)

instance_or : (text : List ℕ) → ((instance : Option Text) × (rest : List ℕ) × IsInstance text instance rest) ⊎ ((kind : TextKind) × (bad : List ℕ) × NoInstance text kind bad)
instance_or text =
    let s = skip_of text in
    elim (begins_or 64 s.0) [
      | inl h ↦
          (let at : Skips text (64 ∷ h.0) = subst (λ (xs : List ℕ). Skips text xs) h.1 s.1 in
          let named = skip_of h.0 in
          elim (name_or named.0) [
            | inl name ↦ inl (Some name.0, name.1, (h.0, named.0, at, named.1, name.2))
            | inr bad ↦ inr (bad.0, bad.1, (h.0, named.0, at, named.1, bad.2))
          ])
      | inr lacks ↦ inl (None, s.0, (s.1, lacks))
    ]

arguments_or : (text : List ℕ) → ((args : List Arg) × (rest : List ℕ) × AreArguments text args rest) ⊎ ((kind : TextKind) × (bad : List ℕ) × NoArguments text kind bad)
arguments_or text =
    let s = skip_of text in
    elim (begins_or 61 s.0) [
      | inl h ↦
          (let at : Skips text (61 ∷ h.0) = subst (λ (xs : List ℕ). Skips text xs) h.1 s.1 in
          let start = skip_of h.0 in
          elim (token_or_fault ends start.0) [
            | inl token ↦ elim (args_or_none token.0) [
              | inl args ↦ inl (args.0, token.1, inr (h.0, start.0, token.0, at, start.1, token.2, args.1))
              | inr bad ↦ inr (bad.0, start.0, (h.0, start.0, at, start.1, inr (token.0, token.1, bad.1, token.2, bad.2, refl)))
            ]
            | inr bad ↦ inr (bad.0, bad.1, (h.0, start.0, at, start.1, inl bad.2))
          ])
      | inr lacks ↦ inl ([], s.0, inl (s.1, lacks, refl))
    ]

-- ---- filters

-- two parts, one after the other
turn_or : {X Y : Type 0} (P : List ℕ → X → List ℕ → Type 0) (Q : List ℕ → Y → List ℕ → Type 0) (F G : List ℕ → TextKind → List ℕ → Type 0)
    → ((t : List ℕ) → ((x : X) × (r : List ℕ) × P t x r) ⊎ ((k : TextKind) × (b : List ℕ) × F t k b)) → ((t : List ℕ) → ((y : Y) × (r : List ℕ) × Q t y r) ⊎ ((k : TextKind) × (b : List ℕ) × G t k b))
    → (t : List ℕ) → ((z : X × Y) × (r : List ℕ) × Pair P Q t z r) ⊎ ((k : TextKind) × (b : List ℕ) × Either P F G t k b)
turn_or {X = X} {Y = Y} P Q F G a b t = elim (a t) [
  | inl x ↦ elim (b x.1) [
    | inl y ↦ inl ((x.0, y.0), y.1, (x.1, x.2, y.2))
    | inr f ↦ inr (f.0, f.1, inr (x.0, x.1, x.2, f.2))
  ]
  | inr f ↦ inr (f.0, f.1, inl f.2)
]

parts_or : (text : List ℕ) → ((z : List Text × (Text × (Option Text × (List Arg × List Text)))) × (rest : List ℕ) × FilterParts text z rest) ⊎ ((kind : TextKind) × (bad : List ℕ) × NoFilter text kind bad)
parts_or = turn_or AreLabels _ NoLabels _ labels_or (turn_or IsName _ NoName _ name_or (turn_or IsInstance _ NoInstance _ instance_or (turn_or AreArguments AreLabels NoArguments NoLabels arguments_or labels_or)))

-- ---- lengths

labels_length : (text : List ℕ) (names : List Text) (rest : List ℕ) → AreLabels text names rest → length rest ≤ length text
labels_length text [] rest h = skip_length h.0
labels_length text (name ∷ names) rest h =
    let f = label_front h.3 in
    let others = labels_length h.1 names rest h.4 in
    let short = skip_length h.2 in
    omega (arith, ap length f.1, length-append f.0 h.1)

name_length : {text rest : List ℕ} {name : Text} → IsName text name rest → length rest < length text
name_length {text} {rest} {name} h = let some = h.1 in omega (arith, ap length h.0.text_is, length-append name rest)

instance_length : (text : List ℕ) (instance : Option Text) (rest : List ℕ) → IsInstance text instance rest → length rest ≤ length text
instance_length text None rest h = skip_length h.0
instance_length text (Some name) rest h =
    let a = skip_length h.2 in
    let b = skip_length h.3 in
    let c = name_length h.4 in
    omega arith

arguments_length : (text : List ℕ) (args : List Arg) (rest : List ℕ) → AreArguments text args rest → length rest ≤ length text
arguments_length text args rest (inl h) = skip_length h.0
arguments_length text args rest (inr h) =
    let a = skip_length h.3 in
    let b = skip_length h.4 in
    let f = token_front h.5 in
    omega (arith, ap length f.1, length-append f.0 rest)

-- ---- calls

abbrev CallsOrFault : ℕ → ℕ → List ℕ → Type 0
CallsOrFault total chain text = ((calls : List FilterCall) × AreCalls total chain text calls) ⊎ ((kind : TextKind) × (bad : List ℕ) × (calls : List FilterCall) × CallsFail total chain text calls kind bad)

-- the filter that these parts are
filter_of : (total chain : ℕ) (text rest : List ℕ) (z : List Text × (Text × (Option Text × (List Arg × List Text)))) → FilterParts text z rest → length text ≤ total
    → (call : FilterCall) × IsFilter total chain text call rest × (length rest < length text)
filter_of total chain text rest z h fits =
    let a = labels_length text z.0 h.0 h.1 in
    let b = name_length h.2.1 in
    let c = instance_length h.2.0 z.1.1.0 h.2.2.0 h.2.2.1 in
    let d = arguments_length h.2.2.0 z.1.1.1.0 h.2.2.2.0 h.2.2.2.1 in
    let e = labels_length h.2.2.2.0 z.1.1.1.1 rest h.2.2.2.2 in (
      record { name = z.1.0; instance = z.1.1.0; args = z.1.1.1.0; ins = z.0; outs = z.1.1.1.1; at = total - length h.0; chain = chain },
      record {
        named = h.0;
        unnamed = h.2.0;
        called = h.2.2.0;
        labelled = h.2.2.2.0;
        ins = h.1;
        name = h.2.1;
        instance = h.2.2.1;
        args = h.2.2.2.1;
        outs = h.2.2.2.2;
        at_is = omega arith;
        chain_is = refl;
      },
      omega arith,
    )

after_filter : (n total chain : ℕ) (text rest : List ℕ) (call : FilterCall) → IsFilter total chain text call rest → length rest < length text → length text ≤ suc n → length text ≤ total
    → ((c : ℕ) (t : List ℕ) → length t ≤ n → length t ≤ total → CallsOrFault total c t) → CallsOrFault total chain text
after_filter n total chain text [] call h short fits room again = inl (call ∷ [], ([], h, inl (refl, refl)))
after_filter n total chain text (c ∷ more) call h short fits room again = elim (cases_eq c 44) [
  | inl e ↦ (let same = ap (λ (x : ℕ). x ∷ more) e in
      elim (again chain more (omega arith) (omega arith)) [
        | inl others ↦ inl (call ∷ others.0, (c ∷ more, h, inr (inl (more, same, others.1))))
        | inr bad ↦ inr (bad.0, bad.1, call ∷ bad.2, (c ∷ more, more, h, inl (same, bad.3)))
      ])
  | inr other ↦ elim (cases_eq c 59) [
    | inl e ↦ (let same = ap (λ (x : ℕ). x ∷ more) e in
        elim (again (chain + 1) more (omega arith) (omega arith)) [
          | inl others ↦ inl (call ∷ others.0, (c ∷ more, h, inr (inr (more, same, others.1))))
          | inr bad ↦ inr (bad.0, bad.1, call ∷ bad.2, (c ∷ more, more, h, inr (same, bad.3)))
        ])
    | inr another ↦ inr (Stray, c ∷ more, [], inr (call, h, (other, another), refl))
  ]
]

calls_from : (n total chain : ℕ) (text : List ℕ) → length text ≤ suc n → length text ≤ total → ((c : ℕ) (t : List ℕ) → length t ≤ n → length t ≤ total → CallsOrFault total c t) → CallsOrFault total chain text
calls_from n total chain text fits room again = elim (parts_or text) [
  | inl z ↦ (let f = filter_of total chain text z.1 z.0 z.2 room in after_filter n total chain text z.1 f.0 f.1 f.2 fits room again)
  | inr bad ↦ inr (bad.0, bad.1, [], inl bad.2)
]

calls_within : (n total chain : ℕ) (text : List ℕ) → length text ≤ n → length text ≤ total → CallsOrFault total chain text
calls_within zero total chain text fits room = elim (parts_or text) [
  | inl z ↦ (let f = filter_of total chain text z.1 z.0 z.2 room in let short = f.2 in absurd (omega arith))
  | inr bad ↦ inr (bad.0, bad.1, [], inl bad.2)
]
calls_within (suc n) total chain text fits room = calls_from n total chain text fits room (λ c t short within. calls_within n total c t short within)

-- ---- graphs

after_flags : {text named rest : List ℕ} (front body : List ℕ) → Skips text named → named ≡ flags_mark ++ rest → rest ≡ front ++ 59 ∷ body → length body ≤ length text
after_flags {text} {named} {rest} front body s mark flags =
    let short = skip_length s in
    omega (arith, ap length mark, length-append flags_mark rest, ap length flags, length-append front (59 ∷ body))

body_or : (text : List ℕ) → ((body : List ℕ) × IsBody text body × (length body ≤ length text)) ⊎ ((kind : TextKind) × (bad : List ℕ) × NoBody text kind bad)
body_or text =
    let s = skip_of text in
    elim (begins_with_or flags_mark s.0) [
      | inl h ↦
          (let at : Skips text (flags_mark ++ h.0) = subst (λ (xs : List ℕ). Skips text xs) h.1 s.1 in
          elim (first_mark 59 h.0) [
            | inl f ↦ inl (f.1, inl (f.0, subst (λ (xs : List ℕ). Skips text (flags_mark ++ xs)) f.2 at, f.3), after_flags f.0 f.1 s.1 h.1 f.2)
            | inr none ↦ inr (ExpectedName, [], (h.0, at, none, refl, refl))
          ])
      | inr none ↦ inl (text, inr ((λ rest other. none rest (skip_same s.1 other)), refl), omega arith)
    ]

pub graph_or_none : (text : List ℕ) → ((calls : List FilterCall) × IsGraph text calls) ⊎ ((kind : TextKind) × (bad : List ℕ) × IsGraphFault text kind bad)
graph_or_none text = elim (body_or text) [
  | inl b ↦ elim (calls_within (length text) (length text) 0 b.0 b.2 b.2) [
    | inl calls ↦ inl (calls.0, (b.0, b.1, calls.1))
    | inr bad ↦ inr (bad.0, bad.1, inr (b.0, bad.2, b.1, bad.3))
  ]
  | inr bad ↦ inr (bad.0, bad.1, inl bad.2)
]
