-- A text has a reading or a fault.
use Rattle.std.proofs.Common.{◌≡◌, ◌≢◌, ◌<◌, ◌≤◌, ◌⊎◌, ℕ, zero, suc, Bool, List, [], ◌∷◌, ◌++◌, Some, None, length, refl, sym, ◌∙◌, ap, subst, arith, inl, inr, append_assoc}
use Rattle.std.specs.Prelude.{encode_utf8}
use Rattle.std.specs.List.{AllByRecursion, Contains, flat_map}
use Rattle.std.proofs.lemmas.Bool.{cases_Bool, cases_eq, ne_eqb}
use Rattle.std.proofs.lemmas.List.{length-append}
use Rattle.std.proofs.lemmas.Str.{encode_ascii}
use Rattle.av_text.specs.Classes.{is_white, is_name, IsRun}
use Rattle.av_text.specs.Tokens.{Piece, Plain, Escaped, Quoted, source, meaning, IsPiece, trimmed, Ends, IsToken}
use Rattle.av_text.specs.Faults.{IsBroken, IsTokenFault}
use Rattle.av_text.specs.Arguments.{BeginsNamed, IsUnnamed, IsArg, AreArgs, IsArgFault, IsArgsFault}
use Rattle.av_text.specs.declared.arguments.Arg.{Arg}
use Rattle.av_text.specs.declared.fault.TextKind.{TextKind}
use Rattle.av_text.specs.declared.fault.TextKind.TheVariants.{UnclosedQuote, LoneEscape}
use Rattle.av_text.proofs.ArgLemmas.{no_name, no_mark, mark_ends, arg_front}
use Rattle.av_base.proofs.Lists.{cons_parts}
use Rattle.std.proofs.Math.Nat.{eq-zero-or-pos}
use Rattle.av_text.specs.Parts.{Skips, Lacks}

-- ---- runs and marks

pub span : (p : ℕ → Bool) (text : List ℕ) → (front rest : List ℕ) × IsRun p text front rest
span p [] = ([], [], record { text_is = refl; each = tt; whole = tt })
span p (c ∷ text) = elim (cases_Bool (p c)) [
  | inl has ↦ (let t = span p text in (c ∷ t.0, t.1, record { text_is = ap (λ (xs : List ℕ). c ∷ xs) t.2.text_is; each = (has, t.2.each); whole = t.2.whole }))
  | inr lacks ↦ ([], c ∷ text, record { text_is = refl; each = tt; whole = lacks })
]

pub skip_of : (text : List ℕ) → (rest : List ℕ) × Skips text rest
skip_of text = let s = span is_white text in (s.1, (s.0, s.2))

pub skip_length : {text rest : List ℕ} → Skips text rest → length rest ≤ length text
skip_length {text} {rest} s = omega (arith, ap length s.1.text_is, length-append s.0 rest)

-- a text begins with a mark, or not
pub begins_or : (mark : ℕ) (text : List ℕ) → ((inside : List ℕ) × (text ≡ mark ∷ inside)) ⊎ Lacks mark text
begins_or mark [] = inr tt
begins_or mark (c ∷ text) = elim (cases_eq c mark) [
  | inl e ↦ inl (text, ap (λ (x : ℕ). x ∷ text) e)
  | inr other ↦ inr (ne_eqb c mark other)
]

none_more : (mark x : ℕ) (xs : List ℕ) → x ≢ mark → ¬ Contains xs mark → ¬ Contains (x ∷ xs) mark
none_more mark x xs other none (zero, h, e) = other e
none_more mark x xs other none (suc k, h, e) = none (k, omega arith, e)

contains_or : (xs : List ℕ) (x : ℕ) → Contains xs x ⊎ (¬ Contains xs x)
contains_or [] x = inr (λ h. let l = h.1 in omega arith)
contains_or (y ∷ xs) x = elim (cases_eq y x) [
  | inl e ↦ inl (0, omega arith, e)
  | inr other ↦ elim (contains_or xs x) [ inl h ↦ inl (suc h.0, omega (arith, h.1), h.2) | inr none ↦ inr (none_more x y xs other none) ]
]

-- the first mark of a text, if it has one
pub first_mark : (mark : ℕ) (text : List ℕ) → ((front rest : List ℕ) × (text ≡ front ++ mark ∷ rest) × ¬ Contains front mark) ⊎ (¬ Contains text mark)
first_mark mark [] = inr (λ h. let l = h.1 in omega arith)
first_mark mark (x ∷ text) = elim (cases_eq x mark) [
  | inl e ↦ inl ([], text, ap (λ (y : ℕ). y ∷ text) e, λ h. let l = h.1 in omega arith)
  | inr other ↦ elim (first_mark mark text) [
    | inl t ↦ inl (x ∷ t.0, t.1, ap (λ (xs : List ℕ). x ∷ xs) t.2, none_more mark x t.0 other t.3)
    | inr none ↦ inr (none_more mark x text other none)
  ]
]

-- ---- rows of pieces

record RowTo (specials text : List ℕ) : Type 0 where
  row : List Piece
  rest : List ℕ
  each : AllByRecursion (IsPiece specials) row
  text_is : text ≡ flat_map source row ++ rest
  halts : Ends specials rest ⊎ ((kind : TextKind) × IsBroken kind rest)

-- a piece before a row
put_first : (specials text : List ℕ) {behind : List ℕ} (p : Piece) → IsPiece specials p → text ≡ source p ++ behind → RowTo specials behind → RowTo specials text
put_first specials text {behind} p is e r = record {
  row = p ∷ r.row;
  rest = r.rest;
  each = (is, r.each);
  text_is = e ∙ ap (λ (xs : List ℕ). source p ++ xs) r.text_is ∙ sym (append_assoc (source p) (flat_map source r.row) r.rest);
  halts = r.halts;
}

escaped_row : (n : ℕ) (specials text : List ℕ) → length text ≤ n → ((t : List ℕ) → length t ≤ n → RowTo specials t) → RowTo specials (92 ∷ text)
escaped_row n specials [] h again = record { row = []; rest = 92 ∷ []; each = tt; text_is = refl; halts = inr (LoneEscape, refl) }
escaped_row n specials (c ∷ text) h again = put_first specials (92 ∷ c ∷ text) (Escaped c) tt refl (again text (omega arith))

quoted_row : (n : ℕ) (specials text : List ℕ) → length text ≤ n → ((t : List ℕ) → length t ≤ n → RowTo specials t) → RowTo specials (39 ∷ text)
quoted_row n specials text h again = elim (first_mark 39 text) [
  | inl t ↦ put_first specials (39 ∷ text) (Quoted t.0) t.3 (ap (λ (xs : List ℕ). 39 ∷ xs) (t.2 ∙ sym (append_assoc t.0 (39 ∷ []) t.1)))
      (again t.1 (omega (arith, ap length t.2, length-append t.0 (39 ∷ t.1))))
  | inr none ↦ record { row = []; rest = 39 ∷ text; each = tt; text_is = refl; halts = inr (UnclosedQuote, (text, refl, none)) }
]

plain_row : (n : ℕ) (specials : List ℕ) (c : ℕ) (text : List ℕ) → c ≢ 92 → c ≢ 39 → length text ≤ n → ((t : List ℕ) → length t ≤ n → RowTo specials t) → RowTo specials (c ∷ text)
plain_row n specials c text a b h again = elim (contains_or specials c) [
  | inl special ↦ record { row = []; rest = c ∷ text; each = tt; text_is = refl; halts = inl (a, b, special) }
  | inr other ↦ put_first specials (c ∷ text) (Plain c) (a, b, other) refl (again text h)
]

next_row : (n : ℕ) (specials : List ℕ) (c : ℕ) (text : List ℕ) → length text ≤ n → ((t : List ℕ) → length t ≤ n → RowTo specials t) → RowTo specials (c ∷ text)
next_row n specials c text h again = elim (cases_eq c 92) [
  | inl e ↦ subst (λ (x : ℕ). RowTo specials (x ∷ text)) (sym e) (escaped_row n specials text h again)
  | inr a ↦ elim (cases_eq c 39) [
    | inl e ↦ subst (λ (x : ℕ). RowTo specials (x ∷ text)) (sym e) (quoted_row n specials text h again)
    | inr b ↦ plain_row n specials c text a b h again
  ]
]

rows : (n : ℕ) (specials text : List ℕ) → length text ≤ n → RowTo specials text
rows n specials [] h = record { row = []; rest = []; each = tt; text_is = refl; halts = inl tt }
rows zero specials (c ∷ text) h = absurd (omega arith)
rows (suc n) specials (c ∷ text) h = next_row n specials c text (omega arith) (rows n specials)

-- ---- tokens

pub token_or_fault : (specials text : List ℕ) → ((value rest : List ℕ) × IsToken specials text value rest) ⊎ ((kind : TextKind) × (bad : List ℕ) × IsTokenFault specials text kind bad)
token_or_fault specials text =
    let s = span is_white text in
    let r = rows (length s.1) specials s.1 (omega arith) in
    let begins : IsRun is_white text s.0 (flat_map source r.row ++ r.rest) = subst (λ (xs : List ℕ). IsRun is_white text s.0 xs) r.text_is s.2 in
    elim r.halts [
      | inl h ↦ inl (flat_map meaning (trimmed r.row), r.rest, record { row = r.row; is_row = record { lead = s.0; begins = begins; each = r.each }; ends = h; value_is = refl })
      | inr h ↦ inr (h.0, r.rest, record { row = r.row; is_row = record { lead = s.0; begins = begins; each = r.each }; broken = h.1 })
    ]

-- ---- arguments

equals_or : (marked : List ℕ) → ((behind : List ℕ) × (marked ≡ 61 ∷ behind)) ⊎ ((rest : List ℕ) → marked ≢ encode_utf8 61 ++ rest)
equals_or [] = inr (λ rest e. let f = e ∙ ap (λ (xs : List ℕ). xs ++ rest) (encode_ascii 61 (omega arith)) in omega (arith, ap length f))
equals_or (c ∷ behind) = elim (cases_eq c 61) [
  | inl e ↦ inl (behind, ap (λ (x : ℕ). x ∷ behind) e)
  | inr other ↦ inr (λ rest e. other (cons_parts (e ∙ ap (λ (xs : List ℕ). xs ++ rest) (encode_ascii 61 (omega arith)))).0)
]

pub named_or : (text : List ℕ) → ((name behind : List ℕ) × BeginsNamed text name behind) ⊎ IsUnnamed text
named_or text =
    let lead = span is_white text in
    let name = span is_name lead.1 in
    let gap = span is_white name.1 in
    elim (eq-zero-or-pos (length name.0)) [
      | inr some ↦ elim (equals_or gap.1) [
        | inl h ↦ inl (
          name.0,
          h.0,
          record {
            lead = lead.0;
            gap = gap.0;
            named = lead.1;
            spaced = name.1;
            lead_is = lead.2;
            name_is = name.2;
            gap_is = subst (λ (xs : List ℕ). IsRun is_white name.1 gap.0 xs) h.1 gap.2;
            some = some;
          },
        )
        | inr none ↦ inr (no_mark lead.2 name.2 gap.2 none)
      ]
      | inl empty ↦ inr (no_name lead.2 name.2 empty)
    ]

arg_or_none : (text : List ℕ) → ((arg : Arg) × (rest : List ℕ) × IsArg text arg rest × Ends (58 ∷ []) rest) ⊎ ((kind : TextKind) × (bad : List ℕ) × IsArgFault text kind bad)
arg_or_none text = elim (named_or text) [
  | inl n ↦ elim (token_or_fault (58 ∷ []) n.1) [
    | inl t ↦ inl (record { name = Some n.0; value = t.0 }, t.1, (n.1, n.2, t.2), t.2.ends)
    | inr f ↦ inr (f.0, f.1, inl (n.0, n.1, n.2, f.2))
  ]
  | inr none ↦ elim (token_or_fault (58 ∷ []) text) [
    | inl t ↦ inl (record { name = None; value = t.0 }, t.1, (none, t.2), t.2.ends)
    | inr f ↦ inr (f.0, f.1, inr (none, f.2))
  ]
]

abbrev ArgsOrFault : List ℕ → Type 0
ArgsOrFault text = ((args : List Arg) × AreArgs text args) ⊎ ((kind : TextKind) × (bad : List ℕ) × IsArgsFault text kind bad)

-- an argument before others
put_arg : (n : ℕ) (text : List ℕ) (arg : Arg) (rest : List ℕ) → IsArg text arg rest → Ends (58 ∷ []) rest → 0 < length text → length text ≤ suc n
    → ((t : List ℕ) → length t ≤ n → ArgsOrFault t) → ArgsOrFault text
put_arg n text arg rest is ends some fits again = elim (mark_ends rest ends) [
  | inl over ↦ inl (arg ∷ [], (some, rest, is, inl (over, refl)))
  | inr on ↦ (let f = arg_front text arg.name arg.value rest is in
      elim (again on.0 (omega (arith, ap length f.1, length-append f.0 rest, ap length on.1))) [
        | inl others ↦ inl (arg ∷ others.0, (some, rest, is, inr (on.0, on.1, others.1)))
        | inr bad ↦ inr (bad.0, bad.1, (arg ∷ bad.2.0, (rest, on.0, is, on.1, bad.2.1)))
      ])
]

args_within : (n : ℕ) (text : List ℕ) → length text ≤ n → ArgsOrFault text
args_within n [] h = inl ([], refl)
args_within zero (c ∷ text) h = absurd (omega arith)
args_within (suc n) (c ∷ text) h = elim (arg_or_none (c ∷ text)) [
  | inl a ↦ put_arg n (c ∷ text) a.0 a.1 a.2 a.3 (omega arith) h (args_within n)
  | inr f ↦ inr (f.0, f.1, ([], f.2))
]

pub args_or_none : (text : List ℕ) → ArgsOrFault text
args_or_none text = args_within (length text) text (omega arith)
