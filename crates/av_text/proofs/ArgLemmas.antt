-- A text is one list of arguments at most, or has one fault.
use Rattle.std.proofs.Common.{◌≡◌, ◌≢◌, ◌<◌, ◌≤◌, ◌+◌, ◌-◌, ◌⊎◌, ℕ, zero, suc, List, [], ◌∷◌, ◌++◌, Option, Some, None, length, get_or, drop, take, refl, sym, ◌∙◌, ap, subst, arith, inl, inr, append_assoc}
use Rattle.std.specs.List.{flat_map, Contains}
use Rattle.std.specs.Str.{IsUtf8, IsCharBoundary}
use Rattle.std.proofs.lemmas.List.{length-append, length-drop, take-append-drop, drop-drop, drop_more, drop_all, append-nil}
use Rattle.std.specs.Prelude.{encode_utf8}
use Rattle.std.proofs.lemmas.Str.{encode_ascii, IsCharBoundary-start, IsCharBoundary-after_ascii}
use Rattle.av_text.specs.Classes.{is_white, is_name, IsRun}
use Rattle.av_text.specs.Tokens.{source, Ends, IsToken}
use Rattle.av_text.specs.Faults.{IsBroken, IsTokenFault, IsFaultAt}
use Rattle.av_text.specs.Arguments.{BeginsNamed, IsUnnamed, BeginsArg, IsArg, AreArgs, IsArgFault, FailsBehind, IsArgsFault}
use Rattle.av_text.specs.declared.arguments.Arg.{Arg}
use Rattle.av_text.specs.declared.fault.TextKind.{TextKind}
use Rattle.av_text.specs.declared.fault.TextFault.{TextFault}
use Rattle.av_text.specs.declared.fault.TextKind.TheVariants.{UnclosedQuote, LoneEscape, ExpectedName, BadLabel, Stray}
use Rattle.av_text.proofs.Runs.{same_run}
use Rattle.av_text.proofs.TokenLemmas.{rest_at}
use Rattle.av_text.proofs.ReadingLemmas.{one_token, one_fault, not_both}
use Rattle.av_base.proofs.Lists.{cons_parts}

-- ---- names

pub named_same : {text n m b c : List ℕ} → BeginsNamed text n b → BeginsNamed text m c → (n ≡ m) × (b ≡ c)
named_same {text} {n} {m} {b} {c} x y =
    let named = (same_run is_white x.lead_is y.lead_is).1 in
    let name = same_run is_name (rw named at x.name_is) y.name_is in
    let gap = same_run is_white (rw name.1 at x.gap_is) y.gap_is in
    (name.0, (cons_parts gap.1).1)

pub named_front : {text n b : List ℕ} → BeginsNamed text n b → (front : List ℕ) × (text ≡ front ++ b)
named_front {text} {n} {b} x = (
  (x.lead ++ (n ++ x.gap)) ++ 61 ∷ [],
  x.lead_is.text_is ∙ ap (λ (xs : List ℕ). x.lead ++ xs) (x.name_is.text_is ∙ ap (λ (xs : List ℕ). n ++ xs) x.gap_is.text_is ∙ sym (append_assoc n x.gap (61 ∷ b)))
      ∙ sym (append_assoc x.lead (n ++ x.gap) (61 ∷ b)) ∙ sym (append_assoc (x.lead ++ (n ++ x.gap)) (61 ∷ []) b),
)

-- ---- one argument

pub token_front : {specials text value rest : List ℕ} → IsToken specials text value rest → (front : List ℕ) × (text ≡ front ++ rest)
token_front {specials} {text} {value} {rest} t =
    let r = t.is_row in
    (r.lead ++ flat_map source t.row, r.begins.text_is ∙ sym (append_assoc r.lead (flat_map source t.row) rest))

after_front : {text b rest : List ℕ} → (front : List ℕ) × (text ≡ front ++ b) → (front : List ℕ) × (b ≡ front ++ rest) → (front : List ℕ) × (text ≡ front ++ rest)
after_front {text} {b} {rest} x y = (x.0 ++ y.0, x.1 ∙ ap (λ (xs : List ℕ). x.0 ++ xs) y.1 ∙ sym (append_assoc x.0 y.0 rest))

pub arg_front : (text : List ℕ) (name : Option (List ℕ)) (value rest : List ℕ) → BeginsArg text name value rest → (front : List ℕ) × (text ≡ front ++ rest)
arg_front text (Some name) value rest h = after_front (named_front h.1) (token_front h.2)
arg_front text None value rest h = token_front h.1

arg_same : (text : List ℕ) (n m : Option (List ℕ)) (v w r s : List ℕ) → BeginsArg text n v r → BeginsArg text m w s → (n ≡ m) × (v ≡ w) × (r ≡ s)
arg_same text (Some n) (Some m) v w r s a b =
    let same = named_same a.1 b.1 in
    let t = one_token (58 ∷ []) b.0 v w r s (rw same.1 at a.2) b.2 in
    (ap Some same.0, t.0, t.1)
arg_same text (Some n) None v w r s a b = absurd (b.0 n a.0 a.1)
arg_same text None (Some m) v w r s a b = absurd (a.0 m b.0 b.1)
arg_same text None None v w r s a b = let t = one_token (58 ∷ []) text v w r s a.1 b.1 in (refl, t.0, t.1)

arg_or_fault : (text : List ℕ) (n : Option (List ℕ)) (v r bad : List ℕ) (k : TextKind) → BeginsArg text n v r → IsArgFault text k bad → ⊥
arg_or_fault text (Some n) v r bad k a (inl f) =
    let same = named_same a.1 f.2 in
    not_both (58 ∷ []) f.1 v r bad k (rw same.1 at a.2) f.3
arg_or_fault text (Some n) v r bad k a (inr f) = f.0 n a.0 a.1
arg_or_fault text None v r bad k a (inl f) = a.0 f.0 f.1 f.2
arg_or_fault text None v r bad k a (inr f) = not_both (58 ∷ []) text v r bad k a.1 f.1

arg_fault_same : (text r s : List ℕ) (k l : TextKind) → IsArgFault text k r → IsArgFault text l s → (k ≡ l) × (r ≡ s)
arg_fault_same text r s k l (inl a) (inl b) = one_fault (58 ∷ []) b.1 r s k l (rw (named_same a.2 b.2).1 at a.3) b.3
arg_fault_same text r s k l (inl a) (inr b) = absurd (b.0 a.0 a.1 a.2)
arg_fault_same text r s k l (inr a) (inl b) = absurd (a.0 b.0 b.1 b.2)
arg_fault_same text r s k l (inr a) (inr b) = one_fault (58 ∷ []) text r s k l a.1 b.1

-- ---- a text with a fault isn't empty

broken_some : (k : TextKind) (bad : List ℕ) → IsBroken k bad → 0 < length bad
broken_some UnclosedQuote bad h = omega (arith, ap length h.1)
broken_some LoneEscape bad h = omega (arith, ap length h)
broken_some ExpectedName bad h = absurd h
broken_some BadLabel bad h = absurd h
broken_some Stray bad h = absurd h

front_some : {text rest : List ℕ} → (front : List ℕ) × (text ≡ front ++ rest) → 0 < length rest → 0 < length text
front_some {text} {rest} f some = omega (arith, ap length f.1, length-append f.0 rest)

fault_some : {text bad : List ℕ} {k : TextKind} → IsTokenFault (58 ∷ []) text k bad → 0 < length text
fault_some {text} {bad} {k} f =
    let r = f.is_row in
    front_some {rest = bad} (r.lead ++ flat_map source f.row, r.begins.text_is ∙ sym (append_assoc r.lead (flat_map source f.row) bad)) (broken_some k bad f.broken)

arg_fault_some : (text bad : List ℕ) (k : TextKind) → IsArgFault text k bad → 0 < length text
arg_fault_some text bad k (inl f) = front_some (named_front f.2) (fault_some f.3)
arg_fault_some text bad k (inr f) = fault_some f.1

fails_some : (text : List ℕ) (args : List Arg) (k : TextKind) (bad : List ℕ) → FailsBehind text args k bad → 0 < length text
fails_some text [] k bad f = arg_fault_some text bad k f
fails_some text (a ∷ args) k bad f = front_some (arg_front text a.name a.value f.0 f.2) (omega (arith, ap length f.3))

-- ---- the law

same_arg : (a b : Arg) → a.name ≡ b.name → a.value ≡ b.value → a ≡ b
same_arg a b n v =
    let make : Option (List ℕ) → List ℕ → Arg = λ name value. record { name = name; value = value } in
    ap (λ (name : Option (List ℕ)). make name a.value) n ∙ ap (make b.name) v

-- what follows an argument: nothing, or more arguments
abbrev Follows : List ℕ → List Arg → Type 0
Follows rest args = ((rest ≡ []) × (args ≡ [])) ⊎ ((more : List ℕ) × (rest ≡ 58 ∷ more) × AreArgs more args)

same_more : (xs ys : List Arg) {r s : List ℕ} → Follows r xs → Follows s ys → r ≡ s → ((m : List ℕ) → AreArgs m xs → AreArgs m ys → xs ≡ ys) → xs ≡ ys
same_more xs ys (inl u) (inl v) e again = u.1 ∙ sym v.1
same_more xs ys (inl u) (inr v) e again = absurd (omega (arith, ap length e, ap length u.0, ap length v.1))
same_more xs ys (inr u) (inl v) e again = absurd (omega (arith, ap length e, ap length u.1, ap length v.0))
same_more xs ys (inr u) (inr v) e again = again v.0 (rw (cons_parts (sym u.1 ∙ (e ∙ v.1))).1 at u.2) v.2

pub one_list : (text : List ℕ) (a b : List Arg) → AreArgs text a → AreArgs text b → a ≡ b
one_list text [] [] p q = refl
one_list text [] (b ∷ bs) p q = absurd (let some = q.0 in omega (arith, ap length p))
one_list text (a ∷ xs) [] p q = absurd (let some = p.0 in omega (arith, ap length q))
one_list text (a ∷ xs) (b ∷ ys) p q =
    let one = arg_same text a.name b.name a.value b.value p.1 q.1 p.2 q.2 in
    let same = same_arg a b one.0 one.1 in
    let others : xs ≡ ys = same_more xs ys p.3 q.3 one.2 (λ m. one_list m xs ys) in
    cc

pub one_args_fault : (text : List ℕ) (a b : List Arg) (k l : TextKind) (r s : List ℕ) → FailsBehind text a k r → FailsBehind text b l s → (k ≡ l) × (r ≡ s)
one_args_fault text [] [] k l r s p q = arg_fault_same text r s k l p q
one_args_fault text [] (b ∷ ys) k l r s p q = absurd (arg_or_fault text b.name b.value q.0 r k q.2 p)
one_args_fault text (a ∷ xs) [] k l r s p q = absurd (arg_or_fault text a.name a.value p.0 s l p.2 q)
one_args_fault text (a ∷ xs) (b ∷ ys) k l r s p q =
    let one = arg_same text a.name b.name a.value b.value p.0 q.0 p.2 q.2 in
    let same = (cons_parts (sym p.3 ∙ (one.2 ∙ q.3))).1 in
    one_args_fault q.1 xs ys k l r s (rw same at p.4) q.4

pub args_or_fault : (text : List ℕ) (a b : List Arg) (k : TextKind) (bad : List ℕ) → AreArgs text a → FailsBehind text b k bad → ⊥
args_or_fault text [] b k bad p q = let some = fails_some text b k bad q in omega (arith, ap length p)
args_or_fault text (a ∷ xs) [] k bad p q = arg_or_fault text a.name a.value p.1 bad k p.2 q
args_or_fault text (a ∷ xs) (b ∷ ys) k bad p q =
    let one = arg_same text a.name b.name a.value b.value p.1 q.0 p.2 q.2 in
    elim p.3 [
      | inl u ↦ absurd (omega (arith, ap length u.0, ap length one.2, ap length q.3))
      | inr u ↦ args_or_fault q.1 xs ys k bad (rw (cons_parts (sym u.1 ∙ (one.2 ∙ q.3))).1 at u.2) q.4
    ]

-- ---- no name

-- the run after white space is empty
pub no_name : {text lead named name spaced : List ℕ} → IsRun is_white text lead named → IsRun is_name named name spaced → length name ≡ 0 → IsUnnamed text
no_name {text} {lead} {named} {name} {spaced} p q empty n b h =
    let same = (same_run is_white p h.lead_is).1 in
    let e = (same_run is_name (rw same at q) h.name_is).0 in
    let some = h.some in
    omega (arith, ap length e)

-- no `=` is after the name
pub no_mark : {text lead named name spaced gap marked : List ℕ} → IsRun is_white text lead named → IsRun is_name named name spaced → IsRun is_white spaced gap marked
    → ((rest : List ℕ) → marked ≢ encode_utf8 61 ++ rest) → IsUnnamed text
no_mark {text} {lead} {named} {name} {spaced} {gap} {marked} p q r none n b h =
    let same = (same_run is_white p h.lead_is).1 in
    let e = (same_run is_name (rw same at q) h.name_is).1 in
    let mark = (same_run is_white (rw e at r) h.gap_is).1 in
    none b (mark ∙ ap (λ (xs : List ℕ). xs ++ b) (sym (encode_ascii 61 (omega arith))))

-- ---- places

-- what is after a name begins at its place in the whole text
pub named_place : (args : List ℕ) (place : ℕ) {name behind : List ℕ} → BeginsNamed (drop place args) name behind → drop (length args - length behind) args ≡ behind
named_place args place {name} {behind} h =
    let f = named_front h in
    rest_at args (take place args ++ f.0) behind (sym (take-append-drop place args) ∙ ap (λ (xs : List ℕ). take place args ++ xs) f.1 ∙ sym (append_assoc (take place args) f.0 behind))

pub named_after : (args : List ℕ) (place : ℕ) {name behind : List ℕ} → place ≤ length args → BeginsNamed (drop place args) name behind → place ≤ length args - length behind
named_after args place {name} {behind} within h =
    let f = named_front h in
    omega (arith, ap length f.1, length-append f.0 behind, length-drop place args)

-- ---- the arguments so far

only_mark : (c : ℕ) → Contains (58 ∷ []) c → c ≡ 58
only_mark c (zero, h, e) = sym e
only_mark c (suc k, h, e) = absurd (omega arith)

pub mark_ends : (rest : List ℕ) → Ends (58 ∷ []) rest → (rest ≡ []) ⊎ ((more : List ℕ) × (rest ≡ 58 ∷ more))
mark_ends [] h = inl refl
mark_ends (c ∷ more) h = inr (more, ap (λ (b : ℕ). b ∷ more) (only_mark c h.2))

arg_ends : (text : List ℕ) (name : Option (List ℕ)) (value rest : List ℕ) → BeginsArg text name value rest → (rest ≡ []) ⊎ ((more : List ℕ) × (rest ≡ 58 ∷ more))
arg_ends text (Some name) value rest h = mark_ends rest h.2.ends
arg_ends text None value rest h = mark_ends rest h.1.ends

no_args : (args : List Arg) → AreArgs [] args → args ≡ []
no_args [] h = refl
no_args (a ∷ args) h = absurd (let some = h.0 in omega arith)

next_rest : (text more : List ℕ) (end : ℕ) → drop end text ≡ 58 ∷ more → drop (end + 1) text ≡ more
next_rest text more end e = sym (drop-drop 1 end text) ∙ ap (drop 1) e

last_rest : (text : List ℕ) (end : ℕ) → drop end text ≡ [] → drop (end + 1) text ≡ []
last_rest text end e = sym (drop-drop 1 end text) ∙ ap (drop 1) e

-- arguments were read up to a place: whatever is after it completes them
pub record Listed (text : List ℕ) (args : List Arg) (place : ℕ) : Type 0 where
  pub boundary : place ≤ length text → IsCharBoundary text place
  pub reads : (more : List Arg) → AreArgs (drop place text) more → AreArgs text (args ++ more)
  pub fails : (more : List Arg) (k : TextKind) (bad : List ℕ) → FailsBehind (drop place text) more k bad → FailsBehind text (args ++ more) k bad

pub listed_none : (text : List ℕ) → IsUtf8 text → Listed text [] 0
listed_none text u = record { boundary = λ h. IsCharBoundary-start text u; reads = λ more h. h; fails = λ more k bad h. h }

pub listed_more : {text : List ℕ} {args : List Arg} {place : ℕ} (arg : Arg) (end : ℕ) → IsUtf8 text → Listed text args place → place < length text → IsArg (drop place text) arg (drop end text)
    → end ≤ length text → Listed text (args ++ arg ∷ []) (end + 1)
listed_more {text} {args} {place} arg end u l within h fits = record {
  boundary = λ some. IsCharBoundary-after_ascii text end u (omega arith) (ascii some);
  reads = λ more are.
      let P : List Arg → Type 0 = λ xs. AreArgs text xs in
      subst P (sym (append_assoc args (arg ∷ []) more)) (l.reads (arg ∷ more) (omega (arith, length-drop place text), drop end text, h, follows more are));
  fails = λ more k bad are.
      let P : List Arg → Type 0 = λ xs. FailsBehind text xs k bad in
      subst P (sym (append_assoc args (arg ∷ []) more)) (l.fails (arg ∷ more) k bad (failing more k bad are));
} where
  ends : (drop end text ≡ []) ⊎ ((more : List ℕ) × (drop end text ≡ 58 ∷ more))
  ends = arg_ends (drop place text) arg.name arg.value (drop end text) h

  ascii : end + 1 ≤ length text → get_or text end 0 < 128
  ascii some = elim ends [
    | inl over ↦ absurd (omega (arith, ap length over, length-drop end text))
    | inr on ↦ (let e = (cons_parts (sym (drop_more text end 0 (omega arith)) ∙ on.1)).0 in omega arith)
  ]

  failing : (more : List Arg) (k : TextKind) (bad : List ℕ) → FailsBehind (drop (end + 1) text) more k bad → FailsBehind (drop place text) (arg ∷ more) k bad
  failing more k bad are = elim ends [
    | inl over ↦ (let some = fails_some (drop (end + 1) text) more k bad are in absurd (omega (arith, ap length (last_rest text end over))))
    | inr on ↦ (drop end text, on.0, h, on.1, rw (next_rest text on.0 end on.1) at are)
  ]

  follows : (more : List Arg) → AreArgs (drop (end + 1) text) more → Follows (drop end text) more
  follows more are = elim ends [
    | inl over ↦ inl (over, no_args more (rw (last_rest text end over) at are))
    | inr on ↦ inr (on.0, on.1, rw (next_rest text on.0 end on.1) at are)
  ]

-- all of the text was read
pub listed_all : {text : List ℕ} {args : List Arg} {place : ℕ} → Listed text args place → length text ≤ place → AreArgs text args
listed_all {text} {args} {place} l over = rw append-nil at (l.reads [] (drop_all place text over))

-- no argument begins there
pub listed_fault : {text : List ℕ} {args : List Arg} {place : ℕ} (k : TextKind) (bad : List ℕ) → Listed text args place → IsArgFault (drop place text) k bad → IsArgsFault text k bad
listed_fault {text} {args} {place} k bad l f = (args, rw append-nil at (l.fails [] k bad f))

pub same_fault : (text : List ℕ) (kind : TextKind) (bad : List ℕ) (f : TextFault) → (other : List ℕ) × IsArgsFault text f.kind other × (f.at + length other ≡ length text) → IsArgsFault text kind bad → IsFaultAt text kind bad f
same_fault text kind bad f h g =
    let same = one_args_fault text h.1.0 g.0 f.kind kind h.0 bad h.1.1 g.1 in
    record { kind_is = same.0; at_is = rw same.1 at h.2 }
