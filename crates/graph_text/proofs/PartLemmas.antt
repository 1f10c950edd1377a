-- Each part of a filter has one reading at most, or one fault.
use Rattle.std.proofs.Common.{◌≡◌, ℕ, List, [], ◌∷◌, Option, Some, None, length, refl, sym, ◌∙◌, ap, arith, inl, inr}
use Rattle.av_base.specs.declared.containers.Text.{Text}
use Rattle.av_text.specs.Classes.{is_name, Stops, IsRun}
use Rattle.av_text.specs.declared.arguments.Arg.{Arg}
use Rattle.av_text.specs.declared.fault.TextKind.{TextKind}
use Rattle.av_text.proofs.Runs.{same_run}
use Rattle.av_text.proofs.PartLaws.{Lawful, Pair, in_turn, lacks_not}
use Rattle.av_text.proofs.ReadingLemmas.{one_token, one_fault, not_both}
use Rattle.av_text.proofs.ArgLemmas.{one_list, one_args_fault, args_or_fault}
use Rattle.av_text.specs.Parts.{Skips}
use Rattle.graph_text.specs.Grammar.{AreLabels, LabelsFail, NoLabels, IsName, NoName, IsInstance, NoInstance, ends, AreArguments, NoArguments, NoFilter}
use Rattle.graph_text.specs.Grammar.{IsFilter}
use Rattle.graph_text.specs.declared.graph.FilterCall.{FilterCall}
use Rattle.av_text.proofs.Places.{skip_same}
use Rattle.graph_text.proofs.LabelLemmas.{label_same}
use Rattle.av_base.proofs.Lists.{cons_parts}

-- ---- labels

labels_same : (text : List ℕ) (xs ys : List Text) (r s : List ℕ) → AreLabels text xs r → AreLabels text ys s → (xs ≡ ys) × (r ≡ s)
labels_same text [] [] r s a b = (refl, skip_same a.0 b.0)
labels_same text [] (y ∷ ys) r s a b = absurd (lacks_not 91 (skip_same a.0 b.2 ∙ b.3.opens) a.1)
labels_same text (x ∷ xs) [] r s a b = absurd (lacks_not 91 (skip_same b.0 a.2 ∙ a.3.opens) b.1)
labels_same text (x ∷ xs) (y ∷ ys) r s a b =
    let one = label_same (rw (skip_same a.2 b.2) at a.3) b.3 in
    let t = labels_same b.1 xs ys r s (rw one.1 at a.4) b.4 in
    (let h = t.0 in let k = one.0 in cc, t.1)

labels_fault : (text : List ℕ) (xs ys : List Text) (k l : TextKind) (r s : List ℕ) → LabelsFail text xs k r → LabelsFail text ys l s → (k ≡ l) × (r ≡ s)
labels_fault text [] [] k l r s a b = (a.4 ∙ sym b.4, skip_same a.1 b.1)
labels_fault text [] (y ∷ ys) k l r s a b = absurd (a.3 y b.1 (rw (skip_same b.2 a.1) at b.3))
labels_fault text (x ∷ xs) [] k l r s a b = absurd (b.3 x a.1 (rw (skip_same a.2 b.1) at a.3))
labels_fault text (x ∷ xs) (y ∷ ys) k l r s a b =
    let one = label_same (rw (skip_same a.2 b.2) at a.3) b.3 in
    labels_fault b.1 xs ys k l r s (rw one.1 at a.4) b.4

labels_apart : (text : List ℕ) (xs ys : List Text) (k : TextKind) (r s : List ℕ) → AreLabels text xs r → LabelsFail text ys k s → ⊥
labels_apart text [] [] k r s a b = lacks_not 91 (skip_same a.0 b.1 ∙ b.2) a.1
labels_apart text [] (y ∷ ys) k r s a b = lacks_not 91 (skip_same a.0 b.2 ∙ b.3.opens) a.1
labels_apart text (x ∷ xs) [] k r s a b = b.3 x a.1 (rw (skip_same a.2 b.1) at a.3)
labels_apart text (x ∷ xs) (y ∷ ys) k r s a b =
    let one = label_same (rw (skip_same a.2 b.2) at a.3) b.3 in
    labels_apart b.1 xs ys k r s (rw one.1 at a.4) b.4

pub labels_law : Lawful AreLabels NoLabels
labels_law = record {
  same = λ {text} {r} {s} {x} {y} a b. labels_same text x y r s a b;
  fault = λ {text} {r} {s} {k} {l} a b. labels_fault text a.0 b.0 k l r s a.1 b.1;
  apart = λ {text} {r} {s} {x} {k} a b. labels_apart text x b.0 k r s a b.1;
}

-- ---- names

name_apart : {text name rest : List ℕ} → IsName text name rest → Stops is_name text → ⊥
name_apart {text} {name} {rest} a stops = absurd (let e = (same_run is_name (none stops) a.0).0 in let some = a.1 in omega (arith, ap length e)) where
  none : Stops is_name text → IsRun is_name text [] text
  none h = record { text_is = refl; each = tt; whole = h }

pub name_law : Lawful IsName NoName
name_law = record {
  same = λ a b. same_run is_name a.0 b.0;
  fault = λ a b. (a.2 ∙ sym b.2, a.1 ∙ sym b.1);
  apart = λ a b. name_apart a b.0;
}

-- ---- instances

-- what is after a mark that is after white space
after_same : {text a b : List ℕ} (mark : ℕ) → Skips text (mark ∷ a) → Skips text (mark ∷ b) → a ≡ b
after_same mark p q = (cons_parts (skip_same p q)).1

instance_same : (text : List ℕ) (x y : Option Text) (r s : List ℕ) → IsInstance text x r → IsInstance text y s → (x ≡ y) × (r ≡ s)
instance_same text None None r s a b = (refl, skip_same a.0 b.0)
instance_same text None (Some y) r s a b = absurd (lacks_not 64 (skip_same a.0 b.2) a.1)
instance_same text (Some x) None r s a b = absurd (lacks_not 64 (skip_same b.0 a.2) b.1)
instance_same text (Some x) (Some y) r s a b =
    let behind = after_same 64 a.2 b.2 in
    let named = skip_same (rw behind at a.3) b.3 in
    let t = name_law.same (rw named at a.4) b.4 in
    (ap Some t.0, t.1)

instance_fault : {text r s : List ℕ} {k l : TextKind} → NoInstance text k r → NoInstance text l s → (k ≡ l) × (r ≡ s)
instance_fault {text} {r} {s} {k} {l} a b =
    let behind = after_same 64 a.2 b.2 in
    let named = skip_same (rw behind at a.3) b.3 in
    name_law.fault (rw named at a.4) b.4

instance_apart : (text : List ℕ) (x : Option Text) (k : TextKind) (r s : List ℕ) → IsInstance text x r → NoInstance text k s → ⊥
instance_apart text None k r s a b = lacks_not 64 (skip_same a.0 b.2) a.1
instance_apart text (Some x) k r s a b =
    let behind = after_same 64 a.2 b.2 in
    let named = skip_same (rw behind at a.3) b.3 in
    name_law.apart (rw named at a.4) b.4

pub instance_law : Lawful IsInstance NoInstance
instance_law = record {
  same = λ {text} {r} {s} {x} {y} a b. instance_same text x y r s a b;
  fault = instance_fault;
  apart = λ {text} {r} {s} {x} {k} a b. instance_apart text x k r s a b;
}

-- ---- arguments

arguments_same : (text : List ℕ) (x y : List Arg) (r s : List ℕ) → AreArguments text x r → AreArguments text y s → (x ≡ y) × (r ≡ s)
arguments_same text x y r s (inl a) (inl b) = (a.2 ∙ sym b.2, skip_same a.0 b.0)
arguments_same text x y r s (inl a) (inr b) = absurd (lacks_not 61 (skip_same a.0 b.3) a.1)
arguments_same text x y r s (inr a) (inl b) = absurd (lacks_not 61 (skip_same b.0 a.3) b.1)
arguments_same text x y r s (inr a) (inr b) =
    let behind = after_same 61 a.3 b.3 in
    let start = skip_same (rw behind at a.4) b.4 in
    let token = one_token ends b.1 a.2 b.2 r s (rw start at a.5) b.5 in
    (one_list b.2 x y (rw token.0 at a.6) b.6, token.1)

-- the place of the arguments
start_same : {text a b c d : List ℕ} → Skips text (61 ∷ a) → Skips a c → Skips text (61 ∷ b) → Skips b d → c ≡ d
start_same {text} {a} {b} {c} {d} p q r s = skip_same (rw (after_same 61 p r) at q) s

arguments_fault : {text r s : List ℕ} {k l : TextKind} → NoArguments text k r → NoArguments text l s → (k ≡ l) × (r ≡ s)
arguments_fault {text} {r} {s} {k} {l} (b, c, p, q, inl f) (d, e, u, v, inl g) = one_fault ends e r s k l (rw (start_same p q u v) at f) g
arguments_fault {text} {r} {s} {k} {l} (b, c, p, q, inl f) (d, e, u, v, inr g) = absurd (not_both ends e g.0 g.1 r k g.3 (rw (start_same p q u v) at f))
arguments_fault {text} {r} {s} {k} {l} (b, c, p, q, inr f) (d, e, u, v, inl g) = absurd (not_both ends e f.0 f.1 s l (rw (start_same p q u v) at f.3) g)
arguments_fault {text} {r} {s} {k} {l} (b, c, p, q, inr f) (d, e, u, v, inr g) =
    let start = start_same p q u v in
    let token = one_token ends e f.0 g.0 f.1 g.1 (rw start at f.3) g.3 in
    let inner = one_args_fault g.0 f.4.0 g.4.0 k l f.2 g.2 (rw token.0 at f.4.1) g.4.1 in
    (inner.0, f.5 ∙ (start ∙ sym g.5))

arguments_apart : (text : List ℕ) (x : List Arg) (k : TextKind) (r s : List ℕ) → AreArguments text x r → NoArguments text k s → ⊥
arguments_apart text x k r s (inl a) (d, e, u, v, g) = lacks_not 61 (skip_same a.0 u) a.1
arguments_apart text x k r s (inr a) (d, e, u, v, inl g) = not_both ends e a.2 r s k (rw (start_same a.3 a.4 u v) at a.5) g
arguments_apart text x k r s (inr a) (d, e, u, v, inr g) =
    let token = one_token ends e a.2 g.0 r g.1 (rw (start_same a.3 a.4 u v) at a.5) g.3 in
    args_or_fault g.0 x g.4.0 k g.2 (rw token.0 at a.6) g.4.1

pub arguments_law : Lawful AreArguments NoArguments
arguments_law = record {
  same = λ {text} {r} {s} {x} {y} a b. arguments_same text x y r s a b;
  fault = arguments_fault;
  apart = λ {text} {r} {s} {x} {k} a b. arguments_apart text x k r s a b;
}

-- ---- filters

abbrev pub FilterParts : List ℕ → List Text × (Text × (Option Text × (List Arg × List Text))) → List ℕ → Type 0
FilterParts = Pair AreLabels (Pair IsName (Pair IsInstance (Pair AreArguments AreLabels)))

filter_law : Lawful FilterParts NoFilter
filter_law = in_turn labels_law (in_turn name_law (in_turn instance_law (in_turn arguments_law labels_law)))

filter_parts : {total chain : ℕ} {text rest : List ℕ} {call : FilterCall} → IsFilter total chain text call rest → FilterParts text (call.ins, (call.name, (call.instance, (call.args, call.outs)))) rest
filter_parts h = (h.named, h.ins, (h.unnamed, h.name, (h.called, h.instance, (h.labelled, h.args, h.outs))))

same_call : (a b : FilterCall) → a.name ≡ b.name → a.instance ≡ b.instance → a.args ≡ b.args → a.ins ≡ b.ins → a.outs ≡ b.outs → a.at ≡ b.at → a.chain ≡ b.chain → a ≡ b
same_call a b name instance args ins outs at chain =
    let make : Text → Option Text → List Arg → List Text → List Text → ℕ → ℕ → FilterCall = λ n i r s o t c. record { name = n; instance = i; args = r; ins = s; outs = o; at = t; chain = c } in
    ap (λ (n : Text). make n a.instance a.args a.ins a.outs a.at a.chain) name
    ∙ ap (λ (i : Option Text). make b.name i a.args a.ins a.outs a.at a.chain) instance
    ∙ ap (λ (r : List Arg). make b.name b.instance r a.ins a.outs a.at a.chain) args
    ∙ ap (λ (s : List Text). make b.name b.instance b.args s a.outs a.at a.chain) ins
    ∙ ap (λ (o : List Text). make b.name b.instance b.args b.ins o a.at a.chain) outs
    ∙ ap (λ (t : ℕ). make b.name b.instance b.args b.ins b.outs t a.chain) at
    ∙ ap (make b.name b.instance b.args b.ins b.outs b.at) chain

pub filter_same : {total chain : ℕ} {text r s : List ℕ} {a b : FilterCall} → IsFilter total chain text a r → IsFilter total chain text b s → (a ≡ b) × (r ≡ s)
filter_same {total} {chain} {text} {r} {s} {a} {b} p q =
    let t = filter_law.same (filter_parts p) (filter_parts q) in
    let parts = t.0 in
    let named = (labels_law.same p.ins q.ins).1 in
    let at : a.at ≡ b.at = (let u = p.at_is in let v = q.at_is in omega (arith, ap length named)) in
    (same_call a b (ap (λ z. z.1.0) parts) (ap (λ z. z.1.1.0) parts) (ap (λ z. z.1.1.1.0) parts) (ap (λ z. z.0) parts) (ap (λ z. z.1.1.1.1) parts) at (p.chain_is ∙ sym q.chain_is), t.1)

pub filter_fault : {text r s : List ℕ} {k l : TextKind} → NoFilter text k r → NoFilter text l s → (k ≡ l) × (r ≡ s)
filter_fault = filter_law.fault

pub filter_apart : {total chain : ℕ} {text r s : List ℕ} {a : FilterCall} {k : TextKind} → IsFilter total chain text a r → NoFilter text k s → ⊥
filter_apart p q = filter_law.apart (filter_parts p) q
