-- A text begins with one such part at most, or has one fault.
use Rattle.std.proofs.Common.{◌≡◌, ◌==◌, ◌⊎◌, ℕ, false, List, ◌∷◌, refl, sym, ◌∙◌, ap, subst, inl, inr, eq-eqb}
use Rattle.av_text.specs.Parts.{Part, NoPart, Either, Lacks}

pub record Lawful {X K : Type 0} (P : Part X) (F : NoPart K) : Type 0 where
  pub same : {text r s : List ℕ} {x y : X} → P text x r → P text y s → (x ≡ y) × (r ≡ s)
  pub fault : {text r s : List ℕ} {k l : K} → F text k r → F text l s → (k ≡ l) × (r ≡ s)
  pub apart : {text r s : List ℕ} {x : X} {k : K} → P text x r → F text k s → ⊥

-- ---- two parts, one after the other

abbrev pub Pair : {X Y : Type 0} → Part X → Part Y → Part (X × Y)
Pair P Q text z rest = (middle : List ℕ) × P text z.0 middle × Q middle z.1 rest

pub in_turn : {X Y K : Type 0} {P : Part X} {Q : Part Y} {F G : NoPart K} → Lawful P F → Lawful Q G → Lawful (Pair P Q) (Either P F G)
in_turn {X = X} {Y = Y} {K = K} {P} {Q} {F} {G} a b = record { same = same; fault = fault; apart = apart } where
  same : {text r s : List ℕ} {x y : X × Y} → Pair P Q text x r → Pair P Q text y s → (x ≡ y) × (r ≡ s)
  same {text} {r} {s} {x} {y} p q =
      let first = a.same p.1 q.1 in
      let second = b.same (subst (λ (m : List ℕ). Q m x.1 r) first.1 p.2) q.2 in
      (let pair : X → Y → X × Y = λ u v. (u, v) in ap (λ (u : X). pair u x.1) first.0 ∙ ap (pair y.0) second.0, second.1)

  fault : {text r s : List ℕ} {k l : K} → Either P F G text k r → Either P F G text l s → (k ≡ l) × (r ≡ s)
  fault (inl p) (inl q) = a.fault p q
  fault (inl p) (inr q) = absurd (a.apart q.2 p)
  fault (inr p) (inl q) = absurd (a.apart p.2 q)
  fault {r = r} {k = k} (inr p) (inr q) = b.fault (subst (λ (m : List ℕ). G m k r) (a.same p.2 q.2).1 p.3) q.3

  apart : {text r s : List ℕ} {x : X × Y} {k : K} → Pair P Q text x r → Either P F G text k s → ⊥
  apart p (inl q) = a.apart p.1 q
  apart {s = s} {k = k} p (inr q) = b.apart p.2 (subst (λ (m : List ℕ). G m k s) (a.same q.2 p.1).1 q.3)

-- ---- marks

-- a text that begins with a mark doesn't lack it
pub lacks_not : (mark : ℕ) {text rest : List ℕ} → text ≡ mark ∷ rest → Lacks mark text → ⊥
lacks_not mark {text} {rest} e h = let yes = eq-eqb mark mark refl in let no : (mark == mark) ≡ false = subst (Lacks mark) e h in cc

-- ---- one of two parts that begin in different ways

pub one_or_other : {X K : Type 0} {P Q : Part X} {F G : NoPart K} (A B : List ℕ → Type 0) → Lawful P F → Lawful Q G
    → ((text r : List ℕ) (x : X) → P text x r → A text) → ((text r : List ℕ) (k : K) → F text k r → A text)
    → ((text r : List ℕ) (x : X) → Q text x r → B text) → ((text r : List ℕ) (k : K) → G text k r → B text)
    → ((text : List ℕ) → A text → B text → ⊥) → Lawful (λ text x r. P text x r ⊎ Q text x r) (λ text k r. F text k r ⊎ G text k r)
one_or_other {X} {K} {P} {Q} {F} {G} A B a b p f q g never = record { same = same; fault = fault; apart = apart } where
  same : {text r s : List ℕ} {x y : X} → P text x r ⊎ Q text x r → P text y s ⊎ Q text y s → (x ≡ y) × (r ≡ s)
  same (inl u) (inl v) = a.same u v
  same {text} {r} {s} {x} {y} (inl u) (inr v) = absurd (never text (p text r x u) (q text s y v))
  same {text} {r} {s} {x} {y} (inr u) (inl v) = absurd (never text (p text s y v) (q text r x u))
  same (inr u) (inr v) = b.same u v

  fault : {text r s : List ℕ} {k l : K} → F text k r ⊎ G text k r → F text l s ⊎ G text l s → (k ≡ l) × (r ≡ s)
  fault (inl u) (inl v) = a.fault u v
  fault {text} {r} {s} {k} {l} (inl u) (inr v) = absurd (never text (f text r k u) (g text s l v))
  fault {text} {r} {s} {k} {l} (inr u) (inl v) = absurd (never text (f text s l v) (g text r k u))
  fault (inr u) (inr v) = b.fault u v

  apart : {text r s : List ℕ} {x : X} {k : K} → P text x r ⊎ Q text x r → F text k s ⊎ G text k s → ⊥
  apart (inl u) (inl v) = a.apart u v
  apart {text} {r} {s} {x} {k} (inl u) (inr v) = never text (p text r x u) (g text s k v)
  apart {text} {r} {s} {x} {k} (inr u) (inl v) = never text (f text s k v) (q text r x u)
  apart (inr u) (inr v) = b.apart u v

-- a part under a name of its own
pub wrapped : {X Y K : Type 0} (make : X → Y) {P : Part X} {F : NoPart K} → Lawful P F → Lawful (λ text y r. (x : X) × (y ≡ make x) × P text x r) F
wrapped {X} {Y} {K} make {P} {F} law = record {
  same = λ a b. let e = law.same a.2 b.2 in (a.1 ∙ ap make e.0 ∙ sym b.1, e.1);
  fault = law.fault;
  apart = λ a b. law.apart a.2 b;
}
