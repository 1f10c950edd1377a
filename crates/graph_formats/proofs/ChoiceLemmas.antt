-- Part after part.
use Rattle.std.proofs.Common.{◌≡◌, ◌<◌, ◌≤◌, ◌+◌, ℕ, List, Bool, true, false, Some, length, get_or, replicate, sym, ◌∙◌, ap, subst, arith, inl, inr}
use Rattle.std.specs.List.{slice_get}
use Rattle.std.proofs.lemmas.Bool.{cases_eq, cases_lt}
use Rattle.std.proofs.lemmas.List.{length-replicate, get_or-replicate, get_or_past, get_or_read}
use Rattle.std.proofs.lemmas.Option.{slice_get_within}
use Rattle.av_base.specs.declared.formats.Format.{Format}
use Rattle.graph_formats.specs.declared.request.Relation.{Relation}
use Rattle.graph_formats.specs.declared.request.Wish.{Wish}
use Rattle.graph_formats.specs.declared.draft.Draft.{Draft}
use Rattle.graph_formats.specs.Assignments.{first_of, second_of, AreBelow, AreRelationsBelow, Joined, Itself, Named, Back, Through, FitsPart, IsChosen, HasNone, IsFirstWithout}
use Rattle.graph_formats.specs.declared.demands.Demands.{Demands}
use Rattle.graph_formats.specs.Demands.{Asked, AreDemands, asked_of}
use Rattle.graph_formats.specs.Walks.{IsGiven, IsSettled, IsBarren}
use Rattle.av_base.proofs.Lists.{get_within}
use Rattle.graph_formats.proofs.DemandLemmas.{AskSame, asked_same, asked_sound}
use Rattle.graph_formats.proofs.PartLemmas.{closed_joined, settled_fits}

-- ---- the same is asked in two ways

same_back : (a b : Asked) → AskSame a b → AskSame b a
same_back a b same = record { links = sym same.links; wished = λ link f. ((same.wished link f).1, (same.wished link f).0); relations = λ relation. ((same.relations relation).1, (same.relations relation).0) }

joined_same : (a b : Asked) → AskSame a b → (x y : ℕ) → Joined a.relations x y → Joined b.relations x y
joined_same a b same _ _ (Itself x) = Itself x
joined_same a b same _ _ (Named relation here) = Named relation ((same.relations relation).0 here)
joined_same a b same _ _ (Back x y joined) = Back x y (joined_same a b same x y joined)
joined_same a b same _ _ (Through x y z one two) = Through x y z (joined_same a b same x y one) (joined_same a b same y z two)

fits_same : (a b : Asked) → AskSame a b → (link : ℕ) (formats : List Format) → FitsPart a.links a.wishes a.relations link formats → FitsPart b.links b.wishes b.relations link formats
fits_same a b same link formats fits = record {
  each = fits.each ∙ same.links;
  wished = λ other f joined at. (same.wished other f).0 (fits.wished other f (joined_same b a (same_back a b same) link other joined) at);
  met = λ relation here joined. fits.met relation ((same.relations relation).1 here) (joined_same b a (same_back a b same) link (first_of relation) joined);
}

chosen_same : (a b : Asked) → AskSame a b → (formats : List Format) → IsChosen a.links a.wishes a.relations formats → IsChosen b.links b.wishes b.relations formats
chosen_same a b same formats is = record {
  assignment = record {
    each = is.assignment.each ∙ same.links;
    wished = λ link f at. (same.wished link f).0 (is.assignment.wished link f at);
    met = λ relation here. is.assignment.met relation ((same.relations relation).1 here);
  };
  earliest = λ link has. is.earliest link (record {
    other = has.other;
    fits = fits_same b a (same_back a b same) link has.other has.fits;
    agrees = λ before low joined. has.agrees before low (joined_same a b same link before joined);
    here = has.here;
    is_here = has.is_here;
    earlier = has.earlier;
    is_earlier = has.is_earlier;
    precedes = has.precedes;
  });
}

none_same : (a b : Asked) → AskSame a b → (link : ℕ) → HasNone a.links a.wishes a.relations link → HasNone b.links b.wishes b.relations link
none_same a b same link is = record {
  below = (let low = is.below in let e = same.links in omega arith);
  root = λ other joined. is.root other (joined_same b a (same_back a b same) link other joined);
  none = λ formats fits. is.none formats (fits_same b a (same_back a b same) link formats fits);
}

first_same : (a b : Asked) → AskSame a b → (link : ℕ) → IsFirstWithout a.links a.wishes a.relations link → IsFirstWithout b.links b.wishes b.relations link
first_same a b same link is = record {
  without = none_same a b same link is.without;
  first = λ other low none. is.first other low (none_same b a (same_back a b same) other none);
}

-- ---- part after part

-- the first links are given their formats
pub record Choosing (asked : Asked) (d : Draft) (count : ℕ) : Type 0 where
  pub settled : IsSettled asked d
  pub lower : (link : ℕ) → link < count → IsGiven d link

pub none_given : (links : ℕ) (d : Draft) (link : ℕ) → d.given.items ≡ replicate links false → IsGiven d link → ⊥
none_given links d link e is = elim (cases_lt link links) [
  | inl low ↦ (let no = get_or-replicate links link false false low in let shown = ap (λ (l : List Bool). get_or l link false) (sym e) ∙ is in cc)
  | inr past ↦ (
      let no = get_or_past (replicate links false) link false (let long = length-replicate links false in omega arith) in
      let shown = ap (λ (l : List Bool). get_or l link false) (sym e) ∙ is in
      cc
      )
]

choosing_start : (asked : Asked) (links : ℕ) (d : Draft) → asked.links ≡ links → length d.formats.items ≡ links → d.given.items ≡ replicate links false → Choosing asked d 0
choosing_start asked links d same formats given = record {
  settled = record {
    each_format = formats ∙ sym same;
    each_mark = ap length given ∙ (length-replicate links false ∙ sym same);
    closed = λ relation here. (λ is. absurd (none_given links d (first_of relation) given is), λ is. absurd (none_given links d (second_of relation) given is));
    met = λ relation here is. absurd (none_given links d (first_of relation) given is);
    wished = λ link f is. absurd (none_given links d link given is);
    earliest = λ link is. absurd (none_given links d link given is);
  };
  lower = λ link none. absurd (omega arith);
}

pub choosing_more : (asked : Asked) (old new : Draft) (count : ℕ) → Choosing asked old count → IsSettled asked new → ((link : ℕ) → IsGiven old link → IsGiven new link) → IsGiven new count → Choosing asked new (count + 1)
choosing_more asked old new count is settled stays here = record {
  settled = settled;
  lower = λ link low. elim (cases_eq link count) [
    | inl same ↦ subst (λ (n : ℕ). IsGiven new n) (sym same) here
    | inr apart ↦ stays link (is.lower link (omega arith))
  ];
}

choosing_all : (asked : Asked) (d : Draft) (count : ℕ) → AreRelationsBelow asked.links asked.relations → Choosing asked d count → asked.links ≤ count → IsChosen asked.links asked.wishes asked.relations d.formats.items
choosing_all asked d count below is all = record {
  assignment = record {
    each = is.settled.each_format;
    wished = λ link f at. is.settled.wished link f (given link f at) at;
    met = λ relation here. is.settled.met relation here (is.lower (first_of relation) (let low = (below relation here).0 in omega arith));
  };
  earliest = λ link has. is.settled.earliest link (given link has.here has.is_here) has;
} where
  given : (link : ℕ) (f : Format) → slice_get d.formats.items link ≡ Some f → IsGiven d link
  given link f at = is.lower link (let low = slice_get_within d.formats.items link f at in let each = is.settled.each_format in omega arith)

-- the lowest link of a part that has no formats
choosing_none : (asked : Asked) (d : Draft) (root : ℕ) → Choosing asked d root → ¬ IsGiven d root → root < asked.links → ((f : Format) → IsBarren asked root f) → IsFirstWithout asked.links asked.wishes asked.relations root
choosing_none asked d root is bare low barren = record {
  without = record {
    below = low;
    root = λ other joined. elim (cases_lt other root) [
      | inl less ↦ absurd (bare ((closed_joined asked d is.settled root other joined).1 (is.lower other less)))
      | inr not_less ↦ omega arith
    ];
    none = λ formats fits. (let at = get_within formats root (let each = fits.each in omega arith) in barren at.0 formats fits at.1);
  };
  first = λ other less none. none.none d.formats.items (settled_fits asked d is.settled other (is.lower other less));
}

-- what is returned, in terms of what is asked
module _ (links : ℕ) (wishes ws : List Wish) (relations rs : List Relation) (demands : Demands) (below : AreBelow links wishes relations) (same_wishes : ws ≡ wishes) (same_relations : rs ≡ relations)
    (made : AreDemands (record { links = links; wishes = ws; relations = rs }) demands) where
  abbrev asked : Asked
  asked = record { links = links; wishes = wishes; relations = relations }

  are : AreDemands asked demands
  are = rw (same_wishes, same_relations) at made

  same : AskSame (asked_of demands) asked
  same = asked_same asked demands below.wishes_below are

  pub root_low : (root : ℕ) → root < links → root < (asked_of demands).links
  root_low root low = let e = same.links in omega arith

  pub sound : AreDemands (asked_of demands) demands
  sound = asked_sound asked demands are

  pub first_start : (d : Draft) → length d.formats.items ≡ links → d.given.items ≡ replicate links false → Choosing (asked_of demands) d 0
  first_start d formats given = choosing_start (asked_of demands) links d same.links formats given

  -- a link whose mark is read
  module _ (d : Draft) (root : ℕ) (marked : Bool) (is : Choosing (asked_of demands) d root) (low : root < links) where
    pub mark_low : root < length d.given.items
    mark_low = let each = is.settled.each_mark in let e = same.links in omega arith

    mark_read : marked ≡ get_or d.given.items root marked → get_or d.given.items root false ≡ marked
    mark_read read = sym (get_or_read d.given.items root marked mark_low read false)

    -- it has its format
    pub passed_by : marked ≡ get_or d.given.items root marked → marked ≡ true → Choosing (asked_of demands) d (root + 1)
    passed_by read marks = choosing_more (asked_of demands) d d root is is.settled (λ link here. here) (mark_read read ∙ marks)

    -- it has none, and no format fits
    pub none_fits : marked ≡ get_or d.given.items root marked → marked ≡ false → ((f : Format) → IsBarren (asked_of demands) root f) → IsFirstWithout links wishes relations root
    none_fits read bare barren = first_same (asked_of demands) asked same root (choosing_none (asked_of demands) d root is (λ given. let shown = mark_read read in cc) (root_low root low) barren)

  pub all_chosen : (d : Draft) (count : ℕ) → Choosing (asked_of demands) d count → links ≤ count → IsChosen links wishes relations d.formats.items
  all_chosen d count is all = chosen_same (asked_of demands) asked same d.formats.items (choosing_all (asked_of demands) d count sound.below is (let e = same.links in omega arith))
