-- A walk through a part.
use Rattle.std.proofs.Common.{◌≡◌, ◌<◌, ◌+◌, ◌++◌, ◌⊎◌, ℕ, List, [], ◌∷◌, Bool, true, false, not, cond, Option, Some, None, length, get_or, set, refl, sym, ◌∙◌, ap, subst, arith, inl, inr}
use Rattle.std.specs.List.{slice_get, Contains, count_by}
use Rattle.std.proofs.lemmas.Bool.{cases_eq, cases_lt, cases_Bool}
use Rattle.std.proofs.lemmas.List.{get_or-set_same, get_or-set_other, length-set, length_push, append_assoc, append-nil, get_or_past}
use Rattle.std.proofs.lemmas.List.Elements.{Contains-push, Contains-push_cases, Contains-append_left}
use Rattle.std.proofs.lemmas.List.Sums.{sum_by-set}
use Rattle.std.proofs.lemmas.Option.{same_Some, none-some, slice_get_read}
use Rattle.av_base.specs.declared.formats.PixelFormat.TheVariants.{Gray, Yuv420p, Yuv422p, Yuv444p, Yuva420p, Yuva422p, Yuva444p}
use Rattle.av_base.specs.declared.formats.Format.{Format}
use Rattle.av_base.specs.declared.formats.Format.TheVariants.{Video, Audio}
use Rattle.av_base.specs.declared.sets.FormatSet.{FormatSet}
use Rattle.graph_formats.specs.declared.request.Relation.{Relation}
use Rattle.graph_formats.specs.declared.request.Relation.TheVariants.{Same, WithAlpha}
use Rattle.graph_formats.specs.declared.ties.Tie.{Tie}
use Rattle.graph_formats.specs.declared.ties.Ties.{Ties}
use Rattle.graph_formats.specs.declared.draft.Draft.{Draft}
use Rattle.graph_formats.specs.Assignments.{first_of, second_of, with_alpha_of, Relates, Meets, IsWished, Joined, Named, Back, Through, FitsPart}
use Rattle.graph_formats.specs.Demands.{Names, IsListed, Here, After, head_of, AreTied, AreDemands, Asked}
use Rattle.graph_formats.specs.declared.demands.Demands.{Demands}
use Rattle.graph_formats.specs.Walks.{IsAcross, IsApart, IsGiven, HasMore, Gave, IsBarren, Tour, IsWalk, IsFollowed, Extends, AreUnmarked, IsRestored}
use Rattle.av_base.proofs.Lists.{get_set_same, get_set_other, none_contained}
use Rattle.graph_formats.proofs.DemandLemmas.{listed_cases}

-- ---- one relation

-- the formats of the first link determine those of the second
pub relates_forth : (relation : Relation) (f g h : Format) → Relates relation f g → Relates relation f h → g ≡ h
relates_forth (Same a b) f g h p q = sym p ∙ q
relates_forth (WithAlpha plain alpha) f g h p q = same_Some g h (sym p ∙ q)

without_alpha : Format → Format
without_alpha (Video Yuva420p) = Video Yuv420p
without_alpha (Video Yuva422p) = Video Yuv422p
without_alpha (Video Yuva444p) = Video Yuv444p
without_alpha f = f

taken_away : (f g : Format) → with_alpha_of f ≡ Some g → f ≡ without_alpha g
unfolding without_alpha
taken_away (Video Yuv420p) g e = ap without_alpha (same_Some (Video Yuva420p) g e)
taken_away (Video Yuv422p) g e = ap without_alpha (same_Some (Video Yuva422p) g e)
taken_away (Video Yuv444p) g e = ap without_alpha (same_Some (Video Yuva444p) g e)
taken_away (Video Gray) g e = absurd (none-some g e)
taken_away (Video Yuva420p) g e = absurd (none-some g e)
taken_away (Video Yuva422p) g e = absurd (none-some g e)
taken_away (Video Yuva444p) g e = absurd (none-some g e)
taken_away (Audio a) g e = absurd (none-some g e)

-- the format of the second link determines that of the first
pub relates_back : (relation : Relation) (f g h : Format) → Relates relation f h → Relates relation g h → f ≡ g
relates_back (Same a b) f g h p q = p ∙ sym q
relates_back (WithAlpha plain alpha) f g h p q = taken_away f h p ∙ sym (taken_away g h q)

-- if a relation is met, the format of its one link is that which goes with the other's
across_forced : (relation : Relation) (link other : ℕ) (f g : Format) (formats : List Format)
    → IsAcross relation link f other g → Meets relation formats → slice_get formats link ≡ Some f → slice_get formats other ≡ Some g
across_forced relation link other f g formats (inl forth) met at =
    let first : met.first ≡ f = same_Some met.first f (sym met.is_first ∙ (ap (slice_get formats) forth.0 ∙ at)) in
    let P : Format → Type 0 = λ x. Relates relation x met.second in
    let same : met.second ≡ g = relates_forth relation f met.second g (subst P first met.relates) forth.2 in
    ap (slice_get formats) (sym forth.1) ∙ (met.is_second ∙ ap (λ (x : Format). Some x) same)
across_forced relation link other f g formats (inr forth) met at =
    let second : met.second ≡ f = same_Some met.second f (sym met.is_second ∙ (ap (slice_get formats) forth.0 ∙ at)) in
    let P : Format → Type 0 = λ x. Relates relation met.first x in
    let same : met.first ≡ g = relates_back relation met.first g f (subst P second met.relates) forth.2 in
    ap (slice_get formats) (sym forth.1) ∙ (met.is_first ∙ ap (λ (x : Format). Some x) same)

-- if the formats go with each other, the relation is met
across_met : (relation : Relation) (link other : ℕ) (f g : Format) (formats : List Format)
    → IsAcross relation link f other g → slice_get formats link ≡ Some f → slice_get formats other ≡ Some g → Meets relation formats
across_met relation link other f g formats (inl forth) here there = record {
  first = f;
  is_first = ap (slice_get formats) forth.0 ∙ here;
  second = g;
  is_second = ap (slice_get formats) forth.1 ∙ there;
  relates = forth.2;
}
across_met relation link other f g formats (inr forth) here there = record {
  first = g;
  is_first = ap (slice_get formats) forth.1 ∙ there;
  second = f;
  is_second = ap (slice_get formats) forth.0 ∙ here;
  relates = forth.2;
}

-- both links of a relation are joined to what one of them is joined to
joined_ends : (relations : List Relation) (relation : Relation) (root link : ℕ) → Contains relations relation → Names relation link → Joined relations root link
    → Joined relations root (first_of relation) × Joined relations root (second_of relation)
joined_ends relations relation root link here (inl first) joined =
    let P : ℕ → Type 0 = λ n. Joined relations root n in
    let one = subst P (sym first) joined in
    (one, Through root (first_of relation) (second_of relation) one (Named relation here))
joined_ends relations relation root link here (inr second) joined =
    let P : ℕ → Type 0 = λ n. Joined relations root n in
    let two = subst P (sym second) joined in
    (Through root (second_of relation) (first_of relation) two (Back (first_of relation) (second_of relation) (Named relation here)), two)

joined_across : (relations : List Relation) (relation : Relation) (root link other : ℕ) (f g : Format) → Contains relations relation → IsAcross relation link f other g → Joined relations root link → Joined relations root other
joined_across relations relation root link other f g here (inl forth) joined = let P : ℕ → Type 0 = λ n. Joined relations root n in subst P forth.1 (joined_ends relations relation root link here (inl forth.0) joined).1
joined_across relations relation root link other f g here (inr forth) joined = let P : ℕ → Type 0 = λ n. Joined relations root n in subst P forth.1 (joined_ends relations relation root link here (inr forth.0) joined).0

-- ---- one link more

-- marks after one was set
marked_same : (marks : List Bool) (link : ℕ) → link < length marks → get_or (set marks link true) link false ≡ true
marked_same marks link low = get_or-set_same marks link true false low

marked_more : (marks : List Bool) (link other : ℕ) → link < length marks → get_or marks other false ≡ true → get_or (set marks link true) other false ≡ true
marked_more marks link other low is = elim (cases_eq other link) [
  | inl same ↦ (let P : ℕ → Type 0 = λ n. get_or (set marks link true) n false ≡ true in subst P (sym same) (marked_same marks link low))
  | inr apart ↦ get_or-set_other marks link other true false apart ∙ is
]

marked_before : (marks : List Bool) (link other : ℕ) → get_or (set marks link true) other false ≡ true → (other ≡ link → ⊥) → get_or marks other false ≡ true
marked_before marks link other is apart = sym (get_or-set_other marks link other true false apart) ∙ is

unmarked_less : (marks : List Bool) (link : ℕ) → link < length marks → (get_or marks link false ≡ true → ⊥) → count_by not (set marks link true) + 1 ≡ count_by not marks
unmarked_less marks link low bare = elim (cases_Bool (get_or marks link false)) [
  | inl marked ↦ absurd (bare marked)
  | inr left ↦ (let sums = rw left at (sum_by-set (λ (b : Bool). cond (not b) 1 0) marks link true false low) in omega (arith, sums))
]

-- one more link is given its format
module _ (old new : Draft) (link : ℕ) (f : Format) (low : link < length old.formats.items) (mark : link < length old.given.items) (more : HasMore old new link f) where
  pub format_same : slice_get new.formats.items link ≡ Some f
  format_same = ap (λ (l : List Format). slice_get l link) more.formats ∙ get_set_same old.formats.items link f low

  format_other : (other : ℕ) → (other ≡ link → ⊥) → slice_get new.formats.items other ≡ slice_get old.formats.items other
  format_other other apart = ap (λ (l : List Format). slice_get l other) more.formats ∙ get_set_other old.formats.items link other f apart

  given_stays : (other : ℕ) → IsGiven old other → IsGiven new other
  given_stays other is = let P : List Bool → Type 0 = λ l. get_or l other false ≡ true in subst P (sym more.given) (marked_more old.given.items link other mark is)

  given_here : IsGiven new link
  given_here = let P : List Bool → Type 0 = λ l. get_or l link false ≡ true in subst P (sym more.given) (marked_same old.given.items link mark)

  given_before : (other : ℕ) → IsGiven new other → (other ≡ link → ⊥) → IsGiven old other
  given_before other is apart = let P : List Bool → Type 0 = λ l. get_or l other false ≡ true in marked_before old.given.items link other (subst P more.given is) apart

  given_apart : (other : ℕ) → IsGiven old other → other ≡ link → ⊥
  given_apart other is same = more.bare (subst (λ (n : ℕ). IsGiven old n) same is)

  reached_cases : (other : ℕ) → Contains new.reached.items other → Contains old.reached.items other ⊎ (link ≡ other)
  reached_cases other is = Contains-push_cases old.reached.items link other (let P : List ℕ → Type 0 = λ l. Contains l other in subst P more.reached is)

  reached_stays : (other : ℕ) → Contains old.reached.items other → Contains new.reached.items other
  reached_stays other is = let P : List ℕ → Type 0 = λ l. Contains l other in subst P (sym more.reached) (Contains-append_left old.reached.items (link ∷ []) other is)

  pub reached_here : Contains new.reached.items link
  reached_here = let P : List ℕ → Type 0 = λ l. Contains l link in subst P (sym more.reached) (Contains-push old.reached.items link)

  more_extends : Extends old new
  more_extends = record {
    given = given_stays;
    formats = λ other is. format_other other (given_apart other is);
    more = link ∷ [];
    reached = more.reached;
  }

  -- the walk goes on to a link that is joined, whose format is wished and follows
  pub walk_more : (tour : Tour) → IsWalk tour old → Joined tour.asked.relations tour.root link → IsWished tour.asked.wishes link f
      → ((formats : List Format) → FitsPart tour.asked.links tour.asked.wishes tour.asked.relations tour.root formats → slice_get formats tour.root ≡ Some tour.format → slice_get formats link ≡ Some f)
      → IsWalk tour new
  walk_more tour walk joined wished forced = record {
    each_format = ap length more.formats ∙ (length-set old.formats.items link f ∙ walk.each_format);
    each_mark = ap length more.given ∙ (length-set old.given.items link true ∙ walk.each_mark);
    apart = walk.apart;
    balance = (
        let long = ap length more.reached ∙ length_push old.reached.items link in
        let less = unmarked_less old.given.items link mark more.bare in
        let marks : count_by not new.given.items ≡ count_by not (set old.given.items link true) = ap (λ (l : List Bool). count_by not l) more.given in
        let balance = walk.balance in
        omega arith
        );
    kept = λ other is. format_other other (given_apart other (walk.started other is)) ∙ walk.kept other is;
    started = λ other is. given_stays other (walk.started other is);
    origin = λ other is. elim (cases_eq other link) [
      | inl same ↦ inr (subst (λ (n : ℕ). Contains new.reached.items n) (sym same) reached_here)
      | inr apart ↦ elim (walk.origin other (given_before other is apart)) [ inl start ↦ inl start | inr reached ↦ inr (reached_stays other reached) ]
    ];
    given = λ other is. elim (reached_cases other is) [
      | inl before ↦ given_stays other (walk.given other before)
      | inr same ↦ subst (λ (n : ℕ). IsGiven new n) same given_here
    ];
    joined = λ other is. elim (reached_cases other is) [
      | inl before ↦ walk.joined other before
      | inr same ↦ subst (λ (n : ℕ). Joined tour.asked.relations tour.root n) same joined
    ];
    wished = λ other g is at. elim (reached_cases other is) [
      | inl before ↦ walk.wished other g before (sym (format_other other (given_apart other (walk.given other before))) ∙ at)
      | inr same ↦ (
          let P : ℕ → Type 0 = λ n. IsWished tour.asked.wishes n g in
          let Q : Format → Type 0 = λ x. IsWished tour.asked.wishes link x in
          let here : f ≡ g = same_Some f g (sym format_same ∙ (ap (slice_get new.formats.items) same ∙ at)) in
          subst P same (subst Q here wished)
          )
    ];
    forced = λ other is formats fits at. elim (reached_cases other is) [
      | inl before ↦ walk.forced other before formats fits at ∙ sym (format_other other (given_apart other (walk.given other before)))
      | inr same ↦ (
          let P : ℕ → Type 0 = λ n. slice_get formats n ≡ slice_get new.formats.items n in
          subst P same (forced formats fits at ∙ sym format_same)
          )
    ];
  }

-- ---- the relations of a link

-- a relation is met, and its links are given their formats
pub record IsDone (d : Draft) (relation : Relation) : Type 0 where
  pub first : IsGiven d (first_of relation)
  pub second : IsGiven d (second_of relation)
  pub met : Meets relation d.formats.items

done_stays : (old new : Draft) (relation : Relation) → Extends old new → IsDone old relation → IsDone new relation
done_stays old new relation extends done = record {
  first = extends.given (first_of relation) done.first;
  second = extends.given (second_of relation) done.second;
  met = record {
    first = done.met.first;
    is_first = extends.formats (first_of relation) done.first ∙ done.met.is_first;
    second = done.met.second;
    is_second = extends.formats (second_of relation) done.second ∙ done.met.is_second;
    relates = done.met.relates;
  };
}

extends_on : (a b c : Draft) → Extends a b → Extends b c → Extends a c
extends_on a b c p q = record {
  given = λ link is. q.given link (p.given link is);
  formats = λ link is. q.formats link (p.given link is) ∙ p.formats link is;
  more = p.more ++ q.more;
  reached = q.reached ∙ (ap (λ (l : List ℕ). l ++ q.more) p.reached ∙ append_assoc a.reached.items p.more q.more);
}

extends_same : (a b : Draft) → b ≡ a → Extends a b
extends_same a b same = let P : Draft → Type 0 = λ d. Extends a d in subst P (sym same) (record {
  given = λ link is. is;
  formats = λ link is. refl;
  more = [];
  reached = sym (append-nil a.reached.items);
})

pub extends_reached : (a b : Draft) (link : ℕ) → Extends a b → Contains a.reached.items link → Contains b.reached.items link
extends_reached a b link p is = let P : List ℕ → Type 0 = λ l. Contains l link in subst P (sym p.reached) (Contains-append_left a.reached.items p.more link is)

-- during a pass through the relations of a link, those of the list that begins there are left
pub record Following (tour : Tour) (old : Draft) (ties : Ties) (link : ℕ) (f : Format) (next : Option ℕ) (now : Draft) : Type 0 where
  pub walk : IsWalk tour now
  pub extends : Extends old now
  pub reached : Contains now.reached.items link
  pub format : slice_get now.formats.items link ≡ Some f
  pub begins : (place : ℕ) → next ≡ Some place → place < length ties.ties.items
  pub ours : (place : ℕ) → IsListed ties.ties.items next place → IsListed ties.ties.items (head_of ties link) place
  pub left : (relation : Relation) → Contains tour.asked.relations relation → Names relation link
      → IsDone now relation ⊎ ((place : ℕ) × (tie : Tie) × IsListed ties.ties.items next place × (slice_get ties.ties.items place ≡ Some tie) × (tie.relation ≡ relation))

-- how far the places from here on go down
abbrev pub depth : Option ℕ → ℕ
depth None = 0
depth (Some place) = place + 1

done_here : (d : Draft) (relation : Relation) (link other : ℕ) (f g : Format) → IsAcross relation link f other g → IsGiven d link → IsGiven d other
    → slice_get d.formats.items link ≡ Some f → slice_get d.formats.items other ≡ Some g → IsDone d relation
done_here d relation link other f g (inl forth) here there at there_at = record {
  first = subst (λ (n : ℕ). IsGiven d n) (sym forth.0) here;
  second = subst (λ (n : ℕ). IsGiven d n) (sym forth.1) there;
  met = across_met relation link other f g d.formats.items (inl forth) at there_at;
}
done_here d relation link other f g (inr forth) here there at there_at = record {
  first = subst (λ (n : ℕ). IsGiven d n) (sym forth.1) there;
  second = subst (λ (n : ℕ). IsGiven d n) (sym forth.0) here;
  met = across_met relation link other f g d.formats.items (inr forth) at there_at;
}

pub given_within : (d : Draft) (link : ℕ) → IsGiven d link → link < length d.given.items
given_within d link is = elim (cases_lt link (length d.given.items)) [
  | inl low ↦ low
  | inr past ↦ absurd (let none = get_or_past d.given.items link false past in cc)
]

pub following_start : (tour : Tour) (old : Draft) (ties : Ties) (link : ℕ) (f : Format) (next : Option ℕ) → IsWalk tour old → AreTied tour.asked.links tour.asked.relations ties
    → Contains old.reached.items link → slice_get old.formats.items link ≡ Some f → next ≡ head_of ties link → Following tour old ties link f next old
following_start tour old ties link f next walk tied reached format begin = record {
  walk = walk;
  extends = extends_same old old refl;
  reached = reached;
  format = format;
  begins = λ place e. tied.begins link place (sym begin ∙ e);
  ours = λ place listed. (let P : Option ℕ → Type 0 = λ h. IsListed ties.ties.items h place in subst P begin listed);
  left = λ relation here names. (
      let P : Option ℕ → ℕ → Type 0 = λ h place. IsListed ties.ties.items h place in
      let tie = tied.listed link relation (here, names) in
      inr (tie.place, tie.tie, subst (λ (h : Option ℕ). P h tie.place) (sym begin) tie.listed, tie.is_tie, tie.is_relation)
      );
}

depth_less : (next : Option ℕ) (place : ℕ) → ((lower : ℕ) → next ≡ Some lower → lower < place) → depth next < place + 1
depth_less None place less = omega arith
depth_less (Some lower) place less = let below = less lower refl in omega arith

-- the relation at the place where the list begins
module _ (tour : Tour) (old : Draft) (demands : Demands) (link : ℕ) (f : Format) (next : Option ℕ) (place : ℕ) (now : Draft) (tie : Tie)
    (before : Following tour old demands.ties link f next now) (is : next ≡ Some place) (asks : AreDemands tour.asked demands)
    (read : tie ≡ get_or demands.ties.ties.items place tie) where
  following : Following tour old demands.ties link f (Some place) now
  following = subst (λ (n : Option ℕ). Following tour old demands.ties link f n now) is before

  at : slice_get demands.ties.ties.items place ≡ Some tie
  at = slice_get_read demands.ties.ties.items (length demands.ties.ties.items) place tie refl (following.begins place refl) read

  pub tie_less : depth tie.next < depth next
  tie_less = rw is (depth_less tie.next place (λ lower e. asks.ties.falls place lower tie at e))

  pub tie_known : Contains tour.asked.relations tie.relation × Names tie.relation link
  tie_known = asks.ties.only link tie.relation (record { place = place; listed = following.ours place (Here place); tie = tie; is_tie = at; is_relation = refl })

  link_joined : Joined tour.asked.relations tour.root link
  link_joined = following.walk.joined link following.reached

  -- a listing that fits the part with the format at its lowest link
  abbrev Fitting : List Format → Type 0
  Fitting formats = FitsPart tour.asked.links tour.asked.wishes tour.asked.relations tour.root formats × (slice_get formats tour.root ≡ Some tour.format)

  fitting_met : (formats : List Format) → Fitting formats → Meets tie.relation formats
  fitting_met formats fits = fits.0.met tie.relation tie_known.0 (joined_ends tour.asked.relations tie.relation tour.root link tie_known.0 tie_known.1 link_joined).0

  fitting_here : (formats : List Format) → Fitting formats → slice_get formats link ≡ Some f
  fitting_here formats fits = following.walk.forced link following.reached formats fits.0 fits.1 ∙ following.format

  pub apart_barren : IsApart tie.relation link f → IsBarren tour.asked tour.root tour.format
  apart_barren none formats fits at = none formats (fitting_met formats (fits, at)) (fitting_here formats (fits, at))

  module _ (other : ℕ) (g : Format) (across : IsAcross tie.relation link f other g) where
    pub other_low : other < tour.asked.links
    other_low = let low = asks.below tie.relation tie_known.0 in elim across [
      | inl forth ↦ (let same = forth.1 in let second = low.1 in omega arith)
      | inr forth ↦ (let same = forth.1 in let first = low.0 in omega arith)
    ]

    other_joined : Joined tour.asked.relations tour.root other
    other_joined = joined_across tour.asked.relations tie.relation tour.root link other f g tie_known.0 across link_joined

    fitting_other : (formats : List Format) → Fitting formats → slice_get formats other ≡ Some g
    fitting_other formats fits = across_forced tie.relation link other f g formats across (fitting_met formats fits) (fitting_here formats fits)

    pub refused_barren : (set : FormatSet) (new : Draft) → slice_get demands.sets.items other ≡ Some set → Gave now new set other g false → IsBarren tour.asked tour.root tour.format
    refused_barren set new is gave formats fits start = elim gave.1 [
      | inl taken ↦ elim (following.walk.origin other taken.0) [
        | inl before ↦ following.walk.apart other other_joined before
        | inr reached ↦ taken.1 (sym (following.walk.forced other reached formats fits start) ∙ fitting_other formats (fits, start))
      ]
      | inr refused ↦ refused.1 ((asks.sets.exact other set g is).1 (fits.wished other g other_joined (fitting_other formats (fits, start))))
    ]

    given_more : (set : FormatSet) (new : Draft) → slice_get demands.sets.items other ≡ Some set → Gave now new set other g true → IsWalk tour new × Extends now new × IsDone new tie.relation
    given_more set new is (inl had) =
        let done = done_here now tie.relation link other f g across (following.walk.given link following.reached) had.1 following.format had.2 in
        (subst (λ (d : Draft). IsWalk tour d) (sym had.0) following.walk, extends_same now new had.0, subst (λ (d : Draft). IsDone d tie.relation) (sym had.0) done)
    given_more set new is (inr more) =
        let low : other < length now.formats.items = (let low = other_low in let each = following.walk.each_format in omega arith) in
        let mark : other < length now.given.items = (let low = other_low in let each = following.walk.each_mark in omega arith) in
        let walk = walk_more now new other g low mark more.1 tour following.walk other_joined ((asks.sets.exact other set g is).0 more.0) (λ formats fits start. fitting_other formats (fits, start)) in
        let extends = more_extends now new other g low mark more.1 in
        let given = following.walk.given link following.reached in
        let here = extends.formats link given ∙ following.format in
        (walk, extends, done_here new tie.relation link other f g across (extends.given link given) (given_here now new other g low mark more.1) here (format_same now new other g low mark more.1))

    pub follow_more : (set : FormatSet) (new : Draft) → slice_get demands.sets.items other ≡ Some set → Gave now new set other g true → Following tour old demands.ties link f tie.next new
    follow_more set new is gave =
        let more = given_more set new is gave in record {
          walk = more.0;
          extends = extends_on old now new following.extends more.1;
          reached = extends_reached now new link more.1 following.reached;
          format = more.1.formats link (following.walk.given link following.reached) ∙ following.format;
          begins = λ lower e. (let less = asks.ties.falls place lower tie at e in let within = following.begins place refl in omega arith);
          ours = λ found listed. following.ours found (After place found tie at listed);
          left = λ relation here names. elim (following.left relation here names) [
            | inl done ↦ inl (done_stays now new relation more.1 done)
            | inr rest ↦ (
                let cases = listed_cases demands.ties.ties.items (Some place) rest.0 rest.2 in
                let begin : place ≡ cases.0 = same_Some place cases.0 cases.1 in
                elim cases.2 [
                  | inl first ↦ (
                      let same : rest.1 ≡ tie = same_Some rest.1 tie (sym rest.3 ∙ (ap (slice_get demands.ties.ties.items) (first ∙ sym begin) ∙ at)) in
                      inl (subst (λ (r : Relation). IsDone new r) (ap (λ (t : Tie). t.relation) (sym same) ∙ rest.4) more.2)
                      )
                  | inr lower ↦ (
                      let same : lower.0 ≡ tie = same_Some lower.0 tie (sym lower.1 ∙ (ap (slice_get demands.ties.ties.items) (sym begin) ∙ at)) in
                      inr (rest.0, rest.1, subst (λ (t : Tie). IsListed demands.ties.ties.items t.next rest.0) same lower.2, rest.3, rest.4)
                      )
                ]
                )
          ];
        }

-- no relation of the link is left
pub all_followed : (tour : Tour) (old : Draft) (ties : Ties) (link : ℕ) (f : Format) (now : Draft) → Following tour old ties link f None now → IsFollowed tour.asked.relations now link
all_followed tour old ties link f now following = record {
  firsts = λ relation here names. (done relation here names).first;
  seconds = λ relation here names. (done relation here names).second;
  met = λ relation here names. (done relation here names).met;
} where
  done : (relation : Relation) → Contains tour.asked.relations relation → Names relation link → IsDone now relation
  done relation here names = elim (following.left relation here names) [
    | inl is ↦ is
    | inr rest ↦ absurd (let cases = listed_cases ties.ties.items None rest.0 rest.2 in none-some cases.0 cases.1)
  ]

pub link_low : (tour : Tour) (d : Draft) (link : ℕ) → IsWalk tour d → Contains d.reached.items link → link < tour.asked.links
link_low tour d link walk is = let low = given_within d link (walk.given link is) in let each = walk.each_mark in omega arith

pub set_at : (asked : Asked) (demands : Demands) (link : ℕ) (set : FormatSet) → AreDemands asked demands → link < asked.links
    → set ≡ get_or demands.sets.items link set → slice_get demands.sets.items link ≡ Some set
set_at asked demands link set asks low e = slice_get_read demands.sets.items (length demands.sets.items) link set refl (let each = asks.sets.each in omega arith) e

-- ---- what was given is taken back

pub unmarked_none : (marks : List Bool) → AreUnmarked [] marks marks
unmarked_none marks = record { bare = λ link here. absurd (none_contained link here); less = λ link is. is; stays = λ link other is. is }

unmarked_same : (marks : List Bool) (link : ℕ) → get_or (set marks link false) link false ≡ true → ⊥
unmarked_same marks link is = elim (cases_lt link (length marks)) [
  | inl low ↦ (let no = get_or-set_same marks link false false low in cc)
  | inr past ↦ (let no = get_or_past (set marks link false) link false (let same = length-set marks link false in omega arith) in cc)
]

pub unmarked_more : (links : List ℕ) (link : ℕ) (old now : List Bool) → AreUnmarked links old now → AreUnmarked (links ++ link ∷ []) old (set now link false)
unmarked_more links link old now is = record {
  bare = λ other here marked. elim (cases_eq other link) [
    | inl same ↦ none_at other same marked
    | inr apart ↦ elim (Contains-push_cases links link other here) [
      | inl before ↦ is.bare other before (before_set other apart marked)
      | inr this ↦ apart (sym this)
    ]
  ];
  less = λ other marked. elim (cases_eq other link) [
    | inl same ↦ absurd (none_at other same marked)
    | inr apart ↦ is.less other (before_set other apart marked)
  ];
  stays = λ other not_here marked. elim (cases_eq other link) [
    | inl same ↦ absurd (not_here (subst (λ (n : ℕ). Contains (links ++ link ∷ []) n) (sym same) (Contains-push links link)))
    | inr apart ↦ get_or-set_other now link other false false apart ∙ is.stays other (λ here. not_here (Contains-append_left links (link ∷ []) other here)) marked
  ];
} where
  none_at : (other : ℕ) → other ≡ link → get_or (set now link false) other false ≡ true → ⊥
  none_at other same marked = unmarked_same now link (subst (λ (n : ℕ). get_or (set now link false) n false ≡ true) same marked)

  before_set : (other : ℕ) → (other ≡ link → ⊥) → get_or (set now link false) other false ≡ true → get_or now other false ≡ true
  before_set other apart marked = sym (get_or-set_other now link other false false apart) ∙ marked

pub forgotten : (tour : Tour) (old new : Draft) → IsWalk tour old → length tour.start.formats.items ≡ tour.asked.links → length tour.start.given.items ≡ tour.asked.links
    → new.formats.items ≡ old.formats.items → length new.given.items ≡ length old.given.items → AreUnmarked old.reached.items old.given.items new.given.items → IsRestored tour.start new
forgotten tour old new walk formats marks same each is = record {
  each_format = ap length same ∙ (walk.each_format ∙ sym formats);
  each_mark = each ∙ (walk.each_mark ∙ sym marks);
  given = λ link. (
    λ marked. elim (walk.origin link (is.less link marked)) [ inl start ↦ start | inr reached ↦ absurd (is.bare link reached marked) ],
    λ start. is.stays link (λ reached. walk.apart link (walk.joined link reached) start) (walk.started link start),
  );
  formats = λ link start. ap (λ (l : List Format). slice_get l link) same ∙ walk.kept link start;
}
