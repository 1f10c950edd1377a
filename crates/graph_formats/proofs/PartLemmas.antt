-- Whole parts.
use Rattle.std.proofs.Common.{◌≡◌, ◌<◌, ◌≤◌, ◌+◌, ◌-◌, ◌↔◌, ℕ, List, [], Bool, true, false, not, Some, length, get_or, refl, sym, ◌∙◌, ap, subst, arith, inl, inr}
use Rattle.std.specs.List.{slice_get, Contains, count_by}
use Rattle.std.proofs.lemmas.Bool.{cases_eq, cases_lt}
use Rattle.std.proofs.lemmas.Option.{same_Some, slice_get_within}
use Rattle.av_base.specs.declared.formats.Format.{Format}
use Rattle.av_base.specs.declared.sets.FormatSet.{FormatSet}
use Rattle.av_base.specs.FormatSets.{Precedes, place_of}
use Rattle.av_base.specs.declared.sets.TheConstants.{FORMATS}
use Rattle.av_base.proofs.FormatSetLemmas.{same_place, place_at}
use Rattle.graph_formats.specs.declared.request.Relation.{Relation}
use Rattle.graph_formats.specs.declared.draft.Draft.{Draft}
use Rattle.graph_formats.specs.Assignments.{first_of, second_of, Meets, Joined, Itself, Named, Back, Through, FitsPart, HasEarlier}
use Rattle.graph_formats.specs.declared.demands.Demands.{Demands}
use Rattle.graph_formats.specs.Demands.{AreNarrowed, AreDemands, Asked}
use Rattle.graph_formats.specs.Walks.{IsGiven, Gave, IsSettled, IsBarren, Tour, Begins, IsWalk, IsFollowed, Extends, IsWalked, IsRestored}
use Rattle.av_base.proofs.Lists.{place_of as place_in, none_contained, append_get_left, get_within}
use Rattle.graph_formats.proofs.LawLemmas.{fits_joined, precedes_other}
use Rattle.graph_formats.proofs.WalkLemmas.{walk_more, format_same, reached_here, extends_reached, set_at}

-- ---- parts are given their formats as a whole

pub closed_joined : (asked : Asked) (d : Draft) → IsSettled asked d → (a b : ℕ) → Joined asked.relations a b → IsGiven d a ↔ IsGiven d b
closed_joined asked d settled _ _ (Itself a) = (λ is. is, λ is. is)
closed_joined asked d settled _ _ (Named relation here) = settled.closed relation here
closed_joined asked d settled _ _ (Back a b joined) = let both = closed_joined asked d settled a b joined in (both.1, both.0)
closed_joined asked d settled _ _ (Through a b c one two) =
    let first = closed_joined asked d settled a b one in
    let second = closed_joined asked d settled b c two in
    (λ is. second.0 (first.0 is), λ is. first.1 (second.1 is))

-- ---- the walk begins

walk_start : (tour : Tour) (d : Draft) → IsSettled tour.asked tour.start → ¬ IsGiven tour.start tour.root → d.formats.items ≡ tour.start.formats.items → d.given.items ≡ tour.start.given.items → d.reached.items ≡ [] → IsWalk tour d
walk_start tour d settled bare formats given reached = record {
  each_format = ap length formats ∙ settled.each_format;
  each_mark = ap length given ∙ settled.each_mark;
  apart = λ link joined is. bare ((closed_joined tour.asked tour.start settled tour.root link joined).1 is);
  balance = (
      let none : length d.reached.items ≡ 0 = ap length reached in
      let same : count_by not d.given.items ≡ count_by not tour.start.given.items = ap (λ (l : List Bool). count_by not l) given in
      omega arith
      );
  kept = λ link is. ap (λ (l : List Format). slice_get l link) formats;
  started = λ link is. ap (λ (l : List Bool). get_or l link false) given ∙ is;
  origin = λ link is. inl (ap (λ (l : List Bool). get_or l link false) (sym given) ∙ is);
  given = λ link here. absurd (nothing link here);
  joined = λ link here. absurd (nothing link here);
  wished = λ link f here at. absurd (nothing link here);
  forced = λ link here. absurd (nothing link here);
} where
  nothing : (link : ℕ) → Contains d.reached.items link → ⊥
  nothing link here = let P : List ℕ → Type 0 = λ l. Contains l link in none_contained link (subst P reached here)

-- during the walk, the relations of the first links that it came to are met
pub record Walking (tour : Tour) (d : Draft) (count : ℕ) : Type 0 where
  pub walk : IsWalk tour d
  pub root : Contains d.reached.items tour.root
  pub format : slice_get d.formats.items tour.root ≡ Some tour.format
  pub followed : (place link : ℕ) → place < count → slice_get d.reached.items place ≡ Some link → IsFollowed tour.asked.relations d link

-- the lowest link is given its format, or can't have it
module _ (tour : Tour) (old new : Draft) (set : FormatSet) (sets : List FormatSet) (walk : IsWalk tour old) (bare : ¬ IsGiven old tour.root) (low : tour.root < tour.asked.links)
    (narrowed : AreNarrowed tour.asked.links tour.asked.wishes sets) (is : slice_get sets tour.root ≡ Some set) where
  root_given : Gave old new set tour.root tour.format true → Walking tour new 0
  root_given (inl had) = absurd (bare had.1)
  root_given (inr more) = record {
    walk = walk_more old new tour.root tour.format format mark more.1 tour walk (Itself tour.root) ((narrowed.exact tour.root set tour.format is).0 more.0) (λ formats fits at. at);
    root = reached_here old new tour.root tour.format format mark more.1;
    format = format_same old new tour.root tour.format format mark more.1;
    followed = λ place link none. absurd (omega arith);
  } where
    format : tour.root < length old.formats.items
    format = let each = walk.each_format in omega arith

    mark : tour.root < length old.given.items
    mark = let each = walk.each_mark in omega arith

  root_refused : Gave old new set tour.root tour.format false → IsWalk tour new × IsBarren tour.asked tour.root tour.format
  root_refused gave = (
    subst (λ (d : Draft). IsWalk tour d) (sym gave.0) walk,
    λ formats fits at. elim gave.1 [
      | inl taken ↦ bare taken.0
      | inr refused ↦ refused.1 ((narrowed.exact tour.root set tour.format is).1 (fits.wished tour.root tour.format (Itself tour.root) at))
    ],
  )

-- ---- the walk goes on

followed_stays : (asked : Asked) (old new : Draft) (link : ℕ) → Extends old new → IsFollowed asked.relations old link → IsFollowed asked.relations new link
followed_stays asked old new link extends is = record {
  firsts = λ relation here names. extends.given (first_of relation) (is.firsts relation here names);
  seconds = λ relation here names. extends.given (second_of relation) (is.seconds relation here names);
  met = λ relation here names. (let met = is.met relation here names in record {
    first = met.first;
    is_first = extends.formats (first_of relation) (is.firsts relation here names) ∙ met.is_first;
    second = met.second;
    is_second = extends.formats (second_of relation) (is.seconds relation here names) ∙ met.is_second;
    relates = met.relates;
  });
}

pub walking_more : (tour : Tour) (old new : Draft) (count link : ℕ) → Walking tour old count → slice_get old.reached.items count ≡ Some link → IsWalk tour new → Extends old new
    → IsFollowed tour.asked.relations new link → Walking tour new (count + 1)
walking_more tour old new count link walking at walk extends followed = record {
  walk = walk;
  root = extends_reached old new tour.root extends walking.root;
  format = extends.formats tour.root (walking.walk.given tour.root walking.root) ∙ walking.format;
  followed = λ place other less is. elim (cases_eq place count) [
    | inl same ↦ (
        let here : other ≡ link = same_Some other link (sym is ∙ (ap (slice_get new.reached.items) same ∙ still count link at)) in
        subst (λ (n : ℕ). IsFollowed tour.asked.relations new n) (sym here) followed
        )
    | inr apart ↦ (
        let within : place < length old.reached.items = (let end = slice_get_within old.reached.items count link at in omega arith) in
        let there = place_at place within in
        let here : other ≡ there.0 = same_Some other there.0 (sym is ∙ still place there.0 there.1) in
        followed_stays tour.asked old new other extends (walking.followed place other (omega arith) (there.1 ∙ ap (λ (n : ℕ). Some n) (sym here)))
        )
  ];
} where
  still : (place other : ℕ) → slice_get old.reached.items place ≡ Some other → slice_get new.reached.items place ≡ Some other
  still place other is = ap (λ (l : List ℕ). slice_get l place) extends.reached ∙ append_get_left old.reached.items extends.more place other is

  place_at : (place : ℕ) → place < length old.reached.items → (other : ℕ) × (slice_get old.reached.items place ≡ Some other)
  place_at place within = get_within old.reached.items place within

pub walking_less : (tour : Tour) (old new : Draft) (count : ℕ) → IsWalk tour old → IsWalk tour new → count < length old.reached.items
    → (length new.reached.items + count_by not new.given.items) - (count + 1) < (length old.reached.items + count_by not old.given.items) - count
walking_less tour old new count before after less = let one = before.balance in let two = after.balance in omega arith

pub walking_all : (tour : Tour) (d : Draft) (count : ℕ) → Walking tour d count → length d.reached.items ≤ count → IsWalked tour d
walking_all tour d count walking all = record {
  root = walking.root;
  format = walking.format;
  followed = λ link here. (let at = place_in d.reached.items link here in walking.followed at.0 link (let within = at.1 in omega arith) at.2);
}

-- ---- what the walk's arguments are

-- the walk begins in a draft whose list of links was emptied
module _ (tour : Tour) (root : ℕ) (format : Format) (start cleared new : Draft) (demands : Demands) (set : FormatSet) (begins : Begins tour root format start) (settled : IsSettled tour.asked tour.start)
    (asks : AreDemands tour.asked demands) (low : tour.root < tour.asked.links) (bare : ¬ IsGiven tour.start tour.root) (formats : cleared.formats.items ≡ start.formats.items)
    (given : cleared.given.items ≡ start.given.items) (reached : cleared.reached.items ≡ []) (read : set ≡ get_or demands.sets.items root set) where
  walk : IsWalk tour cleared
  walk = walk_start tour cleared settled bare (formats ∙ ap (λ (x : Draft). x.formats.items) (sym begins.2)) (given ∙ ap (λ (x : Draft). x.given.items) (sym begins.2)) reached

  bare_here : ¬ IsGiven cleared tour.root
  bare_here is = bare (ap (λ (l : List Bool). get_or l tour.root false) (ap (λ (x : Draft). x.given.items) begins.2 ∙ sym given) ∙ is)

  at : slice_get demands.sets.items tour.root ≡ Some set
  at = ap (slice_get demands.sets.items) begins.0 ∙ set_at tour.asked demands root set asks (let same = begins.0 in omega arith) read

  gave_tour : (can : Bool) → Gave cleared new set root format can → Gave cleared new set tour.root tour.format can
  gave_tour can gave =
      let P : ℕ → Type 0 = λ n. Gave cleared new set n format can in
      let Q : Format → Type 0 = λ f. Gave cleared new set tour.root f can in
      subst Q (sym begins.1) (subst P (sym begins.0) gave)

  pub begun : Gave cleared new set root format true → Walking tour new 0
  begun gave = root_given tour cleared new set demands.sets.items walk bare_here low asks.sets at (gave_tour true gave)

  pub not_begun : Gave cleared new set root format false → IsWalk tour new × IsBarren tour.asked tour.root tour.format
  not_begun gave = root_refused tour cleared new set demands.sets.items walk bare_here low asks.sets at (gave_tour false gave)

-- ---- a part that was walked through

pub settled_fits : (asked : Asked) (d : Draft) → IsSettled asked d → (link : ℕ) → IsGiven d link → FitsPart asked.links asked.wishes asked.relations link d.formats.items
settled_fits asked d settled link is = record {
  each = settled.each_format;
  wished = λ other f joined at. settled.wished other f ((closed_joined asked d settled link other joined).0 is) at;
  met = λ relation here joined. settled.met relation here ((closed_joined asked d settled link (first_of relation) joined).0 is);
}

-- all of a part that was walked through is given its formats
module _ (tour : Tour) (d : Draft) (settled : IsSettled tour.asked tour.start) (walk : IsWalk tour d) (walked : IsWalked tour d) where
  abbrev relations : List Relation
  relations = tour.asked.relations

  -- the links of a relation are given their formats together
  closed : (relation : Relation) → Contains relations relation → IsGiven d (first_of relation) ↔ IsGiven d (second_of relation)
  closed relation here = (
    λ is. elim (walk.origin (first_of relation) is) [
      | inl start ↦ walk.started (second_of relation) ((settled.closed relation here).0 start)
      | inr reached ↦ (walked.followed (first_of relation) reached).seconds relation here (inl refl)
    ],
    λ is. elim (walk.origin (second_of relation) is) [
      | inl start ↦ walk.started (first_of relation) ((settled.closed relation here).1 start)
      | inr reached ↦ (walked.followed (second_of relation) reached).firsts relation here (inr refl)
    ],
  )

  met : (relation : Relation) → Contains relations relation → IsGiven d (first_of relation) → Meets relation d.formats.items
  met relation here is = elim (walk.origin (first_of relation) is) [
    | inl start ↦ (
        let before = settled.met relation here start in record {
          first = before.first;
          is_first = walk.kept (first_of relation) start ∙ before.is_first;
          second = before.second;
          is_second = walk.kept (second_of relation) ((settled.closed relation here).0 start) ∙ before.is_second;
          relates = before.relates;
        }
        )
    | inr reached ↦ (walked.followed (first_of relation) reached).met relation here (inl refl)
  ]

  -- the lowest link has no earlier format, and the others follow from it
  earliest : ((link : ℕ) → link < tour.root → IsGiven tour.start link) → ((f : Format) → Precedes f tour.format → IsBarren tour.asked tour.root f)
      → (link : ℕ) → IsGiven d link → HasEarlier tour.asked.links tour.asked.wishes relations d.formats.items link → ⊥
  earliest lower earlier link is has = elim (walk.origin link is) [
    | inl start ↦ settled.earliest link start (record {
      other = has.other;
      fits = has.fits;
      agrees = λ before less joined. has.agrees before less joined ∙ walk.kept before ((closed_joined tour.asked tour.start settled link before joined).0 start);
      here = has.here;
      is_here = sym (walk.kept link start) ∙ has.is_here;
      earlier = has.earlier;
      is_earlier = has.is_earlier;
      precedes = has.precedes;
    })
    | inr reached ↦ (
        let joined = walk.joined link reached in
        let fits = fits_joined tour.asked.links tour.asked.wishes relations link tour.root has.other (Back tour.root link joined) has.fits in
        elim (cases_lt tour.root link) [
          | inl after ↦ (
              let root_format = has.agrees tour.root after (Back tour.root link joined) ∙ walked.format in
              let same = walk.forced link reached has.other fits root_format in
              precedes_other has.earlier has.here has.precedes (same_Some has.earlier has.here (sym has.is_earlier ∙ (same ∙ has.is_here)))
              )
          | inr not_after ↦ elim (cases_lt link tour.root) [
            | inl before ↦ walk.apart link joined (lower link before)
            | inr not_before ↦ (
                let same : link ≡ tour.root = omega arith in
                let here : has.here ≡ tour.format = same_Some has.here tour.format (sym has.is_here ∙ (ap (slice_get d.formats.items) same ∙ walked.format)) in
                let less : Precedes has.earlier tour.format = subst (λ (f : Format). Precedes has.earlier f) here has.precedes in
                earlier has.earlier less has.other fits (ap (slice_get has.other) (sym same) ∙ has.is_earlier)
                )
          ]
        ]
        )
  ]

  pub settled_more : ((link : ℕ) → link < tour.root → IsGiven tour.start link) → ((f : Format) → Precedes f tour.format → IsBarren tour.asked tour.root f) → IsSettled tour.asked d
  settled_more lower earlier = record {
    each_format = walk.each_format;
    each_mark = walk.each_mark;
    closed = closed;
    met = met;
    wished = λ link f is at. elim (walk.origin link is) [
      | inl start ↦ settled.wished link f start (sym (walk.kept link start) ∙ at)
      | inr reached ↦ walk.wished link f reached at
    ];
    earliest = earliest lower earlier;
  }

-- what was settled stays so if the rest is taken back
pub settled_again : (asked : Asked) (old new : Draft) → IsSettled asked old → IsRestored old new → IsSettled asked new
settled_again asked old new settled same = record {
  each_format = same.each_format ∙ settled.each_format;
  each_mark = same.each_mark ∙ settled.each_mark;
  closed = λ relation here. (
    λ is. (same.given (second_of relation)).1 ((settled.closed relation here).0 ((same.given (first_of relation)).0 is)),
    λ is. (same.given (first_of relation)).1 ((settled.closed relation here).1 ((same.given (second_of relation)).0 is)),
  );
  met = λ relation here is. (
      let first = (same.given (first_of relation)).0 is in
      let before = settled.met relation here first in record {
        first = before.first;
        is_first = same.formats (first_of relation) first ∙ before.is_first;
        second = before.second;
        is_second = same.formats (second_of relation) ((settled.closed relation here).0 first) ∙ before.is_second;
        relates = before.relates;
      }
      );
  wished = λ link f is at. (let before = (same.given link).0 is in settled.wished link f before (sym (same.formats link before) ∙ at));
  earliest = λ link is has. (
      let before = (same.given link).0 is in
      settled.earliest link before (record {
        other = has.other;
        fits = has.fits;
        agrees = λ lower less joined. has.agrees lower less joined ∙ same.formats lower ((closed_joined asked old settled link lower joined).0 before);
        here = has.here;
        is_here = sym (same.formats link before) ∙ has.is_here;
        earlier = has.earlier;
        is_earlier = has.is_earlier;
        precedes = has.precedes;
      })
      );
}

-- ---- one format after another

-- the first formats don't fit
pub record Settling (asked : Asked) (root : ℕ) (start now : Draft) (count : ℕ) : Type 0 where
  pub settled : IsSettled asked now
  pub stays : (link : ℕ) → IsGiven start link → IsGiven now link
  pub bare : ¬ IsGiven now root
  pub failed : (f : Format) → place_of f < count → IsBarren asked root f

pub settling_more : (asked : Asked) (root : ℕ) (start now new : Draft) (count : ℕ) (d : Format) → count < 10 → Settling asked root start now count → IsSettled asked new
    → ((link : ℕ) → IsGiven now link → IsGiven new link) → ¬ IsGiven new root → IsBarren asked root (get_or FORMATS count d) → Settling asked root start new (count + 1)
settling_more asked root start now new count d low is settled stays bare fails = record {
  settled = settled;
  stays = λ link here. stays link (is.stays link here);
  bare = bare;
  failed = λ f less. elim (cases_eq (place_of f) count) [
    | inl same ↦ subst (λ (g : Format). IsBarren asked root g) (sym (same_place f (get_or FORMATS count d) (same ∙ sym (place_at count d low)))) fails
    | inr apart ↦ is.failed f (omega arith)
  ];
}
