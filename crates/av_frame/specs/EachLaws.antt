-- The laws of an `Each`.
use Rattle.std.specs.Prelude.{◌≡◌, ℕ, ◌<◌, ◌&&◌, not, Bool, true, false, List, [], map, refl}
use Rattle.std.proofs.Common.{◌∙◌, ap, arith, inl}
use Rattle.std.proofs.lemmas.List.{map-append}
use Rattle.av_frame.specs.Frames.{FrameValue}
use Rattle.av_frame.specs.Streams.{Stream, Begins, ended_stream}
use Rattle.av_frame.specs.FilterLaws.{FilterLaws, one_to}
use Rattle.av_frame.specs.Rules.{is_empty, RuleLaws, held, each_stream, each_rule, each_rest, queue, EachValue}
use Rattle.av_frame.specs.StreamLemmas.{none_is}
use Rattle.av_frame.specs.HeldLaws.{held_laws}

each_begins : (f : FrameValue → FrameValue) (s t : Stream) → Begins s t → Begins (each_stream f s) (each_stream f t)
each_begins f s t b = record {
  front = record { rest = map f b.front.rest; whole = ap (map f) b.front.whole ∙ map-append f s.frames b.front.rest };
  same = λ e. ap (each_stream f) (b.same e);
}

pub each_rule_laws : (n : ℕ) (made : ℕ → FrameValue → FrameValue) → RuleLaws (one_to n) (each_rule made)
each_rule_laws n made = record {
  begins = λ s t p q b o h. each_begins (made o) (s 0) (t 0) (b 0 (omega arith));
  ends = λ s e o h. e 0 (omega arith);
}

and_first : (a b : Bool) → (a && b) ≡ true → a ≡ true
and_first true b e = refl
and_first false b e = e

and_second : (a b : Bool) → (a && b) ≡ true → b ≡ true
and_second true b e = e
and_second false b e = absurd (cc)

not_and : (a b : Bool) → (not a && b) ≡ true → a ≡ false
not_and true b e = cc
not_and false b e = refl

nothing_left : (f : FrameValue → FrameValue) (xs : List FrameValue) (d : Bool) (s : Stream) → d ≡ true → xs ≡ [] → each_stream f (held xs d s) ≡ ended_stream []
nothing_left f xs d s e p = rw (e, p) refl

pub each_laws : {P : Type 0} (n : ℕ) (made : ℕ → FrameValue → FrameValue) (e : EachValue P) → 0 < n
    → FilterLaws (one_to n) (each_rest made e) (λ i. e.finished) (λ i. not e.finished && is_empty e.offered) (λ o. e.finished && (is_empty e.offered && is_empty (queue e.waiting o)))
each_laws n made e h = held_laws (one_to n) (each_rule made) (λ _. e.offered) (λ _. e.finished) (queue e.waiting) _ _ _ (each_rule_laws n made) (record {
  closed_is = λ i k c. inl c;
  wanted_open = λ i k w. not_and e.finished (is_empty e.offered) w;
  over_waits = λ o k d. none_is (queue e.waiting o) (and_second (is_empty e.offered) _ (and_second e.finished _ d));
  over_is = λ o k d ins. nothing_left (made o) e.offered e.finished (ins 0) (and_first e.finished _ d) (none_is e.offered (and_first (is_empty e.offered) _ (and_second e.finished _ d)));
  all_closed = λ d i k. and_first e.finished _ (d 0 h);
})
