-- What the calls at the two ends of a link do to the counted moves.
use Rattle.link_ports.proofs.ReceiverLemmas.{moves_filled}
use Rattle.link_ports.proofs.SenderLemmas.{moves_read, moves_passed}
use Rattle.std.proofs.Math.Seq.{take-length}
use Rattle.std.proofs.Common.{◌≡◌, ℕ, zero, suc, ◌+◌, ◌≤◌, ◌<◌, ◌==◌, ◌||◌, ◌&&◌, not, Bool, true, false, List, [], ◌∷◌, ◌++◌, length, take, drop, refl, sym, ◌∙◌, ap, subst, append_assoc, append-nil, arith, length-append, ◌⊎◌, inl, inr, Some, None}
use Rattle.link_ports.specs.Links.{AreBeside, on_the_way}
use Rattle.link_ports.specs.Parcels.{items_of, has_end, has_close, has_want, notes_of, one_if}
use Rattle.link_ports.specs.Ends.{Link, Sender, Receiver, LooksOut, LooksIn, Flushes, Fills, PassesOn, sent, received, is_closed, is_closing, waiting_parcels, waiting_notes, moves_in, moves_out, after_reading, after_passing, sender_with, receiver_with}
use Rattle.link_ports.proofs.NoteLemmas.{closing_passed}
use Rattle.link_ports.proofs.ParcelLemmas.{items_of_append, items_of_parcels, has_close_append}
use Rattle.link_ports.specs.declared.parcel.Note.{Note}
use Rattle.std.proofs.lemmas.List.{take-append-drop}
use Rattle.link_ports.specs.Moves.{sender_moves, receiver_moves, KeepsIn, KeepsOut, TakesOne, Took, Notes, Sends, LooksAt, SameAt, sender_core, receiver_core, FlushDone, FillDone, Drops, PortsCountMoves}

or_true : (a : Bool) → (a || true) ≡ true
or_true true = refl
or_true false = refl

one_le : (a : Bool) → one_if a ≤ 1
one_le true = omega arith
one_le false = omega arith

one_or : (a b : Bool) → one_if a ≤ one_if (a || b)
one_or true b = omega arith
one_or false b = omega arith

or_left : (a b : Bool) → a ≡ true → (a || b) ≡ true
or_left true b e = refl
or_left false b e = cc

-- a want goes away only with an item
asked_after : (a : Bool) (n : ℕ) → one_if a ≤ one_if (a && (n == 0)) + n
asked_after true n = at n (n == 0) refl
  where
    at : (n : ℕ) (b : Bool) → (n == 0) ≡ b → one_if true ≤ one_if (true && (n == 0)) + n
    at n true e = let f : one_if (n == 0) ≡ 1 = ap one_if e in omega (arith, f)
    at n false e = let f : one_if (n == 0) ≡ 0 = ap one_if e in let m : 0 < n = grind arith in omega (arith, f, m)
asked_after false n = omega arith

module _ {T : Type 0} where
  received_filled : (a b : Receiver T) → (f : Fills a b) → received b ≡ received a ++ items_of f.in_ring
  received_filled a b f = ap (λ (r : Receiver T). received r) f.becomes ∙ sym (append_assoc a.taken a.queued (items_of f.in_ring))

  fill_closing : (a b : Receiver T) → Fills a b → is_closing b ≡ is_closing a
  fill_closing a b f =
      sym (closing_passed f.free a.notes_passed b.notes_passed a.want_waits a.close_waits b.close_waits (is_closing a) refl
      (ap (λ (r : Receiver T). r.notes_passed) f.becomes) (ap (λ (r : Receiver T). r.close_waits) f.becomes))

  -- each move of a fill is counted
  pub fill_rises : (a b : Receiver T) → Fills a b → moves_in b + receiver_moves a ≤ moves_in a + receiver_moves b
  unfolding receiver_moves
  fill_rises a b f =
      let k = items_of f.in_ring in
      let t : b.taken ≡ a.taken = ap (λ (r : Receiver T). r.taken) f.becomes in
      let asked : b.asked ≡ (a.asked && (length k == 0)) = ap (λ (r : Receiver T). r.asked) f.becomes in
      omega (arith, ap length t, ap length (received_filled a b f), length-append (received a) k, ap one_if (fill_closing a b f), ap one_if asked, asked_after a.asked (length k))

  pub fills_grow : (a b : Receiver T) → Fills a b → moves_in a ≤ moves_in b
  fills_grow a b f =
      let k = items_of f.in_ring in
      let e : b.end_received ≡ (a.end_received || has_end f.in_ring) = ap (λ (r : Receiver T). r.end_received) f.becomes in
      let n : b.notes_passed ≡ a.notes_passed ++ take f.free (waiting_notes a) = ap (λ (r : Receiver T). r.notes_passed) f.becomes in
      omega (arith, ap length (received_filled a b f), length-append (received a) k, ap one_if e, one_or a.end_received (has_end f.in_ring), ap length n, length-append a.notes_passed (take f.free (waiting_notes a)))

  pub keeps_fill : (a b : Receiver T) → Fills a b → KeepsIn a b
  keeps_fill a b f = record {
    link = ap (λ (r : Receiver T). r.link) f.becomes;
    taken = ap (λ (r : Receiver T). r.taken) f.becomes;
    closing = fill_closing a b f;
    after_end = λ e. (
      ap (λ (r : Receiver T). r.end_received) f.becomes ∙ or_left a.end_received (has_end f.in_ring) e,
      ap (λ (r : Receiver T). r.queued) f.becomes ∙ ap (λ r. a.queued ++ items_of r) (f.end_last e) ∙ append-nil a.queued,
    );
    grows = omega (arith, fill_rises a b f, fills_grow a b f);
  }

  pub rises_fill : (a b : Receiver T) → Fills a b → moves_in a < moves_in b → receiver_moves a < receiver_moves b
  rises_fill a b f l = omega (arith, fill_rises a b f, l)

  pub moves_looked_in : (a b : Receiver T) → LooksIn a b → receiver_moves b ≡ receiver_moves a
  unfolding receiver_moves
  moves_looked_in a b l = ap (λ (r : Receiver T). receiver_moves r) l.same

  pub keeps_look_in : (a b : Receiver T) → LooksIn a b → KeepsIn a b
  keeps_look_in a b l = record {
    link = ap (λ (r : Receiver T). r.link) l.same;
    taken = ap (λ (r : Receiver T). r.taken) l.same;
    closing = ap (λ (r : Receiver T). is_closing r) l.same;
    after_end = λ e. (ap (λ (r : Receiver T). r.end_received) l.same ∙ e, ap (λ (r : Receiver T). r.queued) l.same);
    grows = omega (arith, moves_looked_in a b l);
  }

  -- the notes that are passed on, by the parts of the receiver
  pub record PassesParts (a b : Receiver T) : Type 0 where
    pub link : b.link ≡ a.link
    pub taken : b.taken ≡ a.taken
    pub queued : b.queued ≡ a.queued
    pub end_received : b.end_received ≡ a.end_received
    pub asked : b.asked ≡ a.asked
    pub closing : is_closing b ≡ is_closing a
    pub passed : length a.notes_passed ≤ length b.notes_passed

  pub passes_parts : (a b : Receiver T) → PassesOn a b → PassesParts a b
  passes_parts a b p = record {
    link = ap (λ (r : Receiver T). r.link) p.becomes;
    taken = ap (λ (r : Receiver T). r.taken) p.becomes;
    queued = ap (λ (r : Receiver T). r.queued) p.becomes;
    end_received = ap (λ (r : Receiver T). r.end_received) p.becomes;
    asked = ap (λ (r : Receiver T). r.asked) p.becomes;
    closing =
        sym (closing_passed p.free a.notes_passed b.notes_passed a.want_waits a.close_waits b.close_waits (is_closing a) refl
        (ap (λ (r : Receiver T). r.notes_passed) p.becomes) (ap (λ (r : Receiver T). r.close_waits) p.becomes));
    passed = omega (arith, ap (λ (r : Receiver T). length r.notes_passed) p.becomes, length-append a.notes_passed (take p.free (waiting_notes a)));
  }

  -- a want that is new
  pub want_parts : (a b : Receiver T) → PassesOn (record a { asked = true; want_waits = true }) b → PassesParts (record a { asked = true }) b
  want_parts a b p = let q = passes_parts (record a { asked = true; want_waits = true }) b p in record {
    link = q.link;
    taken = q.taken;
    queued = q.queued;
    end_received = q.end_received;
    asked = q.asked;
    closing = q.closing;
    passed = q.passed;
  }

  pub want_rises : (a b : Receiver T) → a.asked ≡ false → PassesParts (record a { asked = true }) b → receiver_moves a < receiver_moves b
  unfolding receiver_moves
  want_rises a b e q =
      omega (arith, ap one_if e, ap length q.taken, ap length q.queued, length-append a.taken a.queued, length-append b.taken b.queued, ap one_if q.end_received, ap one_if q.asked, ap one_if q.closing, q.passed)

  -- a closing that is new
  pub close_parts : (a b : Receiver T) → PassesOn (record a { close_waits = true }) b → PassesParts (record a { close_waits = true }) b
  close_parts a b p = passes_parts (record a { close_waits = true }) b p

  pub close_closing : (a b : Receiver T) → PassesParts (record a { close_waits = true }) b → is_closing b ≡ true
  close_closing a b q = q.closing ∙ or_true (has_close a.notes_passed)

  pub close_rises : (a b : Receiver T) → is_closing a ≡ false → PassesParts (record a { close_waits = true }) b → receiver_moves a < receiver_moves b
  unfolding receiver_moves
  close_rises a b e q =
      omega (arith, ap one_if e, ap one_if (close_closing a b q), ap length q.taken, ap length q.queued, length-append a.taken a.queued, length-append b.taken b.queued, ap one_if q.end_received, ap one_if q.asked, q.passed)

  -- one was taken
  pub take_received : (a : Receiver T) (x : T) (qs : List T) → a.queued ≡ x ∷ qs → received (record a { taken = a.taken ++ x ∷ []; queued = qs }) ≡ received a
  take_received a x qs e = append_assoc a.taken (x ∷ []) qs ∙ ap (λ r. a.taken ++ r) (sym e)

  pub take_rises : (a : Receiver T) (x : T) (qs : List T) → a.queued ≡ x ∷ qs → receiver_moves a < receiver_moves (record a { taken = a.taken ++ x ∷ []; queued = qs })
  unfolding receiver_moves
  take_rises a x qs e = omega (arith, ap length (take_received a x qs e), length-append a.taken (x ∷ []))

  -- a flush, in its two steps
  flushed : (a b : Sender T) → (f : Flushes a b) → b ≡ after_passing f.free (after_reading (length f.notes_in_ring) (sender_with f.notes_in_ring f.free a))
  flushed a b f = f.becomes

  flush_sent : (a b : Sender T) → Flushes a b → sent b ≡ sent a
  flush_sent a b f =
      let ps = waiting_parcels a in
      ap (λ (r : Sender T). sent r) f.becomes
      ∙ append_assoc a.passed (items_of (take f.free ps)) (items_of (drop f.free ps))
      ∙ ap (λ r. a.passed ++ r) (sym (items_of_append (take f.free ps) (drop f.free ps)) ∙ ap items_of (take-append-drop f.free ps) ∙ items_of_parcels a.waiting (a.ended && not a.end_passed))

  flush_closed : (a b : Sender T) → Flushes a b → is_closed a ≡ true → is_closed b ≡ true
  flush_closed a b f e =
      let more = take (length f.notes_in_ring) f.notes_in_ring in
      ap (λ (r : Sender T). is_closed r) f.becomes ∙ has_close_append a.notes_read more ∙ or_left (has_close a.notes_read) (has_close more) e

  -- each move of a flush is counted
  pub flush_rises : (a b : Sender T) → Flushes a b → moves_out b + sender_moves a ≤ moves_out a + sender_moves b
  unfolding sender_moves
  flush_rises a b f =
      let w : b.wanted ≡ (a.wanted || has_want (take (length f.notes_in_ring) f.notes_in_ring)) = ap (λ (r : Sender T). r.wanted) f.becomes in
      let e : b.ended ≡ a.ended = ap (λ (r : Sender T). r.ended) f.becomes in
      omega (arith, ap length (flush_sent a b f), ap one_if e, ap one_if w, one_or a.wanted (has_want (take (length f.notes_in_ring) f.notes_in_ring)))

  pub flushes_grow : (a b : Sender T) → Flushes a b → moves_out a ≤ moves_out b
  flushes_grow a b f =
      let ps = take f.free (waiting_parcels a) in
      let more = take (length f.notes_in_ring) f.notes_in_ring in
      let p : b.passed ≡ a.passed ++ items_of ps = ap (λ (r : Sender T). r.passed) f.becomes in
      let e : b.end_passed ≡ (a.end_passed || has_end ps) = ap (λ (r : Sender T). r.end_passed) f.becomes in
      let n : b.notes_read ≡ a.notes_read ++ more = ap (λ (r : Sender T). r.notes_read) f.becomes in
      omega (arith, ap length p, length-append a.passed (items_of ps), ap one_if e, one_or a.end_passed (has_end ps), ap length n, length-append a.notes_read more)

  pub keeps_flush : (a b : Sender T) → Flushes a b → KeepsOut a b
  keeps_flush a b f = record {
    link = ap (λ (r : Sender T). r.link) f.becomes;
    sent_is = flush_sent a b f;
    ended = ap (λ (r : Sender T). r.ended) f.becomes;
    closed = flush_closed a b f;
    grows = omega (arith, flush_rises a b f, flushes_grow a b f);
  }

  pub rises_flush : (a b : Sender T) → Flushes a b → moves_out a < moves_out b → sender_moves a < sender_moves b
  rises_flush a b f l = omega (arith, flush_rises a b f, l)

  -- an item more
  pub send_sent : (a : Sender T) (x : T) → sent (record a { waiting = a.waiting ++ x ∷ []; wanted = false }) ≡ sent a ++ x ∷ []
  send_sent a x = sym (append_assoc a.passed a.waiting (x ∷ []))

  pub send_rises : (a : Sender T) (x : T) → sender_moves a < sender_moves (record a { waiting = a.waiting ++ x ∷ []; wanted = false })
  unfolding sender_moves
  send_rises a x = omega (arith, ap length (send_sent a x), length-append (sent a) (x ∷ []), one_le a.wanted)

  pub end_rises : (a : Sender T) → a.ended ≡ false → sender_moves a < sender_moves (record a { ended = true })
  unfolding sender_moves
  end_rises a e = omega (arith, ap one_if e)

  pub takes_one : (a b : Receiver T) (x : T) → a.queued ≡ x ∷ b.queued → b ≡ record a { taken = a.taken ++ x ∷ []; queued = b.queued } → TakesOne a b x
  takes_one a b x q e = record {
    link = ap (λ (r : Receiver T). r.link) e;
    taken = ap (λ (r : Receiver T). r.taken) e;
    received_is = ap (λ (r : Receiver T). received r) e ∙ take_received a x b.queued q;
    end_received = ap (λ (r : Receiver T). r.end_received) e;
    asked = ap (λ (r : Receiver T). r.asked) e;
    closing = ap (λ (r : Receiver T). is_closing r) e;
    rises = subst (λ (r : Receiver T). receiver_moves a < receiver_moves r) (sym e) (take_rises a x b.queued q);
  }

  pub took_one : (a b : Receiver T) (x : T) → TakesOne a b x → Took a b (Some x)
  took_one a b x t = record { link = t.link; taken = t.taken; received_is = t.received_is; closing = t.closing; asked = t.asked; grows = omega (arith, t.rises) }

  pub took_none : (a b : Receiver T) → b ≡ a → Took a b None
  took_none a b e = record {
    link = ap (λ (r : Receiver T). r.link) e;
    taken = ap (λ (r : Receiver T). r.taken) e ∙ sym (append-nil a.taken);
    received_is = ap (λ (r : Receiver T). received r) e;
    closing = ap (λ (r : Receiver T). is_closing r) e;
    asked = ap (λ (r : Receiver T). r.asked) e;
    grows = (let m = ap (λ (r : Receiver T). receiver_moves r) e in omega (arith, m));
  }

  both : (a b : Receiver T) → b.taken ≡ a.taken → b.queued ≡ a.queued → received b ≡ received a
  both a b e f = ap (λ r. r ++ b.queued) e ∙ ap (λ r. a.taken ++ r) f

  pub notes_none : (a : Receiver T) (asked closing : Bool) → a.asked ≡ asked → is_closing a ≡ closing → Notes a a asked closing
  notes_none a asked closing e f = record { link = refl; taken = refl; queued = refl; received_is = refl; end_received = refl; asked_is = e; closing_is = f; grows = omega arith }

  pub notes_want : (a b : Receiver T) → a.asked ≡ false → PassesOn (record a { asked = true; want_waits = true }) b → Notes a b true (is_closing a)
  notes_want a b e p =
      let q = want_parts a b p in
      record { link = q.link; taken = q.taken; queued = q.queued; received_is = both a b q.taken q.queued; end_received = q.end_received; asked_is = q.asked; closing_is = q.closing; grows = omega (arith, want_rises a b e q) }

  pub rises_want : (a b : Receiver T) → a.asked ≡ false → PassesOn (record a { asked = true; want_waits = true }) b → receiver_moves a < receiver_moves b
  rises_want a b e p = want_rises a b e (want_parts a b p)

  pub notes_close : (a b : Receiver T) → is_closing a ≡ false → PassesOn (record a { close_waits = true }) b → Notes a b a.asked true
  notes_close a b e p =
      let q = close_parts a b p in
      record { link = q.link; taken = q.taken; queued = q.queued; received_is = both a b q.taken q.queued; end_received = q.end_received; asked_is = q.asked; closing_is = close_closing a b q; grows = omega (arith, close_rises a b e q) }

  pub rises_close : (a b : Receiver T) → is_closing a ≡ false → PassesOn (record a { close_waits = true }) b → receiver_moves a < receiver_moves b
  rises_close a b e p = close_rises a b e (close_parts a b p)

  pub sends_item : (a b : Sender T) (x : T) → b ≡ record a { waiting = a.waiting ++ x ∷ []; wanted = false } → Sends a b (x ∷ []) a.ended
  sends_item a b x e = record {
    link = ap (λ (r : Sender T). r.link) e;
    sent_is = ap (λ (r : Sender T). sent r) e ∙ send_sent a x;
    ended_is = ap (λ (r : Sender T). r.ended) e;
    closed = ap (λ (r : Sender T). is_closed r) e;
    rises = subst (λ (r : Sender T). sender_moves a < sender_moves r) (sym e) (send_rises a x);
  }

  pub sends_end : (a b : Sender T) → a.ended ≡ false → b ≡ record a { ended = true } → Sends a b [] true
  sends_end a b f e = record {
    link = ap (λ (r : Sender T). r.link) e;
    sent_is = ap (λ (r : Sender T). sent r) e ∙ sym (append-nil (sent a));
    ended_is = ap (λ (r : Sender T). r.ended) e;
    closed = ap (λ (r : Sender T). is_closed r) e;
    rises = subst (λ (r : Sender T). sender_moves a < sender_moves r) (sym e) (end_rises a f);
  }

  pub looks_at : (a b : Sender T) (x : Bool) → LooksOut a (record b { wanted = a.wanted }) → b.wanted ≡ (a.wanted || x) → LooksAt a b
  unfolding sender_moves
  looks_at a b x l w =
      let s : sent b ≡ sent a = ap (λ (r : Sender T). sent r) l.same in
      let e : b.ended ≡ a.ended = ap (λ (r : Sender T). r.ended) l.same in
      let n : b.notes_read ≡ a.notes_read = ap (λ (r : Sender T). r.notes_read) l.same in
      let p : b.passed ≡ a.passed = ap (λ (r : Sender T). r.passed) l.same in
      let f : b.end_passed ≡ a.end_passed = ap (λ (r : Sender T). r.end_passed) l.same in
      record {
        link = ap (λ (r : Sender T). r.link) l.same;
        sent_is = s;
        ended = e;
        closed = ap has_close n;
        grows = omega (arith, ap length s, ap one_if e, ap length n, ap length p, ap one_if f, ap one_if w, one_or a.wanted x);
      }

  pub same_at : (a b : Receiver T) → LooksIn a b → SameAt a b
  same_at a b l = record {
    link = ap (λ (r : Receiver T). r.link) l.same;
    taken = ap (λ (r : Receiver T). r.taken) l.same;
    queued = ap (λ (r : Receiver T). r.queued) l.same;
    received_is = ap (λ (r : Receiver T). received r) l.same;
    end_received = ap (λ (r : Receiver T). r.end_received) l.same;
    asked = ap (λ (r : Receiver T). r.asked) l.same;
    closing = ap (λ (r : Receiver T). is_closing r) l.same;
    moves = moves_looked_in a b l;
  }

-- if nothing was in flight, no want is handed over
pub wanted_kept : (r old new asked : Bool) (n : ℕ) → r ≡ false → (((0 < n) ⊎ ((asked ≡ true) × (old ≡ false))) → r ≡ true) → new ≡ (old || (asked && (n == 0))) → new ≡ old
wanted_kept r true new asked n e f h = h
wanted_kept r false new false n e f h = h
wanted_kept r false new true n e f h = absurd (let t = f (inr (refl, refl)) in cc)

-- once the end was received and the queue is empty, all was taken
pub all_taken : {T : Type 0} (o : Sender T) (i : Receiver T) → AreBeside o i → i.end_received ≡ true → i.queued ≡ [] → (i.taken ≡ sent o) × (o.ended ≡ true)
all_taken o i b e q =
    let ring = b.end_out e in
    let passed : o.end_passed ≡ true = sym b.end_ring ∙ ap (λ d. d || has_end i.in_ring) e in
    let last = b.end_last passed in (
      sym (append-nil i.taken) ∙ ap (λ l. i.taken ++ l) (sym q) ∙ sym (append-nil (i.taken ++ i.queued)) ∙ ap (λ l. i.taken ++ i.queued ++ items_of l) (sym ring)
          ∙ sym (append-nil (i.taken ++ i.queued ++ items_of i.in_ring)) ∙ ap (λ l. i.taken ++ i.queued ++ items_of i.in_ring ++ l) (sym last.0) ∙ b.items,
      last.1,
    )

-- ---- a call that moved nothing

none_is : {A : Type 0} (xs : List A) → length xs ≡ 0 → xs ≡ []
none_is [] e = refl
none_is (x ∷ xs) e = absurd (omega (arith, e))

-- none of the first are taken
take_none : {A : Type 0} (n : ℕ) (xs : List A) → take n xs ≡ [] → (drop n xs ≡ xs) × ((xs ≡ []) ⊎ (n ≡ 0))
take_none zero xs e = (refl, inr refl)
take_none (suc n) [] e = (refl, inl refl)
take_none (suc n) (x ∷ xs) e = absurd (let l = ap length e in omega (arith, l))

want_of : (w c : Bool) → has_want (notes_of w c) ≡ w
want_of true true = refl
want_of true false = refl
want_of false true = refl
want_of false false = refl

close_of : (w c : Bool) → has_close (notes_of w c) ≡ c
close_of true true = refl
close_of true false = refl
close_of false true = refl
close_of false false = refl

or_false : (a : Bool) → (a || false) ≡ a
or_false true = refl
or_false false = refl

and_true : (a : Bool) → (a && true) ≡ a
and_true true = refl
and_true false = refl

module _ {T : Type 0} where
  same_receiver : {l l' : Link} {t t' q q' : List T} {e e' a a' w w' c c' : Bool} {m m' : List Note} → l' ≡ l → t' ≡ t → q' ≡ q → e' ≡ e → a' ≡ a → m' ≡ m → w' ≡ w → c' ≡ c
      → (let r : Receiver T = record { link = l'; taken = t'; queued = q'; end_received = e'; in_ring = []; asked = a'; notes_passed = m'; want_waits = w'; close_waits = c'; free = 0 } in r)
      ≡ record { link = l; taken = t; queued = q; end_received = e; in_ring = []; asked = a; notes_passed = m; want_waits = w; close_waits = c; free = 0 }
  same_receiver l t q e a m w c = cc

  same_sender : {l l' : Link} {p p' w w' : List T} {e e' f f' a a' : Bool} {m m' : List Note} → l' ≡ l → p' ≡ p → w' ≡ w → e' ≡ e → f' ≡ f → m' ≡ m → a' ≡ a
      → (let s : Sender T = record { link = l'; passed = p'; waiting = w'; ended = e'; end_passed = f'; free = 0; notes_read = m'; notes_in_ring = []; wanted = a' } in s)
      ≡ record { link = l; passed = p; waiting = w; ended = e; end_passed = f; free = 0; notes_read = m; notes_in_ring = []; wanted = a }
  same_sender l p w e f m a = cc

  pub fill_still : (a b : Receiver T) → Fills a b → moves_in b ≤ moves_in a → (receiver_core b ≡ receiver_core a) × FillDone a
  unfolding receiver_core
  fill_still a b f l =
      let count = moves_filled a b f in
      let ring : f.in_ring ≡ [] = none_is f.in_ring (omega (arith, count, l)) in
      let gone : take f.free (waiting_notes a) ≡ [] = none_is (take f.free (waiting_notes a)) (omega (arith, count, l)) in
      let left = take_none f.free (waiting_notes a) gone in (
        same_receiver (ap (λ (r : Receiver T). r.link) f.becomes) (ap (λ (r : Receiver T). r.taken) f.becomes)
            (ap (λ (r : Receiver T). r.queued) f.becomes ∙ ap (λ r. a.queued ++ items_of r) ring ∙ append-nil a.queued)
            (ap (λ (r : Receiver T). r.end_received) f.becomes ∙ ap (λ r. a.end_received || has_end r) ring ∙ or_false a.end_received)
            (ap (λ (r : Receiver T). r.asked) f.becomes ∙ ap (λ r. a.asked && (length (items_of r) == 0)) ring ∙ and_true a.asked)
            (ap (λ (r : Receiver T). r.notes_passed) f.becomes ∙ ap (λ r. a.notes_passed ++ r) gone ∙ append-nil a.notes_passed)
            (ap (λ (r : Receiver T). r.want_waits) f.becomes ∙ ap has_want left.0 ∙ want_of a.want_waits a.close_waits)
            (ap (λ (r : Receiver T). r.close_waits) f.becomes ∙ ap has_close left.0 ∙ close_of a.want_waits a.close_waits),
        record {
          ring = none_is a.in_ring (let e = ap length f.more_parcels.1 in let g = ap length ring in omega (arith, e, g, length-append a.in_ring f.more_parcels.0));
          notes = elim left.1 [ inl e ↦ inl e | inr e ↦ inr (let m = f.more_free in omega (arith, e, m)) ];
        },
      )

  pub flush_still : (a b : Sender T) → Flushes a b → moves_out b ≤ moves_out a → (sender_core b ≡ sender_core a) × FlushDone a
  unfolding sender_core
  flush_still a b f l =
      let known = sender_with f.notes_in_ring f.free a in
      let n = length f.notes_in_ring in
      let one = moves_read known n in
      let two = moves_passed (after_reading n known) f.free in
      let all = ap moves_out f.becomes in
      let ps = waiting_parcels a in
      let gone : take f.free ps ≡ [] = none_is (take f.free ps) (omega (arith, one, two, all, l)) in
      let read : take n f.notes_in_ring ≡ [] = none_is (take n f.notes_in_ring) (omega (arith, one, two, all, l)) in
      let none : f.notes_in_ring ≡ [] = sym (take-length f.notes_in_ring) ∙ read in
      let left = take_none f.free ps gone in (
        same_sender (ap (λ (r : Sender T). r.link) f.becomes)
            (ap (λ (r : Sender T). r.passed) f.becomes ∙ ap (λ r. a.passed ++ items_of r) gone ∙ append-nil a.passed)
            (ap (λ (r : Sender T). r.waiting) f.becomes ∙ ap items_of left.0 ∙ items_of_parcels a.waiting (a.ended && not a.end_passed))
            (ap (λ (r : Sender T). r.ended) f.becomes)
            (ap (λ (r : Sender T). r.end_passed) f.becomes ∙ ap (λ r. a.end_passed || has_end r) gone ∙ or_false a.end_passed)
            (ap (λ (r : Sender T). r.notes_read) f.becomes ∙ ap (λ r. a.notes_read ++ r) read ∙ append-nil a.notes_read)
            (ap (λ (r : Sender T). r.wanted) f.becomes ∙ ap (λ r. a.wanted || has_want r) read ∙ or_false a.wanted),
        record {
          notes = none_is a.notes_in_ring (let e = ap length f.more_notes.1 in let g = ap length none in omega (arith, e, g, length-append a.notes_in_ring f.more_notes.0));
          parcels = elim left.1 [ inl e ↦ inl e | inr e ↦ inr (let m = f.more_free in omega (arith, e, m)) ];
        },
      )

  pub core_looked_in : (a b : Receiver T) → LooksIn a b → receiver_core b ≡ receiver_core a
  unfolding receiver_core
  core_looked_in a b l = ap (λ (r : Receiver T). receiver_with [] 0 r) l.same

  pub core_looked_out : (a b : Sender T) → LooksOut a (record b { wanted = a.wanted }) → b.wanted ≡ a.wanted → sender_core b ≡ sender_core a
  unfolding sender_core
  core_looked_out a b l w = same_sender (ap (λ (r : Sender T). r.link) l.same) (ap (λ (r : Sender T). r.passed) l.same) (ap (λ (r : Sender T). r.waiting) l.same) (ap (λ (r : Sender T). r.ended) l.same) (ap (λ (r : Sender T). r.end_passed) l.same) (ap (λ (r : Sender T). r.notes_read) l.same) w

  pub core_or_rise : (a b : Sender T) (x : Bool) → LooksOut a (record b { wanted = a.wanted }) → b.wanted ≡ (a.wanted || x) → (sender_core b ≡ sender_core a) ⊎ (sender_moves a < sender_moves b)
  unfolding sender_moves
  core_or_rise a b x l w = at a.wanted x refl refl
    where
      at : (u v : Bool) → a.wanted ≡ u → x ≡ v → (sender_core b ≡ sender_core a) ⊎ (sender_moves a < sender_moves b)
      at true v e f = inl (core_looked_out a b l (w ∙ ap (λ c. c || x) e ∙ sym e))
      at false false e f = inl (core_looked_out a b l (w ∙ ap (λ c. c || x) e ∙ f ∙ sym e))
      at false true e f =
          let now : b.wanted ≡ true = w ∙ ap (λ c. c || x) e ∙ f in
          let s : sent b ≡ sent a = ap (λ (r : Sender T). sent r) l.same in
          let en : b.ended ≡ a.ended = ap (λ (r : Sender T). r.ended) l.same in
          let n : b.notes_read ≡ a.notes_read = ap (λ (r : Sender T). r.notes_read) l.same in
          let p : b.passed ≡ a.passed = ap (λ (r : Sender T). r.passed) l.same in
          let g : b.end_passed ≡ a.end_passed = ap (λ (r : Sender T). r.end_passed) l.same in
          inr (omega (arith, ap length s, ap one_if en, ap length n, ap length p, ap one_if g, ap one_if now, ap one_if e))

  pub flies_or_rises : (r : Bool) (a b : Sender T) (i j : Receiver T) → LooksIn j i → LooksOut a (record b { wanted = a.wanted }) → b.wanted ≡ (a.wanted || (j.asked && (on_the_way b i == 0))) → (r ≡ true → (0 < on_the_way b i) ⊎ ((i.asked ≡ true) × (a.wanted ≡ false))) → r ≡ true
      → (0 < on_the_way b i) ⊎ (sender_moves a < sender_moves b)
  unfolding sender_moves
  flies_or_rises r a b i j look l w value e = elim (value e) [
    | inl h ↦ inl h
    | inr h ↦ at (on_the_way b i) refl h.0 h.1
  ]
    where
      at : (n : ℕ) → on_the_way b i ≡ n → i.asked ≡ true → a.wanted ≡ false → (0 < on_the_way b i) ⊎ (sender_moves a < sender_moves b)
      at zero n q f =
          let now : b.wanted ≡ true = w ∙ ap (λ c. c || (j.asked && (on_the_way b i == 0))) f ∙ ap (λ c. c && (on_the_way b i == 0)) (sym (ap (λ (z : Receiver T). z.asked) look.same) ∙ q) ∙ ap (λ m. m == 0) n in
          let s : sent b ≡ sent a = ap (λ (r : Sender T). sent r) l.same in
          let en : b.ended ≡ a.ended = ap (λ (r : Sender T). r.ended) l.same in
          let m : b.notes_read ≡ a.notes_read = ap (λ (r : Sender T). r.notes_read) l.same in
          let p : b.passed ≡ a.passed = ap (λ (r : Sender T). r.passed) l.same in
          let g : b.end_passed ≡ a.end_passed = ap (λ (r : Sender T). r.end_passed) l.same in
          inr (omega (arith, ap length s, ap one_if en, ap length m, ap length p, ap one_if g, ap one_if now, ap one_if f))
      at (suc k) n q f = inl (omega (arith, n))

  pub drops : (a b : Receiver T) → b ≡ record a { taken = received a; queued = [] } → Drops a b
  unfolding receiver_moves
  drops a b e =
      let t : b.taken ≡ received a = ap (λ (r : Receiver T). r.taken) e in
      let q : b.queued ≡ [] = ap (λ (r : Receiver T). r.queued) e in
      let d : b.end_received ≡ a.end_received = ap (λ (r : Receiver T). r.end_received) e in
      let k : b.asked ≡ a.asked = ap (λ (r : Receiver T). r.asked) e in
      let c : is_closing b ≡ is_closing a = ap (λ (r : Receiver T). is_closing r) e in
      let n : b.notes_passed ≡ a.notes_passed = ap (λ (r : Receiver T). r.notes_passed) e in
      let s : received b ≡ received a = ap (λ (r : Receiver T). received r) e ∙ append-nil (received a) in
      record {
        link = ap (λ (r : Receiver T). r.link) e;
        taken = t;
        queued = q;
        received_is = s;
        end_received = d;
        asked = k;
        closing = c;
        grows = omega (arith, ap length t, ap length s, length-append a.taken a.queued, ap one_if d, ap one_if k, ap one_if c, ap length n);
      }

  pub ports_count : PortsCountMoves T
  ports_count = record {
    fill = keeps_fill;
    fill_rises = rises_fill;
    fill_still = fill_still;
    look_in = keeps_look_in;
    take = takes_one;
    discard = drops;
    want = notes_want;
    want_rises = rises_want;
    close = notes_close;
    close_rises = rises_close;
    flush = keeps_flush;
    flush_rises = rises_flush;
    flush_still = flush_still;
    send = sends_item;
    end = sends_end;
    look_out = looks_at;
    same = same_at;
    core_in = core_looked_in;
    core_out = core_or_rise;
  }
