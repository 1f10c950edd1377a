-- The counted moves at the ends of a link, and what each call keeps and tells of an end. This project's own.
use Rattle.std.specs.Prelude.{◌≡◌, ◌≤◌, ◌⊎◌, ◌<◌, ◌+◌, ◌||◌, ◌&&◌, ◌==◌, ℕ, Bool, true, false, List, [], ◌∷◌, ◌++◌, length, option_to_list, Option, Some, None}
use Rattle.link_ports.specs.Ends.{Link, Sender, Receiver, sent, received, is_closing, is_closed, waiting_notes, waiting_parcels, sender_with, receiver_with, LooksIn, LooksOut, Flushes, Fills, PassesOn, moves_in, moves_out}
use Rattle.link_ports.specs.Links.{AreBeside, on_the_way}
use Rattle.link_ports.specs.Parcels.{one_if}

module _ {T : Type 0} where
  -- How often something was done at the sending end: items sent, the end, wants, parcels that went into the ring and notes
  -- that came out. Items count twice, since an item takes away the want that was counted before it.
  unfoldable pub sender_moves : Sender T → ℕ
  sender_moves o = length (sent o) + length (sent o) + one_if o.ended + one_if o.wanted + length o.passed + one_if o.end_passed + length o.notes_read

  -- How often something was done at the taking end: items taken and received, the end, wants, the closing, and notes that
  -- went into the ring. Received items count twice, since an item takes away the want that was counted before it.
  unfoldable pub receiver_moves : Receiver T → ℕ
  receiver_moves i = length i.taken + length (received i) + length (received i) + one_if i.end_received + one_if i.asked + one_if (is_closing i) + length i.notes_passed

  -- a call at the taking end after which nothing was taken or closed; the moves never fall
  pub record KeepsIn (a b : Receiver T) : Type 0 where
    pub link : b.link ≡ a.link
    pub taken : b.taken ≡ a.taken
    pub closing : is_closing b ≡ is_closing a
    pub after_end : a.end_received ≡ true → (b.end_received ≡ true) × (b.queued ≡ a.queued)
    pub grows : receiver_moves a ≤ receiver_moves b

  -- a call at the sending end after which nothing was sent; the moves never fall
  pub record KeepsOut (a b : Sender T) : Type 0 where
    pub link : b.link ≡ a.link
    pub sent_is : sent b ≡ sent a
    pub ended : b.ended ≡ a.ended
    pub closed : is_closed a ≡ true → is_closed b ≡ true
    pub grows : sender_moves a ≤ sender_moves b

  -- one item was taken
  pub record TakesOne (a b : Receiver T) (x : T) : Type 0 where
    pub link : b.link ≡ a.link
    pub taken : b.taken ≡ a.taken ++ x ∷ []
    pub received_is : received b ≡ received a
    pub end_received : b.end_received ≡ a.end_received
    pub asked : b.asked ≡ a.asked
    pub closing : is_closing b ≡ is_closing a
    pub rises : receiver_moves a < receiver_moves b

  -- one item was taken, or none was there
  pub record Took (a b : Receiver T) (x : Option T) : Type 0 where
    pub link : b.link ≡ a.link
    pub taken : b.taken ≡ a.taken ++ option_to_list x
    pub received_is : received b ≡ received a
    pub closing : is_closing b ≡ is_closing a
    pub asked : b.asked ≡ a.asked
    pub grows : receiver_moves a ≤ receiver_moves b

  -- a want or the closing was noted
  pub record Notes (a b : Receiver T) (asked closing : Bool) : Type 0 where
    pub link : b.link ≡ a.link
    pub taken : b.taken ≡ a.taken
    pub queued : b.queued ≡ a.queued
    pub received_is : received b ≡ received a
    pub end_received : b.end_received ≡ a.end_received
    pub asked_is : b.asked ≡ asked
    pub closing_is : is_closing b ≡ closing
    pub grows : receiver_moves a ≤ receiver_moves b

  -- one item was sent, or the end
  pub record Sends (a b : Sender T) (items : List T) (ended : Bool) : Type 0 where
    pub link : b.link ≡ a.link
    pub sent_is : sent b ≡ sent a ++ items
    pub ended_is : b.ended ≡ ended
    pub closed : is_closed b ≡ is_closed a
    pub rises : sender_moves a < sender_moves b

  -- a look at the sending end, where a want may be handed over
  pub record LooksAt (a b : Sender T) : Type 0 where
    pub link : b.link ≡ a.link
    pub sent_is : sent b ≡ sent a
    pub ended : b.ended ≡ a.ended
    pub closed : is_closed b ≡ is_closed a
    pub grows : sender_moves a ≤ sender_moves b

  -- a look at the taking end
  pub record SameAt (a b : Receiver T) : Type 0 where
    pub link : b.link ≡ a.link
    pub taken : b.taken ≡ a.taken
    pub queued : b.queued ≡ a.queued
    pub received_is : received b ≡ received a
    pub end_received : b.end_received ≡ a.end_received
    pub asked : b.asked ≡ a.asked
    pub closing : is_closing b ≡ is_closing a
    pub moves : receiver_moves b ≡ receiver_moves a

module _ {T : Type 0} where
  -- an end without what it knows of its rings
  unfoldable pub sender_core : Sender T → Sender T
  sender_core s = sender_with [] 0 s

  unfoldable pub receiver_core : Receiver T → Receiver T
  receiver_core r = receiver_with [] 0 r

  -- as far as is known, nothing can move at this end
  pub record FlushDone (s : Sender T) : Type 0 where
    pub notes : s.notes_in_ring ≡ []
    pub parcels : (waiting_parcels s ≡ []) ⊎ (s.free ≡ 0)

  pub record FillDone (r : Receiver T) : Type 0 where
    pub ring : r.in_ring ≡ []
    pub notes : (waiting_notes r ≡ []) ⊎ (r.free ≡ 0)

  -- there are at most as many notes as items were received, and one want and one closing more
  abbrev pub FewNotes : Receiver T → Type 0
  FewNotes r = length r.notes_passed + length (waiting_notes r) ≤ length (received r) + one_if r.asked + one_if (is_closing r)

  -- the two ends of one link after a look from both, with few notes
  pub record Tied (s : Sender T) (r : Receiver T) : Type 0 where
    pub beside : AreBeside s r
    pub few : FewNotes r

  -- all that waited in the queue was dropped
  pub record Drops (a b : Receiver T) : Type 0 where
    pub link : b.link ≡ a.link
    pub taken : b.taken ≡ received a
    pub queued : b.queued ≡ []
    pub received_is : received b ≡ received a
    pub end_received : b.end_received ≡ a.end_received
    pub asked : b.asked ≡ a.asked
    pub closing : is_closing b ≡ is_closing a
    pub grows : receiver_moves a ≤ receiver_moves b

-- what the calls at the two ends do to the counted moves
pub record PortsCountMoves (T : Type 0) : Type 0 where
  pub fill : (a b : Receiver T) → Fills a b → KeepsIn a b
  pub fill_rises : (a b : Receiver T) → Fills a b → moves_in a < moves_in b → receiver_moves a < receiver_moves b
  pub fill_still : (a b : Receiver T) → Fills a b → moves_in b ≤ moves_in a → (receiver_core b ≡ receiver_core a) × FillDone a
  pub look_in : (a b : Receiver T) → LooksIn a b → KeepsIn a b
  pub take : (a b : Receiver T) (x : T) → a.queued ≡ x ∷ b.queued → b ≡ record a { taken = a.taken ++ x ∷ []; queued = b.queued } → TakesOne a b x
  pub discard : (a b : Receiver T) → b ≡ record a { taken = received a; queued = [] } → Drops a b
  pub want : (a b : Receiver T) → a.asked ≡ false → PassesOn (record a { asked = true; want_waits = true }) b → Notes a b true (is_closing a)
  pub want_rises : (a b : Receiver T) → a.asked ≡ false → PassesOn (record a { asked = true; want_waits = true }) b → receiver_moves a < receiver_moves b
  pub close : (a b : Receiver T) → is_closing a ≡ false → PassesOn (record a { close_waits = true }) b → Notes a b a.asked true
  pub close_rises : (a b : Receiver T) → is_closing a ≡ false → PassesOn (record a { close_waits = true }) b → receiver_moves a < receiver_moves b
  pub flush : (a b : Sender T) → Flushes a b → KeepsOut a b
  pub flush_rises : (a b : Sender T) → Flushes a b → moves_out a < moves_out b → sender_moves a < sender_moves b
  pub flush_still : (a b : Sender T) → Flushes a b → moves_out b ≤ moves_out a → (sender_core b ≡ sender_core a) × FlushDone a
  pub send : (a b : Sender T) (x : T) → b ≡ record a { waiting = a.waiting ++ x ∷ []; wanted = false } → Sends a b (x ∷ []) a.ended
  pub end : (a b : Sender T) → a.ended ≡ false → b ≡ record a { ended = true } → Sends a b [] true
  -- a look from both ends, which may hand a want over
  pub look_out : (a b : Sender T) (x : Bool) → LooksOut a (record b { wanted = a.wanted }) → b.wanted ≡ (a.wanted || x) → LooksAt a b
  pub same : (a b : Receiver T) → LooksIn a b → SameAt a b
  pub core_in : (a b : Receiver T) → LooksIn a b → receiver_core b ≡ receiver_core a
  pub core_out : (a b : Sender T) (x : Bool) → LooksOut a (record b { wanted = a.wanted }) → b.wanted ≡ (a.wanted || x) → (sender_core b ≡ sender_core a) ⊎ (sender_moves a < sender_moves b)
