-- What is shown of shuffleplanes: its outcome is exactly one, and each sample that it reads is there.
use Rattle.std.specs.Prelude.{◌≡◌, ◌≢◌, ◌<◌, ◌≤◌, ◌⊎◌, ℕ, ℤ, pos, negsuc, List, [], ◌∷◌, Option, Some, None, IfSome, Ok, Err, length, get_or, slice_index, refl}
use Rattle.std.proofs.Common.{inl, inr, ◌∙◌, sym, ap, subst, arith}
use Rattle.std.proofs.lemmas.Bool.{cases_lt, cases_eq}
use Rattle.std.proofs.lemmas.Int.{ints}
use Rattle.std.proofs.lemmas.List.{ext_get_or}
use Rattle.av_base.specs.declared.formats.PixelFormat.{PixelFormat}
use Rattle.av_base.specs.declared.formats.PixelFormat.TheVariants.{Gray, Yuv420p, Yuv422p, Yuv444p, Yuva420p, Yuva422p, Yuva444p}
use Rattle.av_base.specs.Planes.{plane_count_of}
use Rattle.av_base.specs.Shapes.{planes_of, columns_of, rows_of, width_of, height_of, pixel_format_of, IsPictureShape, IsPictured}
use Rattle.av_base.specs.declared.shapes.Shape.{Shape}
use Rattle.av_text.specs.declared.arguments.Arg.{Arg}
use Rattle.av_frame.specs.Frames.{FrameValue}
use Rattle.av_filter.specs.Limits.{after_limits, limits_passed}
use Rattle.av_filter.specs.Meanings.{HasOneOutcome, HasOneReading, IsReading, IsSettled, MakingLaws, MeaningLaws, ReadingLaws, is_of_stream}
use Rattle.av_filter.specs.Options.{IsWholeWithin}
use Rattle.av_filter.specs.OptionExistence.{AreDecided, AreNumbered}
use Rattle.av_filter.specs.Outcomes.{IsOne, HasOne, ends_one, after_fault, passed_others}
use Rattle.av_frame.specs.Pictures.{repainted_keeps}
use Rattle.av_filter.specs.Readings.{OptionLaws, BothHave, complete_law}
use Rattle.av_frame.specs.Rules.{SameTimes}
use Rattle.av_filter.specs.WordLaws.{word_below}
use Rattle.av_frame.specs.declared.refusals.ConfigError.{ConfigError}
use Rattle.av_frame.specs.declared.refusals.ConfigError.TheVariants.{NoMemory}
use Rattle.av_filter.specs.Places.{HasPlace}
use Rattle.filt_video.specs.Shuffleplanes.{order_names, order_takes, order_has, OrderHas, order_rules, shuffled, AreSameSize, HasOrderFault, IsOrderRefused, IsFilled, IsOrder, order_outcome, order_making, shuffleplanes}
use Rattle.av_filter.specs.Texts.{within_decided, within_one, both_decided}
use Rattle.av_filter.specs.Decisions.{IsDecided, search_values, list_of}
use Rattle.filt_video.specs.declared.shuffleplanes.PlaneOrder.{PlaneOrder}

-- ---- options

pub order_numbers : AreNumbered 4 order_names
order_numbers = word_below 4 order_names (omega arith, (omega arith, (omega arith, (omega arith, tt))))

order_decided : AreDecided 4 order_takes
order_decided o text low = within_decided (pos 0) (pos 3) text

-- n is the number of a plane that is given, or the plane's own
abbrev IsPlaneGiven : ℕ → Option (List ℕ) → ℕ → Type 0
IsPlaneGiven o None n = n ≡ o
IsPlaneGiven o (Some text) n = IsWholeWithin (pos 0) (pos 3) text (pos n)

order_from : (maps : List ℕ) (o : ℕ) (t : Option (List ℕ)) → IsPlaneGiven o t (get_or maps o 0) → order_has maps o t
order_from maps o None h = h
order_from maps o (Some text) h = h

plane_given : (o : ℕ) (t : Option (List ℕ)) → IfSome t (order_takes o) → (n : ℕ) × IsPlaneGiven o t n
plane_given o None taken = (o, refl)
plane_given o (Some text) taken = by taken.0 taken.1
  where
    by : (z : ℤ) → IsWholeWithin (pos 0) (pos 3) text z → (n : ℕ) × IsWholeWithin (pos 0) (pos 3) text (pos n)
    by (pos n) w = (n, w)
    by (negsuc n) w = let low = w.low in absurd (omega (arith, ints))

-- there is an order that has what given texts say
order_some : (texts : ℕ → Option (List ℕ)) → ((o : ℕ) → o < 4 → IfSome (texts o) (order_takes o)) → (order : PlaneOrder) × ((o : ℕ) → o < 4 → OrderHas order o (texts o))
order_some texts taken = (record { maps = maps.0 }, λ o low. record { count = maps.1; number = order_from maps.0 o (texts o) (maps.2 o low) })
  where
    maps : (xs : List ℕ) × (length xs ≡ 4) × ((o : ℕ) → o < 4 → IsPlaneGiven o (texts o) (get_or xs o 0))
    maps = list_of 0 4 (λ o. IsPlaneGiven o (texts o)) (λ o low. plane_given o (texts o) (taken o low))

map_one : (maps other : List ℕ) (o : ℕ) (text : Option (List ℕ)) → order_has maps o text → order_has other o text → get_or maps o 0 ≡ get_or other o 0
map_one maps other o None a b = a ∙ sym b
map_one maps other o (Some text) a b =
    let same : pos (get_or maps o 0) ≡ pos (get_or other o 0) = within_one {text = text} (pos (get_or maps o 0)) (pos (get_or other o 0)) a b in
    cc

-- and just one
order_one : (o p : PlaneOrder) → BothHave 4 (OrderHas o) (OrderHas p) → o ≡ p
order_one o p both =
    let first = both 0 (omega arith) in
    let long = first.1.count in
    let also = first.2.count in
    ap (λ (maps : List ℕ). record o { maps = maps }) (ext_get_or 0 o.maps p.maps (long ∙ sym also) (λ i less. each i (subst (λ (n : ℕ). i < n) long less)))
  where
    each : (i : ℕ) → i < 4 → get_or o.maps i 0 ≡ get_or p.maps i 0
    each i low = let have = both i low in map_one o.maps p.maps i have.0 have.1.number have.2.number

order_option_laws : OptionLaws order_rules
order_option_laws = record { decided = order_decided; numbered = order_numbers; some = order_some; one = order_one }

order_one_reading : (args : List Arg) → HasOneReading order_making (IsReading order_rules args)
order_one_reading = complete_law order_making order_rules order_option_laws (λ options n r h. h) (λ options n. refl)

-- ---- planes

same_size_decided : (s : Shape) (p q : ℕ) → IsDecided (AreSameSize s p q)
same_size_decided s p q = both_decided (cases_eq (columns_of s p) (columns_of s q)) (cases_eq (rows_of s p) (rows_of s q))

pub no_fault : (s : Shape) (maps : List ℕ) (p : ℕ) (e : ConfigError) → IsFilled s maps p → ¬ HasOrderFault s maps p e
no_fault s maps p e filled (HasOrderFault.NoPlane past) = let below = filled.0 in absurd (omega arith)
no_fault s maps p e filled (HasOrderFault.OtherSize less apart) = apart filled.1

module _ (s : Shape) (maps : List ℕ) where
  -- the plane that a plane takes suits it, or has a fault
  filled_or : (p : ℕ) → IsFilled s maps p ⊎ ((e : ConfigError) × HasOrderFault s maps p e)
  filled_or p = elim (cases_lt (slice_index maps p) (planes_of s)) [
    | inr past ↦ inr (_, HasOrderFault.NoPlane past)
    | inl less ↦ elim (same_size_decided s p (slice_index maps p)) [
      | inl same ↦ inl (less, same)
      | inr apart ↦ inr (_, HasOrderFault.OtherSize less apart)
    ]
  ]

  -- each plane is filled, or there is a first one with a fault
  order_known : ((e : ConfigError) × IsOrderRefused s maps e) ⊎ IsOrder s maps
  order_known = elim (search_values (IsFilled s maps) (λ p. (e : ConfigError) × HasOrderFault s maps p e) (planes_of s) (λ p less. filled_or p)) [
    | inl all ↦ inr all
    | inr f ↦ inl (f.2.0, record { plane = f.0; is_plane = f.1; has = f.2.1; first = λ earlier e less. no_fault s maps earlier e (f.3 earlier less) })
  ]

  plane_one : {p : ℕ} {e f : ConfigError} → HasOrderFault s maps p e → HasOrderFault s maps p f → e ≡ f
  plane_one (HasOrderFault.NoPlane past) (HasOrderFault.NoPlane also) = refl
  plane_one (HasOrderFault.NoPlane past) (HasOrderFault.OtherSize less apart) = absurd (omega arith)
  plane_one (HasOrderFault.OtherSize less apart) (HasOrderFault.NoPlane past) = absurd (omega arith)
  plane_one (HasOrderFault.OtherSize less apart) (HasOrderFault.OtherSize more also) = refl

  refused_one : IsOne (IsOrderRefused s maps)
  refused_one e f a b = elim (cases_lt a.plane b.plane) [
    | inl less ↦ absurd (b.first a.plane e less a.has)
    | inr from ↦ elim (cases_lt b.plane a.plane) [
      | inl less ↦ absurd (a.first b.plane f less b.has)
      | inr to ↦ plane_one a.has (subst (λ (p : ℕ). HasOrderFault s maps p f) (omega arith) b.has)
    ]
  ]

  order_apart : IsOrder s maps → (e : ConfigError) → ¬ IsOrderRefused s maps e
  order_apart order e refused = no_fault s maps refused.plane e (order refused.plane refused.is_plane) refused.has

-- ---- settings

outcome_one : (o : PlaneOrder) (s : Shape) → HasOne (order_outcome o s)
unfolding order_outcome
outcome_one o s =
    after_fault (IsOrderRefused s o.maps) Err (IsOrder s o.maps) _ (order_known s o.maps) (refused_one s o.maps) (order_apart s o.maps) (λ order.
    after_limits s (width_of s.props) (height_of s.props) _ (λ small. ends_one _))

order_one_outcome : (args : List Arg) → HasOneOutcome order_making (IsReading order_rules args)
order_one_outcome args o s reads picture takes = outcome_one o s

-- out of memory is no fault of an order
fault_memory : {s : Shape} {maps : List ℕ} {p : ℕ} {e : ConfigError} → HasOrderFault s maps p e → NoMemory ≢ e
fault_memory (HasOrderFault.NoPlane past) is = cc
fault_memory (HasOrderFault.OtherSize low other) is = cc

order_memory : (o : PlaneOrder) (s : Shape) → ¬ order_outcome o s (Err NoMemory)
unfolding order_outcome
order_memory o s outcome =
    let order = passed_others (λ (e : ConfigError) (refused : IsOrderRefused s o.maps e). fault_memory refused.has) outcome in
    let end = (limits_passed order.1).1 in
    cc

-- ---- what is made

-- the order suits pictures of the shape, which are within the limits
pub record IsSuited (s : Shape) (t : PlaneOrder) : Type 0 where
  pub order : IsOrder s t.maps
  pub pictured : IsPictured s

suited_end : (o t : PlaneOrder) (s : Shape) → IsPictureShape s → order_outcome o s (Ok t) → IsSuited s t
unfolding order_outcome
suited_end o t s picture (inl e) = absurd (let no = e.2 in cc)
suited_end o t s picture (inr (order, inl e)) = absurd (let no = e.2 in cc)
suited_end o t s picture (inr (order, inr (small, is))) =
    let same : o ≡ t = cc in
    record {
      order = subst (λ (z : PlaneOrder). IsOrder s z.maps) same order;
      pictured = record { lawful = picture.lawful; video = picture.video; limits = record { width = small.width; height = small.height; bytes = small.bytes } };
    }

pub order_suited : (t : PlaneOrder) (s : Shape) → IsSettled order_making s t → IsSuited s t
order_suited t s h = suited_end h.options t s h.picture h.settles

pub order_pictured : (t : PlaneOrder) (s : Shape) → IsSettled order_making s t → IsPictured (order_making.shape t s)
order_pictured t s h = (order_suited t s h).pictured

order_keeps : (t : PlaneOrder) (x : FrameValue) → SameTimes x (order_making.made t x)
order_keeps t x = repainted_keeps (shuffled t.maps) x

order_shaped : (t : PlaneOrder) (x : FrameValue) → (order_making.made t x).shape ≡ order_making.shape t x.shape
order_shaped t x = refl

count_low : (f : PixelFormat) → plane_count_of f ≤ 4
count_low Gray = omega arith
count_low Yuv420p = omega arith
count_low Yuv422p = omega arith
count_low Yuv444p = omega arith
count_low Yuva420p = omega arith
count_low Yuva422p = omega arith
count_low Yuva444p = omega arith

-- each sample that is read is there
pub order_fits : (t : PlaneOrder) (x : FrameValue) → IsSettled order_making x.shape t → (p r c : ℕ) → p < planes_of x.shape → r < rows_of x.shape p → c < columns_of x.shape p
    → (p < 4) × HasPlace (x ∷ []) (slice_index t.maps p) r c
order_fits t x h p r c plane row column =
    let filled = (order_suited t x.shape h).order p plane in
    let few = count_low (pixel_format_of x.shape.format) in
    (omega arith, record { some = omega arith; plane = filled.0; row = rw (filled.1.1) at row; column = rw (filled.1.0) at column })

-- ---- the laws

pub order_making_laws : MakingLaws order_making
order_making_laws = record { decided = λ o f. inl tt; no_memory = order_memory; pictured = order_pictured; stream = λ t. is_of_stream; keeps = order_keeps; shaped = order_shaped }

pub order_reading_laws : ReadingLaws order_making order_rules
order_reading_laws = record { one_reading = order_one_reading; one_outcome = order_one_outcome }

pub shuffleplanes_laws : MeaningLaws shuffleplanes
shuffleplanes_laws = record { making = order_making_laws; reading = order_reading_laws }
