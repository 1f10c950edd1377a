-- A small filter of two inputs that works by times: it gives the frames of the main input, each when the side input has
-- come as far.
use Rattle.std.specs.Prelude.{◌≡◌, ℕ, ℤ, ◌==◌, ◌||◌, ◌&&◌, not, Bool, true, if◌then◌else◌, List, [], ◌∷◌, map, Some}
use Rattle.std.specs.List.{slice_get}
use Rattle.std.specs.Int.Signed.{lt_z}
use Rattle.av_frame.specs.Frames.{FrameValue}
use Rattle.av_frame.specs.Streams.{Stream, Streams}
use Rattle.av_frame.specs.FilterLaws.{Pads}
use Rattle.av_frame.specs.Rules.{is_empty, held_rest}
use Rattle.frame_sync.specs.declared.rules.Rule.{Rule}
use Rattle.frame_sync.specs.declared.rules.Before.TheVariants as before
use Rattle.frame_sync.specs.declared.rules.After.TheVariants as after
use Rattle.frame_sync.specs.Framesync.{Input, AreEvents, HasEnded, IsCurrent}

abbrev pub two_to_one : Pads
two_to_one = record { inputs = 2; outputs = 1 }

-- the frames from a time on
abbrev pub frames_from : ℤ → List FrameValue → List FrameValue
frames_from t [] = []
frames_from t (y ∷ ys) = if lt_z y.pts t then frames_from t ys else y ∷ ys

abbrev pub stream_from : ℤ → Stream → Stream
stream_from t s = record { frames = frames_from t s.frames; ended = s.ended }

-- some frame is there, or none will be
abbrev pub has_come : Stream → Bool
has_come s = s.ended || not (is_empty s.frames)

-- the frames of the main input, as far as the side input has come
abbrev pub synced : List FrameValue → Stream → List FrameValue
synced [] side = []
synced (x ∷ xs) side = if has_come (stream_from x.pts side) then x ∷ synced xs (stream_from x.pts side) else []

-- the side input has come as far as each of these frames
abbrev pub all_come : List FrameValue → Stream → Bool
all_come [] side = true
all_come (x ∷ xs) side = has_come (stream_from x.pts side) && all_come xs (stream_from x.pts side)

abbrev pub synced_stream : Stream → Stream → Stream
synced_stream main side = record { frames = synced main.frames side; ended = main.ended && all_come main.frames side }

abbrev pub synced_rule : Streams → Streams
synced_rule ins = λ o. synced_stream (ins 0) (ins 1)

-- ---- its state: what waits on each input, and whether it is finished

pub record SyncedValue : Type 0 where
  pub main : List FrameValue
  pub side : List FrameValue
  pub main_finished : Bool
  pub side_finished : Bool

abbrev pub synced_kept : SyncedValue → ℕ → List FrameValue
synced_kept v i = if i == 0 then v.main else v.side

abbrev pub synced_finished : SyncedValue → ℕ → Bool
synced_finished v i = if i == 0 then v.main_finished else v.side_finished

abbrev pub synced_rest : SyncedValue → Streams → Streams
synced_rest v = held_rest synced_rule (synced_kept v) (synced_finished v) (λ _. [])

-- what is left of the frames of the side input at the next one of the main input
abbrev pub left_side : List FrameValue → List FrameValue → List FrameValue
left_side [] side = side
left_side (x ∷ xs) side = frames_from x.pts side

-- the next frame can be given
abbrev pub is_ready : SyncedValue → Bool
is_ready v = not (is_empty v.main) && not (is_empty v.side && not v.side_finished)

abbrev pub synced_over : SyncedValue → Bool
synced_over v = v.main_finished && is_empty v.main

abbrev pub synced_closes : SyncedValue → ℕ → Bool
synced_closes v i = synced_finished v i || synced_over v

abbrev pub synced_wants : SyncedValue → ℕ → Bool
synced_wants v i = is_empty (synced_kept v i) && not (synced_closes v i)

-- ---- its function, by the events of the two inputs

-- events come at the times of the main input, from its first frame to its last one
abbrev pub main_rule : Rule
main_rule = record { before = before.Stop; after = after.Stop; sync = 1 }

-- the side input makes no events, and its last frame stays its current one
abbrev pub side_rule : Rule
side_rule = record { before = before.Null; after = after.Infinity; sync = 0 }

abbrev pub times_of : List FrameValue → List ℤ
times_of xs = map (λ (x : FrameValue). x.pts) xs

abbrev pub input_of : Rule → Stream → Input
input_of rule s = record { rule = rule; times = times_of s.frames; ended = s.ended }

abbrev pub two_inputs : Stream → Stream → List Input
two_inputs main side = input_of main_rule main ∷ input_of side_rule side ∷ []

-- The output has a frame at each event of the inputs, and no other: the current frame of the main input. It ends where
-- the events do.
pub record AreShown (main side out : Stream) : Type 0 where
  pub events : AreEvents (two_inputs main side) (times_of out.frames)
  pub current : (k : ℕ) (x : FrameValue) → slice_get out.frames k ≡ Some x → (number : ℕ) × IsCurrent (input_of main_rule main) x.pts (Some number) × (slice_get main.frames number ≡ Some x)
  pub ended : out.ended ≡ true → HasEnded (two_inputs main side)
  pub ends : HasEnded (two_inputs main side) → out.ended ≡ true
