-- What stops a run, by the call that failed, and how the counts of the host's faults rise with it.
use Rattle.std.specs.Prelude.{◌≡◌, ℕ, Result, Err}
use Rattle.av_base.specs.declared.failure.Failure.{Failure}
use Rattle.av_base.specs.declared.failure.Failure.TheVariants as failure
use Rattle.av_text.specs.declared.fault.TextFault.{TextFault as ReadFaultOfText}
use Rattle.av_host.specs.World.{Faults}
use Rattle.av_host.specs.Calls.{RaisesOpenings, RaisesReads, RaisesWrites}
use Rattle.av_frame.specs.declared.faults.HeadError.{HeadError}
use Rattle.av_frame.specs.declared.faults.HeadError.TheVariants as head
use Rattle.av_frame.specs.declared.faults.NextError.{NextError}
use Rattle.av_frame.specs.declared.faults.NextError.TheVariants as next
use Rattle.av_frame.specs.declared.refusals.OptionError.{OptionError}
use Rattle.av_frame.specs.declared.refusals.OptionError.TheVariants as option
use Rattle.av_frame.specs.declared.refusals.ConfigError.{ConfigError}
use Rattle.av_frame.specs.declared.refusals.ConfigError.TheVariants as config
use Rattle.graph_plan.specs.declared.plan.PlanFault.{PlanFault}
use Rattle.graph_plan.specs.declared.plan.PlanFault.TheVariants as plan
use Rattle.graph_plan.specs.Refusals.{most_links}
use Rattle.av_faults.specs.declared.fault.Fault.{Fault}
use Rattle.av_faults.specs.declared.fault.LimitKind.TheVariants.{Links, Bytes}
use Rattle.av_faults.specs.declared.fault.Fault.TheVariants.{NotYet, TextFault, UnknownFilter, UnknownOption, TooManyValues, BadValue, MissingOption, PadCount, LabelTwice, UnknownInput, MediaMismatch, Cycle, OpenPad, Unmapped, NoSuchOutput, WrongKind, Limit, NotMedia, BadHeader, BadColour, BadFrame, Truncated, SizeMismatch, BadGeometry, TooLarge, TimeBaseRange, NoValue, OpenFault, ReadFault, WriteFault}
use Rattle.av_faults.specs.declared.fault.Stop.{Stop}
use Rattle.av_faults.specs.declared.fault.Stop.TheVariants as stop

-- what stops the command if a filter's arguments are rejected
abbrev pub option_stop : ℕ → OptionError → Stop
option_stop filter option.UnknownFilter = stop.Fault (UnknownFilter filter)
option_stop filter (option.UnknownOption k) = stop.Fault (UnknownOption filter k)
option_stop filter (option.TooManyValues k) = stop.Fault (TooManyValues filter k)
option_stop filter (option.BadValue k) = stop.Fault (BadValue filter k)
option_stop filter option.MissingOption = stop.Fault (MissingOption filter)
option_stop filter option.NotYet = stop.Fault NotYet
option_stop filter option.NoMemory = stop.NoMemory

-- what stops it if a filter can't be made ready
abbrev pub config_stop : ℕ → ConfigError → Stop
config_stop filter (config.SizeMismatch a b) = stop.Fault (SizeMismatch filter a b)
config_stop filter (config.BadGeometry found allowed) = stop.Fault (BadGeometry filter found allowed)
config_stop filter config.TimeBaseRange = stop.Fault (TimeBaseRange filter)
config_stop filter (config.TooLarge found allowed) = stop.Fault (TooLarge filter found allowed)
config_stop filter (config.NoValue k) = stop.Fault (NoValue filter k)
config_stop filter config.NoMemory = stop.NoMemory

-- a failed call of the host, or out of memory
abbrev pub IsHostStop : Stop → Type 0
IsHostStop (stop.Fault OpenFault) = Unit {0}
IsHostStop (stop.Fault ReadFault) = Unit {0}
IsHostStop (stop.Fault WriteFault) = Unit {0}
IsHostStop stop.NoMemory = Unit {0}
IsHostStop (stop.Fault other) = ⊥

-- what stops it if the header of the input is refused
abbrev pub head_stop : ℕ → HeadError → Stop
head_stop limit head.NotMedia = stop.Fault (NotMedia 0)
head_stop limit head.BadHeader = stop.Fault (BadHeader 0)
head_stop limit head.BadColour = stop.Fault (BadColour 0)
head_stop limit head.TooLong = stop.Fault (Limit Bytes 0 limit)
head_stop limit head.Host = stop.Fault ReadFault
head_stop limit head.NoMemory = stop.NoMemory

-- what stops it if a frame can't be read
abbrev pub next_stop : ℕ → NextError → Stop
next_stop limit (next.BadFrame k) = stop.Fault (BadFrame 0 k)
next_stop limit (next.Truncated k) = stop.Fault (Truncated 0 k)
next_stop limit next.TooLong = stop.Fault (Limit Bytes 0 limit)
next_stop limit next.Host = stop.Fault ReadFault
next_stop limit next.NoMemory = stop.NoMemory

-- the fault of the links or of the outputs
abbrev pub plan_fault : PlanFault → Fault
plan_fault plan.TooManyLinks = Limit Links 0 most_links
plan_fault (plan.PadCount filter) = PadCount filter
plan_fault (plan.LabelTwice filter) = LabelTwice filter
plan_fault (plan.UnknownInput filter) = UnknownInput filter
plan_fault (plan.MediaMismatch filter) = MediaMismatch filter
plan_fault (plan.Cycle filter) = Cycle filter
plan_fault (plan.OpenPad filter pad) = OpenPad filter pad
plan_fault (plan.NoSuchOutput output) = NoSuchOutput output
plan_fault (plan.Unmapped filter pad) = Unmapped filter pad
plan_fault (plan.WrongKind output) = WrongKind output

-- what stops the command if the filters can't be linked, or the outputs bound
abbrev pub plan_stop : PlanFault → Stop
plan_stop fault = stop.Fault (plan_fault fault)

-- what stops the command if there is no draft or no plan
abbrev pub plan_error_stop : Failure PlanFault → Stop
plan_error_stop (failure.Fault fault) = plan_stop fault
plan_error_stop failure.NoMemory = stop.NoMemory

-- what stops it if the graph text can't be read
abbrev pub text_stop : Failure ReadFaultOfText → Stop
text_stop (failure.Fault fault) = stop.Fault (TextFault fault.at fault.kind)
text_stop failure.NoMemory = stop.NoMemory

-- each count rises exactly with its fault
abbrev pub CountsStop : {T : Type 0} → Result T Stop → Faults → Faults → Type 0
CountsStop (Err (stop.Fault OpenFault)) old new = RaisesOpenings old new
CountsStop (Err (stop.Fault ReadFault)) old new = RaisesReads old new
CountsStop (Err (stop.Fault WriteFault)) old new = RaisesWrites old new
CountsStop other old new = new ≡ old
