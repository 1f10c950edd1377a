-- What stops a command, its status and its line.
use Rattle.std.specs.Prelude.{◌≡◌, ◌⊎◌, ℕ, List, [], ◌∷◌, ◌++◌, codes}
use Rattle.std.specs.Fmt.{decimal, signed_decimal}
use Rattle.av_base.specs.declared.failure.Failure.{Failure}
use Rattle.av_base.specs.declared.failure.Failure.TheVariants as failure
use Rattle.av_text.specs.declared.fault.TextKind.{TextKind}
use Rattle.av_text.specs.declared.fault.TextKind.TheVariants.{UnclosedQuote, LoneEscape, ExpectedName, BadLabel, Stray}
use Rattle.av_faults.specs.declared.fault.Fault.{Fault}
use Rattle.av_faults.specs.declared.fault.LimitKind.{LimitKind}
use Rattle.av_faults.specs.declared.fault.LimitKind.TheVariants.{Text, Inputs, Outputs, Filters, Links, Bytes}
use Rattle.av_faults.specs.declared.fault.Fault.TheVariants.{UnknownWord, MissingValue, BadNumber, BadEnding, SameName, NoGraph, NoOutput, NotYet, UnknownFilter, UnknownOption, TooManyValues, BadValue, MissingOption, PadCount, LabelTwice, UnknownInput, MediaMismatch, Cycle, OpenPad, Unmapped, NoSuchOutput, WrongKind, NotMedia, BadHeader, BadColour, NoCommonFormat, SizeMismatch, BadGeometry, TooLarge, TimeBaseRange, NoValue, NoRate, BadFrame, Truncated, OpenFault, ReadFault, WriteFault, TextFault, Limit}
use Rattle.av_faults.specs.declared.fault.Stop.{Stop}
use Rattle.av_faults.specs.declared.fault.Stop.TheVariants as stop

abbrev pub stop_status : Stop → ℕ
stop_status (stop.Fault (UnknownWord word)) = 2
stop_status (stop.Fault (MissingValue word)) = 2
stop_status (stop.Fault (BadNumber word)) = 2
stop_status (stop.Fault (BadEnding word)) = 2
stop_status (stop.Fault (SameName word)) = 2
stop_status (stop.Fault NoGraph) = 2
stop_status (stop.Fault NoOutput) = 2
stop_status (stop.Fault (TextFault at kind)) = 3
stop_status (stop.Fault (UnknownFilter filter)) = 4
stop_status (stop.Fault (UnknownOption filter option)) = 4
stop_status (stop.Fault (TooManyValues filter option)) = 4
stop_status (stop.Fault (BadValue filter option)) = 4
stop_status (stop.Fault (MissingOption filter)) = 4
stop_status (stop.Fault (PadCount filter)) = 5
stop_status (stop.Fault (LabelTwice filter)) = 5
stop_status (stop.Fault (UnknownInput filter)) = 5
stop_status (stop.Fault (MediaMismatch filter)) = 5
stop_status (stop.Fault (Cycle filter)) = 5
stop_status (stop.Fault (OpenPad filter pad)) = 5
stop_status (stop.Fault (Unmapped filter pad)) = 5
stop_status (stop.Fault (NoSuchOutput output)) = 5
stop_status (stop.Fault (WrongKind output)) = 5
stop_status (stop.Fault (NotMedia input)) = 6
stop_status (stop.Fault (BadHeader input)) = 6
stop_status (stop.Fault (BadColour input)) = 6
stop_status (stop.Fault (NoCommonFormat link)) = 7
stop_status (stop.Fault (SizeMismatch filter a b)) = 8
stop_status (stop.Fault (BadGeometry filter found allowed)) = 8
stop_status (stop.Fault (TooLarge filter found allowed)) = 8
stop_status (stop.Fault (TimeBaseRange filter)) = 8
stop_status (stop.Fault (NoValue filter option)) = 8
stop_status (stop.Fault (NoRate output)) = 8
stop_status (stop.Fault (BadFrame input frame)) = 9
stop_status (stop.Fault (Truncated input place)) = 9
stop_status (stop.Fault (Limit kind which allowed)) = 10
stop_status (stop.Fault OpenFault) = 11
stop_status (stop.Fault ReadFault) = 12
stop_status (stop.Fault WriteFault) = 13
stop_status stop.NoMemory = 14
stop_status (stop.Fault NotYet) = 15

abbrev pub kind_word : TextKind → List ℕ
kind_word UnclosedQuote = codes "UnclosedQuote"
kind_word LoneEscape = codes "LoneEscape"
kind_word ExpectedName = codes "ExpectedName"
kind_word BadLabel = codes "BadLabel"
kind_word Stray = codes "Stray"

abbrev pub limit_word : LimitKind → List ℕ
limit_word Text = codes "text"
limit_word Inputs = codes "inputs"
limit_word Outputs = codes "outputs"
limit_word Filters = codes "filters"
limit_word Links = codes "links"
limit_word Bytes = codes "bytes"

-- the name of a stop, and its fields
abbrev pub stop_text : Stop → List ℕ
stop_text (stop.Fault (UnknownWord word)) = codes "UnknownWord word=" ++ decimal word
stop_text (stop.Fault (MissingValue word)) = codes "MissingValue word=" ++ decimal word
stop_text (stop.Fault (BadNumber word)) = codes "BadNumber word=" ++ decimal word
stop_text (stop.Fault (BadEnding word)) = codes "BadEnding word=" ++ decimal word
stop_text (stop.Fault (SameName word)) = codes "SameName word=" ++ decimal word
stop_text (stop.Fault NoGraph) = codes "NoGraph"
stop_text (stop.Fault NoOutput) = codes "NoOutput"
stop_text (stop.Fault NotYet) = codes "NotYet"
stop_text (stop.Fault (UnknownFilter filter)) = codes "UnknownFilter filter=" ++ decimal filter
stop_text (stop.Fault (UnknownOption filter option)) = codes "UnknownOption filter=" ++ decimal filter ++ codes " option=" ++ decimal option
stop_text (stop.Fault (TooManyValues filter option)) = codes "TooManyValues filter=" ++ decimal filter ++ codes " option=" ++ decimal option
stop_text (stop.Fault (BadValue filter option)) = codes "BadValue filter=" ++ decimal filter ++ codes " option=" ++ decimal option
stop_text (stop.Fault (MissingOption filter)) = codes "MissingOption filter=" ++ decimal filter
stop_text (stop.Fault (PadCount filter)) = codes "PadCount filter=" ++ decimal filter
stop_text (stop.Fault (LabelTwice filter)) = codes "LabelTwice filter=" ++ decimal filter
stop_text (stop.Fault (UnknownInput filter)) = codes "UnknownInput filter=" ++ decimal filter
stop_text (stop.Fault (MediaMismatch filter)) = codes "MediaMismatch filter=" ++ decimal filter
stop_text (stop.Fault (Cycle filter)) = codes "Cycle filter=" ++ decimal filter
stop_text (stop.Fault (OpenPad filter pad)) = codes "OpenPad filter=" ++ decimal filter ++ codes " pad=" ++ decimal pad
stop_text (stop.Fault (Unmapped filter pad)) = codes "Unmapped filter=" ++ decimal filter ++ codes " pad=" ++ decimal pad
stop_text (stop.Fault (NoSuchOutput output)) = codes "NoSuchOutput output=" ++ decimal output
stop_text (stop.Fault (WrongKind output)) = codes "WrongKind output=" ++ decimal output
stop_text (stop.Fault (NotMedia input)) = codes "NotMedia input=" ++ decimal input
stop_text (stop.Fault (BadHeader input)) = codes "BadHeader input=" ++ decimal input
stop_text (stop.Fault (BadColour input)) = codes "BadColour input=" ++ decimal input
stop_text (stop.Fault (NoCommonFormat link)) = codes "NoCommonFormat link=" ++ decimal link
stop_text (stop.Fault (SizeMismatch filter a b)) = codes "SizeMismatch filter=" ++ decimal filter ++ codes " a=" ++ decimal a ++ codes " b=" ++ decimal b
stop_text (stop.Fault (BadGeometry filter found allowed)) =
    codes "BadGeometry filter=" ++ decimal filter ++ codes " found=" ++ signed_decimal found ++ codes " allowed=" ++ signed_decimal allowed
stop_text (stop.Fault (TooLarge filter found allowed)) = codes "TooLarge filter=" ++ decimal filter ++ codes " found=" ++ decimal found ++ codes " allowed=" ++ decimal allowed
stop_text (stop.Fault (TimeBaseRange filter)) = codes "TimeBaseRange filter=" ++ decimal filter
stop_text (stop.Fault (NoValue filter option)) = codes "NoValue filter=" ++ decimal filter ++ codes " option=" ++ decimal option
stop_text (stop.Fault (NoRate output)) = codes "NoRate output=" ++ decimal output
stop_text (stop.Fault (BadFrame input frame)) = codes "BadFrame input=" ++ decimal input ++ codes " frame=" ++ decimal frame
stop_text (stop.Fault (Truncated input place)) = codes "Truncated input=" ++ decimal input ++ codes " place=" ++ decimal place
stop_text (stop.Fault OpenFault) = codes "OpenFault count=1"
stop_text (stop.Fault ReadFault) = codes "ReadFault count=1"
stop_text (stop.Fault WriteFault) = codes "WriteFault count=1"
stop_text (stop.Fault (TextFault at kind)) = codes "TextFault at=" ++ decimal at ++ codes " kind=" ++ kind_word kind
stop_text (stop.Fault (Limit kind which allowed)) =
    codes "Limit kind=" ++ limit_word kind ++ codes " which=" ++ decimal which ++ codes " allowed=" ++ decimal allowed
stop_text stop.NoMemory = codes "NoMemory"

abbrev pub stop_line : Stop → List ℕ
stop_line stops = codes "avgraph: " ++ stop_text stops ++ 10 ∷ []

-- what stops the command if a call returns no value
abbrev pub stop_of : Failure Fault → Stop
stop_of (failure.Fault fault) = stop.Fault fault
stop_of failure.NoMemory = stop.NoMemory

-- the statuses of faults of the words, of the graph text, of its filters' names and options, of its links, and of what can't
-- be done today
abbrev pub IsOfWords : ℕ → Type 0
IsOfWords status = (status ≡ 2) ⊎ ((status ≡ 3) ⊎ ((status ≡ 4) ⊎ ((status ≡ 5) ⊎ (status ≡ 15))))

-- the statuses of faults of a file, and of what filters make of its shape
abbrev pub IsOfFile : ℕ → Type 0
IsOfFile status = (status ≡ 6) ⊎ ((status ≡ 7) ⊎ ((status ≡ 8) ⊎ (status ≡ 9)))

-- the status of a limit that is passed: one of the words and the graph, or that of an input's bytes
abbrev pub IsOfLimit : ℕ → Type 0
IsOfLimit status = status ≡ 10
