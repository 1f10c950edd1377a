-- Results of calls that find a fault, or run out of memory.
use Rattle.std.specs.Prelude.{Result, Ok, Err}
use Rattle.av_base.specs.declared.failure.Failure.{Failure}
use Rattle.av_base.specs.declared.failure.Failure.TheVariants.{Fault, NoMemory}

-- a fault that is returned
abbrev pub IfFault : {X F : Type 0} → Result X (Failure F) → (F → Type 0) → Type 0
IfFault (Ok x) P = Unit {0}
IfFault (Err (Fault f)) P = P f
IfFault (Err NoMemory) P = Unit {0}

-- such a value, or out of memory
abbrev pub Gives : {X F : Type 0} → (X → Type 0) → Result X (Failure F) → Type 0
Gives P (Ok x) = P x
Gives P (Err (Fault f)) = ⊥
Gives P (Err NoMemory) = Unit {0}

-- such a fault, or out of memory
abbrev pub Refuses : {X F : Type 0} → (F → Type 0) → Result X (Failure F) → Type 0
Refuses P (Ok x) = ⊥
Refuses P (Err (Fault f)) = P f
Refuses P (Err NoMemory) = Unit {0}
