-- A text has one reading or one fault.
use Rattle.std.specs.Prelude.{◌≡◌, ◌⊎◌, ℕ, List}
use Rattle.av_text.specs.Tokens.{IsToken}
use Rattle.av_text.specs.Faults.{IsTokenFault}
use Rattle.av_text.specs.Arguments.{AreArgs, IsArgsFault}
use Rattle.av_text.specs.declared.fault.TextKind.{TextKind}
use Rattle.av_text.specs.declared.arguments.Arg.{Arg}

pub record TokensHaveOneReading : Type 0 where
  pub one_token : (specials text v w r s : List ℕ) → IsToken specials text v r → IsToken specials text w s → (v ≡ w) × (r ≡ s)
  pub one_fault : (specials text r s : List ℕ) (k l : TextKind) → IsTokenFault specials text k r → IsTokenFault specials text l s → (k ≡ l) × (r ≡ s)
  pub not_both : (specials text v r s : List ℕ) (k : TextKind) → IsToken specials text v r → IsTokenFault specials text k s → ⊥
  pub one_of_both : (specials text : List ℕ) → ((value rest : List ℕ) × IsToken specials text value rest) ⊎ ((kind : TextKind) × (bad : List ℕ) × IsTokenFault specials text kind bad)

pub record ArgsHaveOneReading : Type 0 where
  pub one_list : (text : List ℕ) (a b : List Arg) → AreArgs text a → AreArgs text b → a ≡ b
  pub one_fault : (text r s : List ℕ) (k l : TextKind) → IsArgsFault text k r → IsArgsFault text l s → (k ≡ l) × (r ≡ s)
  pub not_both : (text s : List ℕ) (a : List Arg) (k : TextKind) → AreArgs text a → IsArgsFault text k s → ⊥
  pub one_of_both : (text : List ℕ) → ((args : List Arg) × AreArgs text args) ⊎ ((kind : TextKind) × (bad : List ℕ) × IsArgsFault text kind bad)
