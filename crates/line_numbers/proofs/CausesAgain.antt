-- A cause is found again from its number.
use Rattle.std.proofs.Common.{◌≡◌, Some, refl}
use Rattle.rail_text.specs.declared.cause.Cause.{Cause}
use Rattle.rail_text.specs.declared.cause.Cause.TheVariants.{TooLong}
use Rattle.line_numbers.specs.CauseNumbers.{cause_in, cause_number}

pub cause_again : (cause : Cause) → cause_in (cause_number cause) ≡ Some cause
cause_again TooLong = refl
cause_again cause = refl
