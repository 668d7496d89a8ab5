-- The numbers of causes, and the cause that has a number.
use Rattle.std.specs.Prelude.{ℕ, ◌-◌, ◌==◌, List, [], ◌∷◌, Option, None, if◌then◌else◌, slice_get}
use Rattle.rail_text.specs.declared.cause.Cause.{Cause}
use Rattle.rail_text.specs.declared.cause.Cause.TheVariants.{TooLong, ScriptCount, Cut, BadByte, LongLine, Spacing}
use Rattle.rail_text.specs.declared.cause.Cause.TheVariants.{AfterEnd, NoEnd, WrongKeyword, WordCount, BadNumber}
use Rattle.rail_text.specs.declared.cause.Cause.TheVariants.{OutOfRange, BadName, NameTwice, UnknownName, BadCode}
use Rattle.rail_text.specs.declared.cause.Cause.TheVariants.{CodeTwice, UnknownWord, LeverOrder, UnknownLever}
use Rattle.rail_text.specs.declared.cause.Cause.TheVariants.{WrongKind, Taken, NoLine, BerthEntered, NoHome, NoBerth}
use Rattle.rail_text.specs.declared.cause.Cause.TheVariants.{SamePlace, BadRow, SameLever, TooMany, TooFewBoxes}
use Rattle.rail_text.specs.declared.cause.Cause.TheVariants.{WrongBox, BadMoment, MomentFalls, UnknownCode, NoArm}
use Rattle.rail_text.specs.declared.cause.Cause.TheVariants.{OtherBox, BadReply, WrongCount}

-- the number of a cause, in their order from 1
abbrev pub cause_number : Cause → ℕ
cause_number TooLong = 1
cause_number ScriptCount = 2
cause_number Cut = 3
cause_number BadByte = 4
cause_number LongLine = 5
cause_number Spacing = 6
cause_number AfterEnd = 7
cause_number NoEnd = 8
cause_number WrongKeyword = 9
cause_number WordCount = 10
cause_number BadNumber = 11
cause_number OutOfRange = 12
cause_number BadName = 13
cause_number NameTwice = 14
cause_number UnknownName = 15
cause_number BadCode = 16
cause_number CodeTwice = 17
cause_number UnknownWord = 18
cause_number LeverOrder = 19
cause_number UnknownLever = 20
cause_number WrongKind = 21
cause_number Taken = 22
cause_number NoLine = 23
cause_number BerthEntered = 24
cause_number NoHome = 25
cause_number NoBerth = 26
cause_number SamePlace = 27
cause_number BadRow = 28
cause_number SameLever = 29
cause_number TooMany = 30
cause_number TooFewBoxes = 31
cause_number WrongBox = 32
cause_number BadMoment = 33
cause_number MomentFalls = 34
cause_number UnknownCode = 35
cause_number NoArm = 36
cause_number OtherBox = 37
cause_number BadReply = 38
cause_number WrongCount = 39

-- the causes in their order
abbrev pub all_causes : List Cause
all_causes =
    TooLong
    ∷ ScriptCount
    ∷ Cut
    ∷ BadByte
    ∷ LongLine
    ∷ Spacing
    ∷ AfterEnd
    ∷ NoEnd
    ∷ WrongKeyword
    ∷ WordCount
    ∷ BadNumber
    ∷ OutOfRange
    ∷ BadName
    ∷ NameTwice
    ∷ UnknownName
    ∷ BadCode
    ∷ CodeTwice
    ∷ UnknownWord
    ∷ LeverOrder
    ∷ UnknownLever
    ∷ WrongKind
    ∷ Taken
    ∷ NoLine
    ∷ BerthEntered
    ∷ NoHome
    ∷ NoBerth
    ∷ SamePlace
    ∷ BadRow
    ∷ SameLever
    ∷ TooMany
    ∷ TooFewBoxes
    ∷ WrongBox
    ∷ BadMoment
    ∷ MomentFalls
    ∷ UnknownCode
    ∷ NoArm
    ∷ OtherBox
    ∷ BadReply
    ∷ WrongCount
    ∷ []

-- the cause with this number; none for 0, and where no cause has it
abbrev pub cause_in : ℕ → Option Cause
cause_in n = if n == 0 then None else slice_get all_causes (n - 1)
