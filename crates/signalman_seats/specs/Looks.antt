-- The looks of an await that was not satisfied.
use Rattle.std.specs.Prelude.{◌≡◌, ℕ, false, List, [], ◌∷◌, length}
use mathlib.Core.List.{IsPrefix}
use Rattle.line_plan.specs.Plans.{PlanFields}
use Rattle.line_law.specs.declared.call.Call.{Call}
use Rattle.line_law.specs.declared.call.Entry.{Entry}
use Rattle.line_law.specs.History.{IsLegal}
use Rattle.line_law.specs.Law.{box_plan_of}
use Rattle.word_laws.specs.Operations.{met_by}
use Rattle.word_laws.specs.WordNumbers.{Word, number_after}
use Rattle.instrument_rule.specs.Calls.{here_at}

-- Looks of an await of box b at this word, the last first, each by the history that was seen at it. That is legal and
-- begins with what was seen before the look; after it the word isn't what the await looks for.
abbrev pub WereInVain : PlanFields → ℕ → Call → Word → List Entry → List (List Entry) → List Entry → Type 0
WereInVain plan b call word before [] after = IsPrefix before after
WereInVain plan b call word before (log ∷ logs) after =
    IsPrefix log after × IsLegal plan log
    × (met_by (box_plan_of plan b) call.act (here_at plan log b call) (number_after plan log word) ≡ false)
    × WereInVain plan b call word before logs log

-- between these two histories an await of box b looked so many times at this word, and each time in vain
abbrev pub InVain : PlanFields → ℕ → Call → Word → ℕ → List Entry → List Entry → Type 0
InVain plan b call word looks before after =
    (logs : List (List Entry)) × (length logs ≡ looks) × WereInVain plan b call word before logs after
