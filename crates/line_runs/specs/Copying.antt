-- How the journal's lines are copied from the registers that are printed already.
use Rattle.std.specs.Prelude.{◌≡◌, ℕ, ◌+◌, ◌^◌, ◌<◌, List, [], ◌∷◌, ◌++◌, codes, decimal, length, slice_index_or}
use Rattle.std.specs.Option.{unwrap_or}
use Rattle.rail_text.specs.Lines.{cut_of}
use Rattle.line_plan.specs.Plans.{PlanFields}
use Rattle.line_law.specs.declared.call.Entry.{Entry}
use Rattle.line_law.specs.History.{part_of}
use Rattle.train_register.specs.Registers.{told_lines}
use Rattle.line_report.specs.Journals.{entries_text, heading_text}
use Rattle.line_report.specs.Refusals.{refused_entries}

-- what stands before the first line end of a text, and what behind it
abbrev pub first_line : List ℕ → List ℕ
first_line text = (cut_of 10 text).0

abbrev pub behind_line : List ℕ → List ℕ
behind_line text = unwrap_or (cut_of 10 text).1 []

-- what stands behind the first word of a line
abbrev pub behind_word : List ℕ → List ℕ
behind_word line = unwrap_or (cut_of 32 line).1 []

-- what stands on the first line of a text behind its first word: on a register's line, what was told
abbrev pub told_in : List ℕ → List ℕ
told_in text = behind_word (first_line text)

-- the lines of these entries in a register, numbered from some number on, and what stands behind them
abbrev pub AreToldLines : PlanFields → List Entry → List ℕ → Type 0
AreToldLines plan es lines =
    (n : ℕ) × (n + length es < 10 ^ 10) × ((behind : List ℕ) × (lines ≡ told_lines plan n es ++ behind))

-- of the register of each box, the lines of those of its entries that remain
pub record AreLinesLeft (plan : PlanFields) (es : List Entry) (lines : List (List ℕ)) : Type 0 where
  pub each : length lines ≡ length plan.boxes
  pub told : (b : ℕ) → b < length plan.boxes → AreToldLines plan (part_of b es) (slice_index_or lines b [])

-- what is copied of some entries: their lines in the journal, and those of them whose replies are refused
pub record CopiedFields : Type 0 where
  pub journal : List ℕ
  pub refused : List ℕ

-- these are copied of entries of which the first has this number in the journal, their lines behind what stood before
pub record AreCopied (plan : PlanFields) (before : List ℕ) (number : ℕ) (es : List Entry) (copied : CopiedFields)
    : Type 0 where
  pub journal : copied.journal ≡ before ++ entries_text plan number es
  pub refused : copied.refused ≡ refused_entries plan number es

-- what is copied of some entries and of those behind them
abbrev pub one_behind : CopiedFields → CopiedFields → CopiedFields
one_behind front behind =
    record { journal = front.journal ++ behind.journal; refused = front.refused ++ behind.refused }

-- these are copied of the front of a journal's entries, behind its first line, and of the others
pub record AreHalves (plan : PlanFields) (es : List Entry) (front behind : CopiedFields) : Type 0 where
  pub journal : front.journal ++ behind.journal ≡ heading_text plan ++ entries_text plan 1 es
  pub refused : front.refused ++ behind.refused ≡ refused_entries plan 1 es

-- what stands before the lines of so many refused calls
abbrev pub refusals_heading : ℕ → List ℕ
refusals_heading n = codes "refusals " ++ decimal n ++ 10 ∷ []
