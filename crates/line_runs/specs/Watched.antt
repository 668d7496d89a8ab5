-- What `watch` prints: the output of a run, and then the indicator board.
use Rattle.std.specs.Prelude.{◌≡◌, ℕ, List, ◌++◌, length}
use Rattle.line_plan.specs.Plans.{PlanFields}
use Rattle.line_law.specs.declared.call.Entry.{Entry}
use Rattle.line_law.specs.History.{IsLegal}
use Rattle.line_watch.specs.declared.sight.Sight.{Sight}
use Rattle.line_watch.specs.Boards.{BoardFields, board_text}
use Rattle.line_watch.specs.Shown.{IsBoardOf}
use Rattle.text_fetch.specs.Runs.{Run}
use Rattle.train_register.specs.Registers.{AreParts, RegisterFields}
use Rattle.line_runs.specs.Outputs.{output_text}
use Rattle.line_runs.specs.Worked.{IsJournalOf}

-- the whole output of a run, and then a board of these rounds
unfoldable pub watch_text : PlanFields → List Entry → List (List Sight) → List ℕ
watch_text plan journal rounds = output_text plan journal ++ board_text plan rounds

-- a text is what a watch of so many rounds prints of this run: the whole output of a journal of the run, and a board of
-- that journal
abbrev pub IsWatchOf : ℕ → Run → List ℕ → Type 0
IsWatchOf n run text = (journal : List Entry) × (rounds : List (List Sight)) × IsJournalOf run journal
    × (length rounds ≡ n) × IsBoardOf run.plan journal rounds × (text ≡ watch_text run.plan journal rounds)

-- ---- a line that is watched while it is worked

-- all of so many rounds of a board for the line of a plan are filled
pub record IsFilled (plan : PlanFields) (n : ℕ) (board : BoardFields) : Type 0 where
  pub boxes : board.boxes ≡ length plan.boxes
  pub left : board.left ≡ 0
  pub rounds : length board.rounds ≡ n

-- rounds are a board of each legal history with the parts that these registers have
abbrev pub AreRoundsOf : PlanFields → List RegisterFields → List (List Sight) → Type 0
AreRoundsOf plan registers rounds = (journal : List Entry) → IsLegal plan journal → AreParts plan journal registers
    → IsBoardOf plan journal rounds
