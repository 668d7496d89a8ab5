-- A line that is watched while its men work, and the board of its journal.
use Rattle.std.proofs.Common.{◌≡◌, ℕ, List, [], ◌++◌, length, sym, ap, subst, ◌∙◌}
use Rattle.atomic_table.specs.Seated.{TableId}
use Rattle.line_plan.specs.Plans.{IsPlan, PlanFields}
use Rattle.line_law.specs.declared.call.Entry.{Entry}
use Rattle.line_watch.specs.declared.sight.Sight.{Sight}
use Rattle.line_watch.specs.Boards.{BoardFields}
use Rattle.signalman_seats.specs.Lines.{AreMen, Closed}
use Rattle.signalman_seats.specs.Men.{Man}
use Rattle.train_register.specs.Registers.{RegisterFields}
use Rattle.watch_working.specs.Watched.{IsWatched}
use Rattle.watch_working.proofs.Shows.{watched_board}
use Rattle.line_runs.specs.Watched.{AreRoundsOf, IsFilled}

-- a blank board for the line of a plan
abbrev blank_board : PlanFields → ℕ → BoardFields
blank_board plan n = record { boxes = length plan.boxes; left = n; rounds = [] }

-- the rounds of a board that was blank are those that were put on it
pub all_rounds : (plan : PlanFields) (old new : BoardFields) (rounds : List (List Sight))
    → old ≡ blank_board plan old.left → new ≡ record { boxes = old.boxes; left = 0; rounds = old.rounds ++ rounds }
    → new.rounds ≡ rounds
all_rounds plan old new rounds blank e =
    ap (λ (b : BoardFields). b.rounds) e
    ∙ ap (λ (before : List (List Sight)). before ++ rounds) (ap (λ (b : BoardFields). b.rounds) blank)

-- a blank board is filled once as many rounds are put on it as it had left
pub all_filled : (plan : PlanFields) (old new : BoardFields) (rounds : List (List Sight))
    → old ≡ blank_board plan old.left → new ≡ record { boxes = old.boxes; left = 0; rounds = old.rounds ++ rounds }
    → length rounds ≡ old.left → IsFilled plan old.left new
all_filled plan old new rounds blank e count = record {
  boxes = ap (λ (b : BoardFields). b.boxes) e ∙ ap (λ (b : BoardFields). b.boxes) blank;
  left = ap (λ (b : BoardFields). b.left) e;
  rounds = ap (λ (rs : List (List Sight)). length rs) (all_rounds plan old new rounds blank e) ∙ count;
}

-- the rounds that were filled while men worked are a board of each legal history whose parts their registers are
pub rounds_shown : (table_id : TableId) (plan key : PlanFields) (men written : List Man)
    (rounds all : List (List Sight)) (log : List Entry) (registers : List RegisterFields) → IsPlan plan → key ≡ plan
    → written ≡ men → all ≡ rounds → AreMen table_id key written → IsWatched key men rounds log
    → Closed key written registers
    → AreRoundsOf plan registers all
rounds_shown table_id plan key men written rounds all log registers is of back same are watched closed =
    subst (λ (rs : List (List Sight)). AreRoundsOf plan registers rs) (sym same)
    (λ journal legal parts. watched_board table_id plan men rounds log journal registers is
    (subst (λ (p : PlanFields). AreMen table_id p men) of (subst (λ (ms : List Man). AreMen table_id key ms) back are))
    (subst (λ (p : PlanFields). IsWatched p men rounds log) of watched)
    (subst (λ (p : PlanFields). Closed p men registers) of
    (subst (λ (ms : List Man). Closed key ms registers) back closed)) legal parts)
