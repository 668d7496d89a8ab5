-- What is printed where a line is worked.
use Rattle.std.proofs.Common.{◌≡◌, ℕ, List, ◌∷◌, Option, Result, Ok, refl, ap, subst, ◌∙◌}
use Rattle.rail_text.specs.Bytes.{appended}
use Rattle.box_top.specs.declared.status.Status.{Status}
use Rattle.box_top.specs.declared.status.Status.TheVariants as statuses
use Rattle.text_fetch.specs.declared.stop.Stop.{Stop}
use Rattle.line_runs.specs.Made.{IsSummaryOf}
use Rattle.line_runs.specs.Outputs.{IsOutputOf, MakesText, MayCome}
use Rattle.line_runs.specs.Watched.{IsWatchOf}
use Rattle.line_runs.proofs.OutputRead.{output_read}
use Rattle.text_fetch.specs.FromTexts.{AreTold, Held, FromTexts, Untold, Gives, Refuses}
use Rattle.text_fetch.specs.Runs.{Run, run_told}
use Rattle.box_top.specs.Headlines.{PrintsBoard, PrintsJournal, PrintsSummary}
use Rattle.box_top.specs.Top.{PutOutcome}
use Rattle.box_top.proofs.AllTold.{IsTold, told_run}
use Rattle.box_top.proofs.Outcomes.{IsPut, outcome_done}
use Rattle.box_top.proofs.WatchRead.{watch_read}

-- ---- a run, and one that is watched

-- the texts of these names spell a run, and the bytes taken are a text that comes of it
record IsWorked (Comes : Run → List ℕ → Type 0) (held : Held) (name : List ℕ) (names : List (List ℕ))
    (old new : Option (List ℕ)) : Type 0 where
  pub run : Run
  pub spelled : run_told held name names ≡ Gives run
  pub text : List ℕ
  pub comes : Comes run text
  pub taken : new ≡ appended old text

worked_done : {X : Type 0} (Comes : Run → List ℕ → Type 0) (outcome : Result X Stop) (view : X → List ℕ) (held : Held)
    (name : List ℕ) (names : List (List ℕ)) (old new : Option (List ℕ)) (status : Status)
    → MakesText Comes view outcome (run_told held name names) → PutOutcome view outcome old new status
    → status ≡ statuses.Done → AreTold held (name ∷ names) → IsWorked Comes held name names old new
worked_done {X = X} Comes outcome view held name names old new status made put e told =
    go (outcome_done outcome view old new status put e)
  where
    prints : (text : List ℕ) (t : FromTexts Run) → new ≡ appended old text → run_told held name names ≡ t → IsTold t
        → MayCome Comes text t → IsWorked Comes held name names old new
    prints text Untold taken is told h = absurd told
    prints text (Gives run) taken is told h = record { run = run; spelled = is; text = text; comes = h; taken = taken }
    prints text (Refuses n fault) taken is told h = absurd h

    go : IsPut outcome view old new → IsWorked Comes held name names old new
    go p =
        let made_so : MakesText Comes view (Ok p.made) (run_told held name names) =
        subst (λ (o : Result X Stop). MakesText Comes view o (run_told held name names)) p.is made in
        prints (view p.made) (run_told held name names) p.taken refl (told_run held name names told) made_so

-- where a run is done, and the shelf tells its texts, these spell the run, and the whole output of one of its
-- journals was taken
pub run_done : {X : Type 0} (outcome : Result X Stop) (view : X → List ℕ) (held : Held) (name : List ℕ)
    (names : List (List ℕ)) (old new : Option (List ℕ)) (status : Status)
    → MakesText IsOutputOf view outcome (run_told held name names) → PutOutcome view outcome old new status
    → status ≡ statuses.Done → AreTold held (name ∷ names) → PrintsJournal held name names old new
run_done outcome view held name names old new status made put e told =
    let p = worked_done IsOutputOf outcome view held name names old new status made put e told in
    record {
      run = p.run;
      spelled = p.spelled;
      journal = p.comes.0;
      is = p.comes.1;
      taken = p.taken ∙ ap (appended old) p.comes.2;
      read = output_read p.run p.comes.0 p.comes.1;
    }

-- where a watched run is done, and the shelf tells its texts, these spell the run, and the whole output of one of
-- its journals, with a board of so many rounds, was taken
pub watch_done : {X : Type 0} (n : ℕ) (outcome : Result X Stop) (view : X → List ℕ) (held : Held) (name : List ℕ)
    (names : List (List ℕ)) (old new : Option (List ℕ)) (status : Status)
    → MakesText (IsWatchOf n) view outcome (run_told held name names) → PutOutcome view outcome old new status
    → status ≡ statuses.Done → AreTold held (name ∷ names) → PrintsBoard n held name names old new
watch_done n outcome view held name names old new status made put e told =
    let p = worked_done (IsWatchOf n) outcome view held name names old new status made put e told in
    record {
      run = p.run;
      spelled = p.spelled;
      journal = p.comes.0;
      is = p.comes.2;
      rounds = p.comes.1;
      count = p.comes.3;
      board = p.comes.4;
      taken = p.taken ∙ ap (appended old) p.comes.5;
      read = watch_read p.run p.comes.0 p.comes.1 p.comes.2;
    }

-- ---- a made line

-- where the work of a made line is done, the summary of a journal of that line was taken
pub stress_done : {X : Type 0} (n : ℕ) (outcome : Result X Stop) (view : X → List ℕ) (old new : Option (List ℕ))
    (status : Status) → MakesText IsSummaryOf view outcome (Gives n) → PutOutcome view outcome old new status
    → status ≡ statuses.Done → PrintsSummary n old new
stress_done {X = X} n outcome view old new status made put e = go (outcome_done outcome view old new status put e)
  where
    go : IsPut outcome view old new → PrintsSummary n old new
    go p =
        let is : IsSummaryOf n (view p.made) =
        subst (λ (o : Result X Stop). MakesText IsSummaryOf view o (Gives n)) p.is made in
        record {
          plan = is.plan;
          spelled = is.spelled;
          journal = is.journal;
          is = is.is;
          taken = p.taken ∙ ap (appended old) is.printed;
        }
