-- How boxes stand, one after another.
use Rattle.std.proofs.Common.{◌≡◌, ℕ, ◌+◌, ◌<◌, ◌≤◌, Bool, true, false, cond, List, [], ◌∷◌, ◌++◌, Option, Some, None}
use Rattle.std.proofs.Common.{length, drop, refl, sym, ap, ◌∙◌, subst, arith, append_assoc, is_some}
use Rattle.std.proofs.lemmas.List.{append-nil, drop_all, drop_more}
use Rattle.line_plan.specs.Plans.{PlanFields}
use Rattle.line_law.specs.declared.call.Call.{Call}
use Rattle.line_law.specs.History.{entry_of}
use Rattle.line_law.specs.Law.{step}
use Rattle.line_law.specs.Serial.{calls_left, first_free, is_not_yet, may_go}
use Rattle.line_law.specs.States.{LineState}
use Rattle.line_rehearsal.specs.declared.rehearsal.Rehearsal.{Rehearsal}
use Rattle.line_rehearsal.specs.declared.stop.Stop.{Stop}
use Rattle.line_rehearsal.specs.Stops.{stop_of}
use Rattle.line_rehearsal.proofs.Free.{found_free, free_from, none_free, passed_over}
use Rattle.script_text.specs.Entries.{IsSpelled}
use Rattle.script_text.specs.declared.script.Script.{Script}
use Rattle.serial_working.specs.Rosters.{head_of}
use Rattle.serial_working.proofs.LeftOf.{roster-length}
use Rattle.rehearsal_report.specs.Accounts.{left_in}
use Rattle.rehearsal_report.specs.CallLines.{NamedText, text_at}
use Rattle.rehearsal_report.specs.Reports.{Told}
use Rattle.rehearsal_report.specs.Standings.{is_free, standing_at, standing_by, standing_of}
use Rattle.rehearsal_report.specs.Standings.{standing_row, standing_rows}
use Rattle.rehearsal_report.specs.declared.standings.Standing.TheVariants.{Done, Stopped, Free}

-- ---- one box

-- a box may go on exactly where it is free
free_is : (plan : PlanFields) (state : LineState) (b made : ℕ) (calls : List Call)
    → is_free (standing_of plan state b made calls) ≡ may_go plan state b calls
free_is plan state b made [] = refl
free_is plan state b made (call ∷ calls) = go (is_not_yet (step plan state b call).reply) where
  go : (t : Bool)
      → is_free
      (standing_by (Some call)
      (cond t (Some (record { call = call; number = made + 1; reply = (step plan state b call).reply })) None) made)
      ≡ cond t false true
  go true = refl
  go false = refl

-- the entry of the await at which a man is stopped is the one that would come next
pub stopped_known : (plan : PlanFields) (state : LineState) (b made : ℕ) (calls : List Call) (stop : Stop)
    → Some stop ≡ stop_of plan state b made calls
    → ((call : Call) → head_of calls ≡ Some call → IsSpelled plan (entry_of plan state b call))
    → IsSpelled plan (record { box_no = b; call = stop.call; reply = stop.reply })
stopped_known plan state b made [] stop e next = absurd cc
stopped_known plan state b made (call ∷ calls) stop e next =
    go (is_not_yet (step plan state b call).reply) e where
      found : Stop
      found = record { call = call; number = made + 1; reply = (step plan state b call).reply }

      go : (t : Bool) → Some stop ≡ cond t (Some found) None
          → IsSpelled plan (record { box_no = b; call = stop.call; reply = stop.reply })
      go true f = let same : found ≡ stop = cc in
          subst (λ (s : Stop). IsSpelled plan (record { box_no = b; call = s.call; reply = s.reply })) same
          (next call refl)
      go false f = absurd cc

pub stands_stopped : (plan : PlanFields) (state : LineState) (b made : ℕ) (calls : List Call) (stop : Stop)
    → Some stop ≡ stop_of plan state b made calls → Stopped stop ≡ standing_of plan state b made calls
stands_stopped plan state b made calls stop e =
    ap (λ (o : Option Stop). standing_by (head_of calls) o made) e

pub stands_free : (plan : PlanFields) (state : LineState) (b made number : ℕ) (calls : List Call) (call : Call)
    → None ≡ stop_of plan state b made calls → Some call ≡ head_of calls → number ≡ made + 1
    → Free call number ≡ standing_of plan state b made calls
stands_free plan state b made number calls call e head is =
    ap (λ (n : ℕ). Free call n) is ∙ ap (λ (o : Option Stop). standing_by (Some call) o made) e
    ∙ ap (λ (o : Option Call). standing_by o (stop_of plan state b made calls) made) head

pub stands_done : (plan : PlanFields) (state : LineState) (b made : ℕ) (calls : List Call)
    → None ≡ stop_of plan state b made calls → None ≡ head_of calls
    → Done ≡ standing_of plan state b made calls
stands_done plan state b made calls e head =
    ap (λ (o : Option Stop). standing_by None o made) e
    ∙ ap (λ (o : Option Call). standing_by o (stop_of plan state b made calls) made) head

-- ---- the first that is free

-- a box that may not go on is passed over in the search for the lowest that may
pub not_free : (plan : PlanFields) (scripts : List Script) (rehearsal : Rehearsal) (i : ℕ) → i < length scripts
    → is_free (standing_at plan scripts rehearsal i) ≡ false
    → free_from plan rehearsal.line.line (left_in scripts rehearsal) i
    ≡ free_from plan rehearsal.line.line (left_in scripts rehearsal) (i + 1)
not_free plan scripts rehearsal i lt e =
    let left = left_in scripts rehearsal in
    passed_over plan rehearsal.line.line left i (omega (arith, roster-length scripts rehearsal.made.items))
    (sym (free_is plan rehearsal.line.line i _ (calls_left left i)) ∙ e)

pub is_one : (plan : PlanFields) (scripts : List Script) (rehearsal : Rehearsal) (i : ℕ) → i < length scripts
    → is_free (standing_at plan scripts rehearsal i) ≡ true
    → free_from plan rehearsal.line.line (left_in scripts rehearsal) i
    ≡ free_from plan rehearsal.line.line (left_in scripts rehearsal) 0
    → true ≡ is_some (first_free plan rehearsal.line.line 0 (left_in scripts rehearsal))
is_one plan scripts rehearsal i lt e same =
    let left = left_in scripts rehearsal in
    let found =
    found_free plan rehearsal.line.line left i (omega (arith, roster-length scripts rehearsal.made.items))
    (sym (free_is plan rehearsal.line.line i _ (calls_left left i)) ∙ e) in
    ap (λ (o : Option ℕ). is_some o) (sym found ∙ same)

-- where the search has come behind the last box, no box may go on
pub is_none_free : (plan : PlanFields) (scripts : List Script) (rehearsal : Rehearsal) (i : ℕ) → length scripts ≤ i
    → free_from plan rehearsal.line.line (left_in scripts rehearsal) i
    ≡ free_from plan rehearsal.line.line (left_in scripts rehearsal) 0
    → false ≡ is_some (first_free plan rehearsal.line.line 0 (left_in scripts rehearsal))
is_none_free plan scripts rehearsal i le same =
    let left = left_in scripts rehearsal in
    let none =
    none_free plan rehearsal.line.line left i (omega (arith, roster-length scripts rehearsal.made.items)) in
    ap (λ (o : Option ℕ). is_some o) (sym none ∙ same)

-- ---- the lines of all boxes

-- the line of the next box stands behind those told, and those of the boxes behind it are still to come
pub rows_more : (plan : PlanFields) (scripts : List Script) (texts : List NamedText) (rehearsal : Rehearsal) (i : ℕ)
    (row : Told) (rows more whole : List Told) → i < length scripts
    → rows ++ standing_rows plan texts rehearsal i (drop i (left_in scripts rehearsal)) ≡ whole
    → row ≡ standing_row plan (text_at texts i) (standing_at plan scripts rehearsal i) → more ≡ rows ++ row ∷ []
    → more ++ standing_rows plan texts rehearsal (i + 1) (drop (i + 1) (left_in scripts rehearsal)) ≡ whole
rows_more plan scripts texts rehearsal i row rows more whole lt so is push =
    let left = left_in scripts rehearsal in
    let rest = standing_rows plan texts rehearsal (i + 1) (drop (i + 1) left) in
    let here = drop_more left i [] (omega (arith, roster-length scripts rehearsal.made.items)) in
    ap (λ (xs : List Told). xs ++ rest) push ∙ append_assoc rows (row ∷ []) rest
    ∙ ap (λ (r : Told). rows ++ r ∷ rest) is
    ∙ ap (λ (xs : List (List Call)). rows ++ standing_rows plan texts rehearsal i xs) (sym here) ∙ so

-- behind the last box, the lines told are all
pub rows_all : (plan : PlanFields) (scripts : List Script) (texts : List NamedText) (rehearsal : Rehearsal) (i : ℕ)
    (rows whole : List Told) → length scripts ≤ i
    → rows ++ standing_rows plan texts rehearsal i (drop i (left_in scripts rehearsal)) ≡ whole → rows ≡ whole
rows_all plan scripts texts rehearsal i rows whole le so =
    let left = left_in scripts rehearsal in
    let none = drop_all i left (omega (arith, roster-length scripts rehearsal.made.items)) in
    sym (append-nil rows)
    ∙ ap (λ (xs : List (List Call)). rows ++ standing_rows plan texts rehearsal i xs) (sym none) ∙ so
