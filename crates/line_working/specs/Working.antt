-- What it takes to work the scripts of a line, and what it comes to.
use Rattle.std.specs.Prelude.{◌≡◌, ℕ, ◌+◌, ◌*◌, ◌<◌, ◌≤◌, List, [], ◌∷◌, ◌++◌, length, map, count_by, slice_index_or}
use mathlib.Core.List.{IsPrefix}
use Rattle.atomic_table.specs.Seated.{TableId}
use Rattle.line_plan.specs.Plans.{PlanFields}
use Rattle.line_law.specs.declared.call.Call.{Call}
use Rattle.line_law.specs.declared.call.Entry.{Entry}
use Rattle.line_law.specs.History.{IsLegal, part_of}
use Rattle.line_law.specs.Serial.{AreCalls, is_not_yet}
use Rattle.script_text.specs.declared.script.Script.{Script}
use Rattle.instrument_rule.specs.declared.view.View.{View}
use Rattle.signalman_seats.specs.Men.{IsOf, Man}

-- A man may work a script: he is a man of that line, and the script is his box's. The plan knows each of its calls,
-- their moments don't fall and aren't below that of his last call, and his register has room for them.
pub record CanWork (table_id : TableId) (plan : PlanFields) (script : Script) (man : Man) : Type 0 where
  pub of_line : IsOf table_id plan man
  pub box_no : man.box_no ≡ script.box_no
  pub calls : AreCalls plan man.box_no man.moment script.calls
  pub room : length script.calls ≤ man.spare

-- how many of these entries are of awaits that were not satisfied
abbrev pub count_not_yet : List Entry → ℕ
count_not_yet es = count_by (λ e. is_not_yet e.reply) es

-- Calls of box b were worked. What the man has seen after them begins with all that he had seen, and is legal. His part
-- of it is his part before, with one entry for each of the calls, in order and no other. An await that was not
-- satisfied has taken all its looks, no call has taken more, and none was a glance.
pub record Worked (plan : PlanFields) (b : ℕ) (calls : List Call) (looks : ℕ) (v w : View) : Type 0 where
  pub begins : IsPrefix v.seen w.seen
  pub legal : IsLegal plan w.seen
  pub grew : (es : List Entry) × (part_of b w.seen ≡ part_of b v.seen ++ es) × (map (λ e. e.call) es ≡ calls)
      × (l : ℕ) × (w.looks ≡ v.looks + l) × (looks * count_not_yet es ≤ l) × (l ≤ looks * length calls)
  pub glances : w.glances ≡ v.glances

-- the moment of the last of these calls, or this one where there is none
abbrev pub moment_after : ℕ → List Call → ℕ
moment_after moment [] = moment
moment_after moment (call ∷ calls) = moment_after call.moment calls

-- A man has worked a script: he is a man of that line still, at the same box. His entries are his part of what he has
-- then seen, his register has room for so many calls fewer, and his moment is that of the last call.
pub record DidWork (table_id : TableId) (plan : PlanFields) (script : Script) (looks : ℕ) (before after : Man)
    : Type 0 where
  pub of_line : IsOf table_id plan after
  pub box_no : after.box_no ≡ before.box_no
  pub worked : Worked plan before.box_no script.calls looks before.view after.view
  pub entries : after.entries ≡ part_of before.box_no after.view.seen
  pub spare : after.spare + length script.calls ≡ before.spare
  pub moment : after.moment ≡ moment_after before.moment script.calls

-- each of these men may work the script at his place
pub record CanWorkEach (table_id : TableId) (plan : PlanFields) (scripts : List Script) (men : List Man)
    : Type 0 where
  pub count : length scripts ≡ length men
  pub each : (i : ℕ) (d : Man) (e : Script) → i < length men
      → CanWork table_id plan (slice_index_or scripts i e) (slice_index_or men i d)

-- each of these men has worked the script at his place
pub record DidWorkEach (table_id : TableId) (plan : PlanFields) (scripts : List Script) (looks : ℕ)
    (before after : List Man) : Type 0 where
  pub count : length after ≡ length before
  pub each : (i : ℕ) (d : Man) (e : Script) → i < length before
      → DidWork table_id plan (slice_index_or scripts i e) looks (slice_index_or before i d) (slice_index_or after i d)
