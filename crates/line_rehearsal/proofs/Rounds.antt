-- The rounds of a rehearsal, from its first call to its end.
use Rattle.std.proofs.Common.{◌≡◌, ℕ, ◌-◌, ◌≤◌, true, false, List, [], ◌∷◌, ◌++◌, Some, None, length}
use Rattle.std.proofs.Common.{drop, replicate, refl, sym, ap, ◌∙◌, arith}
use Rattle.std.proofs.lemmas.List.Elements.{All-nil, All-push}
use Rattle.line_plan.specs.Plans.{IsPlan, PlanFields}
use Rattle.line_law.specs.declared.call.Entry.{Entry}
use Rattle.line_law.specs.History.{opened, state_of}
use Rattle.line_law.specs.Lines.{PlainState}
use Rattle.line_law.specs.Serial.{calls_left, first_free}
use Rattle.script_text.specs.declared.script.Script.{Script}
use Rattle.text_fetch.specs.Runs.{AreScriptsOf}
use Rattle.line_rehearsal.specs.declared.until.Until.{Until}
use Rattle.line_rehearsal.specs.Rehearsals.{IsRehearsal, IsUnderWay, MakesNext, ends_with}
use Rattle.line_rehearsal.proofs.Free.{begins_below, free_from}
use Rattle.line_rehearsal.proofs.Over.{AreOpen, over_ended, over_stopped}
use Rattle.line_rehearsal.proofs.SoFar.{IsSoFar, so_far_begins, so_far_more}
use Rattle.line_rehearsal.proofs.UnderWay.{goes_on_there}
use Rattle.serial_working.specs.Rosters.{calls_of_scripts, left_of}
use Rattle.serial_working.proofs.LeftOf.{roster-length}
use Rattle.serial_working.proofs.SerialTurns.{scripts_are}

-- A rehearsal is under way: these entries are made, none of which ends it, and no box below this one may go on.
pub record IsRound (plan : PlanFields) (scripts : List Script) (until : Until) (made : List ℕ) (plain : PlainState)
    (es : List Entry) (from : ℕ) : Type 0 where
  pub way : IsUnderWay plan scripts made plain
  pub so_far : IsSoFar plan (calls_of_scripts scripts) made plain.line es
  pub kept : AreOpen until es
  pub within : from ≤ length scripts
  pub search : first_free plan plain.line 0 (left_of (calls_of_scripts scripts) made)
      ≡ free_from plan plain.line (left_of (calls_of_scripts scripts) made) from

-- a rehearsal begins with no call made, on a line that opens, and from the lowest box
pub round_begins : (plan : PlanFields) (scripts : List Script) (until : Until) (made : List ℕ) (plain : PlainState)
    (es : List Entry) → IsUnderWay plan scripts made plain → plain ≡ opened plan
    → made ≡ replicate (length scripts) 0 → es ≡ [] → IsRound plan scripts until made plain es 0
round_begins plan scripts until made plain es way as_opened none empty =
    record {
      way = way;
      so_far = so_far_begins plan (calls_of_scripts scripts) (length scripts) made plain es none as_opened empty;
      kept = rw empty (All-nil (λ (e : Entry). ends_with until e.reply ≡ false));
      within = omega arith;
      search = refl;
    }

-- the box that is found makes its next call
more_so_far : (plan : PlanFields) (scripts : List Script) (until : Until) (made after : List ℕ) (old new : PlainState)
    (es more : List Entry) (e : Entry) (from : ℕ) → IsRound plan scripts until made old es from
    → MakesNext plan (calls_of_scripts scripts) made old.line e after new.line → more ≡ es ++ e ∷ []
    → IsSoFar plan (calls_of_scripts scripts) after new.line more
more_so_far plan scripts until made after old new es more e from h m is =
    let there = goes_on_there plan scripts made old.line e.box_no m.free in
    so_far_more plan (calls_of_scripts scripts) made after old.line new.line es more e h.so_far m
    (omega (arith, there, h.way.counts)) is

-- a box's call that doesn't end the rehearsal makes it one entry longer; the search starts again at the box below
pub round_more : (plan : PlanFields) (scripts : List Script) (until : Until) (made after : List ℕ)
    (old new : PlainState) (es more : List Entry) (e : Entry) (from next b : ℕ)
    → IsRound plan scripts until made old es from
    → free_from plan old.line (left_of (calls_of_scripts scripts) made) from ≡ Some b
    → MakesNext plan (calls_of_scripts scripts) made old.line e after new.line → IsUnderWay plan scripts after new
    → more ≡ es ++ e ∷ [] → ends_with until e.reply ≡ false → next ≡ b - 1
    → IsRound plan scripts until after new more next
round_more plan scripts until made after old new es more e from next b h found m way is goes low =
    let left = left_of (calls_of_scripts scripts) made in
    let rest = drop 1 (calls_left left e.box_no) in
    let there = goes_on_there plan scripts made old.line e.box_no m.free in
    let lowest : first_free plan old.line 0 left ≡ Some b = h.search ∙ found in
    let same : b ≡ e.box_no = let both : Some b ≡ Some e.box_no = sym lowest ∙ m.free in cc in
    let at : next ≡ e.box_no - 1 = low ∙ ap (λ (n : ℕ). n - 1) same in
    record {
      way = way;
      so_far = more_so_far plan scripts until made after old new es more e from h m is;
      kept = rw is (All-push (λ (d : Entry). ends_with until d.reply ≡ false) es e h.kept goes);
      within = omega (arith, there, at);
      search =
          rw (m.line, m.left, at)
          (begins_below plan old.line left e.box_no e.call rest m.free
          (omega (arith, there, roster-length scripts made)));
    }

-- no box is found
pub round_stopped : (plan : PlanFields) (scripts : List Script) (until : Until) (made : List ℕ) (plain : PlainState)
    (es : List Entry) (from : ℕ) → IsPlan plan → AreScriptsOf plan scripts
    → IsRound plan scripts until made plain es from
    → free_from plan plain.line (left_of (calls_of_scripts scripts) made) from ≡ None
    → IsRehearsal plan (calls_of_scripts scripts) until es made
round_stopped plan scripts until made plain es from is own h found =
    over_stopped plan (calls_of_scripts scripts) until made plain.line es is (scripts_are plan scripts own) h.so_far
    h.kept (h.search ∙ found)

-- the call that was made ends it
pub round_ended : (plan : PlanFields) (scripts : List Script) (until : Until) (made after : List ℕ)
    (old new : PlainState) (es more : List Entry) (e : Entry) (from : ℕ) → IsPlan plan → AreScriptsOf plan scripts
    → IsRound plan scripts until made old es from
    → MakesNext plan (calls_of_scripts scripts) made old.line e after new.line → more ≡ es ++ e ∷ []
    → ends_with until e.reply ≡ true → IsRehearsal plan (calls_of_scripts scripts) until more after
round_ended plan scripts until made after old new es more e from is own h m all ends =
    over_ended plan (calls_of_scripts scripts) until after new.line es more e is (scripts_are plan scripts own)
    (more_so_far plan scripts until made after old new es more e from h m all) h.kept all ends

-- the next entry leads the line to the state that the entries with it come to
pub round_reached : (plan : PlanFields) (scripts : List Script) (until : Until) (made after : List ℕ)
    (old new : PlainState) (es more : List Entry) (e : Entry) (from : ℕ)
    → IsRound plan scripts until made old es from
    → MakesNext plan (calls_of_scripts scripts) made old.line e after new.line → more ≡ es ++ e ∷ []
    → new.line ≡ state_of plan more
round_reached plan scripts until made after old new es more e from h m all =
    sym (more_so_far plan scripts until made after old new es more e from h m all).reached
