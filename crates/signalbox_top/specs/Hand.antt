-- A box of a line is worked by hand.
use Rattle.std.specs.Prelude.{◌≡◌, ℕ, ◌&&◌, not, List, [], ◌∷◌, ◌++◌, Option, Some, None, bytes_eq, map}
use Rattle.std.specs.List.{position}
use Rattle.std.specs.Option.{option_map}
use Rattle.line_plan.specs.Plans.{PlanFields, names_of}
use Rattle.line_report.specs.Journals.{journal_text}
use Rattle.script_text.specs.Scripts.{script_text}
use Rattle.script_text.specs.declared.script.Script.{Script}
use Rattle.serial_working.specs.Rosters.{calls_of_scripts}
use Rattle.text_fetch.specs.FromTexts.{Held, IsGiven, plan_told}
use Rattle.text_fetch.specs.Runs.{AreScriptsOf}
use Rattle.box_session.specs.Sessions.{IsSession}
use Rattle.explained_texts.specs.Others.{AreOthers}
use Rattle.hand_working.specs.declared.manner.Manner.{Manner}
use Rattle.hand_working.specs.declared.manner.Terminal.{Terminal}
use Rattle.hand_working.specs.Duties.{Doings, Post, journal_at, no_doings}
use Rattle.hand_working.specs.Works.{IsWorked}
use Rattle.signalbox_words.specs.Commands.{Working}
use Rattle.signalbox_top.specs.declared.hand.HandWanted.{HandWanted}

-- what is wanted, with the names as their bytes
abbrev pub working_shown : HandWanted → Working
working_shown wanted = record {
  hint = wanted.hint;
  plain = wanted.plain;
  screen = wanted.screen;
  plan = wanted.plan.now;
  box_name = wanted.box_name.now;
  scripts = map (λ name. name.now) wanted.scripts.now;
  journal = option_map (λ name. name.now) wanted.journal;
  script = option_map (λ name. name.now) wanted.script;
}

-- how lines are asked for and answered at a terminal: lines that nobody types are echoed; colours are shown where the
-- terminal has them, unless all is to be plain; and the box is drawn where lines are typed
abbrev pub manner_of : Terminal → Working → Manner
manner_of terminal wanted = record {
  echoes = not terminal.is_typed;
  hints = wanted.hint;
  colours = terminal.has_colours && not wanted.plain;
  draws = terminal.is_typed && wanted.screen;
}

-- ---- the files that are written at the end

-- what a store tells that was written: names with bytes, in order
abbrev pub Files : Type 0
Files = List (List ℕ × List ℕ)

-- these files are written behind others
abbrev pub and_written : Option Files → Files → Option Files
and_written before files = option_map (λ all. all ++ files) before

-- the file with these bytes, where one is named
abbrev pub file_of : Option (List ℕ) → List ℕ → Files
file_of None bytes = []
file_of (Some name) bytes = (name, bytes) ∷ []

-- the journal of the line, as `box_main judge` reads it
abbrev pub journal_bytes : Post → Doings → List ℕ
journal_bytes post after = journal_text post.plan (journal_at post after)

-- his calls, as a script
abbrev pub script_bytes : Post → Doings → List ℕ
script_bytes post after = script_text post.plan (record { box_no = post.box_no; calls = after.calls })

-- ---- his work

-- A man comes on duty at a post, and works it by the lines that are given. What he has done at the end is what these
-- make of it. With the calls of it the journal of the line is that of a session: it is legal; his part is exactly his
-- calls, in order, and that of each other box a beginning of its script; and each other box is stopped at an await that
-- the line doesn't satisfy, or has ended. Behind what he saved, the journal is written, and his calls as a script,
-- where files are named for them.
pub record IsAtPost (manner : Manner) (wanted : Working) (post : Post) (given now : List (List ℕ))
    (old new : Option (List ℕ)) (files : Option Files) : Type 0 where
  pub after : Doings
  pub worked : IsWorked manner post no_doings after given now old new
  pub session : IsSession post.plan post.scripts post.box_no after.calls (journal_at post after)
  pub saved : Option Files
  pub written : files ≡ and_written (and_written saved (file_of wanted.journal (journal_bytes post after)))
      (file_of wanted.script (script_bytes post after))

-- What comes of `work`: the plan is the one that the shelf tells under its name; the box is the first of that name; the
-- script of each other box is what its text spells; the box is worked by the lines that are given; and the files that
-- are named are written.
pub record IsHandWorked (held : Held) (wanted : Working) (terminal : Terminal) (given now : List (List ℕ))
    (old new : Option (List ℕ)) (files : Option Files) : Type 0 where
  pub plan : PlanFields
  pub box_no : ℕ
  pub scripts : List Script
  pub plan_is : IsGiven plan (plan_told held wanted.plan)
  pub box_is : position (bytes_eq wanted.box_name) (names_of plan.boxes) ≡ Some box_no
  pub own : AreScriptsOf plan scripts
  pub others : AreOthers held plan box_no wanted.scripts scripts
  pub worked : IsAtPost (manner_of terminal wanted) wanted
      (record { plan = plan; box_no = box_no; scripts = calls_of_scripts scripts }) given now old new files
