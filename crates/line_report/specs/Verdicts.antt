-- What a judge finds of a journal.
use Rattle.std.specs.Prelude.{◌≡◌, ◌≢◌, ℕ, ◌+◌, ◌-◌, ◌≤◌, ◌<◌, Bool, IsTrue, List, [], ◌∷◌, ◌++◌, length, take, map}
use Rattle.std.specs.Prelude.{Some, slice_get, slice_index_or, codes, decimal, if◌then◌else◌}
use Rattle.line_plan.specs.Plans.{PlanFields}
use Rattle.line_law.specs.declared.call.Entry.{Entry}
use Rattle.line_law.specs.declared.call.Reply.{Reply}
use Rattle.line_law.specs.History.{IsLegal, after_entry, state_of}
use Rattle.line_law.specs.Law.{Done, MayCall, step}
use Rattle.line_law.specs.Lines.{IsLineOf, PlainState}
use Rattle.line_law.specs.Replies.{same_reply}
use Rattle.line_law.specs.States.{LineState, opening_state}
use Rattle.line_report.specs.declared.judging.Verdict.{Verdict}
use Rattle.line_report.specs.declared.judging.Verdict.TheVariants.{Legal, WrongAt}
use Rattle.script_text.specs.Replies.{is_spelled_reply, reply_text}

-- the verdict on these entries from a state on, of which the first is entry k
abbrev pub verdict_from : PlanFields → LineState → ℕ → List Entry → Verdict
verdict_from plan state k [] = Legal
verdict_from plan state k (e ∷ es) =
    if same_reply e.reply (step plan state e.box_no e.call).reply
    then verdict_from plan (after_entry plan state e) (k + 1) es
    else WrongAt k e.reply (step plan state e.box_no e.call).reply

-- the verdict on a journal: legal, or the first entry whose reply isn't the law's, from 1, with both replies
abbrev pub verdict_of : PlanFields → List Entry → Verdict
verdict_of plan es = verdict_from plan (opening_state plan) 1 es

-- Entry k, from 1, is the first whose reply isn't the law's: the entries before it are a legal history, and there the
-- law says otherwise.
pub record IsWrongAt (plan : PlanFields) (es : List Entry) (k : ℕ) (said law : Reply) : Type 0 where
  pub entry : Entry
  pub low : 1 ≤ k
  pub at : slice_get es (k - 1) ≡ Some entry
  pub before : IsLegal plan (take (k - 1) es)
  pub told : said ≡ entry.reply
  pub lawful : law ≡ (step plan (state_of plan (take (k - 1) es)) entry.box_no entry.call).reply
  pub differs : said ≢ law

-- ---- a judge who hears entries one after another

-- the plan for which he judges, the state of the line after the entries so far, how many these are, what he finds of
-- them, and the box of the one that is wrong, if one is
pub record JudgeFields : Type 0 where
  pub plan : PlanFields
  pub state : LineState
  pub count : ℕ
  pub verdict : Verdict
  pub box_no : ℕ

-- he has heard nothing
abbrev pub opening_judge : PlanFields → JudgeFields
opening_judge plan =
    record { plan = plan; state = opening_state plan; count = 0; verdict = Legal; box_no = 0 }

-- an entry more, by whether its reply is the law's, and what the law says
abbrev pub heard_as : Bool → JudgeFields → Entry → Done → JudgeFields
heard_as same judge e done =
    record judge {
      state = done.after;
      count = judge.count + 1;
      verdict = if same then Legal else WrongAt (judge.count + 1) e.reply done.reply;
      box_no = if same then judge.box_no else e.box_no;
    }

-- behind a wrong entry the law isn't asked
abbrev pub heard_by : Verdict → JudgeFields → Entry → JudgeFields
heard_by Legal judge e =
    heard_as (same_reply e.reply (step judge.plan judge.state e.box_no e.call).reply) judge e
    (step judge.plan judge.state e.box_no e.call)
heard_by (WrongAt k said law) judge e = record judge { count = judge.count + 1 }

abbrev pub heard : JudgeFields → Entry → JudgeFields
heard judge e = heard_by judge.verdict judge e

-- what he has heard behind these entries
abbrev pub heard_all : JudgeFields → List Entry → JudgeFields
heard_all judge [] = judge
heard_all judge (e ∷ es) = heard_all (heard judge e) es

-- an entry whose call may be made where the others end, as long as none is wrong
abbrev pub MayHear : JudgeFields → Entry → Type 0
MayHear judge e = judge.verdict ≡ Legal → MayCall judge.plan judge.state e.box_no e.call

-- what every judge keeps: his line is one of the plan, on which no more calls were made than he has heard
pub record IsJudge (plan : PlanFields) (plain : PlainState) (count : ℕ) : Type 0 where
  pub line : IsLineOf plan plain
  pub few : plain.calls ≤ count

-- ---- as it is printed

-- the line that is printed of a legal journal of so many entries
unfoldable pub legal_text : ℕ → List ℕ
legal_text count = codes "legal " ++ decimal count ++ 10 ∷ []

-- the lines that are printed of entry k of box b: what the journal says, and what the law says
unfoldable pub wrong_text : PlanFields → ℕ → ℕ → Reply → Reply → List ℕ
wrong_text plan b k said law =
    codes "wrong at " ++ decimal k ++ codes "\nsaid " ++ reply_text plan b said ++ codes "\nlaw "
    ++ reply_text plan b law ++ 10 ∷ []

-- the box of entry k, from 1
abbrev pub box_of_entry : List Entry → ℕ → ℕ
box_of_entry es k = slice_index_or (map (λ e. e.box_no) es) (k - 1) 0

-- what is printed of what a judge has heard
abbrev pub found_by : Verdict → JudgeFields → List ℕ
found_by Legal judge = legal_text judge.count
found_by (WrongAt k said law) judge = wrong_text judge.plan judge.box_no k said law

abbrev pub found_text : JudgeFields → List ℕ
found_text judge = found_by judge.verdict judge

-- the box of a wrong entry is there, and both replies can be spelled at it
pub record CanPrint (plan : PlanFields) (b : ℕ) (said law : Reply) : Type 0 where
  pub box : b < length plan.boxes
  pub said_there : IsTrue (is_spelled_reply plan b said)
  pub law_there : IsTrue (is_spelled_reply plan b law)

-- a verdict on a journal as it is printed
abbrev pub verdict_text : PlanFields → List Entry → Verdict → List ℕ
verdict_text plan es Legal = legal_text (length es)
verdict_text plan es (WrongAt k said law) = wrong_text plan (box_of_entry es k) k said law

-- what a judge prints of a journal
unfoldable pub judgement_text : PlanFields → List Entry → List ℕ
judgement_text plan es = verdict_text plan es (verdict_of plan es)
