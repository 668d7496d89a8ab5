-- A journal that is judged as its text is read.
use Rattle.std.specs.Prelude.{◌≡◌, ℕ, Bool, true, false, List, Result, Ok, Err, length, slice_index}
use Rattle.rail_text.specs.Gives.{◌>>=◌, Fault}
use Rattle.rail_text.specs.declared.cause.ReadError.{ReadError}
use Rattle.rail_text.specs.declared.cause.ReadError.TheVariants as errors
use Rattle.line_plan.specs.Plans.{PlanFields}
use Rattle.line_law.specs.declared.call.Entry.{Entry}
use Rattle.line_law.specs.States.{IsStateOf, box_at}
use Rattle.line_report.specs.declared.judging.Verdict.TheVariants.{Legal}
use Rattle.line_report.specs.Readers.{ReaderFields, SoFar}
use Rattle.line_report.specs.Reading.{entries_left, journal_of}
use Rattle.line_report.specs.Verdicts.{JudgeFields, MayHear, heard, heard_all, judgement_text}

-- what is left of the text, and what the judge has heard of it
pub record HearingFields : Type 0 where
  pub reader : ReaderFields
  pub judge : JudgeFields

-- The judge has heard what is read: of the same plan, as many entries; and as long as none of them is wrong, the last
-- moment of each box on his line is the last that was read.
pub record HasHeard (so_far : SoFar) (judge : JudgeFields) : Type 0 where
  pub plan : judge.plan ≡ so_far.plan
  pub count : judge.count ≡ so_far.count
  pub each : length so_far.moments ≡ length so_far.plan.boxes
  pub line : IsStateOf judge.plan judge.state
  pub moments : judge.verdict ≡ Legal → (b : ℕ) → (box_at judge.state b).moment ≡ slice_index so_far.moments b

-- the judge hears an entry that he may hear
pub record HearsEntry (old new : JudgeFields) (e : Entry) : Type 0 where
  pub may : MayHear old e
  pub after : new ≡ heard old e

-- he hears the entry that is read, if one is
abbrev pub HearsNext : JudgeFields → JudgeFields → Result Bool ReadError → Entry → Type 0
HearsNext old new (Ok true) e = HearsEntry old new e
HearsNext old new (Ok false) e = new ≡ old
HearsNext old new (Err error) e = new ≡ old

-- a hearing of such entries, or the first fault; want of memory is free
abbrev pub GivesHearing : Result HearingFields ReadError → Result (List Entry) Fault → Type 0
GivesHearing (Ok hearing) read = read ≡ entries_left hearing.reader
GivesHearing (Err (errors.Refused line cause)) read = read ≡ Err (record { line = line; cause = cause })
GivesHearing (Err errors.NoMemory) read = Unit {0}

-- the judge has heard all entries that were left, each of which is one behind those before it; or the first fault is
-- refused
abbrev pub HearsAll : HearingFields → HearingFields → Result (Unit {0}) ReadError → Type 0
HearsAll old new (Ok done) =
    (es : List Entry) × (entries_left old.reader ≡ Ok es) × (new.judge ≡ heard_all old.judge es)
HearsAll old new (Err (errors.Refused line cause)) =
    entries_left old.reader ≡ Err (record { line = line; cause = cause })
HearsAll old new (Err errors.NoMemory) = ⊥

-- what a judge prints of the journal that a text spells, or the first fault
abbrev pub text_judged : PlanFields → List ℕ → Result (List ℕ) Fault
text_judged plan bytes = journal_of plan bytes >>= (λ es. Ok (judgement_text plan es))
