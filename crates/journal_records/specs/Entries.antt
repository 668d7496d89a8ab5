-- What is told of the entries of a journal.
use Rattle.std.specs.Prelude.{◌≡◌, ℕ, not, List, Option}
use Rattle.line_plan.specs.Plans.{PlanFields, box_name}
use Rattle.line_law.specs.declared.call.Entry.{Entry}
use Rattle.line_law.specs.Refusals.{is_refused}
use Rattle.script_text.specs.Acts.{act_text}
use Rattle.script_text.specs.Moments.{moment_text}
use Rattle.script_text.specs.Replies.{reply_text}
use Rattle.entry_records.specs.Fields.{EntryFields}
use Rattle.journal_records.specs.Named.{lever_named, place_named, train_named}
use Rattle.journal_records.specs.Said.{IsSaid}

-- entry n of a journal, with what is said of it
abbrev pub fields_of : PlanFields → ℕ → Entry → Option (List ℕ) → EntryFields
fields_of plan n e said =
    record {
      n = n;
      box_name = box_name plan e.box_no;
      at = moment_text plan.version e.call.moment;
      call = act_text plan e.call.act;
      reply = reply_text plan e.box_no e.reply;
      done = not (is_refused e.reply);
      lever = lever_named e.reply;
      place = place_named plan e.box_no e.reply;
      train = train_named plan e.reply;
      says = said;
    }

-- what is told of entry n of a journal
pub record AreFieldsOf (plan : PlanFields) (n : ℕ) (e : Entry) (fields : EntryFields) : Type 0 where
  pub said : Option (List ℕ)
  pub is_said : IsSaid (is_refused e.reply) said
  pub are : fields ≡ fields_of plan n e said
