use Rattle.std.proofs.Common.{◌+◌}
use Rattle.script_text.specs.Scripts.{most_script_bytes, script_of}
use Rattle.script_text.proofs.ScriptTexts.{script_of-take}
use Rattle.text_fetch.proofs.Fetched.{fetched_given, fetched_stops, never_fetched}
use Rattle.text_fetch.proofs.fetch.read_fetched.Goals as goal

pub returns-in-Ok : goal.returns-in-Ok
returns-in-Ok c =
    let plan = c.args.plan.now in
    record {
      told = λ held h. fetched_given (c.args.box_no + 2) most_script_bytes (script_of plan c.args.box_no) held
          c.args.bytes.now c.in-Ok.script (script_of-take plan c.args.box_no) h c.in-Ok.ensures.exact;
      own = c.in-Ok.ensures.script;
      fetched = λ e. absurd cc;
    }

pub returns-in-Err : goal.returns-in-Err
returns-in-Err c =
    let plan = c.args.plan.now in
    record {
      told = λ held h. fetched_stops (c.args.box_no + 2) most_script_bytes (script_of plan c.args.box_no) held
          c.args.bytes.now c.in-Err.error c.stop_of.result (script_of-take plan c.args.box_no) h
          c.in-Err.ensures.exact c.stop_of.ensures;
      own = tt;
      fetched = never_fetched (c.args.box_no + 2) c.in-Err.error c.stop_of.result c.stop_of.ensures;
    }
