use Rattle.plan_check.proofs.Exactly.{clash_exactly, lever_exactly, no_berth_exactly, no_starter_exactly}
use Rattle.plan_check.proofs.laws.findings_law.Goals as goal

pub returns : goal.returns
returns c =
    record {
      clash = clash_exactly;
      lever = lever_exactly;
      no_berth = no_berth_exactly;
      no_starter =
          no_starter_exactly;
    }
