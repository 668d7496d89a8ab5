use Rattle.line_runs.proofs.stress.put_summary.Goals as goal

pub returns : goal.returns
returns c = c.put_told-put.ensures c.args.merged.now c.in_ok-counts.ensures c.len.ensures
