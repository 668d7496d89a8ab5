use Rattle.std.proofs.Common.{Err, ap, arith, rules, sym}
use Rattle.rail_text.specs.Lines.{lines_of}
use Rattle.rail_text.specs.Texts.{lines_onto}
use Rattle.rail_text.proofs.GoodLines.{good_next, next_read, none_read}
use Rattle.rail_text.proofs.reading.read_text.Goals as goal

pub loop-line-init : goal.loop-line-init
loop-line-init g c = record {
  read = search rules;
  good = none_read _ _ _ _ (ap lines_of (sym c.new-lines.ensures.rest));
  count = search rules;
}

pub loop-line-preserved : goal.loop-line-preserved
unfolding lines_onto
loop-line-preserved g c = record {
  read = search rules;
  good = next_read _ _ _ _ _ _ _ _ c.loop-line.invariant.good c.in-Some.ensures.line c.in-Ok.ensures.gives;
  count = search rules;
}

pub returns-in-Err-NoMemory-clause-memory : goal.returns-in-Err-NoMemory-clause-memory
returns-in-Err-NoMemory-clause-memory g c = (
  omega arith,
  (
    c.loop-line.draft,
    good_next _ _ _ _ _ _ _ c.loop-line.invariant.good c.in-Some.ensures.line
        (rw c.in-Err-NoMemory.field-0-is at c.in-Err-NoMemory.ensures.memory),
    c.in-Err-NoMemory.ensures.left (ap Err c.in-Err-NoMemory.field-0-is),
  ),
)
