use Rattle.std.proofs.Common.{◌≡◌, ◌++◌, drop}
use Rattle.sheet_text.specs.Rows.{sheet_remarks}
use Rattle.sheet_text.proofs.rows.add_sheet_remarks.Given as goal

abbrev pub invariant-loop-remark : goal.invariant-loop-remark
invariant-loop-remark l =
    l.rows.items ++ sheet_remarks l.way l.lines (drop l.remark-index l.remarks)
    ≡ l.fn.rows.items ++ sheet_remarks l.way l.lines l.remarks
