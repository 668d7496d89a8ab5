use Rattle.std.proofs.Common.{◌<◌, List, All, length, sym, subst, ◌∙◌, arith}
use Rattle.locking_table.specs.declared.row.Row.{Row}
use Rattle.frame_report.specs.Frame.{IsFrameRow}
use Rattle.frame_report.proofs.FrameLemmas.{frame_push, frame_row}
use Rattle.frame_report.proofs.ListLemmas.{all_push, both_true, neither}
use Rattle.frame_report.proofs.frame.frame_of.Goals as goal

pub returns-then-is_spelled-fits : goal.returns-then-is_spelled-fits
returns-then-is_spelled-fits c = λ all.
    let lt : c.loop-row.row-index < length c.rows-row-items.result.now = omega arith in
    let fine : IsFrameRow (length c.args.numbers.now) c.row_in-own.result =
    frame_row c.args.numbers.now c.args.table.now c.rows-row-items.result.now c.loop-row.row-index c.row-item.result
    c.row_in-own.result c.rows-row-items.ensures.rows lt c.row-item.is c.row_in-own.ensures all in
    neither c.is_spelled.result c.fits.result c.if-is_spelled-fits.true (c.is_spelled.ensures.1 fine.spelled)
    (c.fits.ensures.1 fine.fits)

pub loop-row-preserved : goal.loop-row-preserved
loop-row-preserved c =
    let lt : c.loop-row.row-index < length c.rows-row-items.result.now = omega arith in
    let fine = both_true c.is_spelled.result c.fits.result c.if-is_spelled-fits.false in
    let one : IsFrameRow (length c.args.numbers.now) c.row_in-own.result =
    record { spelled = c.is_spelled.ensures.0 fine.0; fits = c.fits.ensures.0 fine.1 } in
    let pushed = c.in_ok-push.ensures.ok in
    record {
      same =
          pushed
          ∙ frame_push c.args.numbers.now c.args.table.now c.rows-row-items.result.now c.loop-row.row-index
          c.row-item.result c.row_in-own.result c.rows-row-items.ensures.rows lt c.row-item.is c.row_in-own.ensures
          c.loop-row.frame c.loop-row.invariant.same;
      fits =
          subst (λ (rs : List Row). All (IsFrameRow (length c.args.numbers.now)) rs) (sym pushed)
          (all_push (IsFrameRow (length c.args.numbers.now)) c.loop-row.frame c.row_in-own.result
          c.loop-row.invariant.fits one);
    }
