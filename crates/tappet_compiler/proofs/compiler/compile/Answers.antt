use Rattle.tappet_compiler.proofs.Made.{few_made, fits_made, opening_made, seated_made}
use Rattle.tappet_compiler.proofs.compiler.compile.Goals as goal

pub returns-clause-seated : goal.returns-clause-seated
returns-clause-seated c =
    seated_made c.compile_rows.result c.args.table.now c.rows.result.now c.rows.ensures.rows c.compile_rows.ensures

pub returns-clause-few : goal.returns-clause-few
returns-clause-few c =
    few_made c.compile_rows.result c.args.table.now c.rows.result.now c.rows.ensures.rows c.rows.ensures.few
    c.compile_rows.ensures

pub returns-clause-fits : goal.returns-clause-fits
returns-clause-fits c =
    fits_made c.compile_rows.result c.args.table.now c.rows.result.now c.rows.ensures.rows c.rows.ensures.each
    c.compile_rows.ensures

pub returns-clause-opening : goal.returns-clause-opening
returns-clause-opening c =
    opening_made c.compile_rows.result c.args.table.now c.rows.result.now c.rows.ensures.rows c.compile_rows.ensures
