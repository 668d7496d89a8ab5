use Rattle.std.proofs.Common.{◌-◌, ◌<◌, ◌≤◌, length, ap, arith, refl}
use Rattle.std.proofs.lemmas.Option.{slice_get_read}
use Rattle.bell_codes.proofs.Numbers.{code_number-at}
use Rattle.bell_codes.proofs.table.CodeTable.code.Goals as goal

pub returns-clause-number : goal.returns-clause-number
returns-clause-number c =
    let high : c.args.no ≤ length c.self.inside.codes.items =
    omega (arith, c.requires.high, ap length c.self.view_is) in
    let within : c.args.no - 1 < length c.self.inside.codes.items = omega (arith, c.requires.low) in
    rw (← c.self.view_is)
    (code_number-at c.self.inside.codes.items c.index.result.now c.args.no c.self.invariant.distinct (record {
      low = c.requires.low;
      high = high;
      here = slice_get_read c.self.inside.codes.items (length c.self.inside.codes.items) (c.args.no - 1)
          c.index.result.now refl within c.index.ensures;
    }))
