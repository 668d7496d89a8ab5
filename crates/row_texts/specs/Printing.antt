-- Rows as the lines of a plan, and why a text is refused, in words.
use Rattle.std.specs.Prelude.{ℕ, List, ◌++◌, codes}
use Rattle.std.specs.List.{flat_map}
use Rattle.locking_table.specs.declared.row.Row.{Row}
use Rattle.locking_table.specs.Printing.{row_text}
use Rattle.row_texts.specs.declared.cause.RowsCause.{RowsCause}
use Rattle.row_texts.specs.declared.cause.RowsCause.TheVariants as causes

unfoldable pub row_line : Row → List ℕ
row_line row = codes "row " ++ row_text row ++ codes "\n"

abbrev pub row_lines : List Row → List ℕ
row_lines rows = flat_map row_line rows

abbrev pub cause_sentence : RowsCause → List ℕ
cause_sentence causes.NoLever = codes "a line begins with the number of a lever, from 1 to 120, and a colon"
cause_sentence causes.Colon = codes "a colon stands behind the number of the line's lever, and nowhere else"
cause_sentence causes.NoVerb =
    codes "an item begins with `rel`, `locks` or `both`, or with the number of its row, from #1 to #9999"
cause_sentence causes.NoObject = codes "behind `rel`, `locks` or `both` stand the numbers of levers, from 1 to 120"
cause_sentence causes.NoCondition = codes "behind `when` or `and` stands the number of a lever, from 1 to 120"
cause_sentence causes.NoEnd = codes "behind the lever of a condition stands `n` for normal or `r` for reversed"
cause_sentence causes.NoMore = codes "behind a condition stands `and` with a second and last one, or a semicolon"
cause_sentence causes.CutShort = codes "an item ends too early"
cause_sentence causes.SameLever = codes "all levers of a row differ"
