use Rattle.std.proofs.Common.{◌≡◌, ◌+◌, ◌≤◌, drop}
use Rattle.row_texts.specs.Texts.{read_on, start}
use Rattle.row_texts.proofs.reading.read_entries.Given as goal

abbrev pub invariant-loop-byte : goal.invariant-loop-byte
invariant-loop-byte l = record {
  reads : read_on l.line (record { word = l.word.items; draft = l.draft }) (drop l.byte-index l.text) ≡ read_on 1 start l.text;
  few : l.line ≤ l.byte-index + 1;
}
