use Rattle.std.proofs.Common.{◌≡◌, ◌+◌, ◌*◌, ◌≤◌, ◌++◌}
use Rattle.graph_picture.specs.Rulings.{minute_of, rulings_text}
use Rattle.graph_picture.proofs.ruling.put_rulings.Given as goal

abbrev pub invariant-loop-ruled : goal.invariant-loop-ruled
invariant-loop-ruled l = record {
  text : l.page.text ≡ l.fn.page.text ++ rulings_text l.version l.boxes l.bottom l.axis l.ruled;
  tags : l.page.open_tags ≡ l.fn.page.open_tags;
  moment : l.moment ≡ l.axis.beginning + l.ruled * minute_of l.version;
  most : l.moment ≤ l.axis.beginning + l.ruled * 60;
}
