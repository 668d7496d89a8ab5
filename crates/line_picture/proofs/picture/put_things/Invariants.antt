use Rattle.std.proofs.Common.{◌≡◌, ◌++◌, drop}
use Rattle.line_picture.specs.Pictures.{things_text}
use Rattle.line_picture.proofs.picture.put_things.Given as goal

abbrev pub invariant-loop-thing : goal.invariant-loop-thing
invariant-loop-thing l = record {
  text : l.page.text ++ things_text l.plan l.layout (drop l.thing-index l.things)
      ≡ l.fn.page.text ++ things_text l.plan l.layout l.things;
  tags : l.page.open_tags ≡ l.fn.page.open_tags;
}
