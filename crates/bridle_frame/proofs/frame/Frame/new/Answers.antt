use Rattle.std.proofs.Common.{◌≡◌, replicate, rules}
use Rattle.locking_table.specs.declared.places.End.TheVariants.{Normal as NormalEnd}
use Rattle.bridle_frame.proofs.Frames.{new_frame}
use Rattle.bridle_frame.proofs.frame.Frame.new.Goals as goal

pub invariant_of-result : goal.invariant_of-result
invariant_of-result c =
    let normal : c.in_ok-ends.ends.items ≡ replicate c.args.levers NormalEnd = search rules in
    let value = c.as_slice.ensures.value in
    let second = c.as_slice-2.ensures.value in
    let third = c.as_slice-3.ensures.value in
    let fourth = c.as_slice-4.ensures.value in
    let at_normal = c.in_ok-at_normal.ensures in
    let at_reversed = c.in_ok-at_reversed.ensures in
    let lying = c.in_ok-lying.ensures in
    new_frame c.args.levers c.args.bridles.items c.in_ok-ends.ends.items c.in_ok-at_normal.at_normal.items
    c.in_ok-at_reversed.at_reversed.items c.in_ok-lying.lying.items normal (search rules) (search rules) (search rules)
    c.requires.few c.requires.fits c.requires.seated
