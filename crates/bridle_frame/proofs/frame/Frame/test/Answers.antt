use Rattle.std.proofs.Common.{◌≡◌, List, length, ap, sym, subst, ◌∙◌, arith}
use Rattle.locking_table.specs.declared.places.End.{End}
use Rattle.locking_table.specs.Places.{IsLever, at_ends, end_at}
use Rattle.bridle_frame.specs.Frames.{FrameState, using}
use Rattle.bridle_frame.specs.Shifts.{shift_of}
use Rattle.bridle_frame.proofs.Counts.{length-each}
use Rattle.bridle_frame.proofs.Frames.{tested, used_of, used_within}
use Rattle.bridle_frame.proofs.frame.Frame.test.Goals as goal

pub first_lone-requires-clause-few : goal.first_lone-requires-clause-few
first_lone-requires-clause-few c =
    let all = ap length c.deref-4.ensures.value in
    let counted = ap length c.self.invariant.counts in
    let wide = length-each (at_ends c.self.inside.ends.items) c.self.inside.bridles.items in
    let few = c.self.invariant.few in omega (arith, all, counted, wide, few)

pub first_lone-requires-clause-within : goal.first_lone-requires-clause-within
first_lone-requires-clause-within c =
    let of_lever =
    used_of c.self.inside.ends.items c.self.inside.bridles.items c.self.inside.at_normal.items
    c.self.inside.at_reversed.items c.self.inside.lying.items c.args.lever c.end_of-end.result
    c.index_at-uses.result.now c.deref-2.result.now c.deref-3.result.now c.index-uses-lever.result c.as_slice.result.now
    c.self.invariant (subst (λ (f : FrameState). IsLever (length f.ends) c.args.lever) (sym c.self.view_is) c.requires)
    c.index_at-uses.ensures c.deref-2.ensures.value c.deref-3.ensures.value c.index-uses-lever.is c.as_slice.ensures in
    used_within c.self.inside.ends.items c.self.inside.bridles.items c.self.inside.at_normal.items
    c.self.inside.at_reversed.items c.self.inside.lying.items c.args.lever c.end_of-end.result c.as_slice.result.now
    c.deref-4.result.now c.self.invariant of_lever (ap length c.deref-4.ensures.value)

pub returns : goal.returns
returns c =
    let of_lever =
    used_of c.self.inside.ends.items c.self.inside.bridles.items c.self.inside.at_normal.items
    c.self.inside.at_reversed.items c.self.inside.lying.items c.args.lever c.end_of-end.result
    c.index_at-uses.result.now c.deref-2.result.now c.deref-3.result.now c.index-uses-lever.result c.as_slice.result.now
    c.self.invariant (subst (λ (f : FrameState). IsLever (length f.ends) c.args.lever) (sym c.self.view_is) c.requires)
    c.index_at-uses.ensures c.deref-2.ensures.value c.deref-3.ensures.value c.index-uses-lever.is c.as_slice.ensures in
    let end : c.end_of-end.result ≡ end_at c.self.inside.ends.items c.args.lever =
    c.end_of-end.ensures ∙ ap (λ (ends : List End). end_at ends c.args.lever) c.deref.ensures.value in
    c.first_lone.ensures
    ∙ (tested c.self.inside.ends.items c.self.inside.bridles.items c.self.inside.at_normal.items
    c.self.inside.at_reversed.items c.self.inside.lying.items c.args.lever c.deref-4.result.now c.as_slice.result.now
    c.self.invariant c.deref-4.ensures.value
    (of_lever ∙ ap (λ (e : End). using 0 c.args.lever e c.self.inside.bridles.items) end)
    ∙ ap (λ (f : FrameState). shift_of f.ends c.args.lever f.bridles) c.self.view_is)
