use Rattle.std.proofs.Common.{◌≡◌, ◌++◌, List, ℕ, drop, length, take, ap, sym, subst, ◌∙◌}
use Rattle.locking_table.specs.declared.places.End.{End}
use Rattle.locking_table.specs.Places.{IsLever, end_at}
use Rattle.bridle_frame.specs.Frames.{FrameState, counted, one_fewer, one_more, using}
use Rattle.bridle_frame.specs.Shifts.{shift_of}
use Rattle.bridle_frame.proofs.Counts.{length-counted}
use Rattle.bridle_frame.proofs.Frames.{moved_frame, used_of, used_within, written}
use Rattle.bridle_frame.proofs.frame.Frame.throw.Goals as goal

pub count_out-requires : goal.count_out-requires
count_out-requires c =
    let left =
    used_of c.self.inside.ends.items c.self.inside.bridles.items c.self.inside.at_normal.items
    c.self.inside.at_reversed.items c.self.inside.lying.items c.args.lever c.end_of-end.result
    c.index_at-left.result.now c.deref-2.result.now c.deref-3.result.now c.index-left-at.result c.as_slice.result.now
    c.self.invariant
    (subst (λ (f : FrameState). IsLever (length f.ends) c.args.lever) (sym c.self.view_is) c.requires.lever)
    c.index_at-left.ensures c.deref-2.ensures.value c.deref-3.ensures.value c.index-left-at.is c.as_slice.ensures in
    used_within c.self.inside.ends.items c.self.inside.bridles.items c.self.inside.at_normal.items
    c.self.inside.at_reversed.items c.self.inside.lying.items c.args.lever c.end_of-end.result c.as_slice.result.now
    c.deref_mut.result.now c.self.invariant left (ap length c.deref_mut.ensures.value)

pub count_in-requires : goal.count_in-requires
count_in-requires c =
    let reached =
    used_of c.self.inside.ends.items c.self.inside.bridles.items c.self.inside.at_normal.items
    c.self.inside.at_reversed.items c.self.inside.lying.items c.args.lever c.other-other.result
    c.index_at-reached.result.now c.deref-4.result.now c.deref-5.result.now c.index-reached-at.result
    c.as_slice-2.result.now c.self.invariant
    (subst (λ (f : FrameState). IsLever (length f.ends) c.args.lever) (sym c.self.view_is) c.requires.lever)
    c.index_at-reached.ensures c.deref-4.ensures.value c.deref-5.ensures.value c.index-reached-at.is
    c.as_slice-2.ensures in
    let wide : length c.count_out.new.lying ≡ length c.deref_mut.result.now =
    ap length c.count_out.ensures ∙ length-counted one_fewer c.deref_mut.result.now c.as_slice.result.now in
    let between =
    c.deref_mut-2.ensures.value
    ∙ written c.self.inside.lying.len c.count_out.new.lying c.self.inside.lying.items
    (wide ∙ c.deref_mut.ensures.len) in
    used_within c.self.inside.ends.items c.self.inside.bridles.items c.self.inside.at_normal.items
    c.self.inside.at_reversed.items c.self.inside.lying.items c.args.lever c.other-other.result c.as_slice-2.result.now
    c.deref_mut-2.result.now c.self.invariant reached
    (ap length between ∙ (wide ∙ ap length c.deref_mut.ensures.value))

pub invariant_of-self : goal.invariant_of-self
invariant_of-self c =
    let is = subst (λ (f : FrameState). IsLever (length f.ends) c.args.lever) (sym c.self.view_is) c.requires.lever in
    let end : c.end_of-end.result ≡ end_at c.self.inside.ends.items c.args.lever =
    c.end_of-end.ensures ∙ ap (λ (ends : List End). end_at ends c.args.lever) c.deref.ensures.value in
    let left =
    used_of c.self.inside.ends.items c.self.inside.bridles.items c.self.inside.at_normal.items
    c.self.inside.at_reversed.items c.self.inside.lying.items c.args.lever c.end_of-end.result
    c.index_at-left.result.now c.deref-2.result.now c.deref-3.result.now c.index-left-at.result c.as_slice.result.now
    c.self.invariant is c.index_at-left.ensures c.deref-2.ensures.value c.deref-3.ensures.value c.index-left-at.is
    c.as_slice.ensures in
    let reached =
    used_of c.self.inside.ends.items c.self.inside.bridles.items c.self.inside.at_normal.items
    c.self.inside.at_reversed.items c.self.inside.lying.items c.args.lever c.other-other.result
    c.index_at-reached.result.now c.deref-4.result.now c.deref-5.result.now c.index-reached-at.result
    c.as_slice-2.result.now c.self.invariant is c.index_at-reached.ensures c.deref-4.ensures.value
    c.deref-5.ensures.value c.index-reached-at.is c.as_slice-2.ensures in
    let wide : length c.count_out.new.lying ≡ length c.deref_mut.result.now =
    ap length c.count_out.ensures ∙ length-counted one_fewer c.deref_mut.result.now c.as_slice.result.now in
    let between =
    c.deref_mut-2.ensures.value
    ∙ written c.self.inside.lying.len c.count_out.new.lying c.self.inside.lying.items
    (wide ∙ c.deref_mut.ensures.len) in
    let wider : length c.count_in.new.lying ≡ length c.deref_mut-2.result.now =
    ap length c.count_in.ensures ∙ length-counted one_more c.deref_mut-2.result.now c.as_slice-2.result.now in
    let room = c.self.inside.lying.len in
    let out = c.count_out.new.lying in
    let more = c.count_in.new.lying in
    let after_out = take room (out ++ drop (length out) c.self.inside.lying.items) in
    moved_frame c.self.inside.ends.items c.self.inside.bridles.items c.self.inside.at_normal.items
    c.self.inside.at_reversed.items c.args.lever c.other-other.result c.self.inside.lying.items c.as_slice.result.now
    out c.as_slice-2.result.now (take room (more ++ drop (length more) after_out)) c.self.invariant is
    (ap (λ (f : FrameState). shift_of f.ends c.args.lever f.bridles) c.self.view_is ∙ c.requires.free)
    (left ∙ ap (λ (e : End). using 0 c.args.lever e c.self.inside.bridles.items) end)
    reached
    (c.count_out.ensures ∙ ap (λ (l : List ℕ). counted one_fewer l c.as_slice.result.now) c.deref_mut.ensures.value)
    (written room more after_out (wider ∙ (ap length between ∙ (wide ∙ c.deref_mut.ensures.len)))
    ∙ (c.count_in.ensures ∙ ap (λ (l : List ℕ). counted one_more l c.as_slice-2.result.now) between))
