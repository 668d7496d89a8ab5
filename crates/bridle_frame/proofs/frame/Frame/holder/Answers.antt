use Rattle.std.proofs.Common.{◌-◌, ◌<◌, ◌≤◌, length, ap, sym, subst, ◌∙◌, arith}
use Rattle.std.specs.Prelude.{slice_index_or}
use Rattle.bridle_frame.specs.declared.bridle.Bridle.{Bridle}
use Rattle.bridle_frame.specs.Frames.{FrameState}
use Rattle.bridle_frame.specs.Seated.{BridleFits}
use Rattle.bridle_frame.proofs.Frames.{free, held, holding}
use Rattle.bridle_frame.proofs.frame.Frame.holder.Goals as goal

pub overflow_sub-bridle : goal.overflow_sub-bridle
overflow_sub-bridle c =
    (held c.args.self.now.ends c.args.lever c.in-HeldBy.bridle c.args.self.now.bridles
    (sym c.test.ensures ∙ c.in-HeldBy.is)).above

pub index-holding-requires : goal.index-holding-requires
index-holding-requires c =
    let h = held c.args.self.now.ends c.args.lever c.in-HeldBy.bridle c.args.self.now.bridles
    (sym c.test.ensures ∙ c.in-HeldBy.is) in
    let a = h.above in let w = h.within in let e =
    ap (λ (f : FrameState). length f.bridles) c.self.view_is in omega (arith, a, w, e)

pub holding_lever-requires : goal.holding_lever-requires
holding_lever-requires c =
    let h = held c.args.self.now.ends c.args.lever c.in-HeldBy.bridle c.args.self.now.bridles
    (sym c.test.ensures ∙ c.in-HeldBy.is) in
    let a = h.above in let w = h.within in let e = ap (λ (f : FrameState). length f.bridles) c.self.view_is in
    let inside : c.in-HeldBy.bridle - 1 < length c.self.inside.bridles.items = omega (arith, a, w, e) in
    let fits : BridleFits (length c.self.inside.ends.items)
    (slice_index_or c.self.inside.bridles.items (c.in-HeldBy.bridle - 1) c.index-holding.result.now) =
    c.self.invariant.fits (c.in-HeldBy.bridle - 1) c.index-holding.result.now inside in
    subst (λ (b : Bridle). 2 ≤ length b.dogs) (sym c.index-holding.ensures) fits.two

pub returns-in-Shifted : goal.returns-in-Shifted
returns-in-Shifted c =
    sym (free c.args.self.now.ends c.args.lever c.args.self.now.bridles (sym c.test.ensures ∙ c.in-Shifted.is))

pub returns-in-HeldBy : goal.returns-in-HeldBy
returns-in-HeldBy c =
    let h = held c.args.self.now.ends c.args.lever c.in-HeldBy.bridle c.args.self.now.bridles
    (sym c.test.ensures ∙ c.in-HeldBy.is) in
    let at = ap (λ (f : FrameState). slice_index_or f.bridles (c.in-HeldBy.bridle - 1) c.index-holding.result.now)
    (sym c.self.view_is) ∙ sym c.index-holding.ensures in
    holding c.args.lever c.in-HeldBy.bridle c.args.self.now.bridles c.index-holding.result.now c.holding_lever.result
    h.above h.within at c.holding_lever.ensures ∙ sym h.is
