use Rattle.std.proofs.Common.{◌≡◌, ℕ, ◌+◌, Bool, List, Option, [], ◌∷◌, ◌++◌, length, refl, sym, ap, subst, ◌∙◌, arith}
use Rattle.std.proofs.lemmas.List.{append_assoc}
use Rattle.line_law.specs.declared.call.Entry.{Entry}
use Rattle.line_law.specs.declared.ways.ByWay.{ByWay}
use Rattle.line_law.specs.History.{after_entry, state_of}
use Rattle.line_law.specs.Law.{Done, MayCall}
use Rattle.line_law.specs.States.{LineState}
use Rattle.line_law.proofs.Histories.{state_grows}
use Rattle.reg_audit.proofs.Places.{IsNext, is_next}
use Rattle.box_marking.specs.declared.clock.SideClock.{SideClock}
use Rattle.box_marking.specs.declared.clock.Timed.{Timed}
use Rattle.box_marking.specs.declared.doing.Doing.{Doing}
use Rattle.box_marking.specs.declared.lapse.Lapse.{Lapse}
use Rattle.box_marking.specs.declared.marking.Marking.{Marking}
use Rattle.box_marking.specs.declared.page.SidePage.{SidePage}
use Rattle.box_marking.specs.Behind.{cause_by, clocks_of, made_good_by, marked, markings_by, pages_of, timed}
use Rattle.box_marking.specs.Clocks.{cause_from, clocks_at, clocks_set, opening_clocks}
use Rattle.box_marking.specs.Doings.{doing_of}
use Rattle.box_marking.specs.Lapses.{before_cause, is_held, lapse_of, late, left_off, made_good}
use Rattle.box_marking.specs.Markers.{HasMarked, MarkerFields}
use Rattle.box_marking.specs.Markings.{struck}
use Rattle.box_marking.specs.Pages.{opening_pages, written}
use Rattle.box_marking.proofs.Hearing.{marked_on, read_from, same_cause}
use Rattle.box_marking.proofs.marking.Marker.hear.Goals as goal

four_more : (old first second third last one off cause tardy : List Marking) → first ≡ old ++ one
    → second ≡ first ++ off → third ≡ second ++ cause → last ≡ third ++ tardy
    → last ≡ old ++ (one ++ off ++ cause ++ tardy)
four_more old first second third last one off cause tardy a b c d = simp (d, c, b, a, append_assoc) refl

same_four : (k n b : ℕ) (one one' off off' cause cause' tardy tardy' : Option Lapse) → k ≡ n → one ≡ one' → off ≡ off'
    → cause ≡ cause' → tardy ≡ tardy'
    → marked k b one ++ marked k b off ++ marked k b cause ++ marked k b tardy
    ≡ marked n b one' ++ marked n b off' ++ marked n b cause' ++ marked n b tardy'
same_four k n b one one' off off' cause cause' tardy tardy' e f g h i = cc

pub doing_of-doing-requires : goal.doing_of-doing-requires
doing_of-doing-requires c = (is_next c.args.plan.now c.requires.es c.args.entry.now c.requires.legal).box_no

pub is_held-held-requires-clause-call : goal.is_held-held-requires-clause-call
is_held-held-requires-clause-call c =
    let has = subst (λ (marker : MarkerFields). HasMarked c.args.plan.now c.args.within c.args.all c.requires.es marker)
    (sym c.self.view_is) c.requires.has in
    subst (λ (state : LineState). MayCall c.args.plan.now state c.args.entry.now.box_no c.args.entry.now.call)
    (sym has.state) (is_next c.args.plan.now c.requires.es c.args.entry.now c.requires.legal).may

pub perform-requires-clause-call : goal.perform-requires-clause-call
perform-requires-clause-call c =
    let has = subst (λ (marker : MarkerFields). HasMarked c.args.plan.now c.args.within c.args.all c.requires.es marker)
    (sym c.self.view_is) c.requires.has in
    subst (λ (state : LineState). MayCall c.args.plan.now state c.args.entry.now.box_no c.args.entry.now.call)
    (sym has.state) (is_next c.args.plan.now c.requires.es c.args.entry.now c.requires.legal).may

pub index_mut-clocks-requires : goal.index_mut-clocks-requires
index_mut-clocks-requires c =
    let within = (is_next c.args.plan.now c.requires.es c.args.entry.now c.requires.legal).box_no in
    let each = (subst
    (λ (marker : MarkerFields). HasMarked c.args.plan.now c.args.within c.args.all c.requires.es marker)
    (sym c.self.view_is) c.requires.has).clocked in
    let len = c.self.inside.clocks.ok.0 in
    omega (arith, within, each, len)

pub index_mut-pages-requires : goal.index_mut-pages-requires
index_mut-pages-requires c =
    let within = (is_next c.args.plan.now c.requires.es c.args.entry.now c.requires.legal).box_no in
    let each = (subst
    (λ (marker : MarkerFields). HasMarked c.args.plan.now c.args.within c.args.all c.requires.es marker)
    (sym c.self.view_is) c.requires.has).each in
    let len = c.self.inside.pages.ok.0 in
    omega (arith, within, each, len)

pub returns : goal.returns
returns c es before legal =
    let plan = c.args.plan.now in
    let e : Entry = c.args.entry.now in
    let has = subst (λ (marker : MarkerFields). HasMarked plan c.args.within c.args.all es marker)
    (sym c.self.view_is) before in
    let next : IsNext plan es e = is_next plan es e legal in
    let k : ℕ = c.self.inside.count + 1 in
    let each = has.each in
    let within = next.box_no in
    let number : k ≡ length es + 1 = ap (λ (n : ℕ). n + 1) has.count in
    let doing : Doing = c.doing_of-doing.result in
    let here : ByWay SidePage = c.index_mut-pages.result.now in
    let doing_is : doing ≡ doing_of plan e = c.doing_of-doing.ensures in
    let here_is : here ≡ pages_of plan e.box_no es =
    read_from c.self.inside.pages.items e.box_no here opening_pages (omega (arith, each, within))
    c.index_mut-pages.ensures.value
    ∙ has.pages e.box_no within in
    let held_is : c.is_held-held.result ≡ is_held plan (state_of plan es) e (doing_of plan e) =
    c.is_held-held.ensures ∙ ap (λ (state : LineState). is_held plan state e doing) has.state
    ∙ ap (λ (d : Doing). is_held plan (state_of plan es) e d) doing_is in
    let lapse_is : c.lapse_of-lapse.result
    ≡ lapse_of plan (is_held plan (state_of plan es) e (doing_of plan e)) (doing_of plan e)
    (pages_of plan e.box_no es) =
    c.lapse_of-lapse.ensures ∙ ap (λ (held : Bool). lapse_of plan held doing here) held_is
    ∙ ap (λ (d : Doing). lapse_of plan (is_held plan (state_of plan es) e (doing_of plan e)) d here) doing_is
    ∙ ap (λ (p : ByWay SidePage).
    lapse_of plan (is_held plan (state_of plan es) e (doing_of plan e)) (doing_of plan e) p) here_is in
    let off_is : c.left_off.result ≡ left_off (doing_of plan e) =
    c.left_off.ensures ∙ ap (λ (d : Doing). left_off d) doing_is in
    let made_is : c.made_good.result ≡ made_good_by plan es e =
    c.made_good.ensures ∙ ap (λ (d : Doing). made_good plan d here) doing_is
    ∙ ap (λ (p : ByWay SidePage). made_good plan (doing_of plan e) p) here_is in
    let now : Timed = record { entry = k; moment = e.call.moment } in
    let now_is : now ≡ timed es e = ap (λ (n : ℕ). record { entry = n; moment = e.call.moment }) number in
    let cause : Option Timed = c.cause_of-cause.result in
    let cause_is : cause ≡ cause_by plan es e =
    c.cause_of-cause.ensures
    ∙ ap (λ (cs : List (ByWay SideClock)). cause_from (clocks_at cs) e.box_no doing) c.deref.ensures.value
    ∙ ap (λ (d : Doing). cause_from (clocks_at c.self.inside.clocks.items) e.box_no d) doing_is
    ∙ same_cause (clocks_at c.self.inside.clocks.items) (λ b. clocks_of plan b es) e.box_no (doing_of plan e) has.clocks
    in
    let clock : ByWay SideClock = c.index_mut-clocks.result.now in
    let clocked = has.clocked in
    let clock_is : clock ≡ clocks_of plan e.box_no es =
    read_from c.self.inside.clocks.items e.box_no clock opening_clocks (omega (arith, clocked, within))
    c.index_mut-clocks.ensures.value ∙ has.clocks e.box_no in
    let clocks_is : c.set_clocks.new.clocks ≡ clocks_set (timed es e) (doing_of plan e) (clocks_of plan e.box_no es) =
    c.set_clocks.ensures ∙ ap (λ (t : Timed). clocks_set t doing clock) now_is
    ∙ ap (λ (d : Doing). clocks_set (timed es e) d clock) doing_is
    ∙ ap (λ (cs : ByWay SideClock). clocks_set (timed es e) (doing_of plan e) cs) clock_is in
    let after_is : c.write_down.new.pages
    ≡ written plan (length es + 1) (cause_by plan es e) (doing_of plan e) (pages_of plan e.box_no es) =
    c.write_down.ensures ∙ ap (λ (n : ℕ). written plan n cause doing here) number
    ∙ ap (λ (t : Option Timed). written plan (length es + 1) t doing here) cause_is
    ∙ ap (λ (d : Doing). written plan (length es + 1) (cause_by plan es e) d here) doing_is
    ∙ ap (λ (p : ByWay SidePage). written plan (length es + 1) (cause_by plan es e) (doing_of plan e) p) here_is in
    let before_is : c.before_cause.result ≡ before_cause (timed es e) (cause_by plan es e) =
    c.before_cause.ensures ∙ ap (λ (t : Timed). before_cause t cause) now_is
    ∙ ap (λ (t : Option Timed). before_cause (timed es e) t) cause_is in
    let late_is : c.late-late.result
    ≡ late plan c.args.within (timed es e) (doing_of plan e) (pages_of plan e.box_no es) =
    c.late-late.ensures ∙ ap (λ (t : Timed). late plan c.args.within t doing here) now_is
    ∙ ap (λ (d : Doing). late plan c.args.within (timed es e) d here) doing_is
    ∙ ap (λ (p : ByWay SidePage). late plan c.args.within (timed es e) (doing_of plan e) p) here_is in
    let state_is : c.perform.new.self.line ≡ state_of plan (es ++ e ∷ []) =
    sym (ap (λ (d : Done). d.after) c.perform.ensures.told)
    ∙ ap (λ (state : LineState). after_entry plan state e) has.state ∙ sym (state_grows plan es e) in
    let all_four : c.add_marking-4.new.found.items ≡ c.self.inside.found.items
    ++ (marked k e.box_no c.lapse_of-lapse.result ++ marked k e.box_no c.left_off.result
    ++ marked k e.box_no c.before_cause.result ++ marked k e.box_no c.late-late.result) =
    four_more c.self.inside.found.items c.add_marking.new.found.items c.add_marking-2.new.found.items
    c.add_marking-3.new.found.items c.add_marking-4.new.found.items _ _ _ _ c.in_ok-add_marking.ensures
    c.in_ok-add_marking-2.ensures c.in_ok-add_marking-3.ensures c.in_ok-add_marking-4.ensures in
    let found_is : c.add_marking-4.new.found.items ≡ c.self.inside.found.items ++ markings_by plan c.args.within es e =
    all_four ∙ ap (λ (ms : List Marking). c.self.inside.found.items ++ ms)
    (same_four k (length es + 1) e.box_no _ _ _ _ _ _ _ _ number lapse_is off_is before_is late_is) in
    let done_is : c.strike_all.new.done.items ≡ struck (made_good_by plan es e) c.self.inside.done.items =
    c.strike_all.ensures ∙ ap (λ (made : List (Option ℕ)). struck made c.self.inside.done.items) made_is in
    marked_on plan c.args.within c.args.all es e _ c.write_down.new.pages c.set_clocks.new.clocks c.perform.new.self
    c.strike_all.new.done.items c.add_marking-4.new.found.items has within after_is clocks_is
    c.perform.ensures.line state_is c.perform.ensures.calls done_is
    found_is
