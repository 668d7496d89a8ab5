-- A line of desks beside a line in one hand, call by call.
use Rattle.std.proofs.Common.{◌≡◌, ◌≢◌, ℕ, ◌+◌, ◌*◌, ◌-◌, ◌^◌, ◌<◌, true, false, inl, inr, List, []}
use Rattle.std.proofs.Common.{◌∷◌, ◌++◌, length, get_or, set, sym, ap, ◌∙◌, subst, arith, length-append}
use Rattle.std.proofs.Common.{length-set, replicate}
use Rattle.std.proofs.Math.Seq.{get_or-append_seam}
use Rattle.std.proofs.lemmas.List.{get_or-set_other, get_or-set_same, get_or_append_left, get_or_default}
use Rattle.std.proofs.lemmas.List.{length-replicate}
use Rattle.std.specs.Prelude.{◌==◌, ◌⊎◌}
use Rattle.std.proofs.lemmas.Bool.Decides.{eqb_tells}
use Rattle.line_plan.specs.Plans.{IsPlan, PlanFields}
use Rattle.line_law.specs.declared.call.Call.{Call}
use Rattle.line_law.specs.declared.call.Entry.{Entry}
use Rattle.line_law.specs.declared.call.Reply.{Reply}
use Rattle.line_law.specs.History.{entry_of, state_of}
use Rattle.line_law.specs.Law.{Done, MayCall, box_plan_of, step}
use Rattle.line_law.specs.Lines.{IsLineOf, PlainState}
use Rattle.line_law.specs.States.{LineState, box_at, opening_box, opening_state}
use Rattle.line_law.proofs.Histories.{history_grows, history_states, state_grows}
use Rattle.line_law.proofs.Opens.{all_one, opening_at}
use Rattle.line_law.proofs.Sides.{known_box}
use Rattle.word_laws.specs.WordPlaces.{word_count, word_place}
use Rattle.word_laws.proofs.Footprints.{keeps_others}
use Rattle.instrument_rule.proofs.Keeps.{opens_idle}
use Rattle.box_desk.specs.Desks.{DeskFields, IsDeskOf}
use Rattle.desk_tests.specs.DeskLines.{IsDeskAfter, IsDone, IsReady, then_called}
use Rattle.desk_tests.specs.Workings.{AreDesksAfter, IsAfter, no_desk}

-- ---- one call

module _ (plan : PlanFields) (es : List Entry) (boxes : ℕ) (desks : List DeskFields) (words : List ℕ)
    (plain : PlainState) (b : ℕ) (call : Call) (is : IsPlan plan) (after : IsAfter plan es boxes desks words plain)
    (may : MayCall plan plain.line b call) (few : plain.calls < 2 ^ 32) where
  pub ready : IsReady plan es b call
  ready = record {
    is_plan = is;
    legal = after.legal;
    few = (let c = after.calls_are in omega (arith, c, few));
    may = subst (λ (s : LineState). MayCall plan s b call) (sym after.state_is) may;
  }

  in_line : b < length plan.boxes
  in_line = known_box plan b call may.known

  pub in_desks : b < length desks
  in_desks = let n = after.desks_are.long in let l = in_line in omega (arith, n, l)

  -- the desk that is read is that of the box
  pub desk_read : (desk : DeskFields) → desk ≡ get_or desks b desk → IsDeskAfter plan es b desk
  desk_read desk read = subst (IsDeskAfter plan es b) (sym (read ∙ get_or_default desks b desk no_desk in_desks))
      (after.desks_are.each b in_line)

  -- the desks of the other boxes are as they were
  other_stays : (c : ℕ) (desk : DeskFields) → c ≢ b → IsDeskAfter plan es c desk
      → IsDeskAfter plan (then_called plan es b call) c desk
  other_stays c desk differ h =
      let sum = length-append es (entry_of plan (state_of plan es) b call ∷ []) in
      let n = h.calls in
      record {
        desk_of = h.desk_of;
        here = h.here ∙ sym (ap (λ (s : LineState). box_at s c)
            (state_grows plan es (entry_of plan (state_of plan es) b call))
            ∙ (keeps_others plan (state_of plan es) b call is (history_states plan es) may.known).boxes c differ);
        calls = omega (arith, sum, n);
      }

  desks_go_on : (desk : DeskFields) → IsDeskAfter plan (then_called plan es b call) b desk
      → AreDesksAfter plan (then_called plan es b call) (length plan.boxes) (set desks b desk)
  desks_go_on desk h = record {
    long = length-set desks b desk ∙ after.desks_are.long;
    each = λ c within. by c within (eqb_tells c b);
  }
    where
      by : (c : ℕ) → c < length plan.boxes → (((c == b) ≡ true) × (c ≡ b)) ⊎ (((c == b) ≡ false) × (c ≢ b))
          → IsDeskAfter plan (then_called plan es b call) c (get_or (set desks b desk) c no_desk)
      by c within (inl t) = subst (λ (x : ℕ). IsDeskAfter plan (then_called plan es b call) x
          (get_or (set desks b desk) x no_desk)) (sym t.1) (subst (IsDeskAfter plan (then_called plan es b call) b)
          (sym (get_or-set_same desks b desk no_desk in_desks)) h)
      by c within (inr t) = subst (IsDeskAfter plan (then_called plan es b call) c)
          (sym (get_or-set_other desks b c desk no_desk t.1))
          (other_stays c (get_or desks c no_desk) t.1 (after.desks_are.each c within))

  pub goes_on : (reply law : Reply) (desk : DeskFields) (now : List ℕ) (later : PlainState)
      → IsDone plan es b call reply desk now
      → step plan plain.line b call ≡ record { reply = law; after = later.line }
      → later.calls ≡ plain.calls + 1 → IsLineOf plan later
      → IsAfter plan (then_called plan es b call) boxes (set desks b desk) now later
  goes_on reply law desk now later done told calls line =
      let sum = length-append es (entry_of plan (state_of plan es) b call ∷ []) in
      let n = after.calls_are in
      record {
        legal = history_grows plan es b call after.legal ready.may;
        wide = after.wide;
        desks_are = desks_go_on desk done.desk_after;
        words_hold = done.words_hold;
        line_of = line;
        state_is = state_grows plan es (entry_of plan (state_of plan es) b call)
            ∙ (ap (λ (s : LineState). (step plan s b call).after) after.state_is ∙ ap (λ (d : Done). d.after) told);
        calls_are = omega (arith, sum, n, calls);
      }

  pub alike : (reply law : Reply) (desk : DeskFields) (now : List ℕ) (later : PlainState)
      → IsDone plan es b call reply desk now
      → step plan plain.line b call ≡ record { reply = law; after = later.line } → reply ≡ law
  alike reply law desk now later done told = done.reply_is
      ∙ (ap (λ (s : LineState). (step plan s b call).reply) after.state_is ∙ ap (λ (d : Done). d.reply) told)

-- ---- the line as it opens

-- one desk more
pub one_more : (plan : PlanFields) (b : ℕ) (desks : List DeskFields) (desk : DeskFields)
    → b < length plan.boxes → AreDesksAfter plan [] b desks → IsDeskOf plan b desk
    → desk.here ≡ opening_box (length plan.trains) (box_plan_of plan b) → desk.calls ≡ 0
    → AreDesksAfter plan [] (b + 1) (desks ++ desk ∷ [])
one_more plan b desks desk within so of here calls = record {
  long = (let sum = length-append desks (desk ∷ []) in let n = so.long in omega (arith, sum, n));
  each = λ c h. by c h (eqb_tells c b);
}
  where
    mine : IsDeskAfter plan [] b desk
    mine = record {
      desk_of = of;
      here = here ∙ sym (opening_at plan b within);
      calls = omega (arith, calls);
    }

    by : (c : ℕ) → c < b + 1 → (((c == b) ≡ true) × (c ≡ b)) ⊎ (((c == b) ≡ false) × (c ≢ b))
        → IsDeskAfter plan [] c (get_or (desks ++ desk ∷ []) c no_desk)
    by c h (inl t) =
        let n = so.long in
        let at : c ≡ length desks = t.1 ∙ sym n in
        subst (λ (x : ℕ). IsDeskAfter plan [] x (get_or (desks ++ desk ∷ []) c no_desk)) (sym t.1)
        (subst (IsDeskAfter plan [] b) (sym (ap (λ (i : ℕ). get_or (desks ++ desk ∷ []) i no_desk) at
        ∙ get_or-append_seam desks desk [] no_desk)) mine)
    by c h (inr t) =
        let ne = t.1 in
        let n = so.long in
        let below : c < b = omega (arith, h, ne) in
        let inside : c < length desks = omega (arith, n, below) in
        subst (IsDeskAfter plan [] c) (sym (get_or_append_left desks (desk ∷ []) no_desk c inside)) (so.each c below)

-- desks that open, with all words 0, and a line in one hand that opens are as after no call
pub opens : (plan : PlanFields) (desks : List DeskFields) (words : List ℕ) (boxes : ℕ) (plain : PlainState)
    → boxes ≡ length plan.boxes → AreDesksAfter plan [] boxes desks
    → words ≡ replicate (1 + boxes + 6 * (boxes - 1)) 0
    → plain ≡ record { line = opening_state plan; calls = 0 } → IsLineOf plan plain
    → IsAfter plan [] boxes desks words plain
opens plan desks words boxes plain wide desks_are zeroed fresh line = record {
  legal = tt;
  wide = wide;
  desks_are = subst (λ (k : ℕ). AreDesksAfter plan [] k desks) wide desks_are;
  words_hold = record {
    count = ap (λ (ws : List ℕ). length ws) zeroed ∙ (length-replicate (1 + boxes + 6 * (boxes - 1)) 0
        ∙ ap word_count wide);
    each = λ w in_words. ap (λ (ws : List ℕ). get_or ws (word_place (length plan.boxes) w) 0) zeroed
        ∙ (all_one (1 + boxes + 6 * (boxes - 1)) (word_place (length plan.boxes) w) 0 ∙ sym (opens_idle plan w));
  };
  line_of = line;
  state_is = sym (ap (λ (p : PlainState). p.line) fresh);
  calls_are = ap (λ (p : PlainState). p.calls) fresh;
}
