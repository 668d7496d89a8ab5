-- What a judge finds of a journal whose calls may be made.
use Rattle.std.proofs.Common.{◌≡◌, ◌≢◌, ℕ, zero, suc, ◌+◌, ◌-◌, ◌<◌, ◌^◌, Bool, true, false, cond, All, IsTrue}
use Rattle.std.proofs.Common.{List, [], ◌∷◌, length, take, map, get_or, Some, slice_get, refl, sym, ap, subst, ◌∙◌}
use Rattle.std.proofs.Common.{arith}
use Rattle.std.specs.Prelude.{◌↔◌}
use Rattle.std.proofs.lemmas.List.{get_or-map, length-take}
use Rattle.std.proofs.lemmas.List.Elements.{All-head, All-tail}
use Rattle.line_plan.specs.Plans.{IsPlan, PlanFields}
use Rattle.line_law.specs.declared.call.Call.{Call}
use Rattle.line_law.specs.declared.call.Entry.{Entry}
use Rattle.line_law.specs.declared.call.Reply.{Reply}
use Rattle.line_law.specs.History.{IsLegal, IsLegalFrom, after_entry, entry_of, state_after, state_of}
use Rattle.line_law.specs.Law.{Done, MayCall, step}
use Rattle.line_law.specs.Replies.{same_reply}
use Rattle.line_law.specs.States.{IsStateOf, LineState, opening_state}
use Rattle.line_law.proofs.Histories.{history_grows}
use Rattle.line_law.proofs.Keeping.{shape_stays}
use Rattle.line_law.proofs.Opens.{opening_shape}
use Rattle.line_law.proofs.SameReplies.{same_reply-itself, same_reply-true}
use Rattle.line_law.proofs.ToldHistories.{each_told}
use Rattle.script_text.specs.Replies.{is_spelled_reply}
use Rattle.script_text.specs.Entries.{IsSpelled}
use Rattle.line_report.specs.Asked.{AreAsked, AreFewEntries}
use Rattle.line_report.specs.Verdicts.{CanPrint, IsWrongAt, box_of_entry, verdict_from, verdict_of}
use Rattle.line_report.specs.declared.judging.Verdict.{Verdict}
use Rattle.line_report.specs.declared.judging.Verdict.TheVariants.{Legal, WrongAt}
use Rattle.line_report.proofs.Spellings.{told_spelled}
use Rattle.line_report.proofs.Turns.{AreAskedFrom, asked_first, asked_now, asked_then, no_entry}

-- ---- one entry more

-- by whether the reply is the law's: the verdict on the rest, or that this entry is wrong
abbrev judged : Bool → PlanFields → ℕ → Entry → List Entry → Done → Verdict
judged same plan k e es done = cond same (verdict_from plan done.after (k + 1) es) (WrongAt k e.reply done.reply)

-- ---- legal journals

-- the law's reply to an entry's call
abbrev law_at : PlanFields → LineState → Entry → Reply
law_at plan state e = (step plan state e.box_no e.call).reply

verdict_legal : (plan : PlanFields) (state : LineState) (k : ℕ) (es : List Entry) → IsPlan plan → IsStateOf plan state
    → AreAskedFrom plan state es → verdict_from plan state k es ≡ Legal → IsLegalFrom plan state es
verdict_legal plan state k [] is shape asked found = tt
verdict_legal plan state k (e ∷ es) is shape asked found =
    go (same_reply e.reply (law_at plan state e)) refl
    (λ f. verdict_legal plan (after_entry plan state e) (k + 1) es is (shape_stays plan state e.box_no e.call shape)
    (asked_then plan state e es is shape asked) f) found where
      go : (same : Bool) → same_reply e.reply (law_at plan state e) ≡ same
          → (verdict_from plan (after_entry plan state e) (k + 1) es ≡ Legal
          → IsLegalFrom plan (after_entry plan state e) es)
          → judged same plan k e es (step plan state e.box_no e.call) ≡ Legal → IsLegalFrom plan state (e ∷ es)
      go true same later f =
          (asked_now plan state e es asked, same_reply-true e.reply (law_at plan state e) same, later f)
      go false same later f = absurd cc

legal_verdict : (plan : PlanFields) (state : LineState) (k : ℕ) (es : List Entry) → IsLegalFrom plan state es
    → verdict_from plan state k es ≡ Legal
legal_verdict plan state k [] legal = refl
legal_verdict plan state k (e ∷ es) legal =
    let same : same_reply e.reply (law_at plan state e) ≡ true =
    subst (λ (r : Reply). same_reply e.reply r ≡ true) legal.1 (same_reply-itself e.reply) in
    subst (λ (b : Bool). judged b plan k e es (step plan state e.box_no e.call) ≡ Legal) (sym same)
    (legal_verdict plan (after_entry plan state e) (k + 1) es legal.2)

-- a journal is found legal exactly where it is
pub legal_exactly : (plan : PlanFields) (es : List Entry) → IsPlan plan → AreAsked plan es
    → (verdict_of plan es ≡ Legal ↔ IsLegal plan es)
legal_exactly plan es is asked = (
  λ found. verdict_legal plan (opening_state plan) 1 es is (opening_shape plan) (asked_first plan es asked) found,
  λ legal. legal_verdict plan (opening_state plan) 1 es legal,
)

-- ---- wrong entries

-- The entry at this place, of those from entry k and a state on, is the first whose reply isn't the law's.
record IsWrongFrom (plan : PlanFields) (state : LineState) (k : ℕ) (es : List Entry) (n : ℕ) (said law : Reply) : Type 0
  where
    place : ℕ
    is : n ≡ k + place
    entry : Entry
    at : slice_get es place ≡ Some entry
    before : IsLegalFrom plan state (take place es)
    may : MayCall plan (state_after plan state (take place es)) entry.box_no entry.call
    told : said ≡ entry.reply
    lawful : law ≡ law_at plan (state_after plan state (take place es)) entry
    differs : said ≢ law

wrong_from : (plan : PlanFields) (state : LineState) (k : ℕ) (es : List Entry) (n : ℕ) (said law : Reply) → IsPlan plan
    → IsStateOf plan state → AreAskedFrom plan state es → verdict_from plan state k es ≡ WrongAt n said law
    → IsWrongFrom plan state k es n said law
wrong_from plan state k [] n said law is shape asked found = absurd cc
wrong_from plan state k (e ∷ es) n said law is shape asked found =
    go (same_reply e.reply (law_at plan state e)) refl
    (λ f. wrong_from plan (after_entry plan state e) (k + 1) es n said law is
    (shape_stays plan state e.box_no e.call shape) (asked_then plan state e es is shape asked) f) found where
      go : (same : Bool) → same_reply e.reply (law_at plan state e) ≡ same
          → (verdict_from plan (after_entry plan state e) (k + 1) es ≡ WrongAt n said law
          → IsWrongFrom plan (after_entry plan state e) (k + 1) es n said law)
          → judged same plan k e es (step plan state e.box_no e.call) ≡ WrongAt n said law
          → IsWrongFrom plan state k (e ∷ es) n said law
      go true same later f =
          let h = later f in
          let is = h.is in
          record {
            place = suc h.place;
            is = omega (arith, is);
            entry = h.entry;
            at = h.at;
            before = (asked_now plan state e es asked, same_reply-true e.reply (law_at plan state e) same, h.before);
            may = h.may;
            told = h.told;
            lawful = h.lawful;
            differs = h.differs;
          }
      go false same later f =
          let number : k ≡ n = cc in
          let told : e.reply ≡ said = cc in
          let lawful : law_at plan state e ≡ law = cc in
          record {
            place = zero;
            is = omega (arith, number);
            entry = e;
            at = refl;
            before = tt;
            may = asked_now plan state e es asked;
            told = sym told;
            lawful = sym lawful;
            differs = λ one.
                let equal : e.reply ≡ law_at plan state e = told ∙ one ∙ sym lawful in
                let found_same : same_reply e.reply (law_at plan state e) ≡ true =
                subst (λ (r : Reply). same_reply e.reply r ≡ true) equal (same_reply-itself e.reply) in
                absurd cc;
          }

first_wrong : (plan : PlanFields) (es : List Entry) (k : ℕ) (said law : Reply) → IsPlan plan → AreAsked plan es
    → verdict_of plan es ≡ WrongAt k said law → IsWrongFrom plan (opening_state plan) 1 es k said law
first_wrong plan es k said law is asked found =
    wrong_from plan (opening_state plan) 1 es k said law is (opening_shape plan) (asked_first plan es asked) found

-- the entry found wrong is the first whose reply isn't the law's
pub wrong_exactly : (plan : PlanFields) (es : List Entry) (k : ℕ) (said law : Reply) → IsPlan plan → AreAsked plan es
    → verdict_of plan es ≡ WrongAt k said law → IsWrongAt plan es k said law
wrong_exactly plan es k said law is asked found =
    let h = first_wrong plan es k said law is asked found in
    let number = h.is in
    let place : h.place ≡ k - 1 = omega (arith, number) in
    record {
      entry = h.entry;
      low = omega (arith, number);
      at = subst (λ (p : ℕ). slice_get es p ≡ Some h.entry) place h.at;
      before = subst (λ (p : ℕ). IsLegal plan (take p es)) place h.before;
      told = h.told;
      lawful = subst (λ (p : ℕ). law ≡ law_at plan (state_of plan (take p es)) h.entry) place h.lawful;
      differs = h.differs;
    }

-- ---- wrong entries can be printed

-- an item of a list that is there
at_within : (es : List Entry) (i : ℕ) (d e : Entry) → slice_get es i ≡ Some e → (i < length es) × (get_or es i d ≡ e)
at_within [] i d e at = absurd cc
at_within (f ∷ es) zero d e at = let same : f ≡ e = cc in (omega arith, same)
at_within (f ∷ es) (suc i) d e at = let h = at_within es i d e at in let within = h.0 in (omega (arith, within), h.1)

all_at : (P : Entry → Type 0) (es : List Entry) (i : ℕ) (e : Entry) → slice_get es i ≡ Some e → All P es → P e
all_at P [] i e at all = absurd cc
all_at P (f ∷ es) zero e at all = let same : f ≡ e = cc in subst P same (All-head P f es all)
all_at P (f ∷ es) (suc i) e at all = all_at P es i e at (All-tail P f es all)

-- the law's reply to a call that may be made where a legal history ends can be spelled
law_spelled : (plan : PlanFields) (es : List Entry) (b : ℕ) (call : Call) → IsPlan plan → length es + 1 < 10 ^ 10
    → IsLegal plan es → MayCall plan (state_of plan es) b call
    → IsTrue (is_spelled_reply plan b (step plan (state_of plan es) b call).reply)
law_spelled plan es b call is few legal may =
    told_spelled (step plan (state_of plan es) b call).reply plan b (length es + 1) is few
    (each_told plan es [] (entry_of plan (state_of plan es) b call) is (history_grows plan es b call legal may))

-- the two replies of a verdict can be printed
pub can_print : (plan : PlanFields) (es : List Entry) (k b : ℕ) (said law : Reply) → IsPlan plan
    → All (IsSpelled plan) es → AreAsked plan es → AreFewEntries es → verdict_of plan es ≡ WrongAt k said law
    → b ≡ box_of_entry es k → CanPrint plan b said law
can_print plan es k b said law is spelled asked few found box =
    let h = first_wrong plan es k said law is asked found in
    let number = h.is in
    let place : h.place ≡ k - 1 = omega (arith, number) in
    let there = at_within es h.place no_entry h.entry h.at in
    let within = there.0 in
    let one : IsSpelled plan h.entry = all_at (IsSpelled plan) es h.place h.entry h.at spelled in
    let same : h.entry.box_no ≡ b =
    ap (λ (e : Entry). e.box_no) (sym there.1)
    ∙ sym (get_or-map (λ (e : Entry). e.box_no) es h.place no_entry 0 within)
    ∙ ap (λ (p : ℕ). get_or (map (λ (e : Entry). e.box_no) es) p 0) place ∙ sym box in
    let short : length (take h.place es) + 1 < 10 ^ 10 = omega (arith, length-take h.place es, within, few) in
    let spelled_law : IsTrue (is_spelled_reply plan h.entry.box_no law) =
    subst (λ (r : Reply). IsTrue (is_spelled_reply plan h.entry.box_no r)) (sym h.lawful)
    (law_spelled plan (take h.place es) h.entry.box_no h.entry.call is short h.before h.may) in
    let spelled_said : IsTrue (is_spelled_reply plan h.entry.box_no said) =
    subst (λ (r : Reply). IsTrue (is_spelled_reply plan h.entry.box_no r)) (sym h.told) one.reply in
    record {
      box = subst (λ (n : ℕ). n < length plan.boxes) same one.box;
      said_there = subst (λ (n : ℕ). IsTrue (is_spelled_reply plan n said)) same spelled_said;
      law_there = subst (λ (n : ℕ). IsTrue (is_spelled_reply plan n law)) same spelled_law;
    }
