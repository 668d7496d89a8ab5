-- The calls of a script, worked one after another.
use Rattle.std.proofs.Common.{◌≡◌, ◌∙◌, ap, refl, sym, subst, ℕ, ◌+◌, ◌*◌, ◌≤◌, ◌<◌, Bool, true, false, cond}
use Rattle.std.proofs.Common.{List, [], ◌∷◌, ◌++◌, length, take, drop, get_or, append_assoc, append-nil}
use Rattle.std.proofs.Common.{length-append, mul-add, mul-one, mul-zero, zero-add, arith}
use Rattle.std.proofs.lemmas.List.{drop_more, take_more}
use Rattle.std.proofs.lemmas.List.Sums.{sum_by-append}
use mathlib.Core.List.{IsPrefix, map-append}
use Rattle.line_plan.specs.Plans.{PlanFields}
use Rattle.line_law.specs.declared.call.Call.{Call}
use Rattle.line_law.specs.declared.call.Entry.{Entry}
use Rattle.line_law.specs.declared.call.Reply.{Reply}
use Rattle.line_law.specs.Known.{KnowsCall}
use Rattle.line_law.specs.History.{IsLegal, part_of}
use Rattle.line_law.specs.Serial.{AreCalls, is_not_yet}
use Rattle.instrument_rule.specs.declared.view.View.{View}
use Rattle.signalman_seats.specs.Men.{Performed, answered}
use Rattle.line_working.specs.Working.{Worked, count_not_yet, moment_after}

-- a beginning of a beginning
prefix_trans : (xs ys zs : List Entry) → IsPrefix xs ys → IsPrefix ys zs → IsPrefix xs zs
prefix_trans xs ys zs a b =
    (a.0 ++ b.0, sym (append_assoc xs a.0 b.0) ∙ ap (λ (l : List Entry). l ++ b.0) a.1 ∙ b.1)

-- no call is worked yet
pub begun : (plan : PlanFields) (b looks : ℕ) (v : View) → IsLegal plan v.seen → Worked plan b [] looks v v
begun plan b looks v legal = record {
  begins = ([], append-nil v.seen);
  legal = legal;
  grew = (
    [],
    sym (append-nil (part_of b v.seen)),
    refl,
    0,
    omega arith,
    omega (arith, mul-zero looks),
    omega arith,
  );
  glances = refl;
}

-- an await that was not satisfied has taken all its looks
all_looks : (plan : PlanFields) (b : ℕ) (call : Call) (looks : ℕ) (reply : Reply) (u w : View)
    → (p : Performed plan b call looks reply u w) → is_not_yet reply ≡ true → p.looked.0 ≡ looks
all_looks plan b call looks reply u w p e = p.looked.3 e

-- the looks of one entry
looks_of_one : (looks l : ℕ) (t : Bool) → (t ≡ true → l ≡ looks) → looks * cond t 1 0 ≤ l
looks_of_one looks l true all = let e = all refl in omega (arith, mul-one looks)
looks_of_one looks l false all = omega (arith, mul-zero looks)

-- the looks of the calls so far, with those of one more
looks_of_more : (looks k m n l x : ℕ) → looks * m ≤ l → looks * k ≤ x → l ≤ looks * n → x ≤ looks
    → (looks * (m + k) ≤ l + x) × (l + x ≤ looks * (n + 1))
looks_of_more looks k m n l x low lower high higher =
    (omega (arith, mul-add looks m k), omega (arith, mul-add looks n 1, mul-one looks))

-- how many of the entries are of awaits that were not satisfied, with one entry more
count_one_more : (es : List Entry) (e : Entry)
    → count_not_yet (es ++ e ∷ []) ≡ count_not_yet es + cond (is_not_yet e.reply) 1 0
count_one_more es e = sum_by-append (λ (x : Entry). cond (is_not_yet x.reply) 1 0) es (e ∷ [])
    ∙ ap (λ (n : ℕ). count_not_yet es + n) (zero-add (cond (is_not_yet e.reply) 1 0))

-- the next of the calls that are left, and those behind it
pub record IsNext (plan : PlanFields) (b moment : ℕ) (call : Call) (calls : List Call) : Type 0 where
  pub known : KnowsCall plan b call
  pub later : moment ≤ call.moment
  pub rest : AreCalls plan b call.moment calls

-- the first of some calls
next_of : (plan : PlanFields) (b moment : ℕ) (call : Call) (calls : List Call) → AreCalls plan b moment (call ∷ calls)
    → IsNext plan b moment call calls
next_of plan b moment call calls h = record { known = h.0; later = h.1; rest = h.2 }

-- the call at place i, where so many calls of a script are made
pub next_call : (plan : PlanFields) (b moment : ℕ) (items calls : List Call) (i : ℕ) (d : Call) → items ≡ calls
    → i < length items → AreCalls plan b moment (drop i calls)
    → IsNext plan b moment (get_or items i d) (drop (i + 1) calls)
next_call plan b moment items calls i d same within left =
    let here : AreCalls plan b moment (drop i items) =
    subst (λ (cs : List Call). AreCalls plan b moment (drop i cs)) (sym same) left in
    subst (λ (cs : List Call). IsNext plan b moment (get_or items i d) (drop (i + 1) cs)) same
    (next_of plan b moment (get_or items i d) (drop (i + 1) items)
    (subst (λ (cs : List Call). AreCalls plan b moment cs) (drop_more items i d within) here))

-- one call more
pub one_more : (plan : PlanFields) (b : ℕ) (calls : List Call) (call : Call) (looks : ℕ) (reply : Reply) (v u w : View)
    → Worked plan b calls looks v u → Performed plan b call looks reply u w
    → Worked plan b (calls ++ call ∷ []) looks v w
one_more plan b calls call looks reply v u w so_far now = record {
  begins = prefix_trans v.seen u.seen w.seen so_far.begins now.begins;
  legal = now.legal;
  grew = (
    es ++ one,
    now.grew ∙ (ap (λ (part : List Entry). part ++ one) so_far.grew.1 ∙ append_assoc (part_of b v.seen) es one),
    map-append (λ (e : Entry). e.call) es one ∙ ap (λ (cs : List Call). cs ++ call ∷ []) so_far.grew.2,
    so_far.grew.3 + now.looked.0,
    now.looked.1 ∙ (let e = so_far.grew.4 in omega arith),
    subst (λ (n : ℕ). looks * n ≤ so_far.grew.3 + now.looked.0) (sym count) bounds.0,
    subst (λ (n : ℕ). so_far.grew.3 + now.looked.0 ≤ looks * n) (sym (length-append calls (call ∷ []))) bounds.1,
  );
  glances = now.glances ∙ so_far.glances;
}
  where
    es : List Entry
    es = so_far.grew.0

    one : List Entry
    one = answered b call reply ∷ []

    count : count_not_yet (es ++ one) ≡ count_not_yet es + cond (is_not_yet reply) 1 0
    count = count_one_more es (answered b call reply)

    bounds : (looks * (count_not_yet es + cond (is_not_yet reply) 1 0) ≤ so_far.grew.3 + now.looked.0)
        × (so_far.grew.3 + now.looked.0 ≤ looks * (length calls + 1))
    bounds = looks_of_more looks (cond (is_not_yet reply) 1 0) (count_not_yet es) (length calls) so_far.grew.3
        now.looked.0 so_far.grew.5
        (looks_of_one looks now.looked.0 (is_not_yet reply) (all_looks plan b call looks reply u w now)) so_far.grew.6
        now.looked.2

-- one call more of a script, by a man who is at box b still
pub one_more_of : (plan : PlanFields) (b there : ℕ) (items calls : List Call) (i : ℕ) (d : Call) (looks : ℕ)
    (reply : Reply) (v u w : View) → there ≡ b → items ≡ calls → i < length items
    → Worked plan b (take i calls) looks v u → Performed plan there (get_or items i d) looks reply u w
    → Worked plan b (take (i + 1) calls) looks v w
one_more_of plan b there items calls i d looks reply v u w still same within so_far now =
    let e : take i calls ++ get_or items i d ∷ [] ≡ take (i + 1) calls =
    ap (λ (cs : List Call). take i cs ++ get_or items i d ∷ []) (sym same)
    ∙ (sym (take_more items i d within) ∙ ap (λ (cs : List Call). take (i + 1) cs) same) in
    subst (λ (cs : List Call). Worked plan b cs looks v w) e
    (one_more plan b (take i calls) (get_or items i d) looks reply v u w so_far
    (subst (λ (n : ℕ). Performed plan n (get_or items i d) looks reply u w) still now))

-- ---- the moment

moment_of_more : (moment : ℕ) (calls : List Call) (call : Call)
    → moment_after moment (calls ++ call ∷ []) ≡ call.moment
moment_of_more moment [] call = refl
moment_of_more moment (first ∷ calls) call = moment_of_more first.moment calls call

-- it is that of the call at place i, where so many calls and this one are made
pub moment_on : (moment new : ℕ) (items calls : List Call) (i : ℕ) (d : Call) → items ≡ calls → i < length items
    → new ≡ (get_or items i d).moment → new ≡ moment_after moment (take (i + 1) calls)
moment_on moment new items calls i d same within e =
    e ∙ (sym (moment_of_more moment (take i items) (get_or items i d))
    ∙ (ap (moment_after moment) (sym (take_more items i d within))
    ∙ ap (λ (cs : List Call). moment_after moment (take (i + 1) cs)) same))
