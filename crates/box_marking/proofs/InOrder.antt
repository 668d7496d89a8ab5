-- What may be marked stands in order: by entry, and then by rule.
use Rattle.std.proofs.Common.{◌≡◌, ℕ, ◌+◌, ◌-◌, ◌<◌, Bool, true, false}
use Rattle.std.proofs.Common.{cond, inl, inr, List, [], ◌∷◌, ◌++◌, length, All}
use Rattle.std.proofs.Common.{Option, Some, None, refl, sym, subst, ◌∙◌, arith}
use Rattle.std.specs.Prelude.{◌==◌, ◌&&◌, nat_lt, not}
use Rattle.std.specs.List.{AllPairs}
use Rattle.std.proofs.lemmas.List.{append_assoc, append-nil, length-append}
use Rattle.std.proofs.lemmas.List.Elements.{All-append, All-cons, All-nil, All-weaker}
use Rattle.std.proofs.lemmas.List.Kept.{AllPairs-cons}
use Rattle.block_words.specs.Ways.{opposite}
use Rattle.block_words.specs.declared.Position.TheVariants as shows
use Rattle.line_plan.specs.Plans.{PlanFields}
use Rattle.line_law.specs.declared.call.Entry.{Entry}
use Rattle.line_law.specs.declared.ways.ByWay.{ByWay}
use Rattle.line_law.specs.History.{state_of}
use Rattle.line_law.specs.Instruments.{same_position}
use Rattle.line_law.specs.Ways.{of_way}
use Rattle.reg_audit.specs.declared.bell.BellEntry.{BellEntry}
use Rattle.reg_audit.specs.declared.bell.BellKind.TheVariants as kinds
use Rattle.reg_audit.specs.Marks.{same_kind}
use Rattle.reg_audit.proofs.InOrder.{pairs_both}
use Rattle.box_marking.specs.declared.bell.LastBell.{LastBell}
use Rattle.box_marking.specs.declared.bell.Role.{Role}
use Rattle.box_marking.specs.declared.bell.Role.TheVariants as roles
use Rattle.box_marking.specs.declared.clock.Timed.{Timed}
use Rattle.box_marking.specs.declared.doing.Doing.{Doing}
use Rattle.box_marking.specs.declared.doing.Doing.TheVariants as doings
use Rattle.box_marking.specs.declared.lapse.Lapse.{Lapse}
use Rattle.box_marking.specs.declared.lapse.Lapse.TheVariants as lapses
use Rattle.box_marking.specs.declared.marking.Marking.{Marking}
use Rattle.box_marking.specs.declared.page.Offer.{Offer}
use Rattle.box_marking.specs.declared.page.SidePage.{SidePage}
use Rattle.box_marking.specs.Behind.{cause_by, each_behind, marked, markings_by, pages_of, timed}
use Rattle.box_marking.specs.Bells.{role_of}
use Rattle.box_marking.specs.Doings.{doing_of}
use Rattle.box_marking.specs.Lapses.{before_cause, class_code_of, given_to, is_held}
use Rattle.box_marking.specs.Lapses.{lapse_of, late, later_than, left_off}
use Rattle.box_marking.specs.Lapses.{misdescribed, misrepeated, role_lapse, rung_back}
use Rattle.box_marking.specs.Markings.{ComesBefore, rule_number}
use Rattle.box_marking.specs.Pages.{leaves_on}

-- ---- one lapse in front of others

abbrev marking_of : ℕ → ℕ → Lapse → Marking
marking_of k b lapse = record { entry = k; box_no = b; lapse = lapse }

-- a rule below that of a lapse, if there is one
abbrev IsBelow : ℕ → Option Lapse → Type 0
IsBelow n lapse = (x : Lapse) → lapse ≡ Some x → n < rule_number x

-- what may be marked of an entry, by rules above this one
abbrev AreAbove : ℕ → ℕ → List Marking → Type 0
AreAbove k n markings = All (λ marking. (marking.entry ≡ k) × (n < rule_number marking.lapse)) markings

no_pair : {X : Type 0} (R : X → X → Type 0) → AllPairs R []
no_pair R i j d less lt = absurd (omega (arith, lt))

above_none : (k b n : ℕ) (lapse : Option Lapse) → IsBelow n lapse → AreAbove k n (marked k b lapse)
above_none k b n None below = All-nil (λ marking. (marking.entry ≡ k) × (n < rule_number marking.lapse))
above_none k b n (Some x) below =
    All-cons (λ marking. (marking.entry ≡ k) × (n < rule_number marking.lapse)) (marking_of k b x) []
    (refl, below x refl) (All-nil (λ marking. (marking.entry ≡ k) × (n < rule_number marking.lapse)))

above_both : (k b n : ℕ) (lapse : Option Lapse) (rest : List Marking) → IsBelow n lapse → AreAbove k n rest
    → AreAbove k n (marked k b lapse ++ rest)
above_both k b n lapse rest below above =
    All-append (λ marking. (marking.entry ≡ k) × (n < rule_number marking.lapse)) (marked k b lapse) rest
    (above_none k b n lapse below) above

-- a lapse in front of others of its entry, whose rules are above its own
in_front : (k b : ℕ) (lapse : Option Lapse) (rest : List Marking)
    → ((x : Lapse) → lapse ≡ Some x → AreAbove k (rule_number x) rest) → AllPairs ComesBefore rest
    → AllPairs ComesBefore (marked k b lapse ++ rest)
in_front k b None rest above pairs = pairs
in_front k b (Some x) rest above pairs =
    AllPairs-cons ComesBefore (marking_of k b x) rest
    (All-weaker (λ marking. (marking.entry ≡ k) × (rule_number x < rule_number marking.lapse))
    (ComesBefore (marking_of k b x)) (λ marking is. inr (sym is.0, is.1)) rest (above x refl)) pairs

-- ---- the rules of what is told

-- the lapse, if there is one, is by a rule below this one
abbrev IsUnder : ℕ → Option Lapse → Type 0
IsUnder n lapse = (x : Lapse) → lapse ≡ Some x → rule_number x < n

under_none : (n : ℕ) → IsUnder n None
under_none n x e = absurd cc

under_one : (n : ℕ) (lapse : Lapse) → rule_number lapse < n → IsUnder n (Some lapse)
under_one n lapse less x e =
    let same : lapse ≡ x = cc in
    subst (λ (z : Lapse). rule_number z < n) same less

under_if : (n : ℕ) (test : Bool) (one other : Option Lapse) → IsUnder n one → IsUnder n other
    → IsUnder n (cond test one other)
under_if n true one other f g = f
under_if n false one other f g = g

misrepeated_under : (last : Option LastBell) (bell : BellEntry) → IsUnder 7 (misrepeated last bell)
misrepeated_under None bell = under_none 7
misrepeated_under (Some last) bell =
    under_if 7 (same_kind bell.kind kinds.Rung && not (last.bell.code == bell.code)) _ None
    (under_one 7 (lapses.Misrepeated last.bell.code bell.code last.entry) (omega arith)) (under_none 7)

role_under : (held : Bool) (bell : BellEntry) (page : SidePage) (role : Role)
    → IsUnder 7 (role_lapse held bell page role)
role_under held bell page roles.Offer = under_none 7
role_under held bell page roles.Asked =
    under_if 7 held None _ (under_none 7) (under_one 7 (lapses.Unacknowledged bell.code) (omega arith))
role_under held bell page roles.Answer = misrepeated_under page.last bell
role_under held bell page roles.Other =
    under_if 7 (leaves_on bell page.shown) _ None (under_one 7 (lapses.LeftOn page.shown) (omega arith)) (under_none 7)

misdescribed_under : (n : ℕ) (code : Option ℕ) (under : Option Offer) (train : ℕ) → 4 < n
    → IsUnder n (misdescribed code under train)
misdescribed_under n None under train less = under_none n
misdescribed_under n (Some code) None train less = under_none n
misdescribed_under n (Some code) (Some offer) train less =
    under_if n (offer.code == code) None _ (under_none n)
    (under_one n (lapses.Misdescribed offer.code train offer.entry) less)

lapse_under : (plan : PlanFields) (held : Bool) (doing : Doing) (pages : ByWay SidePage)
    → IsUnder 7 (lapse_of plan held doing pages)
lapse_under plan held (doings.Bell side bell) pages =
    role_under held bell (of_way pages side) (role_of plan (of_way pages side).last bell)
lapse_under plan held (doings.Turned way position) pages =
    under_if 7 (same_position position shows.LineClear && not (of_way pages (opposite way)).offered) _ None
    (under_one 7 (lapses.LeftOn position) (omega arith)) (under_none 7)
lapse_under plan held (doings.PassedStarter way lever train number) pages =
    misdescribed_under 7 (class_code_of plan train) (of_way pages way).under train (omega arith)
lapse_under plan held doing pages = under_none 7

off_above : (plan : PlanFields) (held : Bool) (doing : Doing) (pages : ByWay SidePage) (x : Lapse)
    → lapse_of plan held doing pages ≡ Some x → IsBelow (rule_number x) (left_off doing)
off_above plan held (doings.PassedStarter way lever train number) pages x e y f =
    let low = misdescribed_under 5 (class_code_of plan train) (of_way pages way).under train (omega arith) x e in
    let other : lapses.LeftOff lever ≡ y = cc in
    subst (λ (z : Lapse). rule_number x < rule_number z) other low
off_above plan held doing pages x e y f = absurd cc

left_off_is : (doing : Doing) (x : Lapse) → left_off doing ≡ Some x → rule_number x ≡ 5
left_off_is (doings.PassedStarter way lever train number) x e =
    let same : lapses.LeftOff lever ≡ x = cc in
    subst (λ (z : Lapse). rule_number z ≡ 5) same refl
left_off_is (doings.PassedHome way lever) x e =
    let same : lapses.LeftOff lever ≡ x = cc in
    subst (λ (z : Lapse). rule_number z ≡ 5) same refl
left_off_is doing x e = absurd cc

before_is : (now : Timed) (cause : Option Timed) (x : Lapse) → before_cause now cause ≡ Some x → rule_number x ≡ 7
before_is now None x e = absurd cc
before_is now (Some cause) x e = go (nat_lt now.moment cause.moment) e where
  go : (test : Bool) → cond test (Some (lapses.BeforeCause cause.entry)) None ≡ Some x → rule_number x ≡ 7
  go true e =
      let same : lapses.BeforeCause cause.entry ≡ x = cc in
      subst (λ (z : Lapse). rule_number z ≡ 7) same refl
  go false e = absurd cc

later_is : (within : Option ℕ) (now : Timed) (since : Option Timed) (x : Lapse)
    → later_than within now since ≡ Some x → rule_number x ≡ 8
later_is None now since x e = absurd cc
later_is (Some within) now None x e = absurd cc
later_is (Some within) now (Some since) x e = go (nat_lt within (now.moment - since.moment)) e where
  go : (test : Bool) → cond test (Some (lapses.Late since.entry)) None ≡ Some x → rule_number x ≡ 8
  go true e =
      let same : lapses.Late since.entry ≡ x = cc in
      subst (λ (z : Lapse). rule_number z ≡ 8) same refl
  go false e = absurd cc

late_is : (plan : PlanFields) (within : Option ℕ) (now : Timed) (doing : Doing) (pages : ByWay SidePage) (x : Lapse)
    → late plan within now doing pages ≡ Some x → rule_number x ≡ 8
late_is plan within now (doings.Bell side bell) pages x e =
    later_is within now (rung_back plan bell (of_way pages side)) x e
late_is plan within now (doings.Turned way position) pages x e =
    later_is within now (given_to position (of_way pages (opposite way))) x e
late_is plan within now doing pages x e = absurd cc

-- ---- of one entry

-- four lapses of one entry, by rising rules, are in order
four_order : (k b : ℕ) (one off cause tardy : Option Lapse)
    → ((x : Lapse) → one ≡ Some x → IsBelow (rule_number x) off) → IsUnder 7 one
    → ((x : Lapse) → off ≡ Some x → rule_number x ≡ 5) → ((x : Lapse) → cause ≡ Some x → rule_number x ≡ 7)
    → ((x : Lapse) → tardy ≡ Some x → rule_number x ≡ 8)
    → AllPairs ComesBefore (marked k b one ++ (marked k b off ++ (marked k b cause ++ marked k b tardy)))
four_order k b one off cause tardy rise low five seven eight =
    let last : AllPairs ComesBefore (marked k b tardy) =
    subst (λ (ms : List Marking). AllPairs ComesBefore ms) (append-nil (marked k b tardy))
    (in_front k b tardy []
    (λ x e. All-nil (λ marking. (marking.entry ≡ k) × (rule_number x < rule_number marking.lapse)))
    (no_pair ComesBefore)) in
    let late_over = λ (n : ℕ) (less : n < 8).
    above_none k b n tardy (λ x e. let is = eight x e in omega (arith, is, less)) in
    let both_over = λ (n : ℕ) (less : n < 7).
    above_both k b n cause (marked k b tardy) (λ x e. let is = seven x e in omega (arith, is, less))
    (late_over n (omega (arith, less))) in
    in_front k b one (marked k b off ++ (marked k b cause ++ marked k b tardy))
    (λ x e. above_both k b (rule_number x) off (marked k b cause ++ marked k b tardy) (rise x e)
    (both_over (rule_number x) (low x e)))
    (in_front k b off (marked k b cause ++ marked k b tardy)
    (λ x e. both_over (rule_number x) (let is = five x e in omega (arith, is)))
    (in_front k b cause (marked k b tardy) (λ x e. late_over (rule_number x) (let is = seven x e in omega (arith, is)))
    last))

-- four lists, one behind another
behind_four : {X : Type 0} (a b c d : List X) → a ++ (b ++ (c ++ d)) ≡ ((a ++ b) ++ c) ++ d
behind_four a b c d = sym (append_assoc a b (c ++ d)) ∙ sym (append_assoc (a ++ b) c d)

-- what one entry is marked for is in order
by_order : (plan : PlanFields) (within : Option ℕ) (before : List Entry) (e : Entry)
    → AllPairs ComesBefore (markings_by plan within before e)
by_order plan within before e =
    let k : ℕ = length before + 1 in
    let doing : Doing = doing_of plan e in
    let pages : ByWay SidePage = pages_of plan e.box_no before in
    let held : Bool = is_held plan (state_of plan before) e doing in
    let one : Option Lapse = lapse_of plan held doing pages in
    let cause : Option Lapse = before_cause (timed before e) (cause_by plan before e) in
    let tardy : Option Lapse = late plan within (timed before e) doing pages in
    subst (λ (ms : List Marking). AllPairs ComesBefore ms)
    (behind_four (marked k e.box_no one) (marked k e.box_no (left_off doing)) (marked k e.box_no cause)
    (marked k e.box_no tardy))
    (four_order k e.box_no one (left_off doing) cause tardy (off_above plan held doing pages)
    (lapse_under plan held doing pages) (left_off_is doing) (before_is (timed before e) (cause_by plan before e))
    (late_is plan within (timed before e) doing pages))

marked_entry : (k b : ℕ) (lapse : Option Lapse) → All (λ marking. marking.entry ≡ k) (marked k b lapse)
marked_entry k b None = All-nil (λ marking. marking.entry ≡ k)
marked_entry k b (Some lapse) =
    All-cons (λ marking. marking.entry ≡ k) (marking_of k b lapse) [] refl (All-nil (λ marking. marking.entry ≡ k))

-- what one entry is marked for has its number
pub by_entry : (plan : PlanFields) (within : Option ℕ) (before : List Entry) (e : Entry)
    → All (λ marking. marking.entry ≡ length before + 1) (markings_by plan within before e)
by_entry plan within before e =
    let k : ℕ = length before + 1 in
    let doing : Doing = doing_of plan e in
    let pages : ByWay SidePage = pages_of plan e.box_no before in
    let one : Option Lapse = lapse_of plan (is_held plan (state_of plan before) e doing) doing pages in
    let cause : Option Lapse = before_cause (timed before e) (cause_by plan before e) in
    let tardy : Option Lapse = late plan within (timed before e) doing pages in
    let two : List Marking = marked k e.box_no one ++ marked k e.box_no (left_off doing) in
    All-append (λ marking. marking.entry ≡ k) (two ++ marked k e.box_no cause) (marked k e.box_no tardy)
    (All-append (λ marking. marking.entry ≡ k) two (marked k e.box_no cause)
    (All-append (λ marking. marking.entry ≡ k) (marked k e.box_no one) (marked k e.box_no (left_off doing))
    (marked_entry k e.box_no one) (marked_entry k e.box_no (left_off doing))) (marked_entry k e.box_no cause))
    (marked_entry k e.box_no tardy)

-- ---- of all entries

-- what later entries are marked for has later numbers
all_later : (plan : PlanFields) (within : Option ℕ) (before es : List Entry)
    → All (λ marking. length before < marking.entry) (each_behind (markings_by plan within) before es)
all_later plan within before [] = All-nil (λ marking. length before < marking.entry)
all_later plan within before (e ∷ es) =
    let long : length (before ++ e ∷ []) ≡ length before + 1 = length-append before (e ∷ []) in
    All-append (λ marking. length before < marking.entry) (markings_by plan within before e) _
    (All-weaker (λ marking. marking.entry ≡ length before + 1) (λ marking. length before < marking.entry)
    (λ marking is. omega (arith, is)) (markings_by plan within before e) (by_entry plan within before e))
    (All-weaker (λ marking. length (before ++ e ∷ []) < marking.entry) (λ marking. length before < marking.entry)
    (λ marking less. omega (arith, less, long)) (each_behind (markings_by plan within) (before ++ e ∷ []) es)
    (all_later plan within (before ++ e ∷ []) es))

-- what may be marked stands in order
pub each_order : (plan : PlanFields) (within : Option ℕ) (before es : List Entry)
    → AllPairs ComesBefore (each_behind (markings_by plan within) before es)
each_order plan within before [] = no_pair ComesBefore
each_order plan within before (e ∷ es) =
    let long : length (before ++ e ∷ []) ≡ length before + 1 = length-append before (e ∷ []) in
    let later : List Marking = each_behind (markings_by plan within) (before ++ e ∷ []) es in
    pairs_both ComesBefore (markings_by plan within before e) later (by_order plan within before e)
    (each_order plan within (before ++ e ∷ []) es)
    (All-weaker (λ marking. marking.entry ≡ length before + 1) (λ marking. All (ComesBefore marking) later)
    (λ marking is.
    All-weaker (λ other. length (before ++ e ∷ []) < other.entry) (ComesBefore marking)
    (λ other less. inl (omega (arith, is, less, long))) later (all_later plan within (before ++ e ∷ []) es))
    (markings_by plan within before e) (by_entry plan within before e))
