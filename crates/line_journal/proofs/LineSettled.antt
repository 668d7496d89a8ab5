-- After an entry on a plain line nothing later there keeps it back.
use Rattle.std.proofs.Common.{ℕ, ◌+◌, ◌-◌, ◌==◌, ◌||◌, ◌≡◌, ◌≢◌, ◌≤◌, List, [], ◌∷◌, ◌++◌, Some}
use Rattle.std.proofs.Common.{None, Bool, true, false, cond, IsTrue, length, refl, sym, ap, subst, ◌∙◌, arith}
use Rattle.std.proofs.lemmas.Bool.{eq-eqb, eqb-true}
use Rattle.block_words.specs.declared.Way.{Way}
use Rattle.block_words.specs.declared.Way.TheVariants.{Up, Down}
use Rattle.line_plan.specs.Frames.{same_way}
use Rattle.line_plan.specs.Plans.{IsPlan, PlanFields}
use Rattle.line_plan.specs.Sections.{IsSection, next_box}
use Rattle.line_plan.specs.declared.section.Section.{Section}
use Rattle.line_law.specs.declared.call.Entry.{Entry}
use Rattle.line_law.specs.declared.call.Reply.{Reply}
use Rattle.line_law.specs.declared.call.Reply.TheVariants.{Rung, Heard, Turned, Entered, SectionFull}
use Rattle.line_law.specs.declared.call.Reply.TheVariants.{TrainNotYet, Berthed, NoTrainAt, Cleared}
use Rattle.line_law.specs.declared.link.Link.{Link}
use Rattle.line_law.specs.declared.link.Link.TheVariants.{Out, In}
use Rattle.line_law.specs.declared.state.BoxState.{BoxState}
use Rattle.line_law.specs.declared.state.PairState.{PairState}
use Rattle.line_law.specs.declared.state.Passage.{Passage}
use Rattle.line_law.specs.Arrivals.{first_train}
use Rattle.word_laws.specs.Footprint.{Kind, PlainLineWord, kind_at, way_at}
use Rattle.line_law.specs.History.{IsLegal, after_entry, state_of}
use Rattle.line_law.specs.Known.{KnowsCall}
use Rattle.line_law.specs.Law.{link_of, box_plan_of, step}
use Rattle.line_law.specs.Lines.{AreNumbered, IsSectionIn}
use Rattle.line_law.specs.Links.{pair_no, way_of}
use Rattle.line_law.specs.SectionFacts.{HasLink}
use Rattle.line_law.specs.States.{IsStateOf, LineState, box_at, opening_pair, opening_state, pair_at}
use Rattle.word_laws.specs.TellsWord.{IsInReply, IsOutReply, IsReplyAt, NeverFalls}
use Rattle.word_laws.specs.TellsWord.{count_after, count_before, count_met, kind_told}
use Rattle.line_law.specs.Trains.{holds}
use Rattle.line_law.specs.Ways.{of_way}
use Rattle.line_law.proofs.Histories.{history_states, legal_then, prefix_legal, state_grows}
use Rattle.line_law.proofs.KeepingLaws.{history_keeps}
use Rattle.word_laws.proofs.Rises.{call_never_falls}
use Rattle.word_laws.proofs.TellsCount.{count_is_told}
use Rattle.word_laws.proofs.TellsKind.{kind_is_told}
use Rattle.line_journal.specs.Fits.{FitsPlainLine, FitsWord}
use Rattle.line_journal.specs.Order.{Each, kept_back}
use Rattle.line_journal.specs.Halves.{Fits, Stands, pair_for}
use Rattle.line_journal.proofs.PairMoves.{OppositeEnds, OutIn, InOut, above, opposite_ends}
use Rattle.line_journal.proofs.Exchange.{NoneKeeps}
use Rattle.line_journal.proofs.Legal.{fits_in}
use Rattle.line_journal.proofs.Settled.{Keeping, keeping, one_kind}

-- ---- numbers on a plain line

-- the next train isn't found on an empty line alone
pub empty_line : (taken sent j : ℕ) (line : List Passage) → AreNumbered taken sent line → j ≡ taken + 1
    → first_train j line ≡ None → taken ≡ sent
empty_line taken sent j [] n e none = n
empty_line taken sent j (p ∷ line) n e none =
    absurd (found (p.number == j) (eq-eqb p.number j (n.0 ∙ sym e)) none) where
      found : (is : Bool) → is ≡ true → cond is (Some p.train) None ≡ None → ⊥
      found true t h = cc
      found false t h = cc

pub or_either : (a b : Bool) → (a || b) ≡ true → a ≡ false → b ≡ true
or_either true b e f = cc
or_either false b e f = e

pub not_equal : (a b : ℕ) (is : Bool) → (a == b) ≡ is → (a ≡ b → ⊥) → (a == b) ≡ false
not_equal a b true e ne = absurd (ne (eqb-true a b e))
not_equal a b false e ne = e

-- a train that was taken isn't on the line
pub gone : (taken sent k : ℕ) (line : List Passage) → AreNumbered taken sent line → k - 4 ≤ taken → holds line k ≡ true
    → ⊥
gone taken sent k [] n h full = cc
gone taken sent k (p ∷ line) n h full =
    let differ : (p.number == k - 4) ≡ false =
    not_equal p.number (k - 4) (p.number == k - 4) refl (λ e. let first = n.0 in omega (arith, e, first, h)) in
    gone (taken + 1) sent k line n.1 (omega (arith, h)) (or_either (p.number == k - 4) (holds line k) full differ)

-- ---- at the ends of a plain line

entered_by : (k : ℕ) (q : Reply) (taken sent : ℕ) (line : List Passage) → IsInReply q → kept_back (Entered 0 k) q ≡ true
    → k ≤ sent → count_before q ≡ taken → FitsPlainLine q line → AreNumbered taken sent line → ⊥
entered_by k (NoTrainAt j) taken sent line at kept low told fits n =
    let e = eqb-true j k kept in
    let next : j ≡ taken + 1 = omega (arith, told, at) in
    let all = empty_line taken sent j line n next fits in omega (arith, e, next, all, low)
entered_by k (TrainNotYet j) taken sent line at kept low told fits n =
    let e = eqb-true j k kept in
    let next : j ≡ taken + 1 = omega (arith, told, at) in
    let all = empty_line taken sent j line n next fits in omega (arith, e, next, all, low)
entered_by k q taken sent line at kept low told fits n = cc

same_kept : (k train : ℕ) (q : Reply) → kept_back (Entered train k) q ≡ true → kept_back (Entered 0 k) q ≡ true
same_kept k train (NoTrainAt j) kept = kept
same_kept k train (TrainNotYet j) kept = kept
same_kept k train q kept = cc

out_line : (r q : Reply) (taken sent : ℕ) (line : List Passage) → IsOutReply r → IsInReply q
    → kind_told r ≡ PlainLineWord → kept_back r q ≡ true → count_after r ≤ sent → count_before q ≡ taken
    → FitsPlainLine q line → AreNumbered taken sent line → ⊥
out_line (Entered train k) q taken sent line out at kind kept low told fits n =
    entered_by k q taken sent line at (same_kept k train q kept) low told fits n
out_line (Berthed train j) q taken sent line out at kind kept low told fits n = out
out_line (Cleared train j) q taken sent line out at kind kept low told fits n = out
out_line (Rung k) q taken sent line out at kind kept low told fits n = cc
out_line (Heard code k) q taken sent line out at kind kept low told fits n = cc
out_line (Turned v) q taken sent line out at kind kept low told fits n = cc
out_line r q taken sent line out at kind kept low told fits n = cc

taken_by : (j k taken sent : ℕ) (line : List Passage) → k ≡ j + 4 → j ≤ taken → holds line k ≡ true
    → AreNumbered taken sent line → ⊥
taken_by j k taken sent line e low full n = gone taken sent k line n (omega (arith, e, low)) full

berthed_by : (j train : ℕ) (q : Reply) (taken sent : ℕ) (line : List Passage) → kept_back (Berthed train j) q ≡ true
    → j ≤ taken → FitsPlainLine q line → AreNumbered taken sent line → ⊥
berthed_by j train (SectionFull k) taken sent line kept low fits n =
    taken_by j k taken sent line (eqb-true k (j + 4) kept) low fits n
berthed_by j train q taken sent line kept low fits n = cc

cleared_by : (j train : ℕ) (q : Reply) (taken sent : ℕ) (line : List Passage) → kept_back (Cleared train j) q ≡ true
    → j ≤ taken → FitsPlainLine q line → AreNumbered taken sent line → ⊥
cleared_by j train (SectionFull k) taken sent line kept low fits n =
    taken_by j k taken sent line (eqb-true k (j + 4) kept) low fits n
cleared_by j train q taken sent line kept low fits n = cc

in_line : (r q : Reply) (taken sent : ℕ) (line : List Passage) → IsInReply r → kind_told r ≡ PlainLineWord
    → kept_back r q ≡ true → count_after r ≤ taken → FitsPlainLine q line → AreNumbered taken sent line → ⊥
in_line (Berthed train j) q taken sent line at kind kept low fits n =
    berthed_by j train q taken sent line kept low fits n
in_line (Cleared train j) q taken sent line at kind kept low fits n =
    cleared_by j train q taken sent line kept low fits n
in_line (Entered train k) q taken sent line at kind kept low fits n = at
in_line (Rung k) q taken sent line at kind kept low fits n = at
in_line (Heard code k) q taken sent line at kind kept low fits n = cc
in_line (Turned v) q taken sent line at kind kept low fits n = cc
in_line r q taken sent line at kind kept low fits n = cc

-- ---- at two boxes

-- the box in advance of the line that leaves one box and comes into the other
pub next_is : (n b c : ℕ) (way : Way) → HasLink n b (Out way) → HasLink n c (In way)
    → pair_no b (Out way) ≡ pair_no c (In way) → next_box b way ≡ c
next_is n b c Up out at e = e
next_is n b c Down out at e = let p = above n c at in omega (arith, e, p)

clash : (plan : PlanFields) (t : LineState) (b c : ℕ) (l m : Link) (r q : Reply) → OppositeEnds l m
    → HasLink (length plan.boxes) b l → HasLink (length plan.boxes) c m → pair_no b l ≡ pair_no c m → IsReplyAt l r
    → IsReplyAt m q → kind_told r ≡ PlainLineWord → kept_back r q ≡ true
    → count_after r ≤ count_met PlainLineWord l (box_at t b) opening_pair
    → count_before q ≡ count_met PlainLineWord m (box_at t c) opening_pair
    → FitsPlainLine q (of_way (pair_at t (pair_no c m)).lines (way_of m))
    → ((section : Section) → IsSection plan section → IsSectionIn t section) → ⊥
clash plan t b c l m r q (OutIn way) has there pair out at kind kept low told fits sections =
    let section : Section = record { rear = b; way = way } in
    let numbered = (sections section has).numbered in
    let one = next_is (length plan.boxes) b c way has there pair in
    let L : ℕ → ℕ → Type 0 =
    λ d p. AreNumbered (of_way (box_at t d).incoming way).taken (of_way (box_at t b).sent way)
    (of_way (pair_at t p).lines way) in
    let n : L c (pair_no c (In way)) =
    subst (λ (d : ℕ). L d (pair_no c (In way))) one (subst (λ (p : ℕ). L (next_box b way) p) pair numbered) in
    out_line r q (of_way (box_at t c).incoming way).taken (of_way (box_at t b).sent way)
    (of_way (pair_at t (pair_no c (In way))).lines way) out at kind kept low told fits n
clash plan t b c l m r q (InOut way) has there pair at out kind kept low told fits sections =
    let section : Section = record { rear = c; way = way } in
    let numbered = (sections section there).numbered in
    let one = next_is (length plan.boxes) c b way there has (sym pair) in
    let L : ℕ → Type 0 =
    λ d. AreNumbered (of_way (box_at t d).incoming way).taken (of_way (box_at t c).sent way)
    (of_way (pair_at t (pair_no c (Out way))).lines way) in
    in_line r q (of_way (box_at t b).incoming way).taken (of_way (box_at t c).sent way)
    (of_way (pair_at t (pair_no c (Out way))).lines way) at kind kept low fits (subst L one numbered)

-- ---- along a history

any_pair : (link : Link) (here : BoxState) (p q : PairState)
    → count_met PlainLineWord link here p ≡ count_met PlainLineWord link here q
any_pair (Out way) here p q = refl
any_pair (In way) here p q = refl

-- the count of a box on its line
abbrev line_count : PlanFields → Entry → LineState → ℕ
line_count plan e state =
    count_met PlainLineWord (link_of (box_plan_of plan e.box_no) e.call.act) (box_at state e.box_no) opening_pair

kind_here : (plan : PlanFields) (state : LineState) (e : Entry) → e.reply ≡ (step plan state e.box_no e.call).reply
    → kind_told e.reply ≡ PlainLineWord → kind_at plan state e.box_no e.call ≡ PlainLineWord
kind_here plan state e told kind = sym (kind_is_told plan state e.box_no e.call) ∙ ap kind_told (sym told) ∙ kind

-- a reply on a plain line tells its box's count there
pub told_before : (plan : PlanFields) (state : LineState) (e : Entry) → IsPlan plan → IsStateOf plan state
    → KnowsCall plan e.box_no e.call → e.reply ≡ (step plan state e.box_no e.call).reply
    → kind_told e.reply ≡ PlainLineWord → count_before e.reply ≡ line_count plan e state
told_before plan state e is are known told kind =
    ap count_before told ∙ (count_is_told plan state e.box_no e.call is are known).before
    ∙ ap (λ (k : Kind). count_met k (link_of (box_plan_of plan e.box_no) e.call.act) (box_at state e.box_no)
    (pair_at state (pair_for plan e))) (kind_here plan state e told kind)
    ∙ any_pair (link_of (box_plan_of plan e.box_no) e.call.act) (box_at state e.box_no)
    (pair_at state (pair_for plan e)) opening_pair

told_after : (plan : PlanFields) (state : LineState) (e : Entry) → IsPlan plan → IsStateOf plan state
    → KnowsCall plan e.box_no e.call → e.reply ≡ (step plan state e.box_no e.call).reply
    → kind_told e.reply ≡ PlainLineWord → count_after e.reply ≡ line_count plan e (after_entry plan state e)
told_after plan state e is are known told kind =
    let next : LineState = after_entry plan state e in
    ap count_after told ∙ (count_is_told plan state e.box_no e.call is are known).after
    ∙ ap (λ (k : Kind). count_met k (link_of (box_plan_of plan e.box_no) e.call.act) (box_at next e.box_no)
    (pair_at next (pair_for plan e))) (kind_here plan state e told kind)
    ∙ any_pair (link_of (box_plan_of plan e.box_no) e.call.act) (box_at next e.box_no) (pair_at next (pair_for plan e))
    opening_pair

met_rises : (link : Link) (s t : LineState) (b : ℕ) → NeverFalls s t
    → count_met PlainLineWord link (box_at s b) opening_pair ≤ count_met PlainLineWord link (box_at t b) opening_pair
met_rises (Out way) s t b falls = falls.sent b way
met_rises (In way) s t b falls = falls.taken b way

-- one entry moves over from the second list
pub append_one : (xs : List Entry) (x : Entry) (ys : List Entry) → (xs ++ x ∷ []) ++ ys ≡ xs ++ x ∷ ys
append_one [] x ys = refl
append_one (z ∷ xs) x ys = ap (λ (l : List Entry). z ∷ l) (append_one xs x ys)

same_line : (plan : PlanFields) (t : LineState) (x : Entry) → kind_told x.reply ≡ PlainLineWord → Fits plan t.pairs x
    → FitsPlainLine x.reply (of_way (pair_at t (pair_for plan x)).lines (way_at plan x.box_no x.call))
same_line plan t x kind fits =
    subst (λ (k : Kind). FitsWord k (way_at plan x.box_no x.call) x.call.act x.reply (pair_at t (pair_for plan x))) kind
    fits

-- equal ways test as the same
pub is_same : (v u : Way) → v ≡ u → IsTrue (same_way v u)
is_same Up Up e = refl
is_same Up Down e = cc
is_same Down Up e = cc
is_same Down Down e = refl

free_here : (plan : PlanFields) (e x : Entry) (first R : List Entry) → IsPlan plan → IsLegal plan (first ++ x ∷ R)
    → Stands plan e → Stands plan x → kind_told e.reply ≡ PlainLineWord
    → count_after e.reply ≤ line_count plan e (state_of plan first) → e.box_no ≢ x.box_no → Keeping plan e x → ⊥
free_here plan e x first R is legal es xs kind low ne keep =
    let t : LineState = state_of plan first in
    let rest = legal_then plan (opening_state plan) first (x ∷ R) legal in
    let kinds = one_kind (kind_told e.reply) (kind_told x.reply) keep.kinds in
    let kind_x : kind_told x.reply ≡ PlainLineWord = sym kinds.0 ∙ kind in
    let has = es.link kinds.1 in
    let there = xs.link (λ h. kinds.1 (kinds.0 ∙ h)) in
    let ends =
    opposite_ends (length plan.boxes) e.box_no x.box_no (link_of (box_plan_of plan e.box_no) e.call.act)
    (link_of (box_plan_of plan x.box_no) x.call.act) ne has there keep.pairs (is_same _ _ keep.ways) in
    clash plan t e.box_no x.box_no (link_of (box_plan_of plan e.box_no) e.call.act)
    (link_of (box_plan_of plan x.box_no) x.call.act) e.reply x.reply ends has there keep.pairs es.end xs.end kind
    keep.kept low
    (told_before plan t x is (history_states plan first) xs.known rest.1 kind_x)
    (same_line plan t x kind_x (fits_in plan t x rest.1))
    (history_keeps plan first is (prefix_legal plan first (x ∷ R) legal)).sections

line_settled : (plan : PlanFields) (e : Entry) (first R : List Entry) → IsPlan plan → IsLegal plan (first ++ R)
    → Stands plan e → Each (Stands plan) R → kind_told e.reply ≡ PlainLineWord
    → count_after e.reply ≤ line_count plan e (state_of plan first) → NoneKeeps plan e R
line_settled plan e first [] is legal es stand kind low = tt
line_settled plan e first (x ∷ R) is legal es stand kind low =
    let t : LineState = state_of plan first in
    let grown : state_of plan (first ++ x ∷ []) ≡ after_entry plan t x = state_grows plan first x in
    let rises =
    met_rises (link_of (box_plan_of plan e.box_no) e.call.act) t (after_entry plan t x) e.box_no
    (call_never_falls plan t x.box_no x.call is (history_states plan first) stand.0.known) in
    let next : count_after e.reply ≤ line_count plan e (after_entry plan t x) = omega (arith, low, rises) in (
      λ ne h. free_here plan e x first R is legal es stand.0 kind low (λ same. ne (sym same)) (keeping plan e x h),
      line_settled plan e (first ++ x ∷ []) R is (subst (λ (l : List Entry). IsLegal plan l)
          (sym (append_one first x R)) legal) es stand.1 kind (subst
          (λ (s : LineState). count_after e.reply ≤ line_count plan e s) (sym grown) next),
    )

-- on a plain line nothing later keeps back the first entry
pub first_settles_line : (plan : PlanFields) (done : List Entry) (e : Entry) (R : List Entry) → IsPlan plan
    → IsLegal plan (done ++ e ∷ R) → Each (Stands plan) (e ∷ R) → kind_told e.reply ≡ PlainLineWord → NoneKeeps plan e R
first_settles_line plan done e R is legal stand kind =
    let s : LineState = state_of plan done in
    let rest = legal_then plan (opening_state plan) done (e ∷ R) legal in
    let told = told_after plan s e is (history_states plan done) stand.0.known rest.1 kind in
    let grown : state_of plan (done ++ e ∷ []) ≡ after_entry plan s e = state_grows plan done e in
    let low : count_after e.reply ≤ line_count plan e (after_entry plan s e) = omega (arith, told) in
    line_settled plan e (done ++ e ∷ []) R is (subst (λ (l : List Entry). IsLegal plan l) (sym (append_one done e R))
    legal) stand.0 stand.1 kind
    (subst (λ (t : LineState). count_after e.reply ≤ line_count plan e t) (sym grown) low)
