-- The loop of the merge: what it keeps, by the words alone.
use Rattle.std.proofs.Common.{ℕ, zero, suc, ◌+◌, ◌-◌, ◌≡◌, ◌<◌, ◌≤◌, ◌⊎◌, inl, inr}
use Rattle.std.proofs.Common.{⊎_elim, List, [], ◌∷◌, ◌++◌, Some, None, Bool, true, false, All}
use Rattle.std.proofs.Common.{length, drop, replicate, IsTrue, refl, sym, ap, subst, ◌∙◌, arith}
use Rattle.std.specs.Prelude.{nat_lt}
use Rattle.std.proofs.lemmas.Bool.{ltb-false, ltb-true}
use Rattle.std.proofs.lemmas.Bool.Decides.{eqb_tells}
use Rattle.std.proofs.lemmas.List.{length-map}
use Rattle.std.proofs.lemmas.List.Elements.{All-cons, All-nil, All-weaker}
use Rattle.std.proofs.lemmas.List.Sums.{sum_by-set}
use Rattle.line_plan.specs.Plans.{IsPlan, PlanFields}
use Rattle.line_plan.specs.Sections.{IsSection}
use Rattle.line_plan.specs.declared.section.Section.{Section}
use Rattle.line_law.specs.declared.call.Entry.{Entry}
use Rattle.line_law.specs.declared.call.Reply.{Reply}
use Rattle.line_law.specs.declared.call.Reply.TheVariants.{Entered, Berthed, Cleared}
use Rattle.line_law.specs.declared.link.Link.{Link}
use Rattle.line_law.specs.declared.link.Link.TheVariants.{Out, In}
use Rattle.line_law.specs.declared.state.PairState.{PairState}
use Rattle.line_law.specs.declared.state.Passage.{Passage}
use Rattle.line_law.specs.Arrivals.{first_train}
use Rattle.word_laws.specs.Footprint.{Kind, Tally, BellWord, BlockWord, PlainLineWord, way_at}
use Rattle.line_law.specs.History.{IsLegal, after_entry, part_of, state_of}
use Rattle.line_law.specs.Law.{link_of, box_plan_of}
use Rattle.line_law.specs.Lines.{IsSectionIn}
use Rattle.line_law.specs.Links.{pair_no, way_of}
use Rattle.line_law.specs.SectionFacts.{HasLink}
use Rattle.line_law.specs.States.{LineState, box_at, opening_pair, opening_state, pair_at}
use Rattle.word_laws.specs.TellsWord.{IsReplyAt, count_before, count_met, kind_told}
use Rattle.line_law.specs.Trains.{holds}
use Rattle.line_law.specs.Ways.{of_way}
use Rattle.line_law.proofs.Histories.{history_states, prefix_legal, state_grows}
use Rattle.line_law.proofs.KeepingLaws.{history_keeps}
use Rattle.line_law.proofs.Numbers.{not_full}
use Rattle.line_law.proofs.Sides.{call_within}
use Rattle.train_register.specs.Registers.{AreParts, RegisterFields}
use Rattle.line_journal.specs.Fits.{FitsWord}
use Rattle.line_journal.specs.Lists.{AreOfBoxes, HasSpaceFor, HaveEnded, IsFree}
use Rattle.line_journal.specs.Lists.{IsLowestFree, IsOfBox, IsBoxFree, count_left}
use Rattle.line_journal.specs.Merging.{IsMerged, Merges, Remains}
use Rattle.line_journal.specs.Order.{Each, IsBoxReady, IsNext, IsOrder, IsOrderFrom, list_at, lists_of, placed}
use Rattle.line_journal.specs.Halves.{Fits, Stands, found_at, made, pair_for}
use Rattle.line_journal.specs.FitTests.{HasSpace, fits_here}
use Rattle.line_journal.proofs.Deciding.{fits_if, if_fits}
use Rattle.line_journal.proofs.Exchange.{part_other}
use Rattle.line_journal.proofs.Lefts.{lists_at, lists_part}
use Rattle.line_journal.proofs.Legal.{all_stand, fits_in, pairs_after}
use Rattle.line_journal.proofs.LineSettled.{told_before}
use Rattle.line_journal.proofs.Orders.{all_done, begins, each_own, each_part, in_range}
use Rattle.line_journal.proofs.Orders.{legal_here, one_more, order_as_long}
use Rattle.line_journal.proofs.Orders.{order_has_parts, order_is_legal, ready_where}

-- ---- entries of their boxes

each_all : (P : Entry → Type 0) (xs : List Entry) → Each P xs → All P xs
each_all P [] h = All-nil P
each_all P (x ∷ xs) h = All-cons P x xs h.0 (each_all P xs h.1)

of_box : (plan : PlanFields) (b : ℕ) (e : Entry) → IsPlan plan → Stands plan e → e.box_no ≡ b → IsOfBox plan b e
of_box plan b e is stands own =
    let within = call_within plan e.box_no e.call is stands.known in
    record { own = own; box = within.box; pair = within.pair }

each_box : (plan : PlanFields) (b : ℕ) (xs : List Entry) → IsPlan plan → Each (Stands plan) xs
    → Each (λ x. x.box_no ≡ b) xs → Each (IsOfBox plan b) xs
each_box plan b [] is stand own = tt
each_box plan b (x ∷ xs) is stand own = (of_box plan b x is stand.0 own.0, each_box plan b xs is stand.1 own.1)

stand_here : (plan : PlanFields) (done : List Entry) (state : LineState) (lists : List (List Entry)) (R : List Entry)
    → IsPlan plan → Remains plan done state lists R → Each (Stands plan) R
stand_here plan done state lists R is r = all_stand plan state R is (legal_here plan done state lists R r)

-- what remains are entries of their boxes
pub of_boxes : (plan : PlanFields) (all : List (List Entry)) (done : List Entry) (pairs : List PairState)
    (lists : List (List Entry)) → IsPlan plan → Merges plan all done pairs lists → AreOfBoxes plan lists
of_boxes plan all done pairs lists is m b =
    let r = m.merged.remains in
    let R : List Entry = m.merged.left in
    let each : Each (IsOfBox plan b) (part_of b R) =
    each_box plan b (part_of b R) is (each_part (Stands plan) b R
    (stand_here plan done (state_of plan done) lists R is r)) (each_own b R) in
    subst (λ (l : List Entry). All (IsOfBox plan b) l) (sym (r.parts b)) (each_all (IsOfBox plan b) (part_of b R) each)

-- the pairs are as many as the plan's
pub pair_count : (plan : PlanFields) (all : List (List Entry)) (done : List Entry) (pairs : List PairState)
    (lists : List (List Entry)) → Merges plan all done pairs lists → length pairs ≡ length plan.boxes - 1
pair_count plan all done pairs lists m =
    ap (λ (ps : List PairState). length ps) m.words ∙ (history_states plan done).pairs

-- an entry at the head of a box's list
pub head_is : (x e : Entry) (xs es : List Entry) → x ∷ xs ≡ e ∷ es → x ≡ e
head_is x e xs es h = cc

-- the next entry of a box is of that box
pub own_box : (plan : PlanFields) (lists : List (List Entry)) (b : ℕ) (e : Entry) (rest : List Entry)
    → AreOfBoxes plan lists → list_at lists b ≡ e ∷ rest → IsOfBox plan b e
own_box plan lists b e rest are next =
    let all : All (IsOfBox plan b) (e ∷ rest) = subst (λ (l : List Entry). All (IsOfBox plan b) l) next (are b) in
    all 0 e (omega arith)

-- the entries of a box that remain are of boxes of the line
pub in_line : (plan : PlanFields) (lists : List (List Entry)) (b : ℕ) → AreOfBoxes plan lists
    → All (λ x. x.box_no < length plan.boxes) (list_at lists b)
in_line plan lists b are =
    All-weaker (IsOfBox plan b) (λ x. x.box_no < length plan.boxes) (λ x h. h.box) (list_at lists b) (are b)

-- ---- a box whose next entry fits, and is free

-- a box that fits and is free tests so by its next entry
pub if_set : (plan : PlanFields) (pairs : List PairState) (lists : List (List Entry)) (b : ℕ) (e : Entry)
    (rest : List Entry) → list_at lists b ≡ e ∷ rest → IsBoxFree plan pairs lists b
    → IsTrue (fits_here plan pairs e) × IsFree plan lists b e
if_set plan pairs lists b e rest next set =
    let same : set.entry ≡ e = head_is set.entry e set.rest rest (sym set.next ∙ next) in (
      subst (λ (x : Entry). IsTrue (fits_here plan pairs x)) same (if_fits plan pairs set.entry set.fits),
      subst (λ (x : Entry). IsFree plan lists b x) same set.free,
    )

-- ---- the next entry

set_ready : (plan : PlanFields) (all : List (List Entry)) (done : List Entry) (pairs : List PairState)
    (lists : List (List Entry)) (b : ℕ) (e : Entry) (rest : List Entry) → IsPlan plan → Merges plan all done pairs lists
    → e.box_no ≡ b → list_at lists b ≡ e ∷ rest → Fits plan pairs e → IsFree plan lists b e
    → IsBoxReady plan (state_of plan done) lists e.box_no e rest
set_ready plan all done pairs lists b e rest is m own next fits free =
    ready_where plan done (state_of plan done) lists m.merged.left e rest is m.merged.remains
    (subst (λ (k : ℕ). list_at lists k ≡ e ∷ rest) (sym own) next)
    (subst (λ (ps : List PairState). Fits plan ps e) m.words fits)
    (subst (λ (k : ℕ). IsFree plan lists k e) (sym own) free)

ready_set : (plan : PlanFields) (all : List (List Entry)) (done : List Entry) (pairs : List PairState)
    (lists : List (List Entry)) (b : ℕ) (e : Entry) (rest : List Entry) → IsPlan plan → Merges plan all done pairs lists
    → IsBoxReady plan (state_of plan done) lists b e rest → IsBoxFree plan pairs lists b
ready_set plan all done pairs lists b e rest is m ready =
    let own = (own_box plan lists b e rest (of_boxes plan all done pairs lists is m) ready.next).own in
    record {
      entry = e;
      rest = rest;
      next = ready.next;
      fits =
          subst (λ (ps : List PairState). Fits plan ps e) (sym m.words)
          (fits_in plan (state_of plan done) e ready.ready.told);
      free = subst (λ (k : ℕ). IsFree plan lists k e) own ready.ready.free;
    }

pub next_of : (plan : PlanFields) (all : List (List Entry)) (done : List Entry) (pairs : List PairState)
    (lists : List (List Entry)) (b : ℕ) (e : Entry) (rest : List Entry) → IsPlan plan → Merges plan all done pairs lists
    → IsLowestFree plan pairs lists (Some b) → list_at lists b ≡ e ∷ rest
    → IsNext plan (state_of plan done) lists e
next_of plan all done pairs lists b e rest is m lowest next =
    let own = (own_box plan lists b e rest (of_boxes plan all done pairs lists is m) next).own in
    let set = if_set plan pairs lists b e rest next lowest.0 in
    record {
      rest = rest;
      here = set_ready plan all done pairs lists b e rest is m own next (fits_if plan pairs e set.0) set.1;
      lowest =
          λ c less x later ready. lowest.1 c (subst (λ (k : ℕ). c < k) own less)
          (ready_set plan all done pairs lists c x later is m ready);
    }

-- the lowest box that fits and is free: its next entry is done
pub grows : (plan : PlanFields) (all : List (List Entry)) (done : List Entry) (pairs : List PairState)
    (lists : List (List Entry)) (b : ℕ) (e : Entry) → IsPlan plan → Merges plan all done pairs lists
    → IsLowestFree plan pairs lists (Some b) → list_at lists b ≡ e ∷ drop 1 (list_at lists b)
    → Merges plan all (done ++ e ∷ []) (made plan pairs e) (placed lists b)
grows plan all done pairs lists b e is m lowest next =
    let own = (own_box plan lists b e _ (of_boxes plan all done pairs lists is m) next).own in
    let step_next = next_of plan all done pairs lists b e _ is m lowest next in
    let more = one_more plan all done (state_of plan done) lists e is m.merged step_next in
    let grown : state_of plan (done ++ e ∷ []) ≡ after_entry plan (state_of plan done) e = state_grows plan done e in
    record {
      merged =
          subst (λ (k : ℕ). IsMerged plan all (done ++ e ∷ []) (state_of plan (done ++ e ∷ [])) (placed lists k)) own
          (subst (λ (s : LineState). IsMerged plan all (done ++ e ∷ []) s (placed lists e.box_no)) (sym grown) more);
      words =
          ap (λ (ps : List PairState). made plan ps e) m.words ∙ sym
          (pairs_after plan (state_of plan done) e step_next.here.ready.told)
          ∙ sym (ap (λ (s : LineState). s.pairs) grown);
    }

-- where there is no such box all is done
pub ends : (plan : PlanFields) (all : List (List Entry)) (done : List Entry) (pairs : List PairState)
    (lists : List (List Entry)) → IsPlan plan → Merges plan all done pairs lists → IsLowestFree plan pairs lists None
    → IsOrderFrom plan (opening_state plan) all done
ends plan all done pairs lists is m none =
    all_done plan all done (state_of plan done) lists is m.merged
    (λ b e rest ready. none b (ready_set plan all done pairs lists b e rest is m ready))

one_fewer : (lists : List (List Entry)) (b : ℕ) (e : Entry) (rest : List Entry) → list_at lists b ≡ e ∷ rest
    → count_left (placed lists b) + 1 ≡ count_left lists
one_fewer lists b e rest next =
    let within : b < length lists = in_range lists b e rest next in
    let sum = sum_by-set (λ (l : List Entry). length l) lists b (drop 1 (list_at lists b)) [] within in
    let mine : length (list_at lists b) ≡ length rest + 1 = ap (λ (l : List Entry). length l) next ∙ omega arith in
    let left : length (drop 1 (list_at lists b)) ≡ length rest = ap (λ (l : List Entry). length (drop 1 l)) next in
    omega (arith, sum, mine, left)

-- and fewer entries are left
pub fewer : (lists : List (List Entry)) (b : ℕ) (e : Entry) (rest : List Entry) → list_at lists b ≡ e ∷ rest
    → count_left (placed lists b) < count_left lists
fewer lists b e rest next = let h = one_fewer lists b e rest next in omega (arith, h)

-- ---- the space on a plain line

some_first : (j train : ℕ) (line : List Passage) → first_train j line ≡ Some train → 0 < length line
some_first j train [] e = absurd cc
some_first j train (p ∷ line) e = omega arith

entered_space : (plan : PlanFields) (t : LineState) (b k : ℕ) (l : Link) → HasLink (length plan.boxes) b l
    → IsReplyAt l (Entered 0 k) → k - 1 ≡ count_met PlainLineWord l (box_at t b) opening_pair
    → holds (of_way (pair_at t (pair_no b l)).lines (way_of l)) k ≡ false
    → ((section : Section) → IsSection plan section → IsSectionIn t section)
    → length (of_way (pair_at t (pair_no b l)).lines (way_of l)) < 4
entered_space plan t b k (In way) has at told free sections = absurd at
entered_space plan t b k (Out way) has at told free sections =
    let section : Section = record { rear = b; way = way } in
    let between = sections section has in
    let next : k ≡ of_way (box_at t b).sent way + 1 = omega (arith, told, at) in
    not_full _ (of_way (box_at t b).sent way) (of_way (pair_at t (pair_no b (Out way))).lines way) between.numbered
    between.four
    (ap (λ (n : ℕ). holds (of_way (pair_at t (pair_no b (Out way))).lines way) n) (sym next) ∙ free)

entered_at : (l : Link) (k train : ℕ) → IsReplyAt l (Entered train k) → IsReplyAt l (Entered 0 k)
entered_at (Out way) k train at = at
entered_at (In way) k train at = at

space_by : (plan : PlanFields) (t : LineState) (e : Entry) (r : Reply) → e.reply ≡ r
    → HasLink (length plan.boxes) e.box_no (link_of (box_plan_of plan e.box_no) e.call.act) ⊎ (kind_told r ≡ Tally)
    → IsReplyAt (link_of (box_plan_of plan e.box_no) e.call.act) r
    → (kind_told r ≡ PlainLineWord → count_before r ≡ count_met PlainLineWord
    (link_of (box_plan_of plan e.box_no) e.call.act) (box_at t e.box_no) opening_pair)
    → FitsWord (kind_told r) (way_at plan e.box_no e.call) e.call.act r (pair_at t (pair_for plan e))
    → ((section : Section) → IsSection plan section → IsSectionIn t section)
    → HasSpace r (of_way (pair_at t (pair_for plan e)).lines (way_at plan e.box_no e.call))
space_by plan t e (Entered train k) same (inl has) at told fits sections =
    entered_space plan t e.box_no k (link_of (box_plan_of plan e.box_no) e.call.act) has
    (entered_at (link_of (box_plan_of plan e.box_no) e.call.act) k train at) (told refl) fits sections
space_by plan t e (Entered train k) same (inr tally) at told fits sections = absurd (cc tally)
space_by plan t e (Berthed train j) same has at told fits sections = some_first j train _ fits
space_by plan t e (Cleared train j) same has at told fits sections = some_first j train _ fits
space_by plan t e r same has at told fits sections = tt

is_tally : (k : Kind) → (k ≡ Tally) ⊎ (k ≡ Tally → ⊥)
is_tally Tally = inl refl
is_tally BellWord = inr (λ e. cc e)
is_tally BlockWord = inr (λ e. cc e)
is_tally PlainLineWord = inr (λ e. cc e)

-- the next entry of the lowest box finds the space that it needs
pub has_space : (plan : PlanFields) (all : List (List Entry)) (done : List Entry) (pairs : List PairState)
    (lists : List (List Entry)) (b : ℕ) → IsPlan plan → Merges plan all done pairs lists
    → IsLowestFree plan pairs lists (Some b) → HasSpaceFor plan pairs lists b
has_space plan all done pairs lists b is m lowest e rest next =
    let t : LineState = state_of plan done in
    let r = m.merged.remains in
    let R : List Entry = m.merged.left in
    let step_next = next_of plan all done pairs lists b e rest is m lowest next in
    let told = step_next.here.ready.told in
    let part : part_of b R ≡ e ∷ rest = sym (r.parts b) ∙ next in
    let all_stand_b : Each (Stands plan) (e ∷ rest) =
    subst (λ (l : List Entry). Each (Stands plan) l) part (each_part (Stands plan) b R
    (stand_here plan done t lists R is r)) in
    let stands : Stands plan e = all_stand_b.0 in
    let has : HasLink (length plan.boxes) e.box_no (link_of (box_plan_of plan e.box_no) e.call.act)
    ⊎ (kind_told e.reply ≡ Tally) =
    ⊎_elim (λ (h : kind_told e.reply ≡ Tally). inr h) (λ (h : kind_told e.reply ≡ Tally → ⊥). inl (stands.link h))
    (is_tally (kind_told e.reply)) in
    let space =
    space_by plan t e e.reply refl has stands.end (λ kind. told_before plan t e is (history_states plan done)
    stands.known told kind) (fits_in plan t e told)
    (history_keeps plan done is (prefix_legal plan done R r.legal)).sections in
    subst (λ (ps : List PairState). HasSpace e.reply (of_way (found_at ps (pair_for plan e)).lines
    (way_at plan e.box_no e.call))) (sym m.words) space

-- ---- the whole

none_part : (plan : PlanFields) (b : ℕ) (es : List Entry) → IsPlan plan → length plan.boxes ≤ b → Each (Stands plan) es
    → part_of b es ≡ []
none_part plan b [] is h stand = refl
none_part plan b (e ∷ es) is h stand =
    ⊎_elim
    (λ mine. let within = (call_within plan e.box_no e.call is stand.0.known).box in
    absurd (omega (arith, within, h, mine.1)))
    (λ other. part_other e es b other.0 ∙ none_part plan b es is h stand.1)
    (eqb_tells e.box_no b)

-- a box past the line has no list
pub no_list : (lists : List (List Entry)) (b : ℕ) → length lists ≤ b → list_at lists b ≡ []
no_list [] b h = refl
no_list (l ∷ ls) zero h = absurd (omega (arith, h))
no_list (l ∷ ls) (suc b) h = no_list ls b (omega (arith, h))

parts_by : (plan : PlanFields) (es : List Entry) (registers : List RegisterFields) (b : ℕ) (is : Bool)
    → nat_lt b (length plan.boxes) ≡ is → IsPlan plan → IsLegal plan es → AreParts plan es registers
    → list_at (lists_of registers) b ≡ part_of b es
parts_by plan es registers b true e is legal parts =
    lists_part plan es registers parts b (ltb-true b (length plan.boxes) e)
parts_by plan es registers b false e is legal parts =
    let above = ltb-false b (length plan.boxes) e in
    let n = length-map registers (λ register. register.entries) in
    no_list (lists_of registers) b (omega (arith, above, n, parts.each))
    ∙ sym (none_part plan b es is (omega (arith, above)) (all_stand plan (opening_state plan) es is legal))

-- the registers' lists are the parts of the history
pub lists_parts : (plan : PlanFields) (registers : List RegisterFields) → IsPlan plan
    → (ended : HaveEnded plan registers) → (b : ℕ) → list_at (lists_of registers) b ≡ part_of b ended.history
lists_parts plan registers is ended b =
    parts_by plan ended.history registers b (nat_lt b (length plan.boxes)) refl is ended.legal ended.parts

-- nothing is done, and the words are those of a line that opens
pub opens : (plan : PlanFields) (registers : List RegisterFields) → IsPlan plan → HaveEnded plan registers
    → Merges plan (lists_of registers) [] (opening_state plan).pairs (lists_of registers)
opens plan registers is ended =
    record {
      merged = begins plan (lists_of registers) ended.history ended.legal (lists_parts plan registers is ended);
      words = refl;
    }

-- the order of registers is a legal history
pub order_legal : (plan : PlanFields) (registers : List RegisterFields) (J : List Entry) → IsPlan plan
    → HaveEnded plan registers → IsOrder plan registers J → IsLegal plan J
order_legal plan registers J is ended order =
    order_is_legal plan [] (opening_state plan) (lists_of registers) ended.history J is
    (record { here = refl; legal = ended.legal; parts = lists_parts plan registers is ended }) order

-- with the registers as its parts
pub order_parts : (plan : PlanFields) (registers : List RegisterFields) (J : List Entry) → HaveEnded plan registers
    → IsOrder plan registers J → AreParts plan J registers
order_parts plan registers J ended order =
    record {
      each = ended.parts.each;
      boxes = ended.parts.boxes;
      entries =
          λ b lt. sym (lists_at registers b) ∙ sym (order_has_parts plan (opening_state plan) (lists_of registers) J
          order b);
    }

-- the order has as many entries as any legal history of these parts
pub order_count : (plan : PlanFields) (registers : List RegisterFields) (history J : List Entry) → IsPlan plan
    → IsLegal plan history → AreParts plan history registers → IsOrder plan registers J → length J ≡ length history
order_count plan registers history J is legal parts order =
    let ended : HaveEnded plan registers = record { history = history; legal = legal; parts = parts } in
    order_as_long plan [] (opening_state plan) (lists_of registers) history J is
    (record { here = refl; legal = legal; parts = lists_parts plan registers is ended }) order

-- ---- as the program has them

opening_pairs : (plan : PlanFields) → (opening_state plan).pairs ≡ replicate (length plan.boxes - 1) opening_pair
unfolding opening_state
opening_pairs plan = refl

-- the same of what the program has
pub opens_at : (plan : PlanFields) (registers : List RegisterFields) (done : List Entry) (pairs : List PairState)
    (lists : List (List Entry)) → IsPlan plan → HaveEnded plan registers → done ≡ []
    → pairs ≡ replicate (length plan.boxes - 1) opening_pair → lists ≡ lists_of registers
    → Merges plan (lists_of registers) done pairs lists
opens_at plan registers done pairs lists is ended d p l =
    let pairs_are : pairs ≡ (opening_state plan).pairs = p ∙ sym (opening_pairs plan) in
    subst (λ (xs : List Entry). Merges plan (lists_of registers) xs pairs lists) (sym d)
    (subst (λ (ps : List PairState). Merges plan (lists_of registers) [] ps lists) (sym pairs_are)
    (subst (λ (ls : List (List Entry)). Merges plan (lists_of registers) [] (opening_state plan).pairs ls) (sym l)
    (opens plan registers is ended)))

-- and with one entry more
pub grown_by : (plan : PlanFields) (all : List (List Entry)) (done : List Entry) (pairs : List PairState)
    (lists : List (List Entry)) (b : ℕ) (e : Entry) (more : List Entry) (written : List PairState)
    (left : List (List Entry)) → IsPlan plan → Merges plan all done pairs lists
    → IsLowestFree plan pairs lists (Some b) → list_at lists b ≡ e ∷ drop 1 (list_at lists b) → more ≡ done ++ e ∷ []
    → written ≡ made plan pairs e → left ≡ placed lists b → Merges plan all more written left
grown_by plan all done pairs lists b e more written left is m lowest next x w l =
    subst (λ (xs : List Entry). Merges plan all xs written left) (sym x)
    (subst (λ (ps : List PairState). Merges plan all (done ++ e ∷ []) ps left) (sym w)
    (subst (λ (ls : List (List Entry)). Merges plan all (done ++ e ∷ []) (made plan pairs e) ls) (sym l)
    (grows plan all done pairs lists b e is m lowest next)))
