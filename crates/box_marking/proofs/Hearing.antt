-- A marker goes on by one entry.
use Rattle.std.proofs.Common.{◌≡◌, ◌≢◌, ℕ, zero, suc, ◌+◌, ◌<◌, Bool, false, cond, List, [], ◌∷◌, ◌++◌, length}
use Rattle.std.proofs.Common.{get_or, inl, inr, Option, refl, sym, ap, subst, ◌∙◌, replicate, slice_set, arith}
use Rattle.std.specs.Prelude.{◌==◌}
use Rattle.std.proofs.lemmas.Bool.Decides.{eqb_tells}
use Rattle.std.proofs.lemmas.List.{append_assoc, append-nil, get_or-replicate, get_or-set_other, get_or-set_same}
use Rattle.std.proofs.lemmas.List.{length-append, length-replicate, length-set}
use Rattle.std.proofs.lemmas.Option.{slice_get-get_or}
use Rattle.block_words.specs.Ways.{opposite}
use Rattle.line_plan.specs.Plans.{PlanFields}
use Rattle.line_plan.specs.Sections.{next_box}
use Rattle.line_law.specs.declared.call.Entry.{Entry}
use Rattle.line_law.specs.declared.ways.ByWay.{ByWay}
use Rattle.line_law.specs.History.{state_of}
use Rattle.line_law.specs.Lines.{IsLineOf, PlainState}
use Rattle.line_law.specs.Ways.{of_way}
use Rattle.box_marking.specs.declared.clock.SideClock.{SideClock}
use Rattle.box_marking.specs.declared.doing.Doing.{Doing}
use Rattle.box_marking.specs.declared.doing.Doing.TheVariants as doings
use Rattle.box_marking.specs.declared.marking.Marking.{Marking}
use Rattle.box_marking.specs.declared.page.SidePage.{SidePage}
use Rattle.box_marking.specs.Behind.{cause_by, clocks_of, made_good_by, markings_by, own_from, pages_of, timed}
use Rattle.box_marking.specs.Clocks.{bell_cause, cause_from, clocks_at, clocks_set, opening_clocks, sent_at}
use Rattle.box_marking.specs.Doings.{doing_of}
use Rattle.box_marking.specs.Markers.{HasMarked, MarkerFields, pages_at}
use Rattle.box_marking.specs.Markings.{made_of, struck}
use Rattle.box_marking.specs.Pages.{opening_pages, written}
use Rattle.box_marking.proofs.Struck.{struck_more}
use Rattle.box_marking.proofs.Told.{each_more}

-- ---- what is kept of a box

own_more : {A : Type 0} (keep : List Entry → Entry → A → A) (b : ℕ) (before : List Entry) (kept : A)
    (es : List Entry) (e : Entry)
    → own_from keep b before kept (es ++ e ∷ [])
    ≡ cond (e.box_no == b) (keep (before ++ es) e (own_from keep b before kept es)) (own_from keep b before kept es)
own_more {A = A} keep b before kept [] e =
    ap (λ (es : List Entry). cond (e.box_no == b) (keep es e kept) kept) (sym (append-nil before))
own_more {A = A} keep b before kept (x ∷ es) e =
    let next : A = cond (x.box_no == b) (keep before x kept) kept in
    own_more keep b (before ++ x ∷ []) next es e
    ∙ ap (λ (all : List Entry). cond (e.box_no == b) (keep all e (own_from keep b (before ++ x ∷ []) next es))
    (own_from keep b (before ++ x ∷ []) next es)) (append_assoc before (x ∷ []) es)

-- of the entry's box
own_here : {A : Type 0} (keep : List Entry → Entry → A → A) (opening : A) (es : List Entry) (e : Entry)
    → own_from keep e.box_no [] opening (es ++ e ∷ []) ≡ keep es e (own_from keep e.box_no [] opening es)
own_here {A = A} keep opening es e =
    let kept : A = own_from keep e.box_no [] opening es in
    own_more keep e.box_no [] opening es e
    ∙ elim (eqb_tells e.box_no e.box_no) [
      | inl own ↦ ap (λ (c : Bool). cond c (keep es e kept) kept) own.0
      | inr differ ↦ absurd (differ.1 refl)
    ]

-- what is kept of another box stays
own_elsewhere : {A : Type 0} (keep : List Entry → Entry → A → A) (opening : A) (es : List Entry) (e : Entry) (b : ℕ)
    → b ≢ e.box_no → own_from keep b [] opening (es ++ e ∷ []) ≡ own_from keep b [] opening es
own_elsewhere {A = A} keep opening es e b other =
    let kept : A = own_from keep b [] opening es in
    own_more keep b [] opening es e
    ∙ elim (eqb_tells e.box_no b) [
      | inl own ↦ absurd (other (sym own.1))
      | inr differ ↦ ap (λ (c : Bool). cond c (keep es e kept) kept) differ.0
    ]

abbrev clock_keep : PlanFields → List Entry → Entry → ByWay SideClock → ByWay SideClock
clock_keep plan before e clocks = clocks_set (timed before e) (doing_of plan e) clocks

abbrev page_keep : PlanFields → List Entry → Entry → ByWay SidePage → ByWay SidePage
page_keep plan before e pages = written plan (length before + 1) (cause_by plan before e) (doing_of plan e) pages

-- ---- lists of boxes

-- what a box has, read from the list
pub read_from : {A : Type 0} (xs : List A) (b : ℕ) (here opening : A) → b < length xs → here ≡ get_or xs b here
    → here ≡ get_or xs b opening
read_from xs b here opening within is =
    let one = slice_get-get_or xs b here within in
    let other = slice_get-get_or xs b opening within in
    cc

-- so many of the same have it at each place, and beyond
all_same : {A : Type 0} (n b : ℕ) (x : A) → get_or (replicate n x) b x ≡ x
all_same zero b x = refl
all_same (suc n) zero x = refl
all_same (suc n) (suc b) x = all_same n b x

-- a cause depends on the clocks of the boxes alone
pub same_cause : (one other : ℕ → ByWay SideClock) (b : ℕ) (doing : Doing) → ((c : ℕ) → one c ≡ other c)
    → cause_from one b doing ≡ cause_from other b doing
same_cause one other b (doings.Bell side bell) same =
    ap (λ (clocks : ByWay SideClock). bell_cause bell.kind (of_way clocks (opposite side))) (same (next_box b side))
same_cause one other b (doings.Saw way) same =
    ap (λ (clocks : ByWay SideClock). (of_way clocks (opposite way)).turned) (same (next_box b way))
same_cause one other b (doings.PulledStarter way) same =
    ap (λ (clocks : ByWay SideClock). (of_way clocks (opposite way)).turned) (same (next_box b way))
same_cause one other b (doings.Found way j) same =
    ap (λ (clocks : ByWay SideClock). sent_at j (of_way clocks (opposite (opposite way))))
    (same (next_box b (opposite way)))
same_cause one other b (doings.Berthed way j) same =
    ap (λ (clocks : ByWay SideClock). sent_at j (of_way clocks (opposite (opposite way))))
    (same (next_box b (opposite way)))
same_cause one other b doing same = refl

-- ---- a marker

-- what a marker has after one entry more
pub marked_on : (plan : PlanFields) (within : Option ℕ) (all : ℕ) (es : List Entry) (e : Entry) (old : MarkerFields)
    (after : ByWay SidePage) (clocks : ByWay SideClock) (line : PlainState) (done : List Bool) (found : List Marking)
    → HasMarked plan within all es old → e.box_no < length plan.boxes
    → after ≡ written plan (length es + 1) (cause_by plan es e) (doing_of plan e) (pages_of plan e.box_no es)
    → clocks ≡ clocks_set (timed es e) (doing_of plan e) (clocks_of plan e.box_no es)
    → IsLineOf plan line → line.line ≡ state_of plan (es ++ e ∷ []) → line.calls ≡ old.line.calls + 1
    → done ≡ struck (made_good_by plan es e) old.done → found ≡ old.found ++ markings_by plan within es e
    → HasMarked plan within all (es ++ e ∷ []) (record {
      pages = slice_set old.pages e.box_no after;
      clocks = slice_set old.clocks e.box_no clocks;
      line = line;
      count = old.count + 1;
      done = done;
      found = found;
    })
marked_on plan within all es e old after clocks line done found has box_no after_is clocks_is line_is state_is calls
    done_is found_is =
    let longer : length (es ++ e ∷ []) ≡ length es + 1 = length-append es (e ∷ []) in
    let each = has.each in
    let clocked = has.clocked in
    let count = has.count in
    let called = has.calls in
    let none : List Bool = replicate (all + 1) false in
    record {
      each = length-set old.pages e.box_no after ∙ has.each;
      pages = λ b there. elim (eqb_tells b e.box_no) [
        | inl same ↦
            let inside : e.box_no < length old.pages = omega (arith, each, box_no) in
            subst (λ (c : ℕ). pages_at (slice_set old.pages e.box_no after) c ≡ pages_of plan c (es ++ e ∷ []))
            (sym same.1)
            (get_or-set_same old.pages e.box_no after opening_pages inside ∙ after_is
            ∙ sym (own_here (page_keep plan) opening_pages es e))
        | inr differ ↦
            get_or-set_other old.pages e.box_no b after opening_pages differ.1 ∙ has.pages b there
            ∙ sym (own_elsewhere (page_keep plan) opening_pages es e b differ.1)
      ];
      clocked = length-set old.clocks e.box_no clocks ∙ has.clocked;
      clocks = λ b. elim (eqb_tells b e.box_no) [
        | inl same ↦
            let inside : e.box_no < length old.clocks = omega (arith, clocked, box_no) in
            subst (λ (c : ℕ). clocks_at (slice_set old.clocks e.box_no clocks) c ≡ clocks_of plan c (es ++ e ∷ []))
            (sym same.1)
            (get_or-set_same old.clocks e.box_no clocks opening_clocks inside ∙ clocks_is
            ∙ sym (own_here (clock_keep plan) opening_clocks es e))
        | inr differ ↦
            get_or-set_other old.clocks e.box_no b clocks opening_clocks differ.1 ∙ has.clocks b
            ∙ sym (own_elsewhere (clock_keep plan) opening_clocks es e b differ.1)
      ];
      line = line_is;
      state = state_is;
      calls = omega (arith, calls, called, longer);
      count = omega (arith, count, longer);
      done = done_is ∙ ap (λ (d : List Bool). struck (made_good_by plan es e) d) has.done
          ∙ sym (struck_more (made_of plan es) (made_good_by plan es e) none)
          ∙ sym (ap (λ (made : List (Option ℕ)). struck made none) (each_more (made_good_by plan) [] es e));
      found = found_is ∙ ap (λ (ms : List Marking). ms ++ markings_by plan within es e) has.found
          ∙ sym (each_more (markings_by plan within) [] es e);
    }

-- what a marker has who has heard nothing
pub marked_none : (plan : PlanFields) (within : Option ℕ) (all : ℕ) (pages : List (ByWay SidePage))
    (clocks : List (ByWay SideClock)) (line : PlainState) (done : List Bool) (found : List Marking)
    → pages ≡ replicate (length plan.boxes) opening_pages → clocks ≡ replicate (length plan.boxes) opening_clocks
    → IsLineOf plan line → line.line ≡ state_of plan [] → line.calls ≡ 0 → done ≡ replicate (all + 1) false
    → found ≡ []
    → HasMarked plan within all []
    (record { pages = pages; clocks = clocks; line = line; count = 0; done = done; found = found })
marked_none plan within all pages clocks line done found is set line_is state calls done_is none = record {
  each = ap length is ∙ length-replicate (length plan.boxes) opening_pages;
  pages = λ b there.
      ap (λ (ps : List (ByWay SidePage)). pages_at ps b) is
      ∙ get_or-replicate (length plan.boxes) b opening_pages opening_pages there;
  clocked = ap length set ∙ length-replicate (length plan.boxes) opening_clocks;
  clocks = λ b.
      ap (λ (cs : List (ByWay SideClock)). clocks_at cs b) set
      ∙ all_same (length plan.boxes) b opening_clocks;
  line = line_is;
  state = state;
  calls = calls;
  count = refl;
  done = done_is;
  found = none;
}
