-- The printed lines of boxes and trains are read as those.
use Rattle.std.proofs.Common.{◌≡◌, ℕ, ◌<◌, ◌≤◌, Bool, true, false, cond, ◌&&◌, eqb, leb, List, [], ◌∷◌, ◌++◌, length}
use Rattle.std.proofs.Common.{map, Some, Ok, refl, sym, ap, subst, ◌∙◌, arith, codes, bytes_eq, append_assoc}
use Rattle.std.specs.Prelude.{All}
use Rattle.std.specs.List.{list_any, list_all}
use Rattle.std.proofs.lemmas.Bool.Decides.{nat_tests}
use Rattle.std.proofs.lemmas.List.{append-nil, length-map, map-append}
use Rattle.rail_text.specs.Names.{are_new}
use Rattle.rail_text.specs.Words.{is_name, keyword}
use Rattle.line_plan.specs.declared.plan.Class.{Class}
use Rattle.line_plan.specs.declared.plan.TrainPlan.{TrainPlan}
use Rattle.plan_draft.specs.declared.draft.Stage.{Stage}
use Rattle.plan_draft.specs.declared.draft.Stage.TheVariants as stages
use Rattle.line_plan.specs.Frames.{BoxFields, berth_of, berth_places}
use Rattle.line_plan.specs.Plans.{PlanFields, IsBox, IsPlan, IsTrain, no_box, box_at, names_of, names_of_classes}
use Rattle.line_plan.specs.Plans.{names_of_trains}
use Rattle.plan_draft.specs.Drafts.{DraftFields, rank, in_box, all_boxes}
use Rattle.plan_draft.specs.LineWords.{new_name}
use Rattle.plan_draft.specs.Reading.{line_kind, may_follow, kind_onto, has_ended, words_onto, is_full, box_onto}
use Rattle.plan_draft.specs.Reading.{brought_in, closed, with_train, train_in, train_onto, end_onto}
use Rattle.plan_text.specs.Printing.{name_word, train_line, place_line, lever_line, signal_line, berth_lines}
use Rattle.plan_text.specs.Printing.{clear_lines, permissive_lines, track_line, row_line}
use Rattle.plan_text.specs.Spelled.{FirstWays, up_first, both_ways, box_lines_by, boxes_lines_by}
use Rattle.plan_text.proofs.LineReads.{IsLine, AreRead, read_line, read_none, read_same, hold, InBox}
use Rattle.plan_text.proofs.Middle.{all_at, test_at, new_at, shorter}
use Rattle.plan_text.proofs.BoxReads.{box_names, with_places}
use Rattle.plan_text.proofs.RowReads.{lines_of_box, box_is_read}
use Rattle.plan_text.proofs.WordReads.{fitting_line, name_fits, AreNames, name_word_fits, name_reads, new_reads}

-- the draft that a plan's lines make
abbrev pub whole : PlanFields → DraftFields
whole plan = record { stage = stages.Ended; count = length plan.boxes; plan = plan; here = no_box }

-- the plan with these boxes and trains
abbrev pub so_far : PlanFields → List BoxFields → List TrainPlan → PlanFields
so_far plan boxes trains =
    record {
      version = plan.version;
      delay = plan.delay;
      looks = plan.looks;
      codes = plan.codes;
      classes =
          plan.classes;
      boxes = boxes;
      trains = trains;
    }

-- a draft whose boxes are these, the last of them perhaps still open
pub record Stands (plan : PlanFields) (boxes : List BoxFields) (trains : List TrainPlan) (high : ℕ)
    (draft : DraftFields) : Type 0 where
  pub count : draft.count ≡ length plan.boxes
  pub low : 4 ≤ rank draft.stage
  pub most : rank draft.stage ≤ high
  pub all : all_boxes draft ≡ boxes
  pub same : so_far draft.plan boxes draft.plan.trains ≡ so_far plan boxes trains

-- from any draft with these boxes and trains, these lines are read to the end as the whole plan
abbrev pub Goes : PlanFields → List BoxFields → List TrainPlan → ℕ → List (List (List ℕ)) → Type 0
Goes plan boxes trains high more =
    (draft : DraftFields) → Stands plan boxes trains high draft → AreRead draft more (whole plan)

not_ended : (n : ℕ) → n ≤ 16 → eqb n 17 ≡ false
not_ended n h = grind (arith, nat_tests)

is_between : (low high n : ℕ) → low ≤ n → n ≤ high → leb low n && leb n high ≡ true
is_between low high n a b = grind (arith, nat_tests)

-- a line of the kind, where it may stand
pub kind_read : (draft : DraftFields) (kind : Stage) (words : List (List ℕ)) → line_kind (keyword words) ≡ Some kind
    → rank draft.stage ≤ 16 → may_follow kind draft.stage ≡ true → words_onto draft words ≡ kind_onto kind draft words
unfolding words_onto
kind_read draft kind words k going may =
    let open_still : has_ended draft.stage ≡ false = not_ended (rank draft.stage) going in
    rw (open_still, k, may) refl

-- ---- boxes

-- the draft at the line of a box
abbrev opened : PlanFields → List BoxFields → BoxFields → DraftFields
opened plan front b =
    record { stage = stages.Box; count = length plan.boxes; plan = so_far plan front []; here = with_places b [] }

not_full : (n m : ℕ) → m < n → leb n m ≡ false
not_full n m h = grind (arith, nat_tests)

is_all : (n m : ℕ) → n ≤ m → leb n m ≡ true
is_all n m h = grind (arith, nat_tests)

box_onto_reads : (draft : DraftFields) (b : BoxFields) (boxes : List BoxFields) → boxes ≡ all_boxes draft
    → length boxes < draft.count → is_name b.name ≡ true → list_any (bytes_eq b.name) (names_of boxes) ≡ false
    → box_onto draft (codes "box" ∷ b.name ∷ [])
    ≡ Ok (record {
      stage = stages.Box;
      count = draft.count;
      plan = so_far draft.plan boxes draft.plan.trains;
      here =
          with_places b [];
    })
unfolding box_onto
box_onto_reads draft b boxes all room good new =
    let open_still : leb draft.count (length (all_boxes draft)) ≡ false =
    not_full draft.count (length (all_boxes draft))
    (subst (λ (bs : List BoxFields). length bs < draft.count) all room) in
    let named : new_name (names_of (all_boxes draft)) b.name ≡ Ok b.name =
    new_reads (names_of (all_boxes draft)) b.name good
    (ap (λ (bs : List BoxFields). list_any (bytes_eq b.name) (names_of bs)) (sym all) ∙ new) in
    rw (open_still, named)
    (ap (λ (bs : List BoxFields). Ok
    (record {
      stage = stages.Box;
      count = draft.count;
      plan = so_far draft.plan bs draft.plan.trains;
      here =
          with_places b [];
    })) (sym all))

box_read : (plan : PlanFields) (front : List BoxFields) (b : BoxFields) (draft : DraftFields)
    → Stands plan front [] 15 draft → length front < length plan.boxes → is_name b.name ≡ true
    → list_any (bytes_eq b.name) (names_of front) ≡ false
    → words_onto draft (codes "box" ∷ b.name ∷ []) ≡ Ok (opened plan front b)
unfolding line_kind may_follow kind_onto
box_read plan front b draft st room good new =
    kind_read draft stages.Box (codes "box" ∷ b.name ∷ []) refl (omega (arith, st.most))
    (is_between 4 15 (rank draft.stage) st.low st.most)
    ∙ box_onto_reads draft b front (sym st.all) (omega (arith, room, st.count)) good new
    ∙ ap (λ (n : ℕ). Ok
    (record {
      stage = stages.Box;
      count = n;
      plan = so_far draft.plan front draft.plan.trains;
      here =
          with_places b [];
    })) st.count
    ∙ ap (λ (p : PlanFields). Ok
    (record { stage = stages.Box; count = length plan.boxes; plan = p; here = with_places b [] })) st.same

box_is_line : (b : BoxFields) → is_name b.name ≡ true → IsLine (codes "box" ∷ b.name ∷ [])
box_is_line b good = fitting_line 16 (codes "box" ∷ b.name ∷ []) (rw (name_fits b.name good) refl) (omega arith) refl

regrouped : {W : Type 0} (x : W) (p l s b c q t r m n : List W)
    → ((x ∷ (p ++ l ++ s)) ++ (b ++ c ++ q) ++ (t ++ r) ++ m) ++ n
    ≡ x ∷ (p ++ (l ++ (s ++ (b ++ (c ++ (q ++ (t ++ (r ++ (m ++ n)))))))))
regrouped x p l s b c q t r m n = simp append_assoc

grouped : (b : BoxFields) (first : FirstWays) (m n : List (List (List ℕ)))
    → (box_lines_by first b ++ m) ++ n ≡ (codes "box" ∷ b.name ∷ []) ∷ lines_of_box first b (m ++ n)
grouped b first m n =
    regrouped (codes "box" ∷ b.name ∷ []) (map place_line b.places) (map lever_line b.levers)
    (map (signal_line b.places) b.signals)
    (both_ways first.berths (λ way. berth_lines b.places way (berth_of b way)))
    (both_ways first.clears (λ way. clear_lines b.places way (berth_of b way)))
    (both_ways first.permissives (λ way. permissive_lines way (berth_of b way)))
    (map (track_line b.places) b.tracks) (map row_line b.rows) m n

-- a box that is read to its end stands behind those in front
closed_stands : (plan : PlanFields) (front : List BoxFields) (b : BoxFields) (stage : Stage) → InBox stage 15
    → Stands plan (front ++ b ∷ []) [] 15 (hold (opened plan front b) stage b)
closed_stands plan front b stage i =
    let inside : in_box stage ≡ true = is_between 6 15 (rank stage) i.low i.most in
    record {
      count = refl;
      low = omega (arith, i.low);
      most = i.most;
      all =
          ap (λ (t : Bool). cond t (front ++ b ∷ []) front) inside;
      same = refl;
    }

box_at_middle : (front rest : List BoxFields) (b : BoxFields) → box_at (front ++ b ∷ rest) (length front) ≡ b
box_at_middle [] rest b = refl
box_at_middle (x ∷ front) rest b = box_at_middle front rest b

-- one box, and then those behind it
one_box : (plan : PlanFields) (first : FirstWays) (front rest : List BoxFields) (b : BoxFields)
    (more : List (List (List ℕ))) → IsPlan plan → plan.boxes ≡ front ++ b ∷ rest
    → Goes plan (front ++ b ∷ []) [] 15 more
    → Goes plan front [] 15 ((codes "box" ∷ b.name ∷ []) ∷ lines_of_box first b more)
one_box plan first front rest b more is e go draft st =
    let names : names_of plan.boxes ≡ names_of front ++ b.name ∷ names_of rest =
    ap names_of e ∙ map-append (λ (x : BoxFields). x.name) front (b ∷ rest) in
    let good : is_name b.name ≡ true =
    test_at is_name (names_of front) (names_of rest) b.name (ap (list_all is_name) (sym names) ∙ is.named) in
    let new : list_any (bytes_eq b.name) (names_of front) ≡ false =
    new_at (names_of front) (names_of rest) b.name (ap (are_new []) (sym names) ∙ is.distinct) in
    let room : length front < length plan.boxes = omega (arith, shorter front rest b, ap length e) in
    let here : IsBox (length plan.boxes) (length front) b =
    subst (IsBox (length plan.boxes) (length front))
    (ap (λ (bs : List BoxFields). box_at bs (length front)) e ∙ box_at_middle front rest b)
    (is.each (length front) room) in
    read_line draft (opened plan front b) (whole plan) (codes "box" ∷ b.name ∷ []) (lines_of_box first b more)
    (box_is_line b good) (box_read plan front b draft st room good new)
    (box_is_read (opened plan front b) b first more (whole plan) here
    (λ stage i. go (hold (opened plan front b) stage b) (closed_stands plan front b stage i)) stages.Box
    (record { low = omega arith; most = omega arith }))

-- the printed lines of a plan's further boxes are read as those boxes, in whichever order the ways of each stand
pub boxes_are_read : (plan : PlanFields) (more : List (List (List ℕ))) → IsPlan plan → Goes plan plan.boxes [] 15 more
    → (firsts : List FirstWays) (front vs : List BoxFields) → plan.boxes ≡ front ++ vs
    → Goes plan front [] 15 (boxes_lines_by firsts vs ++ more)
boxes_are_read plan more is go firsts front [] e = let same : plan.boxes ≡ front =
    e ∙ append-nil front in subst (λ (bs : List BoxFields). Goes plan bs [] 15 more) same go
boxes_are_read plan more is go [] front (b ∷ vs) e =
    let rest = boxes_are_read plan more is go [] (front ++ b ∷ []) vs (e ∙ sym (append_assoc front (b ∷ []) vs)) in
    λ draft st. read_same draft (whole plan) _ _ (grouped b up_first (boxes_lines_by [] vs) more)
    (one_box plan up_first front vs b (boxes_lines_by [] vs ++ more) is e rest draft st)
boxes_are_read plan more is go (first ∷ firsts) front (b ∷ vs) e =
    let rest = boxes_are_read plan more is go firsts (front ++ b ∷ []) vs (e ∙ sym (append_assoc front (b ∷ []) vs)) in
    λ draft st. read_same draft (whole plan) _ _ (grouped b first (boxes_lines_by firsts vs) more)
    (one_box plan first front vs b (boxes_lines_by firsts vs ++ more) is e rest draft st)

-- ---- trains

-- the draft when all boxes stand, with these trains
abbrev driven : PlanFields → Stage → List TrainPlan → DraftFields
driven plan stage trains =
    record { stage = stage; count = length plan.boxes; plan = so_far plan plan.boxes trains; here = no_box }

closes : (plan : PlanFields) (trains : List TrainPlan) (stage : Stage) (draft : DraftFields)
    → Stands plan plan.boxes trains 16 draft → closed stage draft ≡ driven plan stage trains
closes plan trains stage draft st =
    ap (λ (bs : List BoxFields).
    record { stage = stage; count = draft.count; plan = so_far draft.plan bs draft.plan.trains; here = no_box })
    st.all
    ∙ ap (λ (n : ℕ).
    record { stage = stage; count = n; plan = so_far draft.plan plan.boxes draft.plan.trains; here = no_box })
    st.count
    ∙ ap (λ (p : PlanFields). record { stage = stage; count = length plan.boxes; plan = p; here = no_box }) st.same

fulls : (plan : PlanFields) (trains : List TrainPlan) (draft : DraftFields) → Stands plan plan.boxes trains 16 draft
    → is_full draft ≡ true
fulls plan trains draft st = is_all draft.count (length (all_boxes draft)) (omega (arith, st.count, ap length st.all))

class_names : (plan : PlanFields) → IsPlan plan → AreNames (names_of_classes plan.classes)
class_names plan is = record { each = is.classes.named; differ = is.classes.distinct }

plan_names : (plan : PlanFields) → IsPlan plan → AreNames (names_of plan.boxes)
plan_names plan is = record { each = is.named; differ = is.distinct }

place_names : (plan : PlanFields) (b : ℕ) → IsPlan plan → b < length plan.boxes → AreNames (box_at plan.boxes b).places
place_names plan b is l = box_names (length plan.boxes) b (box_at plan.boxes b) (is.each b l)

class_within : (plan : PlanFields) (t : TrainPlan) → IsTrain plan.classes plan.boxes t
    → t.class_no < length (names_of_classes plan.classes)
class_within plan t own = omega (arith, own.class_no, length-map plan.classes (λ (c : Class). c.name))

box_within : (plan : PlanFields) (t : TrainPlan) → IsTrain plan.classes plan.boxes t
    → t.box_no < length (names_of plan.boxes)
box_within plan t own = omega (arith, own.box_no, length-map plan.boxes (λ (b : BoxFields). b.name))

brought_reads : (b : BoxFields) (place : ℕ) → AreNames b.places → place < length b.places
    → list_any (λ berth. eqb berth place) (berth_places b) ≡ false → brought_in b (name_word b.places place) ≡ Ok place
unfolding brought_in
brought_reads b place are within free = rw (name_reads b.places place are within, free) refl

train_in_reads : (plan : PlanFields) (front : List TrainPlan) (t : TrainPlan) → IsPlan plan
    → IsTrain plan.classes plan.boxes t → is_name t.name ≡ true
    → list_any (bytes_eq t.name) (names_of_trains front) ≡ false → length front < 5000
    → train_in (driven plan stages.Train front) (train_line plan t) ≡ Ok (driven plan stages.Train (front ++ t ∷ []))
unfolding train_in with_train
train_in_reads plan front t is own good new few =
    rw (
      new_reads (names_of_trains front) t.name good new,
      name_reads (names_of_classes plan.classes) t.class_no (class_names plan is) (class_within plan t own),
      name_reads (names_of plan.boxes) t.box_no (plan_names plan is) (box_within plan t own),
      brought_reads (box_at plan.boxes t.box_no) t.place (place_names plan t.box_no is own.box_no) own.place
          own.no_berth,
      not_full 5000 (length front) few,
    ) refl

train_onto_reads : (plan : PlanFields) (front : List TrainPlan) (t : TrainPlan) (draft : DraftFields)
    → Stands plan plan.boxes front 16 draft
    → train_onto draft (train_line plan t) ≡ train_in (driven plan stages.Train front) (train_line plan t)
unfolding train_onto
train_onto_reads plan front t draft st =
    rw (fulls plan front draft st)
    (ap (λ (x : DraftFields). train_in x (train_line plan t)) (closes plan front stages.Train draft st))

train_read : (plan : PlanFields) (front : List TrainPlan) (t : TrainPlan) (draft : DraftFields)
    → Stands plan plan.boxes front 16 draft → IsPlan plan → IsTrain plan.classes plan.boxes t → is_name t.name ≡ true
    → list_any (bytes_eq t.name) (names_of_trains front) ≡ false → length front < 5000
    → words_onto draft (train_line plan t) ≡ Ok (driven plan stages.Train (front ++ t ∷ []))
unfolding line_kind may_follow kind_onto
train_read plan front t draft st is own good new few =
    kind_read draft stages.Train (train_line plan t) refl st.most (is_between 4 16 (rank draft.stage) st.low st.most)
    ∙ train_onto_reads plan front t draft st
    ∙ train_in_reads plan front t is own good new few

train_is_line : (plan : PlanFields) (t : TrainPlan) → IsPlan plan → IsTrain plan.classes plan.boxes t
    → is_name t.name ≡ true → IsLine (train_line plan t)
train_is_line plan t is own good =
    fitting_line 16 (train_line plan t) (rw (
      name_fits t.name good,
      name_word_fits (names_of_classes plan.classes) t.class_no (class_names plan is) (class_within plan t own),
      name_word_fits (names_of plan.boxes) t.box_no (plan_names plan is) (box_within plan t own),
      name_word_fits (box_at plan.boxes t.box_no).places t.place (place_names plan t.box_no is own.box_no) own.place,
    ) refl) (omega arith) refl

driven_stands : (plan : PlanFields) (trains : List TrainPlan)
    → Stands plan plan.boxes trains 16 (driven plan stages.Train trains)
driven_stands plan trains = record { count = refl; low = omega arith; most = omega arith; all = refl; same = refl }

-- the printed lines of a plan's further trains are read as those trains
pub trains_are_read : (plan : PlanFields) (more : List (List (List ℕ))) → IsPlan plan
    → Goes plan plan.boxes plan.trains 16 more → (front vs : List TrainPlan) → plan.trains ≡ front ++ vs
    → Goes plan plan.boxes front 16 (map (train_line plan) vs ++ more)
trains_are_read plan more is go front [] e = let same : plan.trains ≡ front =
    e ∙ append-nil front in subst (λ (ts : List TrainPlan). Goes plan plan.boxes ts 16 more) same go
trains_are_read plan more is go front (t ∷ vs) e =
    let names : names_of_trains plan.trains ≡ names_of_trains front ++ t.name ∷ names_of_trains vs =
    ap names_of_trains e ∙ map-append (λ (x : TrainPlan). x.name) front (t ∷ vs) in
    let good : is_name t.name ≡ true =
    test_at is_name (names_of_trains front) (names_of_trains vs) t.name
    (ap (list_all is_name) (sym names) ∙ is.trains_named) in
    let new : list_any (bytes_eq t.name) (names_of_trains front) ≡ false =
    new_at (names_of_trains front) (names_of_trains vs) t.name (ap (are_new []) (sym names) ∙ is.trains_distinct) in
    let few : length front < 5000 = omega (arith, shorter front vs t, ap length e, is.few_trains) in
    let own =
    all_at (IsTrain plan.classes plan.boxes) front vs t
    (subst (All (IsTrain plan.classes plan.boxes)) e is.trains) in
    λ draft st. read_line draft (driven plan stages.Train (front ++ t ∷ [])) (whole plan) (train_line plan t)
    (map (train_line plan) vs ++ more) (train_is_line plan t is own good)
    (train_read plan front t draft st is own good new few)
    (trains_are_read plan more is go (front ++ t ∷ []) vs (e ∙ sym (append_assoc front (t ∷ []) vs))
    (driven plan stages.Train (front ++ t ∷ [])) (driven_stands plan (front ++ t ∷ [])))

-- ---- the end

end_onto_reads : (plan : PlanFields) (draft : DraftFields) → Stands plan plan.boxes plan.trains 16 draft
    → end_onto draft (codes "end" ∷ []) ≡ Ok (whole plan)
unfolding end_onto
end_onto_reads plan draft st =
    rw (fulls plan plan.trains draft st) (ap Ok (closes plan plan.trains stages.Ended draft st))

-- where all boxes and trains stand, the line `end` completes the plan
pub end_is_read : (plan : PlanFields) → Goes plan plan.boxes plan.trains 16 ((codes "end" ∷ []) ∷ [])
unfolding line_kind may_follow kind_onto
end_is_read plan draft st =
    read_line draft (whole plan) (whole plan) (codes "end" ∷ []) []
    (fitting_line 16 (codes "end" ∷ []) refl (omega arith) refl)
    (kind_read draft stages.Ended (codes "end" ∷ []) refl st.most (is_between 4 16 (rank draft.stage) st.low st.most)
    ∙ end_onto_reads plan draft st) (read_none (whole plan))

-- trains may stand behind the boxes
pub goes_later : (plan : PlanFields) (more : List (List (List ℕ))) → Goes plan plan.boxes [] 16 more
    → Goes plan plan.boxes [] 15 more
goes_later plan more go draft st =
    go draft (record { count = st.count; low = st.low; most = omega (arith, st.most); all = st.all; same = st.same })

pub ruleset boxes_rules = (boxes_are_read, trains_are_read, end_is_read, goes_later)
