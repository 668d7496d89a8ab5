-- What is read meets every condition of a plan.
use Rattle.std.proofs.Common.{◌≡◌, ℕ, zero, suc, ◌+◌, ◌<◌, ◌≤◌, Bool, true, false, cond, eqb, ltb, leb, List, [], ◌∷◌}
use Rattle.std.proofs.Common.{◌++◌, length, Option, None, Some, is_some, Result, Ok, Err, refl, sym, ap, subst, ◌∙◌}
use Rattle.std.proofs.Common.{arith, bytes_eq, ◌⊎◌, inl, inr}
use Rattle.std.specs.Prelude.{All}
use Rattle.std.specs.List.{list_any, list_all}
use Rattle.std.proofs.lemmas.Bool.Decides.{nat_tests}
use Rattle.std.proofs.lemmas.List.{map-append, length-append, length-map}
use Rattle.std.proofs.lemmas.List.Elements.{All-nil, All-push, All-same}
use Rattle.std.proofs.lemmas.List.Folds.{list_all-append}
use Rattle.bell_codes.specs.Reading.{code_of}
use Rattle.bell_codes.specs.Table.{code_number}
use Rattle.rail_text.specs.Names.{are_new}
use Rattle.rail_text.specs.Gives.{◌>>=◌, Fault}
use Rattle.rail_text.specs.Lines.{Line, lines_of, words_of}
use Rattle.rail_text.specs.Forms.{form_of}
use Rattle.rail_text.specs.Texts.{formed, line_onto, at_line, lines_onto, text_onto}
use Rattle.rail_text.specs.Words.{is_name, keyword, number_in}
use Rattle.rail_text.specs.declared.cause.Cause.{Cause}
use Rattle.rail_text.specs.declared.cause.Cause.TheVariants as causes
use Rattle.rail_text.specs.declared.forms.LineForm.{LineForm}
use Rattle.rail_text.specs.declared.forms.LineForm.TheVariants as forms
use Rattle.rail_text.proofs.Binds.{OfOk, bind_keeps, bind_any, if_keeps, InRange, number_in_is}
use Rattle.rail_text.proofs.DistinctNames.{distinct-append}
use Rattle.line_plan.specs.Limits.{most_boxes, most_delay, most_looks, most_bytes}
use Rattle.line_plan.specs.Frames.{BoxFields, berth_places}
use Rattle.line_plan.specs.Plans.{PlanFields, names_of, no_box, box_at, IsPlace, IsBox, AreClasses, IsTrain, IsPlan}
use Rattle.line_plan.specs.Plans.{names_of_classes, names_of_trains}
use Rattle.line_plan.specs.declared.plan.Class.{Class}
use Rattle.line_plan.specs.declared.plan.TrainPlan.{TrainPlan}
use Rattle.plan_draft.specs.declared.draft.Stage.{Stage}
use Rattle.plan_draft.specs.declared.draft.Stage.TheVariants as stages
use Rattle.plan_draft.specs.Drafts.{DraftFields, rank, in_box, start, boxes_with, all_boxes}
use Rattle.plan_draft.specs.LineWords.{counted, word, new_name, number_in_names, code_in}
use Rattle.plan_draft.specs.Reading.{plan_onto, boxes_onto, delay_onto, looks_onto, with_class, class_onto, is_full}
use Rattle.plan_draft.specs.Reading.{box_onto, brought_in, closed, with_train, train_in, train_onto, end_onto}
use Rattle.plan_draft.specs.Reading.{line_kind, between, may_follow, box_with, here_onto, kind_onto, if_it_may}
use Rattle.plan_draft.specs.Reading.{has_ended, words_onto, plan_of}
use Rattle.plan_text.proofs.Built.{Built, known_keeps, new_name_is, number_is, place_keeps, lever_keeps}
use Rattle.plan_text.proofs.BuiltSignals.{signal_keeps, starter_keeps}
use Rattle.plan_text.proofs.BuiltBerths.{berth_keeps, clear_keeps, permissive_keeps, track_keeps, row_keeps}
use Rattle.plan_draft.proofs.Following.{bounds, not_in_box}
use Rattle.plan_draft.proofs.Classes.{opening_are, class_grows}

-- each complete box is as a box is
abbrev EachBox : ℕ → List BoxFields → Type 0
EachBox count boxes = (b : ℕ) → b < length boxes → IsBox count b (box_at boxes b)

-- what is read so far meets the conditions of a plan, but that boxes may still be to come
pub record IsDraft (draft : DraftFields) : Type 0 where
  pub version_low : 1 ≤ draft.plan.version
  pub version_high : draft.plan.version ≤ 2
  pub delay : draft.plan.delay ≤ most_delay draft.plan.version
  pub looks_low : 1 ≤ draft.plan.looks
  pub looks_high : draft.plan.looks ≤ most_looks
  pub classes : AreClasses draft.plan.codes draft.plan.classes
  pub count_low : 2 ≤ draft.count
  pub count_high : draft.count ≤ most_boxes draft.plan.version
  pub most : length (all_boxes draft) ≤ draft.count
  pub named : list_all is_name (names_of (all_boxes draft)) ≡ true
  pub distinct : are_new [] (names_of (all_boxes draft)) ≡ true
  pub each : EachBox draft.count draft.plan.boxes
  pub here : in_box draft.stage ≡ true
      → Built draft.count (length draft.plan.boxes) (rank draft.stage) draft.here.name draft.here
  pub trains : All (IsTrain draft.plan.classes draft.plan.boxes) draft.plan.trains
  pub few_trains : length draft.plan.trains ≤ 5000
  pub trains_named : list_all is_name (names_of_trains draft.plan.trains) ≡ true
  pub trains_distinct : are_new [] (names_of_trains draft.plan.trains) ≡ true
  pub unread : rank draft.stage ≡ 0 → (draft.count ≡ 2) × (draft.plan.delay ≡ 0)
  pub unboxed : rank draft.stage < 6 → draft.plan.boxes ≡ []
  pub untrained : rank draft.stage < 16 → draft.plan.trains ≡ []
  pub full : rank draft.stage ≡ 17 → draft.count ≤ length draft.plan.boxes

-- ---- boxes in a row

two_boxes_fit : (version : ℕ) → 2 ≤ most_boxes version
two_boxes_fit version = go (eqb version 1) where
  go : (b : Bool) → 2 ≤ cond b 32 64
  go true = omega arith
  go false = omega arith

box_front : (boxes : List BoxFields) (here : BoxFields) (b : ℕ) → b < length boxes
    → box_at (boxes ++ here ∷ []) b ≡ box_at boxes b
box_front [] here b lt = absurd (omega (arith, lt))
box_front (x ∷ xs) here zero lt = refl
box_front (x ∷ xs) here (suc b) lt = box_front xs here b (omega (arith, lt))

box_last : (boxes : List BoxFields) (here : BoxFields) → box_at (boxes ++ here ∷ []) (length boxes) ≡ here
box_last [] here = refl
box_last (x ∷ xs) here = box_last xs here

each_more : (count : ℕ) (boxes : List BoxFields) (here : BoxFields) → EachBox count boxes
    → IsBox count (length boxes) here → EachBox count (boxes ++ here ∷ [])
each_more count boxes here each is b lt = go (ltb b (length boxes)) refl where
  go : (t : Bool) → ltb b (length boxes) ≡ t → IsBox count b (box_at (boxes ++ here ∷ []) b)
  go true e = let less : b < length boxes =
      grind (arith, nat_tests) in subst (IsBox count b) (sym (box_front boxes here b less)) (each b less)
  go false e =
      let same : length boxes ≡ b = grind (arith, nat_tests, length-append boxes (here ∷ [])) in
      subst (λ (k : ℕ). IsBox count k (box_at (boxes ++ here ∷ []) k)) same
      (subst (IsBox count (length boxes)) (sym (box_last boxes here)) is)

each_with : (stage : Bool) (count k : ℕ) (boxes : List BoxFields) (here : BoxFields) → EachBox count boxes
    → (stage ≡ true → Built count (length boxes) k here.name here)
    → EachBox count (cond stage (boxes ++ here ∷ []) boxes)
each_with true count k boxes here each built = each_more count boxes here each (built refl).is
each_with false count k boxes here each built = each

-- all boxes that stand are as boxes are
each_all : (d : DraftFields) → IsDraft d → EachBox d.count (all_boxes d)
each_all d is = each_with (in_box d.stage) d.count (rank d.stage) d.plan.boxes d.here is.each is.here

names_more : (boxes : List BoxFields) (here : BoxFields)
    → names_of (boxes ++ here ∷ []) ≡ names_of boxes ++ here.name ∷ []
names_more boxes here = map-append (λ (b : BoxFields). b.name) boxes (here ∷ [])

all_more : (xs : List (List ℕ)) (x : List ℕ) → list_all is_name xs ≡ true → is_name x ≡ true
    → list_all is_name (xs ++ x ∷ []) ≡ true
all_more xs x h e = list_all-append is_name xs (x ∷ []) ∙ rw (h, e) refl

behind_boxes : (stage : Stage) → 16 ≤ rank stage → in_box stage ≡ false
behind_boxes stage high = grind (arith, nat_tests)

no_boxes : (d : DraftFields) → IsDraft d → rank d.stage ≤ 5 → all_boxes d ≡ []
no_boxes d is low = rw (not_in_box d.stage low) (is.unboxed (omega (arith, low)))

-- ---- the first lines

-- a draft of one of the first stages has no box and no train
record IsEarly (d : DraftFields) : Type 0 where
  is : IsDraft d
  low : rank d.stage ≤ 5

early_step : (d next : DraftFields) → IsEarly d → rank next.stage ≤ 5 → 1 ≤ rank next.stage
    → next.plan.boxes ≡ d.plan.boxes → next.plan.trains ≡ d.plan.trains → 1 ≤ next.plan.version → next.plan.version ≤ 2
    → next.plan.delay ≤ most_delay next.plan.version → 1 ≤ next.plan.looks → next.plan.looks ≤ most_looks
    → AreClasses next.plan.codes next.plan.classes → 2 ≤ next.count → next.count ≤ most_boxes next.plan.version
    → IsDraft next
early_step d next e low some boxes trains v1 v2 delay l1 l2 classes c1 c2 =
    let none : next.plan.boxes ≡ [] = boxes ∙ e.is.unboxed (omega (arith, e.low)) in
    let no_train : next.plan.trains ≡ [] = trains ∙ e.is.untrained (omega (arith, e.low)) in
    let out = not_in_box next.stage low in
    let all : all_boxes next ≡ [] = rw out none in
    record {
      version_low = v1;
      version_high = v2;
      delay = delay;
      looks_low = l1;
      looks_high = l2;
      classes = classes;
      count_low = c1;
      count_high = c2;
      most = omega (arith, ap length all);
      named = rw all refl;
      distinct = rw all refl;
      each = λ b lt. absurd (omega (arith, lt, ap length none));
      here = λ t. absurd (let bad : true ≡ false = sym t ∙ out in cc);
      trains = All-same (IsTrain next.plan.classes next.plan.boxes) next.plan.trains [] no_train
          (All-nil (IsTrain next.plan.classes next.plan.boxes));
      few_trains = omega (arith, ap length no_train);
      trains_named = rw no_train refl;
      trains_distinct = rw no_train refl;
      unread = λ z. absurd (omega (arith, z, some));
      unboxed = λ _. none;
      untrained = λ _. no_train;
      full = λ z. absurd (omega (arith, z, low));
    }

plan_keeps : (d : DraftFields) (words : List (List ℕ)) → IsDraft d → rank d.stage ≤ 0 → OfOk IsDraft (plan_onto d words)
unfolding plan_onto
plan_keeps d words is low =
    bind_any IsDraft (counted 2 2 words) _ (λ _.
    bind_keeps (InRange 1 2 (word 1 words)) IsDraft (number_in 1 2 (word 1 words)) _ (number_in_is 1 2 (word 1 words))
    (λ n r.
    let before = is.unread (omega (arith, low)) in
    early_step d (record d { stage = stages.Plan; plan = record d.plan { version = n } })
    (record { is = is; low = omega (arith, low) }) (omega arith) (omega arith) refl refl r.1 r.2
    (omega (arith, before.1)) is.looks_low is.looks_high is.classes is.count_low
    (omega (arith, before.0, two_boxes_fit n))))

boxes_keeps : (d : DraftFields) (words : List (List ℕ)) → IsDraft d → rank d.stage ≤ 1
    → OfOk IsDraft (boxes_onto d words)
unfolding boxes_onto
boxes_keeps d words is low =
    bind_any IsDraft (counted 2 2 words) _ (λ _.
    bind_keeps (InRange 2 (most_boxes d.plan.version) (word 1 words)) IsDraft
    (number_in 2 (most_boxes d.plan.version) (word 1 words)) _
    (number_in_is 2 (most_boxes d.plan.version) (word 1 words)) (λ n r.
    early_step d (record d { stage = stages.Boxes; count = n }) (record { is = is; low = omega (arith, low) })
    (omega arith) (omega arith) refl refl is.version_low is.version_high
    is.delay is.looks_low is.looks_high is.classes r.1 r.2))

delay_keeps : (d : DraftFields) (words : List (List ℕ)) → IsDraft d → rank d.stage ≤ 2
    → OfOk IsDraft (delay_onto d words)
unfolding delay_onto
delay_keeps d words is low =
    bind_any IsDraft (counted 2 2 words) _ (λ _.
    bind_keeps (InRange 0 (most_delay d.plan.version) (word 1 words)) IsDraft
    (number_in 0 (most_delay d.plan.version) (word 1 words)) _
    (number_in_is 0 (most_delay d.plan.version) (word 1 words)) (λ n r.
    early_step d (record d { stage = stages.Delay; plan = record d.plan { delay = n } })
    (record { is = is; low = omega (arith, low) }) (omega arith) (omega arith) refl refl is.version_low
    is.version_high
    r.2 is.looks_low is.looks_high is.classes is.count_low is.count_high))

looks_keeps : (d : DraftFields) (words : List (List ℕ)) → IsDraft d → rank d.stage ≤ 3
    → OfOk IsDraft (looks_onto d words)
unfolding looks_onto
looks_keeps d words is low =
    bind_any IsDraft (counted 2 2 words) _ (λ _.
    bind_keeps (InRange 1 most_looks (word 1 words)) IsDraft (number_in 1 most_looks (word 1 words)) _
    (number_in_is 1 most_looks (word 1 words)) (λ n r.
    early_step d (record d { stage = stages.Looks; plan = record d.plan { looks = n } })
    (record { is = is; low = omega (arith, low) }) (omega arith) (omega arith) refl refl is.version_low
    is.version_high
    is.delay r.1 r.2 is.classes is.count_low is.count_high))

code_is : (text : List ℕ) → OfOk (λ code. code_of text ≡ Some code) (code_in text)
code_is text = known_keeps (λ code. code_of text ≡ Some code) causes.BadCode (code_of text) (λ code e. e)

class_keeps : (d : DraftFields) (words : List (List ℕ)) → IsDraft d → rank d.stage ≤ 5
    → OfOk IsDraft (class_onto d words)
unfolding class_onto with_class
class_keeps d words is low =
    bind_any IsDraft (counted 3 3 words) _ (λ _.
    bind_keeps
    (λ name. (word 1 words ≡ name) × (is_name name ≡ true)
    × (list_any (bytes_eq name) (names_of_classes d.plan.classes) ≡ false)) IsDraft
    (new_name (names_of_classes d.plan.classes) (word 1 words)) _
    (new_name_is (names_of_classes d.plan.classes) (word 1 words)) (λ name i.
    bind_keeps (λ code. code_of (word 2 words) ≡ Some code) IsDraft (code_in (word 2 words)) _ (code_is (word 2 words))
    (λ code spelled.
    if_keeps IsDraft (is_some (code_number d.plan.codes code)) _ _ (λ _. tt) (λ absent.
    if_keeps IsDraft (leb 200 (length d.plan.codes)) _ _ (λ _. tt) (λ room.
    early_step d
    (record d {
      stage = stages.Class;
      plan = record d.plan {
        codes = d.plan.codes ++ code ∷ [];
        classes =
            d.plan.classes ++ record { name = name; code = length d.plan.codes + 1 } ∷ [];
      };
    })
    (record { is = is; low = low }) (omega arith) (omega arith) refl refl is.version_low is.version_high is.delay
    is.looks_low is.looks_high
    (class_grows d.plan.codes d.plan.classes name (word 2 words) code is.classes i.1 i.2 spelled absent room)
    is.count_low is.count_high)))))

-- ---- boxes

-- a new box has nothing but its name
new_built : (boxes b : ℕ) (name : List ℕ) → Built boxes b 6 name (record no_box { name = name })
new_built boxes b name = record {
  is = record {
    named = refl;
    distinct = refl;
    away = refl;
    few_places = omega arith;
    rising = refl;
    frame = omega arith;
    signals = All-nil _;
    one_each = refl;
    starters_last = refl;
    one_up = omega arith;
    one_down = omega arith;
    berth_up = tt;
    berth_down = tt;
    berths_differ = refl;
    tracks = All-nil _;
    one_track = refl;
    rows = All-nil _;
    few_rows = omega arith;
  };
  unread = record {
    levers = λ _. refl;
    signals = λ _. refl;
    starters = λ _. refl;
    up = λ _. refl;
    down =
        λ _. refl;
    tracks = λ _. refl;
    rows = λ _. refl;
  };
  name = refl;
}

box_keeps : (d : DraftFields) (words : List (List ℕ)) → IsDraft d → rank d.stage ≤ 15 → OfOk IsDraft (box_onto d words)
unfolding box_onto
box_keeps d words is low =
    let Q : List ℕ → Type 0 =
    λ name. (length (all_boxes d) < d.count) × (is_name name ≡ true)
    × (list_any (bytes_eq name) (names_of (all_boxes d)) ≡ false) in
    bind_any IsDraft (counted 2 2 words) _ (λ _.
    bind_keeps Q IsDraft (cond (is_full d) (Err causes.TooMany) (new_name (names_of (all_boxes d)) (word 1 words))) _
    (if_keeps Q (is_full d) _ _ (λ _. tt)
    (λ room. also (grind (arith, nat_tests)) (new_name (names_of (all_boxes d)) (word 1 words))
    (new_name_is (names_of (all_boxes d)) (word 1 words))))
    (λ name i.
    let here : BoxFields = record no_box { name = name } in
    let names = names_more (all_boxes d) here in
    let none = is.untrained (omega (arith, low)) in
    record {
      version_low = is.version_low;
      version_high = is.version_high;
      delay = is.delay;
      looks_low = is.looks_low;
      looks_high = is.looks_high;
      classes = is.classes;
      count_low = is.count_low;
      count_high = is.count_high;
      most = omega (arith, length-append (all_boxes d) (here ∷ []), i.0);
      named = ap (list_all is_name) names ∙ all_more (names_of (all_boxes d)) name is.named i.1;
      distinct = ap (are_new []) names ∙ distinct-append (names_of (all_boxes d)) name is.distinct i.2;
      each = each_all d is;
      here = λ _. new_built d.count (length (all_boxes d)) name;
      trains = All-same (IsTrain d.plan.classes (all_boxes d)) d.plan.trains [] none
          (All-nil (IsTrain d.plan.classes (all_boxes d)));
      few_trains = is.few_trains;
      trains_named = is.trains_named;
      trains_distinct = is.trains_distinct;
      unread = λ z. absurd (omega (arith, z));
      unboxed = λ z. absurd (omega (arith, z));
      untrained = λ _. none;
      full = λ z. absurd (omega (arith, z));
    })) where
      also : length (all_boxes d) < d.count → (r : Result (List ℕ) Cause)
          → OfOk (λ name. (word 1 words ≡ name) × (is_name name ≡ true)
          × (list_any (bytes_eq name) (names_of (all_boxes d)) ≡ false)) r
          → OfOk (λ name. (length (all_boxes d) < d.count) × (is_name name ≡ true)
          × (list_any (bytes_eq name) (names_of (all_boxes d)) ≡ false)) r
      also less (Ok name) h = (less, h.1, h.2)
      also less (Err e) h = tt

-- ---- the lines of a box

in_bounds : (stage : Stage) → in_box stage ≡ true → (6 ≤ rank stage) × (rank stage ≤ 15)
in_bounds stage e = (grind (arith, nat_tests), grind (arith, nat_tests))

here_step : (d : DraftFields) (kind : Stage) (here : BoxFields) → IsDraft d → in_box d.stage ≡ true → in_box kind ≡ true
    → Built d.count (length d.plan.boxes) (rank kind) d.here.name here
    → IsDraft (record d { stage = kind; here = here })
here_step d kind here is inside own built =
    let known : names_of (all_boxes d) ≡ names_of d.plan.boxes ++ d.here.name ∷ [] =
    rw inside (names_more d.plan.boxes d.here) in
    let same : names_of (boxes_with kind d.plan.boxes here) ≡ names_of (all_boxes d) =
    rw own (names_more d.plan.boxes here ∙ ap (λ (name : List ℕ). names_of d.plan.boxes ++ name ∷ []) built.name
    ∙ sym known) in
    let sizes : length (boxes_with kind d.plan.boxes here) ≡ length (all_boxes d) =
    rw (own, inside) (length-append d.plan.boxes (here ∷ []) ∙ sym (length-append d.plan.boxes (d.here ∷ []))) in
    let bounds = in_bounds kind own in
    let before = in_bounds d.stage inside in
    record {
      version_low = is.version_low;
      version_high = is.version_high;
      delay = is.delay;
      looks_low = is.looks_low;
      looks_high = is.looks_high;
      classes = is.classes;
      count_low = is.count_low;
      count_high = is.count_high;
      most = omega (arith, sizes, is.most);
      named = ap (list_all is_name) same ∙ is.named;
      distinct = ap (are_new []) same ∙ is.distinct;
      each = is.each;
      here = λ _. record { is = built.is; unread = built.unread; name = refl };
      trains = is.trains;
      few_trains = is.few_trains;
      trains_named = is.trains_named;
      trains_distinct = is.trains_distinct;
      unread = λ z. absurd (omega (arith, z, bounds.0));
      unboxed = λ z. absurd (omega (arith, z, bounds.0));
      untrained = λ _. is.untrained (omega (arith, before.1));
      full = λ z. absurd (omega (arith, z, bounds.1));
    }

here_keeps : (d : DraftFields) (kind : Stage) (words : List (List ℕ)) → IsDraft d → in_box d.stage ≡ true
    → in_box kind ≡ true
    → OfOk (Built d.count (length d.plan.boxes) (rank kind) d.here.name)
    (box_with kind d.count (length d.plan.boxes) d.here words) → OfOk IsDraft (here_onto kind d words)
unfolding here_onto
here_keeps d kind words is inside own read =
    bind_keeps (Built d.count (length d.plan.boxes) (rank kind) d.here.name) IsDraft
    (box_with kind d.count (length d.plan.boxes) d.here words) _ read
    (λ here built. here_step d kind here is inside own built)

-- ---- trains and the end

-- a draft whose boxes are complete
closed_is : (d : DraftFields) (stage : Stage) → IsDraft d → 16 ≤ rank stage → leb d.count (length (all_boxes d)) ≡ true
    → (d.plan.boxes ≡ all_boxes d) ⊎ (d.plan.trains ≡ []) → IsDraft (closed stage d)
closed_is d stage is late full how =
    let out = behind_boxes stage late in
    let boxes : boxes_with stage (all_boxes d) no_box ≡ all_boxes d = rw out refl in
    record {
      version_low = is.version_low;
      version_high = is.version_high;
      delay = is.delay;
      looks_low = is.looks_low;
      looks_high = is.looks_high;
      classes = is.classes;
      count_low = is.count_low;
      count_high = is.count_high;
      most = omega (arith, ap length boxes, is.most);
      named = ap (λ (bs : List BoxFields). list_all is_name (names_of bs)) boxes ∙ is.named;
      distinct = ap (λ (bs : List BoxFields). are_new [] (names_of bs)) boxes ∙ is.distinct;
      each = each_all d is;
      here = λ t. absurd (let bad : true ≡ false = sym t ∙ out in cc);
      trains = trains how;
      few_trains = is.few_trains;
      trains_named = is.trains_named;
      trains_distinct = is.trains_distinct;
      unread = λ z. absurd (omega (arith, z, late));
      unboxed = λ z. absurd (omega (arith, z, late));
      untrained = λ z. absurd (omega (arith, z, late));
      full = λ _. grind (arith, nat_tests);
    } where
      trains : (d.plan.boxes ≡ all_boxes d) ⊎ (d.plan.trains ≡ [])
          → All (IsTrain d.plan.classes (all_boxes d)) d.plan.trains
      trains (inl e) = subst (λ (bs : List BoxFields). All (IsTrain d.plan.classes bs) d.plan.trains) e is.trains
      trains (inr e) =
          All-same (IsTrain d.plan.classes (all_boxes d)) d.plan.trains [] e
          (All-nil (IsTrain d.plan.classes (all_boxes d)))

-- trains stand only where the boxes are complete
how_closed : (d : DraftFields) → IsDraft d → (d.plan.boxes ≡ all_boxes d) ⊎ (d.plan.trains ≡ [])
how_closed d is = go (ltb (rank d.stage) 16) refl where
  go : (t : Bool) → ltb (rank d.stage) 16 ≡ t → (d.plan.boxes ≡ all_boxes d) ⊎ (d.plan.trains ≡ [])
  go true e = inr (is.untrained (grind (arith, nat_tests)))
  go false e = let late : 16 ≤ rank d.stage = grind (arith, nat_tests) in inl (rw (behind_boxes d.stage late) refl)

end_keeps : (d : DraftFields) (words : List (List ℕ)) → IsDraft d → OfOk IsDraft (end_onto d words)
unfolding end_onto
end_keeps d words is =
    bind_any IsDraft (counted 1 1 words) _ (λ _.
    if_keeps IsDraft (is_full d) _ _ (λ full. closed_is d stages.Ended is (omega arith) full (how_closed d is))
    (λ _. tt))

brought_is : (box_plan : BoxFields) (text : List ℕ)
    → OfOk (λ place. IsPlace box_plan place × (list_any (λ berth. eqb berth place) (berth_places box_plan) ≡ false))
    (brought_in box_plan text)
unfolding brought_in
brought_is box_plan text =
    let P : ℕ → Type 0 =
    λ place. IsPlace box_plan place × (list_any (λ berth. eqb berth place) (berth_places box_plan) ≡ false) in
    bind_keeps (IsPlace box_plan) P (number_in_names box_plan.places text) _ (number_is box_plan.places text)
    (λ place within.
    if_keeps P (list_any (λ berth. eqb berth place) (berth_places box_plan)) _ _ (λ _. tt) (λ free. (within, free)))

train_in_keeps : (d : DraftFields) (words : List (List ℕ)) → IsDraft d → rank d.stage ≡ 16
    → OfOk IsDraft (train_in d words)
unfolding train_in with_train
train_in_keeps d words is stage =
    bind_keeps
    (λ name. (word 1 words ≡ name) × (is_name name ≡ true)
    × (list_any (bytes_eq name) (names_of_trains d.plan.trains) ≡ false)) IsDraft
    (new_name (names_of_trains d.plan.trains) (word 1 words)) _
    (new_name_is (names_of_trains d.plan.trains) (word 1 words)) (λ name i.
    bind_keeps (λ n. n < length (names_of_classes d.plan.classes)) IsDraft
    (number_in_names (names_of_classes d.plan.classes) (word 2 words)) _
    (number_is (names_of_classes d.plan.classes) (word 2 words)) (λ class_no class_is.
    bind_keeps (λ n. n < length (names_of d.plan.boxes)) IsDraft
    (number_in_names (names_of d.plan.boxes) (word 3 words)) _ (number_is (names_of d.plan.boxes) (word 3 words))
    (λ box_no box_is.
    bind_keeps
    (λ place. IsPlace (box_at d.plan.boxes box_no) place
    × (list_any (λ berth. eqb berth place) (berth_places (box_at d.plan.boxes box_no)) ≡ false)) IsDraft
    (brought_in (box_at d.plan.boxes box_no) (word 4 words)) _
    (brought_is (box_at d.plan.boxes box_no) (word 4 words)) (λ place place_is.
    if_keeps IsDraft (leb 5000 (length d.plan.trains)) _ _ (λ _. tt) (λ room.
    let train : TrainPlan = record { name = name; class_no = class_no; box_no = box_no; place = place } in
    let new : IsTrain d.plan.classes d.plan.boxes train = record {
      class_no = omega (arith, class_is, length-map d.plan.classes (λ (c : Class). c.name));
      box_no = omega (arith, box_is, length-map d.plan.boxes (λ (b : BoxFields). b.name));
      place = place_is.0;
      no_berth = place_is.1;
    } in
    let names : names_of_trains (d.plan.trains ++ train ∷ []) ≡ names_of_trains d.plan.trains ++ name ∷ [] =
    map-append (λ (t : TrainPlan). t.name) d.plan.trains (train ∷ []) in
    record {
      version_low = is.version_low;
      version_high = is.version_high;
      delay = is.delay;
      looks_low = is.looks_low;
      looks_high = is.looks_high;
      classes = is.classes;
      count_low = is.count_low;
      count_high = is.count_high;
      most = is.most;
      named = is.named;
      distinct = is.distinct;
      each = is.each;
      here = is.here;
      trains = All-push (IsTrain d.plan.classes d.plan.boxes) d.plan.trains train is.trains new;
      few_trains = grind (arith, nat_tests, length-append d.plan.trains (train ∷ []));
      trains_named = ap (list_all is_name) names ∙ all_more (names_of_trains d.plan.trains) name is.trains_named i.1;
      trains_distinct =
          ap (are_new []) names ∙ distinct-append (names_of_trains d.plan.trains) name is.trains_distinct i.2;
      unread = λ z. absurd (omega (arith, z, stage));
      unboxed = λ z. absurd (omega (arith, z, stage));
      untrained = λ z. absurd (omega (arith, z, stage));
      full = λ z. absurd (omega (arith, z, stage));
    })))))

train_keeps : (d : DraftFields) (words : List (List ℕ)) → IsDraft d → OfOk IsDraft (train_onto d words)
unfolding train_onto
train_keeps d words is =
    bind_any IsDraft (counted 5 5 words) _ (λ _.
    if_keeps IsDraft (is_full d) _ _
    (λ full. train_in_keeps (closed stages.Train d) words
    (closed_is d stages.Train is (omega arith) full (how_closed d is)) refl) (λ _. tt))

-- ---- any line

inside : (high : ℕ) (d : DraftFields) → high ≤ 15 → between 6 high d.stage ≡ true → in_box d.stage ≡ true
inside high d few e = grind (arith, nat_tests)

kind_keeps : (kind : Stage) (d : DraftFields) (words : List (List ℕ)) → IsDraft d → may_follow kind d.stage ≡ true
    → OfOk IsDraft (kind_onto kind d words)
unfolding kind_onto may_follow box_with
kind_keeps stages.Start d words is may = absurd cc
kind_keeps stages.Plan d words is may = plan_keeps d words is (bounds 0 0 d.stage may).1
kind_keeps stages.Boxes d words is may = boxes_keeps d words is (bounds 1 1 d.stage may).1
kind_keeps stages.Delay d words is may = delay_keeps d words is (bounds 2 2 d.stage may).1
kind_keeps stages.Looks d words is may = looks_keeps d words is (bounds 3 3 d.stage may).1
kind_keeps stages.Class d words is may = class_keeps d words is (bounds 4 5 d.stage may).1
kind_keeps stages.Box d words is may = box_keeps d words is (bounds 4 15 d.stage may).1
kind_keeps stages.Place d words is may =
    let i = inside 7 d (omega arith) may in
    here_keeps d stages.Place words is i refl
    (place_keeps d.count (length d.plan.boxes) (rank d.stage) d.here.name d.here words (bounds 6 7 d.stage may).1
    (is.here i))
kind_keeps stages.Lever d words is may =
    let i = inside 8 d (omega arith) may in
    here_keeps d stages.Lever words is i refl
    (lever_keeps d.count (length d.plan.boxes) (rank d.stage) d.here.name d.here words (bounds 6 8 d.stage may).1
    (is.here i))
kind_keeps stages.Signal d words is may =
    let i = inside 9 d (omega arith) may in
    here_keeps d stages.Signal words is i refl
    (signal_keeps d.count (length d.plan.boxes) (rank d.stage) d.here.name d.here words (bounds 6 9 d.stage may).1
    (is.here i))
kind_keeps stages.Starter d words is may =
    let i = inside 10 d (omega arith) may in
    here_keeps d stages.Starter words is i refl
    (starter_keeps d.count (length d.plan.boxes) (rank d.stage) d.here.name d.here words (bounds 6 10 d.stage may).1
    (is.here i))
kind_keeps stages.Berth d words is may =
    let i = inside 11 d (omega arith) may in
    here_keeps d stages.Berth words is i refl
    (berth_keeps d.count (length d.plan.boxes) (rank d.stage) d.here.name d.here words (bounds 6 11 d.stage may).1
    (is.here i))
kind_keeps stages.Clear d words is may =
    let i = inside 12 d (omega arith) may in
    here_keeps d stages.Clear words is i refl
    (clear_keeps d.count (length d.plan.boxes) (rank d.stage) d.here.name d.here words (bounds 6 12 d.stage may).1
    (is.here i))
kind_keeps stages.Permissive d words is may =
    let i = inside 13 d (omega arith) may in
    here_keeps d stages.Permissive words is i refl
    (permissive_keeps d.count (length d.plan.boxes) (rank d.stage) d.here.name d.here words
    (bounds 6 13 d.stage may).1 (is.here i))
kind_keeps stages.Track d words is may =
    let i = inside 14 d (omega arith) may in
    here_keeps d stages.Track words is i refl
    (track_keeps d.count (length d.plan.boxes) (rank d.stage) d.here.name d.here words (bounds 6 14 d.stage may).1
    (is.here i))
kind_keeps stages.Row d words is may =
    let i = inside 15 d (omega arith) may in
    here_keeps d stages.Row words is i refl
    (row_keeps d.count (length d.plan.boxes) (rank d.stage) d.here.name d.here words (bounds 6 15 d.stage may).1
    (is.here i))
kind_keeps stages.Train d words is may = train_keeps d words is
kind_keeps stages.Ended d words is may = end_keeps d words is

it_may_keeps : (d : DraftFields) (words : List (List ℕ)) (kind : Option Stage) → IsDraft d
    → OfOk IsDraft (if_it_may d words kind)
it_may_keeps d words None is = tt
it_may_keeps d words (Some kind) is =
    if_keeps IsDraft (may_follow kind d.stage) _ _ (λ may. kind_keeps kind d words is may) (λ _. tt)

words_keep : (d : DraftFields) (words : List (List ℕ)) → IsDraft d → OfOk IsDraft (words_onto d words)
unfolding words_onto
words_keep d words is =
    if_keeps IsDraft (has_ended d.stage) _ _ (λ _. tt) (λ _. it_may_keeps d words (line_kind (keyword words)) is)

-- ---- a text

form_keeps : (d : DraftFields) (words : List (List ℕ)) (form : LineForm) → IsDraft d
    → OfOk IsDraft (formed words_onto d words form)
form_keeps d words forms.Skipped is = is
form_keeps d words forms.Words is = words_keep d words is

line_keeps : (d : DraftFields) (line : Line) → IsDraft d → OfOk IsDraft (line_onto words_onto d line)
unfolding line_onto
line_keeps d line is = bind_any IsDraft (form_of true line) _ (λ form. form_keeps d (words_of line.text) form is)

at_keeps : (P : DraftFields → Type 0) (n : ℕ) (r : Result DraftFields Cause) → OfOk P r → OfOk P (at_line n r)
at_keeps P n (Ok d) h = h
at_keeps P n (Err cause) h = tt

-- the line `end` has stood, and all is so
abbrev IsRead : DraftFields → Type 0
IsRead d = IsDraft d × (has_ended d.stage ≡ true)

lines_keep : (n : ℕ) (d : DraftFields) (lines : List Line) → IsDraft d
    → OfOk IsRead (lines_onto words_onto (λ draft. has_ended draft.stage) n d lines)
unfolding lines_onto
lines_keep n d [] is = if_keeps IsRead (has_ended d.stage) _ _ (λ e. (is, e)) (λ _. tt)
lines_keep n d (line ∷ lines) is =
    bind_keeps IsDraft IsRead (at_line n (line_onto words_onto d line))
    (λ next. lines_onto words_onto (λ draft. has_ended draft.stage) (n + 1) next lines)
    (at_keeps IsDraft n (line_onto words_onto d line) (line_keeps d line is))
    (λ next q. lines_keep (n + 1) next lines q)

start_is : IsDraft start
start_is = record {
  version_low = omega arith;
  version_high = omega arith;
  delay = omega arith;
  looks_low = omega arith;
  looks_high = omega arith;
  classes = opening_are;
  count_low = omega arith;
  count_high = omega arith;
  most = omega arith;
  named = refl;
  distinct = refl;
  each = λ b lt. absurd (omega (arith, lt));
  here = λ e. absurd cc;
  trains = All-nil _;
  few_trains = omega arith;
  trains_named = refl;
  trains_distinct = refl;
  unread = λ _. (refl, refl);
  unboxed = λ _. refl;
  untrained = λ _. refl;
  full = λ e. absurd (omega (arith, e));
}

-- a draft that has ended is a plan
pub ended_is_plan : (d : DraftFields) → IsDraft d → has_ended d.stage ≡ true → IsPlan d.plan
ended_is_plan d is e =
    let last : rank d.stage ≡ 17 = grind (arith, nat_tests) in
    let full = is.full last in
    let all : all_boxes d ≡ d.plan.boxes = rw (behind_boxes d.stage (omega (arith, last))) refl in
    let count : d.count ≡ length d.plan.boxes = omega (arith, full, is.most, ap length all) in
    record {
      version_low = is.version_low;
      version_high = is.version_high;
      delay = is.delay;
      looks_low = is.looks_low;
      looks_high = is.looks_high;
      classes = is.classes;
      fewest = omega (arith, full, is.count_low);
      most = omega (arith, count, is.count_high);
      named = ap (λ (bs : List BoxFields). list_all is_name (names_of bs)) (sym all) ∙ is.named;
      distinct = ap (λ (bs : List BoxFields). are_new [] (names_of bs)) (sym all) ∙ is.distinct;
      each = subst (λ (n : ℕ). EachBox n d.plan.boxes) count is.each;
      trains = is.trains;
      few_trains = is.few_trains;
      trains_named = is.trains_named;
      trains_distinct = is.trains_distinct;
    }

pub text_is_read : (bytes : List ℕ)
    → OfOk IsRead (text_onto words_onto (λ draft. has_ended draft.stage) most_bytes start bytes)
unfolding text_onto
text_is_read bytes =
    if_keeps IsRead (ltb most_bytes (length bytes)) _ _ (λ _. tt) (λ _. lines_keep 1 start (lines_of bytes) start_is)

-- what is read is a plan
pub read_ended : (bytes : List ℕ) (d : DraftFields)
    → text_onto words_onto (λ draft. has_ended draft.stage) most_bytes start bytes ≡ Ok d → has_ended d.stage ≡ true
read_ended bytes d e = (subst (OfOk IsRead) e (text_is_read bytes)).1

-- where a text is read to its end, the plan of its draft meets every condition of a plan
pub read_is_plan : (bytes : List ℕ) (d : DraftFields)
    → text_onto words_onto (λ draft. has_ended draft.stage) most_bytes start bytes ≡ Ok d → IsPlan d.plan
read_is_plan bytes d e = let r = subst (OfOk IsRead) e (text_is_read bytes) in ended_is_plan d r.0 r.1

plan_keeps_all : (r : Result DraftFields Fault) → OfOk IsRead r → OfOk IsPlan (r >>= (λ d. Ok d.plan))
plan_keeps_all (Ok d) h = ended_is_plan d h.0 h.1
plan_keeps_all (Err e) h = tt

-- what a text is read as meets every condition of a plan
pub plan_of_is_plan : (bytes : List ℕ) (plan : PlanFields) → plan_of bytes ≡ Ok plan → IsPlan plan
unfolding plan_of
plan_of_is_plan bytes plan e =
    subst (OfOk IsPlan) e
    (plan_keeps_all (text_onto words_onto (λ draft. has_ended draft.stage) most_bytes start bytes) (text_is_read bytes))

pub ruleset plan_rules = (plan_of_is_plan)

pub ruleset reading_rules = (read_ended, read_is_plan, plan_of_is_plan)
