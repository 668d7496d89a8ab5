-- A draft with a line more, and the lines that made it.
use Rattle.std.proofs.Common.{◌≡◌, ℕ, ◌+◌, ◌≤◌, Bool, true, false, cond, ◌&&◌, eqb, leb, List, [], ◌∷◌, ◌++◌, length}
use Rattle.std.proofs.Common.{map, is_some, Result, Ok, Err, refl, sym, ap, ◌∙◌, arith, codes, bytes_eq, append_assoc}
use Rattle.std.specs.List.{list_any}
use Rattle.std.proofs.lemmas.Bool.Decides.{nat_tests}
use Rattle.std.proofs.lemmas.List.{append-nil, length-append, map-append}
use Rattle.rail_text.specs.Words.{is_name, keyword}
use Rattle.rail_text.specs.declared.cause.Cause.{Cause}
use Rattle.rail_text.proofs.Binds.{OfOk, bind_keeps, if_keeps}
use Rattle.bell_codes.specs.Codes.{code_text}
use Rattle.bell_codes.specs.Table.{code_number, opening_codes}
use Rattle.line_plan.specs.Frames.{BoxFields, berth_places}
use Rattle.line_plan.specs.declared.plan.Class.{Class}
use Rattle.line_plan.specs.declared.plan.TrainPlan.{TrainPlan}
use Rattle.plan_draft.specs.declared.draft.Stage.TheVariants as stages
use Rattle.line_plan.specs.Plans.{PlanFields, no_box, box_at, names_of, names_of_classes, names_of_trains}
use Rattle.plan_draft.specs.Drafts.{DraftFields, rank, in_box, all_boxes, opening_classes}
use Rattle.plan_draft.specs.LineWords.{counted, word, new_name, number_in_names, code_in}
use Rattle.plan_draft.specs.Reading.{with_class, class_onto, is_full, box_onto, brought_in, closed, with_train}
use Rattle.plan_draft.specs.Reading.{train_in, train_onto, end_onto}
use Rattle.plan_text.specs.Printing.{name_word, train_line}
use Rattle.plan_text.specs.Spelled.{FirstWays, up_first, boxes_lines_by}
use Rattle.plan_text.proofs.Built.{new_name_is}
use Rattle.plan_text.proofs.WordIs.{name_word_is, code_is, exactly, five_words}
use Rattle.plan_text.proofs.BoxGrown.{BoxGrown, two_same, three_same}
use Rattle.plan_text.proofs.PlanGrown.{class_lines, heads, end_lines, Body, BodyBy, whole_more, not_seventeen}
use Rattle.plan_text.proofs.PlanGrown.{out_below, class_lines-more, boxes_lines-more}

-- ---- where a line comes to stand

more_classes : {W : Type 0} (w : W) (h c c' b o t t' e e' : List W) → c' ≡ c ++ w ∷ [] → b ≡ [] → o ≡ [] → t ≡ []
    → t' ≡ [] → e ≡ [] → e' ≡ []
    → (h ++ (c ++ (b ++ (o ++ (t ++ e))))) ++ w ∷ [] ≡ h ++ (c' ++ (b ++ (o ++ (t' ++ e'))))
more_classes {W} w h c c' b o t t' e e' ec eb eo et et' ee ee' =
    let none : b ++ (o ++ (t' ++ e')) ≡ [] = rw (eb, eo, et', ee') refl in
    let one : b ++ (o ++ (t ++ (e ++ w ∷ []))) ≡ w ∷ [] = rw (eb, eo, et, ee) refl in
    whole_more w h c b o t e ∙ ap (λ (z : List W). h ++ (c ++ z)) one ∙ ap (λ (z : List W). h ++ z) (sym ec)
    ∙ ap (λ (z : List W). h ++ z) (sym (append-nil c')) ∙ ap (λ (z : List W). h ++ (c' ++ z)) (sym none)

more_boxes : {W : Type 0} (w : W) (h c b b' o t t' e e' : List W) → b' ≡ b ++ o → t ≡ [] → t' ≡ [] → e ≡ [] → e' ≡ []
    → (h ++ (c ++ (b ++ (o ++ (t ++ e))))) ++ w ∷ [] ≡ h ++ (c ++ (b' ++ ((w ∷ []) ++ (t' ++ e'))))
more_boxes {W} w h c b b' o t t' e e' eb et et' ee ee' =
    let none : t' ++ e' ≡ [] = rw (et', ee') refl in
    let one : t ++ (e ++ w ∷ []) ≡ w ∷ [] = rw (et, ee) refl in
    whole_more w h c b o t e ∙ ap (λ (z : List W). h ++ (c ++ (b ++ (o ++ z)))) one
    ∙ ap (λ (z : List W). h ++ (c ++ z)) (sym (append_assoc b o (w ∷ [])))
    ∙ ap (λ (z : List W). h ++ (c ++ (z ++ w ∷ []))) (sym eb)
    ∙ ap (λ (z : List W). h ++ (c ++ (b' ++ w ∷ z))) (sym none)

more_trains : {W : Type 0} (w : W) (h c b b' o t t' e e' : List W) → b' ≡ b ++ o → t' ≡ t ++ w ∷ [] → e ≡ [] → e' ≡ []
    → (h ++ (c ++ (b ++ (o ++ (t ++ e))))) ++ w ∷ [] ≡ h ++ (c ++ (b' ++ ([] ++ (t' ++ e'))))
more_trains {W} w h c b b' o t t' e e' eb et ee ee' =
    let one : e ++ w ∷ [] ≡ w ∷ [] = rw ee refl in
    whole_more w h c b o t e ∙ ap (λ (z : List W). h ++ (c ++ (b ++ (o ++ (t ++ z))))) one
    ∙ ap (λ (z : List W). h ++ (c ++ (b ++ (o ++ z)))) (sym et)
    ∙ ap (λ (z : List W). h ++ (c ++ z)) (sym (append_assoc b o t'))
    ∙ ap (λ (z : List W). h ++ (c ++ (z ++ t'))) (sym eb)
    ∙ ap (λ (z : List W). h ++ (c ++ (b' ++ z))) (sym (append-nil t'))
    ∙ ap (λ (z : List W). h ++ (c ++ (b' ++ (t' ++ z)))) (sym ee')

more_end : {W : Type 0} (w : W) (h c b b' o t t' e : List W) → b' ≡ b ++ o → t' ≡ t → e ≡ []
    → (h ++ (c ++ (b ++ (o ++ (t ++ e))))) ++ w ∷ [] ≡ h ++ (c ++ (b' ++ ([] ++ (t' ++ w ∷ []))))
more_end {W} w h c b b' o t t' e eb et ee =
    let one : e ++ w ∷ [] ≡ w ∷ [] = rw ee refl in
    whole_more w h c b o t e ∙ ap (λ (z : List W). h ++ (c ++ (b ++ (o ++ (t ++ z))))) one
    ∙ ap (λ (z : List W). h ++ (c ++ z)) (sym (append_assoc b o (t ++ w ∷ [])))
    ∙ ap (λ (z : List W). h ++ (c ++ (z ++ (t ++ w ∷ [])))) (sym eb)
    ∙ ap (λ (z : List W). h ++ (c ++ (b' ++ (z ++ w ∷ [])))) (sym et)

-- ---- classes

name_is : (names : List (List ℕ)) (text : List ℕ) → OfOk (λ name. text ≡ name) (new_name names text)
name_is names text = weak (new_name names text) (new_name_is names text) where
  weak : (r : Result (List ℕ) Cause)
      → OfOk (λ name. (text ≡ name) × (is_name name ≡ true) × (list_any (bytes_eq name) names ≡ false)) r
      → OfOk (λ name. text ≡ name) r
  weak (Ok name) h = h.0
  weak (Err e) h = tt

-- where a line `class` is taken, the lines of the draft that it makes are those before and this one
pub class_grows : (d : DraftFields) (texts : List (List (List ℕ))) (words : List (List ℕ)) → rank d.stage ≤ 5
    → keyword words ≡ codes "class" → Body d texts → OfOk (BodyBy texts words) (class_onto d words)
unfolding class_onto with_class
class_grows d texts words few key h =
    bind_keeps (λ _. length words ≡ 3) (BodyBy texts words) (counted 3 3 words) _ (exactly 3 words) (λ _ n.
    bind_keeps (λ name. word 1 words ≡ name) (BodyBy texts words)
    (new_name (names_of_classes d.plan.classes) (word 1 words)) _
    (name_is (names_of_classes d.plan.classes) (word 1 words)) (λ name e.
    bind_keeps (λ code. word 2 words ≡ code_text code) (BodyBy texts words) (code_in (word 2 words)) _
    (code_is (word 2 words)) (λ code f.
    if_keeps (BodyBy texts words) (is_some (code_number d.plan.codes code)) _ _ (λ _. tt) (λ _.
    if_keeps (BodyBy texts words) (leb 200 (length d.plan.codes)) _ _ (λ _. tt) (λ _.
    let c : Class = record { name = name; code = length d.plan.codes + 1 } in
    let line = codes "class" ∷ name ∷ code_text code ∷ [] in
    let plan : PlanFields = record d.plan { codes = d.plan.codes ++ code ∷ []; classes = d.plan.classes ++ c ∷ [] } in
    let trains = h.untrained (omega (arith, few)) in
    let boxes = h.unboxed few in
    let here = h.no_open (out_below (rank d.stage) few) in
    record {
      low = omega arith;
      firsts = h.firsts;
      table = h.table ++ code ∷ [];
      classes = h.classes ++ c ∷ [];
      here = h.here;
      codes_are =
          ap (λ (t : List (List ℕ)). t ++ code ∷ []) h.codes_are ∙ append_assoc opening_codes h.table (code ∷ []);
      classes_are =
          ap (λ (t : List Class). t ++ c ∷ []) h.classes_are ∙ append_assoc opening_classes h.classes (c ∷ []);
      same = omega (arith, h.same, length-append h.table (code ∷ []), length-append h.classes (c ∷ []));
      long = h.long;
      unboxed = λ _. boxes;
      untrained = λ _. trains;
      room = omega (arith, ap length boxes);
      full = λ x. absurd (omega (arith, x));
      open_box = λ x. absurd cc;
      no_open = λ _. here;
      lines = ap (λ (ls : List (List (List ℕ))). ls ++ words ∷ []) h.lines
          ∙ ap (λ (w : List (List ℕ)).
          (heads d.plan.version d.count d.plan.delay d.plan.looks
          ++ (class_lines h.table h.classes
          ++ (boxes_lines_by h.firsts d.plan.boxes
          ++ (h.here ++ (map (train_line d.plan) d.plan.trains ++ end_lines (eqb (rank d.stage) 17)))))) ++ w ∷ [])
          (three_same words (codes "class") name (code_text code) n key e f)
          ∙ more_classes line (heads d.plan.version d.count d.plan.delay d.plan.looks) (class_lines h.table h.classes)
          (class_lines (h.table ++ code ∷ []) (h.classes ++ c ∷ [])) (boxes_lines_by h.firsts d.plan.boxes) h.here
          (map (train_line d.plan) d.plan.trains) (map (train_line plan) d.plan.trains)
          (end_lines (eqb (rank d.stage) 17)) [] (class_lines-more h.table h.classes code c h.same)
          (ap (boxes_lines_by h.firsts) boxes) here (ap (map (train_line d.plan)) trains)
          (ap (map (train_line plan)) trains) (ap end_lines (not_seventeen (rank d.stage) (omega (arith, few))))
          refl;
    })))))

-- ---- all boxes so far, the open one among them

record Closed (d : DraftFields) (firsts : List FirstWays) (here : List (List (List ℕ))) (p : Bool) : Type 0 where
  all : List FirstWays
  long : length all ≡ length (cond p (d.plan.boxes ++ d.here ∷ []) d.plan.boxes)
  lines : boxes_lines_by all (cond p (d.plan.boxes ++ d.here ∷ []) d.plan.boxes)
      ≡ boxes_lines_by firsts d.plan.boxes ++ here
  trains : map (train_line (record d.plan { boxes = cond p (d.plan.boxes ++ d.here ∷ []) d.plan.boxes })) d.plan.trains
      ≡ map (train_line d.plan) d.plan.trains

inside_high : (n : ℕ) → leb 6 n && leb n 15 ≡ true → n ≤ 15
inside_high n h = grind (arith, nat_tests)

close : (d : DraftFields) (texts : List (List (List ℕ))) (h : Body d texts) (p : Bool) → in_box d.stage ≡ p
    → Closed d h.firsts h.here p
close d texts h true e =
    let g = h.open_box e in
    let trains = h.untrained (inside_high (rank d.stage) e) in
    record {
      all = h.firsts ++ g.first ∷ [];
      long = omega (arith, h.long, length-append h.firsts (g.first ∷ []), length-append d.plan.boxes (d.here ∷ []));
      lines = boxes_lines-more h.firsts d.plan.boxes g.first d.here h.long
          ∙ ap (λ (ls : List (List (List ℕ))). boxes_lines_by h.firsts d.plan.boxes ++ ls) (sym g.lines);
      trains = ap (map (train_line (record d.plan { boxes = d.plan.boxes ++ d.here ∷ [] }))) trains
          ∙ sym (ap (map (train_line d.plan)) trains);
    }
close d texts h false e =
    record {
      all = h.firsts;
      long = h.long;
      lines = sym (append-nil (boxes_lines_by h.firsts d.plan.boxes))
          ∙ ap (λ (ls : List (List (List ℕ))). boxes_lines_by h.firsts d.plan.boxes ++ ls) (sym (h.no_open e));
      trains = refl;
    }

-- ---- boxes

not_all : (n m : ℕ) → leb n m ≡ false → m + 1 ≤ n
not_all n m h = grind (arith, nat_tests)

are_all : (n m : ℕ) → leb n m ≡ true → n ≤ m
are_all n m h = grind (arith, nat_tests)

new_box : (name : List ℕ) (words : List (List ℕ)) → words ≡ codes "box" ∷ name ∷ []
    → BoxGrown 6 (record no_box { name = name }) (words ∷ [])
new_box name words text = record {
  first = up_first;
  lines = ap (λ (w : List (List ℕ)). w ∷ []) text;
  levers = λ _. refl;
  signals = λ _. refl;
  up = λ _. refl;
  down = λ _. refl;
  clear_up = λ _. refl;
  clear_down = λ _. refl;
  most_up = λ _. refl;
  most_down = λ _. refl;
  tracks = λ _. refl;
  rows = λ _. refl;
}

-- where a line `box` is taken, the lines of the draft that it makes are those before and this one
pub box_grows : (d : DraftFields) (texts : List (List (List ℕ))) (words : List (List ℕ)) → rank d.stage ≤ 15
    → keyword words ≡ codes "box" → Body d texts → OfOk (BodyBy texts words) (box_onto d words)
unfolding box_onto
box_grows d texts words few key h =
    bind_keeps (λ _. length words ≡ 2) (BodyBy texts words) (counted 2 2 words) _ (exactly 2 words) (λ _ n.
    bind_keeps (λ name. (leb d.count (length (all_boxes d)) ≡ false) × (word 1 words ≡ name)) (BodyBy texts words) _ _
    (if_keeps (λ name. (leb d.count (length (all_boxes d)) ≡ false) × (word 1 words ≡ name)) (is_full d) _ _ (λ _. tt)
    (λ z. also z (new_name (names_of (all_boxes d)) (word 1 words))
    (name_is (names_of (all_boxes d)) (word 1 words)))) (λ name e.
    let plan : PlanFields = record d.plan { boxes = all_boxes d } in
    let trains = h.untrained few in
    let c = close d texts h (in_box d.stage) refl in
    record {
      low = omega arith;
      firsts = c.all;
      table = h.table;
      classes = h.classes;
      here = words ∷ [];
      codes_are = h.codes_are;
      classes_are = h.classes_are;
      same = h.same;
      long = c.long;
      unboxed = λ x. absurd (omega (arith, x));
      untrained = λ _. trains;
      room = omega (
        arith,
        not_all d.count (length (all_boxes d)) e.0,
        length-append (all_boxes d) (record no_box { name = name } ∷ []),
      );
      full = λ x. absurd (omega (arith, x));
      open_box = λ _. new_box name words (two_same words (codes "box") name n key e.1);
      no_open = λ x. absurd cc;
      lines = ap (λ (ls : List (List (List ℕ))). ls ++ words ∷ []) h.lines
          ∙ more_boxes words (heads d.plan.version d.count d.plan.delay d.plan.looks) (class_lines h.table h.classes)
          (boxes_lines_by h.firsts d.plan.boxes) (boxes_lines_by c.all (all_boxes d)) h.here
          (map (train_line d.plan) d.plan.trains) (map (train_line plan) d.plan.trains)
          (end_lines (eqb (rank d.stage) 17)) [] c.lines
          (ap (map (train_line d.plan)) trains) (ap (map (train_line plan)) trains)
          (ap end_lines (not_seventeen (rank d.stage) (omega (arith, few)))) refl;
    })) where
      also : {P : Type 0} → P → (r : Result (List ℕ) Cause) → OfOk (λ name. word 1 words ≡ name) r
          → OfOk (λ name. P × (word 1 words ≡ name)) r
      also p (Ok x) q = (p, q)
      also p (Err c) q = tt

-- ---- trains

brought_is : (b : BoxFields) (text : List ℕ) → OfOk (λ p. text ≡ name_word b.places p) (brought_in b text)
unfolding brought_in
brought_is b text =
    bind_keeps (λ p. text ≡ name_word b.places p) (λ p. text ≡ name_word b.places p) (number_in_names b.places text) _
    (name_word_is b.places text) (λ p e.
    if_keeps (λ p. text ≡ name_word b.places p) (list_any (λ berth. eqb berth p) (berth_places b)) _ _ (λ _. tt)
    (λ _. e))

five_same : (words : List (List ℕ)) (a b c d f : List ℕ) → length words ≡ 5 → keyword words ≡ a → word 1 words ≡ b
    → word 2 words ≡ c → word 3 words ≡ d → word 4 words ≡ f → words ≡ a ∷ b ∷ c ∷ d ∷ f ∷ []
five_same words a b c d f n e1 e2 e3 e4 e5 =
    five_words words n ∙ ap (λ (x : List ℕ). x ∷ word 1 words ∷ word 2 words ∷ word 3 words ∷ word 4 words ∷ []) e1
    ∙ ap (λ (x : List ℕ). a ∷ x ∷ word 2 words ∷ word 3 words ∷ word 4 words ∷ []) e2
    ∙ ap (λ (x : List ℕ). a ∷ b ∷ x ∷ word 3 words ∷ word 4 words ∷ []) e3
    ∙ ap (λ (x : List ℕ). a ∷ b ∷ c ∷ x ∷ word 4 words ∷ []) e4 ∙ ap (λ (x : List ℕ). a ∷ b ∷ c ∷ d ∷ x ∷ []) e5

train_more : (d : DraftFields) (texts : List (List (List ℕ))) (words : List (List ℕ)) (t : TrainPlan)
    → rank d.stage ≤ 16 → Body d texts → words ≡ train_line (record d.plan { boxes = all_boxes d }) t
    → Body (record {
      stage = stages.Train;
      count = d.count;
      plan =
          record d.plan { boxes = all_boxes d; trains = d.plan.trains ++ t ∷ [] };
      here = no_box;
    }) (texts ++ words ∷ [])
train_more d texts words t few h text =
    let c = close d texts h (in_box d.stage) refl in
    let plan : PlanFields = record d.plan { boxes = all_boxes d } in
    record {
      low = omega arith;
      firsts = c.all;
      table = h.table;
      classes = h.classes;
      here = [];
      codes_are = h.codes_are;
      classes_are = h.classes_are;
      same = h.same;
      long = c.long;
      unboxed = λ x. absurd (omega (arith, x));
      untrained = λ x. absurd (omega (arith, x));
      room = h.room;
      full = λ x. absurd (omega (arith, x));
      open_box = λ x. absurd cc;
      no_open = λ _. refl;
      lines = ap (λ (ls : List (List (List ℕ))). ls ++ words ∷ []) h.lines
          ∙ more_trains words (heads d.plan.version d.count d.plan.delay d.plan.looks) (class_lines h.table h.classes)
          (boxes_lines_by h.firsts d.plan.boxes) (boxes_lines_by c.all (all_boxes d)) h.here
          (map (train_line d.plan) d.plan.trains) (map (train_line plan) (d.plan.trains ++ t ∷ []))
          (end_lines (eqb (rank d.stage) 17)) [] c.lines
          (map-append (train_line plan) d.plan.trains (t ∷ [])
          ∙ ap (λ (ls : List (List (List ℕ))). ls ++ train_line plan t ∷ []) c.trains
          ∙ ap (λ (w : List (List ℕ)). map (train_line d.plan) d.plan.trains ++ w ∷ []) (sym text))
          (ap end_lines (not_seventeen (rank d.stage) few)) refl;
    }

-- where a line `train` is taken, the lines of the draft that it makes are those before and this one
pub train_grows : (d : DraftFields) (texts : List (List (List ℕ))) (words : List (List ℕ)) → rank d.stage ≤ 16
    → keyword words ≡ codes "train" → Body d texts → OfOk (BodyBy texts words) (train_onto d words)
unfolding train_onto train_in with_train
train_grows d texts words few key h =
    bind_keeps (λ _. length words ≡ 5) (BodyBy texts words) (counted 5 5 words) _ (exactly 5 words) (λ _ n.
    if_keeps (BodyBy texts words) (is_full d) _ _ (λ _.
    bind_keeps (λ name. word 1 words ≡ name) (BodyBy texts words)
    (new_name (names_of_trains d.plan.trains) (word 1 words)) _
    (name_is (names_of_trains d.plan.trains) (word 1 words)) (λ name e1.
    bind_keeps (λ k. word 2 words ≡ name_word (names_of_classes d.plan.classes) k) (BodyBy texts words)
    (number_in_names (names_of_classes d.plan.classes) (word 2 words)) _
    (name_word_is (names_of_classes d.plan.classes) (word 2 words)) (λ class_no e2.
    bind_keeps (λ k. word 3 words ≡ name_word (names_of (all_boxes d)) k) (BodyBy texts words)
    (number_in_names (names_of (all_boxes d)) (word 3 words)) _
    (name_word_is (names_of (all_boxes d)) (word 3 words)) (λ box_no e3.
    bind_keeps (λ p. word 4 words ≡ name_word (box_at (all_boxes d) box_no).places p) (BodyBy texts words)
    (brought_in (box_at (all_boxes d) box_no) (word 4 words)) _
    (brought_is (box_at (all_boxes d) box_no) (word 4 words)) (λ place e4.
    if_keeps (BodyBy texts words) (leb 5000 (length d.plan.trains)) _ _ (λ _. tt) (λ _.
    train_more d texts words (record { name = name; class_no = class_no; box_no = box_no; place = place }) few h
    (five_same words (codes "train") name (name_word (names_of_classes d.plan.classes) class_no)
    (name_word (names_of (all_boxes d)) box_no) (name_word (box_at (all_boxes d) box_no).places place) n key e1 e2
    e3 e4))))))) (λ _. tt))

-- ---- the end

one_word : (words : List (List ℕ)) → length words ≡ 1 → words ≡ keyword words ∷ []
one_word [] e = absurd (omega (arith, e))
one_word (a ∷ []) e = refl
one_word (a ∷ b ∷ words) e = absurd (omega (arith, e))

end_more : (d : DraftFields) (texts : List (List (List ℕ))) (words : List (List ℕ)) → rank d.stage ≤ 16 → Body d texts
    → words ≡ codes "end" ∷ [] → d.count ≤ length (all_boxes d) → Body (closed stages.Ended d) (texts ++ words ∷ [])
end_more d texts words few h text all =
    let c = close d texts h (in_box d.stage) refl in
    let plan : PlanFields = record d.plan { boxes = all_boxes d } in
    record {
      low = omega arith;
      firsts = c.all;
      table = h.table;
      classes = h.classes;
      here = [];
      codes_are = h.codes_are;
      classes_are = h.classes_are;
      same = h.same;
      long = c.long;
      unboxed = λ x. absurd (omega (arith, x));
      untrained = λ x. absurd (omega (arith, x));
      room = h.room;
      full = λ _. all;
      open_box = λ x. absurd cc;
      no_open = λ _. refl;
      lines = ap (λ (ls : List (List (List ℕ))). ls ++ words ∷ []) h.lines
          ∙ more_end words (heads d.plan.version d.count d.plan.delay d.plan.looks) (class_lines h.table h.classes)
          (boxes_lines_by h.firsts d.plan.boxes) (boxes_lines_by c.all (all_boxes d)) h.here
          (map (train_line d.plan) d.plan.trains) (map (train_line plan) d.plan.trains)
          (end_lines (eqb (rank d.stage) 17)) c.lines c.trains (ap end_lines (not_seventeen (rank d.stage) few))
          ∙ ap (λ (w : List (List ℕ)). heads d.plan.version d.count d.plan.delay d.plan.looks
          ++ (class_lines h.table h.classes
          ++ (boxes_lines_by c.all (all_boxes d) ++ (map (train_line plan) d.plan.trains ++ w ∷ [])))) text;
    }

-- where the line `end` is taken, the lines of the draft that it makes are those before and this one
pub end_grows : (d : DraftFields) (texts : List (List (List ℕ))) (words : List (List ℕ)) → rank d.stage ≤ 16
    → keyword words ≡ codes "end" → Body d texts → OfOk (BodyBy texts words) (end_onto d words)
unfolding end_onto
end_grows d texts words few key h =
    bind_keeps (λ _. length words ≡ 1) (BodyBy texts words) (counted 1 1 words) _ (exactly 1 words) (λ _ n.
    if_keeps (BodyBy texts words) (is_full d) _ _
    (λ z. end_more d texts words few h (one_word words n ∙ ap (λ (x : List ℕ). x ∷ []) key)
    (are_all d.count (length (all_boxes d)) z)) (λ _. tt))

pub ruleset step_rules = (class_grows, box_grows, train_grows, end_grows)
