-- The lines of a plan are read as that plan.
use Rattle.std.proofs.Common.{◌≡◌, ◌≢◌, ℕ, ◌+◌, ◌-◌, ◌^◌, ◌<◌, ◌≤◌, Bool, true, false, cond, not, ◌&&◌, eqb, ltb, leb}
use Rattle.std.proofs.Common.{List, [], ◌∷◌, ◌++◌, length, map, take, drop, get_or, is_some, Ok, refl, sym, ap, subst}
use Rattle.std.proofs.Common.{◌∙◌, arith, codes, decimal, bytes_eq, append_assoc}
use Rattle.std.specs.Prelude.{AllPairs}
use Rattle.std.specs.List.{list_any, list_all}
use Rattle.std.proofs.lemmas.Bool.Decides.{nat_tests}
use Rattle.std.proofs.lemmas.List.{append-nil, length-append, map-append, take-append-drop, get_or_append_left}
use Rattle.std.proofs.Math.Seq.{get_or-append_seam}
use Rattle.rail_text.specs.Names.{are_new}
use Rattle.rail_text.specs.Words.{is_name}
use Rattle.rail_text.specs.Forms.{is_word, is_word_byte}
use Rattle.rail_text.proofs.PrintedLines.{both}
use Rattle.rail_text.proofs.PrintedWords.{list_all-weaker, number_in-decimal}
use Rattle.bell_codes.specs.Codes.{is_code, code_text, is_code_byte}
use Rattle.bell_codes.specs.Table.{code_number, opening_codes}
use Rattle.bell_codes.proofs.Texts.{read_text, text_bytes, text_some, text_few}
use Rattle.bell_codes.proofs.Numbers.{number_absent}
use Rattle.line_plan.specs.Limits.{most_boxes, most_delay, most_looks}
use Rattle.line_plan.specs.declared.plan.Class.{Class}
use Rattle.plan_draft.specs.declared.draft.Stage.{Stage}
use Rattle.plan_draft.specs.declared.draft.Stage.TheVariants as stages
use Rattle.line_plan.specs.Plans.{PlanFields, IsPlan, no_box, names_of_classes, opening_names, class_code, have_codes}
use Rattle.plan_draft.specs.Drafts.{DraftFields, rank, in_box, opening_classes, start}
use Rattle.plan_draft.specs.Reading.{line_kind, may_follow, kind_onto, words_onto, plan_onto, boxes_onto, delay_onto}
use Rattle.plan_draft.specs.Reading.{looks_onto, with_class, class_onto}
use Rattle.plan_text.specs.Printing.{class_line, train_line, head_lines}
use Rattle.plan_text.specs.Spelled.{FirstWays, boxes_lines_by, plan_lines_by}
use Rattle.plan_text.proofs.LineReads.{IsLine, AreRead, read_line, read_same}
use Rattle.plan_text.proofs.Middle.{test_at, new_at, shorter}
use Rattle.plan_text.proofs.WordReads.{fits, fitting_line, number_fits, name_fits, new_reads}
use Rattle.plan_text.proofs.BoxesRead.{whole, Stands, Goes, kind_read, boxes_are_read, trains_are_read, end_is_read}
use Rattle.plan_text.proofs.BoxesRead.{goes_later}

-- ---- the first four lines

-- a draft that has these first four lines at most, with the opening codes and classes, no box and no train
abbrev pub headed : Stage → ℕ → ℕ → ℕ → ℕ → DraftFields
headed stage count version delay looks =
    record {
      stage = stage;
      count = count;
      plan =
          record {
            version = version;
            delay = delay;
            looks = looks;
            codes = opening_codes;
            classes =
                opening_classes;
            boxes = [];
            trains = [];
          };
      here = no_box;
    }

few_boxes : (version : ℕ) → most_boxes version ≤ 64
few_boxes version = go (eqb version 1) where
  go : (b : Bool) → cond b 32 64 ≤ 64
  go true = omega arith
  go false = omega arith

short_delay : (version : ℕ) → most_delay version ≤ 3600
short_delay version = go (eqb version 1) where
  go : (b : Bool) → cond b 60 3600 ≤ 3600
  go true = omega arith
  go false = omega arith

plan_read : (version : ℕ) → 1 ≤ version → version ≤ 2
    → words_onto start (codes "plan" ∷ decimal version ∷ []) ≡ Ok (headed stages.Plan 2 version 0 1)
unfolding words_onto line_kind may_follow kind_onto plan_onto
plan_read version low high = rw (number_in-decimal 1 2 version low high (omega (arith, high))) refl

boxes_read : (count version : ℕ) → 2 ≤ count → count ≤ most_boxes version
    → words_onto (headed stages.Plan 2 version 0 1) (codes "boxes" ∷ decimal count ∷ [])
    ≡ Ok (headed stages.Boxes count version 0 1)
unfolding words_onto line_kind may_follow kind_onto boxes_onto
boxes_read count version low high =
    rw (number_in-decimal 2 (most_boxes version) count low high (omega (arith, high, few_boxes version))) refl

delay_read : (count version delay : ℕ) → delay ≤ most_delay version
    → words_onto (headed stages.Boxes count version 0 1) (codes "delay" ∷ decimal delay ∷ [])
    ≡ Ok (headed stages.Delay count version delay 1)
unfolding words_onto line_kind may_follow kind_onto delay_onto
delay_read count version delay high =
    rw (number_in-decimal 0 (most_delay version) delay (omega arith) high (omega (arith, high, short_delay version)))
    refl

looks_read : (count version delay looks : ℕ) → 1 ≤ looks → looks ≤ most_looks
    → words_onto (headed stages.Delay count version delay 1) (codes "looks" ∷ decimal looks ∷ [])
    ≡ Ok (headed stages.Looks count version delay looks)
unfolding words_onto line_kind may_follow kind_onto looks_onto
looks_read count version delay looks low high =
    rw (number_in-decimal 1 most_looks looks low high (omega (arith, high))) refl

number_line : (word : List ℕ) (n : ℕ) → fits 16 word ≡ true → Rattle.rail_text.specs.Forms.is_skipped word ≡ false
    → n < 10 ^ 10 → IsLine (word ∷ decimal n ∷ [])
number_line word n w s small =
    fitting_line 16 (word ∷ decimal n ∷ []) (rw (w, number_fits 16 n (omega arith) small) refl) (omega arith) s

pub head_is_read : (plan : PlanFields) (more : List (List (List ℕ))) (last : DraftFields) → IsPlan plan
    → AreRead (headed stages.Looks (length plan.boxes) plan.version plan.delay plan.looks) more last
    → AreRead start (head_lines plan ++ more) last
head_is_read plan more last is go =
    let delay = codes "delay" ∷ decimal plan.delay ∷ [] in
    let looks = codes "looks" ∷ decimal plan.looks ∷ [] in
    let count = codes "boxes" ∷ decimal (length plan.boxes) ∷ [] in
    read_line start (headed stages.Plan 2 plan.version 0 1) last (codes "plan" ∷ decimal plan.version ∷ [])
    (count ∷ delay ∷ looks ∷ more)
    (number_line (codes "plan") plan.version refl refl (omega (arith, is.version_high)))
    (plan_read plan.version is.version_low is.version_high)
    (read_line (headed stages.Plan 2 plan.version 0 1) (headed stages.Boxes (length plan.boxes) plan.version 0 1) last
    count (delay ∷ looks ∷ more)
    (number_line (codes "boxes") (length plan.boxes) refl refl (omega (arith, is.most, few_boxes plan.version)))
    (boxes_read (length plan.boxes) plan.version is.fewest is.most)
    (read_line (headed stages.Boxes (length plan.boxes) plan.version 0 1)
    (headed stages.Delay (length plan.boxes) plan.version plan.delay 1) last delay (looks ∷ more)
    (number_line (codes "delay") plan.delay refl refl (omega (arith, is.delay, short_delay plan.version)))
    (delay_read (length plan.boxes) plan.version plan.delay is.delay)
    (read_line (headed stages.Delay (length plan.boxes) plan.version plan.delay 1)
    (headed stages.Looks (length plan.boxes) plan.version plan.delay plan.looks) last looks more
    (number_line (codes "looks") plan.looks refl refl (omega (arith, is.looks_high)))
    (looks_read (length plan.boxes) plan.version plan.delay plan.looks is.looks_low is.looks_high) go)))

-- ---- classes

abbrev class_of : List ℕ → ℕ → Class
class_of name code = record { name = name; code = code }

-- the draft with these codes and classes
abbrev classed : PlanFields → Stage → List (List ℕ) → List Class → DraftFields
classed plan stage table classes =
    record {
      stage = stage;
      count = length plan.boxes;
      plan =
          record {
            version = plan.version;
            delay = plan.delay;
            looks = plan.looks;
            codes = table;
            classes =
                classes;
            boxes = [];
            trains = [];
          };
      here = no_box;
    }

equal_is : (a b : ℕ) → eqb a b ≡ true → a ≡ b
equal_is a b h = grind (arith, nat_tests)

have_at : (i : ℕ) (front rest : List Class) (c : Class) → have_codes i (front ++ c ∷ rest) ≡ true
    → c.code ≡ class_code (i + length front)
have_at i [] rest c h = let b =
    both (eqb c.code (class_code i)) (have_codes (i + 1) rest) h in
    equal_is c.code (class_code i) b.0 ∙ ap class_code (omega arith)
have_at i (x ∷ front) rest c h =
    have_at (i + 1) front rest c (both (eqb x.code (class_code i)) (have_codes (i + 1) (front ++ c ∷ rest)) h).1
    ∙ ap class_code (omega arith)

later_code : (n : ℕ) → 4 ≤ n → class_code n ≡ n + 7
later_code n h = let more : ltb n 4 ≡ false = grind (arith, nat_tests) in rw more refl

-- a code is none of those before it
absent : (front rest : List (List ℕ)) (code : List ℕ) → AllPairs (λ one other. one ≢ other) (front ++ code ∷ rest)
    → is_some (code_number front code) ≡ false
absent front rest code differ =
    (number_absent front code (code_number front code) refl).1 (λ has.
    differ has.0 (length front) code has.1 (shorter front rest code)
    (get_or_append_left front (code ∷ rest) code has.0 has.1 ∙ has.2
    ∙ sym (get_or-append_seam front code rest code)))

code_byte_is : (b : ℕ) → is_code_byte b ≡ true → is_word_byte b ≡ true
code_byte_is b h = grind (arith, nat_tests)

some_text : (text : List ℕ) → 1 ≤ length text → not (Rattle.rail_text.specs.Lines.is_empty_word text) ≡ true
some_text [] h = absurd (omega (arith, h))
some_text (b ∷ text) h = refl

code_fits : (code : List ℕ) → is_code code ≡ true → fits 16 (code_text code) ≡ true
code_fits code good =
    let short : leb (length (code_text code)) 16 ≡ true = few (length (code_text code)) (text_few code good) in
    rw (
      some_text (code_text code) (text_some code good),
      list_all-weaker is_code_byte is_word_byte code_byte_is (code_text code) (text_bytes code good),
      short,
    ) refl
  where
    few : (n : ℕ) → n ≤ 14 → leb n 16 ≡ true
    few n h = grind (arith, nat_tests)

class_onto_reads : (plan : PlanFields) (stage : Stage) (table : List (List ℕ)) (classes : List Class)
    (name code : List ℕ) → is_name name ≡ true → list_any (bytes_eq name) (names_of_classes classes) ≡ false
    → is_code code ≡ true → is_some (code_number table code) ≡ false → length table < 200
    → class_onto (classed plan stage table classes) (codes "class" ∷ name ∷ code_text code ∷ [])
    ≡ Ok (classed plan stages.Class (table ++ code ∷ []) (classes ++ class_of name (length table + 1) ∷ []))
unfolding class_onto with_class
class_onto_reads plan stage table classes name code good new is free few =
    let fewer : leb 200 (length table) ≡ false = grind (arith, nat_tests) in
    rw (new_reads (names_of_classes classes) name good new, read_text code is, free, fewer) refl

-- one class with its code
pub record IsNextClass (plan : PlanFields) (table : List (List ℕ)) (classes : List Class) (c : Class)
    (code : List ℕ) : Type 0 where
  pub words : class_line plan.codes c ≡ codes "class" ∷ c.name ∷ code_text code ∷ []
  good : is_name c.name ≡ true
  new : list_any (bytes_eq c.name) (names_of_classes classes) ≡ false
  is : is_code code ≡ true
  free : is_some (code_number table code) ≡ false
  few : length table < 200
  own : class_of c.name (length table + 1) ≡ c

-- a class of a plan behind its first four may be read next, with its code, where all before it are read
pub next_class : (plan : PlanFields) (table others : List (List ℕ)) (classes rest : List Class) (c : Class)
    (code : List ℕ) → IsPlan plan → plan.codes ≡ table ++ code ∷ others → plan.classes ≡ classes ++ c ∷ rest
    → length table ≡ length classes + 6 → 4 ≤ length classes → IsNextClass plan table classes c code
next_class plan table others classes rest c code is e f n four =
    let names : names_of_classes plan.classes ≡ names_of_classes classes ++ c.name ∷ names_of_classes rest =
    ap names_of_classes f ∙ map-append (λ (x : Class). x.name) classes (c ∷ rest) in
    let number : c.code ≡ length table + 1 =
    have_at 0 classes rest c (ap (have_codes 0) (sym f) ∙ is.classes.each)
    ∙ later_code (0 + length classes) (omega (arith, four)) ∙ omega (arith, n) in
    let found : get_or plan.codes (c.code - 1) [] ≡ code =
    ap (λ (k : ℕ). get_or plan.codes k []) (omega (arith, number))
    ∙ ap (λ (t : List (List ℕ)). get_or t (length table) []) e ∙ get_or-append_seam table code others [] in
    record {
      words = ap (λ (text : List ℕ). codes "class" ∷ c.name ∷ code_text text ∷ []) found;
      good = test_at is_name (names_of_classes classes) (names_of_classes rest) c.name
          (ap (list_all is_name) (sym names) ∙ is.classes.named);
      new = new_at (names_of_classes classes) (names_of_classes rest) c.name
          (ap (are_new []) (sym names) ∙ is.classes.distinct);
      is = test_at is_code table others code (ap (list_all is_code) (sym e) ∙ is.classes.table.valid);
      free = absent table others code (subst (AllPairs (λ one other. one ≢ other)) e is.classes.table.distinct);
      few = omega (arith, shorter table others code, ap length e, is.classes.table.most);
      own = ap (class_of c.name) (sym number);
    }

is_between : (low high n : ℕ) → low ≤ n → n ≤ high → leb low n && leb n high ≡ true
is_between low high n a b = grind (arith, nat_tests)

class_read : (plan : PlanFields) (stage : Stage) (table : List (List ℕ)) (classes : List Class) (c : Class)
    (code : List ℕ) → 4 ≤ rank stage → rank stage ≤ 5 → IsNextClass plan table classes c code
    → words_onto (classed plan stage table classes) (class_line plan.codes c)
    ≡ Ok (classed plan stages.Class (table ++ code ∷ []) (classes ++ c ∷ []))
unfolding line_kind may_follow kind_onto
class_read plan stage table classes c code low high next =
    kind_read (classed plan stage table classes) stages.Class (class_line plan.codes c) refl (omega (arith, high))
    (is_between 4 5 (rank stage) low high)
    ∙ ap (class_onto (classed plan stage table classes)) next.words
    ∙ class_onto_reads plan stage table classes c.name code next.good next.new next.is next.free next.few
    ∙ ap (λ (x : Class). Ok (classed plan stages.Class (table ++ code ∷ []) (classes ++ x ∷ []))) next.own

class_is_line : (plan : PlanFields) (table : List (List ℕ)) (classes : List Class) (c : Class) (code : List ℕ)
    → IsNextClass plan table classes c code → IsLine (class_line plan.codes c)
class_is_line plan table classes c code next =
    subst IsLine (sym next.words)
    (fitting_line 16 (codes "class" ∷ c.name ∷ code_text code ∷ [])
    (rw (name_fits c.name next.good, code_fits code next.is) refl) (omega arith) refl)

-- the draft where all classes stand
stands_there : (plan : PlanFields) (stage : Stage) → 4 ≤ rank stage → rank stage ≤ 5
    → Stands plan [] [] 15 (classed plan stage plan.codes plan.classes)
stands_there plan stage low high =
    let outside : in_box stage ≡ false = out (rank stage) high in
    record {
      count = refl;
      low = low;
      most = omega (arith, high);
      all =
          ap (λ (t : Bool). cond t (no_box ∷ []) []) outside;
      same = refl;
    } where
      out : (n : ℕ) → n ≤ 5 → leb 6 n && leb n 15 ≡ false
      out n h = grind (arith, nat_tests)

classes_are_read : (plan : PlanFields) (more : List (List (List ℕ))) → IsPlan plan → Goes plan [] [] 15 more
    → (table others : List (List ℕ)) (classes rest : List Class) (stage : Stage)
    → plan.codes ≡ table ++ others → plan.classes ≡ classes ++ rest → length table ≡ length classes + 6
    → 4 ≤ length classes → length others ≡ length rest → 4 ≤ rank stage → rank stage ≤ 5
    → AreRead (classed plan stage table classes) (map (class_line plan.codes) rest ++ more) (whole plan)
classes_are_read plan more is go table [] classes [] stage e f n four m low high =
    let t : plan.codes ≡ table = e ∙ append-nil table in
    let c : plan.classes ≡ classes = f ∙ append-nil classes in
    rw (sym t, sym c) (go (classed plan stage plan.codes plan.classes) (stands_there plan stage low high))
classes_are_read plan more is go table (code ∷ others) classes [] stage e f n four m low high =
    absurd (omega (arith, m))
classes_are_read plan more is go table [] classes (c ∷ rest) stage e f n four m low high = absurd (omega (arith, m))
classes_are_read plan more is go table (code ∷ others) classes (c ∷ rest) stage e f n four m low high =
    let next = next_class plan table others classes rest c code is e f n four in
    read_line (classed plan stage table classes) (classed plan stages.Class (table ++ code ∷ []) (classes ++ c ∷ []))
    (whole plan) (class_line plan.codes c) (map (class_line plan.codes) rest ++ more)
    (class_is_line plan table classes c code next) (class_read plan stage table classes c code low high next)
    (classes_are_read plan more is go (table ++ code ∷ []) others (classes ++ c ∷ []) rest stages.Class
    (e ∙ sym (append_assoc table (code ∷ []) others)) (f ∙ sym (append_assoc classes (c ∷ []) rest))
    (omega (arith, n, length-append table (code ∷ []), length-append classes (c ∷ [])))
    (omega (arith, four, length-append classes (c ∷ []))) (omega (arith, m)) (omega arith) (omega arith))

-- ---- the opening classes

-- there are ten opening codes
pub ten : length opening_codes ≡ 10
unfolding opening_codes
ten = refl

class_same : (c : Class) (name : List ℕ) (code : ℕ) → c.name ≡ name → c.code ≡ code → c ≡ class_of name code
class_same c name code e f = ap (λ (n : List ℕ). class_of n c.code) e ∙ ap (class_of name) f

first_is : (x y : List ℕ) (xs ys : List (List ℕ)) → x ∷ xs ≡ y ∷ ys → (x ≡ y) × (xs ≡ ys)
first_is x y xs ys e = (cc, cc)

opening_are : (classes : List Class) → 4 ≤ length classes → take 4 (names_of_classes classes) ≡ opening_names
    → have_codes 0 classes ≡ true → classes ≡ opening_classes ++ drop 4 classes
opening_are [] few e h = absurd (omega (arith, few))
opening_are (a ∷ []) few e h = absurd (omega (arith, few))
opening_are (a ∷ b ∷ []) few e h = absurd (omega (arith, few))
opening_are (a ∷ b ∷ c ∷ []) few e h = absurd (omega (arith, few))
opening_are (a ∷ b ∷ c ∷ d ∷ rest) few e h =
    let na = first_is a.name (codes "express") (b.name ∷ c.name ∷ d.name ∷ [])
    (codes "ordinary" ∷ codes "empty" ∷ codes "light" ∷ []) e in
    let nb = first_is b.name (codes "ordinary") (c.name ∷ d.name ∷ []) (codes "empty" ∷ codes "light" ∷ []) na.1 in
    let nc = first_is c.name (codes "empty") (d.name ∷ []) (codes "light" ∷ []) nb.1 in
    let nd = first_is d.name (codes "light") [] [] nc.1 in
    let ea = class_same a (codes "express") 2 na.0 (have_at 0 [] (b ∷ c ∷ d ∷ rest) a h) in
    let eb = class_same b (codes "ordinary") 3 nb.0 (have_at 0 (a ∷ []) (c ∷ d ∷ rest) b h) in
    let ec = class_same c (codes "empty") 4 nc.0 (have_at 0 (a ∷ b ∷ []) (d ∷ rest) c h) in
    let ed = class_same d (codes "light") 5 nd.0 (have_at 0 (a ∷ b ∷ c ∷ []) rest d h) in
    four_same a b c d (class_of (codes "express") 2) (class_of (codes "ordinary") 3) (class_of (codes "empty") 4)
    (class_of (codes "light") 5) rest ea eb ec ed where
      four_same : (a b c d p q r s : Class) (rest : List Class) → a ≡ p → b ≡ q → c ≡ r → d ≡ s
          → a ∷ b ∷ c ∷ d ∷ rest ≡ p ∷ q ∷ r ∷ s ∷ rest
      four_same a b c d p q r s rest ea eb ec ed = rw (ea, eb, ec, ed) refl

-- ---- the whole

-- five parts in a row may be grouped from the right
pub regrouped : {W : Type 0} (h c b t e : List W) → h ++ c ++ b ++ t ++ e ≡ h ++ (c ++ (b ++ (t ++ e)))
regrouped h c b t e = simp append_assoc

-- the lines of a plan are read as that plan
pub plan_is_read : (plan : PlanFields) (firsts : List FirstWays) → IsPlan plan
    → AreRead start (plan_lines_by firsts plan) (whole plan)
unfolding plan_lines_by
plan_is_read plan firsts is =
    let end : List (List (List ℕ)) = (codes "end" ∷ []) ∷ [] in
    let trains = map (train_line plan) plan.trains in
    let boxes = boxes_lines_by firsts plan.boxes in
    let classes = map (class_line plan.codes) (drop 4 plan.classes) in
    let table : plan.codes ≡ opening_codes ++ drop 10 plan.codes =
    sym (take-append-drop 10 plan.codes) ∙ ap (λ (t : List (List ℕ)). t ++ drop 10 plan.codes) is.classes.opening in
    let opening : plan.classes ≡ opening_classes ++ drop 4 plan.classes =
    opening_are plan.classes is.classes.some is.classes.first is.classes.each in
    let many : length (drop 10 plan.codes) ≡ length (drop 4 plan.classes) =
    omega (
      arith,
      is.classes.count,
      ap length table,
      length-append opening_codes (drop 10 plan.codes),
      ten,
      ap length opening,
      length-append opening_classes (drop 4 plan.classes),
    ) in
    let ends : Goes plan [] [] 15 (boxes ++ (trains ++ end)) =
    boxes_are_read plan (trains ++ end) is
    (goes_later plan (trains ++ end) (trains_are_read plan end is (end_is_read plan) [] plan.trains refl)) firsts []
    plan.boxes refl in
    read_same start (whole plan) _ _ (regrouped (head_lines plan) classes boxes trains end)
    (head_is_read plan (classes ++ (boxes ++ (trains ++ end))) (whole plan) is
    (classes_are_read plan (boxes ++ (trains ++ end)) is ends opening_codes (drop 10 plan.codes) opening_classes
    (drop 4 plan.classes) stages.Looks table opening ten (omega arith) many (omega arith) (omega arith)))

pub ruleset plan_rules = (plan_is_read)
