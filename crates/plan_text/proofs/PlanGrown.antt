-- A draft and the lines that made it.
use Rattle.std.proofs.Common.{◌≡◌, ℕ, ◌≤◌, Bool, true, false, cond, ◌&&◌, eqb, leb, List, [], ◌∷◌, ◌++◌, length, map}
use Rattle.std.proofs.Common.{Result, Ok, Err, refl, sym, ap, ◌∙◌, arith, codes, decimal, append_assoc}
use Rattle.std.proofs.lemmas.Bool.Decides.{nat_tests}
use Rattle.std.proofs.lemmas.List.{append-nil, length-append}
use Rattle.rail_text.specs.Gives.{◌>>=◌}
use Rattle.rail_text.specs.declared.cause.Cause.{Cause}
use Rattle.rail_text.proofs.Binds.{OfOk}
use Rattle.bell_codes.specs.Codes.{code_text}
use Rattle.bell_codes.specs.Table.{opening_codes}
use Rattle.line_plan.specs.Frames.{BoxFields}
use Rattle.line_plan.specs.declared.plan.Class.{Class}
use Rattle.plan_draft.specs.declared.draft.Stage.{Stage}
use Rattle.plan_draft.specs.Drafts.{DraftFields, rank, in_box, all_boxes, opening_classes}
use Rattle.plan_text.specs.Printing.{train_line}
use Rattle.plan_text.specs.Spelled.{FirstWays, box_lines_by, boxes_lines_by}
use Rattle.plan_text.proofs.LineReads.{IsBoxKind, InBox}
use Rattle.plan_text.proofs.BoxGrown.{BoxGrown, BoxBy}

-- the lines of classes beyond the first four, with their codes
abbrev pub class_lines : List (List ℕ) → List Class → List (List (List ℕ))
class_lines [] classes = []
class_lines (code ∷ table) [] = []
class_lines (code ∷ table) (c ∷ classes) = (codes "class" ∷ c.name ∷ code_text code ∷ []) ∷ class_lines table classes

-- a class more with its code makes one line `class` more, the last
pub class_lines-more : (table : List (List ℕ)) (classes : List Class) (code : List ℕ) (c : Class)
    → length table ≡ length classes
    → class_lines (table ++ code ∷ []) (classes ++ c ∷ [])
    ≡ class_lines table classes ++ (codes "class" ∷ c.name ∷ code_text code ∷ []) ∷ []
class_lines-more [] [] code c e = refl
class_lines-more [] (d ∷ classes) code c e = absurd (omega (arith, e))
class_lines-more (x ∷ table) [] code c e = absurd (omega (arith, e))
class_lines-more (x ∷ table) (d ∷ classes) code c e =
    ap (λ (ls : List (List (List ℕ))). (codes "class" ∷ d.name ∷ code_text x ∷ []) ∷ ls)
    (class_lines-more table classes code c (omega (arith, e)))

-- a box more makes its lines more, behind those of the boxes before it
pub boxes_lines-more : (firsts : List FirstWays) (boxes : List BoxFields) (first : FirstWays) (b : BoxFields)
    → length firsts ≡ length boxes
    → boxes_lines_by (firsts ++ first ∷ []) (boxes ++ b ∷ []) ≡ boxes_lines_by firsts boxes ++ box_lines_by first b
boxes_lines-more [] [] first b e = append-nil (box_lines_by first b)
boxes_lines-more [] (x ∷ boxes) first b e = absurd (omega (arith, e))
boxes_lines-more (f ∷ firsts) [] first b e = absurd (omega (arith, e))
boxes_lines-more (f ∷ firsts) (x ∷ boxes) first b e =
    ap (λ (ls : List (List (List ℕ))). box_lines_by f x ++ ls)
    (boxes_lines-more firsts boxes first b (omega (arith, e)))
    ∙ sym (append_assoc (box_lines_by f x) (boxes_lines_by firsts boxes) (box_lines_by first b))

-- the first four lines
abbrev pub heads : ℕ → ℕ → ℕ → ℕ → List (List (List ℕ))
heads version count delay looks =
    (codes "plan" ∷ decimal version ∷ []) ∷ (codes "boxes" ∷ decimal count ∷ []) ∷ (codes "delay" ∷ decimal delay ∷ [])
    ∷ (codes "looks" ∷ decimal looks ∷ []) ∷ []

-- the line `end`, if it has stood
abbrev pub end_lines : Bool → List (List (List ℕ))
end_lines true = (codes "end" ∷ []) ∷ []
end_lines false = []

-- a draft behind the first four lines, and all its lines
pub record Body (d : DraftFields) (texts : List (List (List ℕ))) : Type 0 where
  pub low : 4 ≤ rank d.stage
  pub firsts : List FirstWays
  pub table : List (List ℕ)
  pub classes : List Class
  pub here : List (List (List ℕ))
  pub codes_are : d.plan.codes ≡ opening_codes ++ table
  pub classes_are : d.plan.classes ≡ opening_classes ++ classes
  pub same : length table ≡ length classes
  pub long : length firsts ≡ length d.plan.boxes
  pub unboxed : rank d.stage ≤ 5 → d.plan.boxes ≡ []
  pub untrained : rank d.stage ≤ 15 → d.plan.trains ≡ []
  pub room : length (all_boxes d) ≤ d.count
  pub full : rank d.stage ≡ 17 → d.count ≤ length d.plan.boxes
  pub open_box : in_box d.stage ≡ true → BoxGrown (rank d.stage) d.here here
  pub no_open : in_box d.stage ≡ false → here ≡ []
  pub lines : texts
      ≡ heads d.plan.version d.count d.plan.delay d.plan.looks
      ++ (class_lines table classes
      ++ (boxes_lines_by firsts d.plan.boxes
      ++ (here ++ (map (train_line d.plan) d.plan.trains ++ end_lines (eqb (rank d.stage) 17)))))

-- what a line makes of such a draft
abbrev pub BodyBy : List (List (List ℕ)) → List (List ℕ) → DraftFields → Type 0
BodyBy texts words next = Body next (texts ++ words ∷ [])

-- ---- where a line comes to stand

-- a line behind all parts of a plan's lines stands at the end of the last part
pub whole_more : {W : Type 0} (w : W) (h c b o t e : List W)
    → (h ++ (c ++ (b ++ (o ++ (t ++ e))))) ++ w ∷ [] ≡ h ++ (c ++ (b ++ (o ++ (t ++ (e ++ w ∷ [])))))
whole_more w h c b o t e = simp append_assoc

more_here : {W : Type 0} (w : W) (h c b o t e e' : List W) → t ≡ [] → e ≡ [] → e' ≡ []
    → (h ++ (c ++ (b ++ (o ++ (t ++ e))))) ++ w ∷ [] ≡ h ++ (c ++ (b ++ ((o ++ w ∷ []) ++ (t ++ e'))))
more_here {W} w h c b o t e e' et ee ee' =
    let none : t ++ e' ≡ [] = rw (et, ee') refl in
    let one : t ++ (e ++ w ∷ []) ≡ w ∷ [] = rw (et, ee) refl in
    whole_more w h c b o t e ∙ ap (λ (z : List W). h ++ (c ++ (b ++ (o ++ z)))) one
    ∙ ap (λ (z : List W). h ++ (c ++ (b ++ z))) (sym (append-nil (o ++ w ∷ [])))
    ∙ ap (λ (z : List W). h ++ (c ++ (b ++ ((o ++ w ∷ []) ++ z)))) (sym none)

-- ---- ranks

-- a stage at most 16 isn't 17, the stage of a draft that has ended
pub not_seventeen : (n : ℕ) → n ≤ 16 → eqb n 17 ≡ false
not_seventeen n h = grind (arith, nat_tests)

-- a stage at most 5 lies in no box: those in a box are 6 to 15
pub out_below : (n : ℕ) → n ≤ 5 → leb 6 n && leb n 15 ≡ false
out_below n h = grind (arith, nat_tests)

in_between : (n : ℕ) → 6 ≤ n → n ≤ 15 → leb 6 n && leb n 15 ≡ true
in_between n a b = grind (arith, nat_tests)

-- ---- a line of a box

-- where a line is taken into the open box, the lines of the draft are those before and this one
pub here_more : (kind : Stage) (d : DraftFields) (texts : List (List (List ℕ))) (words : List (List ℕ))
    (h : Body d texts) → IsBoxKind kind → InBox d.stage (rank kind) → (r : Result BoxFields Cause)
    → OfOk (BoxBy (rank kind) h.here words) r
    → OfOk (BodyBy texts words) (r >>= (λ here. Ok (record d { stage = kind; here = here })))
here_more kind d texts words h is i (Err e) g = tt
here_more kind d texts words h is i (Ok b) g =
    let trains = h.untrained (omega (arith, i.most, is.high)) in
    let inside : in_box d.stage ≡ true = in_between (rank d.stage) i.low (omega (arith, i.most, is.high)) in
    let kind_in : in_box kind ≡ true = in_between (rank kind) is.low is.high in
    record {
      low = omega (arith, is.low);
      firsts = h.firsts;
      table = h.table;
      classes = h.classes;
      here = h.here ++ words ∷ [];
      codes_are = h.codes_are;
      classes_are = h.classes_are;
      same = h.same;
      long = h.long;
      unboxed = λ l. absurd (omega (arith, l, is.low));
      untrained = λ _. trains;
      room = grow_room (in_box kind) (in_box d.stage) kind_in inside h.room;
      full = λ e. absurd (omega (arith, e, is.high));
      open_box = λ _. g;
      no_open = λ e. absurd (let f = sym kind_in ∙ e in cc);
      lines = ap (λ (ls : List (List (List ℕ))). ls ++ words ∷ []) h.lines
          ∙ more_here words (heads d.plan.version d.count d.plan.delay d.plan.looks) (class_lines h.table h.classes)
          (boxes_lines_by h.firsts d.plan.boxes) h.here (map (train_line d.plan) d.plan.trains)
          (end_lines (eqb (rank d.stage) 17)) (end_lines (eqb (rank kind) 17))
          (ap (map (train_line d.plan)) trains)
          (ap end_lines (not_seventeen (rank d.stage) (omega (arith, i.most, is.high))))
          (ap end_lines (not_seventeen (rank kind) (omega (arith, is.high))));
    } where
      grow_room : (p q : Bool) → p ≡ true → q ≡ true
          → length (cond q (d.plan.boxes ++ d.here ∷ []) d.plan.boxes) ≤ d.count
          → length (cond p (d.plan.boxes ++ b ∷ []) d.plan.boxes) ≤ d.count
      grow_room true true e f l =
          omega (arith, l, length-append d.plan.boxes (d.here ∷ []), length-append d.plan.boxes (b ∷ []))
      grow_room false q e f l = absurd cc
      grow_room p false e f l = absurd cc

pub ruleset body_rules = (here_more)
