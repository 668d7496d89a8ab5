-- A text that is read as a plan spells that plan.
use Rattle.std.proofs.Common.{◌≡◌, ℕ, zero, suc, ◌+◌, ◌≤◌, Bool, true, false, cond, ◌&&◌, eqb, ltb, leb, List, [], ◌∷◌}
use Rattle.std.proofs.Common.{◌++◌, length, map, drop, Option, None, Some, Result, Ok, Err, refl, sym, ap, subst, ◌∙◌}
use Rattle.std.proofs.Common.{arith, codes, decimal, append_assoc}
use Rattle.std.specs.Prelude.{IfSome}
use Rattle.std.specs.List.{list_all}
use Rattle.std.proofs.lemmas.Bool.Decides.{nat_tests}
use Rattle.std.proofs.lemmas.List.{append-nil, length-append}
use Rattle.rail_text.specs.Gives.{◌>>=◌, Fault}
use Rattle.rail_text.specs.Lines.{lacks, lines_of, words_of}
use Rattle.rail_text.specs.Texts.{lines_onto, text_onto}
use Rattle.rail_text.specs.Words.{keyword, number_in}
use Rattle.rail_text.specs.declared.cause.Cause.{Cause}
use Rattle.rail_text.proofs.Binds.{OfOk, bind_keeps, if_keeps, InRange, number_in_is}
use Rattle.rail_text.proofs.PrintedLines.{words_are}
use Rattle.bell_codes.specs.Table.{opening_codes}
use Rattle.line_plan.specs.Limits.{most_bytes, most_boxes, most_delay, most_looks}
use Rattle.line_plan.specs.Frames.{BoxFields}
use Rattle.line_plan.specs.declared.plan.Class.{Class}
use Rattle.plan_draft.specs.declared.draft.Stage.{Stage}
use Rattle.plan_draft.specs.declared.draft.Stage.TheVariants as stages
use Rattle.line_plan.specs.Plans.{PlanFields, IsPlan}
use Rattle.plan_draft.specs.Drafts.{DraftFields, rank, in_box, opening_classes, start}
use Rattle.plan_draft.specs.LineWords.{counted, word}
use Rattle.plan_draft.specs.Reading.{line_kind, may_follow, plan_onto, boxes_onto, delay_onto, looks_onto, box_with}
use Rattle.plan_draft.specs.Reading.{here_onto, kind_onto, if_it_may, has_ended, words_onto, plan_of}
use Rattle.plan_text.specs.Printing.{class_line, train_line, head_lines}
use Rattle.rail_text.specs.Kept.{is_formed, kept}
use Rattle.plan_text.specs.Spelled.{boxes_lines_by, plan_lines_by, Spells}
use Rattle.rail_text.proofs.KeptLines.{all_onto, lines_are}
use Rattle.plan_text.proofs.LineReads.{IsBoxKind, InBox, place_kind, lever_kind, signal_kind, starter_kind, berth_kind}
use Rattle.plan_text.proofs.LineReads.{clear_kind, permissive_kind, track_kind, row_kind}
use Rattle.plan_text.proofs.WordIs.{exactly, keyword_of, line_kind_is}
use Rattle.plan_text.proofs.BoxGrown.{BoxGrown, BoxBy, two_same, place_grows, lever_grows, signal_grows, starter_grows}
use Rattle.plan_text.proofs.BerthGrown.{berth_grows, clear_grows, permissive_grows, track_grows, row_grows}
use Rattle.plan_text.proofs.PlanReads.{headed, next_class, regrouped, ten}
use Rattle.plan_text.proofs.PlanGrown.{class_lines, heads, end_lines, Body, BodyBy, here_more}
use Rattle.plan_text.proofs.PlanSteps.{class_grows, box_grows, train_grows, end_grows}

abbrev number_words : List ℕ → ℕ → List (List ℕ)
number_words kw n = kw ∷ decimal n ∷ []

-- a draft whose last line has this rank, and its lines
abbrev Grown : ℕ → DraftFields → List (List (List ℕ)) → Type 0
Grown zero d texts = (d ≡ start) × (texts ≡ [])
Grown (suc zero) d texts =
    (d ≡ headed stages.Plan 2 d.plan.version 0 1) × (texts ≡ number_words (codes "plan") d.plan.version ∷ [])
Grown (suc (suc zero)) d texts =
    (d ≡ headed stages.Boxes d.count d.plan.version 0 1)
    × (texts ≡ number_words (codes "plan") d.plan.version ∷ number_words (codes "boxes") d.count ∷ [])
Grown (suc (suc (suc zero))) d texts =
    (d ≡ headed stages.Delay d.count d.plan.version d.plan.delay 1)
    × (texts ≡ number_words (codes "plan") d.plan.version ∷ number_words (codes "boxes") d.count
    ∷ number_words (codes "delay") d.plan.delay ∷ [])
Grown (suc (suc (suc (suc n)))) d texts = Body d texts

abbrev GrownBy : List (List (List ℕ)) → List (List ℕ) → DraftFields → Type 0
GrownBy texts words next = Grown (rank next.stage) next (texts ++ words ∷ [])

body_of : (n : ℕ) (d : DraftFields) (texts : List (List (List ℕ))) → 4 ≤ n → Grown n d texts → Body d texts
body_of zero d texts l g = absurd (omega (arith, l))
body_of (suc zero) d texts l g = absurd (omega (arith, l))
body_of (suc (suc zero)) d texts l g = absurd (omega (arith, l))
body_of (suc (suc (suc zero))) d texts l g = absurd (omega (arith, l))
body_of (suc (suc (suc (suc n)))) d texts l g = g

of_body : (n : ℕ) (d : DraftFields) (texts : List (List (List ℕ))) → 4 ≤ n → Body d texts → Grown n d texts
of_body zero d texts l g = absurd (omega (arith, l))
of_body (suc zero) d texts l g = absurd (omega (arith, l))
of_body (suc (suc zero)) d texts l g = absurd (omega (arith, l))
of_body (suc (suc (suc zero))) d texts l g = absurd (omega (arith, l))
of_body (suc (suc (suc (suc n)))) d texts l g = g

as_grown : (texts : List (List (List ℕ))) (words : List (List ℕ)) (r : Result DraftFields Cause)
    → OfOk (BodyBy texts words) r → OfOk (GrownBy texts words) r
as_grown texts words (Ok next) h = of_body (rank next.stage) next (texts ++ words ∷ []) h.low h
as_grown texts words (Err e) h = tt

-- ---- the first four lines

plan_grows : (d : DraftFields) (texts : List (List (List ℕ))) (words : List (List ℕ)) → keyword words ≡ codes "plan"
    → Grown 0 d texts → OfOk (GrownBy texts words) (plan_onto d words)
unfolding plan_onto
plan_grows d texts words key g =
    bind_keeps (λ _. length words ≡ 2) (GrownBy texts words) (counted 2 2 words) _ (exactly 2 words) (λ _ n.
    bind_keeps (InRange 1 2 (word 1 words)) (GrownBy texts words) (number_in 1 2 (word 1 words)) _
    (number_in_is 1 2 (word 1 words)) (λ v r. (
      ap (λ (x : DraftFields).
          record { stage = stages.Plan; count = x.count; plan = record x.plan { version = v }; here = x.here }) g.0,
      ap (λ (ls : List (List (List ℕ))). ls ++ words ∷ []) g.1
          ∙ ap (λ (w : List (List ℕ)). w ∷ []) (two_same words (codes "plan") (decimal v) n key r.0),
    )))

boxes_grows : (d : DraftFields) (texts : List (List (List ℕ))) (words : List (List ℕ)) → keyword words ≡ codes "boxes"
    → Grown 1 d texts → OfOk (GrownBy texts words) (boxes_onto d words)
unfolding boxes_onto
boxes_grows d texts words key g =
    bind_keeps (λ _. length words ≡ 2) (GrownBy texts words) (counted 2 2 words) _ (exactly 2 words) (λ _ n.
    bind_keeps (InRange 2 (most_boxes d.plan.version) (word 1 words)) (GrownBy texts words)
    (number_in 2 (most_boxes d.plan.version) (word 1 words)) _
    (number_in_is 2 (most_boxes d.plan.version) (word 1 words)) (λ v r. (
      ap (λ (x : DraftFields). record { stage = stages.Boxes; count = v; plan = x.plan; here = x.here }) g.0,
      ap (λ (ls : List (List (List ℕ))). ls ++ words ∷ []) g.1
          ∙ ap (λ (w : List (List ℕ)). number_words (codes "plan") d.plan.version ∷ w ∷ [])
          (two_same words (codes "boxes") (decimal v) n key r.0),
    )))

delay_grows : (d : DraftFields) (texts : List (List (List ℕ))) (words : List (List ℕ)) → keyword words ≡ codes "delay"
    → Grown 2 d texts → OfOk (GrownBy texts words) (delay_onto d words)
unfolding delay_onto
delay_grows d texts words key g =
    bind_keeps (λ _. length words ≡ 2) (GrownBy texts words) (counted 2 2 words) _ (exactly 2 words) (λ _ n.
    bind_keeps (InRange 0 (most_delay d.plan.version) (word 1 words)) (GrownBy texts words)
    (number_in 0 (most_delay d.plan.version) (word 1 words)) _
    (number_in_is 0 (most_delay d.plan.version) (word 1 words)) (λ v r. (
      ap (λ (x : DraftFields).
          record { stage = stages.Delay; count = x.count; plan = record x.plan { delay = v }; here = x.here }) g.0,
      ap (λ (ls : List (List (List ℕ))). ls ++ words ∷ []) g.1
          ∙ ap (λ (w : List (List ℕ)). number_words (codes "plan") d.plan.version ∷ number_words (codes "boxes") d.count
          ∷ w ∷ []) (two_same words (codes "delay") (decimal v) n key r.0),
    )))

-- no class, box or train yet
body_start : (count version delay looks : ℕ) (texts : List (List (List ℕ))) → texts ≡ heads version count delay looks
    → Body (headed stages.Looks count version delay looks) texts
body_start count version delay looks texts e = record {
  low = omega arith;
  firsts = [];
  table = [];
  classes = [];
  here = [];
  codes_are = sym (append-nil opening_codes);
  classes_are = refl;
  same = refl;
  long = refl;
  unboxed = λ _. refl;
  untrained = λ _. refl;
  room = omega arith;
  full = λ x. absurd (omega (arith, x));
  open_box = λ x. absurd cc;
  no_open = λ _. refl;
  lines = e;
}

looks_grows : (d : DraftFields) (texts : List (List (List ℕ))) (words : List (List ℕ)) → keyword words ≡ codes "looks"
    → Grown 3 d texts → OfOk (GrownBy texts words) (looks_onto d words)
unfolding looks_onto
looks_grows d texts words key g =
    bind_keeps (λ _. length words ≡ 2) (GrownBy texts words) (counted 2 2 words) _ (exactly 2 words) (λ _ n.
    bind_keeps (InRange 1 most_looks (word 1 words)) (GrownBy texts words) (number_in 1 most_looks (word 1 words)) _
    (number_in_is 1 most_looks (word 1 words)) (λ v r.
    let next : DraftFields =
    record { stage = stages.Looks; count = d.count; plan = record d.plan { looks = v }; here = d.here } in
    let same : next ≡ headed stages.Looks d.count d.plan.version d.plan.delay v =
    ap (λ (x : DraftFields).
    record { stage = stages.Looks; count = x.count; plan = record x.plan { looks = v }; here = x.here }) g.0 in
    subst (λ (x : DraftFields). Body x (texts ++ words ∷ [])) (sym same)
    (body_start d.count d.plan.version d.plan.delay v (texts ++ words ∷ [])
    (ap (λ (ls : List (List (List ℕ))). ls ++ words ∷ []) g.1
    ∙ ap (λ (w : List (List ℕ)). number_words (codes "plan") d.plan.version ∷ number_words (codes "boxes") d.count
    ∷ number_words (codes "delay") d.plan.delay ∷ w ∷ []) (two_same words (codes "looks") (decimal v) n key r.0)))))

-- ---- a line of any kind

lies : (low high n : ℕ) → leb low n && leb n high ≡ true → (low ≤ n) × (n ≤ high)
lies low high n h = (grind (arith, nat_tests), grind (arith, nat_tests))

equal_by : (low n : ℕ) → leb low n && leb n low ≡ true → n ≡ low
equal_by low n h = let l = lies low low n h in omega (arith, l.0, l.1)

inside : (n high : ℕ) → high ≤ 15 → leb 6 n && leb n high ≡ true → leb 6 n && leb n 15 ≡ true
inside n high l h = grind (arith, nat_tests)

in_box_by : (stage : Stage) (high : ℕ) → leb 6 (rank stage) && leb (rank stage) high ≡ true → InBox stage high
in_box_by stage high h = let l = lies 6 high (rank stage) h in record { low = l.0; most = l.1 }

body_at : (low high : ℕ) (d : DraftFields) (texts : List (List (List ℕ))) → 4 ≤ low
    → leb low (rank d.stage) && leb (rank d.stage) high ≡ true → Grown (rank d.stage) d texts → Body d texts
body_at low high d texts four h g = let l =
    lies low high (rank d.stage) h in body_of (rank d.stage) d texts (omega (arith, four, l.0)) g

-- a line of a box
box_line : (kind : Stage) (d : DraftFields) (texts : List (List (List ℕ))) (words : List (List ℕ)) → IsBoxKind kind
    → leb 6 (rank d.stage) && leb (rank d.stage) (rank kind) ≡ true → Grown (rank d.stage) d texts
    → (r : Result BoxFields Cause)
    → ((lines : List (List (List ℕ))) → rank d.stage ≤ rank kind → BoxGrown (rank d.stage) d.here lines
    → OfOk (BoxBy (rank kind) lines words) r)
    → OfOk (GrownBy texts words) (r >>= (λ here. Ok (record d { stage = kind; here = here })))
box_line kind d texts words is may g r step =
    let h = body_at 6 (rank kind) d texts (omega arith) may g in
    let i = in_box_by d.stage (rank kind) may in
    as_grown texts words _
    (here_more kind d texts words h is i r
    (step h.here i.most (h.open_box (inside (rank d.stage) (rank kind) is.high may))))

kind_grows : (kind : Stage) (d : DraftFields) (texts : List (List (List ℕ))) (words : List (List ℕ))
    → keyword words ≡ keyword_of kind → list_all (lacks 32) words ≡ true → may_follow kind d.stage ≡ true
    → Grown (rank d.stage) d texts
    → OfOk (GrownBy texts words) (kind_onto kind d words)
unfolding kind_onto may_follow here_onto box_with
kind_grows stages.Start d texts words key single may g = absurd cc
kind_grows stages.Plan d texts words key single may g =
    plan_grows d texts words key (subst (λ (n : ℕ). Grown n d texts) (equal_by 0 (rank d.stage) may) g)
kind_grows stages.Boxes d texts words key single may g =
    boxes_grows d texts words key (subst (λ (n : ℕ). Grown n d texts) (equal_by 1 (rank d.stage) may) g)
kind_grows stages.Delay d texts words key single may g =
    delay_grows d texts words key (subst (λ (n : ℕ). Grown n d texts) (equal_by 2 (rank d.stage) may) g)
kind_grows stages.Looks d texts words key single may g =
    looks_grows d texts words key (subst (λ (n : ℕ). Grown n d texts) (equal_by 3 (rank d.stage) may) g)
kind_grows stages.Class d texts words key single may g =
    as_grown texts words _
    (class_grows d texts words (lies 4 5 (rank d.stage) may).1 key (body_at 4 5 d texts (omega arith) may g))
kind_grows stages.Box d texts words key single may g =
    as_grown texts words _
    (box_grows d texts words (lies 4 15 (rank d.stage) may).1 key (body_at 4 15 d texts (omega arith) may g))
kind_grows stages.Train d texts words key single may g =
    as_grown texts words _
    (train_grows d texts words (lies 4 16 (rank d.stage) may).1 key (body_at 4 16 d texts (omega arith) may g))
kind_grows stages.Ended d texts words key single may g =
    as_grown texts words _
    (end_grows d texts words (lies 4 16 (rank d.stage) may).1 key (body_at 4 16 d texts (omega arith) may g))
kind_grows stages.Place d texts words key single may g =
    box_line stages.Place d texts words place_kind may g _
    (λ lines low b. place_grows (rank d.stage) d.here lines words low key b)
kind_grows stages.Lever d texts words key single may g =
    box_line stages.Lever d texts words lever_kind may g _
    (λ lines low b. lever_grows (rank d.stage) d.here lines words low key b)
kind_grows stages.Signal d texts words key single may g =
    box_line stages.Signal d texts words signal_kind may g _
    (λ lines low b. signal_grows (rank d.stage) d.here lines words low key b)
kind_grows stages.Starter d texts words key single may g =
    box_line stages.Starter d texts words starter_kind may g _
    (λ lines low b. starter_grows d.count (length d.plan.boxes) (rank d.stage) d.here lines words low key b)
kind_grows stages.Berth d texts words key single may g =
    box_line stages.Berth d texts words berth_kind may g _
    (λ lines low b. berth_grows d.count (length d.plan.boxes) (rank d.stage) d.here lines words low key b)
kind_grows stages.Clear d texts words key single may g =
    box_line stages.Clear d texts words clear_kind may g _
    (λ lines low b. clear_grows (rank d.stage) d.here lines words low key b)
kind_grows stages.Permissive d texts words key single may g =
    box_line stages.Permissive d texts words permissive_kind may g _
    (λ lines low b. permissive_grows (rank d.stage) d.here lines words low key b)
kind_grows stages.Track d texts words key single may g =
    box_line stages.Track d texts words track_kind may g _
    (λ lines low b. track_grows (rank d.stage) d.here lines words low key b)
kind_grows stages.Row d texts words key single may g =
    box_line stages.Row d texts words row_kind may g _
    (λ lines low b. row_grows (rank d.stage) d.here lines words low key single b)

words_grow : (d : DraftFields) (texts : List (List (List ℕ))) (words : List (List ℕ)) → list_all (lacks 32) words ≡ true
    → Grown (rank d.stage) d texts → OfOk (GrownBy texts words) (words_onto d words)
unfolding words_onto
words_grow d texts words single g =
    if_keeps (GrownBy texts words) (has_ended d.stage) _ _ (λ _. tt)
    (λ _. go (line_kind (keyword words)) (line_kind_is (keyword words))) where
      go : (o : Option Stage) → IfSome o (λ kind. keyword words ≡ keyword_of kind)
          → OfOk (GrownBy texts words) (if_it_may d words o)
      go None key = tt
      go (Some kind) key =
          if_keeps (GrownBy texts words) (may_follow kind d.stage) _ _
          (λ may. kind_grows kind d texts words key single may g) (λ _. tt)

all_grow : (d : DraftFields) (texts : List (List (List ℕ))) (more : List (List ℕ)) → Grown (rank d.stage) d texts
    → OfOk (λ last. Grown (rank last.stage) last (texts ++ map words_of more)) (all_onto words_onto d more)
all_grow d texts [] g = subst (Grown (rank d.stage) d) (sym (append-nil texts)) g
all_grow d texts (text ∷ more) g =
    let own = words_are text in
    bind_keeps (GrownBy texts (words_of text))
    (λ last. Grown (rank last.stage) last (texts ++ words_of text ∷ map words_of more))
    (words_onto d (words_of text)) (λ next. all_onto words_onto next more)
    (words_grow d texts (words_of text) own.single g)
    (λ next q. subst
    (λ (ts : List (List (List ℕ))). OfOk (λ last. Grown (rank last.stage) last ts) (all_onto words_onto next more))
    (append_assoc texts (words_of text ∷ []) (map words_of more))
    (all_grow next (texts ++ words_of text ∷ []) more q))

-- ---- the whole

class_same : (plan : PlanFields) → IsPlan plan → (table others : List (List ℕ)) (classes rest : List Class)
    → plan.codes ≡ table ++ others → plan.classes ≡ classes ++ rest → length table ≡ length classes + 6
    → 4 ≤ length classes → length others ≡ length rest
    → class_lines others rest ≡ map (class_line plan.codes) rest
class_same plan is table [] classes [] e f n four m = refl
class_same plan is table (code ∷ others) classes [] e f n four m = absurd (omega (arith, m))
class_same plan is table [] classes (c ∷ rest) e f n four m = absurd (omega (arith, m))
class_same plan is table (code ∷ others) classes (c ∷ rest) e f n four m =
    let next = next_class plan table others classes rest c code is e f n four in
    ap (λ (w : List (List ℕ)). w ∷ class_lines others rest) (sym next.words)
    ∙ ap (λ (ls : List (List (List ℕ))). class_line plan.codes c ∷ ls)
    (class_same plan is (table ++ code ∷ []) others (classes ++ c ∷ []) rest
    (e ∙ sym (append_assoc table (code ∷ []) others)) (f ∙ sym (append_assoc classes (c ∷ []) rest))
    (omega (arith, n, length-append table (code ∷ []), length-append classes (c ∷ [])))
    (omega (arith, four, length-append classes (c ∷ []))) (omega (arith, m)))

is_seventeen : (n : ℕ) → eqb n 17 ≡ true → n ≡ 17
is_seventeen n h = grind (arith, nat_tests)

plain : (n : ℕ) → n ≡ 17 → leb 6 n && leb n 15 ≡ false
plain n h = grind (arith, nat_tests)

-- the lines of a draft that has ended are those of its plan
ended_lines : (d : DraftFields) (texts : List (List (List ℕ))) → IsPlan d.plan → has_ended d.stage ≡ true
    → (h : Body d texts) → texts ≡ plan_lines_by h.firsts d.plan
unfolding plan_lines_by
ended_lines d texts is e h =
    let last = is_seventeen (rank d.stage) e in
    let outside : in_box d.stage ≡ false = plain (rank d.stage) last in
    let at_most : length d.plan.boxes ≤ d.count =
    subst (λ (p : Bool). length (cond p (d.plan.boxes ++ d.here ∷ []) d.plan.boxes) ≤ d.count) outside h.room in
    let count : d.count ≡ length d.plan.boxes = omega (arith, at_most, h.full last) in
    let classes : class_lines h.table h.classes ≡ map (class_line d.plan.codes) (drop 4 d.plan.classes) =
    class_same d.plan is opening_codes h.table opening_classes h.classes h.codes_are h.classes_are ten (omega arith)
    h.same ∙ ap (λ (cs : List Class). map (class_line d.plan.codes) cs) (sym (ap (drop 4) h.classes_are)) in
    let boxes = boxes_lines_by h.firsts d.plan.boxes in
    let trains = map (train_line d.plan) d.plan.trains in
    h.lines
    ∙ ap (λ (b : Bool). heads d.plan.version d.count d.plan.delay d.plan.looks
    ++ (class_lines h.table h.classes ++ (boxes ++ (h.here ++ (trains ++ end_lines b))))) e
    ∙ ap (λ (ls : List (List (List ℕ))). heads d.plan.version d.count d.plan.delay d.plan.looks
    ++ (class_lines h.table h.classes ++ (boxes ++ (ls ++ (trains ++ (codes "end" ∷ []) ∷ [])))))
    (h.no_open outside)
    ∙ ap (λ (ls : List (List (List ℕ))). heads d.plan.version d.count d.plan.delay d.plan.looks
    ++ (ls ++ (boxes ++ (trains ++ (codes "end" ∷ []) ∷ [])))) classes
    ∙ ap (λ (n : ℕ). heads d.plan.version n d.plan.delay d.plan.looks
    ++ (map (class_line d.plan.codes) (drop 4 d.plan.classes) ++ (boxes ++ (trains ++ (codes "end" ∷ []) ∷ []))))
    count
    ∙ sym (regrouped (head_lines d.plan) (map (class_line d.plan.codes) (drop 4 d.plan.classes)) boxes trains
    ((codes "end" ∷ []) ∷ []))

-- whether the text has ended at a draft
abbrev ended : DraftFields → Bool
ended draft = has_ended draft.stage

-- a text that spells its plan, if that is one
abbrev SpellsIt : List ℕ → PlanFields → Type 0
SpellsIt bytes plan = IsPlan plan → Spells bytes plan

last_body : (last : DraftFields) (texts : List (List (List ℕ))) → has_ended last.stage ≡ true
    → Grown (rank last.stage) last texts → Body last texts
last_body last texts e g = let n =
    is_seventeen (rank last.stage) e in body_of (rank last.stage) last texts (omega (arith, n)) g

lines_spell : (bytes : List ℕ) → length bytes ≤ most_bytes
    → OfOk (λ last. SpellsIt bytes last.plan) (lines_onto words_onto ended 1 start (lines_of bytes))
lines_spell bytes short =
    go (lines_onto words_onto ended 1 start (lines_of bytes)) (lines_are words_onto ended 1 start (lines_of bytes))
  where
    go : (r : Result DraftFields Fault)
        → OfOk (λ last. (list_all is_formed (lines_of bytes) ≡ true)
        × (all_onto words_onto start (kept (lines_of bytes)) ≡ Ok last) × (ended last ≡ true)) r
        → OfOk (λ last. SpellsIt bytes last.plan) r
    go (Ok last) h = λ is.
        let g : Grown (rank last.stage) last (map words_of (kept (lines_of bytes))) =
        subst (OfOk (λ (d : DraftFields). Grown (rank d.stage) d (map words_of (kept (lines_of bytes))))) h.1
        (all_grow start [] (kept (lines_of bytes)) (refl, refl)) in
        let body = last_body last (map words_of (kept (lines_of bytes))) h.2 g in
        record {
          short = short;
          formed = h.0;
          firsts = body.firsts;
          lines =
              ended_lines last (map words_of (kept (lines_of bytes))) is h.2 body;
        }
    go (Err fault) h = tt

not_more : (n : ℕ) → ltb most_bytes n ≡ false → n ≤ most_bytes
not_more n e = grind (arith, nat_tests)

plan_of-spells : (bytes : List ℕ) → OfOk (SpellsIt bytes) (plan_of bytes)
unfolding plan_of text_onto
plan_of-spells bytes =
    bind_keeps (λ draft. SpellsIt bytes draft.plan) (SpellsIt bytes) (text_onto words_onto ended most_bytes start bytes)
    (λ draft. Ok draft.plan)
    (if_keeps (λ draft. SpellsIt bytes draft.plan) (ltb most_bytes (length bytes)) _ _ (λ _. tt)
    (λ e. lines_spell bytes (not_more (length bytes) e))) (λ draft h. h)

-- what is read is spelled by the text
pub read_spells : (bytes : List ℕ) (plan : PlanFields) → IsPlan plan → plan_of bytes ≡ Ok plan → Spells bytes plan
read_spells bytes plan is e = subst (OfOk (SpellsIt bytes)) e (plan_of-spells bytes) is

pub ruleset spelled_laws = (read_spells)
