-- The printed lines of a box up to its starters are read as the box.
use Rattle.std.proofs.Common.{◌≡◌, ℕ, ◌<◌, ◌≤◌, Bool, true, false, not, ◌||◌, eqb, ltb, leb, List, [], ◌∷◌, ◌++◌}
use Rattle.std.proofs.Common.{length, map, filter, Option, None, Some, is_some, Ok, refl, sym, ap, subst, ◌∙◌, arith}
use Rattle.std.proofs.Common.{codes, decimal, bytes_eq, append_assoc}
use Rattle.std.specs.Prelude.{All, IfSome}
use Rattle.std.specs.List.{list_any, list_all}
use Rattle.std.proofs.lemmas.Bool.Decides.{nat_tests}
use Rattle.std.proofs.lemmas.List.{append-nil}
use Rattle.std.proofs.lemmas.List.Elements.{All-nil, All-cons, All-head, All-tail}
use Rattle.rail_text.specs.Names.{are_new}
use Rattle.rail_text.specs.Words.{is_name, keyword}
use Rattle.rail_text.specs.Forms.{is_skipped}
use Rattle.rail_text.proofs.PrintedLines.{both, not_true}
use Rattle.rail_text.proofs.PrintedWords.{number_in-decimal}
use Rattle.block_words.specs.declared.Way.{Way}
use Rattle.block_words.specs.declared.Way.TheVariants.{Up, Down}
use Rattle.locking_table.specs.Sound.{all_differ}
use Rattle.line_plan.specs.declared.frame.Kind.TheVariants as kinds
use Rattle.line_plan.specs.declared.frame.Lever.{Lever}
use Rattle.line_plan.specs.declared.signal.To.{To}
use Rattle.line_plan.specs.declared.signal.To.TheVariants as ends
use Rattle.line_plan.specs.declared.signal.Signal.{Signal}
use Rattle.plan_draft.specs.declared.draft.Stage.{Stage}
use Rattle.plan_draft.specs.declared.draft.Stage.TheVariants as stages
use Rattle.line_plan.specs.Frames.{BoxFields, signal_of, frame_size, are_rising, places_of, end_places, leads_to}
use Rattle.line_plan.specs.Frames.{way_to, is_starter, starter_of, starters_last, same_way}
use Rattle.line_plan.specs.Ways.{leaves}
use Rattle.line_plan.specs.Plans.{IsSignal, IsBox}
use Rattle.plan_draft.specs.Drafts.{DraftFields, rank}
use Rattle.plan_draft.specs.LineWords.{end_in}
use Rattle.plan_draft.specs.BoxLines.{counted_over, new_place, place_onto, next_number, lever_onto, with_signal}
use Rattle.plan_draft.specs.BoxLines.{signal_onto, leaving_in, starter_onto}
use Rattle.plan_draft.specs.Reading.{line_kind, box_with}
use Rattle.plan_text.specs.Printing.{name_word, place_line, lever_line, signal_line, arm_words, over_words}
use Rattle.line_plan.specs.Ways.{way_word}
use Rattle.plan_text.proofs.LineReads.{IsLine, GoesOn, IsBoxKind, place_kind, lever_kind, signal_kind, starter_kind}
use Rattle.plan_text.proofs.LineReads.{all_read, then_read, goes_on}
use Rattle.plan_text.proofs.Middle.{all_at, test_at, none_at, new_at, differs_at, rises_at, one_at, shorter, or_false}
use Rattle.line_plan.proofs.Listed.{found_any}
use Rattle.plan_text.proofs.WordReads.{fits, room, fitting_line, number_fits, name_fits, way_fits, kind_fits, AreNames}
use Rattle.plan_text.proofs.WordReads.{name_word_fits, name_reads, new_reads, Within, over_fits, over_room}
use Rattle.plan_text.proofs.WordReads.{counted_over_reads, over_reads, way_reads, kind_reads, swapped, away_reads}
use Rattle.plan_text.proofs.WordReads.{end_reads, IsFrame, HasLever, has_lever, arm_reads}

-- ---- a box so far

-- with these places, these levers, or these signals, and nothing behind them
abbrev pub with_places : BoxFields → List (List ℕ) → BoxFields
with_places b places =
    record {
      name = b.name;
      places = places;
      levers = [];
      signals = [];
      berth_up = None;
      berth_down = None;
      tracks =
          [];
      rows = [];
    }

abbrev pub with_levers : BoxFields → List Lever → BoxFields
with_levers b levers =
    record {
      name = b.name;
      places = b.places;
      levers = levers;
      signals = [];
      berth_up = None;
      berth_down =
          None;
      tracks = [];
      rows = [];
    }

abbrev pub with_signals : BoxFields → List Signal → BoxFields
with_signals b signals =
    record {
      name = b.name;
      places = b.places;
      levers = b.levers;
      signals = signals;
      berth_up = None;
      berth_down =
          None;
      tracks = [];
      rows = [];
    }

-- the places of a box have names that all differ
pub box_names : (boxes n : ℕ) (b : BoxFields) → IsBox boxes n b → AreNames b.places
box_names boxes n b is = record { each = is.named; differ = is.distinct }

-- the levers of a box are a frame: their numbers rise, and it has at most 120 levers
pub box_frame : (boxes n : ℕ) (b : BoxFields) → IsBox boxes n b → IsFrame b.levers
box_frame boxes n b is = record { rising = is.rising; most = is.frame }

-- ---- places

not_full : (n : ℕ) → n < 64 → leb 64 n ≡ false
not_full n h = grind (arith, nat_tests)

place_step : (boxes n : ℕ) (b : BoxFields) (front : List (List ℕ)) (name : List ℕ) → is_name name ≡ true
    → bytes_eq name (codes "away") ≡ false → list_any (bytes_eq name) front ≡ false → length front < 64
    → box_with stages.Place boxes n (with_places b front) (place_line name) ≡ Ok (with_places b (front ++ name ∷ []))
unfolding box_with place_onto new_place
place_step boxes n b front name good away new room =
    rw (away, new_reads front name good new, not_full (length front) room) refl

place_is_line : (name : List ℕ) → is_name name ≡ true → IsLine (place_line name)
place_is_line name good = fitting_line 16 (place_line name) (rw (name_fits name good) refl) (omega arith) refl

place_line_kind : (name : List ℕ) → line_kind (keyword (place_line name)) ≡ Some stages.Place
unfolding line_kind
place_line_kind name = refl

-- a box's printed lines `place` add its places to the box
pub places_are_read : (d : DraftFields) (b : BoxFields) (more : List (List (List ℕ))) (last : DraftFields)
    → IsBox d.count (length d.plan.boxes) b
    → GoesOn d 7 (with_places b b.places) more last
    → GoesOn d 7 (with_places b []) (map place_line b.places ++ more) last
places_are_read d b more last is go =
    all_read d stages.Place place_line (with_places b) more last b.places place_kind place_line_kind
    (λ front rest name e.
    let good : is_name name ≡ true = test_at is_name front rest name (ap (list_all is_name) (sym e) ∙ is.named) in
    let other : bytes_eq (codes "away") name ≡ false =
    none_at (bytes_eq (codes "away")) front rest name (ap (list_any (bytes_eq (codes "away"))) (sym e) ∙ is.away) in
    let new : list_any (bytes_eq name) front ≡ false = new_at front rest name (ap (are_new []) (sym e) ∙ is.distinct) in
    let few : length front < 64 = omega (arith, shorter front rest name, ap length e, is.few_places) in (
      place_is_line name good,
      place_step d.count (length d.plan.boxes) b front name good (swapped (codes "away") name other) new few,
    ))
    go [] b.places refl

-- ---- levers

lever_step : (boxes n : ℕ) (b : BoxFields) (front : List Lever) (lever : Lever) → frame_size front < lever.number
    → lever.number ≤ 120
    → box_with stages.Lever boxes n (with_levers b front) (lever_line lever) ≡ Ok (with_levers b (front ++ lever ∷ []))
unfolding box_with lever_onto next_number
lever_step boxes n b front lever low high =
    let above : ltb (frame_size front) lever.number ≡ true = grind (arith, nat_tests) in
    rw (
      number_in-decimal 1 120 lever.number (omega (arith, low)) high (omega (arith, high)),
      above,
      kind_reads lever.kind,
    ) refl

lever_is_line : (lever : Lever) → lever.number ≤ 120 → IsLine (lever_line lever)
lever_is_line lever high =
    fitting_line 16 (lever_line lever)
    (rw (number_fits 16 lever.number (omega arith) (omega (arith, high)), kind_fits lever.kind) refl) (omega arith) refl

lever_line_kind : (lever : Lever) → line_kind (keyword (lever_line lever)) ≡ Some stages.Lever
unfolding line_kind
lever_line_kind lever = refl

-- a box's printed lines `lever` add its levers to the box
pub levers_are_read : (d : DraftFields) (b : BoxFields) (more : List (List (List ℕ))) (last : DraftFields)
    → IsBox d.count (length d.plan.boxes) b
    → GoesOn d 8 (with_levers b b.levers) more last
    → GoesOn d 8 (with_levers b []) (map lever_line b.levers ++ more) last
levers_are_read d b more last is go =
    all_read d stages.Lever lever_line (with_levers b) more last b.levers lever_kind lever_line_kind
    (λ front rest lever e.
    let r = rises_at 0 front rest lever (ap (are_rising 0) (sym e) ∙ is.rising) in
    let high : lever.number ≤ 120 = omega (arith, r.1, ap frame_size e, is.frame) in
    (lever_is_line lever high, lever_step d.count (length d.plan.boxes) b front lever r.0 high))
    go [] b.levers refl

-- ---- signals and starters

all_left : {A : Type 0} (P : A → Type 0) (xs ys : List A) → All P (xs ++ ys) → All P xs
all_left P [] ys h = All-nil P
all_left P (x ∷ xs) ys h = All-cons P x xs (All-head P x (xs ++ ys) h) (all_left P xs ys (All-tail P x (xs ++ ys) h))

all_right : {A : Type 0} (P : A → Type 0) (xs ys : List A) → All P (xs ++ ys) → All P ys
all_right P [] ys h = h
all_right P (x ∷ xs) ys h = all_right P xs ys (All-tail P x (xs ++ ys) h)

-- a signal or starter behind those in front
record IsNext (boxes n : ℕ) (b : BoxFields) (front : List Signal) (s : Signal) : Type 0 where
  lever : HasLever b s.lever kinds.Signal
  free : is_some (signal_of (with_signals b front) s.lever) ≡ false
  begins : s.from < length b.places
  over : All (Within b.places) s.over
  end : All (Within b.places) (end_places s.to)
  few : length s.over ≤ 4
  differ : all_differ (places_of s) ≡ true
  way : IfSome (leads_to s) (λ way. leaves boxes n way ≡ true)
  alone : (way : Way) → leads_to s ≡ Some way → is_some (starter_of (with_signals b front) way) ≡ false

one_of : (boxes n : ℕ) (b : BoxFields) (way : Way) → IsBox boxes n b → length (filter (is_starter way) b.signals) ≤ 1
one_of boxes n b Up is = is.one_up
one_of boxes n b Down is = is.one_down

own_way : (way : Way) → same_way way way ≡ true
own_way Up = refl
own_way Down = refl

own_starter : (way : Way) (s : Signal) → leads_to s ≡ Some way → is_starter way s ≡ true
own_starter way s e = rw (e, own_way way) refl

is_next : (boxes n : ℕ) (b : BoxFields) (front rest : List Signal) (s : Signal) → IsBox boxes n b
    → b.signals ≡ front ++ s ∷ rest → IsNext boxes n b front s
is_next boxes n b front rest s is e =
    let own = all_at (IsSignal boxes n b) front rest s (subst (All (IsSignal boxes n b)) e is.signals) in
    let places = All-tail (Within b.places) s.from (s.over ++ end_places s.to) own.places in
    record {
      lever = has_lever b s.lever kinds.Signal (box_frame boxes n b is) own.lever;
      free = found_any (λ other. eqb other.lever s.lever) front
          ∙ differs_at (λ (other : Signal). other.lever) front rest s
          (ap (λ (ss : List Signal). all_differ (map (λ other. other.lever) ss)) (sym e) ∙ is.one_each);
      begins = All-head (Within b.places) s.from (s.over ++ end_places s.to) own.places;
      over = all_left (Within b.places) s.over (end_places s.to) places;
      end = all_right (Within b.places) s.over (end_places s.to) places;
      few = own.few;
      differ = own.differ;
      way = own.way;
      alone = λ way l. found_any (is_starter way) front
          ∙ one_at (is_starter way) front rest s
          (subst (λ (ss : List Signal). length (filter (is_starter way) ss) ≤ 1) e (one_of boxes n b way is))
          (own_starter way s l);
    }

number_small : (b : BoxFields) (n : ℕ) → HasLever b n kinds.Signal → fits 16 (decimal n) ≡ true
number_small b n h = number_fits 16 n (omega arith) (omega (arith, h.high))

-- a line of four words and the places behind `over`
over_line : (b : BoxFields) (w x y z : List ℕ) (over : List ℕ) → AreNames b.places → All (Within b.places) over
    → length over ≤ 4 → fits 16 w ≡ true → fits 16 x ≡ true → fits 16 y ≡ true → fits 16 z ≡ true → is_skipped w ≡ false
    → IsLine (w ∷ x ∷ y ∷ z ∷ over_words b.places over)
over_line b w x y z over are h few a c d e k =
    fitting_line 16 (w ∷ x ∷ y ∷ z ∷ over_words b.places over) (rw (a, c, d, e, over_fits b.places over are h) refl)
    (omega (arith, over_room b.places over, few)) k

signal_with : (boxes n : ℕ) (b : BoxFields) (front : List Signal) (s : Signal) (last : List ℕ) → AreNames b.places
    → IsNext boxes n b front s → end_in b.places last ≡ Ok s.to
    → box_with stages.Signal boxes n (with_signals b front)
    (codes "signal" ∷ decimal s.lever ∷ name_word b.places s.from ∷ last ∷ over_words b.places s.over)
    ≡ Ok (with_signals b (front ++ s ∷ []))
unfolding box_with signal_onto with_signal
signal_with boxes n b front s last are next end =
    let counted : counted_over
    (codes "signal" ∷ decimal s.lever ∷ name_word b.places s.from ∷ last ∷ over_words b.places s.over) ≡ Ok tt =
    counted_over_reads (codes "signal" ∷ decimal s.lever ∷ name_word b.places s.from ∷ last ∷ []) b.places s.over refl
    next.few in
    let lever : HasLever (with_signals b front) s.lever kinds.Signal =
    record {
      lever = next.lever.lever;
      found = next.lever.found;
      is = next.lever.is;
      number =
          next.lever.number;
      low = next.lever.low;
      high = next.lever.high;
    } in
    rw (
      counted,
      arm_reads (with_signals b front) s.lever lever next.free,
      name_reads b.places s.from are next.begins,
      end,
      over_reads (with_signals b front) (codes "signal") (decimal s.lever) (name_word b.places s.from) last s.over are
          next.over,
      next.differ,
    ) refl

leaving_reads : (boxes n : ℕ) (b : BoxFields) (way : Way) → leaves boxes n way ≡ true
    → is_some (starter_of b way) ≡ false → leaving_in boxes n b (way_word way) ≡ Ok way
unfolding leaving_in
leaving_reads boxes n b way l none = rw (way_reads way, l, none) refl

-- the signal, with this end
abbrev led_to : Signal → To → Signal
led_to s to = record { lever = s.lever; from = s.from; over = s.over; to = to }

starter_with : (boxes n : ℕ) (b : BoxFields) (front : List Signal) (s : Signal) (way : Way) → AreNames b.places
    → IsNext boxes n b front s → s.to ≡ ends.Section way
    → box_with stages.Starter boxes n (with_signals b front)
    (codes "starter" ∷ way_word way ∷ decimal s.lever ∷ name_word b.places s.from ∷ over_words b.places s.over)
    ≡ Ok (with_signals b (front ++ s ∷ []))
unfolding box_with starter_onto with_signal
starter_with boxes n b front s way are next to =
    let counted : counted_over
    (codes "starter" ∷ way_word way ∷ decimal s.lever ∷ name_word b.places s.from ∷ over_words b.places s.over)
    ≡ Ok tt =
    counted_over_reads (codes "starter" ∷ way_word way ∷ decimal s.lever ∷ name_word b.places s.from ∷ []) b.places
    s.over refl next.few in
    let lever : HasLever (with_signals b front) s.lever kinds.Signal =
    record {
      lever = next.lever.lever;
      found = next.lever.found;
      is = next.lever.is;
      number =
          next.lever.number;
      low = next.lever.low;
      high = next.lever.high;
    } in
    let led : leads_to s ≡ Some way = ap way_to to in
    let line : leaves boxes n way ≡ true =
    subst (λ (o : Option Way). IfSome o (λ w. leaves boxes n w ≡ true)) led next.way in
    let differ : all_differ (s.from ∷ s.over ++ []) ≡ true =
    ap (λ (t : To). all_differ (s.from ∷ s.over ++ end_places t)) (sym to) ∙ next.differ in
    let same : led_to s (ends.Section way) ≡ s = ap (led_to s) (sym to) in
    rw (
      counted,
      leaving_reads boxes n (with_signals b front) way line (next.alone way led),
      arm_reads (with_signals b front) s.lever lever next.free,
      name_reads b.places s.from are next.begins,
      over_reads (with_signals b front) (codes "starter") (way_word way) (decimal s.lever) (name_word b.places s.from)
          s.over are next.over,
      differ,
      same,
    ) refl

-- the step of a signal by where it leads
record Stepped (boxes n : ℕ) (b : BoxFields) (front : List Signal) (s : Signal) (kind : Stage) : Type 0 where
  begins : line_kind (keyword (signal_line b.places s)) ≡ Some kind
  line : IsLine (signal_line b.places s)
  onto : box_with kind boxes n (with_signals b front) (signal_line b.places s) ≡ Ok (with_signals b (front ++ s ∷ []))

-- what leads to no section
signal_steps : (boxes n : ℕ) (b : BoxFields) (front : List Signal) (s : Signal) (to : To) → IsBox boxes n b
    → IsNext boxes n b front s → s.to ≡ to → way_to to ≡ None → Stepped boxes n b front s stages.Signal
unfolding line_kind
signal_steps boxes n b front s (ends.Place place) is next to none =
    let are = box_names boxes n b is in
    let within =
    All-head (Within b.places) place [] (subst (λ (t : To). All (Within b.places) (end_places t)) to next.end) in
    let text : signal_line b.places s
    ≡ codes "signal" ∷ decimal s.lever ∷ name_word b.places s.from ∷ name_word b.places place
    ∷ over_words b.places s.over = ap (λ (t : To). arm_words b.places s t ++ over_words b.places s.over) to in
    let end = end_reads b.places place are is.away within in
    record {
      begins = ap (λ (w : List (List ℕ)). line_kind (keyword w)) text;
      line = subst IsLine (sym text)
          (over_line b (codes "signal") (decimal s.lever) (name_word b.places s.from) (name_word b.places place) s.over
          are next.over next.few refl (number_small b s.lever next.lever)
          (name_word_fits b.places s.from are next.begins) (name_word_fits b.places place are within) refl);
      onto = ap (box_with stages.Signal boxes n (with_signals b front)) text
          ∙ signal_with boxes n b front s (name_word b.places place) are next (end ∙ ap Ok (sym to));
    }
signal_steps boxes n b front s ends.Away is next to none =
    let are = box_names boxes n b is in
    let text : signal_line b.places s
    ≡ codes "signal" ∷ decimal s.lever ∷ name_word b.places s.from ∷ codes "away" ∷ over_words b.places s.over =
    ap (λ (t : To). arm_words b.places s t ++ over_words b.places s.over) to in
    record {
      begins = ap (λ (w : List (List ℕ)). line_kind (keyword w)) text;
      line = subst IsLine (sym text)
          (over_line b (codes "signal") (decimal s.lever) (name_word b.places s.from) (codes "away") s.over are
          next.over next.few refl (number_small b s.lever next.lever)
          (name_word_fits b.places s.from are next.begins) refl refl);
      onto = ap (box_with stages.Signal boxes n (with_signals b front)) text
          ∙ signal_with boxes n b front s (codes "away") are next (away_reads b.places ∙ ap Ok (sym to));
    }
signal_steps boxes n b front s (ends.Section way) is next to none = absurd cc

-- what leads to a section
starter_steps : (boxes n : ℕ) (b : BoxFields) (front : List Signal) (s : Signal) (way : Way) → IsBox boxes n b
    → IsNext boxes n b front s → s.to ≡ ends.Section way → Stepped boxes n b front s stages.Starter
unfolding line_kind
starter_steps boxes n b front s way is next to =
    let are = box_names boxes n b is in
    let text : signal_line b.places s
    ≡ codes "starter" ∷ way_word way ∷ decimal s.lever ∷ name_word b.places s.from ∷ over_words b.places s.over =
    ap (λ (t : To). arm_words b.places s t ++ over_words b.places s.over) to in
    record {
      begins = ap (λ (w : List (List ℕ)). line_kind (keyword w)) text;
      line = subst IsLine (sym text)
          (over_line b (codes "starter") (way_word way) (decimal s.lever) (name_word b.places s.from) s.over are
          next.over next.few refl (way_fits way) (number_small b s.lever next.lever)
          (name_word_fits b.places s.from are next.begins) refl);
      onto = ap (box_with stages.Starter boxes n (with_signals b front)) text
          ∙ starter_with boxes n b front s way are next to;
    }

-- a signal or starter is read, and then those behind it
stepped : (d : DraftFields) (b : BoxFields) (front : List Signal) (s : Signal) (kind : Stage)
    (more : List (List (List ℕ))) (last : DraftFields) → Stepped d.count (length d.plan.boxes) b front s kind
    → IsBoxKind kind
    → GoesOn d (rank kind) (with_signals b (front ++ s ∷ [])) more last
    → GoesOn d (rank kind) (with_signals b front) (signal_line b.places s ∷ more) last
stepped d b front s kind more last st k go =
    then_read d kind (with_signals b front) (with_signals b (front ++ s ∷ [])) (signal_line b.places s) more last k
    st.begins st.line st.onto go

abbrev leads : Signal → Bool
leads s = is_some (leads_to s)

section_of : (to : To) → is_some (way_to to) ≡ true → IfSome (way_to to) (λ way. to ≡ ends.Section way)
section_of (ends.Section way) e = refl
section_of (ends.Place place) e = tt
section_of ends.Away e = tt

abbrev SoRead : DraftFields → BoxFields → ℕ → List Signal → List Signal → List (List (List ℕ)) → DraftFields → Type 0
SoRead d b high front vs more last = GoesOn d high (with_signals b front) (map (signal_line b.places) vs ++ more) last

starters_read : (d : DraftFields) (b : BoxFields) (more : List (List (List ℕ))) (last : DraftFields)
    → IsBox d.count (length d.plan.boxes) b → GoesOn d 10 (with_signals b b.signals) more last
    → (front vs : List Signal) → b.signals ≡ front ++ vs → list_any (λ s. not (leads s)) vs ≡ false
    → SoRead d b 10 front vs more last
starters_read d b more last is go front [] e all = let same : b.signals ≡ front =
    e ∙ append-nil front in λ stage in_box. rw (sym same) (go stage in_box)
starters_read d b more last is go front (s ∷ vs) e all =
    let parts = or_false (not (leads s)) (list_any (λ s. not (leads s)) vs) all in
    step s.to refl parts.0
    (starters_read d b more last is go (front ++ s ∷ []) vs (e ∙ sym (append_assoc front (s ∷ []) vs)) parts.1)
  where
    step : (to : To) → s.to ≡ to → not (is_some (way_to to)) ≡ false → SoRead d b 10 (front ++ s ∷ []) vs more last
        → SoRead d b 10 front (s ∷ vs) more last
    step (ends.Section way) to l rest =
        stepped d b front s stages.Starter (map (signal_line b.places) vs ++ more) last
        (starter_steps d.count (length d.plan.boxes) b front s way is
        (is_next d.count (length d.plan.boxes) b front vs s is e) to) starter_kind rest
    step (ends.Place place) to l rest = absurd cc
    step ends.Away to l rest = absurd cc

or_true : (a b : Bool) → a || b ≡ true → a ≡ false → b ≡ true
or_true true b e f = absurd cc
or_true false b e f = e

signals_read : (d : DraftFields) (b : BoxFields) (more : List (List (List ℕ))) (last : DraftFields)
    → IsBox d.count (length d.plan.boxes) b → GoesOn d 10 (with_signals b b.signals) more last
    → (front vs : List Signal) → b.signals ≡ front ++ vs → starters_last vs ≡ true → SoRead d b 9 front vs more last
signals_read d b more last is go front [] e sorted =
    goes_on d 9 10 (with_signals b front) more last (omega arith) (starters_read d b more last is go front [] e refl)
signals_read d b more last is go front (s ∷ vs) e sorted =
    let parts = both (not (leads s) || not (list_any (λ later. not (leads later)) vs)) (starters_last vs) sorted in
    step s.to refl parts.0 (λ all. starters_read d b more last is go front (s ∷ vs) e all)
    (signals_read d b more last is go (front ++ s ∷ []) vs (e ∙ sym (append_assoc front (s ∷ []) vs)) parts.1) where
      lines : List (List (List ℕ))
      lines = map (signal_line b.places) vs ++ more

      next : IsNext d.count (length d.plan.boxes) b front s
      next = is_next d.count (length d.plan.boxes) b front vs s is e

      step : (to : To) → s.to ≡ to → not (is_some (way_to to)) || not (list_any (λ later. not (leads later)) vs) ≡ true
          → (not (leads s) || list_any (λ later. not (leads later)) vs ≡ false → SoRead d b 10 front (s ∷ vs) more last)
          → SoRead d b 9 (front ++ s ∷ []) vs more last → SoRead d b 9 front (s ∷ vs) more last
      step (ends.Section way) to l starters rest =
          goes_on d 9 10 (with_signals b front) (signal_line b.places s ∷ lines) last (omega arith)
          (starters (let led : leads s ≡ true = ap (λ (t : To). is_some (way_to t)) to in rw led (not_true _ l)))
      step (ends.Place place) to l starters rest =
          stepped d b front s stages.Signal lines last
          (signal_steps d.count (length d.plan.boxes) b front s (ends.Place place) is next to refl) signal_kind rest
      step ends.Away to l starters rest =
          stepped d b front s stages.Signal lines last
          (signal_steps d.count (length d.plan.boxes) b front s ends.Away is next to refl) signal_kind rest

-- a box's printed lines `signal` and `starter` add its signals to the box
pub signals_are_read : (d : DraftFields) (b : BoxFields) (more : List (List (List ℕ))) (last : DraftFields)
    → IsBox d.count (length d.plan.boxes) b
    → GoesOn d 10 (with_signals b b.signals) more last
    → GoesOn d 9 (with_signals b []) (map (signal_line b.places) b.signals ++ more) last
signals_are_read d b more last is go = signals_read d b more last is go [] b.signals refl is.starters_last

pub ruleset box_rules = (places_are_read, levers_are_read, signals_are_read)
