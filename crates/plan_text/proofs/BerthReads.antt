-- The printed lines of a box from its berths on are read as the box.
use Rattle.std.proofs.Common.{◌≡◌, ◌≢◌, ℕ, ◌<◌, ◌≤◌, true, false, not, ◌||◌, eqb, List, [], ◌∷◌, ◌++◌, length, Option}
use Rattle.std.proofs.Common.{None, Some, Ok, refl, sym, ap, subst, ◌∙◌, arith, codes, decimal, append_assoc}
use Rattle.std.specs.Prelude.{All, IfSome}
use Rattle.std.specs.List.{list_any}
use Rattle.std.proofs.lemmas.Bool.Decides.{nat_tests}
use Rattle.std.proofs.lemmas.List.{append-nil, length-map}
use Rattle.rail_text.specs.Words.{keyword}
use Rattle.rail_text.proofs.PrintedLines.{both, not_true}
use Rattle.rail_text.proofs.PrintedWords.{number_in-decimal}
use Rattle.block_words.specs.declared.Way.{Way}
use Rattle.block_words.specs.declared.Way.TheVariants.{Up, Down}
use Rattle.line_plan.specs.Ways.{comes_in}
use Rattle.locking_table.specs.Sound.{all_differ}
use Rattle.line_plan.specs.declared.berth.Berth.{Berth}
use Rattle.plan_draft.specs.declared.draft.Stage.TheVariants as stages
use Rattle.line_plan.specs.Frames.{BoxFields, berth_of, place_of, berth_places, homes_of, is_entered}
use Rattle.line_plan.specs.Plans.{IsBerth, IsBox}
use Rattle.plan_draft.specs.Drafts.{DraftFields}
use Rattle.plan_draft.specs.LineWords.{counted, way_in}
use Rattle.plan_draft.specs.BoxLines.{coming_in, berth_at, berth_onto, clearing_in, clear_onto, permissive_onto}
use Rattle.plan_draft.specs.Reading.{line_kind, box_with}
use Rattle.plan_text.specs.Printing.{name_word, place_words, berth_lines, clear_lines, clearing_lines, permissive_lines}
use Rattle.plan_text.specs.Printing.{most_lines}
use Rattle.line_plan.specs.Ways.{way_word}
use Rattle.plan_text.specs.Spelled.{both_ways}
use Rattle.plan_text.proofs.LineReads.{IsLine, GoesOn, berth_kind, clear_kind, permissive_kind, then_read}
use Rattle.plan_text.proofs.Middle.{or_false}
use Rattle.plan_text.proofs.BoxReads.{box_names}
use Rattle.plan_text.proofs.WordReads.{fitting_line, number_fits, way_fits, AreNames, name_word_fits, name_reads}
use Rattle.plan_text.proofs.WordReads.{Within, places_read, places_fit, places_room, counted_reads, way_reads}

-- a box with these berths, and nothing behind them
abbrev pub with_berths : BoxFields → Option Berth → Option Berth → BoxFields
with_berths b up down =
    record {
      name = b.name;
      places = b.places;
      levers = b.levers;
      signals = b.signals;
      berth_up = up;
      berth_down =
          down;
      tracks = [];
      rows = [];
    }

-- this berth on that way's line, and the other on the other's
abbrev placed : BoxFields → Way → Option Berth → Option Berth → BoxFields
placed b Up own other = with_berths b own other
placed b Down own other = with_berths b other own

-- a berth as its line alone makes it
abbrev bare : Berth → Berth
bare berth = record { place = berth.place; homes = berth.homes; clearing = []; permissive = None }

abbrev bare_of : Option Berth → Option Berth
bare_of None = None
bare_of (Some berth) = Some (bare berth)

-- and with its clearing places
abbrev clear : Berth → List ℕ → Berth
clear berth clearing = record { place = berth.place; homes = berth.homes; clearing = clearing; permissive = None }

abbrev clear_of : Option Berth → Option Berth
clear_of None = None
clear_of (Some berth) = Some (clear berth berth.clearing)

abbrev full : Berth → Option ℕ → Berth
full berth n = record { place = berth.place; homes = berth.homes; clearing = berth.clearing; permissive = n }

-- ---- berths

some_homes : (homes : List ℕ) → homes ≢ [] → eqb (length homes) 0 ≡ false
some_homes [] h = absurd (h refl)
some_homes (x ∷ homes) h = grind (arith, nat_tests)

with_homes : Berth → List ℕ → Berth
with_homes berth homes = record { place = berth.place; homes = homes; clearing = []; permissive = None }

berth_reads_at : (boxes n : ℕ) (b x : BoxFields) (way : Way) (berth : Berth) → IsBerth boxes n b way berth
    → x.signals ≡ b.signals → homes_of x berth.place ≡ homes_of b berth.place
    → list_any (λ p. eqb p berth.place) (berth_places x) ≡ false
    → berth_at x berth.place ≡ Ok (bare berth)
unfolding berth_at
berth_reads_at boxes n b x way berth is same homes clash =
    let entered : is_entered x.signals berth.place ≡ false =
    ap (λ (ss : _). is_entered ss berth.place) same ∙ is.free in
    let own : homes_of x berth.place ≡ berth.homes = homes ∙ sym is.homes in
    rw (clash, entered, own, some_homes berth.homes is.home) refl

coming_reads : (boxes n : ℕ) (x : BoxFields) (way : Way) → comes_in boxes n way ≡ true → berth_of x way ≡ None
    → coming_in boxes n x (way_word way) ≡ Ok way
unfolding coming_in
coming_reads boxes n x way line none = rw (way_reads way, line, none) refl

berth_step : (boxes n : ℕ) (b : BoxFields) (way : Way) (berth : Berth) (other : Option Berth) → AreNames b.places
    → IsBerth boxes n b way berth → list_any (λ p. eqb p berth.place) (place_of other) ≡ false
    → box_with stages.Berth boxes n (placed b way None other)
    (codes "berth" ∷ way_word way ∷ name_word b.places berth.place ∷ [])
    ≡ Ok (placed b way (Some (bare berth)) other)
unfolding box_with berth_onto
berth_step boxes n b Up berth other are is clash =
    rw (
      coming_reads boxes n (with_berths b None other) Up is.line refl,
      name_reads b.places berth.place are is.place,
      berth_reads_at boxes n b (with_berths b None other) Up berth is refl refl clash,
    ) refl
berth_step boxes n b Down berth other are is clash =
    let none : list_any (λ p. eqb p berth.place) (place_of other ++ []) ≡ false =
    ap (list_any (λ p. eqb p berth.place)) (append-nil (place_of other)) ∙ clash in
    rw (
      coming_reads boxes n (with_berths b other None) Down is.line refl,
      name_reads b.places berth.place are is.place,
      berth_reads_at boxes n b (with_berths b other None) Down berth is refl refl none,
    ) refl

berth_is_line : (b : BoxFields) (way : Way) (berth : Berth) → AreNames b.places → berth.place < length b.places
    → IsLine (codes "berth" ∷ way_word way ∷ name_word b.places berth.place ∷ [])
berth_is_line b way berth are within =
    fitting_line 16 (codes "berth" ∷ way_word way ∷ name_word b.places berth.place ∷ [])
    (rw (way_fits way, name_word_fits b.places berth.place are within) refl) (omega arith) refl

berth_line_kind : (words : List (List ℕ)) → line_kind (keyword (codes "berth" ∷ words)) ≡ Some stages.Berth
unfolding line_kind
berth_line_kind words = refl

one_berth : (d : DraftFields) (b : BoxFields) (way : Way) (o other : Option Berth) (more : List (List (List ℕ)))
    (last : DraftFields) → AreNames b.places → IfSome o (IsBerth d.count (length d.plan.boxes) b way)
    → IfSome o (λ berth. list_any (λ p. eqb p berth.place) (place_of other) ≡ false)
    → GoesOn d 11 (placed b way (bare_of o) other) more last
    → GoesOn d 11 (placed b way None other) (berth_lines b.places way o ++ more) last
one_berth d b way None other more last are is clash go = go
one_berth d b way (Some berth) other more last are is clash go =
    then_read d stages.Berth (placed b way None other) (placed b way (Some (bare berth)) other)
    (codes "berth" ∷ way_word way ∷ name_word b.places berth.place ∷ []) more last berth_kind
    (berth_line_kind (way_word way ∷ name_word b.places berth.place ∷ [])) (berth_is_line b way berth are is.place)
    (berth_step d.count (length d.plan.boxes) b way berth other are is clash) go

-- the berths of both lines differ
differ_by : (u v : ℕ) → all_differ (u ∷ v ∷ []) ≡ true → (eqb v u ≡ false) × (eqb u v ≡ false)
differ_by u v h =
    let none = not_true _ (both (not (eqb v u || false)) (all_differ (v ∷ [])) h).0 in
    let first = (or_false (eqb v u) false none).0 in
    (first, turn first) where
      turn : eqb v u ≡ false → eqb u v ≡ false
      turn e = grind (arith, nat_tests)

clash_up : (up down : Option Berth) → all_differ (place_of up ++ place_of down) ≡ true
    → IfSome up (λ berth. list_any (λ p. eqb p berth.place) (place_of (bare_of down)) ≡ false)
clash_up None down h = tt
clash_up (Some u) None h = refl
clash_up (Some u) (Some v) h = rw ((differ_by u.place v.place h).0) refl

clash_down : (up down : Option Berth) → all_differ (place_of up ++ place_of down) ≡ true
    → IfSome down (λ berth. list_any (λ p. eqb p berth.place) (place_of (bare_of up)) ≡ false)
clash_down up None h = tt
clash_down None (Some v) h = refl
clash_down (Some u) (Some v) h = rw ((differ_by u.place v.place h).1) refl

no_clash : (o : Option Berth) → IfSome o (λ berth. list_any (λ p. eqb p berth.place) (place_of None) ≡ false)
no_clash None = tt
no_clash (Some berth) = refl

regrouped : (d : DraftFields) (high : ℕ) (x : BoxFields) (one two more : List (List (List ℕ))) (last : DraftFields)
    → GoesOn d high x (one ++ (two ++ more)) last → GoesOn d high x ((one ++ two) ++ more) last
regrouped d high x one two more last go =
    subst (λ (ls : List (List (List ℕ))). GoesOn d high x ls last) (sym (append_assoc one two more)) go

-- a box's printed lines `berth`, of either way first, add its berths to the box, without clearing places so far
pub berths_are_read : (d : DraftFields) (b : BoxFields) (first : Way) (more : List (List (List ℕ))) (last : DraftFields)
    → IsBox d.count (length d.plan.boxes) b
    → GoesOn d 11 (with_berths b (bare_of b.berth_up) (bare_of b.berth_down)) more last
    → GoesOn d 11 (with_berths b None None) (both_ways first (λ way. berth_lines b.places way (berth_of b way)) ++ more)
    last
berths_are_read d b Up more last is go =
    let are = box_names d.count (length d.plan.boxes) b is in
    regrouped d 11 (with_berths b None None) (berth_lines b.places Up b.berth_up)
    (berth_lines b.places Down b.berth_down) more last
    (one_berth d b Up b.berth_up None (berth_lines b.places Down b.berth_down ++ more) last are is.berth_up
    (no_clash b.berth_up)
    (one_berth d b Down b.berth_down (bare_of b.berth_up) more last are is.berth_down
    (clash_down b.berth_up b.berth_down is.berths_differ) go))
berths_are_read d b Down more last is go =
    let are = box_names d.count (length d.plan.boxes) b is in
    regrouped d 11 (with_berths b None None) (berth_lines b.places Down b.berth_down)
    (berth_lines b.places Up b.berth_up) more last
    (one_berth d b Down b.berth_down None (berth_lines b.places Up b.berth_up ++ more) last are is.berth_down
    (no_clash b.berth_down)
    (one_berth d b Up b.berth_up (bare_of b.berth_down) more last are is.berth_up
    (clash_up b.berth_up b.berth_down is.berths_differ) go))

-- ---- clearing places

clearing_reads : (b x : BoxFields) (berth : Berth) (w y : List ℕ) (places : List ℕ) → x.places ≡ b.places
    → AreNames b.places → All (Within b.places) places → all_differ (berth.place ∷ places) ≡ true
    → clearing_in x (bare berth) (w ∷ y ∷ place_words b.places places) ≡ Ok places
unfolding clearing_in
clearing_reads b x berth w y places same are all differ = rw (same, places_read b.places [] places are all, differ) refl

clear_counted : (b : BoxFields) (w y : List ℕ) (p : ℕ) (ps : List ℕ) → length (p ∷ ps) ≤ 8
    → counted 3 10 (w ∷ y ∷ place_words b.places (p ∷ ps)) ≡ Ok tt
clear_counted b w y p ps few =
    counted_reads 3 10 (w ∷ y ∷ place_words b.places (p ∷ ps)) (omega arith)
    (omega (arith, few, length-map (p ∷ ps) (name_word b.places)))

clear_step : (boxes n : ℕ) (b : BoxFields) (way : Way) (berth : Berth) (other : Option Berth) (p : ℕ) (ps : List ℕ)
    → AreNames b.places → All (Within b.places) (p ∷ ps) → length (p ∷ ps) ≤ 8
    → all_differ (berth.place ∷ p ∷ ps) ≡ true
    → box_with stages.Clear boxes n (placed b way (Some (bare berth)) other)
    (codes "clear" ∷ way_word way ∷ place_words b.places (p ∷ ps))
    ≡ Ok (placed b way (Some (clear berth (p ∷ ps))) other)
unfolding box_with clear_onto way_in
clear_step boxes n b Up berth other p ps are all few differ =
    rw (
      clear_counted b (codes "clear") (codes "up") p ps few,
      clearing_reads b (with_berths b (Some (bare berth)) other) berth (codes "clear") (codes "up") (p ∷ ps) refl are
          all differ,
    ) refl
clear_step boxes n b Down berth other p ps are all few differ =
    rw (
      clear_counted b (codes "clear") (codes "down") p ps few,
      clearing_reads b (with_berths b other (Some (bare berth))) berth (codes "clear") (codes "down") (p ∷ ps) refl
          are all differ,
    ) refl

clear_is_line : (b : BoxFields) (way : Way) (places : List ℕ) → AreNames b.places → All (Within b.places) places
    → length places ≤ 8 → IsLine (codes "clear" ∷ way_word way ∷ place_words b.places places)
clear_is_line b way places are all few =
    fitting_line 16 (codes "clear" ∷ way_word way ∷ place_words b.places places)
    (rw (way_fits way, places_fit b.places places are all) refl) (omega (arith, places_room b.places places, few)) refl

clear_line_kind : (words : List (List ℕ)) → line_kind (keyword (codes "clear" ∷ words)) ≡ Some stages.Clear
unfolding line_kind
clear_line_kind words = refl

one_clear : (d : DraftFields) (b : BoxFields) (way : Way) (o other : Option Berth) (more : List (List (List ℕ)))
    (last : DraftFields) → AreNames b.places → IfSome o (IsBerth d.count (length d.plan.boxes) b way)
    → GoesOn d 12 (placed b way (clear_of o) other) more last
    → GoesOn d 12 (placed b way (bare_of o) other) (clear_lines b.places way o ++ more) last
one_clear d b way None other more last are is go = go
one_clear d b way (Some berth) other more last are is go = step berth.clearing is.clearing is.few is.differ go where
  step : (places : List ℕ) → All (Within b.places) places → length places ≤ 8 → all_differ (berth.place ∷ places) ≡ true
      → GoesOn d 12 (placed b way (Some (clear berth places)) other) more last
      → GoesOn d 12 (placed b way (Some (bare berth)) other) (clearing_lines b.places way places ++ more) last
  step [] all few differ go = go
  step (p ∷ ps) all few differ go =
      then_read d stages.Clear (placed b way (Some (bare berth)) other)
      (placed b way (Some (clear berth (p ∷ ps))) other)
      (codes "clear" ∷ way_word way ∷ place_words b.places (p ∷ ps)) more last clear_kind
      (clear_line_kind (way_word way ∷ place_words b.places (p ∷ ps))) (clear_is_line b way (p ∷ ps) are all few)
      (clear_step d.count (length d.plan.boxes) b way berth other p ps are all few differ) go

-- a box's printed lines `clear`, of either way first, add their clearing places to its berths
pub clears_are_read : (d : DraftFields) (b : BoxFields) (first : Way) (more : List (List (List ℕ))) (last : DraftFields)
    → IsBox d.count (length d.plan.boxes) b
    → GoesOn d 12 (with_berths b (clear_of b.berth_up) (clear_of b.berth_down)) more last
    → GoesOn d 12 (with_berths b (bare_of b.berth_up) (bare_of b.berth_down))
    (both_ways first (λ way. clear_lines b.places way (berth_of b way)) ++ more) last
clears_are_read d b Up more last is go =
    let are = box_names d.count (length d.plan.boxes) b is in
    regrouped d 12 (with_berths b (bare_of b.berth_up) (bare_of b.berth_down)) (clear_lines b.places Up b.berth_up)
    (clear_lines b.places Down b.berth_down) more last
    (one_clear d b Up b.berth_up (bare_of b.berth_down) (clear_lines b.places Down b.berth_down ++ more) last are
    is.berth_up
    (one_clear d b Down b.berth_down (clear_of b.berth_up) more last are is.berth_down go))
clears_are_read d b Down more last is go =
    let are = box_names d.count (length d.plan.boxes) b is in
    regrouped d 12 (with_berths b (bare_of b.berth_up) (bare_of b.berth_down)) (clear_lines b.places Down b.berth_down)
    (clear_lines b.places Up b.berth_up) more last
    (one_clear d b Down b.berth_down (bare_of b.berth_up) (clear_lines b.places Up b.berth_up ++ more) last are
    is.berth_down
    (one_clear d b Up b.berth_up (clear_of b.berth_down) more last are is.berth_up go))

-- ---- permissive lines

permissive_step : (boxes n : ℕ) (b : BoxFields) (way : Way) (berth : Berth) (other : Option Berth) (most : ℕ) → 1 ≤ most
    → most ≤ 3
    → box_with stages.Permissive boxes n (placed b way (Some (clear berth berth.clearing)) other)
    (codes "permissive" ∷ way_word way ∷ decimal most ∷ [])
    ≡ Ok (placed b way (Some (full berth (Some most))) other)
unfolding box_with permissive_onto way_in
permissive_step boxes n b Up berth other most low high =
    rw (number_in-decimal 1 3 most low high (omega (arith, high))) refl
permissive_step boxes n b Down berth other most low high =
    rw (number_in-decimal 1 3 most low high (omega (arith, high))) refl

permissive_is_line : (way : Way) (most : ℕ) → most ≤ 3 → IsLine (codes "permissive" ∷ way_word way ∷ decimal most ∷ [])
permissive_is_line way most high =
    fitting_line 16 (codes "permissive" ∷ way_word way ∷ decimal most ∷ [])
    (rw (way_fits way, number_fits 16 most (omega arith) (omega (arith, high))) refl) (omega arith) refl

permissive_line_kind : (words : List (List ℕ))
    → line_kind (keyword (codes "permissive" ∷ words)) ≡ Some stages.Permissive
unfolding line_kind
permissive_line_kind words = refl

one_permissive : (d : DraftFields) (b : BoxFields) (way : Way) (o other : Option Berth) (more : List (List (List ℕ)))
    (last : DraftFields) → IfSome o (IsBerth d.count (length d.plan.boxes) b way)
    → GoesOn d 13 (placed b way o other) more last
    → GoesOn d 13 (placed b way (clear_of o) other) (permissive_lines way o ++ more) last
one_permissive d b way None other more last is go = go
one_permissive d b way (Some berth) other more last is go = step berth.permissive is.permissive go where
  step : (most : Option ℕ) → IfSome most (λ n. (1 ≤ n) × (n ≤ 3))
      → GoesOn d 13 (placed b way (Some (full berth most)) other) more last
      → GoesOn d 13 (placed b way (Some (clear berth berth.clearing)) other) (most_lines way most ++ more) last
  step None all go = go
  step (Some n) all go =
      then_read d stages.Permissive (placed b way (Some (clear berth berth.clearing)) other)
      (placed b way (Some (full berth (Some n))) other) (codes "permissive" ∷ way_word way ∷ decimal n ∷ []) more
      last permissive_kind
      (permissive_line_kind (way_word way ∷ decimal n ∷ [])) (permissive_is_line way n all.1)
      (permissive_step d.count (length d.plan.boxes) b way berth other n all.0 all.1) go

-- a box's printed lines `permissive`, of either way first, make its lines permissive as they are
pub permissives_are_read : (d : DraftFields) (b : BoxFields) (first : Way) (more : List (List (List ℕ)))
    (last : DraftFields) → IsBox d.count (length d.plan.boxes) b
    → GoesOn d 13 (with_berths b b.berth_up b.berth_down) more last
    → GoesOn d 13 (with_berths b (clear_of b.berth_up) (clear_of b.berth_down))
    (both_ways first (λ way. permissive_lines way (berth_of b way)) ++ more) last
permissives_are_read d b Up more last is go =
    regrouped d 13 (with_berths b (clear_of b.berth_up) (clear_of b.berth_down)) (permissive_lines Up b.berth_up)
    (permissive_lines Down b.berth_down) more last
    (one_permissive d b Up b.berth_up (clear_of b.berth_down) (permissive_lines Down b.berth_down ++ more) last
    is.berth_up
    (one_permissive d b Down b.berth_down b.berth_up more last is.berth_down go))
permissives_are_read d b Down more last is go =
    regrouped d 13 (with_berths b (clear_of b.berth_up) (clear_of b.berth_down)) (permissive_lines Down b.berth_down)
    (permissive_lines Up b.berth_up) more last
    (one_permissive d b Down b.berth_down (clear_of b.berth_up) (permissive_lines Up b.berth_up ++ more) last
    is.berth_down
    (one_permissive d b Up b.berth_up b.berth_down more last is.berth_up go))

pub ruleset berth_rules = (berths_are_read, clears_are_read, permissives_are_read)
