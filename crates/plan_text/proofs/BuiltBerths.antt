-- A box with a berth, track circuits or a row more.
use Rattle.std.proofs.Common.{◌≡◌, ◌≢◌, ℕ, ◌+◌, ◌<◌, ◌≤◌, Bool, true, false, cond, not, ◌||◌, eqb, leb, List, [], ◌∷◌}
use Rattle.std.proofs.Common.{◌++◌, length, map, drop, Option, None, Some, IsTrue, is_some, Result, Ok, Err, refl, sym}
use Rattle.std.proofs.Common.{ap, subst, ◌∙◌, arith}
use Rattle.std.specs.Prelude.{All, IfSome}
use Rattle.std.specs.List.{list_any, join_with_byte}
use Rattle.std.proofs.lemmas.Bool.Decides.{nat_tests}
use Rattle.std.proofs.lemmas.List.{map-append, length-append, length-drop}
use Rattle.std.proofs.lemmas.List.Elements.{All-nil, All-cons, All-push, All-weaker}
use Rattle.rail_text.specs.Words.{number_in}
use Rattle.rail_text.specs.declared.cause.Cause.{Cause}
use Rattle.rail_text.proofs.Binds.{OfOk, bind_keeps, bind_any, if_keeps, InRange, number_in_is}
use Rattle.block_words.specs.declared.Way.{Way}
use Rattle.block_words.specs.declared.Way.TheVariants.{Up, Down}
use Rattle.locking_table.specs.Reading.{row_of}
use Rattle.locking_table.specs.Sound.{IsRow, all_differ, levers_of}
use Rattle.locking_table.specs.declared.fault.RowFault.{RowFault}
use Rattle.locking_table.specs.declared.row.Row.{Row}
use Rattle.locking_table.proofs.Spelling.{read_is_spelled}
use Rattle.line_plan.specs.declared.frame.Kind.{Kind}
use Rattle.line_plan.specs.declared.frame.Lever.{Lever}
use Rattle.line_plan.specs.declared.signal.Signal.{Signal}
use Rattle.line_plan.specs.declared.signal.TrackLock.{TrackLock}
use Rattle.line_plan.specs.declared.berth.Berth.{Berth}
use Rattle.line_plan.specs.Frames.{BoxFields, lever_of, kind_of, is_working, is_entered, homes_of, berth_of, place_of}
use Rattle.line_plan.specs.Frames.{berth_places}
use Rattle.line_plan.specs.Ways.{comes_in}
use Rattle.line_plan.specs.Plans.{IsPlace, IsWorking, IsSignal, IsBerth, IsTrackLock, IsBoxRow, IsBox}
use Rattle.plan_draft.specs.LineWords.{counted, word, number_in_names, places_onto, way_in, lever_in, working_in}
use Rattle.plan_draft.specs.BoxLines.{coming_in, berth_at, berth_onto, has_berth, clearing_in, clear_onto}
use Rattle.plan_draft.specs.BoxLines.{permissive_onto, track_in, track_onto, spelled_row, worked, all_worked, row_onto}
use Rattle.line_plan.specs.Berths.{with_berth, clearing_at, cleared, permissive_at, permitted}
use Rattle.line_plan.proofs.Listed.{absent_any}
use Rattle.plan_text.proofs.Built.{Built, Unread, number_is, places_are, counted_is}
use Rattle.plan_text.proofs.BuiltSignals.{lever_is, differ_more}

-- the box with these berths, track circuits and rows
abbrev with_rest : BoxFields → Option Berth → Option Berth → List TrackLock → List Row → BoxFields
with_rest box_plan up down tracks rows =
    record box_plan { berth_up = up; berth_down = down; tracks = tracks; rows = rows }

-- what they meet
record AreRest (boxes b : ℕ) (box_plan : BoxFields) (up down : Option Berth) (tracks : List TrackLock)
    (rows : List Row) : Type 0 where
  up_is : IfSome up (IsBerth boxes b box_plan Up)
  down_is : IfSome down (IsBerth boxes b box_plan Down)
  differ : IsTrue (all_differ (place_of up ++ place_of down))
  tracks_are : All (IsTrackLock box_plan) tracks
  one_track : IsTrue (all_differ (map (λ track. track.lever) tracks))
  rows_are : All (IsBoxRow box_plan) rows
  few_rows : length rows ≤ 400

-- each of these speaks of a box's places, levers and signals alone
signal_kept : (boxes b : ℕ) (box_plan : BoxFields) (up down : Option Berth) (tracks : List TrackLock) (rows : List Row)
    (s : Signal) → IsSignal boxes b box_plan s → IsSignal boxes b (with_rest box_plan up down tracks rows) s
signal_kept boxes b box_plan up down tracks rows s h =
    record { lever = h.lever; places = h.places; few = h.few; differ = h.differ; way = h.way }

berth_kept : (boxes b : ℕ) (box_plan : BoxFields) (up down : Option Berth) (tracks : List TrackLock) (rows : List Row)
    (way : Way) (o : Option Berth) → IfSome o (IsBerth boxes b box_plan way)
    → IfSome o (IsBerth boxes b (with_rest box_plan up down tracks rows) way)
berth_kept boxes b box_plan up down tracks rows way None h = tt
berth_kept boxes b box_plan up down tracks rows way (Some berth) h =
    record {
      line = h.line;
      place = h.place;
      free = h.free;
      homes = h.homes;
      home = h.home;
      clearing = h.clearing;
      few =
          h.few;
      differ = h.differ;
      permissive = h.permissive;
    }

track_kept : (box_plan : BoxFields) (up down : Option Berth) (tracks : List TrackLock) (rows : List Row)
    (track : TrackLock) → IsTrackLock box_plan track → IsTrackLock (with_rest box_plan up down tracks rows) track
track_kept box_plan up down tracks rows track h =
    record { lever = h.lever; some = h.some; few = h.few; places = h.places; differ = h.differ }

row_kept : (box_plan : BoxFields) (up down : Option Berth) (tracks : List TrackLock) (rows : List Row) (row : Row)
    → IsBoxRow box_plan row → IsBoxRow (with_rest box_plan up down tracks rows) row
row_kept box_plan up down tracks rows row h = record { spelled = h.spelled; levers = h.levers }

rest_kept : (boxes b : ℕ) (box_plan : BoxFields) (up down : Option Berth) (tracks : List TrackLock) (rows : List Row)
    → IsBox boxes b box_plan → AreRest boxes b box_plan up down tracks rows
    → IsBox boxes b (with_rest box_plan up down tracks rows)
rest_kept boxes b box_plan up down tracks rows h r =
    let next : BoxFields = with_rest box_plan up down tracks rows in
    record {
      named = h.named;
      distinct = h.distinct;
      away = h.away;
      few_places = h.few_places;
      rising = h.rising;
      frame = h.frame;
      signals =
          All-weaker (IsSignal boxes b box_plan) (IsSignal boxes b next)
          (signal_kept boxes b box_plan up down tracks rows) box_plan.signals h.signals;
      one_each = h.one_each;
      starters_last = h.starters_last;
      one_up = h.one_up;
      one_down = h.one_down;
      berth_up = berth_kept boxes b box_plan up down tracks rows Up up r.up_is;
      berth_down = berth_kept boxes b box_plan up down tracks rows Down down r.down_is;
      berths_differ = r.differ;
      tracks = All-weaker (IsTrackLock box_plan) (IsTrackLock next) (track_kept box_plan up down tracks rows) tracks
          r.tracks_are;
      one_track = r.one_track;
      rows = All-weaker (IsBoxRow box_plan) (IsBoxRow next) (row_kept box_plan up down tracks rows) rows r.rows_are;
      few_rows = r.few_rows;
    }

-- ---- berths

-- a berth of the line, where the box has none so far
abbrev Comes : ℕ → ℕ → BoxFields → Way → Type 0
Comes boxes b box_plan way = IsTrue (comes_in boxes b way) × (is_some (berth_of box_plan way) ≡ false)

coming_is : (boxes b : ℕ) (box_plan : BoxFields) (text : List ℕ)
    → OfOk (Comes boxes b box_plan) (coming_in boxes b box_plan text)
unfolding coming_in
coming_is boxes b box_plan text =
    let P = Comes boxes b box_plan in
    bind_any P (way_in text) _ (λ way.
    if_keeps P (not (comes_in boxes b way)) _ _ (λ _. tt) (λ e.
    if_keeps P (is_some (berth_of box_plan way)) _ _ (λ _. tt) (λ free. (not_false (comes_in boxes b way) e, free))))
  where
    not_false : (b : Bool) → not b ≡ false → b ≡ true
    not_false true e = refl
    not_false false e = absurd cc

-- a new berth: which place, and that no other berth is there
abbrev IsNewBerth : BoxFields → ℕ → Berth → Type 0
IsNewBerth box_plan place berth =
    (berth.place ≡ place) × (list_any (λ at. eqb at place) (berth_places box_plan) ≡ false)
    × (is_entered box_plan.signals berth.place ≡ false) × (berth.homes ≡ homes_of box_plan berth.place)
    × (berth.homes ≢ [])
    × (berth.clearing ≡ []) × (berth.permissive ≡ None)

some_home : (xs : List ℕ) → eqb (length xs) 0 ≡ false → xs ≢ []
some_home [] e f = absurd cc
some_home (x ∷ xs) e f = absurd cc

berth_is : (box_plan : BoxFields) (place : ℕ) → OfOk (IsNewBerth box_plan place) (berth_at box_plan place)
unfolding berth_at
berth_is box_plan place =
    let P = IsNewBerth box_plan place in
    if_keeps P (list_any (λ berth. eqb berth place) (berth_places box_plan)) _ _ (λ _. tt) (λ other.
    if_keeps P (is_entered box_plan.signals place) _ _ (λ _. tt) (λ free.
    if_keeps P (eqb (length (homes_of box_plan place)) 0) _ _ (λ _. tt)
    (λ home. (refl, other, free, refl, some_home (homes_of box_plan place) home, refl, refl))))

new_berth : (boxes b : ℕ) (box_plan : BoxFields) (way : Way) (place : ℕ) (berth : Berth) → IsTrue (comes_in boxes b way)
    → IsPlace box_plan place → IsNewBerth box_plan place berth → IsBerth boxes b box_plan way berth
new_berth boxes b box_plan way place berth comes within n = record {
  line = comes;
  place = subst (IsPlace box_plan) (sym n.0) within;
  free = n.2;
  homes = n.3;
  home = n.4;
  clearing = subst (All (IsPlace box_plan)) (sym n.5) (All-nil (IsPlace box_plan));
  few = omega (arith, ap length n.5);
  differ = rw n.5 refl;
  permissive = subst (λ (o : Option ℕ). IfSome o (λ m. (1 ≤ m) × (m ≤ 3))) (sym n.6) tt;
}

two_differ : (a b : ℕ) → eqb b a ≡ false → IsTrue (all_differ (a ∷ b ∷ []))
two_differ a b e = rw e refl

turned : (a b : ℕ) → eqb a b ≡ false → eqb b a ≡ false
turned a b e = grind (arith, nat_tests)

-- a further berth lies elsewhere
up_differs : (up down : Option Berth) (berth : Berth) → is_some up ≡ false
    → list_any (λ at. eqb at berth.place) (place_of up ++ place_of down) ≡ false
    → IsTrue (all_differ (place_of (Some berth) ++ place_of down))
up_differs (Some x) down berth e f = absurd cc
up_differs None None berth e f = refl
up_differs None (Some down) berth e f =
    two_differ berth.place down.place (or_false (eqb down.place berth.place) f) where
      or_false : (a : Bool) → a || false ≡ false → a ≡ false
      or_false true g = absurd cc
      or_false false g = refl

down_differs : (up down : Option Berth) (berth : Berth) → is_some down ≡ false
    → list_any (λ at. eqb at berth.place) (place_of up ++ place_of down) ≡ false
    → IsTrue (all_differ (place_of up ++ place_of (Some berth)))
down_differs up (Some x) berth e f = absurd cc
down_differs None None berth e f = refl
down_differs (Some up) None berth e f =
    two_differ up.place berth.place (turned up.place berth.place (or_false (eqb up.place berth.place) f)) where
      or_false : (a : Bool) → a || false ≡ false → a ≡ false
      or_false true g = absurd cc
      or_false false g = refl

-- what isn't read yet
unread_berths : (k : ℕ) (box_plan : BoxFields) (up down : Option Berth) (kind : ℕ) → k ≤ kind → 11 ≤ kind → kind ≤ 13
    → Unread k box_plan → Unread kind (record box_plan { berth_up = up; berth_down = down })
unread_berths k box_plan up down kind low least most u = record {
  levers = λ less. absurd (omega (arith, less, least));
  signals = λ less. absurd (omega (arith, less, least));
  starters = λ less. absurd (omega (arith, less, least));
  up = λ less. absurd (omega (arith, less, least));
  down = λ less. absurd (omega (arith, less, least));
  tracks = λ less. u.tracks (omega (arith, less, low));
  rows = λ less. u.rows (omega (arith, less, low));
}

with_berth_built : (boxes b k : ℕ) (own : List ℕ) (box_plan : BoxFields) (way : Way) (place : ℕ) (berth : Berth)
    → k ≤ 11 → Built boxes b k own box_plan → Comes boxes b box_plan way → IsPlace box_plan place
    → IsNewBerth box_plan place berth → Built boxes b 11 own (with_berth box_plan way berth)
with_berth_built boxes b k own box_plan Up place berth low h comes within n =
    let absent = subst (λ (p : ℕ). list_any (λ at. eqb at p) (berth_places box_plan) ≡ false) (sym n.0) n.1 in
    record {
      is = rest_kept boxes b box_plan (Some berth) box_plan.berth_down box_plan.tracks box_plan.rows h.is
          (record {
            up_is = new_berth boxes b box_plan Up place berth comes.0 within n;
            down_is =
                h.is.berth_down;
            differ = up_differs box_plan.berth_up box_plan.berth_down berth comes.1 absent;
            tracks_are =
                h.is.tracks;
            one_track = h.is.one_track;
            rows_are = h.is.rows;
            few_rows = h.is.few_rows;
          });
      unread = unread_berths k box_plan (Some berth) box_plan.berth_down 11 low (omega arith) (omega arith) h.unread;
      name = h.name;
    }
with_berth_built boxes b k own box_plan Down place berth low h comes within n =
    let absent = subst (λ (p : ℕ). list_any (λ at. eqb at p) (berth_places box_plan) ≡ false) (sym n.0) n.1 in
    record {
      is = rest_kept boxes b box_plan box_plan.berth_up (Some berth) box_plan.tracks box_plan.rows h.is
          (record {
            up_is = h.is.berth_up;
            down_is =
                new_berth boxes b box_plan Down place berth comes.0 within n;
            differ =
                down_differs box_plan.berth_up box_plan.berth_down berth comes.1 absent;
            tracks_are = h.is.tracks;
            one_track =
                h.is.one_track;
            rows_are = h.is.rows;
            few_rows = h.is.few_rows;
          });
      unread = unread_berths k box_plan box_plan.berth_up (Some berth) 11 low (omega arith) (omega arith) h.unread;
      name = h.name;
    }

-- a box with a berth more still meets the conditions of a box
pub berth_keeps : (boxes b k : ℕ) (own : List ℕ) (box_plan : BoxFields) (words : List (List ℕ)) → k ≤ 11
    → Built boxes b k own box_plan → OfOk (Built boxes b 11 own) (berth_onto boxes b box_plan words)
unfolding berth_onto
berth_keeps boxes b k own box_plan words low h =
    let P = Built boxes b 11 own in
    bind_any P (counted 3 3 words) _ (λ _.
    bind_keeps (Comes boxes b box_plan) P (coming_in boxes b box_plan (word 1 words)) _
    (coming_is boxes b box_plan (word 1 words)) (λ way comes.
    bind_keeps (IsPlace box_plan) P (number_in_names box_plan.places (word 2 words)) _
    (number_is box_plan.places (word 2 words)) (λ place within.
    bind_keeps (IsNewBerth box_plan place) P (berth_at box_plan place) _ (berth_is box_plan place)
    (λ berth n. with_berth_built boxes b k own box_plan way place berth low h comes within n))))

-- ---- clearing places, and permissive lines

has_is : (o : Option Berth) → OfOk (λ berth. o ≡ Some berth) (has_berth o)
has_is None = tt
has_is (Some berth) = refl

-- clearing places of a berth
abbrev AreClearing : BoxFields → Berth → List ℕ → Type 0
AreClearing box_plan berth places =
    All (IsPlace box_plan) places × (length places ≤ 8) × IsTrue (all_differ (berth.place ∷ places))

clearing_is : (box_plan : BoxFields) (berth : Berth) (words : List (List ℕ)) → length words ≤ 10
    → OfOk (AreClearing box_plan berth) (clearing_in box_plan berth words)
unfolding clearing_in
clearing_is box_plan berth words few =
    let P = AreClearing box_plan berth in
    bind_keeps
    (λ ps. All (λ p. p < length box_plan.places) ps × (length ps ≡ length {A = ℕ} [] + length (drop 2 words))) P
    (places_onto box_plan.places [] (drop 2 words)) _
    (places_are box_plan.places [] (drop 2 words) (All-nil (λ p. p < length box_plan.places)))
    (λ places are. if_keeps P (all_differ (berth.place ∷ places)) _ _
    (λ differ. (are.0, omega (arith, are.1, length-drop 2 words, few), differ)) (λ _. tt))

clearing_kept : (boxes b : ℕ) (box_plan : BoxFields) (way : Way) (o : Option Berth) (berth : Berth) (places : List ℕ)
    → o ≡ Some berth → IfSome o (IsBerth boxes b box_plan way) → AreClearing box_plan berth places
    → IfSome (clearing_at places o) (IsBerth boxes b box_plan way)
clearing_kept boxes b box_plan way None berth places e h c = tt
clearing_kept boxes b box_plan way (Some own) berth places e h c =
    let same : berth.place ≡ own.place = cc in
    record {
      line = h.line;
      place = h.place;
      free = h.free;
      homes = h.homes;
      home = h.home;
      clearing = c.0;
      few =
          c.1;
      differ = subst (λ (p : ℕ). IsTrue (all_differ (p ∷ places))) same c.2;
      permissive = h.permissive;
    }

clearing_places : (o : Option Berth) (places : List ℕ) → place_of (clearing_at places o) ≡ place_of o
clearing_places None places = refl
clearing_places (Some berth) places = refl

cleared_built : (boxes b k : ℕ) (own : List ℕ) (box_plan : BoxFields) (way : Way) (berth : Berth) (places : List ℕ)
    → k ≤ 12 → Built boxes b k own box_plan → berth_of box_plan way ≡ Some berth → AreClearing box_plan berth places
    → Built boxes b 12 own (cleared box_plan way places)
cleared_built boxes b k own box_plan Up berth places low h e c =
    record {
      is = rest_kept boxes b box_plan (clearing_at places box_plan.berth_up) box_plan.berth_down box_plan.tracks
          box_plan.rows h.is
          (record {
            up_is =
                clearing_kept boxes b box_plan Up box_plan.berth_up berth places e h.is.berth_up c;
            down_is =
                h.is.berth_down;
            differ = rw (clearing_places box_plan.berth_up places) h.is.berths_differ;
            tracks_are =
                h.is.tracks;
            one_track = h.is.one_track;
            rows_are = h.is.rows;
            few_rows = h.is.few_rows;
          });
      unread = unread_berths k box_plan (clearing_at places box_plan.berth_up) box_plan.berth_down 12 low (omega arith)
          (omega arith) h.unread;
      name = h.name;
    }
cleared_built boxes b k own box_plan Down berth places low h e c =
    record {
      is = rest_kept boxes b box_plan box_plan.berth_up (clearing_at places box_plan.berth_down) box_plan.tracks
          box_plan.rows h.is
          (record {
            up_is = h.is.berth_up;
            down_is =
                clearing_kept boxes b box_plan Down box_plan.berth_down berth places e h.is.berth_down c;
            differ =
                rw (clearing_places box_plan.berth_down places) h.is.berths_differ;
            tracks_are = h.is.tracks;
            one_track =
                h.is.one_track;
            rows_are = h.is.rows;
            few_rows = h.is.few_rows;
          });
      unread = unread_berths k box_plan box_plan.berth_up (clearing_at places box_plan.berth_down) 12 low (omega arith)
          (omega arith) h.unread;
      name = h.name;
    }

-- a box with clearing places for a berth still meets the conditions of a box
pub clear_keeps : (boxes b k : ℕ) (own : List ℕ) (box_plan : BoxFields) (words : List (List ℕ)) → k ≤ 12
    → Built boxes b k own box_plan → OfOk (Built boxes b 12 own) (clear_onto box_plan words)
unfolding clear_onto
clear_keeps boxes b k own box_plan words low h =
    let P = Built boxes b 12 own in
    bind_keeps (λ _. (3 ≤ length words) × (length words ≤ 10)) P (counted 3 10 words) _ (counted_is 3 10 words)
    (λ _ few.
    bind_any P (way_in (word 1 words)) _ (λ way.
    bind_keeps (λ berth. berth_of box_plan way ≡ Some berth) P (has_berth (berth_of box_plan way)) _
    (has_is (berth_of box_plan way)) (λ berth e.
    bind_keeps (AreClearing box_plan berth) P
    (cond (eqb (length berth.clearing) 0) (clearing_in box_plan berth words) _) _
    (if_keeps (AreClearing box_plan berth) (eqb (length berth.clearing) 0) _ _
    (λ _. clearing_is box_plan berth words few.1) (λ _. tt))
    (λ places c. cleared_built boxes b k own box_plan way berth places low h e c))))

permissive_kept : (boxes b : ℕ) (box_plan : BoxFields) (way : Way) (o : Option Berth) (n : ℕ) → 1 ≤ n → n ≤ 3
    → IfSome o (IsBerth boxes b box_plan way) → IfSome (permissive_at n o) (IsBerth boxes b box_plan way)
permissive_kept boxes b box_plan way None n low high h = tt
permissive_kept boxes b box_plan way (Some own) n low high h =
    record {
      line = h.line;
      place = h.place;
      free = h.free;
      homes = h.homes;
      home = h.home;
      clearing = h.clearing;
      few =
          h.few;
      differ = h.differ;
      permissive = (low, high);
    }

permissive_places : (o : Option Berth) (n : ℕ) → place_of (permissive_at n o) ≡ place_of o
permissive_places None n = refl
permissive_places (Some berth) n = refl

permitted_built : (boxes b k : ℕ) (own : List ℕ) (box_plan : BoxFields) (way : Way) (n : ℕ) → k ≤ 13
    → Built boxes b k own box_plan → 1 ≤ n → n ≤ 3 → Built boxes b 13 own (permitted box_plan way n)
permitted_built boxes b k own box_plan Up n low h least most =
    record {
      is = rest_kept boxes b box_plan (permissive_at n box_plan.berth_up) box_plan.berth_down box_plan.tracks
          box_plan.rows h.is
          (record {
            up_is = permissive_kept boxes b box_plan Up box_plan.berth_up n least most h.is.berth_up;
            down_is =
                h.is.berth_down;
            differ = rw (permissive_places box_plan.berth_up n) h.is.berths_differ;
            tracks_are =
                h.is.tracks;
            one_track = h.is.one_track;
            rows_are = h.is.rows;
            few_rows = h.is.few_rows;
          });
      unread = unread_berths k box_plan (permissive_at n box_plan.berth_up) box_plan.berth_down 13 low (omega arith)
          (omega arith) h.unread;
      name = h.name;
    }
permitted_built boxes b k own box_plan Down n low h least most =
    record {
      is = rest_kept boxes b box_plan box_plan.berth_up (permissive_at n box_plan.berth_down) box_plan.tracks
          box_plan.rows h.is
          (record {
            up_is = h.is.berth_up;
            down_is =
                permissive_kept boxes b box_plan Down box_plan.berth_down n least most h.is.berth_down;
            differ =
                rw (permissive_places box_plan.berth_down n) h.is.berths_differ;
            tracks_are = h.is.tracks;
            one_track =
                h.is.one_track;
            rows_are = h.is.rows;
            few_rows = h.is.few_rows;
          });
      unread = unread_berths k box_plan box_plan.berth_up (permissive_at n box_plan.berth_down) 13 low (omega arith)
          (omega arith) h.unread;
      name = h.name;
    }

-- a box with a line made permissive still meets the conditions of a box
pub permissive_keeps : (boxes b k : ℕ) (own : List ℕ) (box_plan : BoxFields) (words : List (List ℕ)) → k ≤ 13
    → Built boxes b k own box_plan → OfOk (Built boxes b 13 own) (permissive_onto box_plan words)
unfolding permissive_onto
permissive_keeps boxes b k own box_plan words low h =
    let P = Built boxes b 13 own in
    bind_any P (counted 3 3 words) _ (λ _.
    bind_any P (way_in (word 1 words)) _ (λ way.
    bind_any P (has_berth (berth_of box_plan way)) _ (λ berth.
    bind_keeps (InRange 1 3 (word 2 words)) P (cond (is_some berth.permissive) _ (number_in 1 3 (word 2 words))) _
    (if_keeps (InRange 1 3 (word 2 words)) (is_some berth.permissive) _ _ (λ _. tt)
    (λ _. number_in_is 1 3 (word 2 words)))
    (λ n r. permitted_built boxes b k own box_plan way n low h r.1 r.2))))

-- ---- track circuits and rows

working_is : (box_plan : BoxFields) (text : List ℕ) → OfOk (IsWorking box_plan) (working_in box_plan text)
unfolding working_in
working_is box_plan text =
    bind_keeps (λ lever. lever_of box_plan lever.number ≡ Some lever) (IsWorking box_plan) (lever_in box_plan text) _
    (lever_is box_plan text) (λ lever e.
    if_keeps (IsWorking box_plan) (is_working (Some lever.kind)) _ _
    (λ w. ap (λ (o : Option Lever). is_working (kind_at o)) e ∙ w) (λ _. tt)) where
      kind_at : Option Lever → Option Kind
      kind_at None = None
      kind_at (Some lever) = Some lever.kind

unread_tracks : (k : ℕ) (box_plan : BoxFields) (tracks : List TrackLock) → k ≤ 14 → Unread k box_plan
    → Unread 14 (record box_plan { tracks = tracks })
unread_tracks k box_plan tracks low u = record {
  levers = λ less. absurd (omega (arith, less));
  signals = λ less. absurd (omega (arith, less));
  starters = λ less. absurd (omega (arith, less));
  up = λ less. absurd (omega (arith, less));
  down = λ less. absurd (omega (arith, less));
  tracks = λ less. absurd (omega (arith, less));
  rows = λ less. u.rows (omega (arith, less, low));
}

unread_rows : (box_plan : BoxFields) (rows : List Row) → Unread 15 (record box_plan { rows = rows })
unread_rows box_plan rows = record {
  levers = λ less. absurd (omega (arith, less));
  signals = λ less. absurd (omega (arith, less));
  starters = λ less. absurd (omega (arith, less));
  up = λ less. absurd (omega (arith, less));
  down = λ less. absurd (omega (arith, less));
  tracks = λ less. absurd (omega (arith, less));
  rows = λ less. absurd (omega (arith, less));
}

abbrev IsFreeLever : BoxFields → ℕ → Type 0
IsFreeLever box_plan lever =
    IsWorking box_plan lever × (list_any (λ track. eqb track.lever lever) box_plan.tracks ≡ false)

track_lever_is : (box_plan : BoxFields) (text : List ℕ) → OfOk (IsFreeLever box_plan) (track_in box_plan text)
unfolding track_in
track_lever_is box_plan text =
    bind_keeps (IsWorking box_plan) (IsFreeLever box_plan) (working_in box_plan text) _ (working_is box_plan text)
    (λ lever w.
    if_keeps (IsFreeLever box_plan) (list_any (λ track. eqb track.lever lever) box_plan.tracks) _ _ (λ _. tt)
    (λ free. (w, free)))

-- a box with a line of track circuits more still meets the conditions of a box
pub track_keeps : (boxes b k : ℕ) (own : List ℕ) (box_plan : BoxFields) (words : List (List ℕ)) → k ≤ 14
    → Built boxes b k own box_plan → OfOk (Built boxes b 14 own) (track_onto box_plan words)
unfolding track_onto
track_keeps boxes b k own box_plan words low h =
    let P = Built boxes b 14 own in
    bind_keeps (λ _. (3 ≤ length words) × (length words ≤ 10)) P (counted 3 10 words) _ (counted_is 3 10 words)
    (λ _ few.
    bind_keeps (IsFreeLever box_plan) P (track_in box_plan (word 1 words)) _ (track_lever_is box_plan (word 1 words))
    (λ lever free.
    bind_keeps
    (λ ps. All (λ p. p < length box_plan.places) ps × (length ps ≡ length {A = ℕ} [] + length (drop 2 words))) P
    (places_onto box_plan.places [] (drop 2 words)) _
    (places_are box_plan.places [] (drop 2 words) (All-nil (λ p. p < length box_plan.places)))
    (λ places are. if_keeps P (all_differ places) _ _ (λ differ.
    let track : TrackLock = record { lever = lever; places = places } in
    let new : IsTrackLock box_plan track = record {
      lever = free.0;
      some = omega (arith, are.1, length-drop 2 words, few.0);
      few = omega (arith, are.1, length-drop 2 words, few.1);
      places = are.0;
      differ = differ;
    } in
    let each : IsTrue (all_differ (map (λ t. t.lever) box_plan.tracks ++ lever ∷ [])) =
    differ_more (map (λ t. t.lever) box_plan.tracks) lever h.is.one_track
    (absent_any (λ t. t.lever) lever box_plan.tracks free.1) in
    record {
      is = rest_kept boxes b box_plan box_plan.berth_up box_plan.berth_down (box_plan.tracks ++ track ∷ [])
          box_plan.rows h.is
          (record {
            up_is = h.is.berth_up;
            down_is = h.is.berth_down;
            differ = h.is.berths_differ;
            tracks_are =
                All-push (IsTrackLock box_plan) box_plan.tracks track h.is.tracks new;
            one_track =
                rw (map-append (λ (t : TrackLock). t.lever) box_plan.tracks (track ∷ [])) each;
            rows_are =
                h.is.rows;
            few_rows = h.is.few_rows;
          });
      unread = unread_tracks k box_plan (box_plan.tracks ++ track ∷ []) low h.unread;
      name = h.name;
    }) (λ _. tt))))

spelled_is : (r : Result Row RowFault) → ((row : Row) → r ≡ Ok row → IsRow row) → OfOk IsRow (spelled_row r)
spelled_is (Ok row) h = h row refl
spelled_is (Err e) h = tt

worked_is : (o : Option Kind) → OfOk (λ _. IsTrue (is_working o)) (worked o)
worked_is None = tt
worked_is (Some kind) = if_keeps (λ _. IsTrue (is_working (Some kind))) (is_working (Some kind)) _ _ (λ e. e) (λ _. tt)

all_worked_is : (box_plan : BoxFields) (levers : List ℕ)
    → OfOk (λ _. All (IsWorking box_plan) levers) (all_worked box_plan levers)
unfolding all_worked
all_worked_is box_plan [] = All-nil (IsWorking box_plan)
all_worked_is box_plan (lever ∷ levers) =
    bind_keeps (λ _. IsTrue (is_working (kind_of box_plan lever))) (λ _. All (IsWorking box_plan) (lever ∷ levers))
    (worked (kind_of box_plan lever)) _ (worked_is (kind_of box_plan lever))
    (λ _ w. more w (all_worked box_plan levers) (all_worked_is box_plan levers)) where
      more : IsWorking box_plan lever → (r : Result (Unit {0}) Cause) → OfOk (λ _. All (IsWorking box_plan) levers) r
          → OfOk (λ _. All (IsWorking box_plan) (lever ∷ levers)) r
      more w (Ok x) h = All-cons (IsWorking box_plan) lever levers w h
      more w (Err e) h = tt

-- a box with a row more still meets the conditions of a box
pub row_keeps : (boxes b k : ℕ) (own : List ℕ) (box_plan : BoxFields) (words : List (List ℕ)) → k ≤ 15
    → Built boxes b k own box_plan → OfOk (Built boxes b 15 own) (row_onto box_plan words)
unfolding row_onto
row_keeps boxes b k own box_plan words low h =
    let P = Built boxes b 15 own in
    let text = join_with_byte 32 (drop 1 words) in
    bind_keeps IsRow P (spelled_row (row_of text)) _
    (spelled_is (row_of text) (λ row e. (read_is_spelled text row e).0)) (λ row spelled.
    bind_keeps (λ _. All (IsWorking box_plan) (levers_of row)) P (all_worked box_plan (levers_of row)) _
    (all_worked_is box_plan (levers_of row)) (λ _ levers.
    if_keeps P (leb 400 (length box_plan.rows)) _ _ (λ _. tt) (λ room.
    let new : IsBoxRow box_plan row = record { spelled = spelled; levers = levers } in
    let few : length (box_plan.rows ++ row ∷ []) ≤ 400 =
    grind (arith, nat_tests, length-append box_plan.rows (row ∷ [])) in
    record {
      is = rest_kept boxes b box_plan box_plan.berth_up box_plan.berth_down box_plan.tracks (box_plan.rows ++ row ∷ [])
          h.is (record {
            up_is = h.is.berth_up;
            down_is = h.is.berth_down;
            differ = h.is.berths_differ;
            tracks_are =
                h.is.tracks;
            one_track = h.is.one_track;
            rows_are =
                All-push (IsBoxRow box_plan) box_plan.rows row h.is.rows new;
            few_rows = few;
          });
      unread = unread_rows box_plan (box_plan.rows ++ row ∷ []);
      name = h.name;
    })))
