-- A plan of at most 32 boxes is printed within the limit of a text.
use Rattle.std.proofs.Common.{◌≡◌, ℕ, zero, suc, ◌+◌, ◌*◌, ◌<◌, ◌≤◌, Bool, true, false, not, ◌||◌, eqb, ltb, List}
use Rattle.std.proofs.Common.{[], ◌∷◌, ◌++◌, length, map, drop, Option, None, Some, refl, sym, ap, subst, arith}
use Rattle.std.proofs.Common.{codes, decimal}
use Rattle.std.specs.Prelude.{All}
use Rattle.std.specs.List.{flat_map, list_all, list_any, AllByRecursion, IsDistinct}
use Rattle.std.proofs.lemmas.Bool.Decides.{nat_tests}
use Rattle.std.proofs.lemmas.Fmt.{length-decimal-le}
use Rattle.std.proofs.lemmas.List.{length-append, length-drop, length-map}
use Rattle.std.proofs.lemmas.List.Elements.{All-cons, All-head, All-nil, All-tail}
use Rattle.std.proofs.lemmas.Map.Steps.{length-le_from_distinct_below}
use Rattle.rail_text.specs.Words.{is_name}
use Rattle.rail_text.proofs.PrintedLines.{both, not_true}
use Rattle.rail_text.proofs.PrintedWords.{length-name}
use Rattle.block_words.specs.declared.Way.{Way}
use Rattle.block_words.specs.declared.Way.TheVariants.{Up, Down}
use Rattle.locking_table.specs.Places.{IsLever}
use Rattle.locking_table.specs.Printing.{end_word, kind_words, when_words}
use Rattle.locking_table.specs.Sound.{CondFits, IsRow, all_differ}
use Rattle.locking_table.specs.Words.{joined, spaced}
use Rattle.locking_table.specs.declared.places.End.{End}
use Rattle.locking_table.specs.declared.places.End.TheVariants.{Normal, Reversed}
use Rattle.locking_table.specs.declared.row.Cond.{Cond}
use Rattle.locking_table.specs.declared.row.Row.{Row}
use Rattle.locking_table.specs.declared.row.RowKind.{RowKind}
use Rattle.locking_table.specs.declared.row.RowKind.TheVariants.{LocksNormal, ReleasedBy, LocksBoth}
use Rattle.line_plan.specs.declared.berth.Berth.{Berth}
use Rattle.line_plan.specs.declared.frame.Kind.{Kind}
use Rattle.line_plan.specs.declared.frame.Kind.TheVariants as kinds
use Rattle.line_plan.specs.declared.frame.Lever.{Lever}
use Rattle.line_plan.specs.declared.plan.TrainPlan.{TrainPlan}
use Rattle.line_plan.specs.declared.signal.Signal.{Signal}
use Rattle.line_plan.specs.declared.signal.TrackLock.{TrackLock}
use Rattle.line_plan.specs.Frames.{BoxFields, are_rising, is_working, kind_of, last_number}
use Rattle.line_plan.specs.Limits.{most_bytes}
use Rattle.line_plan.specs.Plans.{IsBox, IsBoxRow, IsPlan, IsSignal, IsTrackLock, IsTrain, IsWorking, PlanFields}
use Rattle.line_plan.specs.Plans.{box_at, names_of, names_of_classes, names_of_trains}
use Rattle.plan_text.specs.Printing.{berth_lines, box_lines, class_line, clear_lines, clearing_lines}
use Rattle.plan_text.specs.Printing.{front_lines, head_lines, lever_line, most_lines, name_word, permissive_lines}
use Rattle.plan_text.specs.Printing.{place_line, plan_lines, plan_text, printed_words, row_line, signal_line}
use Rattle.plan_text.specs.Printing.{track_line, train_line, way_lines}
use Rattle.plan_text.proofs.BoxReads.{box_frame}
use Rattle.plan_text.proofs.LineReads.{AreLines, IsLine}
use Rattle.plan_text.proofs.Middle.{or_false}
use Rattle.plan_text.proofs.PlanReads.{plan_is_read}
use Rattle.plan_text.proofs.PrintedSizes.{size, size-append, size-cons}
use Rattle.plan_text.proofs.SpelledPlans.{lines_same}
use Rattle.plan_text.proofs.WordReads.{has_lever, joined_same}

-- ---- lines that have their form

lines_left : (one other : List (List (List ℕ))) → AreLines (one ++ other) → AreLines one
lines_left [] other h = tt
lines_left (words ∷ one) other h = (h.0, lines_left one other h.1)

lines_right : (one other : List (List (List ℕ))) → AreLines (one ++ other) → AreLines other
lines_right [] other h = h
lines_right (words ∷ one) other h = lines_right one other h.1

line_fits : (words : List (List ℕ)) → IsLine words → length (printed_words words) ≤ 201
line_fits words line =
    let own : length (joined words ++ 10 ∷ []) ≡ length (joined words) + 1 = length-append (joined words) (10 ∷ []) in
    omega (arith, own, ap length (joined_same words), line.short)

-- each has at most 200 bytes and its end
lines_fit : (lines : List (List (List ℕ))) → AreLines lines → size lines ≤ 201 * length lines
lines_fit [] h = omega arith
lines_fit (words ∷ lines) h = omega (arith, size-cons words lines, line_fits words h.0, lines_fit lines h.1)

-- ---- lines by their words

-- the bytes of words, with one more for each
abbrev spread : List (List ℕ) → ℕ
spread [] = 0
spread (word ∷ words) = length word + 1 + spread words

spread-append : (one other : List (List ℕ)) → spread (one ++ other) ≡ spread one + spread other
spread-append [] other = omega arith
spread-append (word ∷ one) other = omega (arith, spread-append one other)

length-spaced : (words : List (List ℕ)) → length (spaced words) ≡ spread words
length-spaced [] = refl
length-spaced (word ∷ words) = omega (arith, length-append (32 ∷ word) (spaced words), length-spaced words)

-- a line that has a word
length-line : (word : List ℕ) (words : List (List ℕ)) → length (printed_words (word ∷ words)) ≡ spread (word ∷ words)
length-line word words =
    let whole : length ((word ++ spaced words) ++ 10 ∷ []) ≡ length (word ++ spaced words) + 1 =
    length-append (word ++ spaced words) (10 ∷ []) in
    omega (arith, whole, length-append word (spaced words), length-spaced words)

-- ---- rows

lever_digits : (n : ℕ) → IsLever 120 n → length (decimal n) ≤ 3
lever_digits n h = length-decimal-le 3 n (omega arith) (omega (arith, h.1)) (omega (arith, h.1))

end_length : (e : End) → length (end_word e) ≤ 8
end_length Normal = omega arith
end_length Reversed = omega arith

kind_spread : (kind : RowKind) (object : ℕ) → IsLever 120 object → spread (kind_words kind object) ≤ 20
kind_spread LocksNormal object h = omega (arith, lever_digits object h)
kind_spread ReleasedBy object h = omega (arith, lever_digits object h)
kind_spread LocksBoth object h = omega (arith, lever_digits object h)

when_spread : (conds : List Cond) → All (CondFits 120) conds → length conds ≤ 2 → spread (when_words conds) ≤ 35
when_spread [] h few = omega arith
when_spread (c ∷ []) h few = omega (arith, lever_digits c.lever (All-head (CondFits 120) c [] h), end_length c.end)
when_spread (c ∷ e ∷ []) h few =
    let own = All-head (CondFits 120) c (e ∷ []) h in
    let other = All-head (CondFits 120) e [] (All-tail (CondFits 120) c (e ∷ []) h) in
    omega (arith, lever_digits c.lever own, end_length c.end, lever_digits e.lever other, end_length e.end)
when_spread (c ∷ e ∷ f ∷ conds) h few = absurd (omega (arith, few))

row_fits : (row : Row) → IsRow row → length (printed_words (row_line row)) ≤ 63
row_fits row is =
    let own = lever_digits row.subject is.levers.subject in
    let kind = kind_spread row.kind row.object is.levers.object in
    let when = when_spread row.when is.levers.when is.few in
    let rest = kind_words row.kind row.object ++ when_words row.when in
    let line = length-line (codes "row") (decimal row.subject ∷ rest) in
    omega (arith, line, own, kind, when, spread-append (kind_words row.kind row.object) (when_words row.when))

rows_fit : (b : BoxFields) (rows : List Row) → All (IsBoxRow b) rows → size (map row_line rows) ≤ 63 * length rows
rows_fit b [] h = omega arith
rows_fit b (row ∷ rows) h =
    let own : IsBoxRow b row = All-head (IsBoxRow b) row rows h in
    let first = row_fits row own.spelled in
    let rest = rows_fit b rows (All-tail (IsBoxRow b) row rows h) in
    omega (arith, size-cons (row_line row) (map row_line rows), first, rest)

-- ---- how many levers, signals and track circuits a box has

less_is : (a b : ℕ) → ltb a b ≡ true → a < b
less_is a b h = grind (arith, nat_tests)

rising_few : (before : ℕ) (levers : List Lever) → are_rising before levers ≡ true
    → before + length levers ≤ last_number before levers
rising_few before [] h = omega arith
rising_few before (lever ∷ levers) h =
    let parts = both (ltb before lever.number) (are_rising lever.number levers) h in
    omega (arith, less_is before lever.number parts.0, rising_few lever.number levers parts.1)

turned : (a b : ℕ) → eqb a b ≡ false → eqb b a ≡ false
turned a b e = grind (arith, nat_tests)

none_equal : (n : ℕ) (ns : List ℕ) → list_any (λ m. eqb m n) ns ≡ false → AllByRecursion (λ m. eqb n m ≡ false) ns
none_equal n [] h = tt
none_equal n (m ∷ ns) h =
    let parts = or_false (eqb m n) (list_any (λ k. eqb k n) ns) h in
    (turned m n parts.0, none_equal n ns parts.1)

distinct : (ns : List ℕ) → all_differ ns ≡ true → IsDistinct eqb ns
unfolding IsDistinct
distinct [] h = tt
distinct (n ∷ ns) h =
    let parts = both (not (list_any (λ m. eqb m n) ns)) (all_differ ns) h in
    (none_equal n ns (not_true (list_any (λ m. eqb m n) ns) parts.0), distinct ns parts.1)

below_all : (ns : List ℕ) (q : ℕ) → All (λ n. n ≤ 120) ns → list_any (eqb q) ns ≡ true → q < 121
below_all [] q h is = absurd cc
below_all (n ∷ ns) q h is =
    go (eqb q n) refl (All-head (λ k. k ≤ 120) n ns h) (below_all ns q (All-tail (λ k. k ≤ 120) n ns h)) is where
      go : (t : Bool) → eqb q n ≡ t → n ≤ 120 → (list_any (eqb q) ns ≡ true → q < 121)
          → t || list_any (eqb q) ns ≡ true → q < 121
      go true e high rest is = grind (arith, nat_tests)
      go false e high rest is = rest is

-- numbers of levers that all differ are few
differing_few : (ns : List ℕ) → All (λ n. n ≤ 120) ns → all_differ ns ≡ true → length ns ≤ 121
differing_few ns h d = length-le_from_distinct_below ns 121 (distinct ns d) (λ q is. below_all ns q h is)

lever_high : (boxes n : ℕ) (b : BoxFields) (lever : ℕ) → IsBox boxes n b → IsWorking b lever → lever ≤ 120
lever_high boxes n b lever is works = go (kind_of b lever) refl works where
  go : (o : Option Kind) → kind_of b lever ≡ o → is_working o ≡ true → lever ≤ 120
  go None e f = absurd cc
  go (Some kind) e f = let h = has_lever b lever kind (box_frame boxes n b is) e in h.high

signals_high : (boxes n : ℕ) (b : BoxFields) (signals : List Signal) → IsBox boxes n b
    → All (IsSignal boxes n b) signals → All (λ k. k ≤ 120) (map (λ signal. signal.lever) signals)
signals_high boxes n b [] is h = All-nil (λ k. k ≤ 120)
signals_high boxes n b (signal ∷ signals) is h =
    let own : IsSignal boxes n b signal = All-head (IsSignal boxes n b) signal signals h in
    let rest = All-tail (IsSignal boxes n b) signal signals h in
    let there = has_lever b signal.lever kinds.Signal (box_frame boxes n b is) own.lever in
    All-cons (λ k. k ≤ 120) signal.lever (map (λ s. s.lever) signals) there.high
    (signals_high boxes n b signals is rest)

tracks_high : (boxes n : ℕ) (b : BoxFields) (tracks : List TrackLock) → IsBox boxes n b
    → All (IsTrackLock b) tracks → All (λ k. k ≤ 120) (map (λ track. track.lever) tracks)
tracks_high boxes n b [] is h = All-nil (λ k. k ≤ 120)
tracks_high boxes n b (track ∷ tracks) is h =
    let own : IsTrackLock b track = All-head (IsTrackLock b) track tracks h in
    let rest = All-tail (IsTrackLock b) track tracks h in
    All-cons (λ k. k ≤ 120) track.lever (map (λ t. t.lever) tracks) (lever_high boxes n b track.lever is own.lever)
    (tracks_high boxes n b tracks is rest)

-- ---- the lines of a box

front_few : (boxes n : ℕ) (b : BoxFields) → IsBox boxes n b → length (front_lines b) ≤ 306
front_few boxes n b is =
    let places = map place_line b.places in
    let levers = map lever_line b.levers in
    let signals = map (signal_line b.places) b.signals in
    let high = signals_high boxes n b b.signals is is.signals in
    let own = differing_few (map (λ s. s.lever) b.signals) high is.one_each in
    omega (
      arith,
      length-append (places ++ levers) signals,
      length-append places levers,
      length-map b.places place_line,
      length-map b.levers lever_line,
      length-map b.signals (signal_line b.places),
      length-map b.signals (λ s. s.lever),
      own,
      is.few_places,
      rising_few 0 b.levers is.rising,
      is.frame,
    )

tracks_few : (boxes n : ℕ) (b : BoxFields) → IsBox boxes n b → length (map (track_line b.places) b.tracks) ≤ 121
tracks_few boxes n b is =
    let high = tracks_high boxes n b b.tracks is is.tracks in
    let own = differing_few (map (λ t. t.lever) b.tracks) high is.one_track in
    omega (arith, length-map b.tracks (track_line b.places), length-map b.tracks (λ t. t.lever), own)

berth_few : (names : List (List ℕ)) (way : Way) (berth : Option Berth) → length (berth_lines names way berth) ≤ 1
berth_few names way None = omega arith
berth_few names way (Some berth) = omega arith

clearing_few : (names : List (List ℕ)) (way : Way) (places : List ℕ) → length (clearing_lines names way places) ≤ 1
clearing_few names way [] = omega arith
clearing_few names way (place ∷ places) = omega arith

clear_few : (names : List (List ℕ)) (way : Way) (berth : Option Berth) → length (clear_lines names way berth) ≤ 1
clear_few names way None = omega arith
clear_few names way (Some berth) = clearing_few names way berth.clearing

most_few : (way : Way) (most : Option ℕ) → length (most_lines way most) ≤ 1
most_few way None = omega arith
most_few way (Some n) = omega arith

permissive_few : (way : Way) (berth : Option Berth) → length (permissive_lines way berth) ≤ 1
permissive_few way None = omega arith
permissive_few way (Some berth) = most_few way berth.permissive

ways_few : (b : BoxFields) → length (way_lines b) ≤ 6
ways_few b =
    let up = berth_lines b.places Up b.berth_up in
    let down = berth_lines b.places Down b.berth_down in
    let up_clear = clear_lines b.places Up b.berth_up in
    let down_clear = clear_lines b.places Down b.berth_down in
    let up_most = permissive_lines Up b.berth_up in
    let down_most = permissive_lines Down b.berth_down in
    omega (
      arith,
      length-append (up ++ down ++ up_clear ++ down_clear ++ up_most) down_most,
      length-append (up ++ down ++ up_clear ++ down_clear) up_most,
      length-append (up ++ down ++ up_clear) down_clear,
      length-append (up ++ down) up_clear,
      length-append up down,
      berth_few b.places Up b.berth_up,
      berth_few b.places Down b.berth_down,
      clear_few b.places Up b.berth_up,
      clear_few b.places Down b.berth_down,
      permissive_few Up b.berth_up,
      permissive_few Down b.berth_down,
    )

box_fits : (boxes n : ℕ) (b : BoxFields) → IsBox boxes n b → AreLines (box_lines b) → size (box_lines b) ≤ 112233
unfolding box_lines
box_fits boxes n b is h =
    let front = front_lines b in
    let ways = way_lines b in
    let tracks = map (track_line b.places) b.tracks in
    let rows = map row_line b.rows in
    let before = lines_left (front ++ ways) (tracks ++ rows) h in
    let back = lines_right (front ++ ways) (tracks ++ rows) h in
    omega (
      arith,
      size-append (front ++ ways) (tracks ++ rows),
      size-append front ways,
      size-append tracks rows,
      lines_fit front (lines_left front ways before),
      lines_fit ways (lines_right front ways before),
      lines_fit tracks (lines_left tracks rows back),
      rows_fit b b.rows is.rows,
      front_few boxes n b is,
      ways_few b,
      tracks_few boxes n b is,
      is.few_rows,
    )

-- a box of some line
record SomeBox (b : BoxFields) : Type 0 where
  boxes : ℕ
  number : ℕ
  is : IsBox boxes number b

boxes_fit : (boxes : List BoxFields) → AreLines (flat_map box_lines boxes)
    → ((b : ℕ) → b < length boxes → SomeBox (box_at boxes b)) → size (flat_map box_lines boxes) ≤ 112233 * length boxes
boxes_fit [] h each = omega arith
boxes_fit (b ∷ boxes) h each =
    let some : SomeBox b = each 0 (omega arith) in
    let own = box_fits some.boxes some.number b some.is (lines_left (box_lines b) (flat_map box_lines boxes) h) in
    let rest = boxes_fit boxes (lines_right (box_lines b) (flat_map box_lines boxes) h)
    (λ n l. each (suc n) (omega (arith, l))) in
    omega (arith, size-append (box_lines b) (flat_map box_lines boxes), own, rest)

-- ---- the lines of trains

word_fits : (names : List (List ℕ)) (i : ℕ) → list_all is_name names ≡ true → length (name_word names i) ≤ 16
word_fits [] i h = omega arith
word_fits (name ∷ names) zero h = length-name name (both (is_name name) (list_all is_name names) h).0
word_fits (name ∷ names) (suc i) h = word_fits names i (both (is_name name) (list_all is_name names) h).1

train_fits : (plan : PlanFields) (train : TrainPlan) → IsPlan plan → IsTrain plan.classes plan.boxes train
    → is_name train.name ≡ true → length (printed_words (train_line plan train)) ≤ 74
train_fits plan train is own good =
    let at : IsBox (length plan.boxes) train.box_no (box_at plan.boxes train.box_no) =
    is.each train.box_no own.box_no in
    let class_word = name_word (names_of_classes plan.classes) train.class_no in
    let box_word = name_word (names_of plan.boxes) train.box_no in
    let place_word = name_word (box_at plan.boxes train.box_no).places train.place in
    omega (
      arith,
      length-line (codes "train") (train.name ∷ class_word ∷ box_word ∷ place_word ∷ []),
      length-name train.name good,
      word_fits (names_of_classes plan.classes) train.class_no is.classes.named,
      word_fits (names_of plan.boxes) train.box_no is.named,
      word_fits (box_at plan.boxes train.box_no).places train.place at.named,
    )

trains_fit : (plan : PlanFields) (trains : List TrainPlan) → IsPlan plan → All (IsTrain plan.classes plan.boxes) trains
    → list_all is_name (names_of_trains trains) ≡ true → size (map (train_line plan) trains) ≤ 74 * length trains
trains_fit plan [] is h good = omega arith
trains_fit plan (train ∷ trains) is h good =
    let parts = both (is_name train.name) (list_all is_name (names_of_trains trains)) good in
    let own = All-head (IsTrain plan.classes plan.boxes) train trains h in
    let rest = All-tail (IsTrain plan.classes plan.boxes) train trains h in
    omega (
      arith,
      size-cons (train_line plan train) (map (train_line plan) trains),
      train_fits plan train is own parts.0,
      trains_fit plan trains is rest parts.1,
    )

-- ---- the whole

classes_few : (plan : PlanFields) → IsPlan plan → length (map (class_line plan.codes) (drop 4 plan.classes)) ≤ 190
classes_few plan is =
    omega (arith, length-map (drop 4 plan.classes) (class_line plan.codes), length-drop 4 plan.classes, is.classes.few)

-- the printed lines of a plan of at most 32 boxes keep within the limit of a text
pub few_boxes_fit : (plan : PlanFields) → IsPlan plan → length plan.boxes ≤ 32 → length (plan_text plan) ≤ most_bytes
unfolding plan_text plan_lines
few_boxes_fit plan is few =
    let head = head_lines plan in
    let classes = map (class_line plan.codes) (drop 4 plan.classes) in
    let boxes = flat_map box_lines plan.boxes in
    let trains = map (train_line plan) plan.trains in
    let end : List (List (List ℕ)) = (codes "end" ∷ []) ∷ [] in
    let read = plan_is_read plan [] is in
    let all : AreLines (head ++ classes ++ boxes ++ trains ++ end) =
    subst AreLines (sym (lines_same plan)) read.stand in
    let to_trains = lines_left (head ++ classes ++ boxes ++ trains) end all in
    let to_boxes = lines_left (head ++ classes ++ boxes) trains to_trains in
    let to_classes = lines_left (head ++ classes) boxes to_boxes in
    omega (
      arith,
      size-append (head ++ classes ++ boxes ++ trains) end,
      size-append (head ++ classes ++ boxes) trains,
      size-append (head ++ classes) boxes,
      size-append head classes,
      lines_fit head (lines_left head classes to_classes),
      lines_fit classes (lines_right head classes to_classes),
      classes_few plan is,
      boxes_fit plan.boxes (lines_right (head ++ classes) boxes to_boxes)
          (λ b l. record { boxes = length plan.boxes; number = b; is = is.each b l }),
      few,
      trains_fit plan plan.trains is is.trains is.trains_named,
      is.few_trains,
      lines_fit end (lines_right (head ++ classes ++ boxes ++ trains) end all),
    )
