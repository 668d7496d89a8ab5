-- The printed lines of track circuits and rows are read as those, and with them the lines of a box as the box.
use Rattle.std.proofs.Common.{◌≡◌, ℕ, ◌+◌, ◌<◌, ◌≤◌, true, false, eqb, leb, List, [], ◌∷◌, ◌++◌, length, map, Option}
use Rattle.std.proofs.Common.{None, Some, Ok, refl, sym, ap, subst, ◌∙◌, arith, decimal}
use Rattle.std.specs.Prelude.{All}
use Rattle.std.specs.List.{list_any, list_all, join_with_byte}
use Rattle.std.proofs.lemmas.Bool.Decides.{nat_tests}
use Rattle.std.proofs.lemmas.List.{length-map}
use Rattle.std.proofs.lemmas.List.Elements.{All-head, All-tail}
use Rattle.rail_text.specs.Gives.{◌>>=◌}
use Rattle.rail_text.specs.Words.{keyword}
use Rattle.rail_text.proofs.PrintedLines.{both}
use Rattle.locking_table.specs.Sound.{IsRow, CondFits, all_differ, levers_of}
use Rattle.locking_table.specs.Places.{IsLever}
use Rattle.locking_table.specs.Reading.{row_of}
use Rattle.locking_table.specs.Printing.{row_words, kind_words, when_words, end_word}
use Rattle.locking_table.specs.declared.places.End.{End}
use Rattle.locking_table.specs.declared.places.End.TheVariants.{Normal, Reversed}
use Rattle.locking_table.specs.declared.row.RowKind.{RowKind}
use Rattle.locking_table.specs.declared.row.RowKind.TheVariants.{LocksNormal, ReleasedBy, LocksBoth}
use Rattle.locking_table.specs.declared.row.Cond.{Cond}
use Rattle.locking_table.specs.declared.row.Row.{Row}
use Rattle.locking_table.proofs.RoundTrip.{printed_is_read}
use Rattle.line_plan.specs.declared.frame.Kind.{Kind}
use Rattle.line_plan.specs.declared.signal.TrackLock.{TrackLock}
use Rattle.plan_draft.specs.declared.draft.Stage.TheVariants as stages
use Rattle.line_plan.specs.Frames.{BoxFields, kind_of, is_working, berth_of}
use Rattle.line_plan.specs.Plans.{IsTrackLock, IsBoxRow, IsBox, IsWorking}
use Rattle.plan_draft.specs.Drafts.{DraftFields}
use Rattle.plan_draft.specs.LineWords.{counted, working_in}
use Rattle.plan_draft.specs.BoxLines.{track_in, track_onto, worked, all_worked, row_onto}
use Rattle.plan_draft.specs.Reading.{line_kind, box_with}
use Rattle.plan_text.specs.Printing.{place_words, place_line, lever_line, signal_line, track_line, row_line}
use Rattle.plan_text.specs.Printing.{berth_lines, clear_lines, permissive_lines}
use Rattle.plan_text.specs.Spelled.{FirstWays, both_ways}
use Rattle.plan_text.proofs.LineReads.{IsLine, GoesOn, track_kind, row_kind, all_read, goes_on}
use Rattle.plan_text.proofs.Middle.{all_at, differs_at, shorter}
use Rattle.plan_text.proofs.BoxReads.{box_names, box_frame, with_places, places_are_read, levers_are_read}
use Rattle.plan_text.proofs.BoxReads.{signals_are_read}
use Rattle.plan_text.proofs.BerthReads.{berths_are_read, clears_are_read, permissives_are_read}
use Rattle.plan_text.proofs.WordReads.{fits, room, fitting_line, number_fits, places_read, places_fit, places_room}
use Rattle.plan_text.proofs.WordReads.{counted_reads, has_lever, working_reads, joined_same}

abbrev with_tracks : BoxFields → List TrackLock → BoxFields
with_tracks b tracks =
    record {
      name = b.name;
      places = b.places;
      levers = b.levers;
      signals = b.signals;
      berth_up =
          b.berth_up;
      berth_down = b.berth_down;
      tracks = tracks;
      rows = [];
    }

abbrev with_rows : BoxFields → List Row → BoxFields
with_rows b rows =
    record {
      name = b.name;
      places = b.places;
      levers = b.levers;
      signals = b.signals;
      berth_up =
          b.berth_up;
      berth_down = b.berth_down;
      tracks = b.tracks;
      rows = rows;
    }

-- ---- track circuits

works : (boxes n : ℕ) (b : BoxFields) (front : List TrackLock) (lever : ℕ) → IsBox boxes n b → IsWorking b lever
    → working_in (with_tracks b front) (decimal lever) ≡ Ok lever
works boxes n b front lever is w = go (kind_of b lever) refl w where
  go : (o : Option Kind) → kind_of b lever ≡ o → is_working o ≡ true
      → working_in (with_tracks b front) (decimal lever) ≡ Ok lever
  go None e f = absurd cc
  go (Some kind) e f =
      working_reads (with_tracks b front) lever kind
      (has_lever (with_tracks b front) lever kind (box_frame boxes n b is) e) f

lever_high : (boxes n : ℕ) (b : BoxFields) (lever : ℕ) → IsBox boxes n b → IsWorking b lever → lever ≤ 120
lever_high boxes n b lever is w = go (kind_of b lever) refl w where
  go : (o : Option Kind) → kind_of b lever ≡ o → is_working o ≡ true → lever ≤ 120
  go None e f = absurd cc
  go (Some kind) e f = let h = has_lever b lever kind (box_frame boxes n b is) e in h.high

track_step : (boxes n : ℕ) (b : BoxFields) (front : List TrackLock) (track : TrackLock) → IsBox boxes n b
    → IsTrackLock b track → list_any (λ other. eqb other.lever track.lever) front ≡ false
    → box_with stages.Track boxes n (with_tracks b front) (track_line b.places track)
    ≡ Ok (with_tracks b (front ++ track ∷ []))
unfolding box_with track_onto track_in
track_step boxes n b front track is own new =
    let counted : counted 3 10 (track_line b.places track) ≡ Ok tt =
    counted_reads 3 10 (track_line b.places track) (omega (arith, own.some, same b.places track.places))
    (omega (arith, own.few, same b.places track.places)) in
    rw (
      counted,
      works boxes n b front track.lever is own.lever,
      new,
      places_read b.places [] track.places (box_names boxes n b is) own.places,
      own.differ,
    ) refl where
      same : (ns : List (List ℕ)) (ps : List ℕ) → length (place_words ns ps) ≡ length ps
      same ns ps = length-map ps _

track_is_line : (boxes n : ℕ) (b : BoxFields) (track : TrackLock) → IsBox boxes n b → IsTrackLock b track
    → IsLine (track_line b.places track)
track_is_line boxes n b track is own =
    let are = box_names boxes n b is in
    let high = lever_high boxes n b track.lever is own.lever in
    fitting_line 16 (track_line b.places track)
    (rw (
      number_fits 16 track.lever (omega arith) (omega (arith, high)),
      places_fit b.places track.places are own.places,
    ) refl)
    (omega (arith, places_room b.places track.places, own.few)) refl

track_line_kind : (names : List (List ℕ)) (track : TrackLock)
    → line_kind (keyword (track_line names track)) ≡ Some stages.Track
unfolding line_kind
track_line_kind names track = refl

pub tracks_are_read : (d : DraftFields) (b : BoxFields) (more : List (List (List ℕ))) (last : DraftFields)
    → IsBox d.count (length d.plan.boxes) b
    → GoesOn d 14 (with_tracks b b.tracks) more last
    → GoesOn d 14 (with_tracks b []) (map (track_line b.places) b.tracks ++ more) last
tracks_are_read d b more last is go =
    all_read d stages.Track (track_line b.places) (with_tracks b) more last b.tracks track_kind
    (track_line_kind b.places) (λ front rest track e.
    let own = all_at (IsTrackLock b) front rest track (subst (All (IsTrackLock b)) e is.tracks) in
    let new =
    differs_at (λ (t : TrackLock). t.lever) front rest track
    (ap (λ (ts : List TrackLock). all_differ (map (λ t. t.lever) ts)) (sym e) ∙ is.one_track) in (
      track_is_line d.count (length d.plan.boxes) b track is own,
      track_step d.count (length d.plan.boxes) b front track is own new,
    ))
    go [] b.tracks refl

-- ---- rows

all_works : (b x : BoxFields) (levers : List ℕ) → x.levers ≡ b.levers → All (IsWorking b) levers
    → all_worked x levers ≡ Ok tt
unfolding all_worked
all_works b x [] same h = refl
all_works b x (lever ∷ levers) same h =
    go (kind_of x lever) refl
    (subst (λ (ls : _). is_working (kind_of (record b { levers = ls }) lever) ≡ true) (sym same)
    (All-head (IsWorking b) lever levers h)) (all_works b x levers same (All-tail (IsWorking b) lever levers h)) where
      go : (o : Option Kind) → kind_of x lever ≡ o → is_working o ≡ true → all_worked x levers ≡ Ok tt
          → (worked (kind_of x lever) >>= (λ one. all_worked x levers)) ≡ Ok tt
      go None e f rest = absurd cc
      go (Some kind) e f rest = rw (e, f) rest

not_many : (n : ℕ) → n < 400 → leb 400 n ≡ false
not_many n h = grind (arith, nat_tests)

row_step : (boxes n : ℕ) (b : BoxFields) (front : List Row) (row : Row) → IsBoxRow b row → length front < 400
    → box_with stages.Row boxes n (with_rows b front) (row_line row) ≡ Ok (with_rows b (front ++ row ∷ []))
unfolding box_with row_onto
row_step boxes n b front row own few =
    let read : row_of (join_with_byte 32 (row_words row)) ≡ Ok row =
    ap row_of (sym (joined_same (row_words row))) ∙ printed_is_read row own.spelled in
    rw (read, all_works b (with_rows b front) (levers_of row) refl own.levers, not_many (length front) few) refl

lever_fits : (n : ℕ) → IsLever 120 n → fits 10 (decimal n) ≡ true
lever_fits n h = number_fits 10 n (omega arith) (omega (arith, h.1))

end_fits : (e : End) → fits 10 (end_word e) ≡ true
end_fits Normal = refl
end_fits Reversed = refl

-- words that fit, at most so many
record Few (n : ℕ) (words : List (List ℕ)) : Type 0 where
  each : list_all (fits 10) words ≡ true
  most : room 10 words ≤ n

kind_few : (kind : RowKind) (object : ℕ) → IsLever 120 object → Few 44 (kind_words kind object)
kind_few LocksNormal object h = record { each = rw (lever_fits object h) refl; most = omega arith }
kind_few ReleasedBy object h = record { each = rw (lever_fits object h) refl; most = omega arith }
kind_few LocksBoth object h = record { each = rw (lever_fits object h) refl; most = omega arith }

when_few : (conds : List Cond) → All (CondFits 120) conds → length conds ≤ 2 → Few 66 (when_words conds)
when_few [] h few = record { each = refl; most = omega arith }
when_few (c ∷ []) h few = let own =
    All-head (CondFits 120) c [] h in
    record { each = rw (lever_fits c.lever own, end_fits c.end) refl; most = omega arith }
when_few (c ∷ e ∷ []) h few =
    let own = All-head (CondFits 120) c (e ∷ []) h in
    let other = All-head (CondFits 120) e [] (All-tail (CondFits 120) c (e ∷ []) h) in
    record {
      each = rw (lever_fits c.lever own, end_fits c.end, lever_fits e.lever other, end_fits e.end) refl;
      most =
          omega arith;
    }
when_few (c ∷ e ∷ f ∷ conds) h few = absurd (omega (arith, few))

few_both : (n m : ℕ) (xs ys : List (List ℕ)) → Few n xs → Few m ys → Few (n + m) (xs ++ ys)
few_both n m [] ys f g = record { each = g.each; most = omega (arith, g.most) }
few_both n m (x ∷ xs) ys f g =
    let b = both (fits 10 x) (list_all (fits 10) xs) f.each in
    let r = few_both (room 10 xs) m xs ys (record { each = b.1; most = omega arith }) g in
    record { each = rw (b.0, r.each) refl; most = omega (arith, r.most, f.most) }

-- a row's words may stand in a text as a line
pub row_is_line : (row : Row) → IsRow row → IsLine (row_line row)
row_is_line row is =
    let r = few_both 44 66 (kind_words row.kind row.object) (when_words row.when)
    (kind_few row.kind row.object is.levers.object) (when_few row.when is.levers.when is.few) in
    fitting_line 10 (row_line row) (rw (lever_fits row.subject is.levers.subject, r.each) refl) (omega (arith, r.most))
    refl

row_line_kind : (row : Row) → line_kind (keyword (row_line row)) ≡ Some stages.Row
unfolding line_kind
row_line_kind row = refl

pub rows_are_read : (d : DraftFields) (b : BoxFields) (more : List (List (List ℕ))) (last : DraftFields)
    → IsBox d.count (length d.plan.boxes) b
    → GoesOn d 15 b more last → GoesOn d 15 (with_rows b []) (map row_line b.rows ++ more) last
rows_are_read d b more last is go =
    all_read d stages.Row row_line (with_rows b) more last b.rows row_kind row_line_kind (λ front rest row e.
    let own = all_at (IsBoxRow b) front rest row (subst (All (IsBoxRow b)) e is.rows) in (
      row_is_line row own.spelled,
      row_step d.count (length d.plan.boxes) b front row own
          (omega (arith, shorter front rest row, ap length e, is.few_rows)),
    ))
    go [] b.rows refl

-- ---- the lines of a box

-- all lines behind the box's own
abbrev pub lines_of_box : FirstWays → BoxFields → List (List (List ℕ)) → List (List (List ℕ))
lines_of_box first b more =
    map place_line b.places
    ++ (map lever_line b.levers
    ++ (map (signal_line b.places) b.signals
    ++ (both_ways first.berths (λ way. berth_lines b.places way (berth_of b way))
    ++ (both_ways first.clears (λ way. clear_lines b.places way (berth_of b way))
    ++ (both_ways first.permissives (λ way. permissive_lines way (berth_of b way))
    ++ (map (track_line b.places) b.tracks ++ (map row_line b.rows ++ more)))))))

-- the printed lines of a box, from its places to its rows, make the whole box
pub box_is_read : (d : DraftFields) (b : BoxFields) (first : FirstWays) (more : List (List (List ℕ)))
    (last : DraftFields) → IsBox d.count (length d.plan.boxes) b
    → GoesOn d 15 b more last → GoesOn d 7 (with_places b []) (lines_of_box first b more) last
box_is_read d b first more last is go =
    let rows = map row_line b.rows ++ more in
    let tracks = map (track_line b.places) b.tracks ++ rows in
    let most = both_ways first.permissives (λ way. permissive_lines way (berth_of b way)) ++ tracks in
    let clears = both_ways first.clears (λ way. clear_lines b.places way (berth_of b way)) ++ most in
    let berths = both_ways first.berths (λ way. berth_lines b.places way (berth_of b way)) ++ clears in
    let signals = map (signal_line b.places) b.signals ++ berths in
    let levers = map lever_line b.levers ++ signals in
    places_are_read d b levers last is (λ s0 i0. goes_on d 7 8 _ levers last (omega arith)
    (levers_are_read d b signals last is (λ s1 i1. goes_on d 8 9 _ signals last (omega arith)
    (signals_are_read d b berths last is (λ s2 i2. goes_on d 10 11 _ berths last (omega arith)
    (berths_are_read d b first.berths clears last is (λ s3 i3. goes_on d 11 12 _ clears last (omega arith)
    (clears_are_read d b first.clears most last is (λ s4 i4. goes_on d 12 13 _ most last (omega arith)
    (permissives_are_read d b first.permissives tracks last is (λ s5 i5. goes_on d 13 14 _ tracks last (omega arith)
    (tracks_are_read d b rows last is (λ s6 i6. goes_on d 14 15 _ rows last (omega arith)
    (rows_are_read d b more last is go) s6 i6)) s5 i5)) s4 i4)) s3 i3)) s2 i2)) s1 i1)) s0 i0)

pub ruleset row_rules = (box_is_read)
