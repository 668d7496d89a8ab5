-- A box with a berth's line, a line of track circuits or a row more, and the lines that made it.
use Rattle.std.proofs.Common.{◌≡◌, ℕ, ◌≤◌, true, false, not, eqb, leb, List, [], ◌∷◌, ◌++◌, length, map, drop, Option}
use Rattle.std.proofs.Common.{None, Some, is_some, Result, Ok, Err, refl, sym, ap, ◌∙◌, arith, codes, decimal}
use Rattle.std.specs.List.{list_any, list_all, join_with_byte}
use Rattle.std.proofs.lemmas.Bool.Decides.{nat_tests}
use Rattle.std.proofs.lemmas.List.{map-append, length-drop}
use Rattle.rail_text.specs.Lines.{lacks, words_of}
use Rattle.rail_text.specs.Words.{keyword, number_in}
use Rattle.rail_text.specs.Forms.{is_word}
use Rattle.rail_text.specs.declared.cause.Cause.{Cause}
use Rattle.rail_text.proofs.Binds.{OfOk, bind_keeps, bind_any, if_keeps, InRange, number_in_is}
use Rattle.rail_text.proofs.PrintedLines.{both, words_of-joined}
use Rattle.rail_text.proofs.PrintedWords.{words_of-words}
use Rattle.block_words.specs.declared.Way.{Way}
use Rattle.block_words.specs.declared.Way.TheVariants.{Up, Down}
use Rattle.locking_table.specs.Sound.{IsRow, all_differ, levers_of}
use Rattle.locking_table.specs.Reading.{row_of}
use Rattle.locking_table.specs.Printing.{row_words, kind_words, when_words}
use Rattle.locking_table.specs.declared.fault.RowFault.{RowFault}
use Rattle.locking_table.specs.declared.row.RowKind.{RowKind}
use Rattle.locking_table.specs.declared.row.RowKind.TheVariants.{LocksNormal, ReleasedBy, LocksBoth}
use Rattle.locking_table.specs.declared.row.Row.{Row}
use Rattle.locking_table.proofs.Spelling.{read_is_spelled}
use Rattle.line_plan.specs.Ways.{comes_in}
use Rattle.line_plan.specs.declared.signal.TrackLock.{TrackLock}
use Rattle.line_plan.specs.declared.berth.Berth.{Berth}
use Rattle.line_plan.specs.Frames.{BoxFields, berth_of, berth_places, is_entered, homes_of}
use Rattle.plan_draft.specs.LineWords.{counted, word, number_in_names, places_onto, way_in, working_in}
use Rattle.plan_draft.specs.BoxLines.{coming_in, berth_at, berth_onto, has_berth, clearing_in, clear_onto}
use Rattle.plan_draft.specs.BoxLines.{permissive_onto, track_in, track_onto, spelled_row, all_worked, row_onto}
use Rattle.line_plan.specs.Berths.{with_berth, clearing_at, cleared, permissive_at, permitted}
use Rattle.plan_text.specs.Printing.{name_word, place_words, place_line, lever_line, signal_line, berth_lines}
use Rattle.plan_text.specs.Printing.{clear_lines, clearing_lines, permissive_lines, most_lines, track_line, row_line}
use Rattle.line_plan.specs.Ways.{way_word}
use Rattle.plan_text.specs.Spelled.{FirstWays, box_lines_by}
use Rattle.plan_text.proofs.Built.{counted_is}
use Rattle.plan_text.proofs.WordReads.{joined_same}
use Rattle.plan_text.proofs.RowReads.{row_is_line}
use Rattle.plan_text.proofs.WordIs.{name_word_is, places_are, way_is, working_is, exactly}
use Rattle.plan_text.proofs.BoxGrown.{BoxGrown, BoxBy, parts, grow_berths, grow_clears, grow_most, grow_tracks}
use Rattle.plan_text.proofs.BoxGrown.{grow_rows, both_down, both_up, both_same, berth_part, clear_part, most_part}
use Rattle.plan_text.proofs.BoxGrown.{no_clears, no_most, three_same, many_same}

none_of : {A : Type 0} (o : Option A) → is_some o ≡ false → o ≡ None
none_of None e = refl
none_of (Some x) e = absurd cc

-- the lines of a box with a line more
next_lines : (first : FirstWays) (b : BoxFields) (texts : List (List (List ℕ))) (words line : List (List ℕ))
    (after : List (List (List ℕ))) → texts ≡ box_lines_by first b → words ≡ line
    → after ≡ box_lines_by first b ++ line ∷ [] → texts ++ words ∷ [] ≡ after
next_lines first b texts words line after e f g =
    ap (λ (ls : List (List (List ℕ))). ls ++ words ∷ []) e
    ∙ ap (λ (w : List (List ℕ)). box_lines_by first b ++ w ∷ []) f ∙ sym g

-- ---- berths

coming_is : (boxes n : ℕ) (b : BoxFields) (text : List ℕ)
    → OfOk (λ way. (text ≡ way_word way) × (is_some (berth_of b way) ≡ false)) (coming_in boxes n b text)
unfolding coming_in
coming_is boxes n b text =
    bind_keeps (λ way. text ≡ way_word way) (λ way. (text ≡ way_word way) × (is_some (berth_of b way) ≡ false))
    (way_in text) _ (way_is text) (λ way e.
    if_keeps (λ way. (text ≡ way_word way) × (is_some (berth_of b way) ≡ false)) (not (comes_in boxes n way)) _ _
    (λ _. tt) (λ _.
    if_keeps (λ way. (text ≡ way_word way) × (is_some (berth_of b way) ≡ false)) (is_some (berth_of b way)) _ _
    (λ _. tt) (λ free. (e, free))))

abbrev IsBare : ℕ → Berth → Type 0
IsBare place berth = (berth.place ≡ place) × (berth.clearing ≡ []) × (berth.permissive ≡ None)

berth_is : (b : BoxFields) (place : ℕ) → OfOk (IsBare place) (berth_at b place)
unfolding berth_at
berth_is b place =
    if_keeps (IsBare place) (list_any (λ berth. eqb berth place) (berth_places b)) _ _ (λ _. tt) (λ _.
    if_keeps (IsBare place) (is_entered b.signals place) _ _ (λ _. tt) (λ _.
    if_keeps (IsBare place) (eqb (length (homes_of b place)) 0) _ _ (λ _. tt) (λ _. (refl, refl, refl))))

berth_more : (k : ℕ) (b : BoxFields) (texts : List (List (List ℕ))) (words : List (List ℕ)) (way : Way) (berth : Berth)
    → k ≤ 11 → BoxGrown k b texts → berth_of b way ≡ None → berth.clearing ≡ [] → berth.permissive ≡ None
    → words ≡ codes "berth" ∷ way_word way ∷ name_word b.places berth.place ∷ []
    → BoxGrown 11 (with_berth b way berth) (texts ++ words ∷ [])
berth_more k b texts words Up berth low h none clear most text =
    let next : BoxFields = record b { berth_up = Some berth } in
    let first : FirstWays = record { berths = Down; clears = h.first.clears; permissives = h.first.permissives } in
    let line = codes "berth" ∷ codes "up" ∷ name_word b.places berth.place ∷ [] in
    let clear_up : clear_lines b.places Up (Some berth) ≡ [] = ap (clearing_lines b.places Up) clear in
    let most_up : permissive_lines Up (Some berth) ≡ [] = ap (most_lines Up) most in
    let clear_down = h.clear_down (omega (arith, low)) in
    let most_down = h.most_down (omega (arith, low)) in
    let tracks = h.tracks (omega (arith, low)) in
    let rows = h.rows (omega (arith, low)) in
    let grown =
    grow_berths (codes "box" ∷ b.name ∷ []) line (map place_line b.places) (map lever_line b.levers)
    (map (signal_line b.places) b.signals)
    (berth_part h.first b) (berth_part first next) (clear_part h.first b) (clear_part first next) (most_part h.first b)
    (most_part first next) (map (track_line b.places) b.tracks) (map row_line b.rows)
    (ap (λ (ls : List (List (List ℕ))). ls ++ line ∷ [])
    (sym (both_down h.first.berths (λ way. berth_lines b.places way (berth_of b way))
    (ap (berth_lines b.places Up) none))))
    (no_clears h.first b (h.clear_up (omega (arith, low))) clear_down) (no_clears first next clear_up clear_down)
    (no_most h.first b (h.most_up (omega (arith, low))) most_down) (no_most first next most_up most_down)
    (ap (map (track_line b.places)) tracks) (ap (map row_line) rows) in
    record {
      first = first;
      lines = next_lines h.first b texts words line (box_lines_by first next) h.lines text grown;
      levers = λ less. absurd (omega (arith, less));
      signals = λ less. absurd (omega (arith, less));
      up = λ less. absurd (omega (arith, less));
      down = λ less. absurd (omega (arith, less));
      clear_up = λ _. clear_up;
      clear_down = λ _. clear_down;
      most_up = λ _. most_up;
      most_down = λ _. most_down;
      tracks = λ _. tracks;
      rows = λ _. rows;
    }
berth_more k b texts words Down berth low h none clear most text =
    let next : BoxFields = record b { berth_down = Some berth } in
    let first : FirstWays = record { berths = Up; clears = h.first.clears; permissives = h.first.permissives } in
    let line = codes "berth" ∷ codes "down" ∷ name_word b.places berth.place ∷ [] in
    let clear_down : clear_lines b.places Down (Some berth) ≡ [] = ap (clearing_lines b.places Down) clear in
    let most_down : permissive_lines Down (Some berth) ≡ [] = ap (most_lines Down) most in
    let clear_up = h.clear_up (omega (arith, low)) in
    let most_up = h.most_up (omega (arith, low)) in
    let tracks = h.tracks (omega (arith, low)) in
    let rows = h.rows (omega (arith, low)) in
    let grown =
    grow_berths (codes "box" ∷ b.name ∷ []) line (map place_line b.places) (map lever_line b.levers)
    (map (signal_line b.places) b.signals)
    (berth_part h.first b) (berth_part first next) (clear_part h.first b) (clear_part first next) (most_part h.first b)
    (most_part first next) (map (track_line b.places) b.tracks) (map row_line b.rows)
    (ap (λ (ls : List (List (List ℕ))). ls ++ line ∷ [])
    (sym (both_up h.first.berths (λ way. berth_lines b.places way (berth_of b way))
    (ap (berth_lines b.places Down) none))))
    (no_clears h.first b clear_up (h.clear_down (omega (arith, low)))) (no_clears first next clear_up clear_down)
    (no_most h.first b most_up (h.most_down (omega (arith, low)))) (no_most first next most_up most_down)
    (ap (map (track_line b.places)) tracks) (ap (map row_line) rows) in
    record {
      first = first;
      lines = next_lines h.first b texts words line (box_lines_by first next) h.lines text grown;
      levers = λ less. absurd (omega (arith, less));
      signals = λ less. absurd (omega (arith, less));
      up = λ less. absurd (omega (arith, less));
      down = λ less. absurd (omega (arith, less));
      clear_up = λ _. clear_up;
      clear_down = λ _. clear_down;
      most_up = λ _. most_up;
      most_down = λ _. most_down;
      tracks = λ _. tracks;
      rows = λ _. rows;
    }

-- where a line `berth` is taken, the lines of the box that it makes are those before and this one
pub berth_grows : (boxes n k : ℕ) (b : BoxFields) (texts : List (List (List ℕ))) (words : List (List ℕ)) → k ≤ 11
    → keyword words ≡ codes "berth" → BoxGrown k b texts → OfOk (BoxBy 11 texts words) (berth_onto boxes n b words)
unfolding berth_onto
berth_grows boxes n k b texts words low key h =
    bind_keeps (λ _. length words ≡ 3) (BoxBy 11 texts words) (counted 3 3 words) _ (exactly 3 words) (λ _ m.
    bind_keeps (λ way. (word 1 words ≡ way_word way) × (is_some (berth_of b way) ≡ false)) (BoxBy 11 texts words)
    (coming_in boxes n b (word 1 words)) _ (coming_is boxes n b (word 1 words)) (λ way e.
    bind_keeps (λ p. word 2 words ≡ name_word b.places p) (BoxBy 11 texts words)
    (number_in_names b.places (word 2 words)) _ (name_word_is b.places (word 2 words)) (λ place f.
    bind_keeps (IsBare place) (BoxBy 11 texts words) (berth_at b place) _ (berth_is b place) (λ berth g.
    berth_more k b texts words way berth low h (none_of (berth_of b way) e.1) g.1 g.2
    (three_same words (codes "berth") (way_word way) (name_word b.places berth.place) m key e.0
    (f ∙ ap (name_word b.places) (sym g.0)))))))

-- ---- clearing places

has_is : (o : Option Berth) → OfOk (λ berth. o ≡ Some berth) (has_berth o)
has_is None = tt
has_is (Some berth) = refl

same_berth : (names : List (List ℕ)) (way : Way) (places : List ℕ) (o : Option Berth)
    → berth_lines names way (clearing_at places o) ≡ berth_lines names way o
same_berth names way places None = refl
same_berth names way places (Some berth) = refl

same_most : (way : Way) (places : List ℕ) (o : Option Berth)
    → permissive_lines way (clearing_at places o) ≡ permissive_lines way o
same_most way places None = refl
same_most way places (Some berth) = refl

clearing_line : (names : List (List ℕ)) (way : Way) (places : List ℕ) (words : List (List ℕ)) → 3 ≤ length words
    → place_words names places ≡ drop 2 words
    → clearing_lines names way places ≡ (codes "clear" ∷ way_word way ∷ place_words names places) ∷ []
clearing_line names way [] words n e = absurd (omega (arith, n, ap length e, length-drop 2 words))
clearing_line names way (p ∷ places) words n e = refl

clear_more : (k : ℕ) (b : BoxFields) (texts : List (List (List ℕ))) (words : List (List ℕ)) (way : Way) (berth : Berth)
    (places : List ℕ) → k ≤ 12 → BoxGrown k b texts → berth_of b way ≡ Some berth → berth.clearing ≡ []
    → clearing_lines b.places way places ≡ (codes "clear" ∷ way_word way ∷ place_words b.places places) ∷ []
    → words ≡ codes "clear" ∷ way_word way ∷ place_words b.places places
    → BoxGrown 12 (cleared b way places) (texts ++ words ∷ [])
clear_more k b texts words Up berth places low h at none some text =
    let next : BoxFields = record b { berth_up = clearing_at places b.berth_up } in
    let first : FirstWays = record { berths = h.first.berths; clears = Down; permissives = h.first.permissives } in
    let line = codes "clear" ∷ codes "up" ∷ place_words b.places places in
    let before : clear_lines b.places Up b.berth_up ≡ [] =
    ap (clear_lines b.places Up) at ∙ ap (clearing_lines b.places Up) none in
    let after : clear_lines b.places Up (clearing_at places b.berth_up) ≡ line ∷ [] =
    ap (λ (o : Option Berth). clear_lines b.places Up (clearing_at places o)) at ∙ some in
    let most_up = h.most_up (omega (arith, low)) in
    let most_next : permissive_lines Up (clearing_at places b.berth_up) ≡ [] =
    same_most Up places b.berth_up ∙ most_up in
    let most_down = h.most_down (omega (arith, low)) in
    let tracks = h.tracks (omega (arith, low)) in
    let rows = h.rows (omega (arith, low)) in
    let grown =
    grow_clears (codes "box" ∷ b.name ∷ []) line (map place_line b.places) (map lever_line b.levers)
    (map (signal_line b.places) b.signals)
    (berth_part h.first b) (berth_part first next) (clear_part h.first b) (clear_part first next) (most_part h.first b)
    (most_part first next) (map (track_line b.places) b.tracks) (map row_line b.rows)
    (both_same h.first.berths (λ way. berth_lines b.places way (berth_of next way))
    (λ way. berth_lines b.places way (berth_of b way)) (same_berth b.places Up places b.berth_up) refl)
    (ap (λ (ls : List (List (List ℕ))). clear_lines b.places Down b.berth_down ++ ls) after
    ∙ ap (λ (ls : List (List (List ℕ))). ls ++ line ∷ [])
    (sym (both_down h.first.clears (λ way. clear_lines b.places way (berth_of b way)) before)))
    (no_most h.first b most_up most_down) (no_most first next most_next most_down)
    (ap (map (track_line b.places)) tracks) (ap (map row_line) rows) in
    record {
      first = first;
      lines = next_lines h.first b texts words line (box_lines_by first next) h.lines text grown;
      levers = λ less. absurd (omega (arith, less));
      signals = λ less. absurd (omega (arith, less));
      up = λ less. absurd (omega (arith, less));
      down = λ less. absurd (omega (arith, less));
      clear_up = λ less. absurd (omega (arith, less));
      clear_down = λ less. absurd (omega (arith, less));
      most_up = λ _. most_next;
      most_down = λ _. most_down;
      tracks = λ _. tracks;
      rows = λ _. rows;
    }
clear_more k b texts words Down berth places low h at none some text =
    let next : BoxFields = record b { berth_down = clearing_at places b.berth_down } in
    let first : FirstWays = record { berths = h.first.berths; clears = Up; permissives = h.first.permissives } in
    let line = codes "clear" ∷ codes "down" ∷ place_words b.places places in
    let before : clear_lines b.places Down b.berth_down ≡ [] =
    ap (clear_lines b.places Down) at ∙ ap (clearing_lines b.places Down) none in
    let after : clear_lines b.places Down (clearing_at places b.berth_down) ≡ line ∷ [] =
    ap (λ (o : Option Berth). clear_lines b.places Down (clearing_at places o)) at ∙ some in
    let most_up = h.most_up (omega (arith, low)) in
    let most_down = h.most_down (omega (arith, low)) in
    let most_next : permissive_lines Down (clearing_at places b.berth_down) ≡ [] =
    same_most Down places b.berth_down ∙ most_down in
    let tracks = h.tracks (omega (arith, low)) in
    let rows = h.rows (omega (arith, low)) in
    let grown =
    grow_clears (codes "box" ∷ b.name ∷ []) line (map place_line b.places) (map lever_line b.levers)
    (map (signal_line b.places) b.signals)
    (berth_part h.first b) (berth_part first next) (clear_part h.first b) (clear_part first next) (most_part h.first b)
    (most_part first next) (map (track_line b.places) b.tracks) (map row_line b.rows)
    (both_same h.first.berths (λ way. berth_lines b.places way (berth_of next way))
    (λ way. berth_lines b.places way (berth_of b way)) refl (same_berth b.places Down places b.berth_down))
    (ap (λ (ls : List (List (List ℕ))). clear_lines b.places Up b.berth_up ++ ls) after
    ∙ ap (λ (ls : List (List (List ℕ))). ls ++ line ∷ [])
    (sym (both_up h.first.clears (λ way. clear_lines b.places way (berth_of b way)) before)))
    (no_most h.first b most_up most_down) (no_most first next most_up most_next) (ap (map (track_line b.places)) tracks)
    (ap (map row_line) rows) in
    record {
      first = first;
      lines = next_lines h.first b texts words line (box_lines_by first next) h.lines text grown;
      levers = λ less. absurd (omega (arith, less));
      signals = λ less. absurd (omega (arith, less));
      up = λ less. absurd (omega (arith, less));
      down = λ less. absurd (omega (arith, less));
      clear_up = λ less. absurd (omega (arith, less));
      clear_down = λ less. absurd (omega (arith, less));
      most_up = λ _. most_up;
      most_down = λ _. most_next;
      tracks = λ _. tracks;
      rows = λ _. rows;
    }

clearing_is : (b : BoxFields) (berth : Berth) (words : List (List ℕ))
    → OfOk (λ ps. place_words b.places ps ≡ drop 2 words) (clearing_in b berth words)
unfolding clearing_in
clearing_is b berth words =
    bind_keeps (λ ps. place_words b.places ps ≡ drop 2 words) (λ ps. place_words b.places ps ≡ drop 2 words)
    (places_onto b.places [] (drop 2 words)) _ (places_are b.places [] (drop 2 words)) (λ ps e.
    if_keeps (λ ps. place_words b.places ps ≡ drop 2 words) (all_differ (berth.place ∷ ps)) _ _ (λ _. e) (λ _. tt))

no_length : (ns : List ℕ) → eqb (length ns) 0 ≡ true → ns ≡ []
no_length [] e = refl
no_length (n ∷ ns) e = absurd (grind (arith, nat_tests))

-- where a line `clear` is taken, the lines of the box that it makes are those before and this one
pub clear_grows : (k : ℕ) (b : BoxFields) (texts : List (List (List ℕ))) (words : List (List ℕ)) → k ≤ 12
    → keyword words ≡ codes "clear" → BoxGrown k b texts → OfOk (BoxBy 12 texts words) (clear_onto b words)
unfolding clear_onto
clear_grows k b texts words low key h =
    bind_keeps (λ _. (3 ≤ length words) × (length words ≤ 10)) (BoxBy 12 texts words) (counted 3 10 words) _
    (counted_is 3 10 words) (λ _ n.
    bind_keeps (λ way. word 1 words ≡ way_word way) (BoxBy 12 texts words) (way_in (word 1 words)) _
    (way_is (word 1 words)) (λ way e.
    bind_keeps (λ berth. berth_of b way ≡ Some berth) (BoxBy 12 texts words) (has_berth (berth_of b way)) _
    (has_is (berth_of b way)) (λ berth f.
    bind_keeps (λ ps. (berth.clearing ≡ []) × (place_words b.places ps ≡ drop 2 words)) (BoxBy 12 texts words) _ _
    (if_keeps (λ ps. (berth.clearing ≡ []) × (place_words b.places ps ≡ drop 2 words)) (eqb (length berth.clearing) 0) _
    _ (λ z. also (no_length berth.clearing z) (clearing_in b berth words) (clearing_is b berth words)) (λ _. tt))
    (λ ps g.
    clear_more k b texts words way berth ps low h f g.0 (clearing_line b.places way ps words n.0 g.1)
    (many_same words (codes "clear") (way_word way) (place_words b.places ps) n.0 key e (sym g.1)))))) where
      also : {P : Type 0} → P → (r : Result (List ℕ) Cause) → OfOk (λ ps. place_words b.places ps ≡ drop 2 words) r
          → OfOk (λ ps. P × (place_words b.places ps ≡ drop 2 words)) r
      also p (Ok x) q = (p, q)
      also p (Err c) q = tt

-- ---- permissive lines

still_berth : (names : List (List ℕ)) (way : Way) (n : ℕ) (o : Option Berth)
    → berth_lines names way (permissive_at n o) ≡ berth_lines names way o
still_berth names way n None = refl
still_berth names way n (Some berth) = refl

still_clear : (names : List (List ℕ)) (way : Way) (n : ℕ) (o : Option Berth)
    → clear_lines names way (permissive_at n o) ≡ clear_lines names way o
still_clear names way n None = refl
still_clear names way n (Some berth) = refl

permissive_more : (k : ℕ) (b : BoxFields) (texts : List (List (List ℕ))) (words : List (List ℕ)) (way : Way)
    (berth : Berth) (n : ℕ) → k ≤ 13 → BoxGrown k b texts → berth_of b way ≡ Some berth → berth.permissive ≡ None
    → words ≡ codes "permissive" ∷ way_word way ∷ decimal n ∷ [] → BoxGrown 13 (permitted b way n) (texts ++ words ∷ [])
permissive_more k b texts words Up berth n low h at none text =
    let next : BoxFields = record b { berth_up = permissive_at n b.berth_up } in
    let first : FirstWays = record { berths = h.first.berths; clears = h.first.clears; permissives = Down } in
    let line = codes "permissive" ∷ codes "up" ∷ decimal n ∷ [] in
    let before : permissive_lines Up b.berth_up ≡ [] = ap (permissive_lines Up) at ∙ ap (most_lines Up) none in
    let after : permissive_lines Up (permissive_at n b.berth_up) ≡ line ∷ [] =
    ap (λ (o : Option Berth). permissive_lines Up (permissive_at n o)) at in
    let tracks = h.tracks (omega (arith, low)) in
    let rows = h.rows (omega (arith, low)) in
    let grown =
    grow_most (codes "box" ∷ b.name ∷ []) line (map place_line b.places) (map lever_line b.levers)
    (map (signal_line b.places) b.signals)
    (berth_part h.first b) (berth_part first next) (clear_part h.first b) (clear_part first next) (most_part h.first b)
    (most_part first next) (map (track_line b.places) b.tracks) (map row_line b.rows)
    (both_same h.first.berths (λ way. berth_lines b.places way (berth_of next way))
    (λ way. berth_lines b.places way (berth_of b way)) (still_berth b.places Up n b.berth_up) refl)
    (both_same h.first.clears (λ way. clear_lines b.places way (berth_of next way))
    (λ way. clear_lines b.places way (berth_of b way)) (still_clear b.places Up n b.berth_up) refl)
    (ap (λ (ls : List (List (List ℕ))). permissive_lines Down b.berth_down ++ ls) after
    ∙ ap (λ (ls : List (List (List ℕ))). ls ++ line ∷ [])
    (sym (both_down h.first.permissives (λ way. permissive_lines way (berth_of b way)) before)))
    (ap (map (track_line b.places)) tracks) (ap (map row_line) rows) in
    record {
      first = first;
      lines = next_lines h.first b texts words line (box_lines_by first next) h.lines text grown;
      levers = λ less. absurd (omega (arith, less));
      signals = λ less. absurd (omega (arith, less));
      up = λ less. absurd (omega (arith, less));
      down = λ less. absurd (omega (arith, less));
      clear_up = λ less. absurd (omega (arith, less));
      clear_down = λ less. absurd (omega (arith, less));
      most_up = λ less. absurd (omega (arith, less));
      most_down = λ less. absurd (omega (arith, less));
      tracks = λ _. tracks;
      rows = λ _. rows;
    }
permissive_more k b texts words Down berth n low h at none text =
    let next : BoxFields = record b { berth_down = permissive_at n b.berth_down } in
    let first : FirstWays = record { berths = h.first.berths; clears = h.first.clears; permissives = Up } in
    let line = codes "permissive" ∷ codes "down" ∷ decimal n ∷ [] in
    let before : permissive_lines Down b.berth_down ≡ [] = ap (permissive_lines Down) at ∙ ap (most_lines Down) none in
    let after : permissive_lines Down (permissive_at n b.berth_down) ≡ line ∷ [] =
    ap (λ (o : Option Berth). permissive_lines Down (permissive_at n o)) at in
    let tracks = h.tracks (omega (arith, low)) in
    let rows = h.rows (omega (arith, low)) in
    let grown =
    grow_most (codes "box" ∷ b.name ∷ []) line (map place_line b.places) (map lever_line b.levers)
    (map (signal_line b.places) b.signals)
    (berth_part h.first b) (berth_part first next) (clear_part h.first b) (clear_part first next) (most_part h.first b)
    (most_part first next) (map (track_line b.places) b.tracks) (map row_line b.rows)
    (both_same h.first.berths (λ way. berth_lines b.places way (berth_of next way))
    (λ way. berth_lines b.places way (berth_of b way)) refl (still_berth b.places Down n b.berth_down))
    (both_same h.first.clears (λ way. clear_lines b.places way (berth_of next way))
    (λ way. clear_lines b.places way (berth_of b way)) refl (still_clear b.places Down n b.berth_down))
    (ap (λ (ls : List (List (List ℕ))). permissive_lines Up b.berth_up ++ ls) after
    ∙ ap (λ (ls : List (List (List ℕ))). ls ++ line ∷ [])
    (sym (both_up h.first.permissives (λ way. permissive_lines way (berth_of b way)) before)))
    (ap (map (track_line b.places)) tracks) (ap (map row_line) rows) in
    record {
      first = first;
      lines = next_lines h.first b texts words line (box_lines_by first next) h.lines text grown;
      levers = λ less. absurd (omega (arith, less));
      signals = λ less. absurd (omega (arith, less));
      up = λ less. absurd (omega (arith, less));
      down = λ less. absurd (omega (arith, less));
      clear_up = λ less. absurd (omega (arith, less));
      clear_down = λ less. absurd (omega (arith, less));
      most_up = λ less. absurd (omega (arith, less));
      most_down = λ less. absurd (omega (arith, less));
      tracks = λ _. tracks;
      rows = λ _. rows;
    }

-- where a line `permissive` is taken, the lines of the box that it makes are those before and this one
pub permissive_grows : (k : ℕ) (b : BoxFields) (texts : List (List (List ℕ))) (words : List (List ℕ)) → k ≤ 13
    → keyword words ≡ codes "permissive" → BoxGrown k b texts → OfOk (BoxBy 13 texts words) (permissive_onto b words)
unfolding permissive_onto
permissive_grows k b texts words low key h =
    bind_keeps (λ _. length words ≡ 3) (BoxBy 13 texts words) (counted 3 3 words) _ (exactly 3 words) (λ _ m.
    bind_keeps (λ way. word 1 words ≡ way_word way) (BoxBy 13 texts words) (way_in (word 1 words)) _
    (way_is (word 1 words)) (λ way e.
    bind_keeps (λ berth. berth_of b way ≡ Some berth) (BoxBy 13 texts words) (has_berth (berth_of b way)) _
    (has_is (berth_of b way)) (λ berth f.
    bind_keeps (λ n. (berth.permissive ≡ None) × (word 2 words ≡ decimal n)) (BoxBy 13 texts words) _ _
    (if_keeps (λ n. (berth.permissive ≡ None) × (word 2 words ≡ decimal n)) (is_some berth.permissive) _ _ (λ _. tt)
    (λ z. also (none_of berth.permissive z) (number_in 1 3 (word 2 words)) (number_in_is 1 3 (word 2 words))))
    (λ n g.
    permissive_more k b texts words way berth n low h f g.0
    (three_same words (codes "permissive") (way_word way) (decimal n) m key e g.1))))) where
      also : {P : Type 0} → P → (r : Result ℕ Cause) → OfOk (InRange 1 3 (word 2 words)) r
          → OfOk (λ x. P × (word 2 words ≡ decimal x)) r
      also p (Ok x) q = (p, q.0)
      also p (Err c) q = tt

-- ---- track circuits

track_is : (b : BoxFields) (text : List ℕ) → OfOk (λ n. text ≡ decimal n) (track_in b text)
unfolding track_in
track_is b text =
    bind_keeps (λ n. text ≡ decimal n) (λ n. text ≡ decimal n) (working_in b text) _ (working_is b text)
    (λ n e. if_keeps (λ n. text ≡ decimal n) (list_any (λ track. eqb track.lever n) b.tracks) _ _ (λ _. tt)
    (λ _. e))

track_more : (k : ℕ) (b : BoxFields) (texts : List (List (List ℕ))) (words : List (List ℕ)) (track : TrackLock) → k ≤ 14
    → BoxGrown k b texts → words ≡ track_line b.places track
    → BoxGrown 14 (record b { tracks = b.tracks ++ track ∷ [] }) (texts ++ words ∷ [])
track_more k b texts words track low h text =
    let next : BoxFields = record b { tracks = b.tracks ++ track ∷ [] } in
    let rows = h.rows (omega (arith, low)) in
    let grown =
    grow_tracks (codes "box" ∷ b.name ∷ []) (track_line b.places track) (map place_line b.places)
    (map lever_line b.levers) (map (signal_line b.places) b.signals) (berth_part h.first b) (clear_part h.first b)
    (most_part h.first b)
    (map (track_line b.places) b.tracks) (map row_line b.rows) (ap (map row_line) rows) in
    let same : box_lines_by h.first next ≡ box_lines_by h.first b ++ track_line b.places track ∷ [] =
    ap (λ (ls : List (List (List ℕ))). parts (codes "box" ∷ b.name ∷ []) (map place_line b.places)
    (map lever_line b.levers) (map (signal_line b.places) b.signals) (berth_part h.first b) (clear_part h.first b)
    (most_part h.first b) ls (map row_line b.rows))
    (map-append (track_line b.places) b.tracks (track ∷ [])) ∙ grown in
    record {
      first = h.first;
      lines = next_lines h.first b texts words (track_line b.places track) (box_lines_by h.first next) h.lines text
          same;
      levers = λ less. absurd (omega (arith, less));
      signals = λ less. absurd (omega (arith, less));
      up = λ less. absurd (omega (arith, less));
      down = λ less. absurd (omega (arith, less));
      clear_up = λ less. absurd (omega (arith, less));
      clear_down = λ less. absurd (omega (arith, less));
      most_up = λ less. absurd (omega (arith, less));
      most_down = λ less. absurd (omega (arith, less));
      tracks = λ less. absurd (omega (arith, less));
      rows = λ _. rows;
    }

-- where a line `track` is taken, the lines of the box that it makes are those before and this one
pub track_grows : (k : ℕ) (b : BoxFields) (texts : List (List (List ℕ))) (words : List (List ℕ)) → k ≤ 14
    → keyword words ≡ codes "track" → BoxGrown k b texts → OfOk (BoxBy 14 texts words) (track_onto b words)
unfolding track_onto
track_grows k b texts words low key h =
    bind_keeps (λ _. (3 ≤ length words) × (length words ≤ 10)) (BoxBy 14 texts words) (counted 3 10 words) _
    (counted_is 3 10 words) (λ _ n.
    bind_keeps (λ lever. word 1 words ≡ decimal lever) (BoxBy 14 texts words) (track_in b (word 1 words)) _
    (track_is b (word 1 words)) (λ lever e.
    bind_keeps (λ ps. place_words b.places ps ≡ drop 2 words) (BoxBy 14 texts words)
    (places_onto b.places [] (drop 2 words)) _ (places_are b.places [] (drop 2 words)) (λ ps f.
    if_keeps (BoxBy 14 texts words) (all_differ ps) _ _ (λ _.
    track_more k b texts words (record { lever = lever; places = ps }) low h
    (many_same words (codes "track") (decimal lever) (place_words b.places ps) n.0 key e (sym f))) (λ _. tt))))

-- ---- rows

row_more : (k : ℕ) (b : BoxFields) (texts : List (List (List ℕ))) (words : List (List ℕ)) (row : Row) → k ≤ 15
    → BoxGrown k b texts → words ≡ row_line row
    → BoxGrown 15 (record b { rows = b.rows ++ row ∷ [] }) (texts ++ words ∷ [])
row_more k b texts words row low h text =
    let next : BoxFields = record b { rows = b.rows ++ row ∷ [] } in
    let grown =
    grow_rows (codes "box" ∷ b.name ∷ []) (row_line row) (map place_line b.places) (map lever_line b.levers)
    (map (signal_line b.places) b.signals) (berth_part h.first b) (clear_part h.first b) (most_part h.first b)
    (map (track_line b.places) b.tracks) (map row_line b.rows) in
    let same : box_lines_by h.first next ≡ box_lines_by h.first b ++ row_line row ∷ [] =
    ap (λ (ls : List (List (List ℕ))). parts (codes "box" ∷ b.name ∷ []) (map place_line b.places)
    (map lever_line b.levers) (map (signal_line b.places) b.signals) (berth_part h.first b) (clear_part h.first b)
    (most_part h.first b) (map (track_line b.places) b.tracks) ls)
    (map-append row_line b.rows (row ∷ [])) ∙ grown in
    record {
      first = h.first;
      lines = next_lines h.first b texts words (row_line row) (box_lines_by h.first next) h.lines text same;
      levers = λ less. absurd (omega (arith, less));
      signals = λ less. absurd (omega (arith, less));
      up = λ less. absurd (omega (arith, less));
      down = λ less. absurd (omega (arith, less));
      clear_up = λ less. absurd (omega (arith, less));
      clear_down = λ less. absurd (omega (arith, less));
      most_up = λ less. absurd (omega (arith, less));
      most_down = λ less. absurd (omega (arith, less));
      tracks = λ less. absurd (omega (arith, less));
      rows = λ less. absurd (omega (arith, less));
    }

row_words_back : (row : Row) → IsRow row → words_of (join_with_byte 32 (row_words row)) ≡ row_words row
row_words_back row is =
    let line = row_is_line row is in
    words_of-words (decimal row.subject) _ (both (is_word (codes "row")) (list_all is_word (row_words row)) line.each).1

kind_long : (kind : RowKind) (object : ℕ) (rest : List (List ℕ)) → 2 ≤ length (kind_words kind object ++ rest)
kind_long LocksNormal object rest = omega arith
kind_long ReleasedBy object rest = omega arith
kind_long LocksBoth object rest = omega arith

row_long : (row : Row) → 2 ≤ length (row_words row)
row_long row = omega (arith, kind_long row.kind row.object (when_words row.when))

row_spelled : (r : Result Row RowFault) → OfOk (λ row. r ≡ Ok row) (spelled_row r)
row_spelled (Ok row) = refl
row_spelled (Err e) = tt

row_is : (rest : List (List ℕ)) (row : Row) → list_all (lacks 32) rest ≡ true → row_of (join_with_byte 32 rest) ≡ Ok row
    → rest ≡ row_words row
row_is rest row single e =
    let s = read_is_spelled (join_with_byte 32 rest) row e in
    go rest single (ap words_of (s.1 ∙ joined_same (row_words row)) ∙ row_words_back row s.0) where
      go : (rest : List (List ℕ)) → list_all (lacks 32) rest ≡ true → words_of (join_with_byte 32 rest) ≡ row_words row
          → rest ≡ row_words row
      go [] h f = absurd (omega (arith, ap length f, row_long row))
      go (w ∷ ws) h f = sym (words_of-joined (w ∷ ws) (omega arith) h) ∙ f

-- where a line `row` is taken, the lines of the box that it makes are those before and this one
pub row_grows : (k : ℕ) (b : BoxFields) (texts : List (List (List ℕ))) (words : List (List ℕ)) → k ≤ 15
    → keyword words ≡ codes "row" → list_all (lacks 32) words ≡ true → BoxGrown k b texts
    → OfOk (BoxBy 15 texts words) (row_onto b words)
unfolding row_onto
row_grows k b texts [] low key single h = absurd cc
row_grows k b texts (w ∷ words) low key single h =
    bind_keeps (λ row. row_of (join_with_byte 32 words) ≡ Ok row) (BoxBy 15 texts (w ∷ words)) _ _
    (row_spelled (row_of (join_with_byte 32 words))) (λ row e.
    bind_any (BoxBy 15 texts (w ∷ words)) (all_worked b (levers_of row)) _ (λ _.
    if_keeps (BoxBy 15 texts (w ∷ words)) (leb 400 (length b.rows)) _ _ (λ _. tt) (λ _.
    row_more k b texts (w ∷ words) row low h
    (ap (λ (x : List ℕ). x ∷ words) key
    ∙ ap (λ (ws : List (List ℕ)). codes "row" ∷ ws)
    (row_is words row (both (lacks 32 w) (list_all (lacks 32) words) single).1 e)))))

pub ruleset grown_rules = (berth_grows, clear_grows, permissive_grows, track_grows, row_grows)
