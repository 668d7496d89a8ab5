-- How many bytes the lines of a plan have as they are printed.
use Rattle.std.proofs.Common.{◌≡◌, ℕ, ◌+◌, ◌≤◌, Bool, true, false, cond, List, [], ◌∷◌, ◌++◌, length, map}
use Rattle.std.proofs.Common.{drop, refl, sym, ap, subst, ◌∙◌, arith, codes}
use Rattle.std.specs.List.{flat_map, list_all}
use Rattle.std.proofs.lemmas.Grind.{flat_map-append}
use Rattle.std.proofs.lemmas.List.{length-append}
use Rattle.rail_text.specs.Lines.{Line, words_of, line_bytes, printed_line}
use Rattle.rail_text.specs.Forms.{is_printable, is_skipped}
use Rattle.rail_text.specs.Kept.{is_formed, kept}
use Rattle.rail_text.proofs.PrintedLines.{both, joined-words_of}
use Rattle.block_words.specs.declared.Way.{Way}
use Rattle.block_words.specs.declared.Way.TheVariants.{Up, Down}
use Rattle.line_plan.specs.Frames.{BoxFields, berth_of}
use Rattle.line_plan.specs.Plans.{PlanFields}
use Rattle.plan_text.specs.Printing.{back_lines, berth_lines, class_line, clear_lines, front_lines, head_lines}
use Rattle.plan_text.specs.Printing.{line_text, permissive_lines, printed, printed_words, train_line}
use Rattle.plan_text.specs.Spelled.{FirstWays, both_ways, box_lines_by, boxes_lines_by, plan_lines_by, up_first}
use Rattle.plan_text.specs.Spelled.{way_lines_by}
use Rattle.plan_text.proofs.WordReads.{joined_same}

-- ---- lines

-- how many bytes lines have as they are printed
abbrev pub size : List (List (List ℕ)) → ℕ
size lines = length (printed lines)

-- lines behind others have as many bytes as both together
pub size-append : (one other : List (List (List ℕ))) → size (one ++ other) ≡ size one + size other
size-append one other =
    ap length (flat_map-append printed_words one other) ∙ length-append (printed one) (printed other)

-- a line before others has as many bytes as it and they together
pub size-cons : (words : List (List ℕ)) (lines : List (List (List ℕ)))
    → size (words ∷ lines) ≡ length (printed_words words) + size lines
size-cons words lines = length-append (printed_words words) (printed lines)

-- parts as long as other parts are together as long
sizes : (a b c d : List (List (List ℕ))) → size a ≡ size c → size b ≡ size d → size (a ++ b) ≡ size (c ++ d)
sizes a b c d p q =
    size-append a b ∙ ap (λ (n : ℕ). n + size b) p ∙ ap (λ (n : ℕ). size c + n) q ∙ sym (size-append c d)

-- ---- either way may stand first

size-ways : (way : Way) (lines : Way → List (List (List ℕ)))
    → size (both_ways way lines) ≡ size (lines Up ++ lines Down)
size-ways Up lines = refl
size-ways Down lines =
    let one = size-append (lines Down) (lines Up) in
    let other = size-append (lines Up) (lines Down) in
    omega (arith, one, other)

ways_as_long : (first : FirstWays) (b : BoxFields) → size (way_lines_by first b) ≡ size (way_lines_by up_first b)
ways_as_long first b =
    let berths : Way → List (List (List ℕ)) = λ way. berth_lines b.places way (berth_of b way) in
    let clears : Way → List (List (List ℕ)) = λ way. clear_lines b.places way (berth_of b way) in
    let most : Way → List (List (List ℕ)) = λ way. permissive_lines way (berth_of b way) in
    sizes (both_ways first.berths berths ++ both_ways first.clears clears) (both_ways first.permissives most)
    (both_ways Up berths ++ both_ways Up clears) (both_ways Up most)
    (sizes (both_ways first.berths berths) (both_ways first.clears clears) (both_ways Up berths) (both_ways Up clears)
    (size-ways first.berths berths) (size-ways first.clears clears))
    (size-ways first.permissives most)

box_as_long : (first : FirstWays) (b : BoxFields) → size (box_lines_by first b) ≡ size (box_lines_by up_first b)
box_as_long first b =
    sizes (front_lines b ++ way_lines_by first b) (back_lines b) (front_lines b ++ way_lines_by up_first b)
    (back_lines b)
    (sizes (front_lines b) (way_lines_by first b) (front_lines b) (way_lines_by up_first b) refl (ways_as_long first b))
    refl

boxes_as_long : (firsts : List FirstWays) (boxes : List BoxFields)
    → size (boxes_lines_by firsts boxes) ≡ size (boxes_lines_by [] boxes)
boxes_as_long [] boxes = refl
boxes_as_long (first ∷ firsts) [] = refl
boxes_as_long (first ∷ firsts) (b ∷ boxes) =
    sizes (box_lines_by first b) (boxes_lines_by firsts boxes) (box_lines_by up_first b) (boxes_lines_by [] boxes)
    (box_as_long first b) (boxes_as_long firsts boxes)

-- whichever way stands first, the lines of a plan are as long
pub plan_as_long : (firsts : List FirstWays) (plan : PlanFields)
    → size (plan_lines_by firsts plan) ≡ size (plan_lines_by [] plan)
unfolding plan_lines_by
plan_as_long firsts plan =
    let front = head_lines plan ++ map (class_line plan.codes) (drop 4 plan.classes) in
    let trains = map (train_line plan) plan.trains in
    let end : List (List (List ℕ)) = (codes "end" ∷ []) ∷ [] in
    let boxes = boxes_lines_by firsts plan.boxes in
    let up_boxes = boxes_lines_by [] plan.boxes in
    sizes (front ++ boxes ++ trains) end (front ++ up_boxes ++ trains) end
    (sizes (front ++ boxes) trains (front ++ up_boxes) trains
    (sizes front boxes front up_boxes refl (boxes_as_long firsts plan.boxes)) refl)
    refl

-- ---- the lines of a text

-- the lines that aren't skipped are no longer than all lines
kept_fit : (lines : List Line) → list_all is_formed lines ≡ true
    → length (flat_map printed_line (kept lines)) ≤ length (flat_map line_bytes lines)
kept_fit [] h = omega arith
kept_fit (line ∷ lines) h =
    let parts = both (is_formed line) (list_all is_formed lines) h in
    let ended = both line.ended (list_all is_printable line.text) (both _ _ parts.0).0 in
    go (is_skipped line.text) line.ended ended.0 (kept_fit lines parts.1) where
      go : (skipped whole : Bool) → whole ≡ true
          → length (flat_map printed_line (kept lines)) ≤ length (flat_map line_bytes lines)
          → length (flat_map printed_line (cond skipped (kept lines) (line.text ∷ kept lines)))
          ≤ length (cond whole (printed_line line.text) line.text ++ flat_map line_bytes lines)
      go skipped false e rest = absurd cc
      go true true e rest =
          let own = length-append (printed_line line.text) (flat_map line_bytes lines) in
          omega (arith, own, rest)
      go false true e rest =
          let own = length-append (printed_line line.text) (flat_map line_bytes lines) in
          let other = length-append (printed_line line.text) (flat_map printed_line (kept lines)) in
          omega (arith, own, other, rest)

words_back : (texts : List (List ℕ)) → printed (map words_of texts) ≡ flat_map printed_line texts
words_back [] = refl
words_back (text ∷ texts) =
    let same : line_text (words_of text) ≡ text = joined_same (words_of text) ∙ joined-words_of text in
    ap (λ (t : List ℕ). printed_line t ++ printed (map words_of texts)) same
    ∙ ap (λ (bytes : List ℕ). printed_line text ++ bytes) (words_back texts)

-- the words of the lines that aren't skipped are printed in no more bytes than all lines have
pub printed_fit : (lines : List Line) → list_all is_formed lines ≡ true
    → size (map words_of (kept lines)) ≤ length (flat_map line_bytes lines)
printed_fit lines h = subst (λ (bytes : List ℕ). length bytes ≤ length (flat_map line_bytes lines))
    (sym (words_back (kept lines))) (kept_fit lines h)
