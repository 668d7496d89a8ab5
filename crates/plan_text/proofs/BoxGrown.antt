-- A box and the lines that made it.
use Rattle.std.proofs.Common.{◌≡◌, ◌≢◌, ℕ, ◌<◌, ◌≤◌, true, false, ltb, leb, List, [], ◌∷◌, ◌++◌, length, map, drop}
use Rattle.std.proofs.Common.{None, Result, Ok, Err, refl, sym, ap, ◌∙◌, arith, codes, decimal, bytes_eq, append_assoc}
use Rattle.std.specs.List.{list_any}
use Rattle.std.proofs.lemmas.List.{append-nil, map-append}
use Rattle.rail_text.specs.Words.{is_name, keyword, number_in}
use Rattle.rail_text.specs.declared.cause.Cause.{Cause}
use Rattle.rail_text.proofs.Binds.{OfOk, bind_keeps, if_keeps, InRange, number_in_is}
use Rattle.block_words.specs.declared.Way.{Way}
use Rattle.block_words.specs.declared.Way.TheVariants.{Up, Down}
use Rattle.locking_table.specs.Sound.{all_differ}
use Rattle.line_plan.specs.declared.frame.Lever.{Lever}
use Rattle.line_plan.specs.declared.signal.To.{To}
use Rattle.line_plan.specs.declared.signal.To.TheVariants as ends
use Rattle.line_plan.specs.declared.signal.Signal.{Signal}
use Rattle.line_plan.specs.Frames.{BoxFields, places_of, frame_size, berth_of}
use Rattle.plan_draft.specs.LineWords.{counted, word, new_name, number_in_names, kind_in}
use Rattle.plan_draft.specs.BoxLines.{new_place, place_onto, next_number, lever_onto, arm_in, counted_over, with_signal}
use Rattle.plan_draft.specs.BoxLines.{signal_onto, leaving_in, starter_onto}
use Rattle.plan_text.specs.Printing.{name_word, over_words, place_line, lever_line, signal_line, berth_lines}
use Rattle.plan_text.specs.Printing.{clear_lines, permissive_lines, track_line, row_line}
use Rattle.line_plan.specs.Frames.{kind_word}
use Rattle.line_plan.specs.Ways.{way_word}
use Rattle.plan_text.specs.Spelled.{FirstWays, both_ways, box_lines_by}
use Rattle.plan_text.proofs.Built.{new_name_is}
use Rattle.plan_text.proofs.WordIs.{name_word_is, kind_is, end_word, is_end, end_is, arm_is, leaving_is, two_words}
use Rattle.plan_text.proofs.WordIs.{three_words, many_words, exactly, at_least_four, over_is}

abbrev Lines : Type 0
Lines = List (List (List ℕ))

-- a box up to the lines of this kind, and its lines so far
pub record BoxGrown (k : ℕ) (b : BoxFields) (texts : List (List (List ℕ))) : Type 0 where
  pub first : FirstWays
  pub lines : texts ≡ box_lines_by first b
  pub levers : k < 8 → b.levers ≡ []
  pub signals : k < 9 → b.signals ≡ []
  pub up : k < 11 → b.berth_up ≡ None
  pub down : k < 11 → b.berth_down ≡ None
  pub clear_up : k < 12 → clear_lines b.places Up b.berth_up ≡ []
  pub clear_down : k < 12 → clear_lines b.places Down b.berth_down ≡ []
  pub most_up : k < 13 → permissive_lines Up b.berth_up ≡ []
  pub most_down : k < 13 → permissive_lines Down b.berth_down ≡ []
  pub tracks : k < 14 → b.tracks ≡ []
  pub rows : k < 15 → b.rows ≡ []

-- what a line makes of such a box
abbrev pub BoxBy : ℕ → List (List (List ℕ)) → List (List ℕ) → BoxFields → Type 0
BoxBy k texts words next = BoxGrown k next (texts ++ words ∷ [])

-- ---- where a line comes to stand

-- a box's own line, then those of places, levers and signals, of berths, clearing places and permissive lines, of
-- track circuits and rows
abbrev pub parts : {W : Type 0} → W → List W → List W → List W → List W → List W → List W → List W → List W → List W
parts x p l s b c m t r = (x ∷ (p ++ l ++ s)) ++ (b ++ c ++ m) ++ (t ++ r)

flat : {W : Type 0} (x : W) (p l s b c m t r : List W)
    → parts x p l s b c m t r ≡ x ∷ (p ++ (l ++ (s ++ (b ++ (c ++ (m ++ (t ++ r)))))))
flat x p l s b c m t r = simp append_assoc

flat_more : {W : Type 0} (x w : W) (p l s b c m t r : List W)
    → parts x p l s b c m t r ++ w ∷ [] ≡ x ∷ (p ++ (l ++ (s ++ (b ++ (c ++ (m ++ (t ++ (r ++ w ∷ []))))))))
flat_more x w p l s b c m t r = simp append_assoc

end_here : {W : Type 0} (w : W) (l none one : List W) → none ≡ [] → one ≡ w ∷ [] → (l ++ w ∷ []) ++ none ≡ l ++ one
end_here w l none one e f =
    ap (λ (z : List _). (l ++ w ∷ []) ++ z) e ∙ append-nil (l ++ w ∷ []) ∙ ap (λ (z : List _). l ++ z) (sym f)

only_places : {W : Type 0} (x : W) (p l s b c m t r : List W) → l ≡ [] → s ≡ [] → b ≡ [] → c ≡ [] → m ≡ [] → t ≡ []
    → r ≡ [] → parts x p l s b c m t r ≡ x ∷ p
only_places {W} x p l s b c m t r el es eb ec em et er =
    let none : l ++ (s ++ (b ++ (c ++ (m ++ (t ++ r))))) ≡ [] = rw (el, es, eb, ec, em, et, er) refl in
    flat x p l s b c m t r ∙ ap (λ (z : List W). x ∷ (p ++ z)) none ∙ ap (λ (z : List W). x ∷ z) (append-nil p)

grow_levers : {W : Type 0} (x w : W) (p l s b c m t r : List W) → s ≡ [] → b ≡ [] → c ≡ [] → m ≡ [] → t ≡ [] → r ≡ []
    → parts x p (l ++ w ∷ []) s b c m t r ≡ parts x p l s b c m t r ++ w ∷ []
grow_levers {W} x w p l s b c m t r es eb ec em et er =
    let none : s ++ (b ++ (c ++ (m ++ (t ++ r)))) ≡ [] = rw (es, eb, ec, em, et, er) refl in
    let one : s ++ (b ++ (c ++ (m ++ (t ++ (r ++ w ∷ []))))) ≡ w ∷ [] = rw (es, eb, ec, em, et, er) refl in
    flat x p (l ++ w ∷ []) s b c m t r ∙ ap (λ (z : List W). x ∷ (p ++ z)) (end_here w l _ _ none one)
    ∙ sym (flat_more x w p l s b c m t r)

grow_signals : {W : Type 0} (x w : W) (p l s b c m t r : List W) → b ≡ [] → c ≡ [] → m ≡ [] → t ≡ [] → r ≡ []
    → parts x p l (s ++ w ∷ []) b c m t r ≡ parts x p l s b c m t r ++ w ∷ []
grow_signals {W} x w p l s b c m t r eb ec em et er =
    let none : b ++ (c ++ (m ++ (t ++ r))) ≡ [] = rw (eb, ec, em, et, er) refl in
    let one : b ++ (c ++ (m ++ (t ++ (r ++ w ∷ [])))) ≡ w ∷ [] = rw (eb, ec, em, et, er) refl in
    flat x p l (s ++ w ∷ []) b c m t r ∙ ap (λ (z : List W). x ∷ (p ++ (l ++ z))) (end_here w s _ _ none one)
    ∙ sym (flat_more x w p l s b c m t r)

-- where nothing stands behind the lines of berths, a line more of these is the last of the box
pub grow_berths : {W : Type 0} (x w : W) (p l s b b' c c' m m' t r : List W) → b' ≡ b ++ w ∷ [] → c ≡ [] → c' ≡ []
    → m ≡ [] → m' ≡ [] → t ≡ [] → r ≡ [] → parts x p l s b' c' m' t r ≡ parts x p l s b c m t r ++ w ∷ []
grow_berths {W} x w p l s b b' c c' m m' t r eb ec ec' em em' et er =
    let none : c' ++ (m' ++ (t ++ r)) ≡ [] = rw (ec', em', et, er) refl in
    let one : c ++ (m ++ (t ++ (r ++ w ∷ []))) ≡ w ∷ [] = rw (ec, em, et, er) refl in
    flat x p l s b' c' m' t r ∙ ap (λ (z : List W). x ∷ (p ++ (l ++ (s ++ (z ++ (c' ++ (m' ++ (t ++ r)))))))) eb
    ∙ ap (λ (z : List W). x ∷ (p ++ (l ++ (s ++ z)))) (end_here w b _ _ none one)
    ∙ sym (flat_more x w p l s b c m t r)

-- where nothing stands behind the lines of clearing places, a line more of these is the last of the box
pub grow_clears : {W : Type 0} (x w : W) (p l s b b' c c' m m' t r : List W) → b' ≡ b → c' ≡ c ++ w ∷ [] → m ≡ []
    → m' ≡ [] → t ≡ [] → r ≡ [] → parts x p l s b' c' m' t r ≡ parts x p l s b c m t r ++ w ∷ []
grow_clears {W} x w p l s b b' c c' m m' t r eb ec em em' et er =
    let none : m' ++ (t ++ r) ≡ [] = rw (em', et, er) refl in
    let one : m ++ (t ++ (r ++ w ∷ [])) ≡ w ∷ [] = rw (em, et, er) refl in
    flat x p l s b' c' m' t r ∙ ap (λ (z : List W). x ∷ (p ++ (l ++ (s ++ (z ++ (c' ++ (m' ++ (t ++ r)))))))) eb
    ∙ ap (λ (z : List W). x ∷ (p ++ (l ++ (s ++ (b ++ (z ++ (m' ++ (t ++ r)))))))) ec
    ∙ ap (λ (z : List W). x ∷ (p ++ (l ++ (s ++ (b ++ z))))) (end_here w c _ _ none one)
    ∙ sym (flat_more x w p l s b c m t r)

-- where nothing stands behind the lines of permissive lines, a line more of these is the last of the box
pub grow_most : {W : Type 0} (x w : W) (p l s b b' c c' m m' t r : List W) → b' ≡ b → c' ≡ c → m' ≡ m ++ w ∷ [] → t ≡ []
    → r ≡ [] → parts x p l s b' c' m' t r ≡ parts x p l s b c m t r ++ w ∷ []
grow_most {W} x w p l s b b' c c' m m' t r eb ec em et er =
    let none : t ++ r ≡ [] = rw (et, er) refl in
    let one : t ++ (r ++ w ∷ []) ≡ w ∷ [] = rw (et, er) refl in
    flat x p l s b' c' m' t r ∙ ap (λ (z : List W). x ∷ (p ++ (l ++ (s ++ (z ++ (c' ++ (m' ++ (t ++ r)))))))) eb
    ∙ ap (λ (z : List W). x ∷ (p ++ (l ++ (s ++ (b ++ (z ++ (m' ++ (t ++ r)))))))) ec
    ∙ ap (λ (z : List W). x ∷ (p ++ (l ++ (s ++ (b ++ (c ++ (z ++ (t ++ r)))))))) em
    ∙ ap (λ (z : List W). x ∷ (p ++ (l ++ (s ++ (b ++ (c ++ z)))))) (end_here w m _ _ none one)
    ∙ sym (flat_more x w p l s b c m t r)

-- where a box has no rows, a line of track circuits more is its last
pub grow_tracks : {W : Type 0} (x w : W) (p l s b c m t r : List W) → r ≡ []
    → parts x p l s b c m (t ++ w ∷ []) r ≡ parts x p l s b c m t r ++ w ∷ []
grow_tracks {W} x w p l s b c m t r er =
    let one : r ++ w ∷ [] ≡ w ∷ [] = rw er refl in
    flat x p l s b c m (t ++ w ∷ []) r
    ∙ ap (λ (z : List W). x ∷ (p ++ (l ++ (s ++ (b ++ (c ++ (m ++ z))))))) (end_here w t _ _ er one)
    ∙ sym (flat_more x w p l s b c m t r)

-- a row more is the last line of a box
pub grow_rows : {W : Type 0} (x w : W) (p l s b c m t r : List W)
    → parts x p l s b c m t (r ++ w ∷ []) ≡ parts x p l s b c m t r ++ w ∷ []
grow_rows x w p l s b c m t r = flat x p l s b c m t (r ++ w ∷ []) ∙ sym (flat_more x w p l s b c m t r)

both_none : {A : Type 0} (w : Way) (f : Way → List A) → f Up ≡ [] → f Down ≡ [] → both_ways w f ≡ []
both_none Up f u d = rw (u, d) refl
both_none Down f u d = rw (u, d) refl

-- where the up line has none, the lines of both ways are those of the down line
pub both_down : {A : Type 0} (w : Way) (f : Way → List A) → f Up ≡ [] → both_ways w f ≡ f Down
both_down Up f u = rw u refl
both_down Down f u = rw u (append-nil (f Down))

-- where the down line has none, the lines of both ways are those of the up line
pub both_up : {A : Type 0} (w : Way) (f : Way → List A) → f Down ≡ [] → both_ways w f ≡ f Up
both_up Up f d = rw d (append-nil (f Up))
both_up Down f d = rw d refl

-- lines that are the same for each way are the same for both together
pub both_same : {A : Type 0} (w : Way) (f g : Way → List A) → f Up ≡ g Up → f Down ≡ g Down
    → both_ways w f ≡ both_ways w g
both_same Up f g u d = rw (u, d) refl
both_same Down f g u d = rw (u, d) refl

-- the lines of the berths, and of what stands behind each
abbrev pub berth_part : FirstWays → BoxFields → List (List (List ℕ))
berth_part first b = both_ways first.berths (λ way. berth_lines b.places way (berth_of b way))

-- the lines of the clearing places of both ways
abbrev pub clear_part : FirstWays → BoxFields → List (List (List ℕ))
clear_part first b = both_ways first.clears (λ way. clear_lines b.places way (berth_of b way))

-- the lines that say of both ways how many trains a permissive line takes
abbrev pub most_part : FirstWays → BoxFields → List (List (List ℕ))
most_part first b = both_ways first.permissives (λ way. permissive_lines way (berth_of b way))

no_berths : (first : FirstWays) (b : BoxFields) → b.berth_up ≡ None → b.berth_down ≡ None → berth_part first b ≡ []
no_berths first b u d =
    both_none first.berths (λ way. berth_lines b.places way (berth_of b way)) (ap (berth_lines b.places Up) u)
    (ap (berth_lines b.places Down) d)

-- where neither way has clearing places, the box has no line of them
pub no_clears : (first : FirstWays) (b : BoxFields) → clear_lines b.places Up b.berth_up ≡ []
    → clear_lines b.places Down b.berth_down ≡ [] → clear_part first b ≡ []
no_clears first b u d = both_none first.clears (λ way. clear_lines b.places way (berth_of b way)) u d

-- where neither way's line is permissive, the box has no line that says so
pub no_most : (first : FirstWays) (b : BoxFields) → permissive_lines Up b.berth_up ≡ []
    → permissive_lines Down b.berth_down ≡ [] → most_part first b ≡ []
no_most first b u d = both_none first.permissives (λ way. permissive_lines way (berth_of b way)) u d

-- ---- words of lines

-- a line of two words whose first and second are these is these two
pub two_same : (words : List (List ℕ)) (a b : List ℕ) → length words ≡ 2 → keyword words ≡ a → word 1 words ≡ b
    → words ≡ a ∷ b ∷ []
two_same words a b n e f =
    two_words words n ∙ ap (λ (x : List ℕ). x ∷ word 1 words ∷ []) e ∙ ap (λ (x : List ℕ). a ∷ x ∷ []) f

-- a line of three words whose first, second and third are these is these three
pub three_same : (words : List (List ℕ)) (a b c : List ℕ) → length words ≡ 3 → keyword words ≡ a → word 1 words ≡ b
    → word 2 words ≡ c → words ≡ a ∷ b ∷ c ∷ []
three_same words a b c n e f g =
    three_words words n ∙ ap (λ (x : List ℕ). x ∷ word 1 words ∷ word 2 words ∷ []) e
    ∙ ap (λ (x : List ℕ). a ∷ x ∷ word 2 words ∷ []) f ∙ ap (λ (x : List ℕ). a ∷ b ∷ x ∷ []) g

-- a line of three words or more whose first, second and all behind are these is these
pub many_same : (words : List (List ℕ)) (a b : List ℕ) (more : List (List ℕ)) → 3 ≤ length words → keyword words ≡ a
    → word 1 words ≡ b → drop 2 words ≡ more → words ≡ a ∷ b ∷ more
many_same words a b more n e f g =
    many_words words n ∙ ap (λ (x : List ℕ). x ∷ word 1 words ∷ drop 2 words) e
    ∙ ap (λ (x : List ℕ). a ∷ x ∷ drop 2 words) f ∙ ap (λ (xs : List (List ℕ)). a ∷ b ∷ xs) g

-- ---- places and levers

new_place_is : (b : BoxFields) (text : List ℕ) → OfOk (λ name. text ≡ name) (new_place b text)
unfolding new_place
new_place_is b text =
    if_keeps (λ name. text ≡ name) (bytes_eq text (codes "away")) _ _ (λ _. tt)
    (λ _. weak (new_name b.places text) (new_name_is b.places text)) where
      weak : (r : Result (List ℕ) Cause)
          → OfOk (λ name. (text ≡ name) × (is_name name ≡ true) × (list_any (bytes_eq name) b.places ≡ false)) r
          → OfOk (λ name. text ≡ name) r
      weak (Ok name) h = h.0
      weak (Err e) h = tt

-- where a line `place` is taken, the lines of the box that it makes are those before and this one
pub place_grows : (k : ℕ) (b : BoxFields) (texts : List (List (List ℕ))) (words : List (List ℕ)) → k ≤ 7
    → keyword words ≡ codes "place" → BoxGrown k b texts → OfOk (BoxBy 7 texts words) (place_onto b words)
unfolding place_onto
place_grows k b texts words low key h =
    bind_keeps (λ _. length words ≡ 2) (BoxBy 7 texts words) (counted 2 2 words) _ (exactly 2 words) (λ _ n.
    bind_keeps (λ name. word 1 words ≡ name) (BoxBy 7 texts words) (new_place b (word 1 words)) _
    (new_place_is b (word 1 words)) (λ name e.
    if_keeps (BoxBy 7 texts words) (leb 64 (length b.places)) _ _ (λ _. tt) (λ _.
    let next : BoxFields = record b { places = b.places ++ name ∷ [] } in
    let levers = h.levers (omega (arith, low)) in
    let signals = h.signals (omega (arith, low)) in
    let up = h.up (omega (arith, low)) in
    let down = h.down (omega (arith, low)) in
    let tracks = h.tracks (omega (arith, low)) in
    let rows = h.rows (omega (arith, low)) in
    let before : box_lines_by h.first b ≡ (codes "box" ∷ b.name ∷ []) ∷ map place_line b.places =
    only_places (codes "box" ∷ b.name ∷ []) (map place_line b.places) (map lever_line b.levers)
    (map (signal_line b.places) b.signals) (berth_part h.first b) (clear_part h.first b) (most_part h.first b)
    (map (track_line b.places) b.tracks) (map row_line b.rows)
    (ap (map lever_line) levers) (ap (map (signal_line b.places)) signals) (no_berths h.first b up down)
    (no_clears h.first b (ap (clear_lines b.places Up) up) (ap (clear_lines b.places Down) down))
    (no_most h.first b (ap (permissive_lines Up) up) (ap (permissive_lines Down) down))
    (ap (map (track_line b.places)) tracks) (ap (map row_line) rows) in
    let after : box_lines_by h.first next ≡ (codes "box" ∷ b.name ∷ []) ∷ map place_line (b.places ++ name ∷ []) =
    only_places (codes "box" ∷ b.name ∷ []) (map place_line next.places) (map lever_line b.levers)
    (map (signal_line next.places) b.signals) (berth_part h.first next) (clear_part h.first next)
    (most_part h.first next) (map (track_line next.places) b.tracks) (map row_line b.rows)
    (ap (map lever_line) levers) (ap (map (signal_line next.places)) signals) (no_berths h.first next up down)
    (no_clears h.first next (ap (clear_lines next.places Up) up) (ap (clear_lines next.places Down) down))
    (no_most h.first next (ap (permissive_lines Up) up) (ap (permissive_lines Down) down))
    (ap (map (track_line next.places)) tracks) (ap (map row_line) rows) in
    record {
      first = h.first;
      lines = ap (λ (ls : List (List (List ℕ))). ls ++ words ∷ []) (h.lines ∙ before)
          ∙ ap (λ (w : List (List ℕ)). ((codes "box" ∷ b.name ∷ []) ∷ map place_line b.places) ++ w ∷ [])
          (two_same words (codes "place") name n key e)
          ∙ ap (λ (ls : List (List (List ℕ))). (codes "box" ∷ b.name ∷ []) ∷ ls)
          (sym (map-append place_line b.places (name ∷ []))) ∙ sym after;
      levers = λ _. levers;
      signals = λ _. signals;
      up = λ _. up;
      down = λ _. down;
      clear_up = λ _. ap (clear_lines next.places Up) up;
      clear_down = λ _. ap (clear_lines next.places Down) down;
      most_up = λ _. ap (permissive_lines Up) up;
      most_down = λ _. ap (permissive_lines Down) down;
      tracks = λ _. tracks;
      rows = λ _. rows;
    })))

next_number_is : (b : BoxFields) (text : List ℕ) → OfOk (λ n. text ≡ decimal n) (next_number b text)
unfolding next_number
next_number_is b text =
    bind_keeps (InRange 1 120 text) (λ n. text ≡ decimal n) (number_in 1 120 text) _ (number_in_is 1 120 text)
    (λ n r. if_keeps (λ n. text ≡ decimal n) (ltb (frame_size b.levers) n) _ _ (λ _. r.0) (λ _. tt))

-- where a line `lever` is taken, the lines of the box that it makes are those before and this one
pub lever_grows : (k : ℕ) (b : BoxFields) (texts : List (List (List ℕ))) (words : List (List ℕ)) → k ≤ 8
    → keyword words ≡ codes "lever" → BoxGrown k b texts → OfOk (BoxBy 8 texts words) (lever_onto b words)
unfolding lever_onto
lever_grows k b texts words low key h =
    bind_keeps (λ _. length words ≡ 3) (BoxBy 8 texts words) (counted 3 3 words) _ (exactly 3 words) (λ _ n.
    bind_keeps (λ number. word 1 words ≡ decimal number) (BoxBy 8 texts words) (next_number b (word 1 words)) _
    (next_number_is b (word 1 words)) (λ number e.
    bind_keeps (λ kind. word 2 words ≡ kind_word kind) (BoxBy 8 texts words) (kind_in (word 2 words)) _
    (kind_is (word 2 words)) (λ kind f.
    let lever : Lever = record { number = number; kind = kind } in
    let signals = h.signals (omega (arith, low)) in
    let up = h.up (omega (arith, low)) in
    let down = h.down (omega (arith, low)) in
    let tracks = h.tracks (omega (arith, low)) in
    let rows = h.rows (omega (arith, low)) in
    let grown =
    grow_levers (codes "box" ∷ b.name ∷ []) (lever_line lever) (map place_line b.places) (map lever_line b.levers)
    (map (signal_line b.places) b.signals) (berth_part h.first b) (clear_part h.first b) (most_part h.first b)
    (map (track_line b.places) b.tracks) (map row_line b.rows)
    (ap (map (signal_line b.places)) signals) (no_berths h.first b up down)
    (no_clears h.first b (ap (clear_lines b.places Up) up) (ap (clear_lines b.places Down) down))
    (no_most h.first b (ap (permissive_lines Up) up) (ap (permissive_lines Down) down))
    (ap (map (track_line b.places)) tracks) (ap (map row_line) rows) in
    record {
      first = h.first;
      lines = ap (λ (ls : List (List (List ℕ))). ls ++ words ∷ []) h.lines
          ∙ ap (λ (w : List (List ℕ)). box_lines_by h.first b ++ w ∷ [])
          (three_same words (codes "lever") (decimal number) (kind_word kind) n key e f) ∙ sym grown
          ∙ ap (λ (ls : List (List (List ℕ))). parts (codes "box" ∷ b.name ∷ []) (map place_line b.places) ls
          (map (signal_line b.places) b.signals) (berth_part h.first b) (clear_part h.first b) (most_part h.first b)
          (map (track_line b.places) b.tracks) (map row_line b.rows))
          (sym (map-append lever_line b.levers (lever ∷ [])));
      levers = λ less. absurd (omega (arith, less));
      signals = λ _. signals;
      up = λ _. up;
      down = λ _. down;
      clear_up = λ _. ap (clear_lines b.places Up) up;
      clear_down = λ _. ap (clear_lines b.places Down) down;
      most_up = λ _. ap (permissive_lines Up) up;
      most_down = λ _. ap (permissive_lines Down) down;
      tracks = λ _. tracks;
      rows = λ _. rows;
    })))

-- ---- signals and starters

-- a box with a signal or starter more, whose line this is
signal_more : (k high : ℕ) (b : BoxFields) (texts : List (List (List ℕ))) (words : List (List ℕ)) (s : Signal) → k ≤ 10
    → 9 ≤ high → high ≤ 10 → BoxGrown k b texts → words ≡ signal_line b.places s
    → OfOk (BoxBy high texts words) (with_signal b s)
unfolding with_signal
signal_more k high b texts words s low above below h text =
    if_keeps (BoxBy high texts words) (all_differ (places_of s)) _ _ (λ _.
    let up = h.up (omega (arith, low)) in
    let down = h.down (omega (arith, low)) in
    let tracks = h.tracks (omega (arith, low)) in
    let rows = h.rows (omega (arith, low)) in
    let grown =
    grow_signals (codes "box" ∷ b.name ∷ []) (signal_line b.places s) (map place_line b.places)
    (map lever_line b.levers) (map (signal_line b.places) b.signals) (berth_part h.first b) (clear_part h.first b)
    (most_part h.first b) (map (track_line b.places) b.tracks) (map row_line b.rows)
    (no_berths h.first b up down)
    (no_clears h.first b (ap (clear_lines b.places Up) up) (ap (clear_lines b.places Down) down))
    (no_most h.first b (ap (permissive_lines Up) up) (ap (permissive_lines Down) down))
    (ap (map (track_line b.places)) tracks) (ap (map row_line) rows) in
    record {
      first = h.first;
      lines = ap (λ (ls : List (List (List ℕ))). ls ++ words ∷ []) h.lines
          ∙ ap (λ (w : List (List ℕ)). box_lines_by h.first b ++ w ∷ []) text ∙ sym grown
          ∙ ap (λ (ls : List (List (List ℕ))). parts (codes "box" ∷ b.name ∷ []) (map place_line b.places)
          (map lever_line b.levers) ls (berth_part h.first b) (clear_part h.first b) (most_part h.first b)
          (map (track_line b.places) b.tracks) (map row_line b.rows))
          (sym (map-append (signal_line b.places) b.signals (s ∷ [])));
      levers = λ less. absurd (omega (arith, less, above));
      signals = λ less. absurd (omega (arith, less, above));
      up = λ _. up;
      down = λ _. down;
      clear_up = λ _. ap (clear_lines b.places Up) up;
      clear_down = λ _. ap (clear_lines b.places Down) down;
      most_up = λ _. ap (permissive_lines Up) up;
      most_down = λ _. ap (permissive_lines Down) down;
      tracks = λ _. tracks;
      rows = λ _. rows;
    }) (λ _. tt)

four_same : (words : List (List ℕ)) (more : List (List ℕ)) (a b c d : List ℕ)
    → words ≡ keyword words ∷ word 1 words ∷ word 2 words ∷ word 3 words ∷ more → keyword words ≡ a → word 1 words ≡ b
    → word 2 words ≡ c → word 3 words ≡ d → words ≡ a ∷ b ∷ c ∷ d ∷ more
four_same words more a b c d n e f g i =
    n ∙ ap (λ (x : List ℕ). x ∷ word 1 words ∷ word 2 words ∷ word 3 words ∷ more) e
    ∙ ap (λ (x : List ℕ). a ∷ x ∷ word 2 words ∷ word 3 words ∷ more) f
    ∙ ap (λ (x : List ℕ). a ∷ b ∷ x ∷ word 3 words ∷ more) g ∙ ap (λ (x : List ℕ). a ∷ b ∷ c ∷ x ∷ more) i

signal_text : (names : List (List ℕ)) (lever start : ℕ) (over : List ℕ) (to : To) → is_end to ≡ true
    → codes "signal" ∷ decimal lever ∷ name_word names start ∷ end_word names to ∷ over_words names over
    ≡ signal_line names (record { lever = lever; from = start; over = over; to = to })
signal_text names lever start over (ends.Place place) e = refl
signal_text names lever start over ends.Away e = refl
signal_text names lever start over (ends.Section way) e = absurd cc

-- where a line `signal` is taken, the lines of the box that it makes are those before and this one
pub signal_grows : (k : ℕ) (b : BoxFields) (texts : List (List (List ℕ))) (words : List (List ℕ)) → k ≤ 9
    → keyword words ≡ codes "signal" → BoxGrown k b texts → OfOk (BoxBy 9 texts words) (signal_onto b words)
unfolding signal_onto
signal_grows k b texts words low key h =
    bind_keeps (λ _. (4 ≤ length words) × (length words ≢ 5)) (BoxBy 9 texts words) (counted_over words) _
    (at_least_four words) (λ _ n.
    bind_keeps (λ lever. word 1 words ≡ decimal lever) (BoxBy 9 texts words) (arm_in b (word 1 words)) _
    (arm_is b (word 1 words)) (λ lever e.
    bind_keeps (λ p. word 2 words ≡ name_word b.places p) (BoxBy 9 texts words)
    (number_in_names b.places (word 2 words)) _ (name_word_is b.places (word 2 words)) (λ start f.
    bind_keeps (λ to. (word 3 words ≡ end_word b.places to) × (is_end to ≡ true)) (BoxBy 9 texts words) _ _
    (end_is b.places (word 3 words)) (λ to g.
    bind_keeps (λ over. words ≡ keyword words ∷ word 1 words ∷ word 2 words ∷ word 3 words ∷ over_words b.places over)
    (BoxBy 9 texts words) _ _ (over_is b words n.0 n.1) (λ over o.
    signal_more k 9 b texts words (record { lever = lever; from = start; over = over; to = to }) (omega (arith, low))
    (omega arith) (omega arith) h
    (four_same words (over_words b.places over) (codes "signal") (decimal lever) (name_word b.places start)
    (end_word b.places to) o key e f g.0 ∙ signal_text b.places lever start over to g.1))))))

-- where a line `starter` is taken, the lines of the box that it makes are those before and this one
pub starter_grows : (boxes n k : ℕ) (b : BoxFields) (texts : List (List (List ℕ))) (words : List (List ℕ)) → k ≤ 10
    → keyword words ≡ codes "starter" → BoxGrown k b texts → OfOk (BoxBy 10 texts words) (starter_onto boxes n b words)
unfolding starter_onto
starter_grows boxes n k b texts words low key h =
    bind_keeps (λ _. (4 ≤ length words) × (length words ≢ 5)) (BoxBy 10 texts words) (counted_over words) _
    (at_least_four words) (λ _ m.
    bind_keeps (λ way. word 1 words ≡ way_word way) (BoxBy 10 texts words) (leaving_in boxes n b (word 1 words)) _
    (leaving_is boxes n b (word 1 words)) (λ way e.
    bind_keeps (λ lever. word 2 words ≡ decimal lever) (BoxBy 10 texts words) (arm_in b (word 2 words)) _
    (arm_is b (word 2 words)) (λ lever f.
    bind_keeps (λ p. word 3 words ≡ name_word b.places p) (BoxBy 10 texts words)
    (number_in_names b.places (word 3 words)) _ (name_word_is b.places (word 3 words)) (λ start g.
    bind_keeps (λ over. words ≡ keyword words ∷ word 1 words ∷ word 2 words ∷ word 3 words ∷ over_words b.places over)
    (BoxBy 10 texts words) _ _ (over_is b words m.0 m.1) (λ over o.
    signal_more k 10 b texts words (record { lever = lever; from = start; over = over; to = ends.Section way }) low
    (omega arith) (omega arith) h
    (four_same words (over_words b.places over) (codes "starter") (way_word way) (decimal lever)
    (name_word b.places start) o key e f g))))))

pub ruleset grown_rules = (place_grows, lever_grows, signal_grows, starter_grows)
