-- A box with a signal or starter more.
use Rattle.std.proofs.Common.{◌≡◌, ℕ, ◌+◌, ◌<◌, ◌≤◌, Bool, true, false, cond, not, ◌||◌, ◌&&◌, eqb, List, [], ◌∷◌, ◌++◌}
use Rattle.std.proofs.Common.{length, map, filter, drop, Option, None, Some, IsTrue, is_some, Result, Ok, Err, refl}
use Rattle.std.proofs.Common.{sym, ap, ◌∙◌, arith, codes, bytes_eq, option_map}
use Rattle.std.specs.Prelude.{All, IfSome}
use Rattle.std.specs.List.{find, list_any}
use Rattle.std.proofs.lemmas.Bool.Decides.{nat_tests}
use Rattle.std.proofs.lemmas.List.{map-append, length-drop, append-nil}
use Rattle.std.proofs.lemmas.List.Elements.{All-nil, All-cons, All-push, All-weaker, All-append, filter-append}
use Rattle.std.proofs.lemmas.List.Folds.{list_any-append}
use Rattle.rail_text.specs.Words.{number_in}
use Rattle.rail_text.specs.declared.cause.Cause.{Cause}
use Rattle.rail_text.specs.declared.cause.Cause.TheVariants as causes
use Rattle.rail_text.proofs.Binds.{OfOk, bind_keeps, bind_any, if_keeps}
use Rattle.rail_text.proofs.PrintedLines.{both, not_true}
use Rattle.block_words.specs.declared.Way.{Way}
use Rattle.block_words.specs.declared.Way.TheVariants.{Up, Down}
use Rattle.locking_table.specs.Sound.{all_differ}
use Rattle.line_plan.specs.declared.frame.Kind.{Kind}
use Rattle.line_plan.specs.declared.frame.Kind.TheVariants as kinds
use Rattle.line_plan.specs.declared.frame.Lever.{Lever}
use Rattle.line_plan.specs.declared.signal.To.{To}
use Rattle.line_plan.specs.declared.signal.To.TheVariants as ends
use Rattle.line_plan.specs.declared.signal.Signal.{Signal}
use Rattle.line_plan.specs.Frames.{BoxFields, lever_of, kind_of, signal_of, end_places, places_of, way_to, leads_to}
use Rattle.line_plan.specs.Frames.{is_starter, starter_of, starters_last}
use Rattle.line_plan.specs.Ways.{leaves}
use Rattle.line_plan.specs.Plans.{IsPlace, IsWay, IsSignal, IsBerth, IsTrackLock, IsBoxRow}
use Rattle.plan_draft.specs.LineWords.{counted, word, number_in_names, places_onto, way_in, end_in, lever_in}
use Rattle.plan_draft.specs.BoxLines.{is_signal_kind, arm_in, over_in, counted_over, with_signal, signal_onto}
use Rattle.plan_draft.specs.BoxLines.{leaving_in, starter_onto}
use Rattle.line_plan.proofs.Listed.{found_any, absent_map}
use Rattle.plan_text.proofs.Built.{Built, known_keeps, number_is, places_are, counted_is, none_all, none_if}

find_passes : {A : Type 0} (p : A → Bool) (xs : List A) (x : A) → find p xs ≡ Some x → p x ≡ true
find_passes p [] x e = absurd cc
find_passes {A} p (y ∷ ys) x e = go (p y) refl (find_passes p ys x) e where
  go : (b : Bool) → p y ≡ b → (find p ys ≡ Some x → p x ≡ true) → cond b (Some y) (find p ys) ≡ Some x → p x ≡ true
  go true t rest e = let same : y ≡ x = cc in ap p (sym same) ∙ t
  go false t rest e = rest e

eqb_is : (a b : ℕ) → eqb a b ≡ true → a ≡ b
eqb_is a b e = grind (arith, nat_tests)

-- a lever that a word names is the box's lever of its number
pub lever_is : (box_plan : BoxFields) (text : List ℕ)
    → OfOk (λ lever. lever_of box_plan lever.number ≡ Some lever) (lever_in box_plan text)
unfolding lever_in
lever_is box_plan text =
    bind_any (λ lever. lever_of box_plan lever.number ≡ Some lever) (number_in 1 120 text) _ (λ n.
    known_keeps (λ lever. lever_of box_plan lever.number ≡ Some lever) causes.UnknownLever (lever_of box_plan n)
    (λ lever e.
    let same : lever.number ≡ n = eqb_is lever.number n (find_passes (λ l. eqb l.number n) box_plan.levers lever e) in
    ap (lever_of box_plan) same ∙ e))

signal_kind : (kind : Kind) → not (is_signal_kind kind) ≡ false → kind ≡ kinds.Signal
signal_kind kinds.Signal e = refl
signal_kind kinds.Points e = absurd cc
signal_kind kinds.Lock e = absurd cc
signal_kind kinds.Distant e = absurd cc
signal_kind kinds.Spare e = absurd cc

-- a signal lever that has none so far
abbrev IsArm : BoxFields → ℕ → Type 0
IsArm box_plan n = (kind_of box_plan n ≡ Some kinds.Signal) × (is_some (signal_of box_plan n) ≡ false)

arm_is : (box_plan : BoxFields) (text : List ℕ) → OfOk (IsArm box_plan) (arm_in box_plan text)
unfolding arm_in
arm_is box_plan text =
    bind_keeps (λ lever. lever_of box_plan lever.number ≡ Some lever) (IsArm box_plan) (lever_in box_plan text) _
    (lever_is box_plan text) (λ lever e.
    if_keeps (IsArm box_plan) (not (is_signal_kind lever.kind)) _ _ (λ _. tt) (λ k.
    if_keeps (IsArm box_plan) (is_some (signal_of box_plan lever.number)) _ _ (λ _. tt) (λ free.
    (ap (option_map (λ (l : Lever). l.kind)) e ∙ ap Some (signal_kind lever.kind k), free))))

-- at most four places
abbrev AreOver : BoxFields → List ℕ → Type 0
AreOver box_plan places = All (IsPlace box_plan) places × (length places ≤ 4)

counted_over_is : (words : List (List ℕ)) → OfOk (λ _. length words ≤ 9) (counted_over words)
counted_over_is words =
    if_keeps (λ _. length words ≤ 9) (eqb (length words) 4) _ _ (λ e. grind (arith, nat_tests))
    (λ _. high (counted 6 9 words) (counted_is 6 9 words)) where
      high : (r : Result (Unit {0}) Cause) → OfOk (λ _. (6 ≤ length words) × (length words ≤ 9)) r
          → OfOk (λ _. length words ≤ 9) r
      high (Ok x) h = h.1
      high (Err e) h = tt

over_is : (box_plan : BoxFields) (words : List (List ℕ)) → length words ≤ 9
    → OfOk (AreOver box_plan) (over_in box_plan words)
unfolding over_in
over_is box_plan words few =
    if_keeps (AreOver box_plan) (eqb (length words) 4) _ _ (λ _. (All-nil (IsPlace box_plan), omega arith)) (λ _.
    if_keeps (AreOver box_plan) (bytes_eq (word 4 words) (codes "over")) _ _
    (λ _. are (places_onto box_plan.places [] (drop 5 words))
    (places_are box_plan.places [] (drop 5 words) (All-nil (λ p. p < length box_plan.places)))) (λ _. tt)) where
      are : (r : Result (List ℕ) Cause)
          → OfOk (λ ps. All (λ p. p < length box_plan.places) ps
          × (length ps ≡ length {A = ℕ} [] + length (drop 5 words))) r → OfOk (AreOver box_plan) r
      are (Ok ps) h = (h.0, omega (arith, h.1, length-drop 5 words, few))
      are (Err e) h = tt

-- an end that is no section
abbrev IsEnd : BoxFields → To → Type 0
IsEnd box_plan to = (way_to to ≡ None) × All (IsPlace box_plan) (end_places to)

end_is : (box_plan : BoxFields) (text : List ℕ) → OfOk (IsEnd box_plan) (end_in box_plan.places text)
unfolding end_in
end_is box_plan text =
    if_keeps (IsEnd box_plan) (bytes_eq text (codes "away")) _ _ (λ _. (refl, All-nil (IsPlace box_plan))) (λ _.
    bind_keeps (λ n. n < length box_plan.places) (IsEnd box_plan) (number_in_names box_plan.places text) _
    (number_is box_plan.places text)
    (λ place within. (refl, All-cons (IsPlace box_plan) place [] within (All-nil (IsPlace box_plan)))))

-- ---- lists that grow

-- numbers that all differ still do so with one more that isn't among them
pub differ_more : (ns : List ℕ) (n : ℕ) → IsTrue (all_differ ns) → list_any (λ k. eqb k n) ns ≡ false
    → IsTrue (all_differ (ns ++ n ∷ []))
differ_more [] n h e = refl
differ_more (m ∷ ns) n h e =
    let b = both (not (list_any (λ k. eqb k m) ns)) (all_differ ns) h in
    let parts = or_false (eqb m n) (list_any (λ k. eqb k n) ns) e in
    let other : eqb n m ≡ false = grind (arith, nat_tests, parts.0) in
    let none : list_any (λ k. eqb k m) (ns ++ n ∷ []) ≡ false =
    list_any-append (λ k. eqb k m) ns (n ∷ []) ∙ rw (not_true _ b.0, other) refl in
    rw (none, differ_more ns n b.1 parts.1) refl where
      or_false : (a b : Bool) → a || b ≡ false → (a ≡ false) × (b ≡ false)
      or_false true b e = absurd cc
      or_false false b e = (refl, e)

abbrev leads : Signal → Bool
leads signal = is_some (leads_to signal)

last_starter : (xs : List Signal) (s : Signal) → leads s ≡ true → IsTrue (starters_last xs)
    → IsTrue (starters_last (xs ++ s ∷ []))
last_starter [] s e h = rw e refl
last_starter (x ∷ xs) s e h =
    let b = both (not (leads x) || not (list_any (λ later. not (leads later)) xs)) (starters_last xs) h in
    let same : list_any (λ later. not (leads later)) (xs ++ s ∷ []) ≡ list_any (λ later. not (leads later)) xs =
    list_any-append (λ later. not (leads later)) xs (s ∷ [])
    ∙ rw e (or_none (list_any (λ later. not (leads later)) xs)) in
    rw (same, b.0, last_starter xs s e b.1) refl where
      or_none : (b : Bool) → b || false ≡ b
      or_none true = refl
      or_none false = refl

last_signal : (xs : List Signal) (s : Signal) → list_any leads xs ≡ false → IsTrue (starters_last (xs ++ s ∷ []))
last_signal [] s e = or_true (not (leads s)) where
  or_true : (b : Bool) → (b || true) && true ≡ true
  or_true true = refl
  or_true false = refl
last_signal (x ∷ xs) s e = let p = or_false (leads x) (list_any leads xs) e in rw (p.0, last_signal xs s p.1) refl where
  or_false : (a b : Bool) → a || b ≡ false → (a ≡ false) × (b ≡ false)
  or_false true b e = absurd cc
  or_false false b e = (refl, e)

none_pass : {A : Type 0} (p : A → Bool) (xs : List A) → list_any p xs ≡ false → filter p xs ≡ []
none_pass p [] e = refl
none_pass p (x ∷ xs) e = let q = or_false (p x) (list_any p xs) e in rw (q.0) (none_pass p xs q.1) where
  or_false : (a b : Bool) → a || b ≡ false → (a ≡ false) × (b ≡ false)
  or_false true b e = absurd cc
  or_false false b e = (refl, e)

-- one starter of a way at most
first_starter : (w : Way) (xs : List Signal) (s : Signal) → list_any (is_starter w) xs ≡ false
    → length (filter (is_starter w) (xs ++ s ∷ [])) ≤ 1
first_starter w xs s e =
    rw (filter-append (is_starter w) xs (s ∷ []), none_pass (is_starter w) xs e) (go (is_starter w s)) where
      go : (b : Bool) → length (cond b (s ∷ []) []) ≤ 1
      go true = omega arith
      go false = omega arith

other_starter : (w : Way) (xs : List Signal) (s : Signal) → length (filter (is_starter w) xs) ≤ 1
    → is_starter w s ≡ false → length (filter (is_starter w) (xs ++ s ∷ [])) ≤ 1
other_starter w xs s h e = rw (filter-append (is_starter w) xs (s ∷ []), e, append-nil) h

-- ---- a signal or starter more

-- what a new signal or starter meets
record IsNew (boxes b : ℕ) (box_plan : BoxFields) (signal : Signal) : Type 0 where
  arm : IsArm box_plan signal.lever
  places : All (IsPlace box_plan) (places_of signal)
  few : length signal.over ≤ 4
  way : IsWay boxes b signal
  last : IsTrue (starters_last (box_plan.signals ++ signal ∷ []))
  up : length (filter (is_starter Up) (box_plan.signals ++ signal ∷ [])) ≤ 1
  down : length (filter (is_starter Down) (box_plan.signals ++ signal ∷ [])) ≤ 1

moved : (boxes b : ℕ) (box_plan : BoxFields) (signals : List Signal) (s : Signal) → IsSignal boxes b box_plan s
    → IsSignal boxes b (record box_plan { signals = signals }) s
moved boxes b box_plan signals s h =
    record { lever = h.lever; places = h.places; few = h.few; differ = h.differ; way = h.way }

signal_added : (boxes b k kind : ℕ) (own : List ℕ) (box_plan : BoxFields) (signal : Signal) → k ≤ kind → 9 ≤ kind
    → kind ≤ 10 → Built boxes b k own box_plan → IsNew boxes b box_plan signal
    → (kind < 10 → list_any leads (box_plan.signals ++ signal ∷ []) ≡ false)
    → OfOk (Built boxes b kind own) (with_signal box_plan signal)
unfolding with_signal
signal_added boxes b k kind own box_plan signal low least most h n starters =
    if_keeps (Built boxes b kind own) (all_differ (places_of signal)) _ _ (λ differ.
    let next : BoxFields = record box_plan { signals = box_plan.signals ++ signal ∷ [] } in
    let new : IsSignal boxes b next signal =
    record { lever = n.arm.0; places = n.places; few = n.few; differ = differ; way = n.way } in
    let each : IsTrue (all_differ (map (λ s. s.lever) box_plan.signals ++ signal.lever ∷ [])) =
    differ_more (map (λ s. s.lever) box_plan.signals) signal.lever h.is.one_each
    (absent_map (λ s. s.lever) signal.lever box_plan.signals n.arm.1) in
    record {
      is = record {
        named = h.is.named;
        distinct = h.is.distinct;
        away = h.is.away;
        few_places = h.is.few_places;
        rising = h.is.rising;
        frame = h.is.frame;
        signals =
            All-push (IsSignal boxes b next) box_plan.signals signal
            (All-weaker (IsSignal boxes b box_plan) (IsSignal boxes b next)
            (moved boxes b box_plan (box_plan.signals ++ signal ∷ [])) box_plan.signals h.is.signals) new;
        one_each = rw (map-append (λ (s : Signal). s.lever) box_plan.signals (signal ∷ [])) each;
        starters_last = n.last;
        one_up = n.up;
        one_down = n.down;
        berth_up = none_if (IsBerth boxes b next Up) box_plan.berth_up (h.unread.up (omega (arith, low, most)));
        berth_down = none_if (IsBerth boxes b next Down) box_plan.berth_down (h.unread.down (omega (arith, low, most)));
        berths_differ = h.is.berths_differ;
        tracks = none_all (IsTrackLock next) box_plan.tracks (h.unread.tracks (omega (arith, low, most)));
        one_track = h.is.one_track;
        rows = none_all (IsBoxRow next) box_plan.rows (h.unread.rows (omega (arith, low, most)));
        few_rows = h.is.few_rows;
      };
      unread = record {
        levers = λ less. absurd (omega (arith, less, least));
        signals = λ less. absurd (omega (arith, less, least));
        starters = starters;
        up = λ _. h.unread.up (omega (arith, low, most));
        down = λ _. h.unread.down (omega (arith, low, most));
        tracks = λ _. h.unread.tracks (omega (arith, low, most));
        rows = λ _. h.unread.rows (omega (arith, low, most));
      };
      name = h.name;
    }) (λ _. tt)

no_way : (boxes b : ℕ) (o : Option Way) → o ≡ None → IfSome o (λ way. IsTrue (leaves boxes b way))
no_way boxes b None e = tt
no_way boxes b (Some way) e = absurd cc

-- a box with a signal more still meets the conditions of a box
pub signal_keeps : (boxes b k : ℕ) (own : List ℕ) (box_plan : BoxFields) (words : List (List ℕ)) → k ≤ 9
    → Built boxes b k own box_plan → OfOk (Built boxes b 9 own) (signal_onto box_plan words)
unfolding signal_onto
signal_keeps boxes b k own box_plan words low h =
    let P = Built boxes b 9 own in
    let none = h.unread.starters (omega (arith, low)) in
    bind_keeps (λ _. length words ≤ 9) P (counted_over words) _ (counted_over_is words) (λ _ nine.
    bind_keeps (IsArm box_plan) P (arm_in box_plan (word 1 words)) _ (arm_is box_plan (word 1 words)) (λ lever arm.
    bind_keeps (IsPlace box_plan) P (number_in_names box_plan.places (word 2 words)) _
    (number_is box_plan.places (word 2 words)) (λ from from_is.
    bind_keeps (IsEnd box_plan) P (end_in box_plan.places (word 3 words)) _ (end_is box_plan (word 3 words))
    (λ to to_is.
    bind_keeps (AreOver box_plan) P (over_in box_plan words) _ (over_is box_plan words nine) (λ over over_are.
    let signal : Signal = record { lever = lever; from = from; over = over; to = to } in
    let away : leads signal ≡ false = ap (λ (o : Option Way). is_some o) to_is.0 in
    let up : is_starter Up signal ≡ false = rw to_is.0 refl in
    let down : is_starter Down signal ≡ false = rw to_is.0 refl in
    signal_added boxes b k 9 own box_plan signal low (omega arith) (omega arith) h (record {
      arm = arm;
      places = All-cons (IsPlace box_plan) from (over ++ end_places to) from_is
          (All-append (IsPlace box_plan) over (end_places to) over_are.0 to_is.1);
      few = over_are.1;
      way = no_way boxes b (way_to to) to_is.0;
      last = last_signal box_plan.signals signal none;
      up = other_starter Up box_plan.signals signal h.is.one_up up;
      down = other_starter Down box_plan.signals signal h.is.one_down down;
    }) (λ _. list_any-append leads box_plan.signals (signal ∷ []) ∙ rw (none, away) refl))))))

leaving_is : (boxes b : ℕ) (box_plan : BoxFields) (text : List ℕ)
    → OfOk (λ way. IsTrue (leaves boxes b way) × (list_any (is_starter way) box_plan.signals ≡ false))
    (leaving_in boxes b box_plan text)
unfolding leaving_in
leaving_is boxes b box_plan text =
    let P : Way → Type 0 = λ way. IsTrue (leaves boxes b way) × (list_any (is_starter way) box_plan.signals ≡ false) in
    bind_any P (way_in text) _ (λ way.
    if_keeps P (not (leaves boxes b way)) _ _ (λ _. tt) (λ e.
    if_keeps P (is_some (starter_of box_plan way)) _ _ (λ _. tt)
    (λ free. (not_false (leaves boxes b way) e, sym (found_any (is_starter way) box_plan.signals) ∙ free)))) where
      not_false : (b : Bool) → not b ≡ false → b ≡ true
      not_false true e = refl
      not_false false e = absurd cc

starters_up : (way : Way) (box_plan : BoxFields) (signal : Signal) → signal.to ≡ ends.Section way
    → list_any (is_starter way) box_plan.signals ≡ false → length (filter (is_starter Up) box_plan.signals) ≤ 1
    → length (filter (is_starter Up) (box_plan.signals ++ signal ∷ [])) ≤ 1
starters_up Up box_plan signal e none few = first_starter Up box_plan.signals signal none
starters_up Down box_plan signal e none few = let other : is_starter Up signal ≡ false =
    rw e refl in other_starter Up box_plan.signals signal few other

starters_down : (way : Way) (box_plan : BoxFields) (signal : Signal) → signal.to ≡ ends.Section way
    → list_any (is_starter way) box_plan.signals ≡ false → length (filter (is_starter Down) box_plan.signals) ≤ 1
    → length (filter (is_starter Down) (box_plan.signals ++ signal ∷ [])) ≤ 1
starters_down Down box_plan signal e none few = first_starter Down box_plan.signals signal none
starters_down Up box_plan signal e none few = let other : is_starter Down signal ≡ false =
    rw e refl in other_starter Down box_plan.signals signal few other

-- a box with a starter more still meets the conditions of a box
pub starter_keeps : (boxes b k : ℕ) (own : List ℕ) (box_plan : BoxFields) (words : List (List ℕ)) → k ≤ 10
    → Built boxes b k own box_plan → OfOk (Built boxes b 10 own) (starter_onto boxes b box_plan words)
unfolding starter_onto
starter_keeps boxes b k own box_plan words low h =
    let P = Built boxes b 10 own in
    bind_keeps (λ _. length words ≤ 9) P (counted_over words) _ (counted_over_is words) (λ _ nine.
    bind_keeps (λ way. IsTrue (leaves boxes b way) × (list_any (is_starter way) box_plan.signals ≡ false)) P
    (leaving_in boxes b box_plan (word 1 words)) _ (leaving_is boxes b box_plan (word 1 words)) (λ way way_is.
    bind_keeps (IsArm box_plan) P (arm_in box_plan (word 2 words)) _ (arm_is box_plan (word 2 words)) (λ lever arm.
    bind_keeps (IsPlace box_plan) P (number_in_names box_plan.places (word 3 words)) _
    (number_is box_plan.places (word 3 words)) (λ from from_is.
    bind_keeps (AreOver box_plan) P (over_in box_plan words) _ (over_is box_plan words nine) (λ over over_are.
    let signal : Signal = record { lever = lever; from = from; over = over; to = ends.Section way } in
    signal_added boxes b k 10 own box_plan signal low (omega arith) (omega arith) h (record {
      arm = arm;
      places = All-cons (IsPlace box_plan) from (over ++ []) from_is
          (All-append (IsPlace box_plan) over [] over_are.0 (All-nil (IsPlace box_plan)));
      few = over_are.1;
      way = way_is.0;
      last = last_starter box_plan.signals signal refl h.is.starters_last;
      up = starters_up way box_plan signal refl way_is.1 h.is.one_up;
      down = starters_down way box_plan signal refl way_is.1 h.is.one_down;
    }) (λ less. absurd (omega (arith, less))))))))
