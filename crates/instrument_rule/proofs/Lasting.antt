-- What stands while other boxes call: a code that was seen on a bell, until this box takes it off; and a lane that was
-- seen empty, until this box fills it.
use Rattle.std.proofs.Common.{◌≡◌, ◌≢◌, ℕ, ◌+◌, ◌-◌, ◌%◌, ◌^◌, ◌<◌, ◌≤◌, ◌⊎◌, inl, inr, ⊎_elim, List, [], ◌∷◌, ◌++◌}
use Rattle.std.proofs.Common.{Option, Some, None, Bool, true, false, if◌then◌else◌, IsTrue, length, refl, sym, ap}
use Rattle.std.proofs.Common.{subst, ◌∙◌, arith, length-append}
use Rattle.std.specs.Prelude.{◌==◌, nat_lt, drop, All}
use Rattle.std.proofs.lemmas.Bool.Decides.{eqb_tells, nat_tests}
use Rattle.std.proofs.lemmas.List.{get_or-set_same}
use Rattle.block_words.specs.Bells.{bell_code, bell_word}
use Rattle.block_words.specs.Sections.{lane}
use Rattle.block_words.specs.declared.Way.{Way}
use Rattle.block_words.specs.declared.Way.TheVariants.{Up, Down}
use Rattle.line_plan.specs.Plans.{IsPlan, PlanFields}
use Rattle.line_plan.specs.Ways.{comes_in, leaves}
use Rattle.line_law.specs.declared.call.Call.{Call}
use Rattle.line_law.specs.declared.call.Entry.{Entry}
use Rattle.line_law.specs.declared.link.Link.{Link}
use Rattle.line_law.specs.declared.link.Link.TheVariants.{Out, In}
use Rattle.line_law.specs.declared.state.Bell.{Bell}
use Rattle.line_law.specs.declared.state.BoxState.{BoxState}
use Rattle.line_law.specs.declared.state.PairState.{PairState}
use Rattle.line_law.specs.declared.state.Passage.{Passage}
use Rattle.line_law.specs.Arrivals.{next_number, next_train, train_awaited, train_berthed, train_cleared, train_parted}
use Rattle.line_law.specs.Bells.{rung}
use Rattle.line_law.specs.Decisions.{Decision, Here, OnBell, OnBlock, OnPlainLine, Told, on_pair}
use Rattle.word_laws.specs.Footprint.{Kind, Tally, BellWord, BlockWord, PlainLineWord, kind_of}
use Rattle.line_law.specs.History.{IsLegal, state_of}
use Rattle.line_law.specs.Known.{KnowsCall}
use Rattle.line_law.specs.Law.{at_moment, link_of, pair_of, box_plan_of, step}
use Rattle.line_law.specs.Lines.{AreNumbered}
use Rattle.line_law.specs.Links.{pair_no, way_of}
use Rattle.line_law.specs.SectionFacts.{HasLink, IsLocal, decided}
use Rattle.line_law.specs.States.{LineState, box_at, opening_pair, pair_at}
use Rattle.word_laws.specs.TellsWord.{kind_told}
use Rattle.line_law.specs.Ways.{of_way}
use Rattle.word_laws.specs.WordEnds.{AtEnd, InPlainLine, IsIn, IsOut, LooksOut, OutBell, RingsIt, Takes, TakesPart}
use Rattle.word_laws.specs.WordEnds.{ClearsAway}
use Rattle.word_laws.specs.WordNumbers.{BellOf, IsTrainNo, PlainLineAgrees, PlainLineOf, Word, bell_number, code_number}
use Rattle.word_laws.specs.WordNumbers.{lane_of, plain_line_number, number_after, word_named, word_of}
use Rattle.word_laws.specs.WordPlaces.{IsWordOf, word_place}
use Rattle.word_laws.proofs.Agreements.{section_agrees}
use Rattle.word_laws.proofs.Footprints.{keeps_others}
use Rattle.line_law.proofs.Found.{both}
use Rattle.line_law.proofs.Histories.{entry_determined, history_states, prefix_legal, state_grows}
use Rattle.word_laws.proofs.Lanes.{Full, Next, lane-plain_line_number, next_lane}
use Rattle.line_law.proofs.Numbers.{length_numbered}
use Rattle.line_law.proofs.Sides.{call_within, known_link}
use Rattle.word_laws.proofs.WordEndsLaws.{call_at_end}
use Rattle.word_laws.proofs.WordHistory.{kind_of_entry, moves_word}
use Rattle.line_law.proofs.Words.{of_way-with}
use Rattle.word_laws.proofs.WordsInPlace.{one_place, word_within}
use Rattle.instrument_rule.specs.Calls.{bell_on}
use Rattle.instrument_rule.specs.Rule.{LaneFree}

-- ---- the two ends of a word

-- another box on the word of an outgoing line has it as its incoming line
other_end : (n b c : ℕ) (way : Way) (l : Link) → IsTrue (leaves n b way) → HasLink n c l → c ≢ b
    → pair_no c l ≡ pair_no b (Out way) → way_of l ≡ way → l ≡ In way
other_end n b c way (In v) out has other pair same = ap In same
other_end n b c Up (Out Up) out has other pair same = let p = both (nat_lt 0 b) (nat_lt b n) out in let q = both
    (nat_lt 0 c) (nat_lt c n) has in absurd (grind (arith, nat_tests))
other_end n b c Down (Out Down) out has other pair same = absurd (other pair)
other_end n b c Up (Out Down) out has other pair same = absurd cc
other_end n b c Down (Out Up) out has other pair same = absurd cc

-- another box on the word of an incoming line has it as its outgoing line
other_start : (n b c : ℕ) (way : Way) (l : Link) → IsTrue (comes_in n b way) → HasLink n c l → c ≢ b
    → pair_no c l ≡ pair_no b (In way) → way_of l ≡ way → l ≡ Out way
other_start n b c way (Out v) comes has other pair same = ap Out same
other_start n b c Down (In Down) comes has other pair same = let p = both (nat_lt 0 b) (nat_lt b n) comes in
    let q = both (nat_lt 0 c) (nat_lt c n) has in absurd (grind (arith, nat_tests))
other_start n b c Up (In Up) comes has other pair same = absurd (other pair)
other_start n b c Up (In Down) comes has other pair same = absurd cc
other_start n b c Down (In Up) comes has other pair same = absurd cc

-- the pair of a line is one of the line of boxes
pub out_pair : (n b : ℕ) (way : Way) → IsTrue (leaves n b way) → pair_no b (Out way) + 1 < n
out_pair n b Up h = let p = both (nat_lt 0 b) (nat_lt b n) h in grind (arith, nat_tests)
out_pair n b Down h = grind (arith, nat_tests)

in_pair : (n b : ℕ) (way : Way) → IsTrue (comes_in n b way) → pair_no b (In way) + 1 < n
in_pair n b Up h = grind (arith, nat_tests)
in_pair n b Down h = let p = both (nat_lt 0 b) (nat_lt b n) h in grind (arith, nat_tests)

-- a word of a kind is one of another only where kind, pair and way are the same
record IsNamed (k l : Kind) (q p : ℕ) (v w : Way) : Type 0 where
  pub kind : k ≡ l
  pub pair : q ≡ p
  pub way : v ≡ w

named_line : (k : Kind) (c q p : ℕ) (v w : Way) → word_named k c q v ≡ PlainLineOf p w → IsNamed k PlainLineWord q p v w
named_line Tally c q p v w e = absurd cc
named_line BellWord c q p v w e = absurd cc
named_line BlockWord c q p v w e = absurd cc
named_line PlainLineWord c q p v w e = record { kind = refl; pair = cc; way = cc }

named_bell : (k : Kind) (c q p : ℕ) (v w : Way) → word_named k c q v ≡ BellOf p w → IsNamed k BellWord q p v w
named_bell Tally c q p v w e = absurd cc
named_bell BellWord c q p v w e = record { kind = refl; pair = cc; way = cc }
named_bell BlockWord c q p v w e = absurd cc
named_bell PlainLineWord c q p v w e = absurd cc

not_local : (d : Decision) (k : Kind) → kind_of d ≡ k → k ≢ Tally → IsLocal d → ⊥
not_local (Here reply here) k e ne is = ne (sym e)
not_local (OnBell act) k e ne is = is
not_local (OnBlock act) k e ne is = is
not_local (OnPlainLine act) k e ne is = is

-- ---- what a decision leaves on the word

-- the box in advance leaves no more trains on a plain line
drop_less : (line : List Passage) → length (drop 1 line) ≤ length line
drop_less [] = omega arith
drop_less (t ∷ ts) = omega arith

await_less : (t : Option ℕ) (here : BoxState) (j : ℕ) (line : List Passage)
    → length (train_awaited t here j line).word ≤ length line
await_less None here j line = omega arith
await_less (Some train) here j line = omega arith

berth_less : (t : Option ℕ) (here : BoxState) (way : Way) (place j : ℕ) (line : List Passage)
    → length (train_berthed t here way place j line).word ≤ length line
berth_less None here way place j line = omega arith
berth_less (Some train) here way place j line = drop_less line

part_less : (t : Option ℕ) (here : BoxState) (way : Way) (place j : ℕ) (line : List Passage)
    → length (train_parted t here way place j line).word ≤ length line
part_less None here way place j line = omega arith
part_less (Some train) here way place j line = omega arith

clear_less : (t : Option ℕ) (here : BoxState) (way : Way) (j : ℕ) (line : List Passage)
    → length (train_cleared t here way j line).word ≤ length line
clear_less None here way j line = omega arith
clear_less (Some train) here way j line = drop_less line

takes_less : (way : Way) (act : List Passage → Told (List Passage)) → InPlainLine way act → (line : List Passage)
    → length (act line).word ≤ length line
takes_less way act (LooksOut here) line = await_less (next_train here way line) here (next_number here way) line
takes_less way act (Takes here place) line = berth_less (next_train here way line) here way place
    (next_number here way) line
takes_less way act (TakesPart here place) line = part_less (next_train here way line) here way place
    (next_number here way) line
takes_less way act (ClearsAway here) line = clear_less (next_train here way line) here way (next_number here way) line

line_less : (d : Decision) (way : Way) (pair : PairState) → kind_of d ≡ PlainLineWord → IsIn way d
    → length (of_way (on_pair way d pair).word.lines way) ≤ length (of_way pair.lines way)
line_less (Here reply here) way pair e at = absurd cc
line_less (OnBell act) way pair e at = absurd cc
line_less (OnBlock act) way pair e at = absurd cc
line_less (OnPlainLine act) way pair e at = subst (λ (ts : List Passage). length ts ≤ length (of_way pair.lines way))
    (sym (of_way-with pair.lines way (act (of_way pair.lines way)).word))
    (takes_less way act at (of_way pair.lines way))

-- the rear box leaves a bell on which a code stands
rung_stays : (here : BoxState) (way : Way) (code count : ℕ) (u : Option ℕ)
    → 0 < bell_code (bell_word count (code_number u))
    → bell_number (rung here way code count u).word ≡ bell_word count (code_number u)
rung_stays here way code count None h = absurd (omega arith)
rung_stays here way code count (Some held) h = refl

rings_stay : (way : Way) (act : Bell → Told Bell) → OutBell way act → (bell : Bell) → 0 < bell_code (bell_number bell)
    → bell_number (act bell).word ≡ bell_number bell
rings_stay way act (RingsIt here code) bell h = rung_stays here way code bell.count bell.unheard h

bell_stays : (d : Decision) (way : Way) (pair : PairState) → kind_of d ≡ BellWord → IsOut way d
    → 0 < bell_code (bell_number (of_way pair.bells way))
    → bell_number (of_way (on_pair way d pair).word.bells way) ≡ bell_number (of_way pair.bells way)
bell_stays (Here reply here) way pair e at h = absurd cc
bell_stays (OnBell act) way pair e at h = ap bell_number (of_way-with pair.bells way (act (of_way pair.bells way)).word)
    ∙ rings_stay way act at (of_way pair.bells way) h
bell_stays (OnBlock act) way pair e at h = absurd cc
bell_stays (OnPlainLine act) way pair e at h = absurd cc

-- ---- an entry of another box

pair_then : (plan : PlanFields) (state : LineState) (b : ℕ) (call : Call) → IsPlan plan → KnowsCall plan b call
    → length state.pairs ≡ length plan.boxes - 1
    → pair_at (step plan state b call).after (pair_of plan b call) ≡
    (on_pair (way_of (link_of (box_plan_of plan b) call.act)) (decided plan b call (box_at state b))
    (pair_at state (pair_of plan b call))).word
unfolding step
pair_then plan state b call is known shape =
    let within = call_within plan b call is known in
    get_or-set_same state.pairs (pair_of plan b call) _ opening_pair (omega (arith, shape, within.pair))

module _ (plan : PlanFields) (es : List Entry) (e : Entry) (is : IsPlan plan) (legal : IsLegal plan (es ++ e ∷ []))
    (few : length es < 2 ^ 32) where
  known : KnowsCall plan e.box_no e.call
  known = (entry_determined plan es [] e legal).0.known

  abbrev link : Link
  link = link_of (box_plan_of plan e.box_no) e.call.act

  told : kind_of (decided plan e.box_no e.call (box_at (state_of plan es) e.box_no)) ≡ kind_told e.reply
  told = sym (kind_of_entry plan es [] e legal)

  at_end : AtEnd (link_of (box_plan_of plan e.box_no) e.call.act)
      (decided plan e.box_no e.call (box_at (state_of plan es) e.box_no))
  at_end = call_at_end plan (box_plan_of plan e.box_no) e.call.act
      (at_moment (box_at (state_of plan es) e.box_no) e.call.moment)

  -- its line leads to a neighbour, where it is on a word of a pair
  has_link : (k : Kind) → kind_told e.reply ≡ k → k ≢ Tally
      → HasLink (length plan.boxes) e.box_no (link_of (box_plan_of plan e.box_no) e.call.act)
  has_link k same ne = ⊎_elim
      (λ (h : HasLink (length plan.boxes) e.box_no (link_of (box_plan_of plan e.box_no) e.call.act)). h)
      (λ (l : IsLocal (decided plan e.box_no e.call (box_at (state_of plan es) e.box_no))). absurd
      (not_local _ k (told ∙ same) ne l))
      (known_link plan e.box_no e.call (box_at (state_of plan es) e.box_no) is known)

  after : (p : ℕ) → pair_of plan e.box_no e.call ≡ p
      → pair_at (state_of plan (es ++ e ∷ [])) p ≡
      (on_pair (way_of (link_of (box_plan_of plan e.box_no) e.call.act))
      (decided plan e.box_no e.call (box_at (state_of plan es) e.box_no)) (pair_at (state_of plan es) p)).word
  after p same = subst (λ (q : ℕ). pair_at (state_of plan (es ++ e ∷ [])) q ≡
      (on_pair (way_of (link_of (box_plan_of plan e.box_no) e.call.act))
      (decided plan e.box_no e.call (box_at (state_of plan es) e.box_no)) (pair_at (state_of plan es) q)).word) same
      (ap (λ (s : LineState). pair_at s (pair_of plan e.box_no e.call)) (state_grows plan es e) ∙ pair_then plan
      (state_of plan es) e.box_no e.call is known (history_states plan es).pairs)

  -- a word of the line that isn't the entry's keeps its number; and a word that is
  pub either_word : (w : Word) → IsWordOf (length plan.boxes) w
      → (number_after plan (es ++ e ∷ []) w ≡ number_after plan es w) ⊎ (w ≡ word_of plan e)
  either_word w within = ⊎_elim
      (λ (t : ((word_place (length plan.boxes) w == word_place (length plan.boxes) (word_of plan e)) ≡ true) ×
      (word_place (length plan.boxes) w ≡ word_place (length plan.boxes) (word_of plan e))).
      inr (one_place (length plan.boxes) w (word_of plan e) within (word_within plan e is known) t.1))
      (λ (t : ((word_place (length plan.boxes) w == word_place (length plan.boxes) (word_of plan e)) ≡ false) ×
      (word_place (length plan.boxes) w ≢ word_place (length plan.boxes) (word_of plan e))).
      inl ((moves_word plan es e is legal few).others w (λ same. t.1 (ap (word_place (length plan.boxes)) same))))
      (eqb_tells (word_place (length plan.boxes) w) (word_place (length plan.boxes) (word_of plan e)))

  -- on an outgoing line of another box, it leaves no more trains
  line_after : (b : ℕ) (way : Way) → e.box_no ≢ b → IsTrue (leaves (length plan.boxes) b way)
      → PlainLineOf (pair_no b (Out way)) way ≡ word_of plan e
      → length (of_way (pair_at (state_of plan (es ++ e ∷ [])) (pair_no b (Out way))).lines way) ≤ length
      (of_way (pair_at (state_of plan es) (pair_no b (Out way))).lines way)
  line_after b way other out same =
      let n : ℕ = length plan.boxes in
      let d : Decision = decided plan e.box_no e.call (box_at (state_of plan es) e.box_no) in
      let l : Link = link_of (box_plan_of plan e.box_no) e.call.act in
      let named = named_line (kind_told e.reply) e.box_no (pair_of plan e.box_no e.call) (pair_no b (Out way))
      (way_of l) way (sym same) in
      let end : l ≡ In way = other_end n b e.box_no way l out
      (has_link PlainLineWord named.kind (λ e. absurd cc)) other named.pair named.way in
      let at : IsIn way d = subst (λ (x : Link). AtEnd x d) end at_end in
      let left : pair_at (state_of plan (es ++ e ∷ [])) (pair_no b (Out way)) ≡
      (on_pair way d (pair_at (state_of plan es) (pair_no b (Out way)))).word =
      after (pair_no b (Out way)) named.pair ∙ ap
      (λ (v : Way). (on_pair v d (pair_at (state_of plan es) (pair_no b (Out way)))).word) named.way in
      subst (λ (q : PairState). length (of_way q.lines way) ≤ length
      (of_way (pair_at (state_of plan es) (pair_no b (Out way))).lines way)) (sym left)
      (line_less d way (pair_at (state_of plan es) (pair_no b (Out way))) (told ∙ named.kind) at)

  -- on an incoming line of another box, it leaves a bell on which a code stands
  bell_after : (b : ℕ) (way : Way) → e.box_no ≢ b → IsTrue (comes_in (length plan.boxes) b way)
      → BellOf (pair_no b (In way)) way ≡ word_of plan e
      → 0 < bell_code (number_after plan es (BellOf (pair_no b (In way)) way))
      → number_after plan (es ++ e ∷ []) (BellOf (pair_no b (In way)) way) ≡ number_after plan es
      (BellOf (pair_no b (In way)) way)
  bell_after b way other comes same there =
      let n : ℕ = length plan.boxes in
      let d : Decision = decided plan e.box_no e.call (box_at (state_of plan es) e.box_no) in
      let l : Link = link_of (box_plan_of plan e.box_no) e.call.act in
      let named = named_bell (kind_told e.reply) e.box_no (pair_of plan e.box_no e.call) (pair_no b (In way))
      (way_of l) way (sym same) in
      let end : l ≡ Out way = other_start n b e.box_no way l comes
      (has_link BellWord named.kind (λ e. absurd cc)) other named.pair named.way in
      let at : IsOut way d = subst (λ (x : Link). AtEnd x d) end at_end in
      let left : pair_at (state_of plan (es ++ e ∷ [])) (pair_no b (In way)) ≡
      (on_pair way d (pair_at (state_of plan es) (pair_no b (In way)))).word =
      after (pair_no b (In way)) named.pair ∙ ap
      (λ (v : Way). (on_pair v d (pair_at (state_of plan es) (pair_no b (In way)))).word) named.way in
      ap (λ (q : PairState). bell_number (of_way q.bells way)) left ∙ bell_stays d way
      (pair_at (state_of plan es) (pair_no b (In way))) (told ∙ named.kind) at there

-- ---- a code on a bell

-- a code that stands unheard on a bell stays there while other boxes than the hearer call
pub code_lasts : (plan : PlanFields) (es : List Entry) (e : Entry) (b : ℕ) (way : Way) (code : ℕ) → IsPlan plan
    → IsLegal plan (es ++ e ∷ []) → length es < 2 ^ 32 → e.box_no ≢ b
    → IsTrue (comes_in (length plan.boxes) b way) → 0 < code
    → bell_code (number_after plan es (bell_on b (In way))) ≡ code
    → bell_code (number_after plan (es ++ e ∷ []) (bell_on b (In way))) ≡ code
code_lasts plan es e b way code is legal few other comes some_code there =
    let shown : 0 < bell_code (number_after plan es (BellOf (pair_no b (In way)) way)) = subst (λ (x : ℕ). 0 < x)
    (sym there) some_code in
    ap bell_code (⊎_elim (λ (same : number_after plan (es ++ e ∷ [])
    (BellOf (pair_no b (In way)) way) ≡ number_after plan es (BellOf (pair_no b (In way)) way)). same)
    (λ (is_word : BellOf (pair_no b
    (In way)) way ≡ word_of plan e). bell_after plan es e is legal few b way other comes is_word shown)
    (either_word plan es e is legal few (BellOf (pair_no b (In way)) way) (in_pair (length plan.boxes) b way comes)))
    ∙ there

-- ---- an empty lane

-- no train has a number in this lane
abbrev Apart : ℕ → ℕ → ℕ → Type 0
Apart taken sent i = (n : ℕ) → taken < n → n ≤ sent → n % 4 ≢ i

no_lane : (t : Bool) (x y : ℕ) → t ≡ false → (if t then x else y) ≡ y
no_lane true x y h = absurd cc
no_lane false x y h = refl

lane_none : (taken sent i : ℕ) (ts : List Passage) → AreNumbered taken sent ts → Apart taken sent i → lane_of ts i ≡ 0
lane_none taken sent i [] h apart = refl
lane_none taken sent i (t ∷ ts) h apart =
    let l = length_numbered (taken + 1) sent ts h.1 in
    elim (eqb_tells (t.number % 4) i) [
      | inl same ↦ absurd (apart t.number (omega arith) (omega arith) same.1)
      | inr differ ↦ no_lane (t.number % 4 == i) t.train (lane_of ts i) differ.0 ∙ lane_none (taken + 1) sent i ts h.1
          (λ n above below. apart n (omega arith) below)
    ]

-- where fewer than four trains stand on a line, the lane of the next is empty
few_free : (taken sent : ℕ) (ts : List Passage) → AreNumbered taken sent ts → length ts < 4
    → lane_of ts ((sent + 1) % 4) ≡ 0
few_free taken sent ts h few = let l = length_numbered taken sent ts h in lane_none taken sent ((sent + 1) % 4) ts h
    (λ n above below same. absurd (omega arith))

-- the lane of the next train is empty exactly there
few_then : (sent : ℕ) (ts : List Passage) (taken : ℕ) → AreNumbered taken sent ts → length ts ≤ 4
    → All (λ (p : Passage). IsTrainNo p.train) ts → lane (plain_line_number ts) (sent + 1) ≡ 0 → length ts < 4
few_then sent ts taken numbered four each free =
    let l = lane-plain_line_number ts (sent + 1) each in
    ⊎_elim (λ (n : Next sent ts). n.few) (λ (f : Full sent ts). (let t = f.there in absurd (omega arith)))
    (next_lane taken sent ts numbered four each)

free_then : (sent : ℕ) (ts : List Passage) (taken : ℕ) → AreNumbered taken sent ts
    → All (λ (p : Passage). IsTrainNo p.train) ts → length ts < 4 → lane (plain_line_number ts) (sent + 1) ≡ 0
free_then sent ts taken numbered each few = lane-plain_line_number ts (sent + 1) each
    ∙ few_free taken sent ts numbered few

-- an empty lane stays empty while other boxes than the one that sends call
pub room_lasts : (plan : PlanFields) (es : List Entry) (e : Entry) (b : ℕ) (way : Way) → IsPlan plan
    → IsLegal plan (es ++ e ∷ []) → length es + 1 < 2 ^ 32 → e.box_no ≢ b
    → IsTrue (leaves (length plan.boxes) b way) → LaneFree plan es b way → LaneFree plan (es ++ e ∷ []) b way
room_lasts plan es e b way is legal few other out free = ⊎_elim
    (λ (same : number_after plan (es ++ e ∷ []) (PlainLineOf (pair_no b (Out way)) way) ≡ number_after plan es
    (PlainLineOf (pair_no b (Out way)) way)).
    subst (λ (x : ℕ). Rattle.word_laws.specs.Operations.next_lane (box_at (state_of plan (es ++ e ∷ [])) b) way x ≡ 0)
    (sym same)
    (subst (λ (x : BoxState). Rattle.word_laws.specs.Operations.next_lane x way
    (number_after plan es (PlainLineOf (pair_no b (Out way)) way)) ≡ 0) (sym box_same) free))
    (λ (is_word : PlainLineOf (pair_no b (Out way)) way ≡ word_of plan e). emptied is_word)
    (either_word plan es e is legal (omega arith) (PlainLineOf (pair_no b (Out way)) way)
    (out_pair (length plan.boxes) b way out))
  where
    box_same : box_at (state_of plan (es ++ e ∷ [])) b ≡ box_at (state_of plan es) b
    box_same = ap (λ (s : LineState). box_at s b) (state_grows plan es e)
        ∙ (keeps_others plan (state_of plan es) e.box_no e.call is (history_states plan es)
        (entry_determined plan es [] e legal).0.known).boxes b (λ same. other (sym same))

    emptied : PlainLineOf (pair_no b (Out way)) way ≡ word_of plan e → LaneFree plan (es ++ e ∷ []) b way
    emptied is_word =
        let old : PlainLineAgrees (Out way) (box_at (state_of plan es) b)
        (of_way (pair_at (state_of plan es) (pair_no b (Out way))).lines way) =
        (section_agrees plan es (record { rear = b; way = way }) is (prefix_legal plan es (e ∷ []) legal)
        (omega arith) out).rear PlainLineWord in
        let new : PlainLineAgrees (Out way) (box_at (state_of plan (es ++ e ∷ [])) b)
        (of_way (pair_at (state_of plan (es ++ e ∷ [])) (pair_no b (Out way))).lines way) =
        (section_agrees plan (es ++ e ∷ []) (record { rear = b; way = way }) is legal
        (omega (arith, length-append es (e ∷ []))) out).rear PlainLineWord in
        let room : length (of_way (pair_at (state_of plan es) (pair_no b (Out way))).lines way) < 4 = few_then
        (of_way (box_at (state_of plan es) b).sent way)
        (of_way (pair_at (state_of plan es)
        (pair_no b (Out way))).lines way) old.numbered.0 old.numbered.1 old.four old.each free in
        let less = line_after plan es e is legal (omega arith) b way other out is_word in
        free_then (of_way (box_at (state_of plan (es ++ e ∷ [])) b).sent way)
        (of_way (pair_at (state_of plan (es ++ e ∷ []))
        (pair_no b (Out way))).lines way) new.numbered.0 new.numbered.1 new.each (omega arith)
