-- The operations of each call, on the word whose number is that of what the law reads.
use Rattle.std.proofs.Common.{◌≡◌, ◌≢◌, ℕ, ◌+◌, ◌^◌, ◌<◌, List, [], ◌∷◌, ◌++◌, length, Bool, true, false, ◌==◌}
use Rattle.std.proofs.Common.{if◌then◌else◌, bit_and, ⊎_elim, refl, sym, ap, ◌∙◌, arith}
use Rattle.std.specs.Prelude.{Option, Some, None, IfSome}
use Rattle.block_words.specs.Bells.{bell_code, bell_count, bell_word}
use Rattle.block_words.specs.Instruments.{block_word}
use Rattle.block_words.specs.Operations.{word_after}
use Rattle.block_words.specs.Sections.{lane_bits, lane_mask}
use Rattle.block_words.specs.declared.Position.{Position}
use Rattle.block_words.specs.declared.Way.{Way}
use Rattle.block_words.specs.declared.WordOp.TheVariants as ops
use Rattle.block_words.specs.declared.bells.TheConstants.{COUNT_MASK}
use Rattle.block_words.proofs.Marks.{bit_and-COUNT_MASK, bit_or-block_word}
use Rattle.block_words.proofs.Packing.{bell_code-bell_word}
use Rattle.line_law.specs.declared.call.Reply.TheVariants as replies
use Rattle.line_law.specs.declared.link.Link.TheVariants.{Out, In}
use Rattle.line_law.specs.declared.state.Bell.{Bell}
use Rattle.line_law.specs.declared.state.Block.{Block}
use Rattle.line_law.specs.declared.state.BoxState.{BoxState}
use Rattle.line_law.specs.declared.state.Passage.{Passage}
use Rattle.line_law.specs.Arrivals.{await_train, berthed, cleared, next_number, next_train, parted, train_awaited}
use Rattle.line_law.specs.Arrivals.{train_berthed, train_cleared, train_parted}
use Rattle.line_law.specs.Bells.{await_bell, awaited, hear, heard, ring, rung, silent}
use Rattle.line_law.specs.Decisions.{Told}
use Rattle.line_law.specs.Instruments.{await_block, same_position, turned}
use Rattle.line_law.specs.Levers.{is_unspent_clear, pulled_under}
use Rattle.line_law.specs.Trains.{enter, holds}
use Rattle.line_law.specs.Ways.{of_way, with_way}
use Rattle.word_laws.specs.WordNumbers.{BellAgrees, BlockAgrees, IsCodeNo, PlainLineAgrees, bell_number, block_number}
use Rattle.word_laws.specs.WordNumbers.{code_number, plain_line_number}
use Rattle.word_laws.specs.Operations.{next_lane as lane_next, take_out_op}
use Rattle.word_laws.proofs.Lanes.{Full, Next, eqb_no, eqb_yes, if_false, if_true, lane-plain_line_number, line_entered}
use Rattle.word_laws.proofs.Lanes.{line_left, next_lane}

-- ---- bells

-- an unheard code fits its part of the bell's word
pub code_small : (u : Option ℕ) → IfSome u IsCodeNo → code_number u < 256
code_small None h = omega arith
code_small (Some code) h = h.1

ring_at : (here : BoxState) (side : Way) (code count r : ℕ) (u : Option ℕ) → count ≡ r → IfSome u IsCodeNo
    → (if bell_word count (code_number u) == bell_word r 0 then bell_word (r + 1) code
    else bell_word count (code_number u)) ≡ bell_number (rung here side code count u).word
ring_at here side code count r None is h =
    if_true (bell_word count 0 == bell_word r 0) (bell_word (r + 1) code) (bell_word count 0)
    (eqb_yes (bell_word count 0) (bell_word r 0) (omega arith)) ∙ omega arith
ring_at here side code count r (Some held) is h =
    let some : 0 < held = h.0 in
    let small : held < 256 = h.1 in
    if_false (bell_word count held == bell_word r 0) (bell_word (r + 1) code) (bell_word count held)
    (eqb_no (bell_word count held) (bell_word r 0) (λ e. absurd (omega arith)))

-- a ring makes of the bell's word what the law makes of the bell
pub ring_makes : (here : BoxState) (side : Way) (code : ℕ) (bell : Bell) → BellAgrees (Out side) here bell
    → word_after (ops.Ring side (bell_word (of_way here.rung side) 0) (bell_word (of_way here.rung side + 1) code))
    (bell_number bell) ≡ bell_number (ring here side code bell).word
ring_makes here side code bell a = ring_at here side code bell.count (of_way here.rung side) bell.unheard a.rung a.code

silenced : (count : ℕ) (u : Option ℕ) → count < 2 ^ 56 → IfSome u IsCodeNo
    → bit_and (bell_word count (code_number u)) COUNT_MASK ≡ bell_word count 0
silenced count u few h =
    let s = code_small u h in
    let b = bit_and-COUNT_MASK (bell_word count (code_number u)) (omega arith) in
    let d : bell_count (bell_word count (code_number u)) ≡ count = omega arith in
    b ∙ ap (λ (k : ℕ). bell_word k 0) d

heard_word : (here : BoxState) (count : ℕ) (u : Option ℕ) → bell_word count 0 ≡ bell_number (heard here count u).word
heard_word here count None = refl
heard_word here count (Some code) = refl

-- hearing makes of the bell's word what the law makes of the bell
pub hear_makes : (here : BoxState) (way side : Way) (bell : Bell) → BellAgrees (In way) here bell
    → word_after (ops.Hear side) (bell_number bell) ≡ bell_number (hear here bell).word
hear_makes here way side bell a =
    silenced bell.count bell.unheard a.count a.code ∙ heard_word here bell.count bell.unheard

awaited_word : (here : BoxState) (code count : ℕ) (u : Option ℕ) → IfSome u IsCodeNo
    → bell_code (bell_word count (code_number u)) ≡ code
    → bell_word count 0 ≡ bell_number (awaited here code count u).word
awaited_word here code count None h is = refl
awaited_word here code count (Some held) h is =
    let e : held ≡ code = sym (bell_code-bell_word count held h.1) ∙ is in
    ap bell_number
    (sym (ap (λ (t : Told Bell). t.word)
    (if_true (held == code) (record { reply = replies.Heard held count; here = here; word = silent count })
    (record {
      reply = replies.BellNotYet (Some held) count;
      here = here;
      word =
          record { count = count; unheard = Some held };
    }) (eqb_yes held code e))))

-- an await makes of the bell's word, where the code stands there, what the law makes of the bell
pub await_makes : (here : BoxState) (way side : Way) (code : ℕ) (bell : Bell) → BellAgrees (In way) here bell
    → bell_code (bell_number bell) ≡ code
    → word_after (ops.Hear side) (bell_number bell) ≡ bell_number (await_bell here code bell).word
await_makes here way side code bell a is =
    silenced bell.count bell.unheard a.count a.code ∙ awaited_word here code bell.count bell.unheard a.code is

not_yet_word : (here : BoxState) (code count : ℕ) (u : Option ℕ) → IfSome u IsCodeNo
    → bell_code (bell_word count (code_number u)) ≢ code
    → bell_word count (code_number u) ≡ bell_number (awaited here code count u).word
not_yet_word here code count None h ne = refl
not_yet_word here code count (Some held) h ne =
    ap bell_number
    (sym (ap (λ (t : Told Bell). t.word)
    (if_false (held == code) (record { reply = replies.Heard held count; here = here; word = silent count })
    (record {
      reply = replies.BellNotYet (Some held) count;
      here = here;
      word =
          record { count = count; unheard = Some held };
    })
    (eqb_no held code (λ e. ne (bell_code-bell_word count held h.1 ∙ e))))))

-- an await makes of the bell's word, where the code doesn't stand there, what the law makes of the bell
pub not_yet_makes : (here : BoxState) (way side : Way) (code : ℕ) (bell : Bell) → BellAgrees (In way) here bell
    → bell_code (bell_number bell) ≢ code
    → word_after (ops.LookBell side) (bell_number bell) ≡ bell_number (await_bell here code bell).word
not_yet_makes here way side code bell a ne = not_yet_word here code bell.count bell.unheard a.code ne

-- ---- instruments

-- a turn makes of the instrument's word what the law makes of the instrument
pub turn_makes : (here : BoxState) (way : Way) (p : Position) (block : Block) → BlockAgrees (In way) here block
    → word_after (ops.Turn way (block_word ((of_way here.incoming way).turns + 1) false p)) (block_number block)
    ≡ block_number (turned here way p block).word
turn_makes here way p block a = ap (λ (v : ℕ). block_word (v + 1) false p) (sym a.turned.0)

either_word : {W : Type 0} (number : W → ℕ) (b : Bool) (x y : Told W) (n : ℕ) → n ≡ number x.word → n ≡ number y.word
    → n ≡ number (if b then x else y).word
either_word number true x y n h g = h
either_word number false x y n h g = g

-- a look makes of the instrument's word what the law makes of the instrument
pub see_makes : (here : BoxState) (way : Way) (p : Position) (block : Block)
    → word_after (ops.LookBlock way) (block_number block) ≡ block_number (await_block here p block).word
see_makes here way p block =
    either_word {W = Block} (λ (b : Block). block_number b) (same_position block.position p)
    (record { reply = replies.Seen block.turns; here = here; word = block })
    (record { reply = replies.BlockNotYet block.position block.turns; here = here; word = block }) (block_number block)
    refl refl

-- a starter's pull makes of the instrument's word what the law makes of the instrument
pub pull_makes : (here after : BoxState) (way side : Way) (block : Block)
    → word_after (ops.Pull side) (block_number block) ≡ block_number (pulled_under here after way block).word
pull_makes here after way side block =
    bit_or-block_word block.turns block.spent block.position
    ∙ either_word {W = Block} (λ (b : Block). block_number b) (is_unspent_clear block)
    (record { reply = replies.PulledUnder block.turns; here = after; word = record block { spent = true } })
    (record {
      reply = replies.HeldByInstrument way block.position block.spent block.turns;
      here = here;
      word =
          record block { spent = true };
    }) (block_word block.turns true block.position) refl refl

-- ---- plain lines

-- the word of an entry, by whether the line holds the train four before
entry_word : (here left : BoxState) (way : Way) (train : ℕ) (line : List Passage) (b : Bool)
    → holds line (of_way here.sent way + 1) ≡ b
    → (enter here left way train line).word
    ≡ (if b then line else line ++ record { number = of_way here.sent way + 1; train = train } ∷ [])
entry_word here left way train line true e =
    ap (λ (t : Told (List Passage)). t.word)
    (if_true (holds line (of_way here.sent way + 1))
    (record { reply = replies.SectionFull (of_way here.sent way + 1); here = here; word = line })
    (record {
      reply = replies.Entered train (of_way here.sent way + 1);
      here =
          record left { sent = with_way left.sent way (of_way here.sent way + 1) };
      word =
          line ++ record { number = of_way here.sent way + 1; train = train } ∷ [];
    }) e)
entry_word here left way train line false e =
    ap (λ (t : Told (List Passage)). t.word)
    (if_false (holds line (of_way here.sent way + 1))
    (record { reply = replies.SectionFull (of_way here.sent way + 1); here = here; word = line })
    (record {
      reply = replies.Entered train (of_way here.sent way + 1);
      here =
          record left { sent = with_way left.sent way (of_way here.sent way + 1) };
      word =
          line ++ record { number = of_way here.sent way + 1; train = train } ∷ [];
    }) e)

-- what the lane of the next train says of the line
pub record LaneSays (here : BoxState) (way : Way) (line : List Passage) : Type 0 where
  pub taken : 0 < lane_next here way (plain_line_number line) → holds line (of_way here.sent way + 1) ≡ true
  pub free : lane_next here way (plain_line_number line) ≡ 0
      → (holds line (of_way here.sent way + 1) ≡ false) × (length line < 4)

-- the lane of the next train tells whether the section is full
pub lane_says : (here : BoxState) (way : Way) (line : List Passage) → PlainLineAgrees (Out way) here line
    → LaneSays here way line
lane_says here way line a =
    let l = lane-plain_line_number line (of_way here.sent way + 1) a.each in
    ⊎_elim
    (λ (n : Next (of_way here.sent way) line).
    record { taken = λ some. absurd (omega (arith, l, n.empty, some)); free = λ none. (n.free, n.few) })
    (λ (f : Full (of_way here.sent way) line).
    record { taken = λ some. f.taken; free = λ none. absurd (omega (arith, l, f.there, none)) })
    (next_lane a.numbered.0 (of_way here.sent way) line a.numbered.1 a.four a.each)

-- a train that finds the section full leaves its word
pub full_makes : (here left : BoxState) (way side : Way) (train : ℕ) (line : List Passage)
    → PlainLineAgrees (Out way) here line → 0 < lane_next here way (plain_line_number line)
    → word_after (ops.LookSection side) (plain_line_number line)
    ≡ plain_line_number (enter here left way train line).word
full_makes here left way side train line a some =
    ap plain_line_number (sym (entry_word here left way train line true ((lane_says here way line a).taken some)))

-- a train that enters makes of the plain line's word what the law makes of the plain line
pub enter_makes : (here left : BoxState) (way side : Way) (train : ℕ) (line : List Passage)
    → PlainLineAgrees (Out way) here line → train < 65536 → lane_next here way (plain_line_number line) ≡ 0
    → word_after (ops.Enter side (lane_bits (of_way here.sent way + 1) train)) (plain_line_number line)
    ≡ plain_line_number (enter here left way train line).word
enter_makes here left way side train line a small none =
    let free = (lane_says here way line a).free none in
    line_entered a.numbered.0 (of_way here.sent way) train line a.numbered.1 free.1 a.each small
    ∙ ap plain_line_number (sym (entry_word here left way train line false free.0))

await_word : (t : Option ℕ) (here : BoxState) (j : ℕ) (line : List Passage)
    → plain_line_number line ≡ plain_line_number (train_awaited t here j line).word
await_word None here j line = refl
await_word (Some train) here j line = refl

-- a look for the next train leaves the plain line's word
pub approach_makes : (here : BoxState) (way side : Way) (line : List Passage)
    → word_after (ops.LookSection side) (plain_line_number line) ≡ plain_line_number (await_train here way line).word
approach_makes here way side line = await_word (next_train here way line) here (next_number here way) line

part_word : (t : Option ℕ) (here : BoxState) (way : Way) (place j : ℕ) (line : List Passage)
    → plain_line_number line ≡ plain_line_number (train_parted t here way place j line).word
part_word None here way place j line = refl
part_word (Some train) here way place j line = refl

-- a train that leaves a portion behind leaves the plain line's word
pub part_makes : (here : BoxState) (way side : Way) (place : ℕ) (line : List Passage)
    → word_after (ops.LookSection side) (plain_line_number line) ≡ plain_line_number (parted here way place line).word
part_makes here way side place line = part_word (next_train here way line) here way place (next_number here way) line

nothing_out : (m : ℕ) → bit_and 0 m ≡ 0
nothing_out m = let l = Rattle.std.proofs.lemmas.Nat.and_le_l 0 m in omega arith

-- the first train is the next one
pub first_is : (here : BoxState) (way : Way) (t : Passage) (ts : List Passage) → t.number ≡ next_number here way
    → next_train here way (t ∷ ts) ≡ Some t.train
first_is here way t ts e =
    if_true (t.number == next_number here way) (Some t.train) None (eqb_yes t.number (next_number here way) e)

-- a train that berths makes of the plain line's word what the law makes of the plain line
pub berth_makes : (here : BoxState) (way : Way) (place : ℕ) (line : List Passage) → PlainLineAgrees (In way) here line
    → word_after (take_out_op here way) (plain_line_number line) ≡ plain_line_number (berthed here way place line).word
berth_makes here way place [] a = nothing_out (lane_mask ((of_way here.incoming way).taken + 1))
berth_makes here way place (t ∷ ts) a =
    (line_left (of_way here.incoming way).taken a.numbered.0 t ts a.numbered.1 a.four a.each).left
    ∙ sym (ap
    (λ (o : Option ℕ). plain_line_number (train_berthed o here way place (next_number here way) (t ∷ ts)).word)
    (first_is here way t ts a.numbered.1.0))

-- a portion that is cleared away makes of the plain line's word what the law makes of the plain line
pub clear_makes : (here : BoxState) (way : Way) (line : List Passage) → PlainLineAgrees (In way) here line
    → word_after (take_out_op here way) (plain_line_number line) ≡ plain_line_number (cleared here way line).word
clear_makes here way [] a = nothing_out (lane_mask ((of_way here.incoming way).taken + 1))
clear_makes here way (t ∷ ts) a =
    (line_left (of_way here.incoming way).taken a.numbered.0 t ts a.numbered.1 a.four a.each).left
    ∙ sym (ap (λ (o : Option ℕ). plain_line_number (train_cleared o here way (next_number here way) (t ∷ ts)).word)
    (first_is here way t ts a.numbered.1.0))
