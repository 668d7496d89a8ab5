-- Two pairs that agree with a box and give the same number of a word tell the same of a call on that word.
use Rattle.std.proofs.Common.{◌≡◌, ℕ, ◌+◌, ◌*◌, ◌<◌, List, [], ◌∷◌, Bool, true, false, ◌==◌, if◌then◌else◌, ◌⊎◌, ⊎_elim}
use Rattle.std.proofs.Common.{refl, sym, ap, subst, ◌∙◌, arith}
use Rattle.std.specs.Prelude.{Option, Some, None, IfSome}
use Rattle.std.proofs.lemmas.List.Elements.{All-head}
use Rattle.block_words.specs.Instruments.{block_position, block_spent, block_turns}
use Rattle.block_words.specs.Sections.{lane}
use Rattle.block_words.specs.Ways.{opposite}
use Rattle.block_words.specs.declared.Position.{Position}
use Rattle.block_words.specs.declared.Way.{Way}
use Rattle.block_words.proofs.Packing.{block_position-block_word, block_spent-block_word, block_turns-block_word}
use Rattle.line_plan.specs.Frames.{BoxFields, signal_of}
use Rattle.line_plan.specs.Plans.{PlanFields}
use Rattle.line_law.specs.declared.call.Act.{Act}
use Rattle.line_law.specs.declared.link.Link.{Link}
use Rattle.line_law.specs.declared.link.Link.TheVariants.{Out, In}
use Rattle.line_law.specs.declared.state.Bell.{Bell}
use Rattle.line_law.specs.declared.state.Block.{Block}
use Rattle.line_law.specs.declared.state.BoxState.{BoxState}
use Rattle.line_law.specs.declared.state.PairState.{PairState}
use Rattle.line_law.specs.declared.state.Passage.{Passage}
use Rattle.line_law.specs.Arrivals.{next_number, next_train, train_awaited, train_berthed, train_cleared, train_parted}
use Rattle.line_law.specs.Bells.{await_bell, hear, ring}
use Rattle.line_law.specs.Decisions.{Told, Decision, OnBell, OnBlock, OnPlainLine, on_pair}
use Rattle.line_law.specs.Instruments.{await_block, turned}
use Rattle.line_law.specs.Law.{decide, link_of}
use Rattle.line_law.specs.Levers.{pulled, pulled_under, starter_link, starter_way}
use Rattle.line_law.specs.Links.{way_of}
use Rattle.line_law.specs.Outcomes.{Outcome, Refused, Rings, Hears, AwaitsBell, Turns, AwaitsBlock, Pulls, PullsStarter}
use Rattle.line_law.specs.Outcomes.{Puts, Brings, GoesTo, GoesAway, Enters, AwaitsTrain, Berths, Parts, Clears, Winds}
use Rattle.line_law.specs.Outcomes.{Releases}
use Rattle.line_law.specs.Trains.{enter, holds, left_by}
use Rattle.line_law.specs.Ways.{of_way}
use Rattle.line_law.proofs.Outcomes.{outcome_of}
use Rattle.word_laws.specs.Footprint.{BellWord, BlockWord, PlainLineWord, kind_of}
use Rattle.word_laws.specs.Operations.{next_lane, word_met}
use Rattle.word_laws.specs.SameNumbers.{IsToldAlike, ToldAlike}
use Rattle.word_laws.specs.WordNumbers.{Agrees, IsCodeNo, IsTrainNo, PlainLineAgrees, bell_number, block_number}
use Rattle.word_laws.specs.WordNumbers.{code_number, number_at, plain_line_number}
use Rattle.word_laws.proofs.Lanes.{eqb_no, eqb_yes, if_false, if_true, lane-plain_line_number, line_left}
use Rattle.word_laws.proofs.TellsCount.{moved_link}
use Rattle.word_laws.proofs.WordCalls.{code_small, first_is, lane_says}

-- ---- bells: the number tells the bell

same_code : (code other : Option ℕ) → IfSome code IsCodeNo → IfSome other IsCodeNo
    → code_number code ≡ code_number other → code ≡ other
same_code None None h k e = refl
same_code None (Some number) h k e = let some : 0 < number = k.0 in let none : 0 ≡ number = e in absurd (omega arith)
same_code (Some number) None h k e = let some : 0 < number = h.0 in let none : number ≡ 0 = e in absurd (omega arith)
same_code (Some number) (Some other) h k e = ap (λ (n : ℕ). Some n) e

bell_of : ℕ → Option ℕ → Bell
bell_of count unheard = record { count = count; unheard = unheard }

same_bell : (bell other : Bell) → IfSome bell.unheard IsCodeNo → IfSome other.unheard IsCodeNo
    → bell_number bell ≡ bell_number other → bell ≡ other
unfolding bell_of
same_bell bell other h k e =
    let small = code_small bell.unheard h in
    let few = code_small other.unheard k in
    let packed : 256 * bell.count + code_number bell.unheard ≡ 256 * other.count + code_number other.unheard = e in
    let counts : bell.count ≡ other.count = omega arith in
    let codes : code_number bell.unheard ≡ code_number other.unheard = omega arith in
    ap (λ (n : ℕ). bell_of n bell.unheard) counts
    ∙ ap (λ (u : Option ℕ). bell_of other.count u) (same_code bell.unheard other.unheard h k codes)

bells_alike : (act : Bell → Told Bell) (way : Way) (pair other : PairState)
    → of_way pair.bells way ≡ of_way other.bells way
    → ToldAlike PairState (on_pair way (OnBell act) pair) (on_pair way (OnBell act) other)
bells_alike act way pair other e =
    record { reply = ap (λ (b : Bell). (act b).reply) e; here = ap (λ (b : Bell). (act b).here) e }

on_bells : (act : Bell → Told Bell) (link : Link) (here : BoxState) (pair other : PairState)
    → Agrees BellWord link here pair → Agrees BellWord link here other
    → number_at BellWord (way_of link) pair ≡ number_at BellWord (way_of link) other
    → ToldAlike PairState (on_pair (way_of link) (OnBell act) pair) (on_pair (way_of link) (OnBell act) other)
on_bells act link here pair other h k e =
    bells_alike act (way_of link) pair other
    (same_bell (of_way pair.bells (way_of link)) (of_way other.bells (way_of link)) h.code k.code e)

-- ---- instruments: the number tells the instrument

block_of : ℕ → Bool → Position → Block
block_of turns spent position = record { turns = turns; position = position; spent = spent }

same_block : (block other : Block) → block_number block ≡ block_number other → block ≡ other
unfolding block_of
same_block block other e =
    let turns : block.turns ≡ other.turns =
    sym (block_turns-block_word block.turns block.spent block.position) ∙ ap block_turns e
    ∙ block_turns-block_word other.turns other.spent other.position in
    let marks : block.spent ≡ other.spent =
    sym (block_spent-block_word block.turns block.spent block.position) ∙ ap block_spent e
    ∙ block_spent-block_word other.turns other.spent other.position in
    let shown : block.position ≡ other.position =
    sym (block_position-block_word block.turns block.spent block.position) ∙ ap block_position e
    ∙ block_position-block_word other.turns other.spent other.position in
    ap (λ (n : ℕ). block_of n block.spent block.position) turns
    ∙ ap (λ (b : Bool). block_of other.turns b block.position) marks
    ∙ ap (λ (p : Position). block_of other.turns other.spent p) shown

on_blocks : (act : Block → Told Block) (way : Way) (pair other : PairState)
    → number_at BlockWord way pair ≡ number_at BlockWord way other
    → ToldAlike PairState (on_pair way (OnBlock act) pair) (on_pair way (OnBlock act) other)
on_blocks act way pair other e =
    let same = same_block (of_way pair.blocks way) (of_way other.blocks way) e in
    record { reply = ap (λ (b : Block). (act b).reply) same; here = ap (λ (b : Block). (act b).here) same }

-- ---- plain lines: the number tells whether the next train has room, and which train comes next

on_lines : (act : List Passage → Told (List Passage)) (way : Way) (pair other : PairState)
    → ToldAlike (List Passage) (act (of_way pair.lines way)) (act (of_way other.lines way))
    → ToldAlike PairState (on_pair way (OnPlainLine act) pair) (on_pair way (OnPlainLine act) other)
on_lines act way pair other alike = record { reply = alike.reply; here = alike.here }

none_or_some : (n : ℕ) → (n ≡ 0) ⊎ (0 < n)
none_or_some n = grind (arith)

same_room : (here : BoxState) (way : Way) (line other : List Passage) → PlainLineAgrees (Out way) here line
    → PlainLineAgrees (Out way) here other → plain_line_number line ≡ plain_line_number other
    → holds line (of_way here.sent way + 1) ≡ holds other (of_way here.sent way + 1)
same_room here way line other h k e =
    let one = lane_says here way line h in
    let second = lane_says here way other k in
    ⊎_elim
    (λ (none : next_lane here way (plain_line_number line) ≡ 0). (one.free none).0
    ∙ sym (second.free (subst (λ (n : ℕ). next_lane here way n ≡ 0) e none)).0)
    (λ (some : 0 < next_lane here way (plain_line_number line)). one.taken some
    ∙ sym (second.taken (subst (λ (n : ℕ). 0 < next_lane here way n) e some)))
    (none_or_some (next_lane here way (plain_line_number line)))

either_alike : (a b : Bool) (x y z w : Told (List Passage)) → a ≡ b → ToldAlike (List Passage) x z
    → ToldAlike (List Passage) y w → ToldAlike (List Passage) (if a then x else y) (if b then z else w)
either_alike true true x y z w e h k = h
either_alike false false x y z w e h k = k
either_alike true false x y z w e h k = absurd cc
either_alike false true x y z w e h k = absurd cc

enter_alike : (here left : BoxState) (way : Way) (train : ℕ) (line other : List Passage)
    → holds line (of_way here.sent way + 1) ≡ holds other (of_way here.sent way + 1)
    → ToldAlike (List Passage) (enter here left way train line) (enter here left way train other)
enter_alike here left way train line other e =
    either_alike (holds line (of_way here.sent way + 1)) (holds other (of_way here.sent way + 1)) _ _ _ _ e
    (record { reply = refl; here = refl }) (record { reply = refl; here = refl })

-- an entry, by the line that its signal leads to
abbrev EntersAlike : Link → BoxState → BoxState → Way → ℕ → PairState → PairState → Type 0
EntersAlike link here left way train pair other =
    Agrees PlainLineWord link here pair → Agrees PlainLineWord link here other
    → number_at PlainLineWord (way_of link) pair ≡ number_at PlainLineWord (way_of link) other
    → ToldAlike PairState (on_pair (way_of link) (OnPlainLine (enter here left way train)) pair)
    (on_pair (way_of link) (OnPlainLine (enter here left way train)) other)

enters_alike : (here left : BoxState) (way : Way) (train : ℕ) (pair other : PairState)
    → EntersAlike (Out way) here left way train pair other
enters_alike here left way train pair other h k e =
    on_lines (enter here left way train) way pair other
    (enter_alike here left way train (of_way pair.lines way) (of_way other.lines way)
    (same_room here way (of_way pair.lines way) (of_way other.lines way) h k e))

-- the train in a lane, if one is there
train_in : ℕ → Option ℕ
train_in n = if n == 0 then None else Some n

next_by_lane : (here : BoxState) (way : Way) (line : List Passage) → PlainLineAgrees (In way) here line
    → next_train here way line ≡ train_in (lane (plain_line_number line) (next_number here way))
unfolding train_in
next_by_lane here way [] h =
    let is : lane (plain_line_number []) (next_number here way) ≡ 0 =
    lane-plain_line_number [] (next_number here way) h.each in
    sym (if_true (lane (plain_line_number []) (next_number here way) == 0) None
    (Some (lane (plain_line_number []) (next_number here way)))
    (eqb_yes (lane (plain_line_number []) (next_number here way)) 0 is))
next_by_lane here way (t ∷ ts) h =
    let first = line_left (of_way here.incoming way).taken h.numbered.0 t ts h.numbered.1 h.four h.each in
    let train = All-head (λ (passage : Passage). IsTrainNo passage.train) t ts h.each in
    first_is here way t ts h.numbered.1.0
    ∙ sym (ap train_in first.lane_is
    ∙ if_false (t.train == 0) None (Some t.train)
    (eqb_no t.train 0 (λ none. let some : 0 < t.train = train.0 in absurd (omega arith))))

same_next : (here : BoxState) (way : Way) (line other : List Passage) → PlainLineAgrees (In way) here line
    → PlainLineAgrees (In way) here other → plain_line_number line ≡ plain_line_number other
    → next_train here way line ≡ next_train here way other
same_next here way line other h k e =
    next_by_lane here way line h ∙ ap (λ (n : ℕ). train_in (lane n (next_number here way))) e
    ∙ sym (next_by_lane here way other k)

-- an arrival is told by the next train
abbrev Arrives : (Option ℕ → List Passage → Told (List Passage)) → Type 0
Arrives told =
    (next : Option ℕ) (line other : List Passage) → ToldAlike (List Passage) (told next line) (told next other)

arrives_alike : (told : Option ℕ → List Passage → Told (List Passage)) (here : BoxState) (way : Way)
    (pair other : PairState) → Arrives told → Agrees PlainLineWord (In way) here pair
    → Agrees PlainLineWord (In way) here other
    → number_at PlainLineWord way pair ≡ number_at PlainLineWord way other
    → ToldAlike PairState (on_pair way (OnPlainLine (λ line. told (next_train here way line) line)) pair)
    (on_pair way (OnPlainLine (λ line. told (next_train here way line) line)) other)
arrives_alike told here way pair other arrives h k e =
    let line = of_way pair.lines way in
    let second = of_way other.lines way in
    on_lines (λ l. told (next_train here way l) l) way pair other
    (subst (λ (next : Option ℕ). ToldAlike (List Passage) (told (next_train here way line) line) (told next second))
    (same_next here way line second h k e) (arrives (next_train here way line) line second))

awaited_alike : (here : BoxState) (j : ℕ) → Arrives (λ next line. train_awaited next here j line)
awaited_alike here j None line other = record { reply = refl; here = refl }
awaited_alike here j (Some train) line other = record { reply = refl; here = refl }

berthed_alike : (here : BoxState) (way : Way) (place j : ℕ)
    → Arrives (λ next line. train_berthed next here way place j line)
berthed_alike here way place j None line other = record { reply = refl; here = refl }
berthed_alike here way place j (Some train) line other = record { reply = refl; here = refl }

parted_alike : (here : BoxState) (way : Way) (place j : ℕ)
    → Arrives (λ next line. train_parted next here way place j line)
parted_alike here way place j None line other = record { reply = refl; here = refl }
parted_alike here way place j (Some train) line other = record { reply = refl; here = refl }

cleared_alike : (here : BoxState) (way : Way) (j : ℕ) → Arrives (λ next line. train_cleared next here way j line)
cleared_alike here way j None line other = record { reply = refl; here = refl }
cleared_alike here way j (Some train) line other = record { reply = refl; here = refl }

-- ---- every call

pub told_alike : (plan : PlanFields) (box_plan : BoxFields) (act : Act) (here : BoxState) (d : Decision)
    (pair other : PairState) → Outcome plan box_plan here act d
    → Agrees (kind_of d) (link_of box_plan act) here pair → Agrees (kind_of d) (link_of box_plan act) here other
    → number_at (kind_of d) (way_of (link_of box_plan act)) pair
    ≡ number_at (kind_of d) (way_of (link_of box_plan act)) other
    → ToldAlike PairState (on_pair (way_of (link_of box_plan act)) d pair)
    (on_pair (way_of (link_of box_plan act)) d other)
told_alike plan box_plan act here d pair other (Refused a reply refused) h k e = record { reply = refl; here = refl }
told_alike plan box_plan act here d pair other (Rings side code) h k e =
    on_bells (ring here side code) (Out side) here pair other h k e
told_alike plan box_plan act here d pair other (Hears side) h k e =
    on_bells (hear here) (In (opposite side)) here pair other h k e
told_alike plan box_plan act here d pair other (AwaitsBell side code) h k e =
    on_bells (await_bell here code) (In (opposite side)) here pair other h k e
told_alike plan box_plan act here d pair other (Turns way p b is free) h k e =
    on_blocks (turned here way p) way pair other e
told_alike plan box_plan act here d pair other (AwaitsBlock way p) h k e =
    on_blocks (await_block here p) way pair other e
told_alike plan box_plan act here d pair other (Pulls lever is free) h k e = record { reply = refl; here = refl }
told_alike plan box_plan act here d pair other (PullsStarter lever way is free) h k e =
    on_blocks (pulled_under here (pulled here lever (signal_of box_plan lever)) way)
    (way_of (starter_link (starter_way (signal_of box_plan lever)))) pair other e
told_alike plan box_plan act here d pair other (Puts lever free) h k e = record { reply = refl; here = refl }
told_alike plan box_plan act here d pair other (Brings train free) h k e = record { reply = refl; here = refl }
told_alike plan box_plan act here d pair other (GoesTo a lever signal train place is to there moves) h k e =
    record { reply = refl; here = refl }
told_alike plan box_plan act here d pair other (GoesAway a lever signal train is to there moves) h k e =
    record { reply = refl; here = refl }
told_alike plan box_plan act here d pair other (Enters a lever signal train way is to there moves) h k e =
    subst (λ (l : Link). EntersAlike l here (left_by box_plan here signal) way train pair other)
    (sym (moved_link box_plan here a lever signal way is to moves))
    (enters_alike here (left_by box_plan here signal) way train pair other) h k e
told_alike plan box_plan act here d pair other (AwaitsTrain way) h k e =
    arrives_alike (λ next line. train_awaited next here (next_number here way) line) here way pair other
    (awaited_alike here (next_number here way)) h k e
told_alike plan box_plan act here d pair other (Berths way b is free) h k e =
    arrives_alike (λ next line. train_berthed next here way b.place (next_number here way) line) here way pair other
    (berthed_alike here way b.place (next_number here way)) h k e
told_alike plan box_plan act here d pair other (Parts way b is free) h k e =
    arrives_alike (λ next line. train_parted next here way b.place (next_number here way) line) here way pair other
    (parted_alike here way b.place (next_number here way)) h k e
told_alike plan box_plan act here d pair other (Clears way free) h k e =
    arrives_alike (λ next line. train_cleared next here way (next_number here way) line) here way pair other
    (cleared_alike here way (next_number here way)) h k e
told_alike plan box_plan act here d pair other (Winds way free) h k e = record { reply = refl; here = refl }
told_alike plan box_plan act here d pair other (Releases way free) h k e = record { reply = refl; here = refl }

-- a call is told alike in two pairs that agree with its box and give the same number of its word
pub number_tells : (plan : PlanFields) (box_plan : BoxFields) (act : Act) (here : BoxState) (pair other : PairState)
    → Agrees (kind_of (decide plan box_plan act here)) (link_of box_plan act) here pair
    → Agrees (kind_of (decide plan box_plan act here)) (link_of box_plan act) here other
    → word_met plan box_plan act here pair ≡ word_met plan box_plan act here other
    → IsToldAlike plan box_plan act here pair other
number_tells plan box_plan act here pair other =
    told_alike plan box_plan act here (decide plan box_plan act here) pair other (outcome_of plan box_plan act here)
