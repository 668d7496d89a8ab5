-- Replies that a text can spell are read as they are printed, and their words are short.
use Rattle.std.proofs.Common.{◌≡◌, ℕ, ◌^◌, ◌<◌, ◌≤◌, Bool, true, false, ltb, leb, ◌&&◌, List, [], ◌∷◌, length, Option}
use Rattle.std.proofs.Common.{Some, None, refl, arith, codes, decimal}
use Rattle.std.specs.List.{list_all}
use Rattle.std.proofs.lemmas.Bool.Decides.{nat_tests}
use Rattle.block_words.specs.declared.Position.{Position}
use Rattle.block_words.specs.declared.Position.TheVariants.{Normal, LineClear, TrainOnLine}
use Rattle.block_words.specs.declared.Way.{Way}
use Rattle.block_words.specs.declared.Way.TheVariants.{Up, Down}
use Rattle.block_words.specs.declared.WelwynState.{WelwynState}
use Rattle.block_words.specs.declared.WelwynState.TheVariants as states
use Rattle.rail_text.specs.Forms.{is_word}
use Rattle.rail_text.specs.Number.{number_of}
use Rattle.rail_text.specs.Words.{is_name}
use Rattle.rail_text.proofs.NumberLemmas.{number_of-decimal}
use Rattle.rail_text.proofs.PrintedLines.{both}
use Rattle.rail_text.proofs.PrintedWords.{decimal_is_word, length-decimal_word, length-name, name_is_word}
use Rattle.line_plan.specs.Plans.{PlanFields, IsPlan, box_at, is_train}
use Rattle.line_plan.specs.Ways.{way_word}
use Rattle.line_law.specs.declared.call.Reply.{Reply}
use Rattle.line_law.specs.declared.call.Reply.TheVariants as replies
use Rattle.line_law.specs.Known.{is_code_no, knows_lever}
use Rattle.script_text.specs.Answers.{small_number, state_named, spent_named, lone_reply, count_reply, pair_reply}
use Rattle.script_text.specs.Answers.{triple_reply, lever_reply, instrument_reply, shaped_reply}
use Rattle.script_text.specs.Moments.{moment_text, ready_of, ready_moments}
use Rattle.script_text.specs.Names.{position_text, code_no_text, place_text, train_text, code_named}
use Rattle.script_text.specs.Names.{place_named, train_named}
use Rattle.script_text.specs.Replies.{shown_text, state_text, spent_text, reply_words, is_count, is_small, is_place}
use Rattle.script_text.specs.Replies.{is_row, is_stand, shows_code, is_holding, is_ready_moment, is_spelled_reply}
use Rattle.script_text.proofs.CallTexts.{way_read, position_read}
use Rattle.script_text.proofs.CodeTexts.{code_named-read, code_is_word, code_short, no_code, code_is_no_position}
use Rattle.script_text.proofs.LeverTexts.{lever_from}
use Rattle.script_text.proofs.MomentTexts.{printed_ready, ready_is_short, moment_is_word}
use Rattle.script_text.proofs.Named.{place_read, place_is_name, train_read, train_is_name}
use Rattle.script_text.proofs.PlainWords.{both_hold}

-- ---- words

-- a word as it may stand in a line, of at most as many bytes as the longest word of a reply
abbrev pub is_short_word : List ℕ → Bool
is_short_word word = is_word word && leb (length word) 18

short_word : (word : List ℕ) → is_word word ≡ true → length word ≤ 18 → is_short_word word ≡ true
short_word word is few =
    let short : leb (length word) 18 ≡ true = grind (arith, nat_tests, few) in both_hold (is_word word) _ is short

-- one to five words, each of them short
pub record AreWords (words : List (List ℕ)) : Type 0 where
  pub each : list_all is_short_word words ≡ true
  pub some : 0 < length words
  pub few : length words ≤ 5

-- the words are those of the reply, and short
pub record Reads (plan : PlanFields) (b : ℕ) (words : List (List ℕ)) (reply : Reply) : Type 0 where
  pub are : AreWords words
  pub shape : shaped_reply plan b words ≡ Some reply

-- ---- numbers, levers and rows

count_below : (n : ℕ) → is_count n ≡ true → n < 10 ^ 10
count_below n h = grind (arith, nat_tests)

number_read : (n : ℕ) → is_count n ≡ true → number_of (decimal n) ≡ Some n
number_read n h = number_of-decimal n (count_below n h)

number_is_short : (n : ℕ) → n < 10 ^ 10 → is_short_word (decimal n) ≡ true
number_is_short n h =
    let few : length (decimal n) ≤ 18 = omega (arith, length-decimal_word n h) in
    short_word (decimal n) (decimal_is_word n h) few

count_is_short : (n : ℕ) → is_count n ≡ true → is_short_word (decimal n) ≡ true
count_is_short n h = number_is_short n (count_below n h)

small_below : (n : ℕ) → is_small n ≡ true → n < 2 ^ 32
small_below n h = grind (arith, nat_tests)

small_read : (n : ℕ) → n < 2 ^ 32 → small_number (decimal n) ≡ Some n
small_read n h =
    let few : n < 10 ^ 10 = omega arith in
    let test : ltb n (2 ^ 32) ≡ true = grind (arith, nat_tests) in
    rw (number_of-decimal n few, test) refl

small_is_short : (n : ℕ) → n < 2 ^ 32 → is_short_word (decimal n) ≡ true
small_is_short n h = number_is_short n (omega arith)

lever_below : (plan : PlanFields) (b lever : ℕ) → IsPlan plan → b < length plan.boxes → knows_lever plan b lever ≡ true
    → lever < 2 ^ 32
lever_below plan b lever p at h = let r = lever_from plan b lever p at h in omega (arith, r.high_enough)

row_below : (plan : PlanFields) (b row : ℕ) → IsPlan plan → b < length plan.boxes → is_row plan b row ≡ true
    → row < 2 ^ 32
row_below plan b row p at h =
    let last : leb row (length (box_at plan.boxes b).rows) ≡ true = (both (leb 1 row) _ h).1 in
    let high : row ≤ length (box_at plan.boxes b).rows = grind (arith, nat_tests, last) in
    omega (arith, high, (p.each b at).few_rows)

ready_below : (plan : PlanFields) (moment : ℕ) → is_ready_moment plan moment ≡ true
    → moment < ready_moments plan.version
ready_below plan moment h = grind (arith, nat_tests)

-- ---- states, spent instruments and what a bell shows

state_read : (state : WelwynState) → is_holding state ≡ true → state_named (state_text state) ≡ Some state
state_read states.Ready h = absurd cc
state_read states.Given h = refl
state_read states.Berthed h = refl

state_is_short : (state : WelwynState) → is_short_word (state_text state) ≡ true
state_is_short states.Ready = refl
state_is_short states.Given = refl
state_is_short states.Berthed = refl

spent_read : (spent : Bool) → spent_named (spent_text spent) ≡ Some spent
spent_read true = refl
spent_read false = refl

spent_is_short : (spent : Bool) → is_short_word (spent_text spent) ≡ true
spent_is_short true = refl
spent_is_short false = refl

code_is_short : (plan : PlanFields) (code : ℕ) → IsPlan plan → is_code_no plan code ≡ true
    → is_short_word (code_no_text plan.codes code) ≡ true
code_is_short plan code p h =
    short_word (code_no_text plan.codes code) (code_is_word plan code p h) (omega (arith, code_short plan code p h))

shown_is_short : (plan : PlanFields) (shown : Option ℕ) → IsPlan plan → shows_code plan shown ≡ true
    → is_short_word (shown_text plan shown) ≡ true
shown_is_short plan None p h = refl
shown_is_short plan (Some code) p h = code_is_short plan code p h

bell_read : (plan : PlanFields) (b k : ℕ) (shown : Option ℕ) → IsPlan plan → is_count k ≡ true
    → shows_code plan shown ≡ true
    → triple_reply plan b (codes "not_yet") (decimal k) (shown_text plan shown) ≡ Some (replies.BellNotYet shown k)
unfolding triple_reply
bell_read plan b k None p h s = rw (number_read k h) refl
bell_read plan b k (Some code) p h s =
    rw (
      number_read k h,
      code_is_no_position plan code p s,
      no_code plan code (codes "none") p s refl,
      code_named-read plan code p s,
    ) refl

-- ---- names, ways, positions and moments

name_is_short : (name : List ℕ) → is_name name ≡ true → is_short_word name ≡ true
name_is_short name h = short_word name (name_is_word name h) (omega (arith, length-name name h))

train_is_short : (plan : PlanFields) (train : ℕ) → IsPlan plan → is_train plan.trains train ≡ true
    → is_short_word (train_text plan train) ≡ true
train_is_short plan train p h = name_is_short (train_text plan train) (train_is_name plan train p h)

place_is_short : (plan : PlanFields) (b place : ℕ) → IsPlan plan → b < length plan.boxes
    → is_place plan b place ≡ true → is_short_word (place_text plan b place) ≡ true
place_is_short plan b place p at h = name_is_short (place_text plan b place) (place_is_name plan b place p at h)

way_is_short : (way : Way) → is_short_word (way_word way) ≡ true
way_is_short Up = refl
way_is_short Down = refl

position_is_short : (position : Position) → is_short_word (position_text position) ≡ true
position_is_short Normal = refl
position_is_short LineClear = refl
position_is_short TrainOnLine = refl

moment_is_short : (plan : PlanFields) (moment : ℕ) → is_ready_moment plan moment ≡ true
    → is_short_word (moment_text plan.version moment) ≡ true
moment_is_short plan moment h =
    let m = moment_is_word plan.version moment (ready_is_short plan.version moment (ready_below plan moment h)) in
    short_word (moment_text plan.version moment) m.word (omega (arith, m.few))

ready_read : (plan : PlanFields) (moment : ℕ) → is_ready_moment plan moment ≡ true
    → ready_of plan.version (moment_text plan.version moment) ≡ Some moment
ready_read plan moment h = printed_ready plan.version moment (ready_below plan moment h)

-- ---- replies by their shapes: each is of short words, if its first one is, and is read where each word is

one : (w : List ℕ) → is_short_word w ≡ true → AreWords (w ∷ [])
one w e = record { each = rw e refl; some = omega arith; few = omega arith }

two : (w x : List ℕ) → is_short_word w ≡ true → is_short_word x ≡ true → AreWords (w ∷ x ∷ [])
two w x e f = record { each = rw (e, f) refl; some = omega arith; few = omega arith }

three : (w x y : List ℕ) → is_short_word w ≡ true → is_short_word x ≡ true → is_short_word y ≡ true
    → AreWords (w ∷ x ∷ y ∷ [])
three w x y e f g = record { each = rw (e, f, g) refl; some = omega arith; few = omega arith }

four : (w x y z : List ℕ) → is_short_word w ≡ true → is_short_word x ≡ true → is_short_word y ≡ true
    → is_short_word z ≡ true → AreWords (w ∷ x ∷ y ∷ z ∷ [])
four w x y z e f g h = record { each = rw (e, f, g, h) refl; some = omega arith; few = omega arith }

five : (w x y z v : List ℕ) → is_short_word w ≡ true → is_short_word x ≡ true → is_short_word y ≡ true
    → is_short_word z ≡ true → is_short_word v ≡ true → AreWords (w ∷ x ∷ y ∷ z ∷ v ∷ [])
five w x y z v e f g h k = record { each = rw (e, f, g, h, k) refl; some = omega arith; few = omega arith }

-- a word alone
lone : (plan : PlanFields) (b : ℕ) (w : List ℕ) (reply : Reply) → is_short_word w ≡ true
    → shaped_reply plan b (w ∷ []) ≡ Some reply → Reads plan b (w ∷ []) reply
lone plan b w reply e s = record { are = one w e; shape = s }

-- a word and a number
counted : (plan : PlanFields) (b : ℕ) (w : List ℕ) (n : ℕ) (reply : Reply) → is_short_word w ≡ true
    → (number_of (decimal n) ≡ Some n → shaped_reply plan b (w ∷ decimal n ∷ []) ≡ Some reply) → is_count n ≡ true
    → Reads plan b (w ∷ decimal n ∷ []) reply
counted plan b w n reply e s h =
    record { are = two w (decimal n) e (count_is_short n h); shape = s (number_read n h) }

-- a word, a number and a code
coded : (plan : PlanFields) (b : ℕ) (w : List ℕ) (k code : ℕ) (reply : Reply) → IsPlan plan → is_short_word w ≡ true
    → (number_of (decimal k) ≡ Some k → code_named plan (code_no_text plan.codes code) ≡ Some code
    → shaped_reply plan b (w ∷ decimal k ∷ code_no_text plan.codes code ∷ []) ≡ Some reply)
    → is_count k && is_code_no plan code ≡ true → Reads plan b (w ∷ decimal k ∷ code_no_text plan.codes code ∷ []) reply
coded plan b w k code reply p e s h =
    let t = both (is_count k) _ h in
    record {
      are = three w (decimal k) _ e (count_is_short k t.0) (code_is_short plan code p t.1);
      shape = s (number_read k t.0) (code_named-read plan code p t.1);
    }

-- a word and a train
trained : (plan : PlanFields) (b : ℕ) (w : List ℕ) (train : ℕ) (reply : Reply) → IsPlan plan → is_short_word w ≡ true
    → (train_named plan (train_text plan train) ≡ Some train
    → shaped_reply plan b (w ∷ train_text plan train ∷ []) ≡ Some reply) → is_train plan.trains train ≡ true
    → Reads plan b (w ∷ train_text plan train ∷ []) reply
trained plan b w train reply p e s h =
    record { are = two w _ e (train_is_short plan train p h); shape = s (train_read plan train p h) }

-- a word, a number and a train
moved : (plan : PlanFields) (b : ℕ) (w : List ℕ) (n train : ℕ) (reply : Reply) → IsPlan plan → is_short_word w ≡ true
    → (number_of (decimal n) ≡ Some n → train_named plan (train_text plan train) ≡ Some train
    → shaped_reply plan b (w ∷ decimal n ∷ train_text plan train ∷ []) ≡ Some reply)
    → is_count n && is_train plan.trains train ≡ true → Reads plan b (w ∷ decimal n ∷ train_text plan train ∷ []) reply
moved plan b w n train reply p e s h =
    let t = both (is_count n) _ h in
    record {
      are = three w (decimal n) _ e (count_is_short n t.0) (train_is_short plan train p t.1);
      shape = s (number_read n t.0) (train_read plan train p t.1);
    }

-- a word, a place and a train
stood : (plan : PlanFields) (b : ℕ) (w : List ℕ) (place train : ℕ) (reply : Reply) → IsPlan plan
    → b < length plan.boxes → is_short_word w ≡ true
    → (place_named plan b (place_text plan b place) ≡ Some place
    → train_named plan (train_text plan train) ≡ Some train
    → shaped_reply plan b (w ∷ place_text plan b place ∷ train_text plan train ∷ []) ≡ Some reply)
    → is_stand plan b place train ≡ true → Reads plan b (w ∷ place_text plan b place ∷ train_text plan train ∷ []) reply
stood plan b w place train reply p at e s h =
    let t = both (is_place plan b place) _ h in
    record {
      are = three w _ _ e (place_is_short plan b place p at t.0) (train_is_short plan train p t.1);
      shape = s (place_read plan b place p at t.0) (train_read plan train p t.1);
    }

-- a word and a moment
timed : (plan : PlanFields) (b : ℕ) (w : List ℕ) (moment : ℕ) (reply : Reply) → is_short_word w ≡ true
    → (ready_of plan.version (moment_text plan.version moment) ≡ Some moment
    → shaped_reply plan b (w ∷ moment_text plan.version moment ∷ []) ≡ Some reply) → is_ready_moment plan moment ≡ true
    → Reads plan b (w ∷ moment_text plan.version moment ∷ []) reply
timed plan b w moment reply e s h =
    record { are = two w _ e (moment_is_short plan moment h); shape = s (ready_read plan moment h) }

-- the words of a reply are short words, and have the shape of it
pub reply_reads : (plan : PlanFields) (b : ℕ) (reply : Reply) → IsPlan plan → b < length plan.boxes
    → is_spelled_reply plan b reply ≡ true → Reads plan b (reply_words plan b reply) reply
unfolding is_spelled_reply shaped_reply lone_reply count_reply pair_reply triple_reply lever_reply instrument_reply
reply_reads plan b (replies.Rung k) p at h = counted plan b (codes "rung") k _ refl (λ e. rw e refl) h
reply_reads plan b (replies.BellBusy code k) p at h =
    coded plan b (codes "bell_busy") k code _ p refl (λ e f. rw (e, f) refl) h
reply_reads plan b (replies.Heard code k) p at h =
    coded plan b (codes "heard") k code _ p refl (λ e f. rw (e, f) refl) h
reply_reads plan b (replies.Silent k) p at h = counted plan b (codes "silent") k _ refl (λ e. rw e refl) h
reply_reads plan b (replies.BellNotYet shown k) p at h =
    let t = both (is_count k) _ h in
    record {
      are = three (codes "not_yet") (decimal k) _ refl (count_is_short k t.0) (shown_is_short plan shown p t.1);
      shape = bell_read plan b k shown p t.0 t.1;
    }
reply_reads plan b (replies.Turned v) p at h = counted plan b (codes "turned") v _ refl (λ e. rw e refl) h
reply_reads plan b replies.AlreadyThere p at h = lone plan b (codes "already_there") _ refl refl
reply_reads plan b replies.NotFromNormal p at h = lone plan b (codes "not_from_normal") _ refl refl
reply_reads plan b (replies.HomeReversed lever) p at h =
    let low = lever_below plan b lever p at h in
    record {
      are = two (codes "home_reversed") (decimal lever) refl (small_is_short lever low);
      shape = rw (small_read lever low) refl;
    }
reply_reads plan b (replies.TrackOccupied place train) p at h =
    stood plan b (codes "track_occupied") place train _ p at refl (λ e f. rw (e, f) refl) h
reply_reads plan b (replies.WelwynHolds state) p at h =
    record {
      are = two (codes "welwyn_holds") (state_text state) refl (state_is_short state);
      shape = rw (state_read state h) refl;
    }
reply_reads plan b (replies.CountFull out) p at h =
    let low = small_below out h in
    record {
      are = two (codes "count_full") (decimal out) refl (small_is_short out low);
      shape = rw (small_read out low) refl;
    }
reply_reads plan b (replies.Seen v) p at h = counted plan b (codes "seen") v _ refl (λ e. rw e refl) h
reply_reads plan b (replies.BlockNotYet shown v) p at h =
    record {
      are = three (codes "not_yet") (decimal v) _ refl (count_is_short v h) (position_is_short shown);
      shape = rw (number_read v h, position_read shown) refl;
    }
reply_reads plan b replies.Pulled p at h = lone plan b (codes "pulled") _ refl refl
reply_reads plan b (replies.PulledUnder v) p at h = counted plan b (codes "pulled_under") v _ refl (λ e. rw e refl) h
reply_reads plan b replies.AlreadyReversed p at h = lone plan b (codes "already_reversed") _ refl refl
reply_reads plan b replies.Spare p at h = lone plan b (codes "spare") _ refl refl
reply_reads plan b (replies.HeldByLever lever row) p at h =
    let t = both (knows_lever plan b lever) _ h in
    let low = lever_below plan b lever p at t.0 in
    let few = row_below plan b row p at t.1 in
    record {
      are =
          four (codes "held_by_lever") (decimal lever) (codes "row") (decimal row) refl (small_is_short lever low) refl
          (small_is_short row few);
      shape = rw (small_read lever low, small_read row few) refl;
    }
reply_reads plan b (replies.HeldByTrack place train) p at h =
    stood plan b (codes "held_by_track") place train _ p at refl (λ e f. rw (e, f) refl) h
reply_reads plan b (replies.HeldByInstrument way shown spent v) p at h =
    record {
      are =
          five (codes "held_by_instrument") (way_word way) (decimal v) _ _ refl (way_is_short way) (count_is_short v h)
          (position_is_short shown) (spent_is_short spent);
      shape = rw (way_read way, number_read v h, position_read shown, spent_read spent) refl;
    }
reply_reads plan b replies.Put p at h = lone plan b (codes "put") _ refl refl
reply_reads plan b replies.AlreadyNormal p at h = lone plan b (codes "already_normal") _ refl refl
reply_reads plan b replies.Brought p at h = lone plan b (codes "brought") _ refl refl
reply_reads plan b replies.AlreadyBrought p at h = lone plan b (codes "already_brought") _ refl refl
reply_reads plan b (replies.Occupied place train) p at h =
    stood plan b (codes "occupied") place train _ p at refl (λ e f. rw (e, f) refl) h
reply_reads plan b (replies.Passed train) p at h = trained plan b (codes "passed") train _ p refl (λ e. rw e refl) h
reply_reads plan b (replies.Entered train k) p at h =
    moved plan b (codes "entered") k train _ p refl (λ e f. rw (e, f) refl) h
reply_reads plan b replies.NoTrain p at h = lone plan b (codes "no_train") _ refl refl
reply_reads plan b replies.AtDanger p at h = lone plan b (codes "at_danger") _ refl refl
reply_reads plan b replies.ArmOff p at h = lone plan b (codes "arm_off") _ refl refl
reply_reads plan b (replies.SectionFull k) p at h = counted plan b (codes "section_full") k _ refl (λ e. rw e refl) h
reply_reads plan b (replies.Approaching train j) p at h =
    moved plan b (codes "approaching") j train _ p refl (λ e f. rw (e, f) refl) h
reply_reads plan b (replies.TrainNotYet j) p at h = counted plan b (codes "not_yet") j _ refl (λ e. rw e refl) h
reply_reads plan b (replies.Berthed train j) p at h =
    moved plan b (codes "berthed") j train _ p refl (λ e f. rw (e, f) refl) h
reply_reads plan b (replies.PartBerthed train j) p at h =
    moved plan b (codes "part_berthed") j train _ p refl (λ e f. rw (e, f) refl) h
reply_reads plan b (replies.NoTrainAt j) p at h = counted plan b (codes "no_train") j _ refl (λ e. rw e refl) h
reply_reads plan b (replies.BerthOccupied train) p at h =
    trained plan b (codes "occupied") train _ p refl (λ e. rw e refl) h
reply_reads plan b (replies.PortionAhead train) p at h =
    trained plan b (codes "portion_ahead") train _ p refl (λ e. rw e refl) h
reply_reads plan b (replies.Cleared train j) p at h =
    moved plan b (codes "cleared") j train _ p refl (λ e f. rw (e, f) refl) h
reply_reads plan b replies.NoPortion p at h = lone plan b (codes "no_portion") _ refl refl
reply_reads plan b (replies.Winding ready_at) p at h = timed plan b (codes "winding") ready_at _ refl (λ e. rw e refl) h
reply_reads plan b replies.AlreadyWinding p at h = lone plan b (codes "already_winding") _ refl refl
reply_reads plan b replies.NotAtNormal p at h = lone plan b (codes "not_at_normal") _ refl refl
reply_reads plan b replies.Released p at h = lone plan b (codes "released") _ refl refl
reply_reads plan b replies.NotWinding p at h = lone plan b (codes "not_winding") _ refl refl
reply_reads plan b (replies.TooSoon ready_at) p at h =
    timed plan b (codes "too_soon") ready_at _ refl (λ e. rw e refl) h
