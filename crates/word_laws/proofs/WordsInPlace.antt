-- Each word of a line has a place of its own.
use Rattle.std.proofs.Common.{◌≡◌, ℕ, ◌+◌, ◌*◌, ◌<◌, ◌≤◌, length, refl, arith}
use Rattle.block_words.specs.declared.Way.{Way}
use Rattle.block_words.specs.declared.Way.TheVariants.{Up, Down}
use Rattle.line_plan.specs.Plans.{IsPlan, PlanFields}
use Rattle.line_law.specs.declared.call.Entry.{Entry}
use Rattle.word_laws.specs.Footprint.{Kind, Tally, BellWord, BlockWord, PlainLineWord}
use Rattle.line_law.specs.Known.{KnowsCall}
use Rattle.line_law.specs.Replies.{way_number}
use Rattle.word_laws.specs.TellsWord.{kind_told}
use Rattle.line_law.specs.Law.{link_of, pair_of, box_plan_of}
use Rattle.line_law.specs.Links.{way_of}
use Rattle.word_laws.specs.WordNumbers.{BellOf, BlockOf, PlainLineOf, TallyOf, Word, word_named, word_of}
use Rattle.word_laws.specs.WordPlaces.{IsWordOf, word_count, word_place}
use Rattle.line_law.proofs.Sides.{call_within}

one_way : (way : Way) → way_number way ≤ 1
one_way Up = omega arith
one_way Down = omega arith

-- each word of a line has a place among its words, after the first
pub place_within : (n : ℕ) (w : Word) → IsWordOf n w → (0 < word_place n w) × (word_place n w < word_count n)
place_within n (TallyOf b) is = (omega arith, omega arith)
place_within n (BellOf p way) is = let o = one_way way in (omega arith, omega arith)
place_within n (BlockOf p way) is = let o = one_way way in (omega arith, omega arith)
place_within n (PlainLineOf p way) is = let o = one_way way in (omega arith, omega arith)

-- a pair and a way by the number of both
record SameBoth (p q : ℕ) (v w : Way) : Type 0 where
  pub pair : p ≡ q
  pub way : v ≡ w

same_both : (p q : ℕ) (v w : Way) → 2 * p + way_number v ≡ 2 * q + way_number w → SameBoth p q v w
same_both p q Up Up e = record { pair = omega arith; way = refl }
same_both p q Up Down e = absurd (omega arith)
same_both p q Down Up e = absurd (omega arith)
same_both p q Down Down e = record { pair = omega arith; way = refl }

-- two words of a line have different places
pub one_place : (n : ℕ) (w v : Word) → IsWordOf n w → IsWordOf n v → word_place n w ≡ word_place n v → w ≡ v
one_place n (TallyOf b) (TallyOf c) is are e = let same : b ≡ c = omega arith in cc
one_place n (TallyOf b) (BellOf q w) is are e = absurd (omega arith)
one_place n (TallyOf b) (BlockOf q w) is are e = absurd (omega arith)
one_place n (TallyOf b) (PlainLineOf q w) is are e = absurd (omega arith)
one_place n (BellOf p v) (TallyOf c) is are e = absurd (omega arith)
one_place n (BellOf p v) (BellOf q w) is are e = let same = same_both p q v w (omega arith) in cc
one_place n (BellOf p v) (BlockOf q w) is are e = let o = one_way v in absurd (omega arith)
one_place n (BellOf p v) (PlainLineOf q w) is are e = let o = one_way v in absurd (omega arith)
one_place n (BlockOf p v) (TallyOf c) is are e = absurd (omega arith)
one_place n (BlockOf p v) (BellOf q w) is are e = let o = one_way w in absurd (omega arith)
one_place n (BlockOf p v) (BlockOf q w) is are e = let same = same_both p q v w (omega arith) in cc
one_place n (BlockOf p v) (PlainLineOf q w) is are e = let o = one_way v in absurd (omega arith)
one_place n (PlainLineOf p v) (TallyOf c) is are e = absurd (omega arith)
one_place n (PlainLineOf p v) (BellOf q w) is are e = let o = one_way w in absurd (omega arith)
one_place n (PlainLineOf p v) (BlockOf q w) is are e = let o = one_way w in absurd (omega arith)
one_place n (PlainLineOf p v) (PlainLineOf q w) is are e = let same = same_both p q v w (omega arith) in cc

named_within : (k : Kind) (n b p : ℕ) (v : Way) → b < n → p + 1 < n → IsWordOf n (word_named k b p v)
named_within Tally n b p v box pair = box
named_within BellWord n b p v box pair = pair
named_within BlockWord n b p v box pair = pair
named_within PlainLineWord n b p v box pair = pair

-- the word of a known call is one of the line
pub word_within : (plan : PlanFields) (e : Entry) → IsPlan plan → KnowsCall plan e.box_no e.call
    → IsWordOf (length plan.boxes) (word_of plan e)
word_within plan e is known =
    let within = call_within plan e.box_no e.call is known in
    named_within (kind_told e.reply) (length plan.boxes) e.box_no (pair_of plan e.box_no e.call)
    (way_of (link_of (box_plan_of plan e.box_no) e.call.act)) within.box within.pair
