-- A reply is found again from its numbers; so replies with the same numbers are one.
use Rattle.std.proofs.Common.{ℕ, ◌+◌, ◌-◌, ◌≡◌, List, [], ◌∷◌, Bool, true, false, Option, Some, None, IsTrue, refl, sym}
use Rattle.std.proofs.Common.{ap, subst, ◌∙◌, arith, eqb-true, slice_index_or}
use Rattle.std.specs.Prelude.{◌==◌, ◌↔◌, if◌then◌else◌}
use Rattle.std.specs.Cmp.Lexicographic.{same_text, nat_list_eq_equiv}
use Rattle.block_words.specs.Instruments.{position_code}
use Rattle.block_words.specs.declared.Position.{Position}
use Rattle.block_words.specs.declared.Position.TheVariants as shows
use Rattle.block_words.specs.declared.Way.{Way}
use Rattle.block_words.specs.declared.Way.TheVariants.{Up, Down}
use Rattle.block_words.specs.declared.WelwynState.{WelwynState}
use Rattle.block_words.specs.declared.WelwynState.TheVariants as welwyn
use Rattle.line_law.specs.declared.call.Reply.{Reply}
use Rattle.line_law.specs.declared.call.Reply.TheVariants.{Rung, BellBusy, Heard, Silent, BellNotYet, Turned}
use Rattle.line_law.specs.declared.call.Reply.TheVariants.{AlreadyThere, NotFromNormal, HomeReversed, TrackOccupied}
use Rattle.line_law.specs.declared.call.Reply.TheVariants.{WelwynHolds, CountFull, Seen, BlockNotYet, Pulled}
use Rattle.line_law.specs.declared.call.Reply.TheVariants.{PulledUnder, AlreadyReversed, Spare, HeldByLever}
use Rattle.line_law.specs.declared.call.Reply.TheVariants.{HeldByTrack, HeldByInstrument, Put, AlreadyNormal, Brought}
use Rattle.line_law.specs.declared.call.Reply.TheVariants.{AlreadyBrought, Occupied, Passed, Entered, NoTrain, AtDanger}
use Rattle.line_law.specs.declared.call.Reply.TheVariants.{ArmOff, SectionFull, Approaching, TrainNotYet, Berthed}
use Rattle.line_law.specs.declared.call.Reply.TheVariants.{PartBerthed, NoTrainAt, BerthOccupied, PortionAhead, Cleared}
use Rattle.line_law.specs.declared.call.Reply.TheVariants.{NoPortion, Winding, AlreadyWinding, NotAtNormal, Released}
use Rattle.line_law.specs.declared.call.Reply.TheVariants.{NotWinding, TooSoon}
use Rattle.line_law.specs.Replies.{mark_number, reply_numbers, same_reply, shown_code, way_number, welwyn_number}

shown_of : ℕ → Option ℕ
shown_of n = if n == 0 then None else Some (n - 1)

state_of : ℕ → WelwynState
state_of n = if n == 0 then welwyn.Ready else (if n == 1 then welwyn.Given else welwyn.Berthed)

position_of : ℕ → Position
position_of n = if n == 0 then shows.Normal else (if n == 1 then shows.LineClear else shows.TrainOnLine)

way_of : ℕ → Way
way_of n = if n == 0 then Up else Down

mark_of : ℕ → Bool
mark_of n = n == 1

-- the number at a place of a list, or 0
at : List ℕ → ℕ → ℕ
at told n = slice_index_or told n 0

-- for each reply, how it is made of its numbers
makers : List (List ℕ → Reply)
makers =
    (λ (told : List ℕ). Rung (at told 1))
    ∷ (λ (told : List ℕ). BellBusy (at told 2) (at told 1))
    ∷ (λ (told : List ℕ). Heard (at told 2) (at told 1))
    ∷ (λ (told : List ℕ). Silent (at told 1))
    ∷ (λ (told : List ℕ). BellNotYet (shown_of (at told 2)) (at told 1))
    ∷ (λ (told : List ℕ). Turned (at told 1))
    ∷ (λ (told : List ℕ). AlreadyThere)
    ∷ (λ (told : List ℕ). NotFromNormal)
    ∷ (λ (told : List ℕ). HomeReversed (at told 1))
    ∷ (λ (told : List ℕ). TrackOccupied (at told 1) (at told 2))
    ∷ (λ (told : List ℕ). WelwynHolds (state_of (at told 1)))
    ∷ (λ (told : List ℕ). CountFull (at told 1))
    ∷ (λ (told : List ℕ). Seen (at told 1))
    ∷ (λ (told : List ℕ). BlockNotYet (position_of (at told 2)) (at told 1))
    ∷ (λ (told : List ℕ). Pulled)
    ∷ (λ (told : List ℕ). PulledUnder (at told 1))
    ∷ (λ (told : List ℕ). AlreadyReversed)
    ∷ (λ (told : List ℕ). Spare)
    ∷ (λ (told : List ℕ). HeldByLever (at told 1) (at told 2))
    ∷ (λ (told : List ℕ). HeldByTrack (at told 1) (at told 2))
    ∷ (λ (told : List ℕ). HeldByInstrument (way_of (at told 1)) (position_of (at told 3)) (mark_of (at told 4))
    (at told 2))
    ∷ (λ (told : List ℕ). Put)
    ∷ (λ (told : List ℕ). AlreadyNormal)
    ∷ (λ (told : List ℕ). Brought)
    ∷ (λ (told : List ℕ). AlreadyBrought)
    ∷ (λ (told : List ℕ). Occupied (at told 1) (at told 2))
    ∷ (λ (told : List ℕ). Passed (at told 1))
    ∷ (λ (told : List ℕ). Entered (at told 2) (at told 1))
    ∷ (λ (told : List ℕ). NoTrain)
    ∷ (λ (told : List ℕ). AtDanger)
    ∷ (λ (told : List ℕ). ArmOff)
    ∷ (λ (told : List ℕ). SectionFull (at told 1))
    ∷ (λ (told : List ℕ). Approaching (at told 2) (at told 1))
    ∷ (λ (told : List ℕ). TrainNotYet (at told 1))
    ∷ (λ (told : List ℕ). Berthed (at told 2) (at told 1))
    ∷ (λ (told : List ℕ). PartBerthed (at told 2) (at told 1))
    ∷ (λ (told : List ℕ). NoTrainAt (at told 1))
    ∷ (λ (told : List ℕ). BerthOccupied (at told 1))
    ∷ (λ (told : List ℕ). PortionAhead (at told 1))
    ∷ (λ (told : List ℕ). Cleared (at told 2) (at told 1))
    ∷ (λ (told : List ℕ). NoPortion)
    ∷ (λ (told : List ℕ). Winding (at told 1))
    ∷ (λ (told : List ℕ). AlreadyWinding)
    ∷ (λ (told : List ℕ). NotAtNormal)
    ∷ (λ (told : List ℕ). Released)
    ∷ (λ (told : List ℕ). NotWinding)
    ∷ (λ (told : List ℕ). TooSoon (at told 1))
    ∷ []

-- the reply with these numbers
reply_from : List ℕ → Reply
reply_from told = slice_index_or makers (at told 0) (λ (told : List ℕ). Put) told

shown_again : (shown : Option ℕ) → shown_of (shown_code shown) ≡ shown
unfolding shown_of
shown_again None = refl
shown_again (Some code) = by ((code + 1) == 0) refl where
  by : (b : Bool) → ((code + 1) == 0) ≡ b → (if b then None else Some (code + 1 - 1)) ≡ Some code
  by true e = absurd (let z : code + 1 ≡ 0 = eqb-true (code + 1) 0 e in omega arith)
  by false e = let c : code + 1 - 1 ≡ code = omega arith in rw c refl

state_again : (state : WelwynState) → state_of (welwyn_number state) ≡ state
unfolding state_of
state_again welwyn.Ready = refl
state_again welwyn.Given = refl
state_again welwyn.Berthed = refl

position_again : (position : Position) → position_of (position_code position) ≡ position
unfolding position_of
position_again shows.Normal = refl
position_again shows.LineClear = refl
position_again shows.TrainOnLine = refl

way_again : (way : Way) → way_of (way_number way) ≡ way
unfolding way_of
way_again Up = refl
way_again Down = refl

mark_again : (mark : Bool) → mark_of (mark_number mark) ≡ mark
unfolding mark_of
mark_again true = refl
mark_again false = refl

-- every reply is found again
found_again : (reply : Reply) → reply_from (reply_numbers reply) ≡ reply
unfolding at makers reply_from
found_again (BellNotYet shown k) = ap (λ (s : Option ℕ). BellNotYet s k) (shown_again shown)
found_again (WelwynHolds state) = ap WelwynHolds (state_again state)
found_again (BlockNotYet shown v) = ap (λ (p : Position). BlockNotYet p v) (position_again shown)
found_again (HeldByInstrument way shown spent v) =
    ap (λ (w : Way). HeldByInstrument w _ _ v) (way_again way)
    ∙ (ap (λ (p : Position). HeldByInstrument way p _ v) (position_again shown)
    ∙ ap (λ (mark : Bool). HeldByInstrument way shown mark v) (mark_again spent))
found_again reply = refl

-- replies with the same numbers are one
one_reply : (reply other : Reply) → reply_numbers reply ≡ reply_numbers other → reply ≡ other
one_reply reply other same = sym (found_again reply) ∙ (ap reply_from same ∙ found_again other)

-- the test of two replies tells that they are one
pub same_reply-true : (reply other : Reply) → IsTrue (same_reply reply other) → reply ≡ other
same_reply-true reply other same =
    one_reply reply other (same_text (reply_numbers reply) (reply_numbers other) (sym same))

-- a reply is the same as itself
pub same_reply-itself : (reply : Reply) → IsTrue (same_reply reply reply)
same_reply-itself reply = nat_list_eq_equiv.refl (reply_numbers reply)

-- the test of two replies holds exactly where they are one
pub same_reply_is : (reply other : Reply) → IsTrue (same_reply reply other) ↔ (reply ≡ other)
same_reply_is reply other =
    (same_reply-true reply other, λ e. subst (λ (r : Reply). IsTrue (same_reply reply r)) e (same_reply-itself reply))
