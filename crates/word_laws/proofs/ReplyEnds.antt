-- At which end of a word a reply is told.
use Rattle.std.proofs.Common.{ℕ, ◌+◌, ◌≡◌, ◌≢◌, ◌<◌, ◌⊎◌, inl, inr, List, Option, Some}
use Rattle.std.proofs.Common.{None, Bool, true, false, length, refl, ◌∙◌, arith}
use Rattle.std.specs.Prelude.{◌==◌}
use Rattle.block_words.specs.declared.Position.{Position}
use Rattle.block_words.specs.declared.Way.{Way}
use Rattle.line_plan.specs.Plans.{PlanFields}
use Rattle.line_law.specs.declared.call.Call.{Call}
use Rattle.line_law.specs.declared.call.Reply.{Reply}
use Rattle.line_law.specs.declared.call.Reply.TheVariants as replies
use Rattle.line_law.specs.declared.link.Link.{Link}
use Rattle.line_law.specs.declared.link.Link.TheVariants.{Out, In}
use Rattle.line_law.specs.declared.state.Bell.{Bell}
use Rattle.line_law.specs.declared.state.Block.{Block}
use Rattle.line_law.specs.declared.state.BoxState.{BoxState}
use Rattle.line_law.specs.declared.state.PairState.{PairState}
use Rattle.line_law.specs.declared.state.Passage.{Passage}
use Rattle.line_law.specs.Arrivals.{next_number, next_train, train_awaited, train_berthed, train_cleared, train_parted}
use Rattle.line_law.specs.Bells.{awaited, heard, rung}
use Rattle.line_law.specs.Decisions.{Decision, Here, OnBell, OnBlock, OnPlainLine, Told, on_pair}
use Rattle.word_laws.specs.Footprint.{Tally, kind_of}
use Rattle.line_law.specs.Instruments.{await_block, same_position}
use Rattle.line_law.specs.Levers.{is_unspent_clear, pulled_under}
use Rattle.line_law.specs.Links.{way_of}
use Rattle.line_law.specs.SectionFacts.{HasLink, IsLocal}
use Rattle.line_law.specs.Trains.{entered, holds}
use Rattle.line_law.specs.Ways.{of_way}
use Rattle.word_laws.specs.WordEnds.{AtEnd, OutBell, RingsIt, InBell, HearsIt, AwaitsIt}
use Rattle.word_laws.specs.WordEnds.{OutBlock, PullsUnder, LooksAt, InBlock, TurnsIt, OutPlainLine}
use Rattle.word_laws.specs.WordEnds.{Sends, InPlainLine, LooksOut, Takes, TakesPart, ClearsAway}
use Rattle.word_laws.specs.TellsWord.{IsInReply, IsOutReply, IsReplyAt, kind_told}

rung_out : (here : BoxState) (side : Way) (code count : ℕ) (u : Option ℕ)
    → IsOutReply (rung here side code count u).reply
rung_out here side code count None = tt
rung_out here side code count (Some held) = tt

heard_in : (here : BoxState) (count : ℕ) (u : Option ℕ) → IsInReply (heard here count u).reply
heard_in here count None = tt
heard_in here count (Some held) = tt

awaited_in_by : (here : BoxState) (code count held : ℕ) (is : Bool) → (held == code) ≡ is
    → IsInReply (awaited here code count (Some held)).reply
awaited_in_by here code count held true e = rw e tt
awaited_in_by here code count held false e = rw e tt

awaited_in : (here : BoxState) (code count : ℕ) (u : Option ℕ) → IsInReply (awaited here code count u).reply
awaited_in here code count None = tt
awaited_in here code count (Some held) = awaited_in_by here code count held (held == code) refl

in_bell : (f : Bell → Told Bell) → InBell f → (w : Bell) → IsInReply (f w).reply
in_bell f (HearsIt here) w = heard_in here w.count w.unheard
in_bell f (AwaitsIt here code) w = awaited_in here code w.count w.unheard

out_bell : (way : Way) (f : Bell → Told Bell) → OutBell way f → (w : Bell) → IsOutReply (f w).reply
out_bell way f (RingsIt here code) w = rung_out here way code w.count w.unheard

seen_out : (here : BoxState) (p : Position) (w : Block) (is : Bool) → same_position w.position p ≡ is
    → IsOutReply (await_block here p w).reply
seen_out here p w true e = rw e tt
seen_out here p w false e = rw e tt

pull_out : (here after : BoxState) (way : Way) (w : Block) (is : Bool) → is_unspent_clear w ≡ is
    → IsOutReply (pulled_under here after way w).reply
pull_out here after way w true e = rw e tt
pull_out here after way w false e = rw e tt

out_block : (way : Way) (f : Block → Told Block) → OutBlock way f → (w : Block) → IsOutReply (f w).reply
out_block way f (PullsUnder here after) w = pull_out here after way w (is_unspent_clear w) refl
out_block way f (LooksAt here p) w = seen_out here p w (same_position w.position p) refl

in_block : (way : Way) (f : Block → Told Block) → InBlock way f → (w : Block) → IsInReply (f w).reply
in_block way f (TurnsIt here p) w = tt

entered_out : (k : ℕ) (here left : BoxState) (way : Way) (train : ℕ) (w : List Passage) (is : Bool) → holds w k ≡ is
    → 0 < k → IsOutReply (entered k here left way train w).reply
entered_out k here left way train w true e h = rw e tt
entered_out k here left way train w false e h = rw e h

out_line : (way : Way) (f : List Passage → Told (List Passage)) → OutPlainLine way f → (w : List Passage)
    → IsOutReply (f w).reply
out_line way f (Sends here left train) w =
    entered_out (of_way here.sent way + 1) here left way train w (holds w (of_way here.sent way + 1)) refl (omega arith)

awaited_train_in : (o : Option ℕ) (here : BoxState) (j : ℕ) (w : List Passage) → 0 < j
    → IsInReply (train_awaited o here j w).reply
awaited_train_in None here j w h = h
awaited_train_in (Some train) here j w h = tt

berthed_in : (o : Option ℕ) (here : BoxState) (way : Way) (place j : ℕ) (w : List Passage) → 0 < j
    → IsInReply (train_berthed o here way place j w).reply
berthed_in None here way place j w h = h
berthed_in (Some train) here way place j w h = h

parted_in : (o : Option ℕ) (here : BoxState) (way : Way) (place j : ℕ) (w : List Passage) → 0 < j
    → IsInReply (train_parted o here way place j w).reply
parted_in None here way place j w h = h
parted_in (Some train) here way place j w h = tt

cleared_in : (o : Option ℕ) (here : BoxState) (way : Way) (j : ℕ) (w : List Passage) → 0 < j
    → IsInReply (train_cleared o here way j w).reply
cleared_in None here way j w h = h
cleared_in (Some train) here way j w h = h

in_line : (way : Way) (f : List Passage → Told (List Passage)) → InPlainLine way f → (w : List Passage)
    → IsInReply (f w).reply
in_line way f (LooksOut here) w = awaited_train_in (next_train here way w) here (next_number here way) w (omega arith)
in_line way f (Takes here place) w =
    berthed_in (next_train here way w) here way place (next_number here way) w (omega arith)
in_line way f (TakesPart here place) w =
    parted_in (next_train here way w) here way place (next_number here way) w (omega arith)
in_line way f (ClearsAway here) w = cleared_in (next_train here way w) here way (next_number here way) w (omega arith)

-- a reply of the tally is at any end
tally_out : (r : Reply) → kind_told r ≡ Tally → IsOutReply r
tally_out (replies.Heard code k) e = absurd cc
tally_out (replies.Silent k) e = absurd cc
tally_out (replies.BellNotYet shown k) e = absurd cc
tally_out (replies.Turned v) e = absurd cc
tally_out (replies.Approaching train j) e = absurd cc
tally_out (replies.TrainNotYet j) e = absurd cc
tally_out (replies.Berthed train j) e = absurd cc
tally_out (replies.PartBerthed train j) e = absurd cc
tally_out (replies.NoTrainAt j) e = absurd cc
tally_out (replies.Cleared train j) e = absurd cc
tally_out (replies.Entered train k) e = absurd cc
tally_out reply e = tt

tally_in : (r : Reply) → kind_told r ≡ Tally → IsInReply r
tally_in (replies.Rung k) e = absurd cc
tally_in (replies.BellBusy code k) e = absurd cc
tally_in (replies.Seen v) e = absurd cc
tally_in (replies.BlockNotYet shown v) e = absurd cc
tally_in (replies.PulledUnder v) e = absurd cc
tally_in (replies.HeldByInstrument way shown spent v) e = absurd cc
tally_in (replies.Entered train k) e = absurd cc
tally_in (replies.SectionFull k) e = absurd cc
tally_in (replies.TrainNotYet j) e = absurd cc
tally_in (replies.NoTrainAt j) e = absurd cc
tally_in (replies.Berthed train j) e = absurd cc
tally_in (replies.Cleared train j) e = absurd cc
tally_in reply e = tt

-- a reply is told at the end at which its call was decided
pub reply_at : (link : Link) (d : Decision) (p : PairState) → AtEnd link d
    → IsReplyAt link (on_pair (way_of link) d p).reply
reply_at (Out way) (Here reply here) p at = tally_out reply at
reply_at (Out way) (OnBell f) p at = out_bell way f at (of_way p.bells way)
reply_at (Out way) (OnBlock f) p at = out_block way f at (of_way p.blocks way)
reply_at (Out way) (OnPlainLine f) p at = out_line way f at (of_way p.lines way)
reply_at (In way) (Here reply here) p at = tally_in reply at
reply_at (In way) (OnBell f) p at = in_bell f at (of_way p.bells way)
reply_at (In way) (OnBlock f) p at = in_block way f at (of_way p.blocks way)
reply_at (In way) (OnPlainLine f) p at = in_line way f at (of_way p.lines way)

local_tally : (d : Decision) → IsLocal d → kind_of d ≡ Tally
local_tally (Here reply here) h = refl
local_tally (OnBell f) h = absurd h
local_tally (OnBlock f) h = absurd h
local_tally (OnPlainLine f) h = absurd h

-- the line of a call whose reply isn't of the tally leads to a neighbour
pub link_there : (plan : PlanFields) (b : ℕ) (call : Call) (d : Decision) (link : Link) (r : Reply)
    → kind_told r ≡ kind_of d → HasLink (length plan.boxes) b link ⊎ IsLocal d → kind_told r ≢ Tally
    → HasLink (length plan.boxes) b link
link_there plan b call d link r kind (inl h) ne = h
link_there plan b call d link r kind (inr local) ne = absurd (ne (kind ∙ local_tally d local))
