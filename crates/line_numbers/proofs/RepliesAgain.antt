-- A reply is found again from its numbers; so replies with the same numbers are one.
use Rattle.std.proofs.Common.{◌≡◌, ℕ, Bool, Option, Some, refl, ap, ◌∙◌}
use Rattle.block_words.specs.Instruments.{position_code}
use Rattle.block_words.specs.declared.Position.{Position}
use Rattle.block_words.specs.declared.Way.{Way}
use Rattle.line_law.specs.declared.call.Reply.{Reply}
use Rattle.line_law.specs.declared.call.Reply.TheVariants.{BellNotYet, WelwynHolds, BlockNotYet, HeldByInstrument}
use Rattle.line_law.specs.Replies.{mark_number}
use Rattle.line_numbers.specs.Parts.{mark_of, position_of}
use Rattle.line_numbers.specs.ReplyParts.{ShowsCode, reply_in, reply_numbers}
use Rattle.line_numbers.proofs.PartsAgain.{mark_again, number_again, position_again, state_again, way_again}
use Rattle.block_words.specs.declared.WelwynState.{WelwynState}

pub reply_again : (reply : Reply) → ShowsCode reply → reply_in (reply_numbers reply) ≡ Some reply
reply_again (BellNotYet shown k) coded = ap (λ (s : Option ℕ). Some (BellNotYet s k)) (number_again shown coded)
reply_again (WelwynHolds state) coded = ap (λ (s : WelwynState). Some (WelwynHolds s)) (state_again state)
reply_again (BlockNotYet shown v) coded = ap (λ (p : Position). Some (BlockNotYet p v)) (position_again shown)
reply_again (HeldByInstrument way shown spent v) coded =
    ap (λ (w : Way). Some (HeldByInstrument w (position_of (position_code shown)) (mark_of (mark_number spent)) v))
    (way_again way)
    ∙ (ap (λ (p : Position). Some (HeldByInstrument way p (mark_of (mark_number spent)) v)) (position_again shown)
    ∙ ap (λ (mark : Bool). Some (HeldByInstrument way shown mark v)) (mark_again spent))
reply_again reply coded = refl

-- values that are the same option are one
one_of : (reply other : Reply) (found : Option Reply) → found ≡ Some reply → found ≡ Some other → reply ≡ other
one_of reply other found first second = cc

pub one_reply : (reply other : Reply) → ShowsCode reply → ShowsCode other
    → reply_numbers reply ≡ reply_numbers other → reply ≡ other
one_reply reply other coded other_coded same =
    one_of reply other (reply_in (reply_numbers reply)) (reply_again reply coded)
    (ap reply_in same ∙ reply_again other other_coded)
