-- The same in the pair that has the word; and an entry stands at its end of the word.
use Rattle.std.proofs.Common.{◌≡◌, List}
use Rattle.std.proofs.Common.{refl, sym, ap, subst, ◌∙◌}
use Rattle.block_words.specs.declared.Way.{Way}
use Rattle.line_plan.specs.Frames.{BoxFields}
use Rattle.line_plan.specs.Plans.{IsPlan, PlanFields}
use Rattle.line_law.specs.declared.call.Act.{Act}
use Rattle.line_law.specs.declared.call.Entry.{Entry}
use Rattle.line_law.specs.declared.call.Reply.{Reply}
use Rattle.line_law.specs.declared.link.Link.{Link}
use Rattle.line_law.specs.declared.state.Bell.{Bell}
use Rattle.line_law.specs.declared.state.Block.{Block}
use Rattle.line_law.specs.declared.state.BoxState.{BoxState}
use Rattle.line_law.specs.declared.state.PairState.{PairState}
use Rattle.line_law.specs.declared.state.Passage.{Passage}
use Rattle.line_law.specs.Decisions.{Decision, Here, OnBell, OnBlock, OnPlainLine, on_pair}
use Rattle.word_laws.specs.Footprint.{Kind, kind_of}
use Rattle.line_law.specs.Law.{at_moment, decide, link_of, box_plan_of}
use Rattle.line_law.specs.Links.{way_of}
use Rattle.line_law.specs.SectionFacts.{decided}
use Rattle.word_laws.specs.TellsWord.{IsReplyAt, kind_told}
use Rattle.line_law.specs.Ways.{of_way, with_way}
use Rattle.line_law.proofs.Outcomes.{outcome_of}
use Rattle.line_law.proofs.Sides.{known_link}
use Rattle.word_laws.proofs.ReplyEnds.{link_there, reply_at}
use Rattle.word_laws.proofs.TellsKind.{decision_tells, told_in_pair}
use Rattle.word_laws.proofs.WordEndsLaws.{call_at_end}
use Rattle.line_journal.specs.Fits.{FitsWord, word_made}
use Rattle.line_journal.specs.Halves.{MayDo, GivesAgain, Stands}
use Rattle.line_journal.proofs.WordFits.{Alike, LawOf, law_of}

-- ---- in a pair

record PairLaw (kind : Kind) (way : Way) (act : Act) (d : Decision) (p q : PairState) : Type 0 where
  fits : FitsWord kind way act (on_pair way d p).reply p
  makes : (on_pair way d p).word ≡ word_made kind way act (on_pair way d p).reply p
  again : FitsWord kind way act (on_pair way d p).reply q → Alike (on_pair way d q) (on_pair way d p)

-- what the written word is of is what the pair is of
pair_law : (way : Way) (act : Act) (d : Decision) (p q : PairState) → LawOf act d → PairLaw (kind_of d) way act d p q
pair_law way act (Here reply here) p q law = record { fits = tt; makes = refl; again = λ h. (refl, refl) }
pair_law way act (OnBell f) p q law =
    record {
      fits = law.fits (of_way p.bells way);
      makes =
          ap (λ (b : Bell). let pair : PairState = record p { bells = with_way p.bells way b } in pair)
          (law.makes (of_way p.bells way));
      again = λ h. law.again (of_way p.bells way) (of_way q.bells way) h;
    }
pair_law way act (OnBlock f) p q law =
    record {
      fits = law.fits (of_way p.blocks way);
      makes =
          ap (λ (b : Block). let pair : PairState = record p { blocks = with_way p.blocks way b } in pair)
          (law.makes (of_way p.blocks way));
      again = λ h. law.again (of_way p.blocks way) (of_way q.blocks way) h;
    }
pair_law way act (OnPlainLine f) p q law =
    record {
      fits = law.fits (of_way p.lines way);
      makes =
          ap (λ (l : List Passage). let pair : PairState = record p { lines = with_way p.lines way l } in pair)
          (law.makes (of_way p.lines way));
      again = λ h. law.again (of_way p.lines way) (of_way q.lines way) h;
    }

-- the law of a call of a box, by the kind that its reply tells
pub record CallLaw (way : Way) (act : Act) (d : Decision) (p q : PairState) : Type 0 where
  pub fits : FitsWord (kind_told (on_pair way d p).reply) way act (on_pair way d p).reply p
  pub makes : (on_pair way d p).word ≡ word_made (kind_told (on_pair way d p).reply) way act (on_pair way d p).reply p
  pub again : FitsWord (kind_told (on_pair way d p).reply) way act (on_pair way d p).reply q
      → Alike (on_pair way d q) (on_pair way d p)

-- a reply fits its word exactly where the law gives it there
pub call_law : (plan : PlanFields) (box_plan : BoxFields) (act : Act) (here : BoxState) (way : Way) (p q : PairState)
    → CallLaw way act (decide plan box_plan act here) p q
call_law plan box_plan act here way p q =
    let d : Decision = decide plan box_plan act here in
    let law = pair_law way act d p q (law_of plan box_plan here act d (outcome_of plan box_plan act here)) in
    let kind : kind_told (on_pair way d p).reply ≡ kind_of d =
    told_in_pair d way p (decision_tells plan box_plan act here) in
    record {
      fits = subst (λ (k : Kind). FitsWord k way act (on_pair way d p).reply p) (sym kind) law.fits;
      makes = law.makes ∙ ap (λ (k : Kind). word_made k way act (on_pair way d p).reply p) (sym kind);
      again = λ h. law.again (subst (λ (k : Kind). FitsWord k way act (on_pair way d p).reply q) kind h);
    }

-- so a call gets its reply again on another pair where that fits
pub serves : (plan : PlanFields) (box_plan : BoxFields) (act : Act) (here : BoxState) (way : Way) (p q : PairState)
    → GivesAgain way act (decide plan box_plan act here) p q
serves plan box_plan act here way p q =
    let d : Decision = decide plan box_plan act here in
    let law = call_law plan box_plan act here way p q in
    let back = call_law plan box_plan act here way q p in
    let fits : (on_pair way d q).reply ≡ (on_pair way d p).reply
    → FitsWord (kind_told (on_pair way d p).reply) way act (on_pair way d p).reply q =
    λ e. subst (λ (r : Reply). FitsWord (kind_told r) way act r q) e back.fits in
    record {
      again = (fits, λ h. (law.again h).0);
      here = λ e. (law.again (fits e)).1;
      word = law.makes;
    }

-- ---- at the ends

-- an entry that a box may do stands at its end
pub stands : (plan : PlanFields) (here : BoxState) (e : Entry) → IsPlan plan → MayDo plan here e → Stands plan e
stands plan here e is may =
    let box_plan = box_plan_of plan e.box_no in
    let link : Link = link_of box_plan e.call.act in
    let d : Decision = decided plan e.box_no e.call here in
    let kind : kind_told e.reply ≡ kind_of d =
    ap kind_told may.told ∙ told_in_pair d (way_of link) may.pair
    (decision_tells plan box_plan e.call.act (at_moment here e.call.moment)) in
    record {
      known = may.known;
      link =
          λ ne. link_there plan e.box_no e.call d link e.reply kind (known_link plan e.box_no e.call here is may.known)
          ne;
      end =
          subst (λ (r : Reply). IsReplyAt link r) (sym may.told) (reply_at link d may.pair
          (call_at_end plan box_plan e.call.act (at_moment here e.call.moment)));
    }
