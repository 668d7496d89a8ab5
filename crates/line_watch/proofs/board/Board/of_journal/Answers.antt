use Rattle.std.proofs.Common.{rules, ◌≡◌, List, [], subst, sym}
use Rattle.std.proofs.lemmas.List.Elements.{All-nil, All-same}
use Rattle.line_law.specs.declared.call.Entry.{Entry}
use Rattle.line_watch.specs.declared.sight.Sight.{Sight}
use Rattle.line_watch.specs.Boards.{RoundFields, blank_round}
use Rattle.line_watch.specs.Shown.{IsRoundAfter}
use Rattle.line_watch.proofs.JournalRounds.{all_after, all_full, board_stands}
use Rattle.line_watch.proofs.board.Board.of_journal.Goals as goal

pub invariant_of-result : goal.invariant_of-result
invariant_of-result c = record {
  full = all_full c.args.plan.now c.len-boxes.result c.as_slice.result.now c.deref.result.now
      c.in_ok-rounds.rounds.items (search rules)
      (subst (λ (xs : List Sight). IsRoundAfter c.args.plan.now c.as_slice.result.now xs) (sym c.deref.ensures.value)
      c.in_ok-sights.ensures) c.in_ok-rounds.ensures.same;
  blank_left = All-same (λ (round : RoundFields). round ≡ blank_round c.len-boxes.result) c.new.result.items []
      c.new.ensures.items (All-nil (λ (round : RoundFields). round ≡ blank_round c.len-boxes.result));
  has_room = search rules;
  few = search rules;
}

pub returns-clause-whole : goal.returns-clause-whole
returns-clause-whole c =
    all_after c.args.plan.now c.args.journal.now.entries c.deref.result.now c.in_ok-rounds.rounds.items
    (subst (λ (xs : List Sight). IsRoundAfter c.args.plan.now c.args.journal.now.entries xs) (sym c.deref.ensures.value)
    (subst (λ (es : List Entry). IsRoundAfter c.args.plan.now es c.in_ok-sights.sights.items) c.as_slice.ensures
    c.in_ok-sights.ensures)) c.in_ok-rounds.ensures.same

pub returns-clause-shown : goal.returns-clause-shown
returns-clause-shown c = board_stands c.args.plan.now c.args.journal.now.entries _ (returns-clause-whole c)
