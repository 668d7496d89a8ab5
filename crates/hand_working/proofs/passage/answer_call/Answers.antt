use Rattle.std.proofs.Common.{◌+◌, ◌≤◌, length, subst, sym}
use Rattle.hand_working.specs.Duties.{Doings, Post, doings_of, journal_at, post_of}
use Rattle.hand_working.proofs.Journals.{longer_by_call}
use Rattle.hand_working.proofs.passage.answer_call.Goals as goal

pub put_meanwhile-requires-clause-place : goal.put_meanwhile-requires-clause-place
put_meanwhile-requires-clause-place c =
    let post = post_of c.args.duty.now in
    let doings = doings_of c.args.duty.now in
    rw (c.journal-place.ensures, c.session.ensures)
    (subst (λ (p : Post). length (journal_at post doings) + 1 ≤ length (journal_at p (doings_of c.make.new.self)))
    (sym c.make.ensures.post)
    (subst (λ (d : Doings). length (journal_at post doings) + 1 ≤ length (journal_at post d))
    (sym c.in_ok-entry.ensures.made) (longer_by_call post doings c.args.call.now)))
