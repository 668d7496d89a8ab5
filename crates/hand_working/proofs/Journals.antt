-- The journal of the line, call by call.
use Rattle.std.proofs.Common.{◌≡◌, ℕ, ◌+◌, ◌≤◌, ◌++◌, ◌∷◌, List, length, drop, max, arith, ap, refl, sym, ◌∙◌, []}
use Rattle.std.proofs.Math.Seq.{drop-append-add}
use Rattle.std.proofs.lemmas.List.{length-append}
use Rattle.line_law.specs.declared.call.Call.{Call}
use Rattle.line_law.specs.declared.call.Entry.{Entry}
use Rattle.line_law.specs.Law.{step}
use Rattle.line_rehearsal.specs.Rehearsals.{left_after}
use Rattle.box_session.specs.Others.{call_from, others_from}
use Rattle.box_session.specs.Sessions.{last_moment}
use Rattle.box_session.proofs.Journals.{session_grows}
use Rattle.hand_working.specs.Duties.{AreDoings, Doings, Post, journal_at, last_or, state_at, taken_back, with_made}
use Rattle.hand_working.specs.Duties.{without_last}
use Rattle.hand_working.specs.Passages.{behind_call, entry_at}
use Rattle.hand_working.proofs.Doings.{last_gone, last_there}

-- what the others do behind a call of his
then_others : Post → Doings → Call → List Entry
then_others post doings call =
    others_from post.plan (step post.plan (state_at post doings) post.box_no call).after
    (left_after post.scripts (journal_at post doings))

-- the journal behind a call of his
made_journal : (post : Post) (doings : Doings) (call : Call)
    → journal_at post (with_made doings call)
    ≡ journal_at post doings ++ entry_at post doings call ∷ then_others post doings call
unfolding call_from then_others
made_journal post doings call = session_grows post.plan post.scripts post.box_no doings.calls call

-- a call that he makes stands in the journal behind all that was there, and behind it what the others do
pub shown_law : (post : Post) (doings : Doings) (call : Call) → journal_at post (with_made doings call)
    ≡ journal_at post doings ++ entry_at post doings call ∷ behind_call post doings call
shown_law post doings call =
    let grown = made_journal post doings call in
    let rest : behind_call post doings call ≡ then_others post doings call =
    ap (drop (length (journal_at post doings) + 1)) grown
    ∙ drop-append-add (journal_at post doings) (entry_at post doings call ∷ then_others post doings call) 1 in
    grown ∙ ap (λ (es : List Entry). journal_at post doings ++ entry_at post doings call ∷ es) (sym rest)

-- so the journal is longer by one at least
pub longer_by_call : (post : Post) (doings : Doings) (call : Call)
    → length (journal_at post doings) + 1 ≤ length (journal_at post (with_made doings call))
longer_by_call post doings call =
    let long = length-append (journal_at post doings) (entry_at post doings call ∷ then_others post doings call) in
    rw (made_journal post doings call) (omega (arith, long))

-- a call that is taken back leaves what he had done before it
pub undone_law : (version : ℕ) (doings : Doings) (call : Call) → AreDoings version doings
    → taken_back (with_made doings call) ≡ doings
undone_law version doings call h =
    let moment : max (last_or call.moment (doings.befores ++ doings.moment ∷ []))
    (last_moment (without_last (doings.calls ++ call ∷ []))) ≡ doings.moment =
    rw (last_there call.moment doings.befores doings.moment, last_gone doings.calls call) (omega (arith, h.later))
    in
    rw (moment, last_gone doings.calls call, last_gone doings.befores doings.moment) refl
