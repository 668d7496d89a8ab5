use Rattle.std.proofs.Common.{◌≡◌, ℕ, List, Some, get_or, subst, arith}
use Rattle.std.proofs.lemmas.List.{get_or_read}
use Rattle.line_law.specs.Serial.{calls_left}
use Rattle.line_rehearsal.proofs.UnderWay.{few_made}
use Rattle.serial_working.specs.Rosters.{calls_of_scripts, head_of, left_of}
use Rattle.rehearsal_report.proofs.Standing.{stopped_known}
use Rattle.rehearsal_report.proofs.standings.standing_at.Goals as goal
use Rattle.rehearsal_report.specs.Accounts.{left_in}

pub overflow_add-result : goal.overflow_add-result
overflow_add-result c =
    let scripts = c.args.account.now.scripts.now in
    let rehearsal = c.args.account.now.rehearsal.now in
    let b = c.args.box_no in
    let call = c.in-Some-next_call.call.now in
    let way = c.requires.account.way in
    let next : Some call ≡ head_of (calls_left (left_of (calls_of_scripts scripts) rehearsal.made.items) b) =
    subst (λ (made : List ℕ). Some call ≡ head_of (calls_left (left_of (calls_of_scripts scripts) made) b))
    c.deref.ensures.value c.in-Some-next_call.ensures in
    let few =
    few_made c.args.account.now.plan.now scripts rehearsal.made.items rehearsal.line b call way c.requires.box_no
    next in
    let read =
    get_or_read rehearsal.made.items b c.index.result.now (omega (arith, way.counts, c.requires.box_no))
    c.index.ensures 0 in
    omega (arith, few, read)

pub returns-in-Some-clause-known : goal.returns-in-Some-clause-known
returns-in-Some-clause-known c =
    let rehearsal = c.args.account.now.rehearsal.now in
    stopped_known c.args.account.now.plan.now rehearsal.line.line c.args.box_no
    (get_or rehearsal.made.items c.args.box_no 0)
    (calls_left (left_in c.args.account.now.scripts.now rehearsal) c.args.box_no) c.in-Some.stop c.in-Some.ensures
    (c.requires.account.next c.args.box_no)
