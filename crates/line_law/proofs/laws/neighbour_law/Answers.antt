use Rattle.line_law.proofs.Sides.{call_within, known_box, known_link, known_parts, out_leaves}
use Rattle.line_law.proofs.laws.neighbour_law.Goals as goal

pub returns-clause-box_no : goal.returns-clause-box_no
returns-clause-box_no c = known_box

pub returns-clause-pair : goal.returns-clause-pair
returns-clause-pair c = λ plan b call is known. (call_within plan b call is known).pair

pub returns-clause-link : goal.returns-clause-link
returns-clause-link c = known_link

pub returns-clause-outgoing : goal.returns-clause-outgoing
returns-clause-outgoing c = λ plan b call way is known out.
    let parts = known_parts plan b call known in out_leaves plan b call.act way is parts.box parts.act out
