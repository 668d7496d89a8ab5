use Rattle.explained_texts.specs.Troubles.{told_of}
use Rattle.signalbox_top.proofs.rehearsing.serve_rehearse.Goals as goal

pub returns-in-Err-clause-fault : goal.returns-in-Err-clause-fault
returns-in-Err-clause-fault g c failed n fault refuses =
    let trouble = c.in-Err.ensures.trouble in
    (told_of c.in-Err.trouble, (trouble.fault n fault refuses, c.tell_trouble.ensures.line trouble.some))
