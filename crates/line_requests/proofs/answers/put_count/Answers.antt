use Rattle.std.proofs.Common.{refl}
use Rattle.line_requests.proofs.Plain.{count_spelled}
use Rattle.line_requests.proofs.answers.put_count.Goals as goal

pub returns : goal.returns
returns c =
    count_spelled c.args.count _ c.ranges.count.fits
    (rw (c.put_there-3.ensures.put, c.put_there-2.ensures.put, c.put_there.ensures.put) rw (c.requires.empty)
    rw (c.format.ensures.text) refl)
