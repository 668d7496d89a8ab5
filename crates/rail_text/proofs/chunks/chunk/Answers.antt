use Rattle.std.proofs.lemmas.Simd.{get_or-chunk}
use Rattle.rail_text.proofs.chunks.chunk.Goals as goal

pub returns-clause-each : goal.returns-clause-each
returns-clause-each c k lt = get_or-chunk c.args.from 16 c.args.text.now k 0 lt
