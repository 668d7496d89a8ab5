use Rattle.std.proofs.Common.{◌+◌, get_or}
use Rattle.rail_text.proofs.ChunkBits.{odd_bits}
use Rattle.rail_text.proofs.chunks.odd_in.Goals as goal

pub returns : goal.returns
returns c k =
    odd_bits c.chunk-bytes.result k (get_or c.args.text.now (c.args.from + k) 0) c.chunk-bytes.ensures.len
    (c.chunk-bytes.ensures.each k)
