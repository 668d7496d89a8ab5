use Rattle.std.proofs.Common.{◌+◌, get_or}
use Rattle.rail_text.proofs.ChunkBits.{space_bits}
use Rattle.rail_text.proofs.chunks.spaces_of.Goals as goal

pub returns : goal.returns
returns c k =
    space_bits c.chunk.result k (get_or c.args.text.now (c.args.from + k) 0) c.chunk.ensures.len
    (c.chunk.ensures.each k)
