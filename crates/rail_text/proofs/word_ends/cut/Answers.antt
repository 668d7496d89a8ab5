use Rattle.std.proofs.Common.{rules, length, ◌≡◌}
use Rattle.rail_text.proofs.Cuts.{cut_none}
use Rattle.rail_text.proofs.word_ends.cut.Goals as goal

pub cut_chunks-requires-clause-cut : goal.cut_chunks-requires-clause-cut
cut_chunks-requires-clause-cut c =
    let room : length c.args.ends.now.at ≡ 16 = search rules in
    cut_none c.args.text.now _ c.none-cutting.result.spaces c.none-cutting.result.start c.none-cutting.result.gap room
    c.none-cutting.ensures.spaces c.none-cutting.ensures.start c.none-cutting.ensures.gap

pub cut_bytes-requires : goal.cut_bytes-requires
cut_bytes-requires c =
    let room : length c.args.ends.now.at ≡ 16 = search rules in
    cut_none c.args.text.now _ c.none-cutting.result.spaces c.none-cutting.result.start c.none-cutting.result.gap room
    c.none-cutting.ensures.spaces c.none-cutting.ensures.start c.none-cutting.ensures.gap
