use Rattle.token_block.proofs.Keeps.{opens}
use Rattle.token_block.proofs.post.open_words.Goals as goal

pub of_words-requires : goal.of_words-requires
of_words-requires c = opens (record { at_0 = c.args.at_0; at_1 = c.args.at_1 })
