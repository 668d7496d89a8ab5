use Rattle.token_block.proofs.Together.{Told, tokens_told}
use Rattle.token_block.proofs.working.work_with_men.Goals as goal

-- what the men tell
told : (c : goal.After-tokens-at_1) → Told c.args.line.now.table.shared.key c.in_ok-entries.entries.items
    c.tokens-at_0.result c.tokens-at_1.result c.args.all
told c =
    let line = c.args.line.now.table.shared in
    let at = c.in_ok-entries.ensures.together in
    tokens_told line.table_id line.key c.in_ok-entries.entries.items c.perform_calls.new.one c.perform_calls.new.other
    c.args.calls.now c.tokens-at_0.result c.tokens-at_1.result c.args.all at c.in_ok-entries.ensures.entries
    c.requires.calls (c.tokens-at_0.ensures line.key at.one_of.1) (c.tokens-at_1.ensures line.key at.other_of.1)
    c.requires.all

pub overflow_sub-result : goal.overflow_sub-result
overflow_sub-result c = (told c).few

pub overflow_sub-result-2 : goal.overflow_sub-result-2
overflow_sub-result-2 c = (told c).rest

pub returns : goal.returns
returns c = let t = told c in
    record { entries = c.in_ok-entries.ensures.entries; tokens_0 = t.first; tokens_1 = t.second; out = t.out }
