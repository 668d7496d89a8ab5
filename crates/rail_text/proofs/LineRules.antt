use Rattle.rail_text.proofs.LineLemmas.{lines-cut, lines-last, cut-fewer, words-cut, length-words_of}

pub ruleset line_rules = (lines-cut, lines-last, cut-fewer)

pub ruleset word_rules = (words-cut)

pub ruleset count_rules = (length-words_of)
