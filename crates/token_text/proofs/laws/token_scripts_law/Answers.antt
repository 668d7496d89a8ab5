use Rattle.token_text.proofs.ScriptTexts.{every_spelling, printed_script, printed_spells, spelled_script}
use Rattle.token_text.proofs.laws.token_scripts_law.Goals as goal

pub returns-clause-printed : goal.returns-clause-printed
returns-clause-printed c = printed_script

pub returns-clause-printed_spells : goal.returns-clause-printed_spells
returns-clause-printed_spells c = printed_spells

pub returns-clause-spelled : goal.returns-clause-spelled
returns-clause-spelled c = spelled_script

pub returns-clause-spellings : goal.returns-clause-spellings
returns-clause-spellings c = every_spelling
