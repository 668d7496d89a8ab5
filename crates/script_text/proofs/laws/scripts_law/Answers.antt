use Rattle.script_text.proofs.ScriptTexts.{printed_spells, spelled_script}
use Rattle.script_text.proofs.laws.scripts_law.Goals as goal

pub returns-clause-printed_spells : goal.returns-clause-printed_spells
returns-clause-printed_spells c = printed_spells

pub returns-clause-spelled : goal.returns-clause-spelled
returns-clause-spelled c = spelled_script
