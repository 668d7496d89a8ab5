-- A refusal is explained under some name.
use Rattle.std.proofs.Common.{ℕ, List}
use Rattle.text_fetch.specs.FromTexts.{Held}
use Rattle.explained_texts.specs.Others.{IsExplainedByName}
use Rattle.explained_texts.specs.Troubles.{IsExplainedAt}
use Rattle.explained_texts.specs.declared.trouble.Trouble.{Trouble}
use Rattle.explained_texts.specs.declared.trouble.Trouble.TheVariants as troubles

-- what is explained of text n is explained under its name
pub by_name : (held : Held) (n : ℕ) (name : List ℕ) (trouble : Trouble) → IsExplainedAt held n name trouble
    → IsExplainedByName held trouble
by_name held n name (troubles.Untaken line) h = tt
by_name held n name (troubles.Refused text line cause told) h = (name, h.1)
by_name held n name troubles.NoMemory h = tt
