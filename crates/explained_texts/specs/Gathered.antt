-- The texts of the scripts of a run, as they were fetched.
use Rattle.std.specs.Prelude.{◌≡◌, ℕ, ◌+◌, ◌≤◌, List, All, length}
use Rattle.std.specs.Global.{Vec}
use Rattle.script_text.specs.Scripts.{most_script_bytes}
use Rattle.text_fetch.specs.Fetches.{AreFetched}
use Rattle.text_fetch.specs.FromTexts.{Held}

-- the texts that were fetched under these names, one for each, none of more bytes than are read and one
pub record AreTextsOf (held : Held) (names : List (List ℕ)) (texts : List (Vec ℕ)) : Type 0 where
  pub each : length texts ≡ length names
  pub fetched : AreFetched held names texts
  pub few : All (λ text. length text.items ≤ most_script_bytes + 1) texts
