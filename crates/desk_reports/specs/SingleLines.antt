-- What `token` makes of the text that its words name.
use Rattle.std.specs.Prelude.{◌≡◌, ℕ, List}
use Rattle.token_law.specs.declared.calls.TokenEntry.{TokenEntry}
use Rattle.token_law.specs.History.{told_from, token_state_of}
use Rattle.token_law.specs.States.{opening_tokens}
use Rattle.token_text.specs.Outputs.{token_history_text}
use Rattle.token_text.specs.Scripts.{IsTokenScript, TokenScriptFields, token_script_of}
use Rattle.text_fetch.specs.FromTexts.{Held, FromTexts, Gives, told_then, text_told}

-- the token script that the text of this name spells
abbrev pub token_script_told : Held → List ℕ → FromTexts TokenScriptFields
token_script_told held name = text_told 1 token_script_of (held name)

-- the history that the calls of a script make, each with the law's reply
abbrev pub history_of : TokenScriptFields → List TokenEntry
history_of script = told_from (opening_tokens script.at_0 script.at_1) script.calls

-- what is printed of a script: its calls with their replies, and what then stands in the instruments
abbrev pub worked_text : TokenScriptFields → List ℕ
worked_text script =
    token_history_text (history_of script) (token_state_of script.at_0 script.at_1 (history_of script))

-- what is printed of the script of this name
abbrev pub tokens_told : Held → List ℕ → FromTexts (List ℕ)
tokens_told held name = told_then (token_script_told held name) (λ script. Gives (worked_text script))

-- a script that is told keeps to the limits of one, and its calls may be made
abbrev pub HasTokenScript : FromTexts TokenScriptFields → Type 0
HasTokenScript told = (script : TokenScriptFields) → told ≡ Gives script → IsTokenScript script
