-- What is printed of a token script that is worked.
use Rattle.std.proofs.Common.{◌≡◌, ℕ, List, sym, ap, subst, ◌∙◌}
use Rattle.token_law.specs.declared.calls.TokenEntry.{TokenEntry}
use Rattle.token_law.specs.History.{token_state_of}
use Rattle.token_law.specs.States.{TokenState}
use Rattle.token_block.specs.declared.working.WorkedCalls.{WorkedCalls}
use Rattle.token_block.specs.Working.{IsWorked}
use Rattle.token_text.specs.Outputs.{token_history_text, token_output}
use Rattle.token_text.specs.Scripts.{IsTokenScript, TokenScriptFields}
use Rattle.text_fetch.specs.FromTexts.{FromTexts, Untold, Gives, Refuses, IsGiven}
use Rattle.desk_reports.specs.SingleLines.{HasTokenScript, worked_text}

-- the calls as they were worked are the history of the script, and the tokens are those of its last state
pub worked_is : (script : TokenScriptFields) (worked : WorkedCalls)
    → IsWorked script.at_0 script.at_1 script.calls worked
    → token_output worked.entries.items worked.at_0 worked.at_1 worked.out ≡ worked_text script
worked_is script worked is =
    let es = worked.entries.items in
    let state : TokenState = token_state_of script.at_0 script.at_1 es in
    ap (λ (n : ℕ). token_output es n worked.at_1 worked.out) is.tokens_0
    ∙ ap (λ (n : ℕ). token_output es state.at_0 n worked.out) is.tokens_1
    ∙ ap (λ (n : ℕ). token_output es state.at_0 state.at_1 n) is.out
    ∙ ap (λ (all : List TokenEntry). token_history_text all (token_state_of script.at_0 script.at_1 all)) is.entries

-- a script that is given, and keeps to the limits of one, is the one that is told
pub given_is : (script : TokenScriptFields) (told : FromTexts TokenScriptFields) → IsGiven script told
    → IsTokenScript script → HasTokenScript told
given_is script Untold given is = λ other e. absurd cc
given_is script (Gives read) given is = λ other e.
    let same : read ≡ other = cc in
    subst IsTokenScript (sym given ∙ same) is
given_is script (Refuses n fault) given is = λ other e. absurd cc
