-- Which texts spell a token script: a relation on whole texts.
use Rattle.std.specs.Prelude.{◌≡◌, ◌≤◌, ℕ, true, List, [], ◌∷◌, ◌++◌, length, map, codes, decimal}
use Rattle.std.specs.List.{list_all, flat_map, join_with_byte}
use Rattle.rail_text.specs.Kept.{is_formed, kept}
use Rattle.rail_text.specs.Lines.{lines_of, printed_line}
use Rattle.token_law.specs.declared.calls.TokenAct.{TokenAct}
use Rattle.token_law.specs.declared.calls.TokenAct.TheVariants as acts
use Rattle.token_law.specs.declared.calls.TokenCall.{TokenCall}
use Rattle.token_text.specs.Acts.{token_call_text}
use Rattle.token_text.specs.Limits.{last_train, most_script_bytes}
use Rattle.token_text.specs.Scripts.{IsTokenScript, TokenScriptFields}

-- a train, where one is named, has a number that a script may name
abbrev pub MayName : TokenAct → Type 0
MayName acts.Give = Unit {0}
MayName acts.Withdraw = Unit {0}
MayName (acts.Draw train) = train ≤ last_train
MayName acts.Depart = Unit {0}
MayName acts.Arrive = Unit {0}
MayName acts.Replace = Unit {0}
MayName acts.Look = Unit {0}

-- each of the calls names such a train, if it names one
abbrev pub MayNameAll : List TokenCall → Type 0
MayNameAll [] = Unit {0}
MayNameAll (call ∷ calls) = MayName call.act × MayNameAll calls

-- the line of the tokens at each box at the opening
abbrev pub opening_text : ℕ → ℕ → List ℕ
opening_text at_0 at_1 = join_with_byte 32 (codes "tokens" ∷ decimal at_0 ∷ decimal at_1 ∷ [])

-- the lines of calls
abbrev pub call_lines : List TokenCall → List (List ℕ)
call_lines calls = map token_call_text calls

-- the lines of a token script
unfoldable pub token_script_lines : TokenScriptFields → List (List ℕ)
token_script_lines script =
    codes "token 1" ∷ opening_text script.at_0 script.at_1 ∷ (call_lines script.calls ++ codes "end" ∷ [])

-- a token script as it is printed: each line with its end
abbrev pub token_script_text : TokenScriptFields → List ℕ
token_script_text script = flat_map printed_line (token_script_lines script)

-- The text of a token script: it keeps within its limit, each line has its form, and the lines that aren't skipped are
-- those of the script.
pub record SpellsTokenScript (bytes : List ℕ) (script : TokenScriptFields) : Type 0 where
  pub is : IsTokenScript script
  pub named : MayNameAll script.calls
  pub short : length bytes ≤ most_script_bytes
  pub formed : list_all is_formed (lines_of bytes) ≡ true
  pub lines : kept (lines_of bytes) ≡ token_script_lines script
