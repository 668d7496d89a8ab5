-- Which texts spell a call, which a reply, and which a script: relations on whole texts.
use Rattle.std.specs.Prelude.{◌≡◌, ◌≤◌, ℕ, true, IsTrue, List, [], ◌∷◌, ◌++◌, length, map, codes}
use Rattle.std.specs.List.{list_all}
use Rattle.rail_text.specs.Lines.{lines_of}
use Rattle.line_plan.specs.Plans.{PlanFields, box_name}
use Rattle.rail_text.specs.Kept.{is_formed, kept, words_text}
use Rattle.line_law.specs.Known.{KnowsCall}
use Rattle.line_law.specs.declared.call.Act.{Act}
use Rattle.line_law.specs.declared.call.Call.{Call}
use Rattle.line_law.specs.declared.call.Reply.{Reply}
use Rattle.script_text.specs.declared.script.Script.{Script}
use Rattle.script_text.specs.Calls.{call_text}
use Rattle.script_text.specs.Limits.{most_script_bytes}
use Rattle.script_text.specs.Replies.{is_spelled_reply, reply_text}
use Rattle.script_text.specs.PossibleReplies.{may_answer}
use Rattle.script_text.specs.Scripts.{IsScriptOf}

-- The plan knows the call for box b, and the text is the call as it is printed.
pub record SpellsCall (plan : PlanFields) (b : ℕ) (text : List ℕ) (call : Call) : Type 0 where
  pub known : KnowsCall plan b call
  pub printed : text ≡ call_text plan call

-- The reply is one that such a call of box b may have, some text spells it, and this text is it as it is printed.
pub record SpellsReply (plan : PlanFields) (b : ℕ) (act : Act) (text : List ℕ) (reply : Reply) : Type 0 where
  pub answers : IsTrue (may_answer act reply)
  pub spelled : IsTrue (is_spelled_reply plan b reply)
  pub printed : text ≡ reply_text plan b reply

-- the lines of a script
unfoldable pub script_lines : PlanFields → Script → List (List ℕ)
script_lines plan script =
    words_text (codes "script") (box_name plan script.box_no)
    ∷ (map (λ call. call_text plan call) script.calls ++ codes "end" ∷ [])

-- The text of a script of box b: it keeps within its limit, each line has its form, and the lines that aren't skipped
-- are those of the script.
pub record SpellsScript (plan : PlanFields) (b : ℕ) (bytes : List ℕ) (script : Script) : Type 0 where
  pub of_box : IsScriptOf plan b script
  pub short : length bytes ≤ most_script_bytes
  pub formed : list_all is_formed (lines_of bytes) ≡ true
  pub lines : kept (lines_of bytes) ≡ script_lines plan script
