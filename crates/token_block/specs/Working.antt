-- A list of calls, worked by the two men of a line in its order.
use Rattle.std.specs.Prelude.{◌≡◌, ℕ, ◌≤◌, List, length}
use Rattle.atomic_table.specs.Seated.{TableId}
use Rattle.token_law.specs.declared.calls.TokenCall.{TokenCall}
use Rattle.token_law.specs.declared.calls.TokenEntry.{TokenEntry}
use Rattle.token_law.specs.History.{told_from, token_state_of}
use Rattle.token_law.specs.States.{opening_tokens, out_by}
use Rattle.token_block.specs.declared.view.Tokens.{Tokens}
use Rattle.token_block.specs.declared.working.WorkedCalls.{WorkedCalls}
use Rattle.token_block.specs.Men.{IsOf, Man}

-- the men of the boxes 0 and 1 of that line, who have both seen just what was done, and made no more calls than that
pub record AreTogether (table_id : TableId) (tokens : Tokens) (done : List TokenEntry) (one other : Man)
    : Type 0 where
  pub one_of : IsOf table_id tokens one
  pub other_of : IsOf table_id tokens other
  pub one_box : one.box_no ≡ 0
  pub other_box : other.box_no ≡ 1
  pub one_seen : one.view.seen ≡ done
  pub other_seen : other.view.seen ≡ done
  pub one_calls : one.calls ≤ length done
  pub other_calls : other.calls ≤ length done

-- the calls with the law's replies, and then the tokens in both instruments and one that is out
pub record IsWorked (at_0 at_1 : ℕ) (calls : List TokenCall) (worked : WorkedCalls) : Type 0 where
  pub entries : worked.entries.items ≡ told_from (opening_tokens at_0 at_1) calls
  pub tokens_0 : worked.at_0 ≡ (token_state_of at_0 at_1 worked.entries.items).at_0
  pub tokens_1 : worked.at_1 ≡ (token_state_of at_0 at_1 worked.entries.items).at_1
  pub out : worked.out ≡ out_by (token_state_of at_0 at_1 worked.entries.items).shown
