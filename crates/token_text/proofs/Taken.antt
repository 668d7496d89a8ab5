-- A fetch of one byte more than the limit is enough.
use Rattle.std.proofs.Common.{◌≡◌, ℕ, ◌+◌, List, Result, Ok, ap, take}
use Rattle.rail_text.proofs.Limits.{limited-take}
use Rattle.rail_text.specs.Gives.{◌>>=◌, Fault}
use Rattle.rail_text.specs.Texts.{lines_onto, text_onto}
use Rattle.rail_text.specs.Lines.{lines_of}
use Rattle.token_text.specs.Drafts.{TokenDraftFields, start}
use Rattle.token_text.specs.Limits.{most_script_bytes}
use Rattle.token_text.specs.Scripts.{has_ended, script_from, token_script_of, words_onto}

-- reading a token script gives the same of its first bytes, as many as a script may have and one more
pub token_script_of-take : (bytes : List ℕ)
    → token_script_of (take (most_script_bytes + 1) bytes) ≡ token_script_of bytes
unfolding token_script_of text_onto
token_script_of-take bytes =
    ap (λ (r : Result TokenDraftFields Fault). r >>= (λ draft. Ok (script_from draft)))
    (limited-take most_script_bytes _
    (λ bs. lines_onto words_onto (λ draft. has_ended draft.stage) 1 start (lines_of bs))
    bytes)
