-- The token script as far as its text is read.
use Rattle.std.specs.Prelude.{◌≡◌, ℕ, List, []}
use Rattle.token_law.specs.declared.calls.TokenCall.{TokenCall}
use Rattle.token_text.specs.declared.draft.Stage.{Stage}
use Rattle.token_text.specs.declared.draft.Stage.TheVariants as stages

-- which line may come next, the tokens at each box, and the calls so far
pub record TokenDraftFields : Type 0 where
  pub stage : Stage
  pub at_0 : ℕ
  pub at_1 : ℕ
  pub calls : List TokenCall

-- nothing is read yet
abbrev pub start : TokenDraftFields
start = record { stage = stages.Version; at_0 = 0; at_1 = 0; calls = [] }

-- want of memory comes only among the calls, and leaves what was read as it was
abbrev pub IsLeft : TokenDraftFields → TokenDraftFields → Type 0
IsLeft old new = (old.stage ≡ stages.Calls) × (new ≡ old)
